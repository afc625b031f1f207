-- What one key has, for a command that runs on it alone.
use Rattle.std.specs.Prelude.{◌∷◌, Option, []}
use Rattle.strings.specs.declared.overlay.Overlay.{Overlay}
use Rattle.words.specs.Store.{Bytes}

-- an overlay of one key, which has this value, without a write
abbrev pub of_one_key : Bytes → Option Bytes → Overlay
of_one_key key value = record { found = (key, value) ∷ []; writes = [] }
