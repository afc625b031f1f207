-- What a walk over a reply gives to a sink.
use Rattle.std.specs.Prelude.{ℕ, List, ⊤, Result, Ok, Err}

-- A text's giving to a sink, by what the sink says of a text that it took and of one within which it stopped: it took the text, or it
-- stopped within it.
abbrev pub IsGiven : {S E : Type 0} → (takes stops : S → S → List ℕ → Type 0) → S → S → Result ⊤ E → List ℕ → Type 0
IsGiven takes stops old new (Ok done) text = takes old new text
IsGiven takes stops old new (Err fault) text = stops old new text
