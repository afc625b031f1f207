-- What an opening did with the list of places of its file.
use Rattle.std.specs.Prelude.{List, [], ◌∷◌}
use Rattle.device.specs.declared.places.PlaceNote.{PlaceNote}
use Rattle.device.specs.declared.places.Noted.{Noted, Nothing, After'}

-- the notes, the newest first
abbrev pub notes_in : Noted → List PlaceNote
notes_in Nothing = []
notes_in (After' note snapshot earlier) = note ∷ notes_in earlier
