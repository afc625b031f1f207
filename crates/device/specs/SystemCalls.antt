-- What the system was asked of a file of pages, and what came of it.
use Rattle.std.specs.Prelude.{ℕ, List, [], ◌∷◌, Bool}
use Rattle.device.specs.declared.system.Asked.{Asked, Nothing, Write', Read', ReadPiece'}

-- one call of the system, or two for a page that is written of which the last bytes are zeros that lie elsewhere: from which byte of the file
-- on, the page, and whether all of it was done
pub data SystemCall : Type 0 where
  Write : (at : ℕ) (page : List ℕ) (done : Bool) → SystemCall  -- the page was to be written there
  Read : (at : ℕ) (page : List ℕ) (done : Bool) → SystemCall  -- a page was to be read from there; these are the bytes that were then there for it
  ReadPiece : (at from to : ℕ) (page : List ℕ) (done : Bool) → SystemCall  -- only its bytes between two places were to be read

-- the calls, the newest first
abbrev pub calls_in : Asked → List SystemCall
calls_in Nothing = []
calls_in (Write' at page done snapshot earlier) = Write at page.value done ∷ calls_in earlier
calls_in (Read' at page done snapshot earlier) = Read at page.value done ∷ calls_in earlier
calls_in (ReadPiece' at from to page done snapshot earlier) = ReadPiece at from to page.value done ∷ calls_in earlier
