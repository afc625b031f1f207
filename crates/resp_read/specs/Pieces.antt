-- The pieces in which the bytes of a client came.
use Rattle.std.specs.Prelude.{ℕ, zero, suc, ◌≡◌, ◌-◌, ◌<◌, nat_le, List, [], ◌∷◌, ◌++◌, length, drop, if◌then◌else◌}
use Rattle.words.specs.Store.{Bytes}

-- the bytes of the pieces, joined in order
abbrev pub joined : List Bytes → Bytes
joined [] = []
joined (piece ∷ pieces) = piece ++ joined pieces

-- a piece as a list of pieces, where an empty one is none
abbrev pub as_piece : Bytes → List Bytes
as_piece [] = []
as_piece (byte ∷ bytes) = (byte ∷ bytes) ∷ []

-- no piece is empty
abbrev pub AreFilled : List Bytes → Type 0
AreFilled [] = Unit {0}
AreFilled (piece ∷ pieces) = (0 < length piece) × AreFilled pieces

-- the pieces without so many bytes at the front; a piece with no bytes left is not kept
abbrev pub without : ℕ → List Bytes → List Bytes
without zero pieces = pieces
without (suc n) [] = []
without (suc n) (piece ∷ pieces) = if nat_le (length piece) (suc n) then without (suc n - length piece) pieces else drop (suc n) piece ∷ pieces

-- the oldest piece, those after it, and how many bytes they have together; where the oldest is empty there is none
pub record ArePieces (oldest : Bytes) (later : List Bytes) (held : ℕ) : Type 0 where
  pub none : length oldest ≡ 0 → later ≡ []
  pub filled : AreFilled later
  pub together : held ≡ length (oldest ++ joined later)
