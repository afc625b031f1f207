-- The pages of a stripe, as notes speak of them: numbers alone.
use Rattle.std.specs.Prelude.{◌≡◌, ◌⊎◌, ℕ, ◌+◌, ◌-◌, ◌/◌, ◌^◌, ◌<◌, ◌≤◌, Bool, true, false, List, [], ◌∷◌, slice_index_or}

-- a place on the device that was taken, by what its receipt has in common with its copies
abbrev pub Place : Type 0
Place = List ℕ

pub record Pages : Type 0 where
  -- the oldest page, the first resident page, the tail page
  pub oldest : ℕ
  pub first : ℕ
  pub tail : ℕ
  pub frames : ℕ
  -- of the pages from the oldest to the tail page, whether a receipt is kept
  pub receipts : List Bool
  -- places on the device whose page left the log, was retired, was drained
  pub unlinked : ℕ
  pub retired : ℕ
  pub drained : ℕ
  -- which places are unlinked, the oldest first
  pub waits : List Place
  -- which places are retired, the oldest first, each with how often a word that was read blocked its drain
  pub refused : List (Place × ℕ)
  -- whether a retirement was refused: the epoch word was read as worn out, which it stays
  pub worn : Bool
  -- places that were taken and not released, and the most of them
  pub unreleased : ℕ
  pub places : ℕ

-- whether a receipt is kept of the page with this number
abbrev pub has_receipt : Pages → ℕ → Bool
has_receipt p number = slice_index_or p.receipts (number - p.oldest) false

-- a page is read-only, resident and has no receipt: it waits for the flusher
pub record IsSealed (p : Pages) (number : ℕ) : Type 0 where
  pub from : p.first ≤ number
  pub below : number + p.frames / 3 < p.tail + 1
  pub none : has_receipt p number ≡ false

-- no place may be taken on the device, or no page may be opened
abbrev pub IsFull : Pages → Type 0
IsFull p = (p.unreleased ≡ p.places) ⊎ (2 ^ 46 ≤ p.tail)

-- how often words that were read blocked the drains of these, all together
abbrev pub total : List (Place × ℕ) → ℕ
total [] = 0
total (one ∷ rest) = one.1 + total rest

abbrev pub count_true : List Bool → ℕ
count_true [] = 0
count_true (true ∷ rest) = 1 + count_true rest
count_true (false ∷ rest) = count_true rest
