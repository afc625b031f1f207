-- The rule of the epochs: what is shared, what each seat knows, and what holds of both between any two steps.
use Rattle.std.specs.Prelude.{◌≡◌, ◌≢◌, ℕ, ◌+◌, ◌*◌, ◌^◌, ◌<◌, ◌≤◌, List, [], ◌∷◌, true, cond, nat_eq, length, slice_index}
use mathlib.Core.Option.{some}
use lib.ListN.{get_elem?}
use Rattle.atomic_table.specs.Table.{State}
use Rattle.epoch.specs.declared.view.View.{View}
use Rattle.epoch.specs.Clear.{Clear}

-- The table's words: the epoch word, and then a word for each seat, each on cache lines of its own.
abbrev pub epoch_word : ℕ
epoch_word = 0

abbrev pub word_of : ℕ → ℕ
word_of number = 16 * (number + 1)

-- A stay is valid at e: the seat's own word is set to e, and the epoch word was read as e since. (FASTER: the thread has refreshed its
-- local epoch.)
abbrev pub IsStay : View → ℕ → Type 0
IsStay v e = (v.valid ≡ true) × (v.own ≡ e)

-- a stay of one of the seats is valid at e
abbrev pub StayAt : List View → ℕ → Type 0
StayAt views e = (seat : ℕ) × (v : View) × (get_elem? views seat ≡ some v) × IsStay v e

-- each epoch below a bound is clear, as far as the stays of the seats below a number go
abbrev pub ClearBelow : (epoch bound number : ℕ) → List View → Type 0
ClearBelow epoch bound number views =
    (bound ≤ epoch) × ((seat : ℕ) (u : View) → get_elem? views seat ≡ some u → u.valid ≡ true → u.first < number → bound ≤ u.own)

-- a view stands for the seat of a number
abbrev pub Stands : View → ℕ → Type 0
Stands v number = (v.first ≤ number) × (number < v.first + v.count)

-- 1 for a seat that may add to the epoch word, else 0
abbrev pub armed_by : View → ℕ
armed_by v = cond v.armed 1 0

-- for how many seats a view stands
abbrev pub count_of : View → ℕ
count_of v = v.count

-- how often a view's seat has advanced the epoch; what stands for no seat only knows of advances
abbrev pub advances_of : View → ℕ
advances_of v = cond (nat_eq v.count 0) 0 (length v.advanced)

-- a sum over all views
abbrev pub total : {V : Type 0} → (V → ℕ) → List V → ℕ
total f [] = 0
total f (v ∷ views) = f v + total f views

-- each number of the list is below this one
abbrev pub AreBelow : ℕ → List ℕ → Type 0
AreBelow n [] = Unit {0}
AreBelow n (x ∷ xs) = (x < n) × AreBelow n xs

-- what the rule says of one view
pub record FitsView (seats : ℕ) (words : List ℕ) (views : List View) (v : View) : Type 0 where
  pub ready : armed_by v ≤ v.count
  -- its own word holds what it says
  pub word : (number : ℕ) → Stands v number → (number < seats) × (slice_index words (word_of number) ≡ v.own)
  -- a stay is one seat's, at an epoch that has come
  pub stay : v.valid ≡ true → (v.count ≡ 1) × (1 ≤ v.own) × (v.own ≤ slice_index words epoch_word)
  -- the epoch is past all that it advanced past
  pub past : AreBelow (slice_index words epoch_word) v.advanced
  -- what it has scanned stays clear
  pub scan : ClearBelow (slice_index words epoch_word) v.bound v.passed views

-- the rule
pub record Ruled {S : Type 0} (seats : ℕ) (s : State S View) : Type 0 where
  pub wide : length s.words ≡ word_of seats
  pub few : seats < 2 ^ 62
  -- the epoch of a new table is 1, and each advance of a seat adds 1
  pub counted : slice_index s.words epoch_word ≡ 1 + total advances_of s.views
  -- the epoch word never wraps: once it is 2^62, each seat adds to it at most once more
  pub room : slice_index s.words epoch_word + total armed_by s.views ≤ 2 ^ 62 + seats
  pub dealt : total count_of s.views ≡ seats
  pub apart : (i j : ℕ) (v u : View) → i ≢ j → get_elem? s.views i ≡ some v → get_elem? s.views j ≡ some u → (number : ℕ) → Stands v number → Stands u number → ⊥
  pub views : (seat : ℕ) (v : View) → get_elem? s.views seat ≡ some v → FitsView seats s.words s.views v
  -- an epoch below the bound of a scan of all seats is clear
  pub clear : (seat : ℕ) (v : View) (e : ℕ) → get_elem? s.views seat ≡ some v → v.passed ≡ seats → e < v.bound → Clear (slice_index s.words epoch_word) e (StayAt s.views)

-- the newest number of a list
abbrev pub newest : List ℕ → ℕ
newest [] = 0
newest (x ∷ xs) = x
