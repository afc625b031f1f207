-- Seats, stays, retirements and drained epochs, as contracts name them.
use Rattle.std.specs.Prelude.{◌≡◌, ℕ, ◌+◌, ◌<◌, ◌≤◌, List, [], ◌∷◌, ◌++◌, true, false, nat_eq, nat_lt, cond, slice_index}
use Rattle.std.specs.Arc.{arc_value}
use mathlib.Core.Option.{some}
use lib.ListN.{get_elem?}
use Rattle.atomic_table.specs.Table.{State}
use Rattle.atomic_table.specs.Seated.{TableId}
use Rattle.epoch.specs.declared.view.View.{View}
use Rattle.epoch.specs.declared.view.Note.{Note}
use Rattle.epoch.specs.declared.view.Note.TheVariants.{Epoch, Word, Worn}
use Rattle.epoch.specs.declared.words.EpochWords.{EpochWords}
use Rattle.epoch.specs.declared.epochs.Epochs.{Epochs}
use Rattle.epoch.specs.declared.epochs.EpochsName.{EpochsName}
use Rattle.epoch.specs.declared.epochs.EpochSeat.{EpochSeat}
use Rattle.epoch.specs.declared.epochs.Inside.{Inside}
use Rattle.epoch.specs.declared.epochs.Drained.{Drained}
use Rattle.epoch.specs.declared.epochs.Retired.{Retired}
use Rattle.epoch.specs.Clear.{Clear}
use Rattle.epoch.specs.Rule.{Ruled, StayAt, advances_of, epoch_word, total, word_of}
use Rattle.epoch.specs.Words.{id_in, words_from}

-- the words of epochs
abbrev pub words_of : Epochs → EpochWords
words_of epochs = arc_value epochs.words

-- which epochs they are
abbrev pub id_of : Epochs → TableId
id_of epochs = id_in (words_of epochs)

-- which epochs a name is of
abbrev pub named_by : EpochsName → TableId
named_by name = id_of name.named.value

-- how many seats they have
abbrev pub seats_of : Epochs → ℕ
seats_of epochs = (words_of epochs).seats

-- At each moment between two steps the epoch word is 1 and the advances of all seats.
abbrev pub CountsAdvances : Epochs → Type 0
CountsAdvances epochs =
    (s : State ℕ View) → Ruled (seats_of epochs) s → slice_index s.words epoch_word ≡ 1 + total advances_of s.views

-- which seat it is
abbrev pub number_of : EpochSeat → ℕ
number_of seat = seat.number

-- what a seat knows
abbrev pub known : EpochSeat → View
known seat = seat.seat.me.0

-- the seat of a stay
abbrev pub seat_in : Inside → EpochSeat
seat_in inside = inside.seat

-- the epoch of a stay
abbrev pub stay_epoch : Inside → ℕ
stay_epoch inside = (known inside.seat).own

-- the seat is one of these epochs
pub record IsSeatOf (epochs : Epochs) (seat : EpochSeat) : Type 0 where
  pub table : seat.seat.table_id ≡ id_of epochs
  pub handles : id_in (words_from seat.handles) ≡ id_of epochs
  pub below : seat.number < seats_of epochs
  pub first : (known seat).first ≡ seat.number
  pub single : (known seat).count ≡ 1
  pub armed : seat.armed ≡ (known seat).armed
  pub last : 1 ≤ seat.last

-- the seat is one of these epochs, and has no stay: its word is cleared
pub record IsOutside (epochs : Epochs) (seat : EpochSeat) : Type 0 where
  pub is : IsSeatOf epochs seat
  pub cleared : (known seat).own ≡ 0
  pub none : (known seat).valid ≡ false

-- the stay is one of these epochs, and valid
pub record IsInside (epochs : Epochs) (inside : Inside) : Type 0 where
  pub seat : IsSeatOf epochs inside.seat
  pub valid : (known inside.seat).valid ≡ true

-- Between any two steps the rule holds of the words and of what all seats know (`Ruled`). At each such moment at which the stay's seat knows
-- what it knows here, the stay is valid at its epoch, the seat's word holds that epoch, and the epoch has come.
abbrev pub StaysIn : Epochs → Inside → Type 0
StaysIn epochs inside =
    (s : State ℕ View) → Ruled (seats_of epochs) s → get_elem? s.views inside.seat.seat.id ≡ some (known inside.seat)
    → StayAt s.views (stay_epoch inside)
    × (slice_index s.words (word_of (number_of inside.seat)) ≡ stay_epoch inside)
    × (1 ≤ stay_epoch inside)
    × (stay_epoch inside ≤ slice_index s.words epoch_word)

-- the seat has advanced past nothing, and was told nothing
pub record KnowsNothing (seat : EpochSeat) : Type 0 where
  pub advanced : (known seat).advanced ≡ []
  pub notes : (known seat).notes ≡ []

-- what the seat was told, and what it advanced past, are the same
pub record KnowsTheSame (before later : View) : Type 0 where
  pub advanced : later.advanced ≡ before.advanced
  pub notes : later.notes ≡ before.notes

-- the seat advanced past this epoch, and was told nothing
pub record AdvancedPast (e : ℕ) (before later : View) : Type 0 where
  pub advanced : later.advanced ≡ e ∷ before.advanced
  pub notes : later.notes ≡ before.notes

-- the seat read the epoch word at 2^62 or more, and advanced past nothing
pub record WasWorn (before later : View) : Type 0 where
  pub advanced : later.advanced ≡ before.advanced
  pub notes : later.notes ≡ Worn ∷ before.notes

-- what was read says that e may not be clear: a seat's word was read as set at e or below, or the epoch word as e or below
abbrev pub Blocks : ℕ → Note → Type 0
Blocks e (Epoch found) = found ≤ e
Blocks e (Word number found) = (1 ≤ found) × (found ≤ e)
Blocks e Worn = ⊥

-- 1 where a note blocks e, else 0
abbrev pub one_if_blocks : ℕ → Note → ℕ
one_if_blocks e (Epoch found) = cond (nat_lt e found) 0 1
one_if_blocks e (Word number found) = cond (nat_eq found 0) 0 (cond (nat_lt e found) 0 1)
one_if_blocks e Worn = 0

-- how many of these notes block e
abbrev pub blocks_in : ℕ → List Note → ℕ
blocks_in e [] = 0
blocks_in e (note ∷ notes) = one_if_blocks e note + blocks_in e notes

-- the seat scanned, and the last word that it read blocks e
pub record WasBlocked (e : ℕ) (before later : View) : Type 0 where
  pub advanced : later.advanced ≡ before.advanced
  pub note : Note
  pub blocks : Blocks e note
  pub more : List Note
  pub notes : later.notes ≡ note ∷ more ++ before.notes

-- the seat scanned: what it was told before stands
pub record HasScanned (before later : View) : Type 0 where
  pub advanced : later.advanced ≡ before.advanced
  pub more : List Note
  pub notes : later.notes ≡ more ++ before.notes

-- nothing differs but what the seat has scanned, and was told
abbrev pub OnlyScanned : (before later : View) → Type 0
OnlyScanned before later = later ≡ record before { bound = later.bound; passed = later.passed; notes = later.notes }

-- the own word and the stay are the same
pub record KeepsStay (before later : View) : Type 0 where
  pub own : later.own ≡ before.own
  pub valid : later.valid ≡ before.valid

-- a scan has read the epoch word and the words of so many seats, and none of them blocks e
pub record IsScanning (e number : ℕ) (before later : View) : Type 0 where
  pub passed : later.passed ≡ number
  pub above : e < later.bound
  pub advanced : later.advanced ≡ before.advanced
  pub more : List Note
  pub notes : later.notes ≡ more ++ before.notes

-- which epochs a drained epoch is one of
abbrev pub drained_of : Drained → TableId
drained_of drained = drained.seat.table_id

-- which epoch was drained
abbrev pub drained_epoch : Drained → ℕ
drained_epoch drained = drained.epoch

-- The drained epoch is clear at each moment between two steps from the scan's end on: the view behind it stays as it is.
abbrev pub StaysClearIn : EpochWords → Drained → Type 0
StaysClearIn words drained =
    (s : State ℕ View) → Ruled words.seats s → get_elem? s.views drained.seat.id ≡ some drained.seat.me.0
    → Clear (slice_index s.words epoch_word) (drained_epoch drained) (StayAt s.views)

-- the same, by the words of epochs
abbrev pub StaysClear : Epochs → Drained → Type 0
StaysClear epochs drained = StaysClearIn (words_of epochs) drained

module _ {U : Type 0} where
  -- which epochs a retirement is one of
  abbrev pub retired_of : Retired U → TableId
  retired_of retired = retired.seat.table_id

  -- the epoch of its stamp
  abbrev pub retired_epoch : Retired U → ℕ
  retired_epoch retired = retired.epoch

  -- what was retired
  abbrev pub retired_value : Retired U → U
  retired_value retired = retired.value

  -- what its token knows
  abbrev pub retired_known : Retired U → View
  retired_known retired = retired.seat.me.0

  -- how often it has read a word that blocks its epoch
  abbrev pub refusals : Retired U → ℕ
  refusals retired = blocks_in (retired_epoch retired) (retired_known retired).notes

  -- The epoch of the stamp is over at each moment between two steps at which the view behind it is as it is here.
  abbrev pub StaysOver : Epochs → Retired U → Type 0
  StaysOver epochs retired =
      (s : State ℕ View) → Ruled (seats_of epochs) s → get_elem? s.views retired.seat.id ≡ some retired.seat.me.0
      → retired_epoch retired < slice_index s.words epoch_word
