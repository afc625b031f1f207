-- What a seat of the epochs was told.
use Rattle.std.specs.Prelude.{◌≡◌, ℕ, zero, suc, true, List, ◌∷◌, ◌++◌}
use Rattle.epoch.specs.declared.view.View.{View}
use Rattle.epoch.specs.declared.view.Note.{Note}
use Rattle.epoch.specs.declared.view.Note.TheVariants.{Worn}
use Rattle.epoch.specs.declared.epochs.Epochs.{Epochs}
use Rattle.epoch.specs.declared.epochs.EpochSeat.{EpochSeat}
use Rattle.epoch.specs.Seats.{IsOutside, known}
use Rattle.gates.specs.declared.view.Refused.{Refused}

-- what it was told before stands
pub record HasHeard (before later : View) : Type 0 where
  pub more : List Note
  pub notes : later.notes ≡ more ++ before.notes

-- it was told last, and since, that the epoch word is worn out
pub record HasHeardWorn (before later : View) : Type 0 where
  pub more : List Note
  pub notes : later.notes ≡ Worn ∷ (more ++ before.notes)

-- notes, and so often before them that the epoch word is worn out
abbrev pub worn_times : ℕ → List Note → List Note
worn_times zero notes = notes
worn_times (suc n) notes = Worn ∷ worn_times n notes

-- The seat tried to retire: it advanced past some epochs, was told some times that the epoch word is worn out, and nothing else.
pub record HasTried (before later : View) : Type 0 where
  pub advanced : (more : List ℕ) × (later.advanced ≡ more ++ before.advanced)
  pub times : ℕ
  pub notes : later.notes ≡ worn_times times before.notes

-- The seat is outside, and was told nothing but that the epoch word is worn out.
pub record HasTriedOutside (epochs : Epochs) (before later : EpochSeat) : Type 0 where
  pub outside : IsOutside epochs later
  pub tried : HasTried (known before) (known later)

-- A retirement was refused only where the seat was told that the epoch word is worn out.
abbrev pub ToldWorn : Refused → (heard hears : View) → Type 0
ToldWorn refused heard hears = refused.retire ≡ true → HasHeardWorn heard hears
