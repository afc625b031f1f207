-- The passes of an engine, and what they know.
use Rattle.std.specs.Prelude.{ℕ, ◌≡◌, ◌+◌, List, [], ◌∷◌, Option, Some}
use Rattle.epoch.specs.Seats as seats
use Rattle.epoch.specs.Seats.{IsOutside}
use Rattle.epoch.specs.declared.view.View.{View}
use Rattle.epoch.specs.declared.epochs.Epochs.{Epochs}
use Rattle.epoch.specs.declared.epochs.EpochSeat.{EpochSeat}
use Rattle.words.specs.History.{History, Pair, Placed}
use Rattle.gates.specs.declared.view.Knowledge.{Knowledge}
use Rattle.gates.specs.declared.view.Note.{Note}
use Rattle.gates.specs.declared.gates.Gates.{Gates}
use Rattle.gates.specs.Plays.{newcomer}
use Rattle.gates.specs.Passes.{known, stripes_of, IsResting}
use Rattle.shards.specs.declared.shard.Shard.{Shard}
use Rattle.plans.specs.declared.hands.Hands.{Hands}
use Rattle.engine.specs.declared.pass.Pass.{Pass}
use Rattle.engine.specs.declared.Engine.{Engine}

-- What a pass knows: its number, the history that it has seen, its own entries of it, what it was told beside and what it watches; and how
-- many calls of its opening of the device have failed.
pub record Known : Type 0 where
  pub number : ℕ
  pub seen : History
  pub mine : List Placed
  pub notes : List Note
  pub watched : List Pair
  pub failures : ℕ

-- the same, from what a pass of the gates knows
abbrev pub know : Knowledge → (failures : ℕ) → Known
know knows failures =
    record { number = knows.number; seen = knows.seen; mine = knows.mine; notes = knows.notes; watched = knows.watched; failures = failures }

-- Hands of a seat that has no stay.
pub record AreFree {R : Type 0} (epochs : Epochs) (hands : Hands R EpochSeat) : Type 0 where
  pub outside : IsOutside epochs hands.own
  pub none : hands.staged ≡ []

-- there are hands of a seat of these epochs, which has no stay, and no page is staged
abbrev pub HasHands : {R : Type 0} → Epochs → Option (Hands R EpochSeat) → Type 0
HasHands {R} epochs hands = (own : Hands R EpochSeat) × (hands ≡ Some own) × AreFree epochs own

-- of the seat of hands, by what it knows
abbrev pub OfSeat : {R : Type 0} → (View → Type 0) → Option (Hands R EpochSeat) → Type 0
OfSeat {R} P was = (before : Hands R EpochSeat) → was ≡ Some before → P (seats.known before.own)

-- of the seats of hands, by what they knew and what they know
abbrev pub OfSeats : {R : Type 0} → (View → View → Type 0) → (was now : Option (Hands R EpochSeat)) → Type 0
OfSeats {R} P was now =
    (before later : Hands R EpochSeat) → was ≡ Some before → now ≡ Some later → P (seats.known before.own) (seats.known later.own)

module _ {D R : Type 0} where
  -- what a pass knows; `failures` counts the failed calls of an opening
  abbrev pub knows : (failures : D → ℕ) → Pass D R → Known
  knows failures pass = know (known pass.gates) (failures pass.device)

  -- the pass holds none of these gates' stripes, and where the device is steady, what it has seen is legal; it has its own entries of it. It has
  -- hands of a seat of these epochs, no stay, and no page is staged.
  pub record RestsOf (steady : Type 0) (gates : Gates (Shard R)) (epochs : Epochs) (pass : Pass D R) : Type 0 where
    pub rests : IsResting steady gates pass.gates
    pub has_hands : HasHands epochs pass.hands

  -- the pass is one of the engine's, and holds nothing
  abbrev pub Rests : (steady : Type 0) → Engine D R → Pass D R → Type 0
  Rests steady engine pass = RestsOf steady engine.gates engine.epochs pass

  -- how many stripes an engine has
  abbrev pub stripe_count : Engine D R → ℕ
  stripe_count engine = stripes_of engine.gates

  -- a pass of these gates and epochs with this number, which has seen nothing, and has this opening of the device
  pub record IsNew (steady : Type 0) (gates : Gates (Shard R)) (epochs : Epochs) (number : ℕ) (pass : Pass D R) (opening : D) : Type 0 where
    pub rests : RestsOf steady gates epochs pass
    pub nothing : known pass.gates ≡ newcomer number
    pub device : pass.device ≡ opening

  -- passes of these gates and epochs that have seen nothing, with the numbers from this one on, each with its opening of the device
  abbrev pub AreDealt : (steady : Type 0) → Gates (Shard R) → Epochs → (number : ℕ) → List (Pass D R) → List D → Type 0
  AreDealt steady gates epochs number [] [] = Unit {0}
  AreDealt steady gates epochs number [] (opening ∷ openings) = ⊥
  AreDealt steady gates epochs number (pass ∷ passes) [] = ⊥
  AreDealt steady gates epochs number (pass ∷ passes) (opening ∷ openings) =
      IsNew steady gates epochs number pass opening × AreDealt steady gates epochs (number + 1) passes openings

  -- they are those of an engine, from number 0 on
  abbrev pub AreOf : (steady : Type 0) → Engine D R → List (Pass D R) → List D → Type 0
  AreOf steady engine passes openings = AreDealt steady engine.gates engine.epochs 0 passes openings
