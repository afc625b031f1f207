-- What becomes of a pass that visits one stripe, and of the stripe's part.
use Rattle.std.specs.Prelude.{ℕ, ◌≡◌, ◌≢◌, Option, Some, List, [], ◌∷◌, ◌++◌}
use Rattle.words.specs.Store.{Bytes}
use Rattle.words.specs.History.{History}
use Rattle.gates.specs.declared.view.Refused.{Refused}
use Rattle.gates.specs.declared.view.Work.TheVariants.{Evict}
use Rattle.gates.specs.declared.view.Knowledge.{Knowledge}
use Rattle.gates.specs.declared.view.Note.{Note}
use Rattle.gates.specs.declared.view.Note.TheVariants as note
use Rattle.gates.specs.Passes.{AreBusy}
use Rattle.gates.specs.Pages.{Pages}
use Rattle.gates.specs.Rule.{Meaning}
use Rattle.store_tests.specs.declared.visits.Outcome.{Outcome}
use Rattle.store_tests.specs.declared.visits.Outcome.TheVariants.{Done, Idle, Full}

-- one of three, by what a step came to
abbrev pub MatchOutcome : Outcome → (done idle : Type 0) → (full : Refused → Type 0) → Type 0
MatchOutcome Done done idle full = done
MatchOutcome Idle done idle full = idle
MatchOutcome (Full refused) done idle full = full refused

-- what a pass is told of a step
abbrev pub told : Outcome → (stripe : ℕ) → List Note
told Done stripe = note.Done stripe Evict ∷ []
told Idle stripe = note.Idle stripe Evict ∷ []
told (Full refused) stripe = note.Full stripe refused ∷ []

-- The pass was told this last, and before it that others had the stripe; it made no entry, and watches what it did.
pub record Visited (stripe : ℕ) (last : List Note) (before later : Knowledge) : Type 0 where
  pub number : later.number ≡ before.number
  pub mine : later.mine ≡ before.mine
  pub watched : later.watched ≡ before.watched
  pub seen : (more : History) × (later.seen ≡ more ++ before.seen)
  pub busy : (more : List Note) × (later.notes ≡ last ++ (more ++ before.notes)) × AreBusy (stripe ∷ []) more

-- The part of a stripe has other pages since, of which this holds, and the same store and marks. Other parts are the same.
pub record HasStepped {T : Type 0} (contents : Meaning T) (stripe : ℕ) (before later : ℕ → Option T) (Says : (was now : Pages) → Type 0) : Type 0 where
  pub old : T
  pub new : T
  pub was : before stripe ≡ Some old
  pub is : later stripe ≡ Some new
  pub others : (other : ℕ) → other ≢ stripe → later other ≡ before other
  pub store : contents.trusted → (key : Bytes) → contents.store new key ≡ contents.store old key
  pub marks : contents.marks new ≡ contents.marks old
  pub says : Says (contents.pages old) (contents.pages new)
