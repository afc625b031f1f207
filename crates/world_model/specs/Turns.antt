-- What an event does to the world, as a relation of the states before and after it.
use Rattle.std.specs.Prelude.{ℕ, ◌≡◌, List, [], ◌∷◌, Option, Some, None}
use Rattle.world_model.specs.States.{State, client}
use Rattle.world_model.specs.Actors.{actor}
use Rattle.world_model.specs.Enabled.{is_enabled}
use Rattle.world_model.specs.Advancing.{When, Goes}
use Rattle.world_model.specs.Effects.{Does, Works}
use Rattle.world_model.specs.declared.event.Event.{Event}

-- what is done by an event that is enabled: by a client, which then advances; or in a stripe
abbrev pub DoesAndGoes : State → Event → Option ℕ → State → Type 0
DoesAndGoes before e None after = Works before e after
DoesAndGoes before e (Some c) after = (mid : State) × Does before c (client before c) e mid × Goes mid c after

-- What an event does. One that is not enabled changes nothing.
abbrev pub Turn : State → Event → State → Type 0
Turn before e after = When (is_enabled before e) (DoesAndGoes before e (actor e) after) (after ≡ before)

-- what events do, in order
abbrev pub Turns : State → List Event → State → Type 0
Turns before [] after = after ≡ before
Turns before (e ∷ events) after = (next : State) × Turn before e next × Turns next events after
