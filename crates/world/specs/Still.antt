-- A client without an enabled event of its call.
use Rattle.std.specs.Prelude.{ℕ, ◌≡◌, false, Some}
use Rattle.world_model.specs.Actors.{actor}
use Rattle.world_model.specs.declared.event.Event.{Event}
use Rattle.world_model.specs.declared.event.Event.TheVariants.{Give, Take}
use Rattle.world_model.specs.States.{State, client}
use Rattle.world_model.specs.Enabled.{is_enabled_for}
use Rattle.world_model.specs.Resting.{IsOfCall}

-- no event of a client's call is enabled for it
abbrev pub IsStill : State → ℕ → Type 0
IsStill state c = (e : Event) → IsOfCall e → actor e ≡ Some c → is_enabled_for state c (client state c) e ≡ false

-- it may take no stripe
abbrev pub TakesNone : State → ℕ → Type 0
TakesNone state c = (i : ℕ) → is_enabled_for state c (client state c) (Take c i) ≡ false

-- it may give none back
abbrev pub GivesNone : State → ℕ → Type 0
GivesNone state c = (i : ℕ) → is_enabled_for state c (client state c) (Give c i) ≡ false
