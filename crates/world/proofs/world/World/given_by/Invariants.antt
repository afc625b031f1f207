use Rattle.std.proofs.Common.{◌≡◌, ℕ, ◌<◌, false}
use Rattle.world_model.specs.declared.event.Event.TheVariants.{Give}
use Rattle.world_model.specs.Enabled.{is_enabled_for}
use Rattle.world_model.specs.States.{client}
use Rattle.world.specs.Tables.{state_of}
use Rattle.world.proofs.world.World.given_by.Given as goal

abbrev pub invariant-loop-stripe : goal.invariant-loop-stripe
invariant-loop-stripe l = (i : ℕ) → i < l.stripe → is_enabled_for (state_of l.self) l.client (client (state_of l.self) l.client) (Give l.client i) ≡ false
