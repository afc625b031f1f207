use Rattle.std.proofs.Common.{◌∙◌}
use Rattle.world_model.specs.declared.event.Event.TheVariants as event
use Rattle.world.proofs.Acting.{ok_stayed, ok_told_drained}
use Rattle.world.proofs.world.World.drain.Goals as goal

pub returns-clause-worked : goal.returns-clause-worked
returns-clause-worked c =
    ok_stayed c.drain.result c.args.self.now c.drain.new.self (event.Drain c.args.i) c.as_slice.result.now (c.as_slice.ensures.value ∙ c.in_ok-stays.ensures)
    c.drain.ensures.took c.drain.ensures.log c.drain.ensures.given c.drain.ensures.held

pub returns-clause-told : goal.returns-clause-told
returns-clause-told c =
    ok_told_drained c.drain.result c.args.self.now c.args.i c.as_slice.result.now (c.as_slice.ensures.value ∙ c.in_ok-stays.ensures) c.drain.ensures.told
