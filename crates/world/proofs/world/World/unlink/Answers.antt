use Rattle.std.proofs.Common.{◌∙◌, refl}
use Rattle.world_model.specs.declared.event.Event.TheVariants as event
use Rattle.world.proofs.Acting.{none_stepped, ok_stayed, ok_told}
use Rattle.world.proofs.world.World.unlink.Goals as goal

pub unlink-requires-clause-none : goal.unlink-requires-clause-none
unlink-requires-clause-none c = λ mid stepped.
    none_stepped c.laws.ensures.turns c.args.self.now c.as_slice.result.now mid c.args.i (c.as_slice.ensures.value ∙ c.in_ok-stays.ensures) c.requires.world stepped

pub returns-clause-worked : goal.returns-clause-worked
returns-clause-worked c =
    ok_stayed c.unlink.result c.args.self.now c.unlink.new.self (event.Unlink c.args.i) c.as_slice.result.now (c.as_slice.ensures.value ∙ c.in_ok-stays.ensures)
    c.unlink.ensures.took c.unlink.ensures.log c.unlink.ensures.given c.unlink.ensures.held

pub returns-clause-told : goal.returns-clause-told
returns-clause-told c = ok_told c.unlink.result c.args.self.now (event.Unlink c.args.i) (event.Unlink c.args.i) refl refl c.unlink.ensures.told
