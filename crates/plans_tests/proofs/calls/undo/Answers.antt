use Rattle.std.proofs.Common.{refl}
use Rattle.transact.specs.Calls.{call_keys}
use Rattle.plans_tests.proofs.There.{all_there}
use Rattle.plans_tests.proofs.calls.undo.Goals as goal

pub plan-requires : goal.plan-requires
plan-requires g c =
    let few = c.are_few.ensures c.if-not-are_few.false in
    let can = c.can_be_planned.ensures c.if-not-can_be_planned.false in
    record {
      may = record {
        may = record { can_lend = few; there = all_there (record c.args.store.now.stripes { holder = c.args.seat }) _ (call_keys c.args.call.now) refl few.0 };
        entry = can.0;
        place = can.1;
      };
    }

pub undo-requires-clause-there : goal.undo-requires-clause-there
undo-requires-clause-there g c = all_there c.plan.new.parts _ c.in-Ok.planned.begun refl c.plan.ensures.held.open_still.0
