use Rattle.std.proofs.Common.{refl}
use Rattle.transact.specs.Calls.{call_keys}
use Rattle.transact.specs.Plans.{keys_ended}
use Rattle.plans_tests.proofs.There.{all_there}
use Rattle.plans_tests.proofs.calls.submit_placed.Goals as goal

pub place-requires : goal.place-requires
place-requires g c =
    let few = c.are_few.ensures c.if-not-are_few.false in
    let can = c.can_be_planned.ensures c.if-not-can_be_planned.false in
    record {
      may = record {
        may = record { can_lend = few; there = all_there (record c.args.store.now.stripes { holder = c.args.seat }) _ (call_keys c.args.call.now) refl few.0 };
        entry = can.0;
        place = can.1;
      };
    }

pub install-requires-clause-there : goal.install-requires-clause-there
install-requires-clause-there g c = all_there c.place.new.parts _ (keys_ended c.args.call.now) refl c.place.ensures.held.open_still.0

pub install-requires-clause-written : goal.install-requires-clause-written
install-requires-clause-written g c = all_there c.place.new.parts _ _ refl c.place.ensures.held.open_still.0

pub install-requires-clause-targets : goal.install-requires-clause-targets
install-requires-clause-targets g c = rw (c.place.ensures.held.kept.0, c.place.ensures.same) c.in_ok-placed.ensures.placed.targets
