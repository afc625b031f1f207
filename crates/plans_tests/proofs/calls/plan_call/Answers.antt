use Rattle.transact.specs.Calls.{call_keys}
use Rattle.plans_tests.proofs.There.{all_there}
use Rattle.std.proofs.Common.{refl}
use Rattle.plans_tests.proofs.calls.plan_call.Goals as goal

pub plan-requires : goal.plan-requires
plan-requires g c = record {
  may = record {
    may = record { can_lend = c.requires.few; there = all_there c.args.store.now.stripes _ (call_keys c.args.call.now) refl c.requires.few.0 };
    entry = c.requires.entry;
    place = c.requires.place;
  };
}

pub plan_reading-requires : goal.plan_reading-requires
plan_reading-requires g c = record {
  may = record {
    may = record { can_lend = c.plan.ensures.held.open_still; there = all_there c.plan.new.parts _ (call_keys c.args.call.now) refl c.plan.ensures.held.open_still.0 };
    entry = c.requires.entry;
    place = c.requires.place;
  };
}
