use Rattle.std.proofs.Common.{refl}
use Rattle.transact.specs.Plans.{keys_ended}
use Rattle.plans_tests.proofs.There.{all_there}
use Rattle.plans_tests.proofs.calls.submit.Goals as goal

pub install-requires-clause-there : goal.install-requires-clause-there
install-requires-clause-there g c = all_there c.plan_call.new.store.stripes _ (keys_ended c.args.call.now) refl c.plan_call.ensures.few.0
