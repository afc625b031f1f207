use Rattle.std.proofs.Common.{◌-◌}
use Rattle.records.specs.declared.pages.TheConstants.{PAGE_SIZE}
use Rattle.hybrid.proofs.Cleaning.{IsCopying}
use Rattle.hybrid.proofs.stripe.Stripe.copy_live.Given as goal

abbrev pub invariant-loop-record : goal.invariant-loop-record
invariant-loop-record g l = IsCopying l.fn.self l.self l.page l.live l.at l.weight l.fn.weight

abbrev pub decreases-loop-record : goal.decreases-loop-record
decreases-loop-record g l = PAGE_SIZE - l.at
