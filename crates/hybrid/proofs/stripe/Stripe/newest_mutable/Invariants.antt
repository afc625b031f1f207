use Rattle.std.specs.Prelude.{⊤}
use Rattle.hybrid.specs.Log.{begin_of}
use Rattle.hybrid.specs.HybridLog.{bucket_of, log_of}
use Rattle.hybrid.proofs.Walk.{IsWalk}
use Rattle.hybrid.proofs.stripe.Stripe.newest_mutable.Given as goal

abbrev pub invariant-loop-begin : goal.invariant-loop-begin
invariant-loop-begin g l = IsWalk (bucket_of l.self) (begin_of l.self.oldest) (log_of l.self) l.key (λ _. ⊤) l.address

abbrev pub decreases-loop-begin : goal.decreases-loop-begin
decreases-loop-begin g l = l.address
