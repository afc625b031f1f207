-- Plans over a steady device.
use Rattle.std.proofs.Common.{◌≡◌, ◌<◌, ℕ, List, [], Result, Ok, Err, IfErr, subst, arith}
use Rattle.words.specs.Store.{Write}
use Rattle.hybrid.specs.Staging.{AreRight}
use Rattle.plans.specs.declared.stop.Stop.{Stop}
use Rattle.plans.specs.declared.stop.Stop.TheVariants as stop
use Rattle.shards.specs.Rooms.{share}
use Rattle.plans.specs.Stops.{IfFull}

-- no page is staged
pub none_right : AreRight []
none_right k d below = absurd (omega (arith, below))

full_then_of : {R : Type 0} {P Q : ℕ → Type 0} (s : Stop R) → ((i : ℕ) → P i → Q i) → IfFull s P → IfFull s Q
full_then_of (stop.Cold receipts) more holds = tt
full_then_of stop.OutOfMemory more holds = tt
full_then_of stop.DeviceFault more holds = tt
full_then_of (stop.StoreFull stripe) more holds = more stripe holds

-- what is said of a stripe that is full leads to more
pub full_then : {A R : Type 0} {P Q : ℕ → Type 0} (r : Result A (Stop R)) → ((i : ℕ) → P i → Q i) → IfErr r (λ s. IfFull s P) → IfErr r (λ s. IfFull s Q)
full_then (Ok a) more holds = tt
full_then (Err s) more holds = full_then_of s more holds

-- a stripe has a share of the writes that are due, where it has one of those that are planned
pub share_due : (n i : ℕ) (writes due : List Write) → 0 < share n i writes → writes ≡ due → 0 < share n i due
share_due n i writes due some is = subst (λ (l : List Write). 0 < share n i l) is some
