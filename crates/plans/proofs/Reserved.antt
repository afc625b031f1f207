-- Room at a stripe, where the stripe, the weight and the purpose are said otherwise.
use Rattle.std.proofs.Common.{◌≡◌, ℕ, Option, subst}
use Rattle.gates.specs.Rule.{Meaning}
use Rattle.hybrid.specs.declared.stripe.room.Purpose.{Purpose}
use Rattle.shards.specs.declared.shard.Shard.{Shard}
use Rattle.plans.specs.declared.stop.Stop.{Stop}
use Rattle.plans.specs.Reserving.{HasNoRoomAt, HasReserved, HasRoomAt}

module _ {R : Type 0} (i j w v : ℕ) (p q : Purpose) (same : i ≡ j) (weighs : w ≡ v) (means : p ≡ q) where
  pub reserved_as : {D : Type 0} (contents : Meaning (Shard R)) (Serves : D → D → Type 0) (n : ℕ) (before later : (ℕ → Option (Shard R)) × D)
      → HasReserved contents Serves n i w p before later → HasReserved contents Serves n j v q before later
  reserved_as contents Serves n before later has =
      subst (λ (a : Purpose). HasReserved contents Serves n j v a before later) means
      (subst (λ (k : ℕ). HasReserved contents Serves n k v p before later) same (subst (λ (k : ℕ). HasReserved contents Serves n i k p before later) weighs has))

  pub room_as : (before later : ℕ → Option (Shard R)) → HasRoomAt i w p before later → HasRoomAt j v q before later
  room_as before later has =
      subst (λ (a : Purpose). HasRoomAt j v a before later) means (subst (λ (k : ℕ). HasRoomAt k v p before later) same (subst (λ (k : ℕ). HasRoomAt i k p before later) weighs has))

  pub no_room_as : (before later : ℕ → Option (Shard R)) (s : Stop R) → HasNoRoomAt i w p before later s → HasNoRoomAt j v q before later s
  no_room_as before later s has =
      subst (λ (a : Purpose). HasNoRoomAt j v a before later s) means (subst (λ (k : ℕ). HasNoRoomAt k v p before later s) same (subst (λ (k : ℕ). HasNoRoomAt i k p before later s) weighs has))
