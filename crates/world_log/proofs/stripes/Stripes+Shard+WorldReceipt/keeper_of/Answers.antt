use Rattle.std.proofs.Common.{length, inl, inr, arith}
use Rattle.std.proofs.lemmas.Bool.{cases_lt}
use Rattle.world_log.proofs.Held.{keeper_past}
use Rattle.world_log.proofs.stripes.Stripes+Shard+WorldReceipt.keeper_of.Goals as goal

pub returns-clause-none : goal.returns-clause-none
returns-clause-none c i keeper = elim (cases_lt i (length c.args.self.now.lanes.items)) as (λ _. ⊥) [
  | inl lt ↦ c.loop-stripe.invariant i (omega (arith, lt, c.loop-stripe-test.false, c.len-stripe-end.ensures)) keeper
  | inr past ↦ keeper_past c.args.self.now c.args.client c.args.place i past keeper
]
