use Rattle.std.proofs.Common.{◌∙◌, true, false, nat_lt, sym, ap}
use Rattle.std.proofs.Math.Nat.{add-zero}
use Rattle.words.specs.declared.limits.TheConstants.{WEIGHT_MAX}
use Rattle.transact.proofs.Heavy.{plan_of_set}
use Rattle.transact.proofs.weight.weighs_too_much.Goals as goal

pub returns-clause-heavy : goal.returns-clause-heavy
returns-clause-heavy c = λ heavy seen. plan_of_set seen c.args.key.now c.args.value.now true (ap (nat_lt WEIGHT_MAX) (add-zero _) ∙ sym c.is_heavy.ensures ∙ heavy)

pub returns-clause-light : goal.returns-clause-light
returns-clause-light c = λ light seen. plan_of_set seen c.args.key.now c.args.value.now false (ap (nat_lt WEIGHT_MAX) (add-zero _) ∙ sym c.is_heavy.ensures ∙ light)
