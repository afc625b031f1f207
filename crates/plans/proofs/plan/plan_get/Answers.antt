use Rattle.std.proofs.Common.{◌∙◌, sym, subst}
use Rattle.words.specs.declared.history.Operation.{Operation}
use Rattle.shards.specs.Shards.{shard_meaning}
use Rattle.transact.specs.Plans.{IsPlan}
use Rattle.plans.proofs.Plans.{plan_of_get}
use Rattle.plans.proofs.plan.plan_get.Goals as goal

pub returns-in-Ok-clause-answered : goal.returns-in-Ok-clause-answered
returns-in-Ok-clause-answered g c =
    let planned = c.answered.result in record {
      due = λ right seen operation asks. subst (λ (o : Operation). IsPlan seen o planned.reply planned.writes) (sym asks.is)
          (plan_of_get (shard_meaning g.R.Shows.is_steady) (g.P.Parts.stripes_of c.args.parts.now) (g.P.Parts.part_of c.args.parts.now) seen c.args.key.now c.in-Ok.value planned.reply planned.writes
          ((rw c.new-key.ensures at c.in-Ok.ensures.value).is right) asks.read c.requires.may.there.0 (c.answered.ensures.reply ∙ c.value.ensures) c.answered.ensures.writes);
      none = c.answered.ensures.writes;
      begun = c.answered.ensures.begun;
    }

pub returns-in-Err-clause-stopped : goal.returns-in-Err-clause-stopped
returns-in-Err-clause-stopped g c = rw c.new-key.ensures at c.in-Err.ensures.stopped
