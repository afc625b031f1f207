use Rattle.std.proofs.Common.{rules, ◌∙◌, ℕ, sym, subst, refl}
use Rattle.words.specs.declared.history.Operation.{Operation}
use Rattle.words.specs.History.{after}
use Rattle.hybrid.specs.Staging.{AreRight}
use Rattle.transact.specs.Plans.{IsPlan}
use Rattle.transact.specs.Tables.{AllRead, AreThere}
use Rattle.shards.specs.Receipts.{kept_by}
use Rattle.shards.specs.Shards.{shard_meaning}
use Rattle.plans.specs.Planning.{AreDue, ExecsOn, ExecsWatching, of_commands, of_exec}
use Rattle.words.specs.Commands.{keys_of_all}
use Rattle.plans.proofs.Become.{became_same, became_twice}
use Rattle.plans.proofs.Logs.{logs_same}
use Rattle.plans.proofs.Plans.{null_plan, dirty_is}
use Rattle.plans.proofs.Questions.{planned_from, planned_nothing, stands_from, stands_same, stopped_from}
use Rattle.plans.proofs.plan.plan_exec.Goals as goal

pub plan_all-requires-clause-may : goal.plan_all-requires-clause-may
plan_all-requires-clause-may g c = record {
  can_lend = c.any_marked.ensures.held.open_still;
  there = rw (g.met.P.Parts.same_stripes c.args.parts.now c.any_marked.new.parts c.any_marked.ensures.held.kept) (subst (λ p. AreThere (g.P.Parts.stripes_of c.args.parts.now) p (keys_of_all c.args.commands.now)) (sym c.any_marked.ensures.same) c.requires.may.there);
}

pub returns-then-any_marked : goal.returns-then-any_marked
returns-then-any_marked g c = record {
  planned = (let n : ℕ = (g.P.Parts.stripes_of c.args.parts.now) in
      let parts = g.P.Parts.part_of c.args.parts.now in
      let later = g.P.Parts.part_of c.any_marked.new.parts in
      let right = g.R.Shows.is_honest × AreRight c.args.staged.now in
      let planned = c.answered.result in
      planned_nothing g.D.Device.wrote (kept_by g.R.Shows.identity g.R.Shows.shown) (AreDue right (of_exec (shard_meaning g.R.Shows.is_steady) n parts (g.P.Parts.holder_of c.args.parts.now) c.args.watching.now c.args.commands.now)) n
      (parts, c.args.device.now) (later, c.args.device.now) planned
      (λ is_right seen operation asks. subst (λ (o : Operation). IsPlan seen o planned.reply planned.writes) (sym asks.is)
      (null_plan seen c.args.commands.now asks.watched planned.reply planned.writes
      (dirty_is (shard_meaning g.R.Shows.is_steady) n parts seen (g.P.Parts.holder_of c.args.parts.now) asks.watched c.args.watching.now c.any_marked.result asks.ends c.any_marked.ensures.marks asks.stand.marked c.requires.watching asks.once ∙ c.if-any_marked.true)
      c.answered.ensures.reply c.answered.ensures.writes))
      c.answered.ensures.writes (logs_same parts later c.any_marked.ensures.same) refl);
  unmarked = (record {
    begun = c.answered.ensures.begun;
    became =
        became_same (shard_meaning g.R.Shows.is_steady) (g.P.Parts.stripes_of c.args.parts.now) (g.P.Parts.part_of c.args.parts.now) (g.P.Parts.part_of c.any_marked.new.parts) c.any_marked.ensures.same;
  });
  stopped = search rules;
  stands = stands_same g.D.Device.serves g.D.Device.releases (g.P.Parts.part_of c.args.parts.now) (g.P.Parts.part_of c.any_marked.new.parts) c.args.device.now c.any_marked.ensures.same;
  failed = search rules;
  held = search rules;
}

pub returns : goal.returns
returns g c = record {
  planned = (let n : ℕ = (g.P.Parts.stripes_of c.args.parts.now) in
      let parts = g.P.Parts.part_of c.args.parts.now in
      let mid = g.P.Parts.part_of c.any_marked.new.parts in
      let right = g.R.Shows.is_honest × AreRight c.args.staged.now in
      let contents = shard_meaning g.R.Shows.is_steady in
      let count = g.met.P.Parts.same_stripes c.args.parts.now c.any_marked.new.parts c.any_marked.ensures.held.kept in
      let planned = rw count at c.plan_all.ensures.planned in
      planned_from g.D.Device.wrote (kept_by g.R.Shows.identity g.R.Shows.shown) c.plan_all.result (AreDue right (of_commands contents n mid c.args.commands.now))
      (AreDue right (of_exec contents n parts (g.P.Parts.holder_of c.args.parts.now) c.args.watching.now c.args.commands.now)) n parts mid c.args.device.now (g.P.Parts.part_of c.plan_all.new.parts, c.plan_all.new.device) c.any_marked.ensures.same
      (λ said writes due is_right seen operation asks. due is_right seen operation (record {
        watched = asks.watched;
        read = subst (λ p. AllRead contents n p (after seen)) (sym c.any_marked.ensures.same) asks.stand.read;
        clean = dirty_is contents n parts seen (g.P.Parts.holder_of c.args.parts.now) asks.watched c.args.watching.now c.any_marked.result asks.ends c.any_marked.ensures.marks asks.stand.marked c.requires.watching asks.once ∙ c.if-any_marked.false;
        is = asks.is;
      }))
      planned);
  unmarked = (record {
    begun = c.plan_all.ensures.unmarked.begun;
    became =
        became_twice (shard_meaning g.R.Shows.is_steady) (g.P.Parts.stripes_of c.args.parts.now) (g.P.Parts.part_of c.args.parts.now) (g.P.Parts.part_of c.any_marked.new.parts) (g.P.Parts.part_of c.plan_all.new.parts)
        (became_same (shard_meaning g.R.Shows.is_steady) (g.P.Parts.stripes_of c.args.parts.now) (g.P.Parts.part_of c.args.parts.now) (g.P.Parts.part_of c.any_marked.new.parts) c.any_marked.ensures.same) (rw (g.met.P.Parts.same_stripes c.args.parts.now c.any_marked.new.parts c.any_marked.ensures.held.kept) at c.plan_all.ensures.unmarked.became);
  });
  stopped = (let n : ℕ = (g.P.Parts.stripes_of c.args.parts.now) in
      let parts = g.P.Parts.part_of c.args.parts.now in
      let mid = g.P.Parts.part_of c.any_marked.new.parts in
      let right = g.R.Shows.is_honest × AreRight c.args.staged.now in
      let contents = shard_meaning g.R.Shows.is_steady in
      let count = g.met.P.Parts.same_stripes c.args.parts.now c.any_marked.new.parts c.any_marked.ensures.held.kept in
      let stopped = rw count at c.plan_all.ensures.stopped in
      stopped_from g.D.Device.wrote (kept_by g.R.Shows.identity g.R.Shows.shown) c.plan_all.result g.R.Shows.lends right (ExecsOn contents n mid c.args.commands.now)
      (ExecsWatching contents n parts (g.P.Parts.holder_of c.args.parts.now) c.args.watching.now c.args.commands.now) (keys_of_all c.args.commands.now) ⊥ n c.args.staged.now parts mid c.args.device.now
      (g.P.Parts.part_of c.plan_all.new.parts, c.plan_all.new.device) c.any_marked.ensures.same
      (λ seen operation asks. record {
        watched = asks.watched;
        read = subst (λ p. AllRead contents n p (after seen)) (sym c.any_marked.ensures.same) asks.stand.read;
        clean = dirty_is contents n parts seen (g.P.Parts.holder_of c.args.parts.now) asks.watched c.args.watching.now c.any_marked.result asks.ends c.any_marked.ensures.marks asks.stand.marked c.requires.watching asks.once ∙ c.if-any_marked.false;
        is = asks.is;
      })
      stopped);
  stands = (stands_from g.D.Device.serves g.D.Device.releases (g.P.Parts.part_of c.args.parts.now) (g.P.Parts.part_of c.any_marked.new.parts) c.args.device.now (g.P.Parts.part_of c.plan_all.new.parts, c.plan_all.new.device)
      c.any_marked.ensures.same c.plan_all.ensures.stands);
  failed = search rules;
  held = record { open_still = c.plan_all.ensures.held.open_still; kept = g.met.P.Parts.keeps_both c.args.parts.now c.any_marked.new.parts c.plan_all.new.parts c.any_marked.ensures.held.kept c.plan_all.ensures.held.kept };
}
