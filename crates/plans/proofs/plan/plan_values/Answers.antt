use Rattle.std.proofs.Common.{rules, ◌∙◌, ℕ, IfErr, IfOk, refl, sym, subst}
use Rattle.words.specs.declared.command.Command.{Command}
use Rattle.words.specs.declared.history.Operation.{Operation}
use Rattle.words.specs.Commands.{keys_of}
use Rattle.hybrid.specs.Staging.{AreRight}
use Rattle.transact.specs.Plans.{IsPlan}
use Rattle.transact.specs.Tables.{AreThere}
use Rattle.shards.specs.Receipts.{kept_by}
use Rattle.shards.specs.Shards.{shard_meaning}
use Rattle.plans.specs.Planning.{AreDue, HasPlanned, HasStopped, of_copied}
use Rattle.plans.proofs.Become.{became_same, became_twice}
use Rattle.plans.proofs.Logs.{logs_same}
use Rattle.plans.proofs.Plans.{plan_of_items}
use Rattle.plans.proofs.Questions.{planned_nothing, stands_from, stands_same}
use Rattle.plans.proofs.plan.plan_values.Goals as goal

pub add_values-requires : goal.add_values-requires
add_values-requires g c =
    let n : ℕ = g.P.Parts.stripes_of c.args.parts.now in
    record {
      may = record {
        can_lend = c.requires.may.can_lend;
        there = subst (λ (x : Command). AreThere n (g.P.Parts.part_of c.args.parts.now) (keys_of x)) c.requires.is c.requires.may.there;
      };
    }

pub plan_copied-requires-clause-may : goal.plan_copied-requires-clause-may
plan_copied-requires-clause-may g c = record {
  can_lend = c.add_values.ensures.held.open_still;
  there = rw (g.met.P.Parts.same_stripes c.args.parts.now c.add_values.new.parts c.add_values.ensures.held.kept) (subst (λ p. AreThere (g.P.Parts.stripes_of c.args.parts.now) p (keys_of c.args.command.now)) (sym c.add_values.ensures.same) c.requires.may.there);
}

pub returns-then-add_values : goal.returns-then-add_values
returns-then-add_values g c = record {
  planned = (let n : ℕ = g.P.Parts.stripes_of c.args.parts.now in
      let parts = g.P.Parts.part_of c.args.parts.now in
      let later = g.P.Parts.part_of c.add_values.new.parts in
      let right = g.R.Shows.is_honest × AreRight c.args.staged.now in
      let planned = c.answered.result in
      planned_nothing g.D.Device.wrote (kept_by g.R.Shows.identity g.R.Shows.shown) (AreDue right (of_copied (shard_meaning g.R.Shows.is_steady) n parts c.args.command.now)) n
      (parts, c.args.device.now) (later, c.args.device.now) planned
      (λ is_right seen operation asks. subst (λ (o : Operation). IsPlan seen o planned.reply planned.writes) (sym asks.is)
      (plan_of_items (shard_meaning g.R.Shows.is_steady) n parts seen c.args.command.now c.args.keys.now c.from_vec.result c.room_for-items.result.items planned.reply planned.writes c.requires.is c.room_for-items.ensures
      (c.from_vec.ensures ∙ c.if-add_values.ensures.items is_right) asks.read (subst (λ (x : Command). AreThere n parts (keys_of x)) c.requires.is c.requires.may.there) c.answered.ensures.reply c.answered.ensures.writes))
      c.answered.ensures.writes (logs_same parts later c.add_values.ensures.same) refl);
  unmarked = (record {
    begun = c.answered.ensures.begun;
    became =
        became_same (shard_meaning g.R.Shows.is_steady) (g.P.Parts.stripes_of c.args.parts.now) (g.P.Parts.part_of c.args.parts.now) (g.P.Parts.part_of c.add_values.new.parts) c.add_values.ensures.same;
  });
  stopped = search rules;
  stands = stands_same g.D.Device.serves g.D.Device.releases (g.P.Parts.part_of c.args.parts.now) (g.P.Parts.part_of c.add_values.new.parts) c.args.device.now c.add_values.ensures.same;
  failed = search rules;
  held = search rules;
}

pub returns : goal.returns
returns g c = record {
  planned = (let n : ℕ = g.P.Parts.stripes_of c.args.parts.now in
      let right = g.R.Shows.is_honest × AreRight c.args.staged.now in
      let planned = rw (g.met.P.Parts.same_stripes c.args.parts.now c.add_values.new.parts c.add_values.ensures.held.kept) at c.plan_copied.ensures.planned in
      subst (λ p. IfOk c.plan_copied.result (HasPlanned g.D.Device.wrote (kept_by g.R.Shows.identity g.R.Shows.shown) (AreDue right (of_copied (shard_meaning g.R.Shows.is_steady) n p c.args.command.now)) n
      (p, c.args.device.now) (g.P.Parts.part_of c.plan_copied.new.parts, c.plan_copied.new.device))) c.add_values.ensures.same planned);
  unmarked = (record {
    begun = c.plan_copied.ensures.unmarked.begun;
    became =
        became_twice (shard_meaning g.R.Shows.is_steady) (g.P.Parts.stripes_of c.args.parts.now) (g.P.Parts.part_of c.args.parts.now) (g.P.Parts.part_of c.add_values.new.parts) (g.P.Parts.part_of c.plan_copied.new.parts)
        (became_same (shard_meaning g.R.Shows.is_steady) (g.P.Parts.stripes_of c.args.parts.now) (g.P.Parts.part_of c.args.parts.now) (g.P.Parts.part_of c.add_values.new.parts) c.add_values.ensures.same) (rw (g.met.P.Parts.same_stripes c.args.parts.now c.add_values.new.parts c.add_values.ensures.held.kept) at c.plan_copied.ensures.unmarked.became);
  });
  stopped = (let n : ℕ = g.P.Parts.stripes_of c.args.parts.now in
      let right = g.R.Shows.is_honest × AreRight c.args.staged.now in
      let stopped = rw (g.met.P.Parts.same_stripes c.args.parts.now c.add_values.new.parts c.add_values.ensures.held.kept) at c.plan_copied.ensures.stopped in
      subst (λ p. IfErr c.plan_copied.result (HasStopped g.D.Device.wrote (kept_by g.R.Shows.identity g.R.Shows.shown) g.R.Shows.lends right (of_copied (shard_meaning g.R.Shows.is_steady) n p c.args.command.now) n c.args.staged.now
      (p, c.args.device.now) (g.P.Parts.part_of c.plan_copied.new.parts, c.plan_copied.new.device))) c.add_values.ensures.same stopped);
  stands = (stands_from g.D.Device.serves g.D.Device.releases (g.P.Parts.part_of c.args.parts.now) (g.P.Parts.part_of c.add_values.new.parts) c.args.device.now (g.P.Parts.part_of c.plan_copied.new.parts, c.plan_copied.new.device)
      c.add_values.ensures.same c.plan_copied.ensures.stands);
  failed = search rules;
  held = record { open_still = c.plan_copied.ensures.held.open_still; kept = g.met.P.Parts.keeps_both c.args.parts.now c.add_values.new.parts c.plan_copied.new.parts c.add_values.ensures.held.kept c.plan_copied.ensures.held.kept };
}
