use Rattle.std.proofs.Common.{rules, ◌≡◌, ◌∙◌, ℕ, IfErr, IfOk, refl, sym, ap, subst, cond, nat_lt}
use Rattle.words.specs.declared.limits.TheConstants.{WEIGHT_MAX}
use Rattle.words.specs.declared.reply.Reply.TheVariants as reply
use Rattle.words.specs.History.{too_much}
use Rattle.words.specs.declared.history.Operation.{Operation}
use Rattle.words.specs.Commands.{keys_of_all}
use Rattle.words.specs.Store.{weight}
use Rattle.hybrid.specs.Staging.{AreRight}
use Rattle.transact.specs.Plans.{IsPlan, made}
use Rattle.transact.specs.Tables.{AreThere, keys_written}
use Rattle.shards.specs.Receipts.{kept_by}
use Rattle.shards.specs.Shards.{shard_meaning}
use Rattle.plans.specs.Planning.{AreDue, AreSettled, HasPlanned, HasStopped, of_commands}
use Rattle.plans.proofs.Become.{became_same, became_twice}
use Rattle.plans.proofs.Plans.{light_writes, plan_of_run}
use Rattle.plans.proofs.Questions.{planned_from, stands_from, stopped_full}
use Rattle.plans.proofs.plan.plan_all.Goals as goal

pub settle-requires-clause-may : goal.settle-requires-clause-may
settle-requires-clause-may g c = record {
  can_lend = c.answer_each.ensures.held.open_still;
  there = rw (g.met.P.Parts.same_stripes c.args.parts.now c.answer_each.new.parts c.answer_each.ensures.held.kept) (subst (λ p. AreThere (g.P.Parts.stripes_of c.args.parts.now) p (keys_written c.in-Some.writes)) (sym c.answer_each.ensures.same) c.in-Some.ensures.ran.there);
}

pub plan_all_copied-requires-clause-may : goal.plan_all_copied-requires-clause-may
plan_all_copied-requires-clause-may g c = record {
  can_lend = c.answer_each.ensures.held.open_still;
  there = rw (g.met.P.Parts.same_stripes c.args.parts.now c.answer_each.new.parts c.answer_each.ensures.held.kept) (subst (λ p. AreThere (g.P.Parts.stripes_of c.args.parts.now) p (keys_of_all c.args.commands.now)) (sym c.answer_each.ensures.same) c.requires.may.there);
}

pub returns-in-Some : goal.returns-in-Some
returns-in-Some g c = record {
  planned = (let n : ℕ = g.P.Parts.stripes_of c.args.parts.now in
      let parts = g.P.Parts.part_of c.args.parts.now in
      let mid = g.P.Parts.part_of c.answer_each.new.parts in
      let right = g.R.Shows.is_honest × AreRight c.args.staged.now in
      let contents = shard_meaning g.R.Shows.is_steady in
      let planned = rw (g.met.P.Parts.same_stripes c.args.parts.now c.answer_each.new.parts c.answer_each.ensures.held.kept) at c.settle.ensures.planned in
      planned_from g.D.Device.wrote (kept_by g.R.Shows.identity g.R.Shows.shown) c.settle.result (AreSettled (reply.Array c.from_vec.result) c.in-Some.writes) (AreDue right (of_commands contents n parts c.args.commands.now)) n
      parts mid c.args.device.now (g.P.Parts.part_of c.settle.new.parts, c.settle.new.device) c.answer_each.ensures.same
      (λ said writes settled is_right seen operation asks.
      subst (λ (o : Operation). IsPlan seen o said writes) (sym asks.is)
      (plan_of_run contents n parts c.depends_on_named_keys.ensures seen c.args.commands.now asks.watched (c.in-Some.replies.items, c.in-Some.writes) said writes
      asks.clean (c.in-Some.ensures.ran.are is_right) asks.read c.requires.may.there (settled.reply_is ∙ ap (λ l. cond (nat_lt WEIGHT_MAX (weight c.in-Some.writes)) too_much (reply.Array l)) c.from_vec.ensures) settled.writes_are))
      planned);
  unmarked = (record {
    begun = c.settle.ensures.unmarked.begun;
    became =
        became_twice (shard_meaning g.R.Shows.is_steady) (g.P.Parts.stripes_of c.args.parts.now) (g.P.Parts.part_of c.args.parts.now) (g.P.Parts.part_of c.answer_each.new.parts) (g.P.Parts.part_of c.settle.new.parts)
        (became_same (shard_meaning g.R.Shows.is_steady) (g.P.Parts.stripes_of c.args.parts.now) (g.P.Parts.part_of c.args.parts.now) (g.P.Parts.part_of c.answer_each.new.parts) c.answer_each.ensures.same) (rw (g.met.P.Parts.same_stripes c.args.parts.now c.answer_each.new.parts c.answer_each.ensures.held.kept) at c.settle.ensures.unmarked.became);
  });
  stopped = (let n : ℕ = g.P.Parts.stripes_of c.args.parts.now in
      let parts = g.P.Parts.part_of c.args.parts.now in
      let mid = g.P.Parts.part_of c.answer_each.new.parts in
      let right = g.R.Shows.is_honest × AreRight c.args.staged.now in
      let contents = shard_meaning g.R.Shows.is_steady in
      let stopped = rw (g.met.P.Parts.same_stripes c.args.parts.now c.answer_each.new.parts c.answer_each.ensures.held.kept) at c.settle.ensures.stopped in
      stopped_full g.D.Device.wrote (kept_by g.R.Shows.identity g.R.Shows.shown) c.settle.result g.R.Shows.lends right (of_commands contents n parts c.args.commands.now) c.in-Some.writes n c.args.staged.now
      parts mid c.args.device.now (g.P.Parts.part_of c.settle.new.parts, c.settle.new.device) c.answer_each.ensures.same
      (λ writes light is is_right seen operation asks.
      subst (λ (o : Operation). writes ≡ made seen o) (sym asks.is)
      (is ∙ light_writes writes c.in-Some.writes is light
      ∙ (plan_of_run contents n parts c.depends_on_named_keys.ensures seen c.args.commands.now asks.watched (c.in-Some.replies.items, c.in-Some.writes) _ _
      asks.clean (c.in-Some.ensures.ran.are is_right) asks.read c.requires.may.there refl refl).writes_due))
      stopped);
  stands = stands_from g.D.Device.serves g.D.Device.releases (g.P.Parts.part_of c.args.parts.now) (g.P.Parts.part_of c.answer_each.new.parts) c.args.device.now (g.P.Parts.part_of c.settle.new.parts, c.settle.new.device) c.answer_each.ensures.same c.settle.ensures.stands;
  failed = search rules;
  held = record { open_still = c.settle.ensures.held.open_still; kept = g.met.P.Parts.keeps_both c.args.parts.now c.answer_each.new.parts c.settle.new.parts c.answer_each.ensures.held.kept c.settle.ensures.held.kept };
}

pub returns : goal.returns
returns g c = record {
  planned = (let n : ℕ = g.P.Parts.stripes_of c.args.parts.now in
      let right = g.R.Shows.is_honest × AreRight c.args.staged.now in
      let planned = rw (g.met.P.Parts.same_stripes c.args.parts.now c.answer_each.new.parts c.answer_each.ensures.held.kept) at c.plan_all_copied.ensures.planned in
      subst (λ p. IfOk c.plan_all_copied.result (HasPlanned g.D.Device.wrote (kept_by g.R.Shows.identity g.R.Shows.shown) (AreDue right (of_commands (shard_meaning g.R.Shows.is_steady) n p c.args.commands.now)) n
      (p, c.args.device.now) (g.P.Parts.part_of c.plan_all_copied.new.parts, c.plan_all_copied.new.device))) c.answer_each.ensures.same planned);
  unmarked = (record {
    begun = c.plan_all_copied.ensures.unmarked.begun;
    became =
        became_twice (shard_meaning g.R.Shows.is_steady) (g.P.Parts.stripes_of c.args.parts.now) (g.P.Parts.part_of c.args.parts.now) (g.P.Parts.part_of c.answer_each.new.parts) (g.P.Parts.part_of c.plan_all_copied.new.parts)
        (became_same (shard_meaning g.R.Shows.is_steady) (g.P.Parts.stripes_of c.args.parts.now) (g.P.Parts.part_of c.args.parts.now) (g.P.Parts.part_of c.answer_each.new.parts) c.answer_each.ensures.same) (rw (g.met.P.Parts.same_stripes c.args.parts.now c.answer_each.new.parts c.answer_each.ensures.held.kept) at c.plan_all_copied.ensures.unmarked.became);
  });
  stopped = (let n : ℕ = g.P.Parts.stripes_of c.args.parts.now in
      let right = g.R.Shows.is_honest × AreRight c.args.staged.now in
      let stopped = rw (g.met.P.Parts.same_stripes c.args.parts.now c.answer_each.new.parts c.answer_each.ensures.held.kept) at c.plan_all_copied.ensures.stopped in
      subst (λ p. IfErr c.plan_all_copied.result (HasStopped g.D.Device.wrote (kept_by g.R.Shows.identity g.R.Shows.shown) g.R.Shows.lends right (of_commands (shard_meaning g.R.Shows.is_steady) n p c.args.commands.now) n c.args.staged.now
      (p, c.args.device.now) (g.P.Parts.part_of c.plan_all_copied.new.parts, c.plan_all_copied.new.device))) c.answer_each.ensures.same stopped);
  stands = (stands_from g.D.Device.serves g.D.Device.releases (g.P.Parts.part_of c.args.parts.now) (g.P.Parts.part_of c.answer_each.new.parts) c.args.device.now (g.P.Parts.part_of c.plan_all_copied.new.parts, c.plan_all_copied.new.device)
      c.answer_each.ensures.same c.plan_all_copied.ensures.stands);
  failed = search rules;
  held = record { open_still = c.plan_all_copied.ensures.held.open_still; kept = g.met.P.Parts.keeps_both c.args.parts.now c.answer_each.new.parts c.plan_all_copied.new.parts c.answer_each.ensures.held.kept c.plan_all_copied.ensures.held.kept };
}
