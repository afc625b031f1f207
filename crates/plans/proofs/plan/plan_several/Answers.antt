use Rattle.std.proofs.Common.{rules, ◌≡◌, ◌∙◌, ℕ, IfErr, IfOk, refl, sym, subst}
use Rattle.words.specs.declared.reply.Reply.TheVariants as reply
use Rattle.words.specs.declared.history.Operation.{Operation}
use Rattle.words.specs.Commands.{keys_of}
use Rattle.hybrid.specs.Staging.{AreRight}
use Rattle.hybrid.specs.Writing.{AreFit}
use Rattle.transact.specs.Plans.{IsPlan, made}
use Rattle.transact.specs.Tables.{AreThere, joined}
use Rattle.shards.specs.Receipts.{kept_by}
use Rattle.shards.specs.Shards.{shard_meaning}
use Rattle.plans.specs.Planning.{AreDue, AreSettled, HasPlanned, HasStopped, of_copied}
use Rattle.plans.proofs.Become.{became_same, became_twice}
use Rattle.plans.proofs.Plans.{answer_there, light_writes, plan_of_answer}
use Rattle.plans.proofs.Questions.{planned_from, stands_from, stopped_full}
use Rattle.plans.proofs.Run.{first_writes, run_first}
use Rattle.plans.proofs.plan.plan_several.Goals as goal

pub settle-requires-clause-may : goal.settle-requires-clause-may
settle-requires-clause-may g c =
    let n : ℕ = g.P.Parts.stripes_of c.args.parts.now in
    let parts = g.P.Parts.part_of c.args.parts.now in
    let right = g.R.Shows.is_honest × AreRight c.args.staged.now in
    let contents = shard_meaning g.R.Shows.is_steady in
    let on = c.in-Some.ensures.ran in
    record {
      can_lend = c.run_next.ensures.held.open_still;
      there = rw (g.met.P.Parts.same_stripes c.args.parts.now c.run_next.new.parts c.run_next.ensures.held.kept) (answer_there contents n (g.P.Parts.part_of c.run_next.new.parts) c.writes_named_keys.ensures c.args.command.now on.found c.run_next.new.writes
          (first_writes right (joined contents n parts) c.args.command.now c.new-writes.result c.run_next.new.writes c.in-Some.reply on c.new-writes.ensures)
          (subst (λ p. AreThere n p (keys_of c.args.command.now)) (sym c.run_next.ensures.same) c.requires.may.there));
    }

pub settle-requires-clause-fits : goal.settle-requires-clause-fits
settle-requires-clause-fits g c =
    let right = g.R.Shows.is_honest × AreRight c.args.staged.now in
    let on = c.in-Some.ensures.ran in
    subst AreFit (sym (first_writes right (joined (shard_meaning g.R.Shows.is_steady) (g.P.Parts.stripes_of c.args.parts.now) (g.P.Parts.part_of c.args.parts.now)) c.args.command.now c.new-writes.result c.run_next.new.writes c.in-Some.reply on c.new-writes.ensures))
    (c.requires.sized on.found on.short)

pub plan_copied-requires-clause-may : goal.plan_copied-requires-clause-may
plan_copied-requires-clause-may g c = record {
  can_lend = c.run_next.ensures.held.open_still;
  there = rw (g.met.P.Parts.same_stripes c.args.parts.now c.run_next.new.parts c.run_next.ensures.held.kept) (subst (λ p. AreThere (g.P.Parts.stripes_of c.args.parts.now) p (keys_of c.args.command.now)) (sym c.run_next.ensures.same) c.requires.may.there);
}

pub returns-in-Some : goal.returns-in-Some
returns-in-Some g c = record {
  planned = (let n : ℕ = g.P.Parts.stripes_of c.args.parts.now in
      let parts = g.P.Parts.part_of c.args.parts.now in
      let mid = g.P.Parts.part_of c.run_next.new.parts in
      let right = g.R.Shows.is_honest × AreRight c.args.staged.now in
      let contents = shard_meaning g.R.Shows.is_steady in
      let planned = rw (g.met.P.Parts.same_stripes c.args.parts.now c.run_next.new.parts c.run_next.ensures.held.kept) at c.settle.ensures.planned in
      planned_from g.D.Device.wrote (kept_by g.R.Shows.identity g.R.Shows.shown) c.settle.result (AreSettled (reply.Single c.in-Some.reply) c.run_next.new.writes) (AreDue right (of_copied contents n parts c.args.command.now)) n
      parts mid c.args.device.now (g.P.Parts.part_of c.settle.new.parts, c.settle.new.device) c.run_next.ensures.same
      (λ said writes settled is_right seen operation asks.
      subst (λ (o : Operation). IsPlan seen o said writes) (sym asks.is)
      (plan_of_answer contents n parts c.depends_on_named_keys.ensures seen c.args.command.now (c.in-Some.reply, c.run_next.new.writes) said writes c.requires.touches
      (run_first right (joined contents n parts) c.args.command.now c.new-writes.result c.run_next.new.writes c.in-Some.reply c.in-Some.ensures.ran c.new-writes.ensures is_right)
      asks.read c.requires.may.there settled.reply_is settled.writes_are))
      planned);
  unmarked = (record {
    begun = c.settle.ensures.unmarked.begun;
    became =
        became_twice (shard_meaning g.R.Shows.is_steady) (g.P.Parts.stripes_of c.args.parts.now) (g.P.Parts.part_of c.args.parts.now) (g.P.Parts.part_of c.run_next.new.parts) (g.P.Parts.part_of c.settle.new.parts)
        (became_same (shard_meaning g.R.Shows.is_steady) (g.P.Parts.stripes_of c.args.parts.now) (g.P.Parts.part_of c.args.parts.now) (g.P.Parts.part_of c.run_next.new.parts) c.run_next.ensures.same) (rw (g.met.P.Parts.same_stripes c.args.parts.now c.run_next.new.parts c.run_next.ensures.held.kept) at c.settle.ensures.unmarked.became);
  });
  stopped = (let n : ℕ = g.P.Parts.stripes_of c.args.parts.now in
      let parts = g.P.Parts.part_of c.args.parts.now in
      let mid = g.P.Parts.part_of c.run_next.new.parts in
      let right = g.R.Shows.is_honest × AreRight c.args.staged.now in
      let contents = shard_meaning g.R.Shows.is_steady in
      let stopped = rw (g.met.P.Parts.same_stripes c.args.parts.now c.run_next.new.parts c.run_next.ensures.held.kept) at c.settle.ensures.stopped in
      stopped_full g.D.Device.wrote (kept_by g.R.Shows.identity g.R.Shows.shown) c.settle.result g.R.Shows.lends right (of_copied contents n parts c.args.command.now) c.run_next.new.writes n c.args.staged.now
      parts mid c.args.device.now (g.P.Parts.part_of c.settle.new.parts, c.settle.new.device) c.run_next.ensures.same
      (λ writes light is is_right seen operation asks.
      subst (λ (o : Operation). writes ≡ made seen o) (sym asks.is)
      (is ∙ light_writes writes c.run_next.new.writes is light
      ∙ (plan_of_answer contents n parts c.depends_on_named_keys.ensures seen c.args.command.now (c.in-Some.reply, c.run_next.new.writes) _ _ c.requires.touches
      (run_first right (joined contents n parts) c.args.command.now c.new-writes.result c.run_next.new.writes c.in-Some.reply c.in-Some.ensures.ran c.new-writes.ensures is_right)
      asks.read c.requires.may.there refl refl).writes_due))
      stopped);
  stands = stands_from g.D.Device.serves g.D.Device.releases (g.P.Parts.part_of c.args.parts.now) (g.P.Parts.part_of c.run_next.new.parts) c.args.device.now (g.P.Parts.part_of c.settle.new.parts, c.settle.new.device) c.run_next.ensures.same c.settle.ensures.stands;
  failed = search rules;
  held = record { open_still = c.settle.ensures.held.open_still; kept = g.met.P.Parts.keeps_both c.args.parts.now c.run_next.new.parts c.settle.new.parts c.run_next.ensures.held.kept c.settle.ensures.held.kept };
}

pub returns : goal.returns
returns g c = record {
  planned = (let n : ℕ = g.P.Parts.stripes_of c.args.parts.now in
      let right = g.R.Shows.is_honest × AreRight c.args.staged.now in
      let planned = rw (g.met.P.Parts.same_stripes c.args.parts.now c.run_next.new.parts c.run_next.ensures.held.kept) at c.plan_copied.ensures.planned in
      subst (λ p. IfOk c.plan_copied.result (HasPlanned g.D.Device.wrote (kept_by g.R.Shows.identity g.R.Shows.shown) (AreDue right (of_copied (shard_meaning g.R.Shows.is_steady) n p c.args.command.now)) n
      (p, c.args.device.now) (g.P.Parts.part_of c.plan_copied.new.parts, c.plan_copied.new.device))) c.run_next.ensures.same planned);
  unmarked = (record {
    begun = c.plan_copied.ensures.unmarked.begun;
    became =
        became_twice (shard_meaning g.R.Shows.is_steady) (g.P.Parts.stripes_of c.args.parts.now) (g.P.Parts.part_of c.args.parts.now) (g.P.Parts.part_of c.run_next.new.parts) (g.P.Parts.part_of c.plan_copied.new.parts)
        (became_same (shard_meaning g.R.Shows.is_steady) (g.P.Parts.stripes_of c.args.parts.now) (g.P.Parts.part_of c.args.parts.now) (g.P.Parts.part_of c.run_next.new.parts) c.run_next.ensures.same) (rw (g.met.P.Parts.same_stripes c.args.parts.now c.run_next.new.parts c.run_next.ensures.held.kept) at c.plan_copied.ensures.unmarked.became);
  });
  stopped = (let n : ℕ = g.P.Parts.stripes_of c.args.parts.now in
      let right = g.R.Shows.is_honest × AreRight c.args.staged.now in
      let stopped = rw (g.met.P.Parts.same_stripes c.args.parts.now c.run_next.new.parts c.run_next.ensures.held.kept) at c.plan_copied.ensures.stopped in
      subst (λ p. IfErr c.plan_copied.result (HasStopped g.D.Device.wrote (kept_by g.R.Shows.identity g.R.Shows.shown) g.R.Shows.lends right (of_copied (shard_meaning g.R.Shows.is_steady) n p c.args.command.now) n c.args.staged.now
      (p, c.args.device.now) (g.P.Parts.part_of c.plan_copied.new.parts, c.plan_copied.new.device))) c.run_next.ensures.same stopped);
  stands = (stands_from g.D.Device.serves g.D.Device.releases (g.P.Parts.part_of c.args.parts.now) (g.P.Parts.part_of c.run_next.new.parts) c.args.device.now (g.P.Parts.part_of c.plan_copied.new.parts, c.plan_copied.new.device)
      c.run_next.ensures.same c.plan_copied.ensures.stands);
  failed = search rules;
  held = record { open_still = c.plan_copied.ensures.held.open_still; kept = g.met.P.Parts.keeps_both c.args.parts.now c.run_next.new.parts c.plan_copied.new.parts c.run_next.ensures.held.kept c.plan_copied.ensures.held.kept };
}
