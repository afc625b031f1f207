use Rattle.std.proofs.Common.{rules, ◌≡◌, ◌∙◌, ◌∷◌, [], ℕ, Option, refl, sym, ap, subst}
use Rattle.words.specs.declared.reply.Reply.TheVariants as reply
use Rattle.words.specs.declared.history.Operation.{Operation}
use Rattle.words.specs.Answers.{Answer}
use Rattle.words.specs.Commands.{keys_of}
use Rattle.words.specs.Store.{Bytes, empty, written}
use Rattle.hybrid.specs.Staging.{AreRight}
use Rattle.hybrid.specs.Writing.{AreFit}
use Rattle.transact.specs.Plans.{IsPlan, made}
use Rattle.transact.specs.Tables.{AreThere, joined, values_of}
use Rattle.shards.specs.Receipts.{kept_by}
use Rattle.shards.specs.Shards.{shard_meaning}
use Rattle.plans.specs.Planning.{AreDue, AreSettled, of_copied}
use Rattle.plans.proofs.Become.{became_same, became_twice}
use Rattle.plans.proofs.Found.{short_one}
use Rattle.plans.proofs.Plans.{answer_there, light_writes, plan_of_one}
use Rattle.plans.proofs.Questions.{planned_from, stands_same, stopped_full}
use Rattle.plans.proofs.plan.plan_key.Goals as goal

pub settle-requires-clause-may : goal.settle-requires-clause-may
settle-requires-clause-may g c =
    let n : ℕ = g.P.Parts.stripes_of c.args.parts.now in
    let on = c.in-Ok.ensures.answer in
    record {
      can_lend = c.answer_key.ensures.held.open_still;
      there = rw (g.met.P.Parts.same_stripes c.args.parts.now c.answer_key.new.parts c.answer_key.ensures.held.kept) (answer_there (shard_meaning g.R.Shows.is_steady) n (g.P.Parts.part_of c.answer_key.new.parts) c.writes_named_keys.ensures c.args.command.now
          (written empty ((c.args.key.now, on.value) ∷ [])) c.in-Ok.writes (ap (λ (a : Answer). a.1) on.answer_is)
          (subst (λ p. AreThere n p (keys_of c.args.command.now)) (sym c.answer_key.ensures.same) c.requires.may.there));
    }

pub settle-requires-clause-fits : goal.settle-requires-clause-fits
settle-requires-clause-fits g c =
    let on = c.in-Ok.ensures.answer in
    subst AreFit (sym (ap (λ (a : Answer). a.1) on.answer_is)) (c.requires.sized (written empty ((c.args.key.now, on.value) ∷ [])) (short_one c.args.key.now on.value on.short))

pub returns-in-Ok : goal.returns-in-Ok
returns-in-Ok g c = record {
  planned = (let n : ℕ = g.P.Parts.stripes_of c.args.parts.now in
      let parts = g.P.Parts.part_of c.args.parts.now in
      let mid = g.P.Parts.part_of c.answer_key.new.parts in
      let right = g.R.Shows.is_honest × AreRight c.args.staged.now in
      let contents = shard_meaning g.R.Shows.is_steady in
      let on = c.in-Ok.ensures.answer in
      let planned = rw (g.met.P.Parts.same_stripes c.args.parts.now c.answer_key.new.parts c.answer_key.ensures.held.kept) at c.settle.ensures.planned in
      planned_from g.D.Device.wrote (kept_by g.R.Shows.identity g.R.Shows.shown) c.settle.result (AreSettled (reply.Single c.in-Ok.reply) c.in-Ok.writes) (AreDue right (of_copied contents n parts c.args.command.now)) n
      parts mid c.args.device.now (g.P.Parts.part_of c.settle.new.parts, c.settle.new.device) c.answer_key.ensures.same
      (λ said writes settled is_right seen operation asks.
      let found = ap (λ (v : Option Bytes). (c.args.key.now, v) ∷ []) (on.is is_right) ∙ ap (values_of (joined contents n parts)) (sym c.requires.one) in
      subst (λ (o : Operation). IsPlan seen o said writes) (sym asks.is)
      (plan_of_one contents n parts c.depends_on_named_keys.ensures seen c.args.command.now ((c.args.key.now, on.value) ∷ []) [] (c.in-Ok.reply, c.in-Ok.writes) said writes
      c.requires.touches refl found on.answer_is asks.read c.requires.may.there settled.reply_is settled.writes_are))
      planned);
  unmarked = record {
    begun = c.settle.ensures.unmarked.begun;
    became =
        became_twice (shard_meaning g.R.Shows.is_steady) (g.P.Parts.stripes_of c.args.parts.now) (g.P.Parts.part_of c.args.parts.now) (g.P.Parts.part_of c.answer_key.new.parts) (g.P.Parts.part_of c.settle.new.parts)
        (became_same (shard_meaning g.R.Shows.is_steady) (g.P.Parts.stripes_of c.args.parts.now) (g.P.Parts.part_of c.args.parts.now) (g.P.Parts.part_of c.answer_key.new.parts) c.answer_key.ensures.same) (rw (g.met.P.Parts.same_stripes c.args.parts.now c.answer_key.new.parts c.answer_key.ensures.held.kept) at c.settle.ensures.unmarked.became);
  };
  stopped = (let n : ℕ = g.P.Parts.stripes_of c.args.parts.now in
      let parts = g.P.Parts.part_of c.args.parts.now in
      let mid = g.P.Parts.part_of c.answer_key.new.parts in
      let right = g.R.Shows.is_honest × AreRight c.args.staged.now in
      let contents = shard_meaning g.R.Shows.is_steady in
      let on = c.in-Ok.ensures.answer in
      let stopped = rw (g.met.P.Parts.same_stripes c.args.parts.now c.answer_key.new.parts c.answer_key.ensures.held.kept) at c.settle.ensures.stopped in
      stopped_full g.D.Device.wrote (kept_by g.R.Shows.identity g.R.Shows.shown) c.settle.result g.R.Shows.lends right (of_copied contents n parts c.args.command.now) c.in-Ok.writes n c.args.staged.now
      parts mid c.args.device.now (g.P.Parts.part_of c.settle.new.parts, c.settle.new.device) c.answer_key.ensures.same
      (λ writes light is is_right seen operation asks.
      let found = ap (λ (v : Option Bytes). (c.args.key.now, v) ∷ []) (on.is is_right) ∙ ap (values_of (joined contents n parts)) (sym c.requires.one) in
      subst (λ (o : Operation). writes ≡ made seen o) (sym asks.is)
      (is ∙ light_writes writes c.in-Ok.writes is light
      ∙ (plan_of_one contents n parts c.depends_on_named_keys.ensures seen c.args.command.now ((c.args.key.now, on.value) ∷ []) [] (c.in-Ok.reply, c.in-Ok.writes) _ _
      c.requires.touches refl found on.answer_is asks.read c.requires.may.there refl refl).writes_due))
      stopped);
  stands = search rules;
  failed = search rules;
  held = record { open_still = c.settle.ensures.held.open_still; kept = g.met.P.Parts.keeps_both c.args.parts.now c.answer_key.new.parts c.settle.new.parts c.answer_key.ensures.held.kept c.settle.ensures.held.kept };
}

pub returns-in-Err : goal.returns-in-Err
returns-in-Err g c = record {
  planned = search rules;
  unmarked = (record {
    begun = tt;
    became =
        became_same (shard_meaning g.R.Shows.is_steady) (g.P.Parts.stripes_of c.args.parts.now) (g.P.Parts.part_of c.args.parts.now) (g.P.Parts.part_of c.answer_key.new.parts) c.answer_key.ensures.same;
  });
  stopped = search rules;
  stands = stands_same g.D.Device.serves g.D.Device.releases (g.P.Parts.part_of c.args.parts.now) (g.P.Parts.part_of c.answer_key.new.parts) c.args.device.now c.answer_key.ensures.same;
  failed = search rules;
  held = search rules;
}
