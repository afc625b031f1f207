use Rattle.std.proofs.Common.{IsOk, rules, arith, ◌≡◌, ◌∙◌, ℕ, [], refl, sym, ap, subst}
use Rattle.words.specs.declared.reply.Reply.TheVariants as reply
use Rattle.words.specs.declared.history.Operation.{Operation}
use Rattle.words.specs.Answers.{Answer}
use Rattle.words.specs.Store.{empty}
use Rattle.strings.specs.Overlays.{IsInlineAnswer, shown}
use Rattle.hybrid.specs.Staging.{AreRight}
use Rattle.hybrid.specs.Writing.{AreFit}
use Rattle.transact.specs.Memory.{of_one_key}
use Rattle.transact.specs.Plans.{IsPlan, made}
use Rattle.shards.specs.Receipts.{kept_by}
use Rattle.shards.specs.Shards.{shard_meaning}
use Rattle.transact.specs.Tables.{joined}
use Rattle.plans.specs.Planning.{AreDue, AreSettled, of_copied}
use Rattle.plans.proofs.Become.{became_same}
use Rattle.plans.proofs.Logs.{logs_same}
use Rattle.plans.proofs.Plans.{answer_there, light_writes, plan_of_unread}
use Rattle.plans.proofs.Questions.{planned_from, stands_same, stopped_full}
use Rattle.plans.proofs.plan.plan_unread.Goals as goal

pub settle-requires-clause-may : goal.settle-requires-clause-may
settle-requires-clause-may g c = record {
  can_lend = c.requires.may.can_lend;
  there = answer_there (shard_meaning g.R.Shows.is_steady) (g.P.Parts.stripes_of c.args.parts.now) (g.P.Parts.part_of c.args.parts.now) c.writes_named_keys.ensures c.args.command.now empty c.in-Ok.writes
      (ap (λ (a : Answer). a.1) c.in-Ok.ensures.answer) c.requires.may.there;
}

pub settle-requires-clause-fits : goal.settle-requires-clause-fits
settle-requires-clause-fits g c = subst AreFit (sym (ap (λ (a : Answer). a.1) c.in-Ok.ensures.answer)) (c.requires.sized empty (λ key. omega arith))

pub returns-in_default : goal.returns-in_default
returns-in_default g c = record {
  planned = search rules;
  unmarked = (record {
    begun = tt;
    became = became_same (shard_meaning g.R.Shows.is_steady) (g.P.Parts.stripes_of c.args.parts.now) (g.P.Parts.part_of c.args.parts.now) (g.P.Parts.part_of c.args.parts.now) refl;
  });
  stopped = (let store = joined (shard_meaning g.R.Shows.is_steady) (g.P.Parts.stripes_of c.args.parts.now) (g.P.Parts.part_of c.args.parts.now) in
      record {
        takes = λ right hand brief.
            let ok : IsOk c.answer_unread.result = c.answer_unread.ensures.memory (subst (λ (a : Answer). IsInlineAnswer [] a) (c.requires.unread (shown (of_one_key brief.0 (store brief.0))) empty) brief.1.texts) in
            search (rules, ok);
        logs = logs_same (g.P.Parts.part_of c.args.parts.now) (g.P.Parts.part_of c.args.parts.now) refl;
        device = refl;
      });
  stands = stands_same g.D.Device.serves g.D.Device.releases (g.P.Parts.part_of c.args.parts.now) (g.P.Parts.part_of c.args.parts.now) c.args.device.now refl;
  failed = search rules;
  held = search rules;
}

pub returns : goal.returns
returns g c = record {
  planned = (let n : ℕ = g.P.Parts.stripes_of c.args.parts.now in
      let parts = g.P.Parts.part_of c.args.parts.now in
      let right = g.R.Shows.is_honest × AreRight c.args.staged.now in
      planned_from g.D.Device.wrote (kept_by g.R.Shows.identity g.R.Shows.shown) c.settle.result (AreSettled (reply.Single c.in-Ok.reply) c.in-Ok.writes) (AreDue right (of_copied (shard_meaning g.R.Shows.is_steady) n parts c.args.command.now)) n
      parts parts c.args.device.now (g.P.Parts.part_of c.settle.new.parts, c.settle.new.device) refl
      (λ said writes settled is_right seen operation asks.
      subst (λ (o : Operation). IsPlan seen o said writes) (sym asks.is)
      (plan_of_unread seen c.args.command.now (c.in-Ok.reply, c.in-Ok.writes) said writes c.requires.touches c.requires.unread c.in-Ok.ensures.answer settled.reply_is settled.writes_are))
      c.settle.ensures.planned);
  unmarked = search rules;
  stopped = (let n : ℕ = g.P.Parts.stripes_of c.args.parts.now in
      let parts = g.P.Parts.part_of c.args.parts.now in
      let right = g.R.Shows.is_honest × AreRight c.args.staged.now in
      stopped_full g.D.Device.wrote (kept_by g.R.Shows.identity g.R.Shows.shown) c.settle.result g.R.Shows.lends right (of_copied (shard_meaning g.R.Shows.is_steady) n parts c.args.command.now) c.in-Ok.writes n c.args.staged.now
      parts parts c.args.device.now (g.P.Parts.part_of c.settle.new.parts, c.settle.new.device) refl
      (λ writes light is is_right seen operation asks.
      subst (λ (o : Operation). writes ≡ made seen o) (sym asks.is)
      (is ∙ light_writes writes c.in-Ok.writes is light
      ∙ (plan_of_unread seen c.args.command.now (c.in-Ok.reply, c.in-Ok.writes) _ _ c.requires.touches c.requires.unread c.in-Ok.ensures.answer refl refl).writes_due))
      c.settle.ensures.stopped);
  stands = search rules;
  failed = search rules;
  held = search rules;
}
