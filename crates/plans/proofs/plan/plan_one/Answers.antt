use Rattle.std.proofs.Common.{rules, sym, subst, refl, IfErr}
use Rattle.words.specs.declared.command.Command.{Command}
use Rattle.hybrid.specs.Staging.{AreRight}
use Rattle.shards.specs.Receipts.{kept_by}
use Rattle.shards.specs.Shards.{logs_of, shard_meaning}
use Rattle.plans.specs.Planning.{AreDue, AreWanted, HasStopped, TakesMemory, of_command, of_get}
use Rattle.plans.proofs.Become.{became_same}
use Rattle.plans.proofs.Logs.{logs_same}
use Rattle.plans.proofs.Questions.{failed_none, planned_nothing, stands_same, stop_of_read}
use Rattle.plans.proofs.Stores.{ok_then_all}
use Rattle.plans.proofs.plan.plan_one.Goals as goal

pub plan_key-requires : goal.plan_key-requires
plan_key-requires g c = record {
  one = rw c.in-Some.is at c.requires.key;
  may = c.requires.may;
  touches = c.requires.touches;
  sized = c.requires.sized;
}

pub returns-in-Get : goal.returns-in-Get
returns-in-Get g c = record {
  planned = (let before = g.P.Parts.part_of c.args.parts.now in
      let later = g.P.Parts.part_of c.plan_get.new.parts in
      let right = g.R.Shows.is_honest × AreRight c.args.staged.now in
      ok_then_all c.plan_get.result
      (λ planned has. planned_nothing g.D.Device.wrote (kept_by g.R.Shows.identity g.R.Shows.shown) (AreDue right (of_command (shard_meaning g.R.Shows.is_steady) (g.P.Parts.stripes_of c.args.parts.now) before c.args.command.now)) (g.P.Parts.stripes_of c.args.parts.now)
      (before, c.args.device.now) (later, c.args.device.now) planned
      (subst (λ (x : Command). AreDue right (of_command (shard_meaning g.R.Shows.is_steady) (g.P.Parts.stripes_of c.args.parts.now) before x) planned.reply planned.writes) (sym c.in-Get.is) has.due)
      has.none (logs_same before later c.plan_get.ensures.same) refl)
      c.plan_get.ensures.answered);
  unmarked = (record {
    begun = ok_then_all c.plan_get.result (λ planned has. has.begun) c.plan_get.ensures.answered;
    became = became_same (shard_meaning g.R.Shows.is_steady) (g.P.Parts.stripes_of c.args.parts.now) (g.P.Parts.part_of c.args.parts.now) (g.P.Parts.part_of c.plan_get.new.parts) c.plan_get.ensures.same;
  });
  stopped = (let before = g.P.Parts.part_of c.args.parts.now in
      let later = g.P.Parts.part_of c.plan_get.new.parts in
      let right = g.R.Shows.is_honest × AreRight c.args.staged.now in
      let kept = kept_by g.R.Shows.identity g.R.Shows.shown in
      subst (λ (x : Command). IfErr c.plan_get.result (HasStopped g.D.Device.wrote kept g.R.Shows.lends right (of_command (shard_meaning g.R.Shows.is_steady) (g.P.Parts.stripes_of c.args.parts.now) before x) (g.P.Parts.stripes_of c.args.parts.now) c.args.staged.now
      (before, c.args.device.now) (later, c.args.device.now))) (sym c.in-Get.is)
      (stop_of_read g.D.Device.wrote kept c.plan_get.result g.R.Shows.lends right (of_get (shard_meaning g.R.Shows.is_steady) (g.P.Parts.stripes_of c.args.parts.now) before c.in-Get.key) (g.P.Parts.stripes_of c.args.parts.now) c.args.staged.now
      (before, c.args.device.now) (later, c.args.device.now) c.plan_get.ensures.same refl c.plan_get.ensures.stopped));
  stands = stands_same g.D.Device.serves g.D.Device.releases (g.P.Parts.part_of c.args.parts.now) (g.P.Parts.part_of c.plan_get.new.parts) c.args.device.now c.plan_get.ensures.same;
  failed = (let logs = logs_of (g.P.Parts.part_of c.args.parts.now) in
      let right = g.R.Shows.is_honest × AreRight c.args.staged.now in
      let question = of_get (shard_meaning g.R.Shows.is_steady) (g.P.Parts.stripes_of c.args.parts.now) (g.P.Parts.part_of c.args.parts.now) c.in-Get.key in
      failed_none c.plan_get.result (AreWanted g.R.Shows.lends right (g.P.Parts.stripes_of c.args.parts.now) question.keys c.args.staged.now logs) (TakesMemory g.R.Shows.lends right (g.P.Parts.stripes_of c.args.parts.now) question c.args.staged.now logs) (λ stripe. ⊥)
      (g.D.Device.failures c.args.device.now) c.plan_get.ensures.stopped);
  held = search rules;
}
