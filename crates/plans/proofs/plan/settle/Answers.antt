use Rattle.std.proofs.Common.{◌∙◌, ℕ, List, ap, refl, sym, subst, not}
use Rattle.words.specs.Store.{Write, weight}
use Rattle.shards.specs.Receipts.{kept_by}
use Rattle.shards.specs.Rooms.{AreRoomy, LeaveFrames, MakesRoom, ShedFew}
use Rattle.shards.specs.Shards.{logs_of}
use Rattle.plans.specs.Planning.{AreSettled}
use Rattle.plans.specs.Reserving.{StopsMaking}
use Rattle.plans.proofs.Questions.{heavy_settled, light_of, light_settled, planned_nothing}
use Rattle.plans.proofs.plan.settle.Goals as goal

pub returns-then-is_none-clause-planned : goal.returns-then-is_none-clause-planned
returns-then-is_none-clause-planned g c =
    let parts = g.P.Parts.part_of c.args.parts.now in
    planned_nothing g.D.Device.wrote (kept_by g.R.Shows.identity g.R.Shows.shown) (AreSettled c.args.reply c.args.writes) (g.P.Parts.stripes_of c.args.parts.now) (parts, c.args.device.now) (parts, c.args.device.now) c.refused.result
    (heavy_settled c.args.reply c.args.writes c.refused.result.reply c.refused.result.writes (c.weight.ensures.heavy.0 search) c.refused.ensures.reply c.refused.ensures.writes) c.refused.ensures.writes (λ i. refl) refl

pub returns-in-Ok-clause-planned : goal.returns-in-Ok-clause-planned
returns-in-Ok-clause-planned g c =
    let n : ℕ = (g.P.Parts.stripes_of c.args.parts.now) in
    let old = logs_of (g.P.Parts.part_of c.args.parts.now) in
    let new = logs_of (g.P.Parts.part_of c.reserve_all.new.parts) in
    let kept = kept_by g.R.Shows.identity g.R.Shows.shown in record {
      due = light_settled c.args.reply c.args.writes (light_of c.weight.result (weight c.args.writes) c.weight.ensures.heavy.1 (c.is_none.ensures ∙ ap not c.if-is_none.false));
      fits = c.requires.fits;
      room = subst (λ (l : List Write). AreRoomy n new l) c.as_slice.ensures c.in-Ok.ensures.room.room;
      made = subst (λ (l : List Write). MakesRoom g.D.Device.wrote kept n n l old c.args.device.now new c.reserve_all.new.device) c.as_slice.ensures c.in-Ok.ensures.room.made;
      few = subst (λ (l : List Write). ShedFew n l old new) c.as_slice.ensures c.reserve_all.ensures.few;
      left = subst (λ (l : List Write). LeaveFrames n l old new) c.as_slice.ensures c.in-Ok.ensures.room.left;
    }

pub returns-in-Err-clause-stopped : goal.returns-in-Err-clause-stopped
returns-in-Err-clause-stopped g c =
    let a = g.P.Parts.part_of c.args.parts.now in
    let b = g.P.Parts.part_of c.reserve_all.new.parts in
    let d = c.args.device.now in
    let e = c.reserve_all.new.device in
    let kept = kept_by g.R.Shows.identity g.R.Shows.shown in
    subst (StopsMaking g.D.Device.wrote kept (g.P.Parts.stripes_of c.args.parts.now) c.args.writes (a, d) (b, e)) (sym c.let_go.ensures)
    (subst (λ (l : List Write). StopsMaking g.D.Device.wrote kept (g.P.Parts.stripes_of c.args.parts.now) l (a, d) (b, e) c.in-Err.stop) c.as_slice.ensures c.in-Err.ensures.stopped)
