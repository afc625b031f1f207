use Rattle.std.proofs.Common.{◌∙◌, ap, subst}
use Rattle.hybrid.specs.HybridLog.{HybridLog, log_of, tail_bytes}
use Rattle.hybrid.specs.Shedding.{HasShed}
use Rattle.shards.specs.Counted.{Counted, waiting_of}
use Rattle.shards.specs.Receipts.{kept_by}
use Rattle.shards.specs.Rooms.{LacksRoom, LeavesFrames, ShedsFew}
use Rattle.shards.proofs.Lacking.{where_failed}
use Rattle.shards.proofs.counted.CountedLog.reserve.Goals as goal

pub returns-in_err-reserve-clause-same : goal.returns-in_err-reserve-clause-same
returns-in_err-reserve-clause-same g c = record {
  records = c.reserve.ensures.log ∙ ap (λ (x : Counted). log_of x.log) c.self.view_is;
  tail = c.reserve.ensures.tail ∙ ap (λ (x : Counted). tail_bytes x.log) c.self.view_is;
  waits = ap (λ (x : Counted). waiting_of x) c.self.view_is;
}

pub returns-clause-same : goal.returns-clause-same
returns-clause-same g c = record {
  records = c.reserve.ensures.log ∙ ap (λ (x : Counted). log_of x.log) c.self.view_is;
  tail = c.reserve.ensures.tail ∙ ap (λ (x : Counted). tail_bytes x.log) c.self.view_is;
  waits = ap (λ (x : Counted). waiting_of x) c.self.view_is;
}

pub returns-in_err-reserve-clause-shed : goal.returns-in_err-reserve-clause-shed
returns-in_err-reserve-clause-shed g c = λ same.
    subst (λ (l : HybridLog). HasShed g.D.Device.wrote (kept_by g.R.Shows.identity g.R.Shows.shown) l c.args.device.now c.reserve.new.self c.reserve.new.device)
    (ap (λ (x : Counted). x.log) c.self.view_is) (c.in_err-reserve.ensures.shed_full same)

pub returns-clause-shed : goal.returns-clause-shed
returns-clause-shed g c = λ same.
    subst (λ (l : HybridLog). HasShed g.D.Device.wrote (kept_by g.R.Shows.identity g.R.Shows.shown) l c.args.device.now c.reserve.new.self c.reserve.new.device)
    (ap (λ (x : Counted). x.log) c.self.view_is) c.in_ok-reserve.ensures.shed

pub returns-in_err-reserve-clause-few : goal.returns-in_err-reserve-clause-few
returns-in_err-reserve-clause-few g c =
    let few = c.reserve.ensures.reserved in
    subst (λ (l : HybridLog). ShedsFew c.args.weight c.args.purpose l c.reserve.new.self) (ap (λ (x : Counted). x.log) c.self.view_is)
    (record { count = few.0; reserved = few.1; few = few.2 })

pub returns-clause-few : goal.returns-clause-few
returns-clause-few g c =
    let few = c.reserve.ensures.reserved in
    subst (λ (l : HybridLog). ShedsFew c.args.weight c.args.purpose l c.reserve.new.self) (ap (λ (x : Counted). x.log) c.self.view_is)
    (record { count = few.0; reserved = few.1; few = few.2 })

pub returns-in_err-reserve-clause-lacks : goal.returns-in_err-reserve-clause-lacks
returns-in_err-reserve-clause-lacks g c =
    where_failed _ _
    (subst (λ (l : HybridLog). LacksRoom c.args.weight c.args.purpose l c.reserve.new.self) (ap (λ (x : Counted). x.log) c.self.view_is)
    (record { wanted = c.in_err-reserve.ensures.needed; lacks = c.in_err-reserve.ensures.needful }))

pub returns-clause-kept : goal.returns-clause-kept
returns-clause-kept g c =
    subst (λ (l : HybridLog). LeavesFrames c.args.weight c.args.purpose l c.reserve.new.self) (ap (λ (x : Counted). x.log) c.self.view_is)
    (record { opening = c.in_ok-reserve.ensures.kept; fitting = c.in_ok-reserve.ensures.spared })
