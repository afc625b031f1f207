use Rattle.std.proofs.Common.{rules, ◌∙◌, ◌<◌, refl, ap, arith}
use Rattle.hybrid.specs.HybridLog.{HybridLog, free, tail_bytes}
use Rattle.hybrid.specs.Reserving.{frames_for}
use Rattle.frames.specs.Resident.{first_mutable}
use Rattle.hybrid.proofs.Dropping.{on-true}
use Rattle.hybrid.proofs.Reserving.{ended, frames-least, kept-back, kept-spare, needful, on-err, reserving-step, room-enough, room-reserved}
use Rattle.hybrid.proofs.Serving.{new-step, new-still}
use Rattle.hybrid.proofs.Shedding.{flushed-by, shed-more, shed-full}
use Rattle.hybrid.proofs.stripe.Stripe.reserve.Goals as goal

pub loop-self-preserved : goal.loop-self-preserved
loop-self-preserved g c =
    let left = c.in_ok-shed_oldest.ensures.left in
    let may : (free c.loop-self.self < c.frames_for-wanted.result) × (c.loop-self.self.resident.oldest < first_mutable c.loop-self.self.resident) =
    on-true c.may_free.result _ c.loop-self-test.true c.may_free.ensures.lacks in
    let is = c.may_free.ensures.log in
    let lacks : free c.loop-self.self < frames_for c.args.self.now c.args.weight c.args.purpose = omega (arith, may.0, c.frames_for-wanted.ensures.frames) in
    let reserving = reserving-step c.args.self.now c.loop-self.self left.mid c.shed_oldest.new.self (g.D.Device.failures c.args.device.now) (g.D.Device.failures c.loop-self.device) (g.D.Device.failures c.shed_oldest.new.device) (frames_for c.args.self.now c.args.weight c.args.purpose)
    c.loop-self.invariant.reserving lacks c.in_ok-shed_oldest.ensures.no_fault is.live is.numbered may.1 is.enough is.fits
    (flushed-by g.D.Device.wrote (λ r. record { identity = g.R.Shows.identity r; shown = g.R.Shows.shown r }) c.loop-self.self left.mid c.loop-self.device c.shed_oldest.new.device left.flushed) left.dropped left.kept left.log in
    record {
      reserving = reserving;
      shed = shed-more g.D.Device.wrote (λ r. record { identity = g.R.Shows.identity r; shown = g.R.Shows.shown r }) c.args.self.now c.loop-self.self left.mid
          c.shed_oldest.new.self c.args.device.now c.loop-self.device c.shed_oldest.new.device c.loop-self.invariant.shed
          may.1 (c.loop-self.invariant.reserving.numbers (omega (arith, lacks)))
          left.flushed left.dropped;
      served = λ r s. c.shed_oldest.ensures.still_served r (c.loop-self.invariant.served r s);
      new_served = λ honest.
          new-step g.D.Device.serves (λ r. record { identity = g.R.Shows.identity r; shown = g.R.Shows.shown r }) c.args.self.now c.loop-self.self left.mid c.shed_oldest.new.self c.loop-self.device c.shed_oldest.new.device
          (c.loop-self.invariant.new_served honest) c.shed_oldest.ensures.still_served (left.served honest) left.dropped;
      releases = c.shed_oldest.ensures.no_release ∙ c.loop-self.invariant.releases;
      writes = omega (arith, c.loop-self.invariant.writes, c.in_ok-shed_oldest.ensures.writes);
    }

pub returns-in_err-shed_oldest-clause-new_served : goal.returns-in_err-shed_oldest-clause-new_served
returns-in_err-shed_oldest-clause-new_served g c = λ honest.
    new-still g.D.Device.serves (λ r. record { identity = g.R.Shows.identity r; shown = g.R.Shows.shown r }) c.args.self.now c.loop-self.self c.shed_oldest.new.self c.loop-self.device c.shed_oldest.new.device
    (c.loop-self.invariant.new_served honest) c.shed_oldest.ensures.still_served c.in_err-shed_oldest.ensures.unchanged

pub returns-in_err-shed_oldest-clause-still_served : goal.returns-in_err-shed_oldest-clause-still_served
returns-in_err-shed_oldest-clause-still_served g c = λ r s. c.shed_oldest.ensures.still_served r (c.loop-self.invariant.served r s)

pub returns-clause-room : goal.returns-clause-room
returns-clause-room g c =
    let is = c.may_free.ensures.log in
    let over = ended c.may_free.result (frames_for c.args.self.now c.args.weight c.args.purpose) c.frames_for-wanted.result c.loop-self.self c.frames_for-wanted.ensures.frames c.loop-self-test.false c.may_free.ensures.enough in (
      refl,
      room-reserved c.args.self.now c.loop-self.self c.args.weight c.args.purpose (g.D.Device.failures c.args.device.now) (g.D.Device.failures c.loop-self.device) c.requires.light c.loop-self.invariant.reserving
          (room-enough c.args.self.now c.loop-self.self c.args.weight c.args.purpose is.enough c.frames_for-wanted.ensures.pages over),
    )

pub returns-clause-kept : goal.returns-clause-kept
returns-clause-kept g c =
    kept-back c.args.self.now c.loop-self.self c.args.weight c.args.purpose (g.D.Device.failures c.args.device.now) (g.D.Device.failures c.loop-self.device) c.loop-self.invariant.reserving
    (ended c.may_free.result (frames_for c.args.self.now c.args.weight c.args.purpose) c.frames_for-wanted.result c.loop-self.self c.frames_for-wanted.ensures.frames c.loop-self-test.false c.may_free.ensures.enough)

pub returns-clause-spared : goal.returns-clause-spared
returns-clause-spared g c =
    kept-spare c.args.self.now c.loop-self.self c.args.weight c.args.purpose (g.D.Device.failures c.args.device.now) (g.D.Device.failures c.loop-self.device) c.loop-self.invariant.reserving
    (ended c.may_free.result (frames_for c.args.self.now c.args.weight c.args.purpose) c.frames_for-wanted.result c.loop-self.self c.frames_for-wanted.ensures.frames c.loop-self-test.false c.may_free.ensures.enough)

pub returns-in_err-shed_oldest-clause-needed : goal.returns-in_err-shed_oldest-clause-needed
returns-in_err-shed_oldest-clause-needed g c =
    let may = on-true c.may_free.result _ c.loop-self-test.true c.may_free.ensures.lacks in
    on-err c.from_residual.result _ (c.frames_for-wanted.ensures.some (omega (arith, may.0)))

pub returns-in_err-shed_oldest-clause-needful : goal.returns-in_err-shed_oldest-clause-needful
returns-in_err-shed_oldest-clause-needful g c =
    let may = on-true c.may_free.result _ c.loop-self-test.true c.may_free.ensures.lacks in
    on-err c.from_residual.result _ (needful c.loop-self.self c.shed_oldest.new.self (frames_for c.args.self.now c.args.weight c.args.purpose)
    c.in_err-shed_oldest.ensures.unchanged c.in_err-shed_oldest.ensures.bare (omega (arith, may.0, c.frames_for-wanted.ensures.frames)))

pub returns-clause-last : goal.returns-clause-last
returns-clause-last g c = λ some. c.loop-self.invariant.reserving.numbers (omega (arith, some, frames-least c.args.self.now c.args.weight c.args.purpose))

pub returns-clause-shed : goal.returns-clause-shed
returns-clause-shed g c = c.loop-self.invariant.shed

pub returns-in_err-shed_oldest-clause-shed_full : goal.returns-in_err-shed_oldest-clause-shed_full
returns-in_err-shed_oldest-clause-shed_full g c =
    let full = shed-full g.D.Device.wrote (λ r. record { identity = g.R.Shows.identity r; shown = g.R.Shows.shown r }) c.args.self.now c.loop-self.self c.shed_oldest.new.self
    c.args.device.now c.loop-self.device c.shed_oldest.new.device (g.D.Device.failures c.args.device.now) (g.D.Device.failures c.loop-self.device)
    (g.D.Device.failures c.shed_oldest.new.device) c.loop-self.invariant.shed c.in_err-shed_oldest.ensures.unchanged c.loop-self.invariant.reserving.same
    c.in_err-shed_oldest.ensures.same in
    search rules

pub returns-clause-tail : goal.returns-clause-tail
returns-clause-tail g c = c.loop-self.invariant.reserving.tail

pub returns-in_err-shed_oldest-clause-tail : goal.returns-in_err-shed_oldest-clause-tail
returns-in_err-shed_oldest-clause-tail g c = ap (λ (p : HybridLog). tail_bytes p) c.in_err-shed_oldest.ensures.unchanged ∙ c.loop-self.invariant.reserving.tail
