use Rattle.std.proofs.Common.{ap, subst}
use Rattle.hybrid.specs.HybridLog.{IsHybridLog}
use Rattle.shards.specs.Counted.{Waiting}
use Rattle.world_log.proofs.Agreeing.{numbered_of}
use Rattle.world_log.proofs.AllGiven.{room_stays}
use Rattle.world_log.proofs.CleanSteps.{served_room}
use Rattle.world_log.proofs.CountSteps.{beside_same, roomy_agrees, roomy_given}
use Rattle.world_log.proofs.Shedding.{room_made}
use Rattle.world_log.proofs.works.make_room.Goals as goal

pub returns-in-Ok-clause-made : goal.returns-in-Ok-clause-made
returns-in-Ok-clause-made c =
    room_made c.args.log.now.log c.reserve.new.self.log _ c.args.device.now c.reserve.new.device
    (numbered_of c.args.log.now.log (subst IsHybridLog c.stripe.ensures.log c.oldest-oldest.ensures.log)) c.requires.agrees.counted (c.reserve.ensures.shed c.in-Ok.ensures.failed.no_fault)

pub returns-in-Ok-clause-beside : goal.returns-in-Ok-clause-beside
returns-in-Ok-clause-beside c =
    beside_same c.args.log.now c.reserve.new.self c.args.queues.now (ap (λ (w : Waiting). w.in_flight) c.reserve.ensures.same.waits)
    (ap (λ (w : Waiting). w.unlinked) c.reserve.ensures.same.waits) (ap (λ (w : Waiting). w.retired) c.reserve.ensures.same.waits) (ap (λ (w : Waiting). w.drained) c.reserve.ensures.same.waits)

pub returns-in-Ok-clause-agrees : goal.returns-in-Ok-clause-agrees
returns-in-Ok-clause-agrees c =
    roomy_agrees c.args.log.now c.reserve.new.self c.args.queues.now (ap (λ (w : Waiting). w.in_flight) c.reserve.ensures.same.waits)
    (ap (λ (w : Waiting). w.unlinked) c.reserve.ensures.same.waits) (ap (λ (w : Waiting). w.retired) c.reserve.ensures.same.waits) (ap (λ (w : Waiting). w.drained) c.reserve.ensures.same.waits)
    c.args.device.now c.reserve.new.device c.reserve.ensures.few.count (subst IsHybridLog c.stripe.ensures.log c.oldest-oldest.ensures.log) c.requires.agrees
    c.reserve.ensures.few.reserved (c.reserve.ensures.shed c.in-Ok.ensures.failed.no_fault)

pub returns-in-Ok-clause-served : goal.returns-in-Ok-clause-served
returns-in-Ok-clause-served c =
    served_room c.args.log.now.log c.reserve.new.self.log c.args.device.now c.reserve.new.device c.requires.served (c.reserve.ensures.shed c.in-Ok.ensures.failed.no_fault)

pub returns-in-Ok-clause-given : goal.returns-in-Ok-clause-given
returns-in-Ok-clause-given c =
    roomy_given c.args.log.now c.reserve.new.self c.args.queues.now (ap (λ (w : Waiting). w.in_flight) c.reserve.ensures.same.waits)
    (ap (λ (w : Waiting). w.unlinked) c.reserve.ensures.same.waits) (ap (λ (w : Waiting). w.retired) c.reserve.ensures.same.waits) (ap (λ (w : Waiting). w.drained) c.reserve.ensures.same.waits)
    c.args.device.now c.reserve.new.device (c.reserve.ensures.shed c.in-Ok.ensures.failed.no_fault)

pub returns-in-Ok-clause-stays : goal.returns-in-Ok-clause-stays
returns-in-Ok-clause-stays c =
    room_stays c.args.log.now.log c.reserve.new.self.log c.args.device.now c.reserve.new.device (c.reserve.ensures.shed c.in-Ok.ensures.failed.no_fault)

pub returns-in-Err-StoreFull-clause-made : goal.returns-in-Err-StoreFull-clause-made
returns-in-Err-StoreFull-clause-made c =
    let full = rw c.in-Err-StoreFull.field-0-is at c.in-Err-StoreFull.ensures.failed.fault in
    room_made c.args.log.now.log c.reserve.new.self.log _ c.args.device.now c.reserve.new.device
    (numbered_of c.args.log.now.log (subst IsHybridLog c.stripe.ensures.log c.oldest-oldest.ensures.log)) c.requires.agrees.counted (c.reserve.ensures.shed full.1)

pub returns-in-Err-StoreFull-clause-beside : goal.returns-in-Err-StoreFull-clause-beside
returns-in-Err-StoreFull-clause-beside c =
    beside_same c.args.log.now c.reserve.new.self c.args.queues.now (ap (λ (w : Waiting). w.in_flight) c.reserve.ensures.same.waits)
    (ap (λ (w : Waiting). w.unlinked) c.reserve.ensures.same.waits) (ap (λ (w : Waiting). w.retired) c.reserve.ensures.same.waits) (ap (λ (w : Waiting). w.drained) c.reserve.ensures.same.waits)

pub returns-in-Err-StoreFull-clause-agrees : goal.returns-in-Err-StoreFull-clause-agrees
returns-in-Err-StoreFull-clause-agrees c =
    let full = rw c.in-Err-StoreFull.field-0-is at c.in-Err-StoreFull.ensures.failed.fault in
    roomy_agrees c.args.log.now c.reserve.new.self c.args.queues.now (ap (λ (w : Waiting). w.in_flight) c.reserve.ensures.same.waits)
    (ap (λ (w : Waiting). w.unlinked) c.reserve.ensures.same.waits) (ap (λ (w : Waiting). w.retired) c.reserve.ensures.same.waits) (ap (λ (w : Waiting). w.drained) c.reserve.ensures.same.waits)
    c.args.device.now c.reserve.new.device c.reserve.ensures.few.count (subst IsHybridLog c.stripe.ensures.log c.oldest-oldest.ensures.log) c.requires.agrees
    c.reserve.ensures.few.reserved (c.reserve.ensures.shed full.1)

pub returns-in-Err-StoreFull-clause-served : goal.returns-in-Err-StoreFull-clause-served
returns-in-Err-StoreFull-clause-served c =
    let full = rw c.in-Err-StoreFull.field-0-is at c.in-Err-StoreFull.ensures.failed.fault in
    served_room c.args.log.now.log c.reserve.new.self.log c.args.device.now c.reserve.new.device c.requires.served (c.reserve.ensures.shed full.1)

pub returns-in-Err-StoreFull-clause-given : goal.returns-in-Err-StoreFull-clause-given
returns-in-Err-StoreFull-clause-given c =
    let full = rw c.in-Err-StoreFull.field-0-is at c.in-Err-StoreFull.ensures.failed.fault in
    roomy_given c.args.log.now c.reserve.new.self c.args.queues.now (ap (λ (w : Waiting). w.in_flight) c.reserve.ensures.same.waits)
    (ap (λ (w : Waiting). w.unlinked) c.reserve.ensures.same.waits) (ap (λ (w : Waiting). w.retired) c.reserve.ensures.same.waits) (ap (λ (w : Waiting). w.drained) c.reserve.ensures.same.waits)
    c.args.device.now c.reserve.new.device (c.reserve.ensures.shed full.1)

pub returns-in-Err-StoreFull-clause-stays : goal.returns-in-Err-StoreFull-clause-stays
returns-in-Err-StoreFull-clause-stays c =
    let full = rw c.in-Err-StoreFull.field-0-is at c.in-Err-StoreFull.ensures.failed.fault in
    room_stays c.args.log.now.log c.reserve.new.self.log c.args.device.now c.reserve.new.device (c.reserve.ensures.shed full.1)
