use Rattle.std.proofs.Common.{ℕ}
use Rattle.hybrid.specs.Staging.{AreRight}
use Rattle.transact.specs.Tables.{joined}
use Rattle.shards.specs.Devices.{IsReadAlone}
use Rattle.shards.specs.Receipts.{kept_by}
use Rattle.shards.specs.Shards.{SameLogs, logs_of, shard_meaning}
use Rattle.plans.specs.Memory.{NeedsNoMemoryOn}
use Rattle.plans.specs.Planning.{AreDue, TakesMemory, of_call}
use Rattle.plans.specs.Reading.{AreServed}
use Rattle.plans.specs.Stops.{keys_looked_up}
use Rattle.plans.proofs.Hand.{all_lent}
use Rattle.plans.proofs.Questions.{reading_lacks, reading_stop, ready_of, staged_lacks, staged_stop}
use Rattle.plans.proofs.Stores.{ok_then_all}
use Rattle.plans.proofs.reading.plan_staged.Goals as goal

pub returns-in-Reads-clause-right : goal.returns-in-Reads-clause-right
returns-in-Reads-clause-right g c = λ steady right.
    c.plan_reading.ensures.pages.1 right (λ stripe log number kept there receipt r is. g.met.D.Device.steady steady c.args.device.now r)

pub returns-in-Reads-clause-ready : goal.returns-in-Reads-clause-ready
returns-in-Reads-clause-ready g c =
    let n : ℕ = (g.P.Parts.stripes_of c.args.parts.now) in
    let parts = g.P.Parts.part_of c.args.parts.now in
    let question = of_call (shard_meaning g.R.Shows.is_steady) n parts (g.P.Parts.holder_of c.args.parts.now) c.args.call.now in
    let served = AreServed g.D.Device.serves g.R.Shows.identity c.args.device.now (logs_of parts) in
    ok_then_all c.plan_reading.result
    (λ planned has. ready_of g.D.Device.wrote (kept_by g.R.Shows.identity g.R.Shows.shown) (AreDue (g.R.Shows.is_honest × AreRight c.args.staged.now × served) question) (AreDue (g.R.Shows.is_steady × AreRight c.args.staged.now) question) n
    (parts, has.0) (g.P.Parts.part_of c.plan_reading.new.parts, c.plan_reading.new.device) planned
    (λ due right. due (g.met.R.Shows.steady_is_honest right.0, right.1, λ stripe log number kept there receipt r is. g.met.D.Device.steady right.0 c.args.device.now r))
    has.2)
    c.plan_reading.ensures.planned

pub returns-in-Reads-clause-stopped : goal.returns-in-Reads-clause-stopped
returns-in-Reads-clause-stopped g c =
    let n : ℕ = (g.P.Parts.stripes_of c.args.parts.now) in
    let parts = g.P.Parts.part_of c.args.parts.now in
    let later = g.P.Parts.part_of c.plan_reading.new.parts in
    let contents = shard_meaning g.R.Shows.is_steady in
    let question = of_call contents n parts (g.P.Parts.holder_of c.args.parts.now) c.args.call.now in
    let served = AreServed g.D.Device.serves g.R.Shows.identity c.args.device.now (logs_of parts) in
    reading_stop g.D.Device.wrote (kept_by g.R.Shows.identity g.R.Shows.shown) c.plan_reading.result (g.R.Shows.is_honest × AreRight c.args.staged.now × served) (g.R.Shows.is_steady × AreRight c.args.staged.now) question
    (TakesMemory g.R.Shows.lends (g.R.Shows.is_honest × AreRight c.args.staged.now) n question c.args.staged.now (logs_of parts) × SameLogs parts later)
    (g.R.Shows.is_steady × AreRight c.args.staged.now → g.R.Shows.lends → NeedsNoMemoryOn (joined contents n parts) c.args.call.now → ⊥) _
    (λ read. IsReadAlone g.D.Device.serves g.D.Device.releases g.D.Device.writes c.args.device.now read) n parts (later, c.plan_reading.new.device)
    (λ right. (g.met.R.Shows.steady_is_honest right.0, right.1, λ stripe log number kept there receipt r is. g.met.D.Device.steady right.0 c.args.device.now r))
    (λ takes right lends brief. takes.0 (g.met.R.Shows.steady_is_honest right.0, right.1) (all_lent g.R.Shows.lends n (logs_of parts) (keys_looked_up c.args.call.now) c.args.staged.now lends) brief)
    c.plan_reading.ensures.never_cold c.plan_reading.ensures.stopped

pub returns-in-Stops-clause-ready : goal.returns-in-Stops-clause-ready
returns-in-Stops-clause-ready g c =
    let n : ℕ = (g.P.Parts.stripes_of c.args.parts.now) in
    let parts = g.P.Parts.part_of c.args.parts.now in
    let question = of_call (shard_meaning g.R.Shows.is_steady) n parts (g.P.Parts.holder_of c.args.parts.now) c.args.call.now in
    ok_then_all c.plan.result
    (λ planned has. ready_of g.D.Device.wrote (kept_by g.R.Shows.identity g.R.Shows.shown) (AreDue (g.R.Shows.is_honest × AreRight c.args.staged.now) question) (AreDue (g.R.Shows.is_steady × AreRight c.args.staged.now) question) n
    (parts, c.args.device.now) (g.P.Parts.part_of c.plan.new.parts, c.plan.new.device) planned
    (λ due right. due (g.met.R.Shows.steady_is_honest right.0, right.1)) has)
    c.plan.ensures.planned

pub returns-in-Stops-clause-stopped : goal.returns-in-Stops-clause-stopped
returns-in-Stops-clause-stopped g c =
    let n : ℕ = (g.P.Parts.stripes_of c.args.parts.now) in
    let parts = g.P.Parts.part_of c.args.parts.now in
    let later = g.P.Parts.part_of c.plan.new.parts in
    let contents = shard_meaning g.R.Shows.is_steady in
    let question = of_call contents n parts (g.P.Parts.holder_of c.args.parts.now) c.args.call.now in
    staged_stop g.D.Device.wrote (kept_by g.R.Shows.identity g.R.Shows.shown) c.plan.result g.R.Shows.lends (g.R.Shows.is_honest × AreRight c.args.staged.now) (g.R.Shows.is_steady × AreRight c.args.staged.now) question
    (g.R.Shows.is_steady × AreRight c.args.staged.now → g.R.Shows.lends → NeedsNoMemoryOn (joined contents n parts) c.args.call.now → ⊥) _ n c.args.staged.now (parts, c.args.device.now) (later, c.plan.new.device)
    (λ right. (g.met.R.Shows.steady_is_honest right.0, right.1))
    (λ unlent untouched device. record { unread = c.in-Stops.is; unlent = unlent; untouched = untouched; device = device })
    (λ takes right lends brief. takes (g.met.R.Shows.steady_is_honest right.0, right.1) (all_lent g.R.Shows.lends n (logs_of parts) (keys_looked_up c.args.call.now) c.args.staged.now lends) brief)
    c.plan.ensures.stopped

pub returns-in-Stops-clause-left : goal.returns-in-Stops-clause-left
returns-in-Stops-clause-left g c = ok_then_all c.plan.result (λ planned has. has.left) c.plan.ensures.planned

pub returns-in-Reads-clause-left : goal.returns-in-Reads-clause-left
returns-in-Reads-clause-left g c = ok_then_all c.plan_reading.result (λ planned has. has.2.left) c.plan_reading.ensures.planned

pub returns-in-Stops-clause-lacks : goal.returns-in-Stops-clause-lacks
returns-in-Stops-clause-lacks g c =
    let n : ℕ = (g.P.Parts.stripes_of c.args.parts.now) in
    let parts = g.P.Parts.part_of c.args.parts.now in
    let question = of_call (shard_meaning g.R.Shows.is_steady) n parts (g.P.Parts.holder_of c.args.parts.now) c.args.call.now in
    staged_lacks g.D.Device.wrote (kept_by g.R.Shows.identity g.R.Shows.shown) c.plan.result c.args.cold g.R.Shows.lends (g.R.Shows.is_honest × AreRight c.args.staged.now) (g.R.Shows.is_steady × AreRight c.args.staged.now) question n c.args.staged.now
    (parts, c.args.device.now) (g.P.Parts.part_of c.plan.new.parts, c.plan.new.device) (λ right. (g.met.R.Shows.steady_is_honest right.0, right.1)) c.plan.ensures.stopped

pub returns-in-Reads-clause-lacks : goal.returns-in-Reads-clause-lacks
returns-in-Reads-clause-lacks g c =
    let n : ℕ = (g.P.Parts.stripes_of c.args.parts.now) in
    let parts = g.P.Parts.part_of c.args.parts.now in
    let later = g.P.Parts.part_of c.plan_reading.new.parts in
    let question = of_call (shard_meaning g.R.Shows.is_steady) n parts (g.P.Parts.holder_of c.args.parts.now) c.args.call.now in
    let served = AreServed g.D.Device.serves g.R.Shows.identity c.args.device.now (logs_of parts) in
    reading_lacks g.D.Device.wrote (kept_by g.R.Shows.identity g.R.Shows.shown) c.plan_reading.result c.args.cold (g.R.Shows.is_honest × AreRight c.args.staged.now × served) (g.R.Shows.is_steady × AreRight c.args.staged.now) question
    (TakesMemory g.R.Shows.lends (g.R.Shows.is_honest × AreRight c.args.staged.now) n question c.args.staged.now (logs_of parts) × SameLogs parts later)
    (λ read. IsReadAlone g.D.Device.serves g.D.Device.releases g.D.Device.writes c.args.device.now read) n parts (later, c.plan_reading.new.device) c.in-Reads.is
    (λ right. (g.met.R.Shows.steady_is_honest right.0, right.1, λ stripe log number kept there receipt r is. g.met.D.Device.steady right.0 c.args.device.now r))
    c.plan_reading.ensures.stopped

pub returns-in-Stops-clause-rooms : goal.returns-in-Stops-clause-rooms
returns-in-Stops-clause-rooms g c = c.plan.ensures.stands.rooms

pub returns-in-Reads-clause-rooms : goal.returns-in-Reads-clause-rooms
returns-in-Reads-clause-rooms g c = c.plan_reading.ensures.stands.rooms

pub returns-in-Stops-clause-waits : goal.returns-in-Stops-clause-waits
returns-in-Stops-clause-waits g c = c.plan.ensures.stands.waits

pub returns-in-Reads-clause-waits : goal.returns-in-Reads-clause-waits
returns-in-Reads-clause-waits g c = c.plan_reading.ensures.stands.waits
