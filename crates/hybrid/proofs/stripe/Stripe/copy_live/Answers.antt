use Rattle.std.proofs.Common.{arith}
use Rattle.records.specs.Read.{shown}
use Rattle.hybrid.proofs.Tail.{grown-less}
use Rattle.hybrid.proofs.Cleaning.{read-fits, copying-start, copying-skip, copying-copy, done-all, never-heavy}
use Rattle.hybrid.proofs.stripe.Stripe.copy_live.Goals as goal

pub loop-record-init : goal.loop-record-init
loop-record-init g c = copying-start c.args.self.now c.args.page.now c.args.live.now c.args.weight c.requires.room

pub overflow_add-at-in-Ok : goal.overflow_add-at-in-Ok
overflow_add-at-in-Ok g c =
    let read = read-fits c.args.page.now c.loop-record.at (shown c.in-Ok.record) c.in-Ok.ensures.exact.0 c.in-Ok.ensures.exact.1 in
    omega (arith, read.within)

pub overflow_add-at-in-Ok-2 : goal.overflow_add-at-in-Ok-2
overflow_add-at-in-Ok-2 g c =
    let read = read-fits c.args.page.now c.loop-record.at (shown c.in-Ok.record) c.in-Ok.ensures.exact.0 c.in-Ok.ensures.exact.1 in
    omega (arith, read.within)

pub overflow_add-used-in-Ok : goal.overflow_add-used-in-Ok
overflow_add-used-in-Ok g c =
    let read = read-fits c.args.page.now c.loop-record.at (shown c.in-Ok.record) c.in-Ok.ensures.exact.0 c.in-Ok.ensures.exact.1 in
    omega (arith, read.within, read.value, read.key, c.length_of-length.ensures)

pub loop-record-preserved-then-not-marked : goal.loop-record-preserved-then-not-marked
loop-record-preserved-then-not-marked g c =
    copying-skip c.args.self.now c.loop-record.self c.args.page.now c.args.live.now c.loop-record.at c.loop-record.weight c.args.weight (shown c.in-Ok.record) c.in-Ok.ensures.exact.0 c.in-Ok.ensures.exact.1 c.in-Ok.ensures.found
    (λ laid short marked listed before. (marked c.loop-record.at (shown c.in-Ok.record) listed).1 c.if-not-marked.true) c.loop-record.invariant

pub loop-record-preserved-then-length-gt-VALUE_BYTES_MAX : goal.loop-record-preserved-then-length-gt-VALUE_BYTES_MAX
loop-record-preserved-then-length-gt-VALUE_BYTES_MAX g c =
    copying-skip c.args.self.now c.loop-record.self c.args.page.now c.args.live.now c.loop-record.at c.loop-record.weight c.args.weight (shown c.in-Ok.record) c.in-Ok.ensures.exact.0 c.in-Ok.ensures.exact.1 c.in-Ok.ensures.found
    (λ laid short marked listed before. absurd (omega (arith, c.if-length-gt-VALUE_BYTES_MAX.true, c.length_of-length.ensures, (short c.loop-record.at (shown c.in-Ok.record) listed).fits.value_fits))) c.loop-record.invariant

pub loop-record-preserved-then-used-weight : goal.loop-record-preserved-then-used-weight
loop-record-preserved-then-used-weight g c =
    copying-skip c.args.self.now c.loop-record.self c.args.page.now c.args.live.now c.loop-record.at c.loop-record.weight c.args.weight (shown c.in-Ok.record) c.in-Ok.ensures.exact.0 c.in-Ok.ensures.exact.1 c.in-Ok.ensures.found
    (λ laid short marked listed before. absurd (never-heavy c.args.self.now c.loop-record.self c.args.page.now c.args.live.now c.loop-record.at c.loop-record.weight (shown c.in-Ok.record) laid marked listed c.if-not-marked.false before (omega (arith, c.if-used-weight.true, c.length_of-length.ensures)))) c.loop-record.invariant

pub append-requires-clause-fits : goal.append-requires-clause-fits
append-requires-clause-fits g c =
    let read = read-fits c.args.page.now c.loop-record.at (shown c.in-Ok.record) c.in-Ok.ensures.exact.0 c.in-Ok.ensures.exact.1 in
    record { key_fits = omega (arith, read.key); value_fits = omega (arith, c.if-length-gt-VALUE_BYTES_MAX.false, c.length_of-length.ensures) }

pub loop-record-preserved : goal.loop-record-preserved
loop-record-preserved g c =
    let read = read-fits c.args.page.now c.loop-record.at (shown c.in-Ok.record) c.in-Ok.ensures.exact.0 c.in-Ok.ensures.exact.1 in
    rw c.length_of-length.ensures
    (copying-copy c.args.self.now c.loop-record.self c.append.new.self c.args.page.now c.args.live.now c.loop-record.at c.loop-record.weight c.args.weight c.append.result (shown c.in-Ok.record) c.in-Ok.ensures.exact.0 c.in-Ok.ensures.exact.1 c.in-Ok.ensures.found
    c.if-not-marked.false (omega (arith, c.if-used-weight.false, c.length_of-length.ensures)) c.append.ensures.room c.append.ensures.grown c.append.ensures.added c.append.ensures.resident c.requires.cold c.loop-record.invariant)

pub returns-clause-copied : goal.returns-clause-copied
returns-clause-copied g c = λ laid short marked enough.
    done-all c.args.self.now c.loop-record.self c.args.page.now c.loop-record.at c.loop-record.weight laid (c.loop-record.invariant.done laid short marked enough) (λ r listed. c.in_default.ensures.found laid r listed)

pub returns-clause-grown : goal.returns-clause-grown
returns-clause-grown g c = grown-less c.args.self.now c.loop-record.self c.loop-record.invariant.used c.args.weight (omega (arith, c.loop-record.invariant.parts)) c.loop-record.invariant.grown
