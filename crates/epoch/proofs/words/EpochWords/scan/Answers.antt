use Rattle.std.proofs.Common.{◌∙◌, ◌+◌, refl, arith}
use Rattle.epoch.proofs.Scanning.{scanning_on, blocked_on, only_on}
use Rattle.epoch.proofs.words.EpochWords.scan.Goals as goal

pub pass-requires : goal.pass-requires
pass-requires c =
    let i = c.loop-number.invariant in
    record { of = i.0 ∙ c.begin.ensures.of ∙ c.requires; next = i.2.passed; below = c.loop-number-test.true; above = i.2.above }

pub returns-then-not-pass-clause-of : goal.returns-then-not-pass-clause-of
returns-then-not-pass-clause-of c = c.pass.ensures.of ∙ c.loop-number.invariant.0 ∙ c.begin.ensures.of

pub returns-then-not-pass-clause-only : goal.returns-then-not-pass-clause-only
returns-then-not-pass-clause-only c =
    let v = c.args.seat.now.me.0 in
    let so_far = only_on v c.begin.new.seat.me.0 c.loop-number.seat.me.0 c.begin.ensures.only c.loop-number.invariant.1 in
    only_on v c.loop-number.seat.me.0 c.pass.new.seat.me.0 so_far c.pass.ensures.only

pub returns-then-not-pass-clause-blocked : goal.returns-then-not-pass-clause-blocked
returns-then-not-pass-clause-blocked c h =
    let e = c.args.e in
    let v = c.args.seat.now.me.0 in
    let so_far = scanning_on e v c.begin.new.seat.me.0 c.loop-number.seat.me.0 0 c.loop-number.number (c.if-not-begin.ensures.past refl) c.loop-number.invariant.2 in
    blocked_on e v c.loop-number.seat.me.0 c.pass.new.seat.me.0 c.loop-number.number so_far (c.if-not-pass.ensures.blocked refl)

pub loop-number-preserved : goal.loop-number-preserved
loop-number-preserved c =
    let i = c.loop-number.invariant in
    let began = c.begin.new.seat.me.0 in (
      c.pass.ensures.of ∙ i.0,
      only_on began c.loop-number.seat.me.0 c.pass.new.seat.me.0 i.1 c.pass.ensures.only,
      scanning_on c.args.e began c.loop-number.seat.me.0 c.pass.new.seat.me.0 c.loop-number.number (c.loop-number.number + 1) i.2 (c.if-not-pass.ensures.past refl),
    )

pub returns-clause-of : goal.returns-clause-of
returns-clause-of c = c.loop-number.invariant.0 ∙ c.begin.ensures.of

pub returns-clause-only : goal.returns-clause-only
returns-clause-only c =
    only_on c.args.seat.now.me.0 c.begin.new.seat.me.0 c.loop-number.seat.me.0 c.begin.ensures.only c.loop-number.invariant.1

pub returns-clause-past : goal.returns-clause-past
returns-clause-past c h =
    let e = c.args.e in
    let v = c.args.seat.now.me.0 in
    let so_far = scanning_on e v c.begin.new.seat.me.0 c.loop-number.seat.me.0 0 c.loop-number.number (c.if-not-begin.ensures.past refl) c.loop-number.invariant.2 in
    record { passed = so_far.passed ∙ omega (arith, c.loop-number-test.false, c.loop-number.auto.number-end); above = so_far.above; advanced = so_far.advanced; more = so_far.more; notes = so_far.notes }
