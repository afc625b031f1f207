use Rattle.std.proofs.Common.{◌∙◌, ap, sym, arith, None, Some}
use Rattle.std.specs.Option.{option_copied}
use Rattle.records.specs.Read.{shown}
use Rattle.hybrid.specs.HybridLog.{log_of}
use Rattle.hybrid.proofs.Finding.{now-is, none-so, some-both, some-so}
use Rattle.hybrid.proofs.Logs.{contents-newest}
use Rattle.hybrid.proofs.Placing.{spot-in-place}
use Rattle.hybrid.proofs.Values.{values-short, never-long}
use Rattle.hybrid.proofs.stripe.Stripe.look.Goals as goal

pub returns-in-Err-clause-none : goal.returns-in-Err-clause-none
returns-in-Err-clause-none g c = λ size address there. absurd (c.in-Err.ensures.placed size address there)

pub returns-in-Err-clause-values : goal.returns-in-Err-clause-values
returns-in-Err-clause-values g c = values-short c.args.self.now (now-is _ _ c.self.view_is c.self.invariant.0)

pub returns-in-Ok-None-clause-none : goal.returns-in-Ok-None-clause-none
returns-in-Ok-None-clause-none g c = λ size address there.
    let found = rw c.in-Ok-None.field-0-is at (c.in-Ok-None.ensures.placed size address there) in
    absurd found

pub returns-in-Ok-None-clause-contents : goal.returns-in-Ok-None-clause-contents
returns-in-Ok-None-clause-contents g c = λ honest right.
    let e = rw c.in-Ok-None.field-0-is at (c.in-Ok-None.ensures.found honest right) in
    contents-newest (log_of c.args.self.now) c.args.key.now None (sym e)

pub returns-in-Ok-None-clause-values : goal.returns-in-Ok-None-clause-values
returns-in-Ok-None-clause-values g c = values-short c.args.self.now (now-is _ _ c.self.view_is c.self.invariant.0)

pub returns-in-Some-clause-place : goal.returns-in-Some-clause-place
returns-in-Some-clause-place g c =
    let newest = rw c.in-Ok-Some.field-0-is at c.in-Ok-Some.ensures.mutable in
    some-both c.spot_at-spot.result _ _ _ (λ spot same low. spot-in-place c.args.self.now c.args.key.now c.in-Ok-Some.address (shown c.in-Ok-Some.record) spot same low (newest low)) c.spot_at-spot.ensures.spot c.spot_at-spot.ensures.mutable

pub returns-in-Some-clause-none : goal.returns-in-Some-clause-none
returns-in-Some-clause-none g c =
    none-so c.spot_at-spot.result _ _
    (λ below. λ size address there.
    let same = rw c.in-Ok-Some.field-0-is at (c.in-Ok-Some.ensures.placed size address there) in
    omega (arith, below, there.mutable, same))
    c.spot_at-spot.ensures.none

pub returns-in-Some-clause-values : goal.returns-in-Some-clause-values
returns-in-Some-clause-values g c = values-short c.args.self.now (now-is _ _ c.self.view_is c.self.invariant.0)

pub returns-in-Some-clause-value : goal.returns-in-Some-clause-value
returns-in-Some-clause-value g c =
    let newest = rw c.in-Ok-Some.field-0-is at c.in-Ok-Some.ensures.mutable in
    some-so c.spot_at-spot.result _ _
    (λ spot low.
    let has = contents-newest (log_of c.args.self.now) c.args.key.now (Some (c.in-Ok-Some.address, shown c.in-Ok-Some.record)) (newest low) ∙ ap option_copied c.in-Some.is in
    has)
    c.spot_at-spot.ensures.mutable

pub returns-in-Some-clause-contents : goal.returns-in-Some-clause-contents
returns-in-Some-clause-contents g c = λ honest right.
    let e = rw c.in-Ok-Some.field-0-is at (c.in-Ok-Some.ensures.found honest right) in
    let has = contents-newest (log_of c.args.self.now) c.args.key.now (Some (c.in-Ok-Some.address, shown c.in-Ok-Some.record)) (sym e) ∙ ap option_copied c.in-Some.is in
    has

pub returns-in-Some-2-clause-place : goal.returns-in-Some-2-clause-place
returns-in-Some-2-clause-place g c =
    let newest = rw c.in-Ok-Some.field-0-is at c.in-Ok-Some.ensures.mutable in
    some-both c.spot_at-spot.result _ _ _ (λ spot same low. spot-in-place c.args.self.now c.args.key.now c.in-Ok-Some.address (shown c.in-Ok-Some.record) spot same low (newest low)) c.spot_at-spot.ensures.spot c.spot_at-spot.ensures.mutable

pub returns-in-Some-2-clause-none : goal.returns-in-Some-2-clause-none
returns-in-Some-2-clause-none g c =
    none-so c.spot_at-spot.result _ _
    (λ below. λ size address there.
    let same = rw c.in-Ok-Some.field-0-is at (c.in-Ok-Some.ensures.placed size address there) in
    omega (arith, below, there.mutable, same))
    c.spot_at-spot.ensures.none

pub returns-in-Some-2-clause-values : goal.returns-in-Some-2-clause-values
returns-in-Some-2-clause-values g c = values-short c.args.self.now (now-is _ _ c.self.view_is c.self.invariant.0)

pub returns-in-Some-2-clause-value : goal.returns-in-Some-2-clause-value
returns-in-Some-2-clause-value g c =
    let newest = rw c.in-Ok-Some.field-0-is at c.in-Ok-Some.ensures.mutable in
    some-so c.spot_at-spot.result _ _
    (λ spot low.
    let has = contents-newest (log_of c.args.self.now) c.args.key.now (Some (c.in-Ok-Some.address, shown c.in-Ok-Some.record)) (newest low) ∙ ap option_copied c.in-Some.is in
    absurd (omega (arith, c.if-value-le-VALUE_BYTES_MAX.false, never-long c.args.self.now c.args.key.now c.in-Some.value.now (now-is _ _ c.self.view_is c.self.invariant.0) has)))
    c.spot_at-spot.ensures.mutable

pub returns-in-Some-2-clause-contents : goal.returns-in-Some-2-clause-contents
returns-in-Some-2-clause-contents g c = λ honest right.
    let e = rw c.in-Ok-Some.field-0-is at (c.in-Ok-Some.ensures.found honest right) in
    let has = contents-newest (log_of c.args.self.now) c.args.key.now (Some (c.in-Ok-Some.address, shown c.in-Ok-Some.record)) (sym e) ∙ ap option_copied c.in-Some.is in
    absurd (omega (arith, c.if-value-le-VALUE_BYTES_MAX.false, never-long c.args.self.now c.args.key.now c.in-Some.value.now (now-is _ _ c.self.view_is c.self.invariant.0) has))

pub returns-in-None-clause-place : goal.returns-in-None-clause-place
returns-in-None-clause-place g c =
    let newest = rw c.in-Ok-Some.field-0-is at c.in-Ok-Some.ensures.mutable in
    some-both c.spot_at-spot.result _ _ _ (λ spot same low. spot-in-place c.args.self.now c.args.key.now c.in-Ok-Some.address (shown c.in-Ok-Some.record) spot same low (newest low)) c.spot_at-spot.ensures.spot c.spot_at-spot.ensures.mutable

pub returns-in-None-clause-none : goal.returns-in-None-clause-none
returns-in-None-clause-none g c =
    none-so c.spot_at-spot.result _ _
    (λ below. λ size address there.
    let same = rw c.in-Ok-Some.field-0-is at (c.in-Ok-Some.ensures.placed size address there) in
    omega (arith, below, there.mutable, same))
    c.spot_at-spot.ensures.none

pub returns-in-None-clause-values : goal.returns-in-None-clause-values
returns-in-None-clause-values g c = values-short c.args.self.now (now-is _ _ c.self.view_is c.self.invariant.0)

pub returns-in-None-clause-value : goal.returns-in-None-clause-value
returns-in-None-clause-value g c =
    let newest = rw c.in-Ok-Some.field-0-is at c.in-Ok-Some.ensures.mutable in
    some-so c.spot_at-spot.result _ _
    (λ spot low.
    let has = contents-newest (log_of c.args.self.now) c.args.key.now (Some (c.in-Ok-Some.address, shown c.in-Ok-Some.record)) (newest low) ∙ ap option_copied c.in-None.is in
    has)
    c.spot_at-spot.ensures.mutable

pub returns-in-None-clause-contents : goal.returns-in-None-clause-contents
returns-in-None-clause-contents g c = λ honest right.
    let e = rw c.in-Ok-Some.field-0-is at (c.in-Ok-Some.ensures.found honest right) in
    let has = contents-newest (log_of c.args.self.now) c.args.key.now (Some (c.in-Ok-Some.address, shown c.in-Ok-Some.record)) (sym e) ∙ ap option_copied c.in-None.is in
    has
