use Rattle.std.proofs.Common.{◌∙◌, ap, sym, arith, None, Some}
use Rattle.std.specs.Option.{option_copied}
use Rattle.records.specs.Read.{shown}
use Rattle.hybrid.specs.HybridLog.{log_of}
use Rattle.hybrid.proofs.Finding.{now-is}
use Rattle.hybrid.proofs.Logs.{contents-newest}
use Rattle.hybrid.proofs.Values.{values-short, never-long}
use Rattle.hybrid.proofs.stripe.Stripe.find_hashed.Goals as goal

pub returns-in-Ok-None-clause-contents : goal.returns-in-Ok-None-clause-contents
returns-in-Ok-None-clause-contents g c = λ honest right.
    let e = rw c.in-Ok-None.field-0-is at (c.in-Ok-None.ensures.found honest right) in
    contents-newest (log_of c.args.self.now) c.args.key.now None (sym e)

pub returns-in-Some-clause-contents : goal.returns-in-Some-clause-contents
returns-in-Some-clause-contents g c = λ honest right.
    let e = rw c.in-Ok-Some.field-0-is at (c.in-Ok-Some.ensures.found honest right) in
    contents-newest (log_of c.args.self.now) c.args.key.now (Some (c.in-Ok-Some.field-0-0-0, shown c.in-Ok-Some.record)) (sym e) ∙ ap option_copied c.in-Some.is

pub returns-in-None-clause-contents : goal.returns-in-None-clause-contents
returns-in-None-clause-contents g c = λ honest right.
    let e = rw c.in-Ok-Some.field-0-is at (c.in-Ok-Some.ensures.found honest right) in
    contents-newest (log_of c.args.self.now) c.args.key.now (Some (c.in-Ok-Some.field-0-0-0, shown c.in-Ok-Some.record)) (sym e) ∙ ap option_copied c.in-None.is

pub returns-in-Err-clause-values : goal.returns-in-Err-clause-values
returns-in-Err-clause-values g c = values-short c.args.self.now (now-is _ _ c.self.view_is c.self.invariant.0)

pub returns-in-Ok-None-clause-values : goal.returns-in-Ok-None-clause-values
returns-in-Ok-None-clause-values g c = values-short c.args.self.now (now-is _ _ c.self.view_is c.self.invariant.0)

pub returns-in-Some-clause-values : goal.returns-in-Some-clause-values
returns-in-Some-clause-values g c = values-short c.args.self.now (now-is _ _ c.self.view_is c.self.invariant.0)

pub returns-in-Some-2-clause-values : goal.returns-in-Some-2-clause-values
returns-in-Some-2-clause-values g c = values-short c.args.self.now (now-is _ _ c.self.view_is c.self.invariant.0)

pub returns-in-None-clause-values : goal.returns-in-None-clause-values
returns-in-None-clause-values g c = values-short c.args.self.now (now-is _ _ c.self.view_is c.self.invariant.0)

pub returns-in-Some-2-clause-contents : goal.returns-in-Some-2-clause-contents
returns-in-Some-2-clause-contents g c = λ honest right.
    let e = rw c.in-Ok-Some.field-0-is at (c.in-Ok-Some.ensures.found honest right) in
    let has = contents-newest (log_of c.args.self.now) c.args.key.now (Some (c.in-Ok-Some.field-0-0-0, shown c.in-Ok-Some.record)) (sym e) ∙ ap option_copied c.in-Some.is in
    absurd (omega (arith, c.if-value-le-VALUE_BYTES_MAX.false, never-long c.args.self.now c.args.key.now c.in-Some.value.now (now-is _ _ c.self.view_is c.self.invariant.0) has))
