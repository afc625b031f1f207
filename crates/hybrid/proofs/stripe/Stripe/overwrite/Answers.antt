use Rattle.std.proofs.Common.{◌∙◌, ap, length}
use Rattle.std.specs.Option.{option_copied}
use Rattle.records.specs.Records.{value_bytes}
use Rattle.hybrid.proofs.Overwriting.{room-from, overwritten-from, contents-changed}
use Rattle.hybrid.proofs.Finding.{now-is}
use Rattle.hybrid.specs.Log.{contents}
use Rattle.hybrid.proofs.stripe.Stripe.overwrite.Goals as goal

pub unreachable-requires : goal.unreachable-requires
unreachable-requires g c =
    let at = room-from _ _ c.args.address (length (value_bytes (option_copied c.args.value))) c.self.view_is c.self.invariant.0 c.requires.room in
    let bad = c.in_default.ensures.mutable.1 (rw c.page.ensures (at.low, at.high)) in absurd cc

pub overwrite-requires-clause-laid_out : goal.overwrite-requires-clause-laid_out
overwrite-requires-clause-laid_out g c =
    let at = room-from _ _ c.args.address (length (value_bytes (option_copied c.args.value))) c.self.view_is c.self.invariant.0 c.requires.room in
    rw (c.in-Some.ensures.bytes, c.page.ensures) at.laid

pub overwrite-requires-clause-fits : goal.overwrite-requires-clause-fits
overwrite-requires-clause-fits g c =
    let at = room-from _ _ c.args.address (length (value_bytes (option_copied c.args.value))) c.self.view_is c.self.invariant.0 c.requires.room in
    rw (c.offset.ensures, c.in-Some.ensures.bytes, c.page.ensures) at.room

pub invariant_of-self : goal.invariant_of-self
invariant_of-self g c =
    let done = overwritten-from _ _ c.args.address c.page.result c.offset.result (length (value_bytes (option_copied c.args.value))) (option_copied c.args.value) c.in-Some.page.now c.overwrite.new.page c.page.ensures c.offset.ensures c.self.view_is c.self.invariant.0 c.requires.room c.requires.fits c.in-Some.ensures.bytes
    c.overwrite.ensures.laid_out c.overwrite.ensures.number c.overwrite.ensures.end c.overwrite.ensures.changed in
    (done.is, c.self.invariant.1, c.self.invariant.2)

pub returns-clause-log : goal.returns-clause-log
returns-clause-log g c =
    let done = overwritten-from _ _ c.args.address c.page.result c.offset.result (length (value_bytes (option_copied c.args.value))) (option_copied c.args.value) c.in-Some.page.now c.overwrite.new.page c.page.ensures c.offset.ensures c.self.view_is c.self.invariant.0 c.requires.room c.requires.fits c.in-Some.ensures.bytes
    c.overwrite.ensures.laid_out c.overwrite.ensures.number c.overwrite.ensures.end c.overwrite.ensures.changed in
    done.log

pub returns-clause-put : goal.returns-clause-put
returns-clause-put g c =
    let done = overwritten-from _ _ c.args.address c.page.result c.offset.result (length (value_bytes (option_copied c.args.value))) (option_copied c.args.value) c.in-Some.page.now c.overwrite.new.page c.page.ensures c.offset.ensures c.self.view_is c.self.invariant.0 c.requires.room c.requires.fits c.in-Some.ensures.bytes
    c.overwrite.ensures.laid_out c.overwrite.ensures.number c.overwrite.ensures.end c.overwrite.ensures.changed in
    done.put

pub returns-clause-heads : goal.returns-clause-heads
returns-clause-heads g c =
    let done = overwritten-from _ _ c.args.address c.page.result c.offset.result (length (value_bytes (option_copied c.args.value))) (option_copied c.args.value) c.in-Some.page.now c.overwrite.new.page c.page.ensures c.offset.ensures c.self.view_is c.self.invariant.0 c.requires.room c.requires.fits c.in-Some.ensures.bytes
    c.overwrite.ensures.laid_out c.overwrite.ensures.number c.overwrite.ensures.end c.overwrite.ensures.changed in
    done.heads

pub returns-clause-bytes : goal.returns-clause-bytes
returns-clause-bytes g c =
    let done = overwritten-from _ _ c.args.address c.page.result c.offset.result (length (value_bytes (option_copied c.args.value))) (option_copied c.args.value) c.in-Some.page.now c.overwrite.new.page c.page.ensures c.offset.ensures c.self.view_is c.self.invariant.0 c.requires.room c.requires.fits c.in-Some.ensures.bytes
    c.overwrite.ensures.laid_out c.overwrite.ensures.number c.overwrite.ensures.end c.overwrite.ensures.changed in
    done.bytes

pub returns-clause-contents : goal.returns-clause-contents
returns-clause-contents g c = λ key size there other.
    let done = overwritten-from _ _ c.args.address c.page.result c.offset.result (length (value_bytes (option_copied c.args.value))) (option_copied c.args.value) c.in-Some.page.now c.overwrite.new.page c.page.ensures c.offset.ensures c.self.view_is c.self.invariant.0 c.requires.room c.requires.fits c.in-Some.ensures.bytes
    c.overwrite.ensures.laid_out c.overwrite.ensures.number c.overwrite.ensures.end c.overwrite.ensures.changed in
    ap (λ l. contents l other) done.log ∙ contents-changed c.args.self.now c.args.address key there.stored (option_copied c.args.value) other (now-is _ _ c.self.view_is c.self.invariant.0) there.newest
