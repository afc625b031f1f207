use Rattle.std.proofs.Common.{◌≡◌, ◌-◌, arith}
use Rattle.std.specs.Option.{option_copied}
use Rattle.frames.specs.Resident.{next_number}
use Rattle.hybrid.proofs.Putting.{tail-is, put-from}
use Rattle.hybrid.proofs.stripe.Stripe.put.Goals as goal

pub put_record-requires-clause-laid_out : goal.put_record-requires-clause-laid_out
put_record-requires-clause-laid_out g c =
    let at : c.next_number-number.result - 1 ≡ next_number c.self.inside.frames - 1 = omega (arith, c.next_number-number.ensures.number) in
    (tail-is _ (c.next_number-number.result - 1) c.in-Some.page.now c.self.invariant.0 at c.in-Some.ensures.bytes).laid

pub invariant_of-self : goal.invariant_of-self
invariant_of-self g c =
    let at : c.next_number-number.result - 1 ≡ next_number c.self.inside.frames - 1 = omega (arith, c.next_number-number.ensures.number) in
    let done = put-from _ _ (c.next_number-number.result - 1) c.in-Ok.offset c.of-address.result c.number.result c.head-link.result c.args.hash c.index_hash-index_hash.result c.in-Some.page.now c.put_record.new.page c.set_head.new.self c.args.key.now (option_copied c.args.value) c.self.view_is c.self.invariant.0 at c.in-Some.ensures.bytes
    c.in-Ok.ensures.laid_out c.in-Ok.ensures.number c.in-Ok.ensures.appended c.in-Ok.ensures.end c.in-Ok.ensures.offset c.requires.hash c.index_hash-index_hash.ensures c.head-link.ensures.head c.of-address.ensures c.number.ensures c.set_head.ensures.heads c.requires.fits in
    (done.is, c.self.invariant.1, c.self.invariant.2)

pub returns-clause-log : goal.returns-clause-log
returns-clause-log g c =
    let at : c.next_number-number.result - 1 ≡ next_number c.self.inside.frames - 1 = omega (arith, c.next_number-number.ensures.number) in
    let done = put-from _ _ (c.next_number-number.result - 1) c.in-Ok.offset c.of-address.result c.number.result c.head-link.result c.args.hash c.index_hash-index_hash.result c.in-Some.page.now c.put_record.new.page c.set_head.new.self c.args.key.now (option_copied c.args.value) c.self.view_is c.self.invariant.0 at c.in-Some.ensures.bytes
    c.in-Ok.ensures.laid_out c.in-Ok.ensures.number c.in-Ok.ensures.appended c.in-Ok.ensures.end c.in-Ok.ensures.offset c.requires.hash c.index_hash-index_hash.ensures c.head-link.ensures.head c.of-address.ensures c.number.ensures c.set_head.ensures.heads c.requires.fits in
    done.appended

pub returns-clause-heads : goal.returns-clause-heads
returns-clause-heads g c =
    let at : c.next_number-number.result - 1 ≡ next_number c.self.inside.frames - 1 = omega (arith, c.next_number-number.ensures.number) in
    let done = put-from _ _ (c.next_number-number.result - 1) c.in-Ok.offset c.of-address.result c.number.result c.head-link.result c.args.hash c.index_hash-index_hash.result c.in-Some.page.now c.put_record.new.page c.set_head.new.self c.args.key.now (option_copied c.args.value) c.self.view_is c.self.invariant.0 at c.in-Some.ensures.bytes
    c.in-Ok.ensures.laid_out c.in-Ok.ensures.number c.in-Ok.ensures.appended c.in-Ok.ensures.end c.in-Ok.ensures.offset c.requires.hash c.index_hash-index_hash.ensures c.head-link.ensures.head c.of-address.ensures c.number.ensures c.set_head.ensures.heads c.requires.fits in
    done.heads

pub returns-clause-address : goal.returns-clause-address
returns-clause-address g c =
    let at : c.next_number-number.result - 1 ≡ next_number c.self.inside.frames - 1 = omega (arith, c.next_number-number.ensures.number) in
    let done = put-from _ _ (c.next_number-number.result - 1) c.in-Ok.offset c.of-address.result c.number.result c.head-link.result c.args.hash c.index_hash-index_hash.result c.in-Some.page.now c.put_record.new.page c.set_head.new.self c.args.key.now (option_copied c.args.value) c.self.view_is c.self.invariant.0 at c.in-Some.ensures.bytes
    c.in-Ok.ensures.laid_out c.in-Ok.ensures.number c.in-Ok.ensures.appended c.in-Ok.ensures.end c.in-Ok.ensures.offset c.requires.hash c.index_hash-index_hash.ensures c.head-link.ensures.head c.of-address.ensures c.number.ensures c.set_head.ensures.heads c.requires.fits in
    done.address

pub returns-clause-resident : goal.returns-clause-resident
returns-clause-resident g c =
    let at : c.next_number-number.result - 1 ≡ next_number c.self.inside.frames - 1 = omega (arith, c.next_number-number.ensures.number) in
    let done = put-from _ _ (c.next_number-number.result - 1) c.in-Ok.offset c.of-address.result c.number.result c.head-link.result c.args.hash c.index_hash-index_hash.result c.in-Some.page.now c.put_record.new.page c.set_head.new.self c.args.key.now (option_copied c.args.value) c.self.view_is c.self.invariant.0 at c.in-Some.ensures.bytes
    c.in-Ok.ensures.laid_out c.in-Ok.ensures.number c.in-Ok.ensures.appended c.in-Ok.ensures.end c.in-Ok.ensures.offset c.requires.hash c.index_hash-index_hash.ensures c.head-link.ensures.head c.of-address.ensures c.number.ensures c.set_head.ensures.heads c.requires.fits in
    done.resident

pub returns-clause-bytes : goal.returns-clause-bytes
returns-clause-bytes g c =
    let at : c.next_number-number.result - 1 ≡ next_number c.self.inside.frames - 1 = omega (arith, c.next_number-number.ensures.number) in
    let done = put-from _ _ (c.next_number-number.result - 1) c.in-Ok.offset c.of-address.result c.number.result c.head-link.result c.args.hash c.index_hash-index_hash.result c.in-Some.page.now c.put_record.new.page c.set_head.new.self c.args.key.now (option_copied c.args.value) c.self.view_is c.self.invariant.0 at c.in-Some.ensures.bytes
    c.in-Ok.ensures.laid_out c.in-Ok.ensures.number c.in-Ok.ensures.appended c.in-Ok.ensures.end c.in-Ok.ensures.offset c.requires.hash c.index_hash-index_hash.ensures c.head-link.ensures.head c.of-address.ensures c.number.ensures c.set_head.ensures.heads c.requires.fits in
    done.bytes
