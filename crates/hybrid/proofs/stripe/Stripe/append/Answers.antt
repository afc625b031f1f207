use Rattle.std.proofs.Common.{◌≡◌, ◌+◌, ◌<◌, ◌≤◌, ap, subst, arith, length, ◌-◌}
use Rattle.std.specs.Option.{option_copied}
use Rattle.words.specs.declared.limits.TheConstants.{WEIGHT_OF_KEY}
use Rattle.records.specs.declared.pages.TheConstants.{PAGE_SIZE, HEADER_SIZE}
use Rattle.records.specs.Records.{value_bytes, size_for}
use Rattle.hybrid.specs.HybridLog.{HybridLog, IsPut, tail_bytes}
use Rattle.hybrid.proofs.Tail.{added-put, added-opened, grown-put, grown-opened, room-put, room-frames, room-opened, room-put-opened, size-less, size-short, size-small}
use Rattle.hybrid.proofs.stripe.Stripe.append.Goals as goal

pub put-requires-clause-room : goal.put-requires-clause-room
put-requires-clause-room g c =
    let same = ap (size_for (length c.args.key.now)) c.length_of.ensures in
    omega (arith, c.if-record_size-free.true, c.record_size.ensures, same, c.tail_end-free.ensures.end, c.tail_end-free.ensures.laid_out)

pub returns-then-record_size-free-clause-room : goal.returns-then-record_size-free-clause-room
returns-then-record_size-free-clause-room g c =
    let k = length c.args.key.now in
    let v = length (value_bytes (option_copied c.args.value)) in
    room-put c.args.self.now c.put.new.self c.args.weight (WEIGHT_OF_KEY + k + v) (size_for k v) (size-small k v) c.requires.within c.put.ensures.put c.put.ensures.bytes c.requires.room

pub returns-then-record_size-free-clause-grown : goal.returns-then-record_size-free-clause-grown
returns-then-record_size-free-clause-grown g c =
    let k = length c.args.key.now in
    let v = length (value_bytes (option_copied c.args.value)) in
    grown-put c.args.self.now c.put.new.self (WEIGHT_OF_KEY + k + v) (size_for k v) (size-small k v) c.put.ensures.bytes c.put.ensures.put

pub open_page-requires-clause-room : goal.open_page-requires-clause-room
open_page-requires-clause-room g c =
    let k = length c.args.key.now in
    let v = length (value_bytes (option_copied c.args.value)) in
    let same = ap (size_for k) c.length_of.ensures in
    let full : PAGE_SIZE - HEADER_SIZE ≤ tail_bytes c.args.self.now + size_for k v = omega (arith, c.if-record_size-free.false, c.record_size.ensures, same, c.tail_end-free.ensures.end, c.tail_end-free.ensures.laid_out) in
    let frames = room-frames c.args.self.now c.args.weight (WEIGHT_OF_KEY + k + v) (size_for k v) (size-less k v) c.requires.within full c.requires.room in
    room-opened c.args.self.now c.args.weight (WEIGHT_OF_KEY + k + v) (size_for k v) (size-small k v) c.requires.within (omega arith) (size-short k v c.requires.fits.key_fits c.requires.fits.value_fits) full frames

pub open_page-requires-clause-numbers : goal.open_page-requires-clause-numbers
open_page-requires-clause-numbers g c =
    let k = length c.args.key.now in
    let v = length (value_bytes (option_copied c.args.value)) in
    let same = ap (size_for k) c.length_of.ensures in
    let full : PAGE_SIZE - HEADER_SIZE ≤ tail_bytes c.args.self.now + size_for k v = omega (arith, c.if-record_size-free.false, c.record_size.ensures, same, c.tail_end-free.ensures.end, c.tail_end-free.ensures.laid_out) in
    (room-frames c.args.self.now c.args.weight (WEIGHT_OF_KEY + k + v) (size_for k v) (size-less k v) c.requires.within full c.requires.room).numbers

pub put-requires-2-clause-room : goal.put-requires-2-clause-room
put-requires-2-clause-room g c =
    let short = size-short (length c.args.key.now) (length (value_bytes (option_copied c.args.value))) c.requires.fits.key_fits c.requires.fits.value_fits in
    omega (arith, c.open_page.ensures.tail, short)

pub returns-clause-room : goal.returns-clause-room
returns-clause-room g c =
    let k = length c.args.key.now in
    let v = length (value_bytes (option_copied c.args.value)) in
    let same = ap (size_for k) c.length_of.ensures in
    let full : PAGE_SIZE - HEADER_SIZE ≤ tail_bytes c.args.self.now + size_for k v = omega (arith, c.if-record_size-free.false, c.record_size.ensures, same, c.tail_end-free.ensures.end, c.tail_end-free.ensures.laid_out) in
    let frames = room-frames c.args.self.now c.args.weight (WEIGHT_OF_KEY + k + v) (size_for k v) (size-less k v) c.requires.within full c.requires.room in
    let put = subst (λ (q : HybridLog). IsPut q c.put-2.new.self) c.open_page.ensures.log c.put-2.ensures.put in
    let bytes : tail_bytes c.put-2.new.self ≡ size_for k v = omega (arith, c.put-2.ensures.bytes, c.open_page.ensures.tail) in
    room-put-opened c.args.self.now c.put-2.new.self c.args.weight (WEIGHT_OF_KEY + k + v) (size_for k v) (size-small k v) c.requires.within (omega arith) (size-short k v c.requires.fits.key_fits c.requires.fits.value_fits) full put bytes frames

pub returns-clause-grown : goal.returns-clause-grown
returns-clause-grown g c =
    let k = length c.args.key.now in
    let v = length (value_bytes (option_copied c.args.value)) in
    let short = size-short k v c.requires.fits.key_fits c.requires.fits.value_fits in
    let same = ap (size_for k) c.length_of.ensures in
    let full : PAGE_SIZE - HEADER_SIZE < tail_bytes c.args.self.now + size_for k v = omega (arith, c.if-record_size-free.false, c.record_size.ensures, same, c.tail_end-free.ensures.end, c.tail_end-free.ensures.laid_out) in
    let put = subst (λ (q : HybridLog). IsPut q c.put-2.new.self) c.open_page.ensures.log c.put-2.ensures.put in
    let bytes : tail_bytes c.put-2.new.self ≡ size_for k v = omega (arith, c.put-2.ensures.bytes, c.open_page.ensures.tail) in
    grown-opened c.args.self.now c.put-2.new.self (WEIGHT_OF_KEY + k + v) (size_for k v) (size-small k v) short full bytes put

pub returns-then-record_size-free-clause-added : goal.returns-then-record_size-free-clause-added
returns-then-record_size-free-clause-added g c =
    let k = length c.args.key.now in
    let v = length (value_bytes (option_copied c.args.value)) in
    let same = ap (size_for k) c.length_of.ensures in
    let fits : tail_bytes c.args.self.now + size_for k v ≤ PAGE_SIZE - HEADER_SIZE = omega (arith, c.if-record_size-free.true, c.record_size.ensures, same, c.tail_end-free.ensures.end, c.tail_end-free.ensures.laid_out) in
    added-put c.args.self.now c.put.new.self c.put.result c.args.key.now (option_copied c.args.value) fits c.put.ensures.put c.put.ensures.bytes c.put.ensures.address c.put.ensures.log c.put.ensures.heads

pub returns-clause-added : goal.returns-clause-added
returns-clause-added g c =
    let k = length c.args.key.now in
    let v = length (value_bytes (option_copied c.args.value)) in
    let same = ap (size_for k) c.length_of.ensures in
    let full : PAGE_SIZE - HEADER_SIZE < tail_bytes c.args.self.now + size_for k v = omega (arith, c.if-record_size-free.false, c.record_size.ensures, same, c.tail_end-free.ensures.end, c.tail_end-free.ensures.laid_out) in
    added-opened c.args.self.now c.open_page.new.self c.put-2.new.self c.put-2.result c.args.key.now (option_copied c.args.value) full c.tail_end-free.ensures.pages
    c.open_page.ensures.log c.open_page.ensures.records c.open_page.ensures.tail c.put-2.ensures.put c.put-2.ensures.bytes c.put-2.ensures.address c.put-2.ensures.log c.put-2.ensures.heads
