use Rattle.std.proofs.Common.{◌≡◌, ◌<◌, ◌≤◌, ◌∙◌, ap, sym, refl, arith, Some}
use Rattle.std.specs.Prelude.{⊤}
use Rattle.records.specs.Read.{shown}
use Rattle.hybrid.specs.Log.{begin_of}
use Rattle.hybrid.specs.HybridLog.{HybridLog, bucket_of, log_of}
use Rattle.hybrid.specs.Ways.{IsNear}
use Rattle.hybrid.proofs.Addresses.{at_most, beyond}
use Rattle.hybrid.proofs.Walk.{here-found, here-last, here-link, link-falls, walk-end, walk-passed}
use Rattle.hybrid.proofs.Placing.{placing-from, placing-found, placing-here, placing-link, placing-none}
use Rattle.hybrid.proofs.Finding.{start-from, seen, far-here, leads-here, now-is}
use Rattle.hybrid.proofs.stripe.Stripe.newest.Goals as goal

pub loop-begin-init : goal.loop-begin-init
loop-begin-init g c =
    let s = start-from _ _ c.args.key.now (IsNear g.R.Shows.lends c.args.self.now c.args.staged.now) c.args.hash c.index_hash.result c.from_number-address.result c.self.view_is c.self.invariant.0 c.requires.hash c.index_hash.ensures (c.from_number-address.ensures ∙ c.head.ensures.head) in
    let t = start-from _ _ c.args.key.now (λ _. ⊤) c.args.hash c.index_hash.result c.from_number-address.result c.self.view_is c.self.invariant.0 c.requires.hash c.index_hash.ensures (c.from_number-address.ensures ∙ c.head.ensures.head) in
    record { below = s.below; walk = λ honest right. s.walk; placing = placing-from c.args.self.now c.args.key.now c.from_number-address.result t.walk }

pub returns-in_default-clause-leads : goal.returns-in_default-clause-leads
returns-in_default-clause-leads g c = λ honest right.
    let first = ap (λ (q : HybridLog). q.oldest) c.self.view_is in
    let low : begin_of c.args.self.now.oldest ≤ c.loop-begin.address = omega (arith, at_most c.of-begin.result c.loop-begin.address c.loop-begin-test.ensures, c.of-begin.ensures, first) in
    leads-here c.args.self.now c.args.key.now (IsNear g.R.Shows.lends c.args.self.now c.args.staged.now) c.loop-begin.address _ low (c.loop-begin.invariant.walk honest right) refl

pub returns-in_default-clause-far : goal.returns-in_default-clause-far
returns-in_default-clause-far g c = λ honest right.
    let first = ap (λ (q : HybridLog). q.oldest) c.self.view_is in
    let low : begin_of c.args.self.now.oldest ≤ c.loop-begin.address = omega (arith, at_most c.of-begin.result c.loop-begin.address c.loop-begin-test.ensures, c.of-begin.ensures, first) in
    let s = seen c.args.self.now c.args.key.now (IsNear g.R.Shows.lends c.args.self.now c.args.staged.now) c.loop-begin.address (now-is _ _ c.self.view_is c.self.invariant.0) low (c.loop-begin.invariant.walk honest right) in
    far-here g.R.Shows.lends c.args.self.now c.args.staged.now c.args.key.now c.loop-begin.address _ s.found refl (c.in_default.ensures.unread honest right s.found.stored s.at)

pub returns-in_default-found-clause-found : goal.returns-in_default-found-clause-found
returns-in_default-found-clause-found g c = λ honest right.
    let first = ap (λ (q : HybridLog). q.oldest) c.self.view_is in
    let low : begin_of c.args.self.now.oldest ≤ c.loop-begin.address = omega (arith, at_most c.of-begin.result c.loop-begin.address c.loop-begin-test.ensures, c.of-begin.ensures, first) in
    let s = seen c.args.self.now c.args.key.now (IsNear g.R.Shows.lends c.args.self.now c.args.staged.now) c.loop-begin.address (now-is _ _ c.self.view_is c.self.invariant.0) low (c.loop-begin.invariant.walk honest right) in
    let has = c.in-Some.ensures.found honest right s.found.stored s.at in
    let none = rw c.in_default-found.is at has.0 in
    absurd none

pub returns-in_default-found-clause-way : goal.returns-in_default-found-clause-way
returns-in_default-found-clause-way g c = λ honest right.
    let first = ap (λ (q : HybridLog). q.oldest) c.self.view_is in
    let low : begin_of c.args.self.now.oldest ≤ c.loop-begin.address = omega (arith, at_most c.of-begin.result c.loop-begin.address c.loop-begin-test.ensures, c.of-begin.ensures, first) in
    let s = seen c.args.self.now c.args.key.now (IsNear g.R.Shows.lends c.args.self.now c.args.staged.now) c.loop-begin.address (now-is _ _ c.self.view_is c.self.invariant.0) low (c.loop-begin.invariant.walk honest right) in
    let has = c.in-Some.ensures.found honest right s.found.stored s.at in
    let none = rw c.in_default-found.is at has.0 in
    absurd none

pub returns-then-has_key-clause-found : goal.returns-then-has_key-clause-found
returns-then-has_key-clause-found g c = λ honest right.
    let first = ap (λ (q : HybridLog). q.oldest) c.self.view_is in
    let low : begin_of c.args.self.now.oldest ≤ c.loop-begin.address = omega (arith, at_most c.of-begin.result c.loop-begin.address c.loop-begin-test.ensures, c.of-begin.ensures, first) in
    let s = seen c.args.self.now c.args.key.now (IsNear g.R.Shows.lends c.args.self.now c.args.staged.now) c.loop-begin.address (now-is _ _ c.self.view_is c.self.invariant.0) low (c.loop-begin.invariant.walk honest right) in
    let has = c.in-Some.ensures.found honest right s.found.stored s.at in
    let same : shown c.in-Ok.record ≡ s.found.stored = rw c.in-Ok.is at has.0 in
    let key : s.found.stored.key ≡ c.args.key.now = ap (λ r. r.key) (sym same) ∙ c.if-has_key.ensures.0 refl in
    ap (λ r. Some (c.loop-begin.address, r)) same ∙ sym (here-found (bucket_of c.args.self.now) (begin_of c.args.self.now.oldest) (log_of c.args.self.now) c.args.key.now (IsNear g.R.Shows.lends c.args.self.now c.args.staged.now) c.loop-begin.address s.found key)

pub returns-then-has_key-clause-way : goal.returns-then-has_key-clause-way
returns-then-has_key-clause-way g c = λ honest right.
    let first = ap (λ (q : HybridLog). q.oldest) c.self.view_is in
    let low : begin_of c.args.self.now.oldest ≤ c.loop-begin.address = omega (arith, at_most c.of-begin.result c.loop-begin.address c.loop-begin-test.ensures, c.of-begin.ensures, first) in
    let s = seen c.args.self.now c.args.key.now (IsNear g.R.Shows.lends c.args.self.now c.args.staged.now) c.loop-begin.address (now-is _ _ c.self.view_is c.self.invariant.0) low (c.loop-begin.invariant.walk honest right) in
    let has = c.in-Some.ensures.found honest right s.found.stored s.at in
    let same : shown c.in-Ok.record ≡ s.found.stored = rw c.in-Ok.is at has.0 in
    let key : s.found.stored.key ≡ c.args.key.now = ap (λ r. r.key) (sym same) ∙ c.if-has_key.ensures.0 refl in
    here-last (bucket_of c.args.self.now) (begin_of c.args.self.now.oldest) (log_of c.args.self.now) c.args.key.now (IsNear g.R.Shows.lends c.args.self.now c.args.staged.now) c.loop-begin.address s.found key has.1

pub returns-then-le-clause-found : goal.returns-then-le-clause-found
returns-then-le-clause-found g c = λ honest right.
    let first = ap (λ (q : HybridLog). q.oldest) c.self.view_is in
    let low : begin_of c.args.self.now.oldest ≤ c.loop-begin.address = omega (arith, at_most c.of-begin.result c.loop-begin.address c.loop-begin-test.ensures, c.of-begin.ensures, first) in
    let s = seen c.args.self.now c.args.key.now (IsNear g.R.Shows.lends c.args.self.now c.args.staged.now) c.loop-begin.address (now-is _ _ c.self.view_is c.self.invariant.0) low (c.loop-begin.invariant.walk honest right) in
    let has = c.in-Some.ensures.found honest right s.found.stored s.at in
    let same : shown c.in-Ok.record ≡ s.found.stored = rw c.in-Ok.is at has.0 in
    let falls = link-falls (bucket_of c.args.self.now) (begin_of c.args.self.now.oldest) (log_of c.args.self.now) c.args.key.now (IsNear g.R.Shows.lends c.args.self.now c.args.staged.now) c.loop-begin.address low s.found in
    absurd (omega (arith, falls, ap (λ r. r.link) same, at_most c.loop-begin.address c.from_number-link.result c.if-le.ensures, c.from_number-link.ensures))

pub returns-then-le-clause-way : goal.returns-then-le-clause-way
returns-then-le-clause-way g c = λ honest right.
    let first = ap (λ (q : HybridLog). q.oldest) c.self.view_is in
    let low : begin_of c.args.self.now.oldest ≤ c.loop-begin.address = omega (arith, at_most c.of-begin.result c.loop-begin.address c.loop-begin-test.ensures, c.of-begin.ensures, first) in
    let s = seen c.args.self.now c.args.key.now (IsNear g.R.Shows.lends c.args.self.now c.args.staged.now) c.loop-begin.address (now-is _ _ c.self.view_is c.self.invariant.0) low (c.loop-begin.invariant.walk honest right) in
    let has = c.in-Some.ensures.found honest right s.found.stored s.at in
    let same : shown c.in-Ok.record ≡ s.found.stored = rw c.in-Ok.is at has.0 in
    let falls = link-falls (bucket_of c.args.self.now) (begin_of c.args.self.now.oldest) (log_of c.args.self.now) c.args.key.now (IsNear g.R.Shows.lends c.args.self.now c.args.staged.now) c.loop-begin.address low s.found in
    absurd (omega (arith, falls, ap (λ r. r.link) same, at_most c.loop-begin.address c.from_number-link.result c.if-le.ensures, c.from_number-link.ensures))

pub loop-begin-preserved : goal.loop-begin-preserved
loop-begin-preserved g c = record {
  below = omega (arith, c.loop-begin.invariant.below, beyond c.loop-begin.address c.from_number-link.result c.if-le.ensures);
  walk = λ honest right.
      let first = ap (λ (q : HybridLog). q.oldest) c.self.view_is in
      let low : begin_of c.args.self.now.oldest ≤ c.loop-begin.address = omega (arith, at_most c.of-begin.result c.loop-begin.address c.loop-begin-test.ensures, c.of-begin.ensures, first) in
      let s = seen c.args.self.now c.args.key.now (IsNear g.R.Shows.lends c.args.self.now c.args.staged.now) c.loop-begin.address (now-is _ _ c.self.view_is c.self.invariant.0) low (c.loop-begin.invariant.walk honest right) in
      let has = c.in-Some.ensures.found honest right s.found.stored s.at in
      let same : shown c.in-Ok.record ≡ s.found.stored = rw c.in-Ok.is at has.0 in
      let linked = here-link (bucket_of c.args.self.now) (begin_of c.args.self.now.oldest) (log_of c.args.self.now) c.args.key.now (IsNear g.R.Shows.lends c.args.self.now c.args.staged.now) c.loop-begin.address s.found
      (λ key. let bad = c.if-has_key.ensures.1 (ap (λ r. r.key) same ∙ key) in absurd (let f = c.if-has_key.false in cc)) has.1 in
      rw (sym (c.from_number-link.ensures ∙ ap (λ r. r.link) same)) at linked;
  placing =
      let falls : (shown c.in-Ok.record).link < c.loop-begin.address = omega (arith, beyond c.loop-begin.address c.from_number-link.result c.if-le.ensures, c.from_number-link.ensures) in
      let next = placing-link c.args.self.now c.args.key.now c.loop-begin.address (now-is _ _ c.self.view_is c.self.invariant.0) c.loop-begin.invariant.placing (shown c.in-Ok.record)
      (λ r at. rw c.in-Ok.is at (c.in-Some.ensures.resident r at)) (λ key. let bad = c.if-has_key.ensures.1 key in absurd (let f = c.if-has_key.false in cc)) falls in
      rw (sym c.from_number-link.ensures) at next;
}

pub returns-clause-found : goal.returns-clause-found
returns-clause-found g c = λ honest right.
    let first = ap (λ (q : HybridLog). q.oldest) c.self.view_is in
    let low : c.loop-begin.address < begin_of c.args.self.now.oldest = omega (arith, beyond c.of-begin.result c.loop-begin.address c.loop-begin-test.ensures, c.of-begin.ensures, first) in
    sym (walk-end (bucket_of c.args.self.now) (begin_of c.args.self.now.oldest) (log_of c.args.self.now) c.args.key.now (IsNear g.R.Shows.lends c.args.self.now c.args.staged.now) c.loop-begin.address (c.loop-begin.invariant.walk honest right) low)

pub returns-clause-way : goal.returns-clause-way
returns-clause-way g c = λ honest right.
    let first = ap (λ (q : HybridLog). q.oldest) c.self.view_is in
    let low : c.loop-begin.address < begin_of c.args.self.now.oldest = omega (arith, beyond c.of-begin.result c.loop-begin.address c.loop-begin-test.ensures, c.of-begin.ensures, first) in
    walk-passed (bucket_of c.args.self.now) (begin_of c.args.self.now.oldest) (log_of c.args.self.now) c.args.key.now (IsNear g.R.Shows.lends c.args.self.now c.args.staged.now) c.loop-begin.address (c.loop-begin.invariant.walk honest right) low

pub returns-in_default-clause-placed : goal.returns-in_default-clause-placed
returns-in_default-clause-placed g c = λ size address there.
    placing-none c.args.self.now c.args.key.now c.loop-begin.address (now-is _ _ c.self.view_is c.self.invariant.0) c.loop-begin.invariant.placing
    (λ r. c.in_default.ensures.resident r.found.stored r.there) size address there

pub returns-in_default-found-clause-placed : goal.returns-in_default-found-clause-placed
returns-in_default-found-clause-placed g c = λ size address there.
    placing-none c.args.self.now c.args.key.now c.loop-begin.address (now-is _ _ c.self.view_is c.self.invariant.0) c.loop-begin.invariant.placing
    (λ r. let none = rw c.in_default-found.is at (c.in-Some.ensures.resident r.found.stored r.there) in absurd none) size address there

pub returns-then-has_key-clause-mutable : goal.returns-then-has_key-clause-mutable
returns-then-has_key-clause-mutable g c = λ low.
    placing-found c.args.self.now c.args.key.now c.loop-begin.address (now-is _ _ c.self.view_is c.self.invariant.0) c.loop-begin.invariant.placing (shown c.in-Ok.record)
    (λ r at. rw c.in-Ok.is at (c.in-Some.ensures.resident r at)) (c.if-has_key.ensures.0 refl) low

pub returns-then-has_key-clause-placed : goal.returns-then-has_key-clause-placed
returns-then-has_key-clause-placed g c = λ size address there.
    placing-here c.args.self.now c.args.key.now c.loop-begin.address (now-is _ _ c.self.view_is c.self.invariant.0) c.loop-begin.invariant.placing (shown c.in-Ok.record)
    (λ r at. rw c.in-Ok.is at (c.in-Some.ensures.resident r at)) (c.if-has_key.ensures.0 refl) size address there

pub returns-then-le-clause-placed : goal.returns-then-le-clause-placed
returns-then-le-clause-placed g c = λ size address there.
    placing-none c.args.self.now c.args.key.now c.loop-begin.address (now-is _ _ c.self.view_is c.self.invariant.0) c.loop-begin.invariant.placing
    (λ r.
    let same : shown c.in-Ok.record ≡ r.found.stored = rw c.in-Ok.is at (c.in-Some.ensures.resident r.found.stored r.there) in
    omega (arith, r.falls, ap (λ x. x.link) same, at_most c.loop-begin.address c.from_number-link.result c.if-le.ensures, c.from_number-link.ensures)) size address there

pub returns-clause-placed : goal.returns-clause-placed
returns-clause-placed g c = λ size address there.
    let first = ap (λ (q : HybridLog). q.oldest) c.self.view_is in
    let low : c.loop-begin.address < begin_of c.args.self.now.oldest = omega (arith, beyond c.of-begin.result c.loop-begin.address c.loop-begin-test.ensures, c.of-begin.ensures, first) in
    let is = now-is _ _ c.self.view_is c.self.invariant.0 in
    c.loop-begin.invariant.placing.none (omega (arith, low, is.live)) size address there
