use Rattle.std.proofs.Common.{◌≡◌, ◌≤◌, ◌∙◌, Some, ap, sym, refl, arith}
use Rattle.std.specs.Prelude.{⊤}
use Rattle.records.specs.Read.{shown}
use Rattle.records.specs.Records.{Stored}
use Rattle.frames.specs.Resident.{first_mutable}
use Rattle.hybrid.specs.Log.{begin_of}
use Rattle.hybrid.specs.HybridLog.{HybridLog, bucket_of, log_of}
use Rattle.hybrid.proofs.Addresses.{at_most, beyond}
use Rattle.hybrid.proofs.Logs.{contents-newest}
use Rattle.hybrid.proofs.Walk.{here-found, here-link}
use Rattle.hybrid.proofs.Finding.{start-from, now-is}
use Rattle.hybrid.proofs.Placing.{reached, place-below}
use Rattle.hybrid.proofs.stripe.Stripe.newest_mutable.Goals as goal

pub loop-begin-init : goal.loop-begin-init
loop-begin-init g c =
    (start-from _ _ c.args.key.now (λ _. ⊤) c.args.hash c.index_hash.result c.from_number-address.result c.self.view_is c.self.invariant.0 c.requires c.index_hash.ensures (c.from_number-address.ensures ∙ c.head.ensures.head)).walk

pub unreachable-requires : goal.unreachable-requires
unreachable-requires g c =
    let first : c.first_mutable.result ≡ first_mutable c.args.self.now.resident = c.first_mutable.ensures ∙ ap (λ (q : HybridLog). first_mutable q.resident) c.self.view_is in
    let low : begin_of (first_mutable c.args.self.now.resident) ≤ c.loop-begin.address = omega (arith, at_most c.of-begin.result c.loop-begin.address c.loop-begin-test.ensures, c.of-begin.ensures, first) in
    let r = reached c.args.self.now c.args.key.now c.loop-begin.address (now-is _ _ c.self.view_is c.self.invariant.0) low c.loop-begin.invariant in
    c.in_default.ensures r.found.stored r.there

pub loop-begin-smaller : goal.loop-begin-smaller
loop-begin-smaller g c =
    let first : c.first_mutable.result ≡ first_mutable c.args.self.now.resident = c.first_mutable.ensures ∙ ap (λ (q : HybridLog). first_mutable q.resident) c.self.view_is in
    let low : begin_of (first_mutable c.args.self.now.resident) ≤ c.loop-begin.address = omega (arith, at_most c.of-begin.result c.loop-begin.address c.loop-begin-test.ensures, c.of-begin.ensures, first) in
    let r = reached c.args.self.now c.args.key.now c.loop-begin.address (now-is _ _ c.self.view_is c.self.invariant.0) low c.loop-begin.invariant in
    let same : shown c.in-Some.record ≡ r.found.stored = c.in-Some.ensures r.found.stored r.there in
    omega (arith, r.falls, ap (λ x. x.link) same, c.from_number-address-in-loop-begin.ensures)

pub loop-begin-preserved : goal.loop-begin-preserved
loop-begin-preserved g c =
    let first : c.first_mutable.result ≡ first_mutable c.args.self.now.resident = c.first_mutable.ensures ∙ ap (λ (q : HybridLog). first_mutable q.resident) c.self.view_is in
    let low : begin_of (first_mutable c.args.self.now.resident) ≤ c.loop-begin.address = omega (arith, at_most c.of-begin.result c.loop-begin.address c.loop-begin-test.ensures, c.of-begin.ensures, first) in
    let r = reached c.args.self.now c.args.key.now c.loop-begin.address (now-is _ _ c.self.view_is c.self.invariant.0) low c.loop-begin.invariant in
    let same : shown c.in-Some.record ≡ r.found.stored = c.in-Some.ensures r.found.stored r.there in
    let linked = here-link (bucket_of c.args.self.now) (begin_of c.args.self.now.oldest) (log_of c.args.self.now) c.args.key.now (λ _. ⊤) c.loop-begin.address r.found
    (λ key. let bad = c.if-has_key.ensures.1 (ap (λ x. x.key) same ∙ key) in absurd cc) tt in
    rw (sym (c.from_number-address-in-loop-begin.ensures ∙ ap (λ x. x.link) same)) at linked

pub returns-then-has_key-clause-found : goal.returns-then-has_key-clause-found
returns-then-has_key-clause-found g c =
    let first : c.first_mutable.result ≡ first_mutable c.args.self.now.resident = c.first_mutable.ensures ∙ ap (λ (q : HybridLog). first_mutable q.resident) c.self.view_is in
    let low : begin_of (first_mutable c.args.self.now.resident) ≤ c.loop-begin.address = omega (arith, at_most c.of-begin.result c.loop-begin.address c.loop-begin-test.ensures, c.of-begin.ensures, first) in
    let r = reached c.args.self.now c.args.key.now c.loop-begin.address (now-is _ _ c.self.view_is c.self.invariant.0) low c.loop-begin.invariant in
    let same : shown c.in-Some.record ≡ r.found.stored = c.in-Some.ensures r.found.stored r.there in
    let keyed = ap (λ x. x.key) (sym same) ∙ c.if-has_key.ensures.0 refl in
    here-found (bucket_of c.args.self.now) (begin_of c.args.self.now.oldest) (log_of c.args.self.now) c.args.key.now (λ _. ⊤) c.loop-begin.address r.found keyed ∙ ap (λ (x : Stored). Some (c.loop-begin.address, x)) (sym same)

pub returns-then-has_key-clause-mutable : goal.returns-then-has_key-clause-mutable
returns-then-has_key-clause-mutable g c =
    let first : c.first_mutable.result ≡ first_mutable c.args.self.now.resident = c.first_mutable.ensures ∙ ap (λ (q : HybridLog). first_mutable q.resident) c.self.view_is in
    omega (arith, at_most c.of-begin.result c.loop-begin.address c.loop-begin-test.ensures, c.of-begin.ensures, first)

pub returns-then-has_key-clause-value : goal.returns-then-has_key-clause-value
returns-then-has_key-clause-value g c = contents-newest (log_of c.args.self.now) c.args.key.now (Some (c.loop-begin.address, shown c.in-Some.record)) (returns-then-has_key-clause-found g c)

pub returns-clause-none : goal.returns-clause-none
returns-clause-none g c = λ size address there.
    let first : c.first_mutable.result ≡ first_mutable c.args.self.now.resident = c.first_mutable.ensures ∙ ap (λ (q : HybridLog). first_mutable q.resident) c.self.view_is in
    place-below c.args.self.now c.args.key.now size c.loop-begin.address (omega (arith, beyond c.of-begin.result c.loop-begin.address c.loop-begin-test.ensures, c.of-begin.ensures, first)) c.loop-begin.invariant address there
