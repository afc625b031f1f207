use Rattle.std.proofs.Common.{◌≡◌, ◌∙◌, ◌∷◌, ◌+◌, ◌<◌, ◌*◌, ◌%◌, ◌^◌, refl, sym, ap, drop-cons, add-one, drop, get_or, bit_xor, ℕ, List, length}
use Rattle.std.proofs.lemmas.List.{drop_all}
use Rattle.words.specs.Stripes.{hash_onto, hash_of}
use Rattle.words.proofs.hash.hash_of.Goals as goal

pub loop-byte-init : goal.loop-byte-init
unfolding hash_of
loop-byte-init c = refl

pub loop-byte-preserved : goal.loop-byte-preserved
loop-byte-preserved c =
    let key : List ℕ = c.args.key.now in
    let i : ℕ = c.loop-byte.byte-index in
    let h : ℕ = c.loop-byte.hash in
    let below : i < length key = c.loop-byte-test.true in
    let e : drop i key ≡ get_or key i 0 ∷ drop (i + 1) key = rw (add-one, drop-cons key i 0) in
    ap (λ (b : ℕ). hash_onto ((bit_xor h b * 1099511628211) % 2 ^ 64) (drop (i + 1) key)) c.from.ensures
    ∙ sym (ap (hash_onto h) e) ∙ c.loop-byte.invariant

pub returns : goal.returns
returns c = sym (ap (hash_onto c.loop-byte.hash) (drop_all c.loop-byte.byte-index c.args.key.now c.loop-byte-test.false)) ∙ c.loop-byte.invariant
