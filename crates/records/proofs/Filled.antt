-- The bytes of a value and the zeros after it, after a write.
use Rattle.std.proofs.Common.{◌≡◌, ℕ, ◌+◌, ◌-◌, ◌<◌, ◌≤◌, List, ◌++◌, length, take, drop, replicate, Option, refl, sym, ap, ◌∙◌, arith, length-append, length-take, length-drop}
use Rattle.std.proofs.lemmas.List.{take_at, drop_at, drop-drop, drop-replicate, replicate-append-replicate}
use borrow.Rule.Slice.PartMut.{put_mid}
use Rattle.records.specs.declared.entries.TheConstants.{RECORD_HEADER}
use Rattle.records.specs.Records.{value_bytes, filled}

-- a value written into bytes that were all zero: those that follow a key of k bytes in n bytes for a record
pub filled-blank : (slot before after : List ℕ) (value : Option (List ℕ)) (k n : ℕ)
    → slot ≡ replicate n 0 → before ≡ drop k (drop RECORD_HEADER slot) → after ≡ value_bytes value ++ drop (length (value_bytes value)) before
    → after ≡ filled value (n - RECORD_HEADER - k)
filled-blank slot before after value k n is_slot is_before is_after =
    let v : ℕ = length (value_bytes value) in
    let behind_head : drop RECORD_HEADER slot ≡ replicate (n - RECORD_HEADER) 0 = ap (λ (s : List ℕ). drop RECORD_HEADER s) is_slot ∙ drop-replicate {X = ℕ} RECORD_HEADER n 0 in
    let behind_key : before ≡ replicate (n - RECORD_HEADER - k) 0 = is_before ∙ (ap (λ (s : List ℕ). drop k s) behind_head ∙ drop-replicate {X = ℕ} k (n - RECORD_HEADER) 0) in
    let zeros : drop v before ≡ replicate (n - RECORD_HEADER - k - v) 0 = ap (λ (s : List ℕ). drop v s) behind_key ∙ drop-replicate {X = ℕ} v (n - RECORD_HEADER - k) 0 in
    is_after ∙ ap (λ (s : List ℕ). value_bytes value ++ s) zeros

-- what follows the first n bytes of a value and its zeros, where the value is no longer than that
past-value : (old : Option (List ℕ)) (capacity n : ℕ) → length (value_bytes old) ≤ n → drop n (filled old capacity) ≡ replicate (capacity - n) 0
past-value old capacity n h =
    let o : ℕ = length (value_bytes old) in
    let Z : List ℕ = replicate (capacity - o) 0 in
    let split : n ≡ o + (n - o) = omega arith in
    ap (λ (m : ℕ). drop m (value_bytes old ++ Z)) split
    ∙ (sym (drop-drop (n - o) o (value_bytes old ++ Z))
    ∙ (ap (λ (s : List ℕ). drop (n - o) s) (drop_at (value_bytes old) Z o refl)
    ∙ (drop-replicate (n - o) (capacity - o) 0 ∙ ap (λ (m : ℕ). replicate m 0) (omega arith))))

-- a value in place of one that was no longer
pub replaced-longer : (before after : List ℕ) (old value : Option (List ℕ)) (o n : ℕ)
    → o ≡ length (value_bytes old) → before ≡ filled old n → after ≡ value_bytes value ++ drop (length (value_bytes value)) before → o ≤ length (value_bytes value)
    → after ≡ filled value n
replaced-longer before after old value o n is_o is_before is_after h =
    is_after ∙ ap (λ (s : List ℕ). value_bytes value ++ s) (ap (λ (s : List ℕ). drop (length (value_bytes value)) s) is_before ∙ past-value old n (length (value_bytes value)) (omega (arith, is_o, h)))

abbrev zeros_of : ℕ → List ℕ
zeros_of n = replicate n 0

zeros-join : (a b c : ℕ) → a + b ≡ c → zeros_of a ++ zeros_of b ≡ zeros_of c
zeros-join a b c h = replicate-append-replicate a b 0 ∙ ap (λ (m : ℕ). replicate m 0) h

-- a value in place of a longer one, and zeros over the rest of that
pub replaced-shorter : (before after zeros : List ℕ) (old value : Option (List ℕ)) (o v n : ℕ)
    → o ≡ length (value_bytes old) → v ≡ length (value_bytes value) → before ≡ filled old n → length before ≡ n
    → after ≡ value_bytes value ++ drop (length (value_bytes value)) before → v < o → o ≤ n
    → zeros ≡ replicate (length (take (o - v) (drop v after))) 0
    → put_mid v (o - v) after zeros ≡ filled value n
replaced-shorter before after zeros old value o v n is_o is_v is_before is_n is_after h fits is_zeros =
    let V : List ℕ = value_bytes value in
    let D : List ℕ = drop (length V) before in
    let sizes : length after ≡ n = omega (arith, ap (λ (s : List ℕ). length s) is_after, length-append V D, length-drop (length V) before, is_n, is_v, h, fits) in
    let cleared : zeros ≡ replicate (o - v) 0 = is_zeros ∙ ap (λ (m : ℕ). replicate m 0) (omega (arith, length-take (o - v) (drop v after), length-drop v after, sizes, fits)) in
    let front : take v after ≡ V = ap (λ (s : List ℕ). take v s) is_after ∙ take_at V D v (sym is_v) in
    let behind : drop v after ≡ D = ap (λ (s : List ℕ). drop v s) is_after ∙ drop_at V D v (sym is_v) in
    let join : length V + (o - v) ≡ o = omega (arith, is_v, h) in
    let last : drop (o - v) (drop v after) ≡ replicate (n - o) 0 =
    ap (λ (s : List ℕ). drop (o - v) s) behind
    ∙ (drop-drop (o - v) (length V) before
    ∙ (ap (λ (m : ℕ). drop m before) join
    ∙ (ap (λ (s : List ℕ). drop o s) is_before ∙ past-value old n o (omega (arith, is_o))))) in
    let all : replicate (o - v) 0 ++ replicate (n - o) 0 ≡ replicate (n - length V) 0 = zeros-join (o - v) (n - o) (n - length V) (omega (arith, is_v, h, fits)) in
    let rest : zeros ++ drop (o - v) (drop v after) ≡ replicate (n - length V) 0 = rw (cleared, last) all in
    rw (front, rest) refl
