-- Bytes that are equal eight at a time.
use Rattle.std.proofs.Common.{◌≡◌, ℕ, ◌+◌, ◌<◌, ◌≤◌, List, length, take, drop, get_or, refl, sym, ap, ◌∙◌, arith, length-take, length-drop, lit<, ⊎_elim}
use Rattle.std.proofs.Math.Seq.{take-add}
use Rattle.std.proofs.lemmas.List.{take-take, take_all, get_or-take, get_or-drop, get_or_past}
use Rattle.std.proofs.lemmas.Nat.{le_bytes_8}
use Rattle.std.proofs.lemmas.Bool.{cases_lt}
use Rattle.std.specs.Int.{w64, from_le_bytes}
use Rattle.records.specs.Fields.{u64_bytes, u64_at}
use Rattle.records.proofs.Numbers.{first_eight}

part-fits : (xs : List ℕ) (at n i : ℕ) → ((k : ℕ) → get_or xs k 0 < 256) → get_or (take n (drop at xs)) i 0 < 256
part-fits xs at n i fits =
    let inside : i < n → get_or (take n (drop at xs)) i 0 < 256 = λ h. rw (get_or-take n (drop at xs) i 0 h, get_or-drop at xs i 0) (fits (at + i)) in
    let past : n ≤ i → get_or (take n (drop at xs)) i 0 < 256 = λ h. rw (get_or_past (take n (drop at xs)) i 0 (omega (arith, length-take n (drop at xs), h))) (lit< tt) in
    ⊎_elim inside past (cases_lt i n)

-- the eight bytes of the number that stands at a place
pub u64_bytes-u64_at : (xs : List ℕ) (at : ℕ) → at + 8 ≤ length xs → ((i : ℕ) → get_or xs i 0 < 256) → u64_bytes (u64_at xs at) ≡ take 8 (drop at xs)
unfolding u64_at u64_bytes
u64_bytes-u64_at xs at h fits =
    let part : List ℕ = take 8 (drop at xs) in
    le_bytes_8 part (from_le_bytes w64 (drop at xs)) (omega (arith, length-take 8 (drop at xs), length-drop at xs, h))
    (λ i. part-fits xs at 8 i fits) (sym (first_eight (drop at xs)))

-- eight more bytes are the same
pub take-eight_more : (xs ys : List ℕ) (at m n : ℕ) → u64_bytes m ≡ take 8 (drop at xs) → u64_bytes n ≡ take 8 (drop at ys) → m ≡ n
    → take at xs ≡ take at ys → take (at + 8) xs ≡ take (at + 8) ys
take-eight_more xs ys at m n is_m is_n e same =
    let next : take 8 (drop at xs) ≡ take 8 (drop at ys) = sym is_m ∙ (ap (λ (k : ℕ). u64_bytes k) e ∙ is_n) in
    take-add at 8 xs ∙ (rw (same, next) refl ∙ sym (take-add at 8 ys))

-- the last eight bytes are the same too, and all before them
pub same-from_last : (xs ys : List ℕ) (at last m n : ℕ) → length xs ≡ last + 8 → length ys ≡ last + 8 → u64_bytes m ≡ take 8 (drop last xs) → u64_bytes n ≡ take 8 (drop last ys) → m ≡ n
    → last ≤ at → take at xs ≡ take at ys → xs ≡ ys
same-from_last xs ys at last m n lx ly is_m is_n e past same =
    let front : take last xs ≡ take last ys = sym (take-take last at xs past) ∙ (ap (λ (s : List ℕ). take last s) same ∙ take-take last at ys past) in
    let more : take (last + 8) xs ≡ take (last + 8) ys = take-eight_more xs ys last m n is_m is_n e front in
    sym (take_all (last + 8) xs (omega (arith, lx))) ∙ (more ∙ take_all (last + 8) ys (omega (arith, ly)))
