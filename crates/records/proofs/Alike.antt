-- Whether two pages have the same bytes, by what their memories hold.
use Rattle.std.proofs.Common.{◌≡◌, ℕ, ◌-◌, ◌≤◌, ◌↔◌, List, ◌++◌, length, take, drop, replicate, Bool, true, false, IsTrue, ap, ◌∙◌, sym, refl, arith, length-append, length-drop, append_assoc, nat_eq, true≢false}
use Rattle.std.specs.Bool.{Decides}
use Rattle.std.specs.Cmp.Lexicographic.{pointwise, bytes_decides}
use Rattle.std.proofs.lemmas.List.{length-replicate, take-append-drop, take_at, drop_at, take-replicate, replicate-append-replicate}
use Rattle.records.specs.declared.pages.TheConstants.{PAGE_SIZE}
use Rattle.records.specs.Memory.{bytes_of}

-- two answers to the same question
same-answer : (r s : Bool) {P Q : Type 0} → IsTrue r ↔ P → Decides s Q → (P → Q) → (Q → P) → r ≡ s
same-answer true true p q to from = refl
same-answer false false p q to from = refl
same-answer true false p q to from = sym (q.1 (to (p.0 refl)))
same-answer false true p q to from = p.1 (from (q.0 refl))

-- what lies in the longer memory is what lies in the shorter one, and zeros
abbrev GoesOn : List ℕ → List ℕ → Type 0
GoesOn long short = long ≡ short ++ replicate (length long - length short) 0

module _ (long short : List ℕ) (bound : length long ≤ PAGE_SIZE) (longer : length short ≤ length long) where
  on-same : GoesOn long short → bytes_of long ≡ bytes_of short
  on-same on =
      let n : ℕ = length long - length short in
      let m : ℕ = PAGE_SIZE - length long in
      let zeros : replicate n 0 ++ replicate m 0 ≡ replicate (PAGE_SIZE - length short) 0 = replicate-append-replicate n m 0 ∙ ap (λ (k : ℕ). replicate k 0) (omega (arith, bound, longer)) in
      ap (λ (l : List ℕ). l ++ replicate m 0) on ∙ (append_assoc short (replicate n 0) (replicate m 0) ∙ ap (λ (z : List ℕ). short ++ z) zeros)

  same-on : bytes_of long ≡ bytes_of short → GoesOn long short
  same-on same =
      let n : ℕ = length long - length short in
      let m : ℕ = PAGE_SIZE - length long in
      let zeros : replicate n 0 ++ replicate m 0 ≡ replicate (PAGE_SIZE - length short) 0 = replicate-append-replicate n m 0 ∙ ap (λ (k : ℕ). replicate k 0) (omega (arith, bound, longer)) in
      let whole : short ++ replicate (PAGE_SIZE - length short) 0 ≡ (short ++ replicate n 0) ++ replicate m 0 = ap (λ (z : List ℕ). short ++ z) (sym zeros) ∙ sym (append_assoc short (replicate n 0) (replicate m 0)) in
      let size : length (short ++ replicate n 0) ≡ length long = omega (arith, length-append short (replicate n 0), length-replicate {A = ℕ} n 0, longer) in
      sym (take_at long (replicate m 0) (length long) refl)
      ∙ (ap (λ (s : List ℕ). take (length long) s) (same ∙ whole) ∙ take_at (short ++ replicate n 0) (replicate m 0) (length long) size)

pub same-bytes : (long short : List ℕ) (r : Bool) → length long ≤ PAGE_SIZE → length short ≤ length long → IsTrue r ↔ (long ≡ short ++ replicate (length long - length short) 0) → r ≡ pointwise nat_eq (bytes_of long) (bytes_of short)
same-bytes long short r bound longer is =
    same-answer r (pointwise nat_eq (bytes_of long) (bytes_of short)) is (bytes_decides (bytes_of long) (bytes_of short)) (on-same long short bound longer) (same-on long short bound longer)

pub same-bytes_turned : (long short : List ℕ) (r : Bool) → length long ≤ PAGE_SIZE → length short ≤ length long → IsTrue r ↔ (long ≡ short ++ replicate (length long - length short) 0) → r ≡ pointwise nat_eq (bytes_of short) (bytes_of long)
same-bytes_turned long short r bound longer is =
    same-answer r (pointwise nat_eq (bytes_of short) (bytes_of long)) is (bytes_decides (bytes_of short) (bytes_of long)) (λ on. sym (on-same long short bound longer on)) (λ same. same-on long short bound longer (sym same))

-- the steps of `goes_on_with_zeros`: the front is the shorter one
pub goes-on : (long short front rest zeros : List ℕ) (b r : Bool) → length short ≤ length long → length long ≤ PAGE_SIZE → front ≡ take (length short) long → rest ≡ drop (length short) long
    → b ≡ pointwise nat_eq front short → b ≡ true → zeros ≡ take (length rest) (replicate PAGE_SIZE 0) → r ≡ pointwise nat_eq rest zeros
    → IsTrue r ↔ (long ≡ short ++ replicate (length long - length short) 0)
goes-on long short front rest zeros b r longer bound is_front is_rest is_b equal is_zeros is_r =
    let n : ℕ = length long - length short in
    let front_is : front ≡ short = (bytes_decides front short).0 (sym is_b ∙ equal) in
    let size : length rest ≡ n = omega (arith, ap (λ (s : List ℕ). length s) is_rest, length-drop (length short) long, longer) in
    let zeros_are : zeros ≡ replicate n 0 = is_zeros ∙ (take-replicate {X = ℕ} (length rest) PAGE_SIZE 0 (omega (arith, size, bound)) ∙ ap (λ (m : ℕ). replicate m 0) size) in
    let whole : long ≡ short ++ rest = sym (take-append-drop (length short) long) ∙ rw (← is_front, ← is_rest, front_is) refl in (
      λ more. whole ∙ ap (λ (s : List ℕ). short ++ s) ((bytes_decides rest zeros).0 (sym is_r ∙ more) ∙ zeros_are),
      λ on. is_r ∙ (bytes_decides rest zeros).1 (is_rest ∙ (ap (λ (s : List ℕ). drop (length short) s) on ∙ (drop_at short (replicate n 0) (length short) refl ∙ sym zeros_are))),
    )

-- the front is another one
pub goes-apart : (long short front : List ℕ) (b : Bool) → front ≡ take (length short) long → b ≡ pointwise nat_eq front short → b ≡ false
    → IsTrue b ↔ (long ≡ short ++ replicate (length long - length short) 0)
goes-apart long short front b is_front is_b apart = (
  λ equal. absurd (true≢false (sym equal ∙ apart)),
  λ on. is_b ∙ (bytes_decides front short).1 (is_front ∙ (ap (λ (s : List ℕ). take (length short) s) on ∙ take_at short (replicate (length long - length short) 0) (length short) refl)),
)
