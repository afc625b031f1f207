-- Which texts are numbers: those that a number is printed as.
use Rattle.std.proofs.Common.{◌≡◌, ◌≢◌, ℕ, ◌+◌, ◌^◌, ◌<◌, ◌≤◌, ◌==◌, ◌&&◌, Bool, true, false, get_or, length, nat_lt, Option, Some, None, Result, Ok, Err, refl, sym, ap, ◌∙◌, subst, arith, if◌then◌else◌, bytes_eq}
use Rattle.std.specs.Prelude.{ℤ, pos, negsuc, nat_abs}
use Rattle.std.specs.Bool.{then_some}
use Rattle.std.specs.Int.{FitsUnsignedBits}
use Rattle.std.specs.Result.{OkIff, result_ok}
use Rattle.std.proofs.lemmas.Int.{to_z-of_z}
use mir.Syntax.{w64}
use mir.Val.{to_z, of_z}
use Rattle.schedules.specs.Lines.{IsNumber}
use Rattle.std.specs.Fmt.{decimal, signed_decimal}
use Rattle.std.specs.Str.Parse.{signed_digits_value, digits_value, starts_with_minus, without_leading_sign, without_leading_plus}
use Rattle.std.proofs.lemmas.Bool.{and_parts, ltb-true, ltb-false}
use Rattle.std.proofs.lemmas.Fmt.{decimal_is_IsNumeral}
use Rattle.std.proofs.lemmas.Str.Parse.{digit_at}
use Rattle.std.proofs.lemmas.Slice.Eq.{bytes_eq-Decides}
use Rattle.words.specs.Store.{Bytes}
use Rattle.words.specs.Numbers.{number_of, in_range}

-- a text that is a number is its decimal, and the number is in range
spelled : (text : Bytes) (z : ℤ) → number_of text ≡ Some z → (text ≡ signed_decimal z) × (in_range z ≡ true)
spelled text z is = read (signed_digits_value 10 text) is
  where
    read : (n : ℤ) → (if in_range n && bytes_eq (signed_decimal n) text then Some n else None) ≡ Some z → (text ≡ signed_decimal z) × (in_range z ≡ true)
    read n =
        elim (in_range n && bytes_eq (signed_decimal n) text)
        as (λ b. ((in_range n && bytes_eq (signed_decimal n) text) ≡ b) → (if b then Some n else None) ≡ Some z → (text ≡ signed_decimal z) × (in_range z ≡ true)) [
          | true ↦ λ tests e. (
              let parts = and_parts (in_range n) (bytes_eq (signed_decimal n) text) tests in
              let same : n ≡ z = cc in
              (sym ((bytes_eq-Decides (signed_decimal n) text).0 parts.1) ∙ ap signed_decimal same, ap in_range (sym same) ∙ parts.0)
              )
          | false ↦ λ tests e. absurd (cc e)
        ] refl

-- a number in range is the same as a 64-bit word
cast_back : (z : ℤ) → in_range z ≡ true → to_z w64 (of_z w64 z) ≡ z
cast_back (pos n) is = to_z-of_z w64 (pos n) (record { sfits = ltb-true n (2 ^ 63) is })
cast_back (negsuc n) is = to_z-of_z w64 (negsuc n) (record { sfits = ltb-true n (2 ^ 63) is })

-- the digits of a number, read with a sign before them, make the number
value : (n : ℕ) → n < 2 ^ 63 → signed_digits_value 10 (decimal n) ≡ pos n
value n small =
    let numeral = decimal_is_IsNumeral n (omega arith) in
    let first = digit_at (decimal n) 0 numeral.0.1 numeral.0.0 in
    let minus : starts_with_minus (decimal n) ≡ false = grind (arith, first) in
    let plus : (get_or (decimal n) 0 0 == 43) ≡ false = grind (arith, first) in
    rw (minus, plus) (ap pos numeral.1)

-- a decimal below 2^63 is a number
pub numbered : (n : ℕ) → n < 2 ^ 63 → number_of (decimal n) ≡ Some (pos n)
numbered n small =
    let v = value n small in
    let fits : in_range (pos n) ≡ true = grind arith in
    let same : bytes_eq (decimal n) (decimal n) ≡ true = (bytes_eq-Decides (decimal n) (decimal n)).1 refl in
    rw (v, fits, same) refl

-- so a text that is no number is none below a bound
pub unnumbered : (end : ℕ) (text : Bytes) → end ≤ 2 ^ 63 → number_of text ≡ None → (n : ℕ) → n < end → text ≡ decimal n → ⊥
unnumbered end text most is n below e =
    let found : number_of text ≡ Some (pos n) = ap number_of e ∙ numbered n (omega arith) in
    cc

-- what is then made of a number: a natural, where it is none below zero
abbrev pub IsMade : {E : Type 0} → ℤ → Result ℕ E → Type 0
IsMade z r = OkIff r (FitsUnsignedBits 64 (to_z w64 (of_z w64 z))) (nat_abs (to_z w64 (of_z w64 z)))

-- a number that was refused is none below a bound
pub refused : {E : Type 0} (end : ℕ) (text : Bytes) (z : ℤ) (r : Result ℕ E) → end ≤ 2 ^ 63 → number_of text ≡ Some z → IsMade z r → result_ok r ≡ None
    → (n : ℕ) → n < end → text ≡ decimal n → ⊥
refused end text z (Ok x) most is made none n below e = cc none
refused end text z (Err fault) most is made none n below e =
    let found : number_of text ≡ Some (pos n) = ap number_of e ∙ numbered n (omega arith) in
    let same : z ≡ pos n = cc in
    let back = cast_back z (spelled text z is).1 ∙ same in
    made (subst (FitsUnsignedBits 64) (sym back) (omega arith))

-- a number that was taken is the one number, if it is below the bound
pub taken : {E : Type 0} (end : ℕ) (text : Bytes) (z : ℤ) (r : Result ℕ E) (m : ℕ) → end ≤ 2 ^ 63 → number_of text ≡ Some z → IsMade z r → result_ok r ≡ Some m
    → IsNumber end text (then_some (nat_lt m end) m)
taken end text z (Err fault) m most is made some = absurd (cc some)
taken end text (negsuc k) (Ok x) m most is made some =
    let back = cast_back (negsuc k) (spelled text (negsuc k) is).1 in
    absurd (subst (FitsUnsignedBits 64) back made.0)
taken end text (pos k) (Ok x) m most is made some =
    let back = cast_back (pos k) (spelled text (pos k) is).1 in
    let whole : x ≡ k = made.1 ∙ ap nat_abs back in
    let same : x ≡ m = cc in
    let text_is : text ≡ decimal m = (spelled text (pos k) is).0 ∙ ap decimal (sym whole ∙ same) in
    elim (nat_lt m end) as (λ b. (nat_lt m end ≡ b) → IsNumber end text (then_some b m)) [
      | true ↦ λ below. (ltb-true m end below, text_is)
      | false ↦ λ above. λ n below e. (
          let found : number_of text ≡ Some (pos n) = ap number_of e ∙ numbered n (omega arith) in
          let other : pos k ≡ pos n = cc in
          let number : k ≡ n = cc in
          let past : end ≤ m = ltb-false m end above in
          omega arith
          )
    ] refl
