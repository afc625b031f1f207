-- Texts that are numbers, and texts that are none.
use Rattle.std.proofs.Common.{◌≡◌, ◌<◌, ◌^◌, true, false, ◌&&◌, Some, None, Err, refl, sym, ◌∙◌, subst, if◌then◌else◌}
use Rattle.std.specs.Prelude.{ℤ, pos, negsuc}
use Rattle.std.specs.Bool.{Decides}
use Rattle.std.specs.Fmt.{signed_decimal}
use Rattle.std.specs.Str.{bytes_eq, IsUtf8}
use Rattle.std.specs.Str.Parse.{signed_digits_value, IsNumeral, without_leading_sign}
use Rattle.std.specs.Int.Signed.{mag}
use Rattle.std.specs.Int.RustNames.{FitsSigned}
use Rattle.std.proofs.lemmas.Fmt.{IsAscii-signed, parse-signed_decimal}
use Rattle.std.proofs.lemmas.Str.{IsUtf8-from_ascii}
use Rattle.std.proofs.lemmas.Slice.Eq.{bytes_eq-Decides}
use Rattle.std.proofs.lemmas.Bool.{ltb-true}
use mir.Syntax.{w64}
use Rattle.words.specs.Store.{Bytes}
use Rattle.words.specs.Numbers.{in_range, number_of}

pub small : (n : ℤ) → in_range n ≡ true → mag n < 2 ^ 63
small (pos n) is = ltb-true n (2 ^ 63) is
small (negsuc n) is = ltb-true n (2 ^ 63) is

-- a text that no number in range is printed as is no number
pub none_unless : (text : Bytes) → ((n : ℤ) → in_range n ≡ true → text ≡ signed_decimal n → ⊥) → number_of text ≡ None
none_unless text never =
    let n : ℤ = signed_digits_value 10 text in
    elim (in_range n)
    as (λ fits. (fits ≡ true → text ≡ signed_decimal n → ⊥) → (if fits && bytes_eq (signed_decimal n) text then Some n else None) ≡ None) [
      | true ↦ λ no. elim (bytes_eq (signed_decimal n) text)
          as (λ same. Decides same (signed_decimal n ≡ text) → (if same then Some n else None) ≡ None) [
            | true ↦ λ decides. absurd (no refl (sym (decides.0 refl)))
            | false ↦ λ decides. refl
          ] (bytes_eq-Decides (signed_decimal n) text)
      | false ↦ λ no. refl
    ] (never n)

-- a text that is not UTF-8 is no number
pub none_of_bytes : (text : Bytes) → (IsUtf8 text → ⊥) → number_of text ≡ None
none_of_bytes text never = none_unless text (λ n fits is. never (subst IsUtf8 (sym is) (IsUtf8-from_ascii (signed_decimal n) (IsAscii-signed n (small n fits)))))

-- a text that is not read as a number is none
pub none_of_text : (text digits : Bytes) → digits ≡ text
    → ¬ (IsNumeral 10 (without_leading_sign digits) × FitsSigned w64 (signed_digits_value 10 digits)) → number_of text ≡ None
none_of_text text digits same unread =
    none_unless text (λ n fits is.
    let read = parse-signed_decimal {E = Unit {0}} w64 n digits (Err tt) (record { sfits = small n fits }) (small n fits) (same ∙ is) unread in
    absurd (cc read))
