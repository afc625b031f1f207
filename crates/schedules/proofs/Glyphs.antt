-- The digits of numbers and bytes: none is a space or a line feed, and bytes are spelled in one way in lower case.
use Rattle.std.proofs.Common.{◌≡◌, ℕ, zero, suc, ◌+◌, ◌-◌, ◌*◌, ◌/◌, ◌%◌, ◌^◌, ◌<◌, ◌≤◌, ◌==◌, Bool, true, false, ◌&&◌, ◌||◌, nat_lt, nat_le, if◌then◌else◌, List, [], ◌∷◌, ◌++◌, length, get_or, Option, Some, None, Result, Ok, Err, refl, sym, ap, ◌∙◌, subst, ◌⊎◌, inl, inr, arith}
use Rattle.std.proofs.lemmas.Bool.{and_parts, cases_lt, eqb-true, false≢true}
use Rattle.std.proofs.lemmas.Fmt.{decimal_is_IsNumeral}
use Rattle.std.proofs.lemmas.Str.Parse.{digit_from_value}
use Rattle.std.specs.Fmt.{decimal}
use Rattle.std.specs.Str.Parse.{AllDigits}
use Rattle.hex.specs.Hex.{IsBytes, encode_lower, encode_with, lower_digits}
use Rattle.words.specs.Store.{Bytes}
use Rattle.schedules.specs.Lines.{has}

-- whether each byte is a digit of zero or above
abbrev pub is_high : Bytes → Bool
is_high [] = true
is_high (x ∷ xs) = nat_le 48 x && is_high xs

-- a byte below the digits does not stand among such
pub has-high : (byte : ℕ) (xs : Bytes) → byte < 48 → is_high xs ≡ true → has byte xs ≡ false
has-high byte [] low h = refl
has-high byte (x ∷ xs) low h =
    let parts = and_parts (nat_le 48 x) (is_high xs) h in
    let apart : (x == byte) ≡ false = grind arith in
    ap (λ b. b || has byte xs) apart ∙ has-high byte xs low parts.1

high_cons : (x : ℕ) (xs : Bytes) → 48 ≤ x → is_high xs ≡ true → is_high (x ∷ xs) ≡ true
high_cons x xs low h = let e : nat_le 48 x ≡ true = grind arith in ap (λ b. b && is_high xs) e ∙ h

high_digits : (ds : Bytes) → AllDigits 10 ds → is_high ds ≡ true
high_digits [] h = refl
high_digits (d ∷ ds) h = let r = digit_from_value d h.0 in high_cons d ds (omega (arith, r)) (high_digits ds h.1)

pub high-decimal : (n : ℕ) → n < 2 ^ 64 → is_high (decimal n) ≡ true
high-decimal n small = high_digits (decimal n) (decimal_is_IsNumeral n small).0.1

-- the glyph of a digit below sixteen
abbrev pub glyph : ℕ → ℕ
glyph d = if nat_lt d 10 then d + 48 else d + 87

abbrev all_glyphs : ℕ → Bool
all_glyphs zero = true
all_glyphs (suc n) = (get_or lower_digits n 0 == glyph n) && all_glyphs n

glyphs_below : (n d : ℕ) → all_glyphs n ≡ true → d < n → get_or lower_digits d 0 ≡ glyph d
glyphs_below zero d h lt = absurd (omega arith)
glyphs_below (suc n) d h lt =
    let parts = and_parts (get_or lower_digits n 0 == glyph n) (all_glyphs n) h in
    elim (cases_lt d n) [
      | inl below ↦ glyphs_below n d parts.1 below
      | inr top ↦ let e : d ≡ n = omega arith in rw e (eqb-true (get_or lower_digits n 0) (glyph n) parts.0)
    ]

pub glyph_at : (d : ℕ) → d < 16 → get_or lower_digits d 0 ≡ glyph d
glyph_at d lt = glyphs_below 16 d refl lt

pub glyph_high : (d : ℕ) → d < 16 → 48 ≤ get_or lower_digits d 0
glyph_high d lt = let e = glyph_at d lt in grind arith

pub high-encode : (bytes : Bytes) → IsBytes bytes → is_high (encode_lower bytes) ≡ true
unfolding encode_with
high-encode [] h = refl
high-encode (b ∷ bytes) h =
    let fits : b < 256 = h 0 in
    high_cons (get_or lower_digits (b / 16) 0) (get_or lower_digits (b % 16) 0 ∷ encode_with lower_digits bytes) (glyph_high (b / 16) (omega arith))
    (high_cons (get_or lower_digits (b % 16) 0) (encode_with lower_digits bytes) (glyph_high (b % 16) (omega arith)) (high-encode bytes (λ i. h (suc i))))
