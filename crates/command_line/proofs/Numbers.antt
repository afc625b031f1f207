-- A text that a parser of numbers accepted writes a number of the parser's range.
use Rattle.std.proofs.Common.{◌≡◌, ◌∙◌, ◌≤◌, ◌==◌, ap, ℕ, Bool, true, false, List, [], ◌∷◌, refl, sym, subst, arith, cond, drop}
use Rattle.std.specs.Prelude.{pos, unwrap_or, Some, None}
use Rattle.std.specs.Str.Parse.{IsNumeral, digits_value, starts_with_minus, without_leading_plus}
use Rattle.std.proofs.lemmas.Bool.{ne_eqb}
use Rattle.std.proofs.lemmas.Str.Parse.{digit_from_value}
use Rattle.std.proofs.lemmas.Int.{ints}
use Rattle.clap.specs.Words.{IsSignedIn, IsUnsignedIn, without_minus}

-- the text writes a number from `low` to `high`
pub record Writes (low high : ℕ) (text : List ℕ) : Type 0 where
  pub numeral : IsNumeral 10 (without_leading_plus text)
  pub least : low ≤ digits_value 10 (without_leading_plus text)
  pub most : digits_value 10 (without_leading_plus text) ≤ high

no_plus : (ds : List ℕ) → IsNumeral 10 ds → without_leading_plus ds ≡ ds
no_plus [] h = refl
no_plus (d ∷ ds) h =
    let plus : (d == 43) ≡ false = ne_eqb _ _ (λ e. omega (arith, digit_from_value d h.1.0)) in
    ap (λ (b : Bool). drop (cond b 1 0) (d ∷ ds)) plus

without_minus-cond : (t : List ℕ) → without_minus t ≡ cond (starts_with_minus t) (drop 1 t) t
without_minus-cond [] = refl
without_minus-cond (x ∷ xs) = go (x == 45)
  where
    go : (b : Bool) → unwrap_or (cond b (Some xs) None) (x ∷ xs) ≡ cond b xs (x ∷ xs)
    go true = refl
    go false = refl

-- read without a minus, which stands before a zero alone
pub signed_writes : (low high : ℕ) (t : List ℕ) → IsSignedIn (pos low) (pos high) t → Writes low high (without_minus t)
signed_writes low high t passed = go (starts_with_minus t) refl
  where
    go : (b : Bool) → starts_with_minus t ≡ b → Writes low high (without_minus t)
    go true minus =
        let is : without_minus t ≡ drop 1 t = without_minus-cond t ∙ ap (λ (b : Bool). cond b (drop 1 t) t) minus in
        let low_ok = rw minus at passed.2 in
        let high_ok = rw minus at passed.3 in
        let numeral : IsNumeral 10 (drop 1 t) = rw minus at passed.0 in
        let same = no_plus (drop 1 t) numeral in
        subst (Writes low high) (sym is) (record { numeral = rw same numeral; least = rw same (omega (arith, ints)); most = rw same (omega (arith, ints)) })
    go false minus =
        let is : without_minus t ≡ t = without_minus-cond t ∙ ap (λ (b : Bool). cond b (drop 1 t) t) minus in
        let low_ok = rw minus at passed.2 in
        let high_ok = rw minus at passed.3 in
        let numeral : IsNumeral 10 (without_leading_plus t) = rw minus at passed.0 in
        subst (Writes low high) (sym is) (record { numeral = numeral; least = omega (arith, ints); most = omega (arith, ints) })

pub unsigned_writes : (low high : ℕ) (t : List ℕ) → IsUnsignedIn low high t → Writes low high t
unsigned_writes low high t passed = record { numeral = passed.0; least = passed.2; most = passed.3 }
