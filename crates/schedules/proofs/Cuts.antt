-- Texts that are cut at a byte: in one way.
use Rattle.std.proofs.Common.{◌≡◌, ◌≢◌, ℕ, zero, suc, ◌+◌, ◌-◌, ◌<◌, ◌≤◌, ◌==◌, Bool, true, false, not, ◌||◌, eqb, List, [], ◌∷◌, ◌++◌, length, take, drop, get_or, refl, sym, ap, ◌∙◌, subst, ◌⊎◌, inl, inr, arith, length-take-le}
use Rattle.std.proofs.lemmas.Bool.{eqb-true, cases_eq, false≢true}
use Rattle.std.proofs.lemmas.List.{take-append-drop, drop_more, get_or-take, take_rest}
use Rattle.memchr.specs.Find.{Nowhere, Passes, is_byte}
use Rattle.words.specs.Store.{Bytes}
use Rattle.schedules.specs.Lines.{has, IsCut}

-- a byte that no place has
pub has_none : (byte : ℕ) (xs : Bytes) → ((k : ℕ) → k < length xs → (get_or xs k 0 == byte) ≡ true → ⊥) → has byte xs ≡ false
has_none byte [] h = refl
has_none byte (x ∷ xs) h =
    let rest : has byte xs ≡ false = has_none byte xs (λ k lt is. h (suc k) (omega arith) is) in
    elim (x == byte) as (λ b. ((x == byte) ≡ b) → (b || has byte xs) ≡ false) [
      | true ↦ λ is. absurd (h 0 (omega arith) is)
      | false ↦ λ is. rest
    ] refl

pub has-append : (byte : ℕ) (xs ys : Bytes) → has byte xs ≡ false → has byte ys ≡ false → has byte (xs ++ ys) ≡ false
has-append byte [] ys p q = q
has-append byte (x ∷ xs) ys p q =
    elim (x == byte) as (λ b. ((b || has byte xs) ≡ false) → (b || has byte (xs ++ ys)) ≡ false) [
      | true ↦ λ is. is
      | false ↦ λ is. has-append byte xs ys is q
    ] p

-- a byte stands where it was put
pub has-put : (byte : ℕ) (front back : Bytes) → has byte (front ++ (byte ∷ back)) ≡ true
has-put byte [] back = elim (cases_eq byte byte) [ inl e ↦ grind arith | inr ne ↦ absurd (ne refl) ]
has-put byte (x ∷ front) back =
    elim (x == byte) as (λ b. (b || has byte (front ++ (byte ∷ back))) ≡ true) [
      | true ↦ refl
      | false ↦ has-put byte front back
    ]

pub uncut : (byte : ℕ) (text front back : Bytes) → has byte text ≡ false → text ≡ front ++ (byte ∷ back) → ⊥
uncut byte text front back without is = false≢true (sym without ∙ ap (has byte) is ∙ has-put byte front back)

same_byte : (byte : ℕ) → (byte == byte) ≡ true
same_byte byte = grind arith

-- a text is cut at the first such byte in one way
pub cut_once : (byte : ℕ) (front back other rest : Bytes) → has byte front ≡ false → has byte other ≡ false
    → front ++ (byte ∷ back) ≡ other ++ (byte ∷ rest) → (front ≡ other) × (back ≡ rest)
cut_once byte [] back [] rest p q is = (refl, cc)
cut_once byte [] back (y ∷ other) rest p q is =
    let e : byte ≡ y = cc in
    absurd (false≢true (sym q ∙ ap (λ b. b || has byte other) (ap (λ z. z == byte) (sym e) ∙ same_byte byte)))
cut_once byte (x ∷ front) back [] rest p q is =
    let e : x ≡ byte = cc in
    absurd (false≢true (sym p ∙ ap (λ b. b || has byte front) (ap (λ z. z == byte) e ∙ same_byte byte)))
cut_once byte (x ∷ front) back (y ∷ other) rest p q is =
    let tails : front ++ (byte ∷ back) ≡ other ++ (byte ∷ rest) = cc in
    let heads : x ≡ y = cc in
    let p' : has byte front ≡ false = tail_has byte x front p in
    let q' : has byte other ≡ false = tail_has byte y other q in
    let r = cut_once byte front back other rest p' q' tails in
    (ap (λ z. z ∷ front) heads ∙ ap (λ zs. y ∷ zs) r.0, r.1)
  where
    tail_has : (b z : ℕ) (zs : Bytes) → has b (z ∷ zs) ≡ false → has b zs ≡ false
    tail_has b z zs h = elim (z == b) as (λ t. ((t || has b zs) ≡ false) → has b zs ≡ false) [ true ↦ λ e. absurd (false≢true (sym e)) | false ↦ λ e. e ] h

-- what a search for the byte gives
pub uncut_by : (byte : ℕ) (text : Bytes) → Nowhere (Passes (is_byte byte) text) 0 (length text) → has byte text ≡ false
uncut_by byte text none = has_none byte text (λ k lt is. none k (omega arith) lt is)

pub cut_by : (byte : ℕ) (text : Bytes) (at : ℕ) → at < length text → Nowhere (Passes (is_byte byte) text) 0 at
    → (get_or text at 0 == byte) ≡ true → IsCut byte text (take at text) (take (length text - (at + 1)) (drop (at + 1) text))
cut_by byte text at lt none is = record {
  joined =
      sym (take-append-drop at text) ∙ ap (λ l. take at text ++ l)
      (drop_more text at 0 lt ∙ ap (λ z. z ∷ drop (at + 1) text) (eqb-true (get_or text at 0) byte is) ∙ ap (λ l. byte ∷ l) (sym (take_rest text (at + 1))));
  first = has_none byte (take at text) (λ k below same.
      let len : length (take at text) ≡ at = length-take-le at text (omega arith) in
      let k_lt : k < at = omega arith in
      none k (omega arith) k_lt (ap (λ z. z == byte) (sym (get_or-take at text k 0 k_lt)) ∙ same));
}
