-- A text without letters in upper case that is read as bytes in hexadecimal is their one spelling.
use Rattle.std.proofs.Common.{◌≡◌, ℕ, zero, suc, ◌+◌, ◌-◌, ◌*◌, ◌/◌, ◌%◌, ◌<◌, ◌≤◌, ◌==◌, Bool, true, false, ◌&&◌, ◌||◌, nat_lt, nat_le, if◌then◌else◌, List, [], ◌∷◌, length, get_or, Option, Some, None, Result, Ok, Err, refl, sym, ap, ◌∙◌, subst, ◌⊎◌, inl, inr, arith}
use Rattle.std.proofs.lemmas.Bool.{and_parts, cases_lt, cases_eq, false≢true}
use Rattle.std.proofs.lemmas.Bool.Decides.{nat_tests}
use Rattle.std.specs.Char.{is_ascii_uppercase}
use Rattle.std.specs.List.{list_any}
use Rattle.hex.specs.Hex.{IsBytes, decode_of, decode_pairs, decode_sized, digit_or_error, encode_lower, encode_with, hex_digit_value, lower_digits, ◌>>=◌}
use Rattle.hex.specs.declared.error.FromHexError.{FromHexError}
use Rattle.hex.specs.declared.error.FromHexError.TheVariants.{InvalidHexCharacter, OddLength, InvalidStringLength, OutOfMemory}
use Rattle.hex.proofs.HexLemmas.{decode_of-encode_lower, length-encode_with}
use Rattle.std.specs.Prelude.{MatchResult}
use Rattle.std.specs.Result.{result_ok}
use Rattle.words.specs.Store.{Bytes}
use Rattle.schedules.proofs.Glyphs.{glyph, glyph_at}

-- a digit that is no letter in upper case is its glyph
is_glyph : (c v : ℕ) → is_ascii_uppercase c ≡ false → hex_digit_value c ≡ Some v → (v < 16) × (c ≡ glyph v)
is_glyph c v lower =
    elim (nat_le 65 c && nat_le c 70) as (λ b. ((nat_le 65 c && nat_le c 70) ≡ b)
    → (if b then Some (c - 55) else if nat_le 97 c && nat_le c 102 then Some (c - 87) else if nat_le 48 c && nat_le c 57 then Some (c - 48) else None) ≡ Some v
    → (v < 16) × (c ≡ glyph v)) [
      | true ↦ λ is e. absurd (grind (arith, nat_tests))
      | false ↦ λ not_upper. elim (nat_le 97 c && nat_le c 102) as (λ b. ((nat_le 97 c && nat_le c 102) ≡ b)
          → (if b then Some (c - 87) else if nat_le 48 c && nat_le c 57 then Some (c - 48) else None) ≡ Some v
          → (v < 16) × (c ≡ glyph v)) [
            | true ↦ λ is e. let same : c - 87 ≡ v = cc in (grind (arith, nat_tests), grind (arith, nat_tests))
            | false ↦ λ not_lower. elim (nat_le 48 c && nat_le c 57) as (λ b. ((nat_le 48 c && nat_le c 57) ≡ b)
                → (if b then Some (c - 48) else None) ≡ Some v → (v < 16) × (c ≡ glyph v)) [
                  | true ↦ λ is e. let same : c - 48 ≡ v = cc in (grind (arith, nat_tests), grind (arith, nat_tests))
                  | false ↦ λ is e. absurd (cc e)
                ] refl
          ] refl
    ] refl

is_digit : (c v : ℕ) → is_ascii_uppercase c ≡ false → hex_digit_value c ≡ Some v → (v < 16) × (c ≡ get_or lower_digits v 0)
is_digit c v lower is = let r = is_glyph c v lower is in (r.0, r.1 ∙ sym (glyph_at v r.0))

-- what the bytes of a text of pairs are
abbrev Spells : Bytes → Bytes → Type 0
Spells text bytes = (text ≡ encode_lower bytes) × IsBytes bytes

none_spell : Spells [] []
unfolding encode_with
none_spell = (refl, λ i. lit_zero i)
  where
    lit_zero : (i : ℕ) → get_or [] i 0 < 256
    lit_zero i = search arith

pair_spells : (h l v w : ℕ) (rest bytes : Bytes) → v < 16 → w < 16 → h ≡ get_or lower_digits v 0 → l ≡ get_or lower_digits w 0
    → Spells rest bytes → Spells (h ∷ l ∷ rest) ((v * 16 + w) ∷ bytes)
unfolding encode_with
pair_spells h l v w rest bytes small low eh el s =
    let quotient : (v * 16 + w) / 16 ≡ v = omega arith in
    let remainder : (v * 16 + w) % 16 ≡ w = omega arith in
    (rw (quotient, remainder, eh, el, s.0) refl, λ i. byte_at i)
  where
    byte_at : (i : ℕ) → get_or ((v * 16 + w) ∷ bytes) i 0 < 256
    byte_at zero = omega arith
    byte_at (suc i) = s.1 i

-- pairs of digits that are read as bytes spell them
pub pairs_spell : (i : ℕ) (text bytes : Bytes) → list_any is_ascii_uppercase text ≡ false → decode_pairs i text ≡ Ok bytes → Spells text bytes
unfolding decode_pairs
pairs_spell i [] bytes lower is = let e : [] ≡ bytes = cc in subst (Spells []) e none_spell
pairs_spell i (h ∷ []) bytes lower is = absurd (cc is)
pairs_spell i (h ∷ l ∷ rest) bytes lower is =
    elim (hex_digit_value h) as (λ o. (hex_digit_value h ≡ o) → (digit_or_error h i o >>= (λ a. digit_or_error l (i + 1) (hex_digit_value l) >>= (λ b. Ok (a * 16 + b))) >>= (λ byte. decode_pairs (i + 2) rest >>= (λ more. Ok (byte ∷ more)))) ≡ Ok bytes → Spells (h ∷ l ∷ rest) bytes) [
      | None ↦ λ o e. absurd (cc e)
      | Some v ↦ λ first. elim (hex_digit_value l) as (λ o. (hex_digit_value l ≡ o) → (digit_or_error l (i + 1) o >>= (λ b. Ok (v * 16 + b)) >>= (λ byte. decode_pairs (i + 2) rest >>= (λ more. Ok (byte ∷ more)))) ≡ Ok bytes → Spells (h ∷ l ∷ rest) bytes) [
        | None ↦ λ o e. absurd (cc e)
        | Some w ↦ λ second. elim (decode_pairs (i + 2) rest) as (λ r. (decode_pairs (i + 2) rest ≡ r) → (r >>= (λ more. Ok ((v * 16 + w) ∷ more))) ≡ Ok bytes → Spells (h ∷ l ∷ rest) bytes) [
          | Err fault ↦ λ r e. absurd (cc e)
          | Ok more ↦ λ later e. (
              let same : ((v * 16 + w) ∷ more) ≡ bytes = cc in
              let parts : (is_ascii_uppercase h ≡ false) × (is_ascii_uppercase l ≡ false) × (list_any is_ascii_uppercase rest ≡ false) = three h l rest lower in
              let high = is_digit h v parts.0 first in
              let low = is_digit l w parts.1 second in
              subst (Spells (h ∷ l ∷ rest)) same (pair_spells h l v w rest more high.0 low.0 high.1 low.1 (pairs_spell (i + 2) rest more parts.2 later))
              )
        ] refl
      ] refl
    ] refl is
  where
    either : (a b : Bool) → (a || b) ≡ false → (a ≡ false) × (b ≡ false)
    either true b e = absurd (false≢true (sym e))
    either false b e = (refl, e)

    three : (x y : ℕ) (zs : Bytes) → list_any is_ascii_uppercase (x ∷ y ∷ zs) ≡ false
        → (is_ascii_uppercase x ≡ false) × (is_ascii_uppercase y ≡ false) × (list_any is_ascii_uppercase zs ≡ false)
    three x y zs e =
        let p = either (is_ascii_uppercase x) (list_any is_ascii_uppercase (y ∷ zs)) e in
        let q = either (is_ascii_uppercase y) (list_any is_ascii_uppercase zs) p.1 in
        (p.0, q.0, q.1)

-- a text that is read as bytes spells them
pub spells : (text bytes : Bytes) → list_any is_ascii_uppercase text ≡ false → decode_of text ≡ Ok bytes → Spells text bytes
spells text bytes lower =
    elim (length text % 2 == 1) as (λ b. (if b then Err OddLength else decode_pairs 0 text) ≡ Ok bytes → Spells text bytes) [
      | true ↦ λ e. absurd (cc e)
      | false ↦ λ e. pairs_spell 0 text bytes lower e
    ]

-- the same of one byte
pub spells_one : (text bytes : Bytes) → list_any is_ascii_uppercase text ≡ false → decode_sized text 1 ≡ Ok bytes → Spells text bytes
spells_one text bytes lower =
    elim (length text % 2 == 1) as (λ b. (if b then Err OddLength else if length text / 2 == 1 then decode_pairs 0 text else Err InvalidStringLength) ≡ Ok bytes → Spells text bytes) [
      | true ↦ λ e. absurd (cc e)
      | false ↦ elim (length text / 2 == 1) as (λ b. (if b then decode_pairs 0 text else Err InvalidStringLength) ≡ Ok bytes → Spells text bytes) [
        | true ↦ λ e. pairs_spell 0 text bytes lower e
        | false ↦ λ e. absurd (cc e)
      ]
    ]

-- the spelling of bytes has no letter in upper case
glyph_lower : (d : ℕ) → d < 16 → is_ascii_uppercase (get_or lower_digits d 0) ≡ false
glyph_lower d lt = ap is_ascii_uppercase (glyph_at d lt) ∙ below d lt
  where
    below : (d : ℕ) → d < 16 → is_ascii_uppercase (glyph d) ≡ false
    below d lt = grind (arith, nat_tests)

pub lower_encode : (bytes : Bytes) → IsBytes bytes → list_any is_ascii_uppercase (encode_lower bytes) ≡ false
unfolding encode_with
lower_encode [] h = refl
lower_encode (b ∷ bytes) h =
    let fits : b < 256 = h 0 in
    let high = glyph_lower (b / 16) (omega arith) in
    let low = glyph_lower (b % 16) (omega arith) in
    rw (high, low) (lower_encode bytes (λ i. h (suc i)))

pub one_byte : (byte : ℕ) → byte < 256 → IsBytes (byte ∷ [])
one_byte byte fits zero = fits
one_byte byte fits (suc i) = search arith

-- so a text with one is no spelling
pub upper_spells_none : (text bytes : Bytes) → list_any is_ascii_uppercase text ≡ true → IsBytes bytes → text ≡ encode_lower bytes → ⊥
upper_spells_none text bytes upper are is = false≢true (sym (lower_encode bytes are) ∙ ap (list_any is_ascii_uppercase) (sym is) ∙ upper)

-- nor is one that is not read as bytes
pub unread_spells_none : (text bytes : Bytes) (fault : FromHexError) → decode_of text ≡ Err fault → IsBytes bytes → text ≡ encode_lower bytes → ⊥
unread_spells_none text bytes fault unread are is =
    let read : decode_of text ≡ Ok bytes = ap decode_of is ∙ decode_of-encode_lower bytes are in
    cc

-- one byte that is spelled is read
sized : (text bytes : Bytes) → decode_of text ≡ Ok bytes → length text ≡ 2 → decode_sized text 1 ≡ Ok bytes
sized text bytes is two =
    let even : (length text % 2 == 1) ≡ false = grind arith in
    let half : (length text / 2 == 1) ≡ true = grind arith in
    let plain : decode_pairs 0 text ≡ Ok bytes = sym (ap (λ b. if b then Err OddLength else decode_pairs 0 text) even) ∙ is in
    rw (even, half) plain

-- what reading one byte answers
abbrev pub IsByteRead : Bytes → Result (Unit {0}) FromHexError → Bytes → Type 0
IsByteRead text r out = MatchResult (decode_sized text 1) (λ bytes. (r ≡ Ok tt) × (out ≡ bytes)) (λ e. r ≡ Err e)

pub unread_spells_no_byte : (text out : Bytes) (r : Result (Unit {0}) FromHexError) → IsByteRead text r out → result_ok r ≡ None
    → (byte : ℕ) → byte < 256 → text ≡ encode_lower (byte ∷ []) → ⊥
unread_spells_no_byte text out r read none byte fits is =
    let whole : decode_of text ≡ Ok (byte ∷ []) = ap decode_of is ∙ decode_of-encode_lower (byte ∷ []) (one_byte byte fits) in
    let two : length text ≡ 2 = ap length is ∙ length-encode_with lower_digits (byte ∷ []) in
    let good = subst (λ v. MatchResult v (λ bytes. (r ≡ Ok tt) × (out ≡ bytes)) (λ e. r ≡ Err e)) (sized text (byte ∷ []) whole two) read in
    let e : Some tt ≡ None = sym (ap result_ok good.0) ∙ none in
    cc

single : (xs : Bytes) → length xs ≡ 1 → xs ≡ get_or xs 0 0 ∷ []
single [] one = absurd (omega arith)
single (x ∷ []) one = refl
single (x ∷ y ∷ xs) one = absurd (omega arith)

pub byte_spells : (text out : Bytes) (r : Result (Unit {0}) FromHexError) (done : Unit {0}) → list_any is_ascii_uppercase text ≡ false → IsByteRead text r out
    → result_ok r ≡ Some done → length out ≡ 1 → (get_or out 0 0 < 256) × (text ≡ encode_lower (get_or out 0 0 ∷ []))
byte_spells text out r done lower read some one =
    elim (decode_sized text 1) as (λ v. (decode_sized text 1 ≡ v) → MatchResult v (λ bytes. (r ≡ Ok tt) × (out ≡ bytes)) (λ e. r ≡ Err e)
    → (get_or out 0 0 < 256) × (text ≡ encode_lower (get_or out 0 0 ∷ []))) [
      | Ok bytes ↦ λ is good. (
          let same : bytes ≡ get_or out 0 0 ∷ [] = sym good.1 ∙ single out one in
          let are = spells_one text bytes lower is in
          (subst (λ xs. get_or xs 0 0 < 256) (sym good.1) (are.1 0), are.0 ∙ ap encode_lower same)
          )
      | Err e ↦ λ is bad. (let f : None ≡ Some done = sym (ap result_ok bad) ∙ some in absurd (cc f))
    ] refl read
