-- Pieces: their bytes joined, what is left of them, and what is gathered from several of them.
use Rattle.std.proofs.Common.{ℕ, zero, suc, ◌≡◌, ◌+◌, ◌-◌, ◌<◌, ◌≤◌, ◌⊎◌, inl, inr, List, [], ◌∷◌, ◌++◌, nat_le, Bool, true, false, cond, length, take, drop, get_or, slice_get, None, refl, sym, ap, subst, ◌∙◌, arith, append_assoc, length-append, length-drop}
use Rattle.std.proofs.lemmas.Bool.{le-leb, lt-leb, leb-true, leb-false}
use Rattle.std.proofs.lemmas.List.{drop_all, drop_more, drop-drop, append-nil, take_all, length-take-le}
use Rattle.words.specs.Store.{Bytes}
use Rattle.resp_read.specs.Pieces.{joined, as_piece, AreFilled, without, ArePieces}

-- the bytes of the pieces
pub joined-as_piece : (oldest : Bytes) (later : List Bytes) → joined (as_piece oldest ++ later) ≡ oldest ++ joined later
joined-as_piece [] later = refl
joined-as_piece (byte ∷ bytes) later = refl

pub joined-append : (pieces others : List Bytes) → joined (pieces ++ others) ≡ joined pieces ++ joined others
joined-append [] others = refl
joined-append (piece ∷ pieces) others = ap (λ (b : Bytes). piece ++ b) (joined-append pieces others) ∙ sym (append_assoc piece (joined pieces) (joined others))

pub joined-push : (pieces : List Bytes) (piece : Bytes) → joined (pieces ++ as_piece piece) ≡ joined pieces ++ piece
joined-push pieces [] = joined-append pieces []
joined-push pieces (byte ∷ bytes) = joined-append pieces ((byte ∷ bytes) ∷ []) ∙ ap (λ (b : Bytes). joined pieces ++ b) (append-nil (byte ∷ bytes))

pub as_piece_filled : (piece : Bytes) → 0 < length piece → as_piece piece ≡ piece ∷ []
as_piece_filled [] some = absurd (omega arith)
as_piece_filled (byte ∷ bytes) some = refl

pub as_piece_empty : (piece : Bytes) → length piece ≡ 0 → as_piece piece ≡ []
as_piece_empty [] none = refl
as_piece_empty (byte ∷ bytes) none = absurd (omega arith)

pub AreFilled-push : (pieces : List Bytes) (piece : Bytes) → AreFilled pieces → 0 < length piece → AreFilled (pieces ++ piece ∷ [])
AreFilled-push [] piece filled some = (some, tt)
AreFilled-push (first ∷ pieces) piece filled some = (filled.0, AreFilled-push pieces piece filled.1 some)

-- bytes left out over a piece and those after it
pub drop_across : (n : ℕ) (xs ys : Bytes) → drop n (xs ++ ys) ≡ drop n xs ++ drop (n - length xs) ys
drop_across zero xs ys = let e : 0 ≡ 0 - length xs = omega arith in ap (λ (k : ℕ). xs ++ drop k ys) e
drop_across (suc n) [] ys = let e : suc n ≡ suc n - 0 = omega arith in ap (λ (k : ℕ). drop k ys) e
drop_across (suc n) (x ∷ xs) ys = let e : n - length xs ≡ suc n - length (x ∷ xs) = omega arith in drop_across n xs ys ∙ ap (λ (k : ℕ). drop n xs ++ drop k ys) e

pub take_across : (n : ℕ) (xs ys : Bytes) → take n (xs ++ ys) ≡ take n xs ++ take (n - length xs) ys
take_across zero xs ys = let e : 0 ≡ 0 - length xs = omega arith in ap (λ (k : ℕ). take k ys) e
take_across (suc n) [] ys = let e : suc n ≡ suc n - 0 = omega arith in ap (λ (k : ℕ). take k ys) e
take_across (suc n) (x ∷ xs) ys = let e : n - length xs ≡ suc n - length (x ∷ xs) = omega arith in ap (λ (l : Bytes). x ∷ l) (take_across n xs ys ∙ ap (λ (k : ℕ). take n xs ++ take k ys) e)

drop_part : (s f : ℕ) (xs ys : Bytes) → s ≤ f → s ≤ length xs → (s ≡ f) ⊎ (s ≡ length xs) → drop f (xs ++ ys) ≡ drop s xs ++ drop (f - s) ys
drop_part s f xs ys a b (inl e) =
    let none : f - length xs ≡ f - s = omega arith in
    drop_across f xs ys ∙ (ap (λ (k : ℕ). drop k xs ++ drop (f - length xs) ys) (sym e) ∙ ap (λ (k : ℕ). drop s xs ++ drop k ys) none)
drop_part s f xs ys a b (inr e) =
    let less : f - length xs ≡ f - s = omega arith in
    let all : drop f xs ≡ drop s xs = drop_all f xs (omega arith) ∙ sym (drop_all s xs (omega arith)) in
    drop_across f xs ys ∙ (ap (λ (b : Bytes). b ++ drop (f - length xs) ys) all ∙ ap (λ (k : ℕ). drop s xs ++ drop k ys) less)

take_part : (t c : ℕ) (xs ys : Bytes) → t ≤ c → t ≤ length xs → (t ≡ c) ⊎ (t ≡ length xs) → take c (xs ++ ys) ≡ take t xs ++ take (c - t) ys
take_part t c xs ys a b (inl e) =
    let none : c - length xs ≡ c - t = omega arith in
    take_across c xs ys ∙ (ap (λ (k : ℕ). take k xs ++ take (c - length xs) ys) (sym e) ∙ ap (λ (k : ℕ). take t xs ++ take k ys) none)
take_part t c xs ys a b (inr e) =
    let less : c - length xs ≡ c - t = omega arith in
    let all : take c xs ≡ take t xs = take_all c xs (omega arith) ∙ sym (take_all t xs (omega arith)) in
    take_across c xs ys ∙ (ap (λ (b : Bytes). b ++ take (c - length xs) ys) all ∙ ap (λ (k : ℕ). take t xs ++ take k ys) less)

-- what is gathered of a piece, and what is wanted of those after it
pub part_gathered : (before xs rest ys : Bytes) (f c s t : ℕ) → rest ≡ drop s xs → s ≤ f → s ≤ length xs → (s ≡ f) ⊎ (s ≡ length xs) → t ≤ c → t ≤ length rest → (t ≡ c) ⊎ (t ≡ length rest) → (before ++ take t rest) ++ take (c - t) (drop (f - s) ys) ≡ before ++ take c (drop f (xs ++ ys))
part_gathered before xs rest ys f c s t is a b e a' b' e' =
    append_assoc before (take t rest) (take (c - t) (drop (f - s) ys))
    ∙ ap (λ (l : Bytes). before ++ l) (sym (take_part t c rest (drop (f - s) ys) a' b' e') ∙ ap (take c) (ap (λ (r : Bytes). r ++ drop (f - s) ys) is ∙ sym (drop_part s f xs ys a b e)))

-- pieces without some bytes, by whether the oldest is used up
pub without_cons : (n : ℕ) (piece : Bytes) (pieces : List Bytes) → 0 < length piece → without n (piece ∷ pieces) ≡ cond (nat_le (length piece) n) (without (n - length piece) pieces) (drop n piece ∷ pieces)
without_cons zero piece pieces some = rw (lt-leb (length piece) 0 some) refl
without_cons (suc n) piece pieces some = refl

pub without_nothing : (n : ℕ) → without n [] ≡ []
without_nothing zero = refl
without_nothing (suc n) = refl

-- pieces without the bytes of the oldest
pub without_oldest : (n : ℕ) (oldest : Bytes) (later : List Bytes) → length oldest ≤ n → without n (as_piece oldest ++ later) ≡ without (n - length oldest) later
without_oldest n [] later le = let e : n ≡ n - 0 = omega arith in ap (λ (k : ℕ). without k later) e
without_oldest n (byte ∷ bytes) later le = without_cons n (byte ∷ bytes) later (omega arith) ∙ rw (le-leb (length (byte ∷ bytes)) n le) refl

-- pieces without a part of the oldest
pub without_part : (n : ℕ) (oldest : Bytes) (later : List Bytes) → n < length oldest → without n (as_piece oldest ++ later) ≡ as_piece (drop n oldest) ++ later
without_part n [] later lt = absurd (omega arith)
without_part n (byte ∷ bytes) later lt =
    without_cons n (byte ∷ bytes) later (omega arith)
    ∙ rw (lt-leb (length (byte ∷ bytes)) n lt) (ap (λ (l : List Bytes). l ++ later) (sym (as_piece_filled (drop n (byte ∷ bytes)) (omega (arith, length-drop n (byte ∷ bytes))))))

-- pieces from which so many bytes are still to be taken off the front
pub record IsLeft (whole : List Bytes) (count : ℕ) (oldest : Bytes) (later : List Bytes) (held left : ℕ) : Type 0 where
  pub same : without left (as_piece oldest ++ later) ≡ without count whole
  pub none : length oldest ≡ 0 → later ≡ []
  pub filled : AreFilled later
  pub within : left ≤ length (oldest ++ joined later)
  pub together : held + left ≡ length (oldest ++ joined later)

pub left_at_first : (oldest : Bytes) (later : List Bytes) (held count : ℕ) → ArePieces oldest later held → count ≤ held → IsLeft (as_piece oldest ++ later) count oldest later (held - count) count
left_at_first oldest later held count are within = record {
  same = refl;
  none = are.none;
  filled = are.filled;
  within = omega (arith, are.together);
  together = omega (arith, are.together);
}

pub left_next : (whole : List Bytes) (count : ℕ) (oldest piece : Bytes) (later rest : List Bytes) (held left : ℕ) → IsLeft whole count oldest later held left → length oldest ≤ left → later ≡ piece ∷ rest → IsLeft whole count piece rest held (left - length oldest)
left_next whole count oldest piece later rest held left are le is = record {
  same = ap (λ (l : List Bytes). without (left - length oldest) (l ++ rest)) (as_piece_filled piece filled.0) ∙ (ap (without (left - length oldest)) (sym is) ∙ (sym (without_oldest left oldest later le) ∙ are.same));
  none = λ e. absurd (omega (arith, filled.0));
  filled = filled.1;
  within = omega (arith, are.within, length-append oldest (joined later), ap (λ (l : List Bytes). length (joined l)) is);
  together = omega (arith, are.within, are.together, length-append oldest (joined later), ap (λ (l : List Bytes). length (joined l)) is);
}
  where
    filled : AreFilled (piece ∷ rest)
    filled = subst AreFilled is are.filled

pub left_none : (whole : List Bytes) (count : ℕ) (oldest : Bytes) (later : List Bytes) (held left : ℕ) → IsLeft whole count oldest later held left → length oldest ≤ left → later ≡ [] → ([] ≡ without count whole) × (held ≡ 0)
left_none whole count oldest later held left are le is = (
  sym (ap (without (left - length oldest)) is ∙ without_nothing (left - length oldest)) ∙ (sym (without_oldest left oldest later le) ∙ are.same),
  omega (arith, are.within, are.together, length-append oldest (joined later), ap (λ (l : List Bytes). length (joined l)) is),
)

pub left_here : (whole : List Bytes) (count : ℕ) (oldest : Bytes) (later : List Bytes) (held left : ℕ) → IsLeft whole count oldest later held left → left < length oldest → (as_piece (drop left oldest) ++ later ≡ without count whole) × ArePieces (drop left oldest) later held
left_here whole count oldest later held left are lt = (
  sym (without_part left oldest later lt) ∙ are.same,
  record {
    none = λ e. absurd (omega (arith, length-drop left oldest));
    filled = are.filled;
    together = omega (arith, are.together, length-append oldest (joined later), length-append (drop left oldest) (joined later), length-drop left oldest);
  },
)

-- no piece is empty, also where some bytes have been taken off
pub filled_pieces : (oldest : Bytes) (later : List Bytes) → AreFilled later → AreFilled (as_piece oldest ++ later)
filled_pieces [] later filled = filled
filled_pieces (byte ∷ bytes) later filled = (omega arith, filled)

pub filled_without : (n : ℕ) (pieces : List Bytes) → AreFilled pieces → AreFilled (without n pieces)
filled_without zero pieces filled = filled
filled_without (suc n) [] filled = tt
filled_without (suc n) (piece ∷ pieces) filled = by_test (nat_le (length piece) (suc n)) refl (filled_without (suc n - length piece) pieces filled.1) where
  by_test : (b : Bool) → nat_le (length piece) (suc n) ≡ b → AreFilled (without (suc n - length piece) pieces) → AreFilled (cond b (without (suc n - length piece) pieces) (drop (suc n) piece ∷ pieces))
  by_test true e rest = rest
  by_test false e rest = (omega (arith, leb-false (length piece) (suc n) e, length-drop (suc n) piece), filled.1)

-- the bytes that are left
pub joined-without : (n : ℕ) (pieces : List Bytes) → joined (without n pieces) ≡ drop n (joined pieces)
joined-without zero pieces = refl
joined-without (suc n) [] = refl
joined-without (suc n) (piece ∷ pieces) = by_test (nat_le (length piece) (suc n)) refl (joined-without (suc n - length piece) pieces) where
  by_test : (b : Bool) → nat_le (length piece) (suc n) ≡ b → joined (without (suc n - length piece) pieces) ≡ drop (suc n - length piece) (joined pieces) → joined (cond b (without (suc n - length piece) pieces) (drop (suc n) piece ∷ pieces)) ≡ drop (suc n) (piece ++ joined pieces)
  by_test true e rest =
      rest
      ∙ (sym (ap (λ (b : Bytes). b ++ drop (suc n - length piece) (joined pieces)) (drop_all (suc n) piece (leb-true (length piece) (suc n) e))) ∙ sym (drop_across (suc n) piece (joined pieces)))
  by_test false e rest =
      let none : suc n - length piece ≡ 0 = omega (arith, leb-false (length piece) (suc n) e) in
      sym (drop_across (suc n) piece (joined pieces) ∙ ap (λ (k : ℕ). drop (suc n) piece ++ drop k (joined pieces)) none)

-- some bytes less, and then some more
without_more : (m n : ℕ) (piece : Bytes) (pieces : List Bytes) (b d : Bool) → nat_le (length (drop (suc n) piece)) m ≡ b → nat_le (length piece) (suc n + m) ≡ d → suc n < length piece → cond b (without (m - length (drop (suc n) piece)) pieces) (drop m (drop (suc n) piece) ∷ pieces) ≡ cond d (without (suc n + m - length piece) pieces) (drop (suc n + m) piece ∷ pieces)
without_more m n piece pieces true true e f lt =
    let same : m - length (drop (suc n) piece) ≡ suc n + m - length piece = omega (arith, length-drop (suc n) piece) in ap (λ (k : ℕ). without k pieces) same
without_more m n piece pieces true false e f lt = absurd (omega (arith, length-drop (suc n) piece, leb-true (length (drop (suc n) piece)) m e, leb-false (length piece) (suc n + m) f))
without_more m n piece pieces false true e f lt = absurd (omega (arith, length-drop (suc n) piece, leb-false (length (drop (suc n) piece)) m e, leb-true (length piece) (suc n + m) f))
without_more m n piece pieces false false e f lt = ap (λ (b : Bytes). b ∷ pieces) (drop-drop m (suc n) piece)

without_all : (m n : ℕ) (piece : Bytes) (pieces : List Bytes) (b : Bool) → nat_le (length piece) (suc n + m) ≡ b → length piece ≤ suc n → without ((suc n - length piece) + m) pieces ≡ cond b (without (suc n + m - length piece) pieces) (drop (suc n + m) piece ∷ pieces)
without_all m n piece pieces true e le = let same : (suc n - length piece) + m ≡ suc n + m - length piece = omega arith in ap (λ (k : ℕ). without k pieces) same
without_all m n piece pieces false e le = absurd (omega (arith, leb-false (length piece) (suc n + m) e))

without_step : (k : ℕ) (piece : Bytes) (pieces : List Bytes) → 0 < k → without k (piece ∷ pieces) ≡ cond (nat_le (length piece) k) (without (k - length piece) pieces) (drop k piece ∷ pieces)
without_step zero piece pieces some = absurd (omega arith)
without_step (suc k) piece pieces some = refl

pub without-without : (m n : ℕ) (pieces : List Bytes) → without m (without n pieces) ≡ without (n + m) pieces
without-without m zero pieces = let e : m ≡ 0 + m = omega arith in ap (λ (k : ℕ). without k pieces) e
without-without m (suc n) [] = without_nothing m ∙ sym (without_nothing (suc n + m))
without-without m (suc n) (piece ∷ pieces) = by_test (nat_le (length piece) (suc n)) refl (without-without m (suc n - length piece) pieces) where
  by_test : (b : Bool) → nat_le (length piece) (suc n) ≡ b → without m (without (suc n - length piece) pieces) ≡ without ((suc n - length piece) + m) pieces → without m (cond b (without (suc n - length piece) pieces) (drop (suc n) piece ∷ pieces)) ≡ without (suc n + m) (piece ∷ pieces)
  by_test true e rest = rest ∙ (without_all m n piece pieces (nat_le (length piece) (suc n + m)) refl (leb-true (length piece) (suc n) e) ∙ sym (without_step (suc n + m) piece pieces (omega arith)))
  by_test false e rest =
      let lt : suc n < length piece = leb-false (length piece) (suc n) e in
      without_cons m (drop (suc n) piece) pieces (omega (arith, length-drop (suc n) piece))
      ∙ (without_more m n piece pieces (nat_le (length (drop (suc n) piece)) m) (nat_le (length piece) (suc n + m)) refl refl lt ∙ sym (without_step (suc n + m) piece pieces (omega arith)))

-- bytes that are gathered from pieces: what is gathered so far, and what is wanted of the pieces from this place on
pub record IsGathering (target : Bytes) (later : List Bytes) (index : ℕ) (gathered : Bytes) (room wanted_from wanted : ℕ) : Type 0 where
  pub goes_on : gathered ++ take wanted (drop wanted_from (joined (drop index later))) ≡ target
  pub fits : length gathered + wanted ≤ room

pub length-part : (from count : ℕ) (bytes : Bytes) → from + count ≤ length bytes → length (take count (drop from bytes)) ≡ count
length-part from count bytes within = length-take-le count (drop from bytes) (omega (arith, length-drop from bytes))

pub gathering_next : (target : Bytes) (later : List Bytes) (index : ℕ) (piece : Bytes) (gathered more : Bytes) (room room' f f' c c' : ℕ) → IsGathering target later index gathered room f c → index < length later → piece ≡ get_or later index piece → ((rest : Bytes) → more ++ take c' (drop f' rest) ≡ gathered ++ take c (drop f (piece ++ rest))) → length more + c' ≤ room' → IsGathering target later (index + 1) more room' f' c'
gathering_next target later index piece gathered more room room' f f' c c' so_far lt is goes fits = record {
  goes_on = goes (joined (drop (index + 1) later)) ∙ (sym (ap (λ (l : List Bytes). gathered ++ take c (drop f (joined l))) (drop_more later index piece lt ∙ ap (λ (p : Bytes). p ∷ drop (index + 1) later) (sym is))) ∙ so_far.goes_on);
  fits = fits;
}

pub gathered_all : (target : Bytes) (later : List Bytes) (index : ℕ) (gathered : Bytes) (room f c : ℕ) → IsGathering target later index gathered room f c → length later ≤ index → gathered ≡ target
gathered_all target later index gathered room f c so_far all = sym (append-nil gathered) ∙ (ap (λ (b : Bytes). gathered ++ b) (sym nothing) ∙ so_far.goes_on) where
  nothing : take c (drop f (joined (drop index later))) ≡ []
  nothing = ap (λ (l : List Bytes). take c (drop f (joined l))) (drop_all index later all) ∙ (ap (take c) (drop_all f [] (omega arith)) ∙ take_all c [] (omega arith))

pub gathered_enough : (target : Bytes) (later : List Bytes) (index : ℕ) (gathered : Bytes) (room f c : ℕ) → IsGathering target later index gathered room f c → c ≡ 0 → gathered ≡ target
gathered_enough target later index gathered room f c so_far none =
    sym (append-nil gathered) ∙ (ap (λ (k : ℕ). gathered ++ take k (drop f (joined (drop index later)))) (sym none) ∙ so_far.goes_on)

-- one of the pieces
pub filled_at : (pieces : List Bytes) (index : ℕ) (piece : Bytes) → AreFilled pieces → index < length pieces → piece ≡ get_or pieces index piece → 0 < length piece
filled_at [] index piece filled lt is = absurd (omega arith)
filled_at (first ∷ pieces) zero piece filled lt is = omega (arith, filled.0, ap length is)
filled_at (first ∷ pieces) (suc index) piece filled lt is = filled_at pieces index piece filled.1 (omega arith) is

past_all : (pieces : List Bytes) (index : ℕ) → length pieces ≤ index → None ≡ slice_get pieces index
past_all [] index le = refl
past_all (first ∷ pieces) zero le = absurd (omega arith)
past_all (first ∷ pieces) (suc index) le = past_all pieces index (omega arith)

pub none_there : (oldest : Bytes) (later : List Bytes) (index : ℕ) → (index ≡ 0 → ⊥) → length later ≤ index - 1 → None ≡ slice_get (as_piece oldest ++ later) index
none_there [] later index some le = past_all later index (omega (arith, some))
none_there (byte ∷ bytes) later index some le = past_all ((byte ∷ bytes) ∷ later) index (omega (arith, some))

-- a further piece
pub pieces_push : (oldest piece : Bytes) (later : List Bytes) (held held' : ℕ) → ArePieces oldest later held → (length oldest ≡ 0 → ⊥) → 0 < length piece → held' ≡ held + length piece → ArePieces oldest (later ++ piece ∷ []) held'
pieces_push oldest piece later held held' are some filled sum = record {
  none = λ e. absurd (some e);
  filled = AreFilled-push later piece are.filled filled;
  together = sum ∙ (ap (λ (k : ℕ). k + length piece) are.together ∙ omega (arith, length-append oldest (joined later), length-append oldest (joined (later ++ piece ∷ [])), ap length (joined-append later (piece ∷ [])), length-append (joined later) (joined (piece ∷ [])), length-append piece []));
}
