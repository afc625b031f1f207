-- Lists of keys: which are there, what was found of them, and their stripes.
use Rattle.std.proofs.Common.{◌≡◌, length, ◌∙◌, ◌||◌, ◌⊎◌, inl, inr, ℕ, zero, suc, ◌+◌, add-one, append_assoc, Bool, true, false, List, [], ◌∷◌, ◌++◌, take, Option, Some, None, IsSome, cond, bytes_eq, nat_eq, sym, ap, subst, refl, eq-eqb, ne_eqb, ⊎_elim, ◌<◌, ◌≤◌, ◌↔◌, nat_lt, arith}
use Rattle.std.proofs.lemmas.Bool.{cases_eq}
use Rattle.std.specs.Prelude.{slice_get}
use Rattle.std.specs.Bool.{Decides}
use Rattle.std.specs.Map.{update}
use Rattle.std.proofs.lemmas.Slice.Eq.{bytes_eq-Decides}
use Rattle.words.specs.Store.{Bytes, Store, Write, written, writes_key}
use Rattle.words.specs.History.{History, Pair, is_dirty, is_written, keys_of_pairs}
use Rattle.words.specs.Watches.{mark_at, mark_of}
use Rattle.words.specs.Stripes.{stripe_of}
use Rattle.words.specs.Locality.{AreSameAt, IsNoneOf}
use Rattle.gates.specs.Rule.{Meaning}
use Rattle.gates.specs.Sets.{inserted, times}
use Rattle.gates.specs.Passes.{AreWatched}
use Rattle.transact.specs.Plans.{stripes_with}
use Rattle.transact.specs.Tables.{AreThere, AllRead, AllMarked, joined, joined_marks, value_in, mark_in, any_marked, values_of, keys_written}
use Rattle.plans.proofs.Stores.{or_right, same_key, some_of}
use Rattle.std.proofs.Common.{unwrap_or}

pub with_append : (n : ℕ) (s : List ℕ) (a b : List Bytes) → stripes_with n s (a ++ b) ≡ stripes_with n (stripes_with n s a) b
with_append n s [] b = refl
with_append n s (k ∷ a) b = with_append n (inserted (stripe_of n k) s) a b

take_suc : (keys : List Bytes) (n : ℕ) (key : Bytes) → slice_get keys n ≡ Some key → take (suc n) keys ≡ take n keys ++ key ∷ []
take_suc [] n key is = absurd (cc is)
take_suc (first ∷ keys) zero key is = ap (λ k. k ∷ []) (cc is)
take_suc (first ∷ keys) (suc n) key is = ap (λ rest. first ∷ rest) (take_suc keys n key is)

-- the keys up to one and with it
pub take_more : (keys : List Bytes) (n : ℕ) (key : Bytes) → slice_get keys n ≡ Some key → take (n + 1) keys ≡ take n keys ++ key ∷ []
take_more keys n key is = ap (λ k. take k keys) (add-one n) ∙ take_suc keys n key is

pub values_of-append : (store : Store) (a b : List Bytes) → values_of store (a ++ b) ≡ values_of store a ++ values_of store b
values_of-append store [] b = refl
values_of-append store (k ∷ a) b = ap (λ rest. (k, store k) ∷ rest) (values_of-append store a b)

-- what was found of keys, and then of more
pub found_both : (store other : Store) (a b : List Bytes) (f0 f1 f2 : List Write) → other ≡ store → f1 ≡ f0 ++ values_of store a → f2 ≡ f1 ++ values_of other b → f2 ≡ f0 ++ values_of store (a ++ b)
found_both store other a b f0 f1 f2 same one two =
    two ∙ ap (λ (s : Store). f1 ++ values_of s b) same ∙ ap (λ (f : List Write). f ++ values_of store b) one
    ∙ append_assoc f0 (values_of store a) (values_of store b) ∙ ap (λ (f : List Write). f0 ++ f) (sym (values_of-append store a b))

pub append_none : (keys : List Bytes) → keys ++ [] ≡ keys
append_none [] = refl
append_none (k ∷ keys) = ap (λ l. k ∷ l) (append_none keys)

pub none_more : (keys : List Bytes) (key : Bytes) → IsNoneOf keys key → IsNoneOf (keys ++ []) key
none_more keys key none = subst (λ (l : List Bytes). IsNoneOf l key) (sym (append_none keys)) none

pub same_more : (keys : List Bytes) (one other : Store) → AreSameAt keys one other → AreSameAt (keys ++ []) one other
same_more keys one other same = subst (λ (l : List Bytes). AreSameAt l one other) (sym (append_none keys)) same

pub same_both : (keys : List Bytes) (a b c : Store) → AreSameAt keys a b → AreSameAt keys b c → AreSameAt keys a c
same_both [] a b c one two = tt
same_both (k ∷ keys) a b c one two = (one.0 ∙ two.0, same_both keys a b c one.1 two.1)

-- What was found of keys shows the store at them.

agrees : (keys : List Bytes) (store base : Store) (key : Bytes) → base key ≡ store key → written base (values_of store keys) key ≡ store key
agrees [] store base key is = is
agrees (first ∷ keys) store base key is =
    agrees keys store (update bytes_eq base first (store first)) key
    (elim (bytes_eq first key) as (λ test. Decides test (first ≡ key) → cond test (store first) (base key) ≡ store key) [
      | true ↦ λ decides. ap store (decides.0 refl)
      | false ↦ λ decides. is
    ] (bytes_eq-Decides first key))

pub found_agrees : (keys : List Bytes) (store base : Store) → AreSameAt keys (written base (values_of store keys)) store
found_agrees [] store base = tt
found_agrees (first ∷ keys) store base = (
  agrees keys store (update bytes_eq base first (store first)) first (ap (λ b. cond b (store first) (base first)) (same_key first)),
  found_agrees keys store (update bytes_eq base first (store first)),
)

module _ {T : Type 0} (contents : Meaning T) (n : ℕ) (parts : ℕ → Option T) where
  pub there_append : (a b : List Bytes) → AreThere n parts (a ++ b) → AreThere n parts a × AreThere n parts b
  there_append [] b there = (tt, there)
  there_append (k ∷ a) b there = let rest = there_append a b there.1 in ((there.0, rest.0), rest.1)

  pub there_both : (a b : List Bytes) → AreThere n parts a → AreThere n parts b → AreThere n parts (a ++ b)
  there_both [] b one two = two
  there_both (k ∷ a) b one two = (one.0, there_both a b one.1 two)

  pub there_at : (keys : List Bytes) (place : ℕ) (key : Bytes) → slice_get keys place ≡ Some key → AreThere n parts keys → AreThere n parts (key ∷ [])
  there_at [] place key is there = absurd (cc is)
  there_at (first ∷ keys) zero key is there = subst (λ (k : Bytes). AreThere n parts (k ∷ [])) (cc is) (there.0, tt)
  there_at (first ∷ keys) (suc place) key is there = there_at keys place key is there.1

  -- parts have together what the store has of which they are parts
  pub joined_at : (whole : Store) (key : Bytes) → AllRead contents n parts whole → IsSome (parts (stripe_of n key)) → joined contents n parts key ≡ whole key
  joined_at whole key reads some =
      let part = some_of (parts (stripe_of n key)) some in
      ap (value_in contents key) part.1
      ∙ reads (stripe_of n key) part.0 part.1 key
      ∙ ap (λ b. cond b (whole key) None) (eq-eqb (stripe_of n key) (stripe_of n key) refl)

  pub joined_same : (keys : List Bytes) (whole : Store) → AllRead contents n parts whole → AreThere n parts keys → AreSameAt keys (joined contents n parts) whole
  joined_same [] whole reads there = tt
  joined_same (k ∷ keys) whole reads there = (joined_at whole k reads there.0, joined_same keys whole reads there.1)

  pub joined_mark : (seen : History) (own : ℕ) (watched : List Pair) (key : Bytes) → AllMarked contents n parts seen own watched → IsSome (parts (stripe_of n key))
      → joined_marks contents n parts key own ≡ mark_at seen watched key
  joined_mark seen own watched key marked some =
      let part = some_of (parts (stripe_of n key)) some in
      ap (mark_in contents key own) part.1 ∙ marked (stripe_of n key) part.0 part.1 key refl

  -- the marks of all watched keys say whether one was written
  pub any_is : (seen : History) (own : ℕ) (all pairs : List Pair) → AllMarked contents n parts seen own all → AreThere n parts (keys_of_pairs pairs) → AreWatched all pairs
      → any_marked (joined_marks contents n parts) own (keys_of_pairs pairs) ≡ is_dirty seen pairs
  any_is seen own all [] marked there are = refl
  any_is seen own all (pair ∷ pairs) marked there are =
      ap (λ (m : Option Bool). unwrap_or m false || any_marked (joined_marks contents n parts) own (keys_of_pairs pairs))
      (joined_mark seen own all pair.0 marked there.0 ∙ ap (mark_of seen pair.0) are.0)
      ∙ ap (λ b. is_written seen (pair.1 + 1) pair.0 || b) (any_is seen own all pairs marked there.1 are.1)

  -- where no key is written but named ones, there is a part for each key that is written
  there_or_none : (keys : List Bytes) (key : Bytes) → AreThere n parts keys → IsSome (parts (stripe_of n key)) ⊎ IsNoneOf keys key
  there_or_none [] key there = inr tt
  there_or_none (first ∷ keys) key there =
      elim (bytes_eq first key) as (λ test. Decides test (first ≡ key) → IsSome (parts (stripe_of n key)) ⊎ IsNoneOf (first ∷ keys) key) [
        | true ↦ λ decides. inl (subst (λ (k : Bytes). IsSome (parts (stripe_of n k))) (decides.0 refl) there.0)
        | false ↦ λ decides. ⊎_elim (λ some. inl some) (λ none. inr ((λ (e : first ≡ key). absurd (cc (decides.1 e))), none)) (there_or_none keys key there.1)
      ] (bytes_eq-Decides first key)

  pub written_there : (keys : List Bytes) (whole ws : List Write) → ((key : Bytes) → IsNoneOf keys key → writes_key whole key ≡ false)
      → ((key : Bytes) → writes_key ws key ≡ true → writes_key whole key ≡ true) → AreThere n parts keys → AreThere n parts (keys_written ws)
  written_there keys whole [] law within there = tt
  written_there keys whole (w ∷ ws) law within there = (
    ⊎_elim (λ some. some) (λ none. absurd (cc (sym (within w.0 (ap (λ b. b || writes_key ws w.0) (same_key w.0))) ∙ law w.0 none))) (there_or_none keys w.0 there),
    written_there keys whole ws law (λ key e. within key (or_right (bytes_eq w.0 key) (writes_key ws key) e)) there,
  )

-- the stripe of each of the keys is in a set
abbrev pub AreIn : ℕ → List ℕ → List Bytes → Type 0
AreIn n stripes [] = Unit {0}
AreIn n stripes (key ∷ keys) = (0 < times (stripe_of n key) stripes) × AreIn n stripes keys

times_here : (x : ℕ) (xs : List ℕ) → 0 < times x (x ∷ xs)
times_here x xs = subst (λ (b : Bool). 0 < cond b 1 0 + times x xs) (sym (eq-eqb x x refl)) (omega arith)

inserted_more : (x i : ℕ) (s : List ℕ) → times i s ≤ times i (inserted x s)
inserted_more x i [] = omega arith
inserted_more x i (y ∷ s) = elim (nat_lt x y) as (λ b. times i (y ∷ s) ≤ times i (cond b (x ∷ y ∷ s) (cond (nat_eq x y) (y ∷ s) (y ∷ inserted x s)))) [
  | true ↦ omega arith
  | false ↦ elim (nat_eq x y) as (λ b. times i (y ∷ s) ≤ times i (cond b (y ∷ s) (y ∷ inserted x s))) [
    | true ↦ omega arith
    | false ↦ omega (arith, inserted_more x i s)
  ]
]

inserted_has : (x : ℕ) (s : List ℕ) → 0 < times x (inserted x s)
inserted_has x [] = omega (arith, times_here x [])
inserted_has x (y ∷ s) = elim (nat_lt x y) as (λ b. 0 < times x (cond b (x ∷ y ∷ s) (cond (nat_eq x y) (y ∷ s) (y ∷ inserted x s)))) [
  | true ↦ omega (arith, times_here x (y ∷ s))
  | false ↦ ⊎_elim
      (λ same. subst (λ b. 0 < times x (cond b (y ∷ s) (y ∷ inserted x s))) (sym (eq-eqb x y same)) (subst (λ (z : ℕ). 0 < times x (z ∷ s)) same (omega (arith, times_here x s))))
      (λ ne. subst (λ b. 0 < times x (cond b (y ∷ s) (y ∷ inserted x s))) (sym (ne_eqb x y ne)) (omega (arith, inserted_has x s)))
      (cases_eq x y)
]

with_more : (n i : ℕ) (s : List ℕ) (keys : List Bytes) → times i s ≤ times i (stripes_with n s keys)
with_more n i s [] = omega arith
with_more n i s (k ∷ keys) = omega (arith, inserted_more (stripe_of n k) i s, with_more n i (inserted (stripe_of n k) s) keys)

-- each key's stripe is in the set of their stripes
with_has : (n : ℕ) (s : List ℕ) (keys : List Bytes) → AreIn n (stripes_with n s keys) keys
with_has n s [] = tt
with_has n s (k ∷ keys) = (
  omega (arith, inserted_has (stripe_of n k) s, with_more n (stripe_of n k) (inserted (stripe_of n k) s) keys),
  with_has n (inserted (stripe_of n k) s) keys,
)

-- the stripe of each key is in the set
in_there : {T : Type 0} (n : ℕ) (parts : ℕ → Option T) (stripes : List ℕ) (keys : List Bytes) → ((i : ℕ) → IsSome (parts i) ↔ (0 < times i stripes)) → AreIn n stripes keys → AreThere n parts keys
in_there n parts stripes [] has all = tt
in_there n parts stripes (key ∷ keys) has all = ((has (stripe_of n key)).1 all.0, in_there n parts stripes keys has all.1)

-- parts that are there for a set of stripes are there for the keys that it was made of
pub taken_there : {T : Type 0} (n : ℕ) (parts : ℕ → Option T) (stripes : List ℕ) (keys : List Bytes) → stripes ≡ stripes_with n [] keys
    → ((i : ℕ) → IsSome (parts i) ↔ (0 < times i stripes)) → AreThere n parts keys
taken_there n parts stripes keys is has = in_there n parts stripes keys has (subst (λ (s : List ℕ). AreIn n s keys) (sym is) (with_has n [] keys))

-- all keys
pub take_whole : (keys : List Bytes) (n : ℕ) → length keys ≤ n → take n keys ≡ keys
take_whole [] zero most = refl
take_whole [] (suc n) most = refl
take_whole (k ∷ keys) zero most = absurd (omega (arith, most))
take_whole (k ∷ keys) (suc n) most = ap (λ l. k ∷ l) (take_whole keys n (omega (arith, most)))

-- a list of one has that one alone
pub only_one : (keys : List Bytes) (key : Bytes) → length keys ≡ 1 → slice_get keys 0 ≡ Some key → keys ≡ key ∷ []
only_one [] key one is = absurd (cc is)
only_one (first ∷ []) key one is = ap (λ (k : Bytes). k ∷ []) (cc is)
only_one (first ∷ (second ∷ more)) key one is = absurd (omega (arith, one))
