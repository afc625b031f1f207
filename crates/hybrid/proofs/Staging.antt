-- Staged pages.
use Rattle.std.proofs.Common.{◌≡◌, ℕ, ◌+◌, ◌<◌, ◌≤◌, List, ◌++◌, [], ◌∷◌, Option, None, Some, false, true, length, map, ap, refl, sym, ◌∙◌, subst, arith, inl, inr}
use Rattle.std.specs.Prelude.{IfNone, MatchOption, is_some, slice_index_or}
use Rattle.records.specs.Page.{SameWithin}
use Rattle.hybrid.specs.declared.piece.Piece.{Piece}
use Rattle.std.specs.List.{Contains}
use Rattle.std.proofs.lemmas.List.{length-map, get_or-map, map-append}
use Rattle.std.proofs.lemmas.List.Elements.{All-push}
use Rattle.std.proofs.lemmas.Bool.{cases_lt}
use Rattle.hybrid.specs.Staging.{StagedPage, AreBytesRead, AreRight, HasBytes, IsRead, IsRight, IsStaged}

-- ---- a page is looked for

module _ {X : Type 0} (f : X → StagedPage) (items : List X) (staged : List StagedPage) (is : map f items ≡ staged) where
  pub count : length staged ≡ length items
  count = omega (arith, ap length is, length-map items f)

  -- item i is the entry at i
  pub entry-at : (i : ℕ) (x : X) (d : StagedPage) → i < length items → x ≡ slice_index_or items i x → slice_index_or staged i d ≡ f x
  entry-at i x d lt it =
      ap (λ (l : List StagedPage). slice_index_or l i d) (sym is)
      ∙ get_or-map f items i x d lt ∙ ap f (sym it)

  -- it is right
  pub entry-right : (i : ℕ) (x : X) → i < length items → x ≡ slice_index_or items i x → AreRight staged → IsRight (f x)
  entry-right i x lt it right = subst IsRight (entry-at i x (f x) lt it) (right i (f x) (omega (arith, lt, count)))

  -- and is there
  pub entry-there : (i : ℕ) (x : X) → i < length items → x ≡ slice_index_or items i x → Contains staged (f x)
  entry-there i x lt it = (i, omega (arith, lt, count), entry-at i x (f x) lt it)

  -- the page that item i shows, if it was read whole
  pub same-found : (i : ℕ) (x : X) → i < length items → x ≡ slice_index_or items i x → (f x).piece ≡ None → AreRight staged → (f x).page ≡ (f x).kept.shown
  same-found i x lt it whole right =
      subst (λ (o : Option Piece). MatchOption o ((f x).page ≡ (f x).kept.shown) (λ piece. SameWithin piece.from piece.to (f x).page (f x).kept.shown)) whole (entry-right i x lt it right)

  -- one more item is not the one that is looked for
  pub more-missed : (Q : StagedPage → Type 0) (i : ℕ) (x : X) → i < length items → x ≡ slice_index_or items i x → (Q (f x) → ⊥)
      → ((k : ℕ) (d : StagedPage) → k < i → Q (slice_index_or staged k d) → ⊥) → (k : ℕ) (d : StagedPage) → k < i + 1 → Q (slice_index_or staged k d) → ⊥
  more-missed Q i x lt it other h k d below same = elim (cases_lt k i) [
    | inl low ↦ h k d low same
    | inr high ↦
        let at : k ≡ i = omega arith in
        other (subst Q (ap (λ (n : ℕ). slice_index_or staged n d) at ∙ entry-at i x d lt it) same)
  ]

  pub all-missed : (Q : StagedPage → Type 0) (i : ℕ) → length items ≤ i → ((k : ℕ) (d : StagedPage) → k < i → Q (slice_index_or staged k d) → ⊥) → (s : StagedPage) → Contains staged s → Q s → ⊥
  all-missed Q i past h s there q = h there.0 s (omega (arith, there.1, count)) (subst Q (sym there.2) q)

-- there is none where an option has none
pub if-none : {X : Type 0} (o : Option X) (P : Type 0) → is_some o ≡ false → IfNone o P → P
if-none None P e h = h
if-none (Some x) P e h = absurd (cc e)

-- an option has none, or some
pub piece_none : {X : Type 0} (o : Option X) → is_some o ≡ false → o ≡ None
piece_none None e = refl
piece_none (Some x) e = absurd (cc e)

pub piece_some : {X : Type 0} (o : Option X) → is_some o ≡ true → o ≡ None → ⊥
piece_some None e none = absurd (cc e)
piece_some (Some x) e none = absurd (cc none)

-- none that is whole
pub none-whole : (staged : List StagedPage) (identity : List ℕ) → ((s : StagedPage) → Contains staged s → (s.kept.identity ≡ identity) × (s.piece ≡ None) → ⊥) → IsStaged staged identity → ⊥
none-whole staged identity none s = none s.one s.there (s.same, s.whole)

-- none at all
pub none-read : (staged : List StagedPage) (identity : List ℕ) → ((s : StagedPage) → Contains staged s → s.kept.identity ≡ identity → ⊥) → IsRead staged identity → ⊥
none-read staged identity none s = none s.one s.there s.same

-- none that has these bytes
pub none-has : (staged : List StagedPage) (identity : List ℕ) (from size : ℕ) → ((s : StagedPage) → Contains staged s → (s.kept.identity ≡ identity) × HasBytes s from size → ⊥) → AreBytesRead staged identity from size → ⊥
none-has staged identity from size none s = none s.one s.there (s.same, s.has)

-- ---- a page is read

-- what a read leaves: one more behind the others
pub one-staged : {X : Type 0} (f : X → StagedPage) (items : List X) (old : List StagedPage) (x : X) → map f items ≡ old → map f (items ++ x ∷ []) ≡ old ++ f x ∷ []
one-staged f items old x is = map-append f items (x ∷ []) ∙ ap (λ (l : List StagedPage). l ++ f x ∷ []) is

pub right-more : (staged : List StagedPage) (one : StagedPage) (new : List StagedPage) → new ≡ staged ++ one ∷ [] → AreRight staged → IsRight one → AreRight new
right-more staged one new is right same = subst AreRight (sym is) (All-push IsRight staged one right same)
