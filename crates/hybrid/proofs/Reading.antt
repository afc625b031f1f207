-- Reading ends: each read of a page makes the reads that are left fewer.
use Rattle.std.proofs.Common.{◌≡◌, ◌||◌, ◌&&◌, ◌⊎◌, inl, inr, ℕ, zero, suc, ◌-◌, ◌<◌, ◌≤◌, Bool, true, false, List, [], ◌∷◌, ◌++◌, Option, Some, None, cond, bytes_eq, ap, refl, sym, subst, ◌∙◌, arith}
use Rattle.std.specs.Prelude.{is_none, slice_index_or}
use Rattle.std.specs.Bool.{Decides}
use Rattle.std.specs.List.{Contains}
use Rattle.std.proofs.lemmas.Slice.Eq.{bytes_eq-Decides}
use Rattle.hybrid.specs.HybridLog.{HybridLog, Kept}
use Rattle.hybrid.specs.Staging.{StagedPage, IsRead, IsStaged, IsMissing}
use Rattle.hybrid.specs.Reading.{HasRead, is_read, is_staged, unread, unread_at, unread_of}
use Rattle.hybrid.proofs.Logs.{some_is, cons_cases, here, there}

-- ---- whether a page is staged

is-read : (staged : List StagedPage) (identity : List ℕ) → is_read staged identity ≡ true → IsRead staged identity
is-read [] identity e = absurd (cc e)
is-read (s ∷ staged) identity e =
    elim (bytes_eq s.kept.identity identity) as (λ test. Decides test (s.kept.identity ≡ identity) → (test || is_read staged identity) ≡ true → IsRead (s ∷ staged) identity) [
      | true ↦ λ decides x. record { one = s; there = here s staged; same = decides.0 refl }
      | false ↦ λ decides x. let more = is-read staged identity x in record { one = more.one; there = there s staged more.one more.there; same = more.same }
    ] (bytes_eq-Decides s.kept.identity identity) e

or-right : (a b : Bool) → b ≡ true → (a || b) ≡ true
or-right true b e = refl
or-right false b e = e

read-is : (staged : List StagedPage) (identity : List ℕ) → IsRead staged identity → is_read staged identity ≡ true
read-is [] identity s = absurd (omega (arith, s.there.1))
read-is (x ∷ staged) identity s = elim (cons_cases x staged s.one s.there) [
  | inl is ↦
      let same : bytes_eq x.kept.identity identity ≡ true = (bytes_eq-Decides x.kept.identity identity).1 (ap (λ (y : StagedPage). y.kept.identity) is ∙ s.same) in
      ap (λ (t : Bool). t || is_read staged identity) same
  | inr more ↦ or-right (bytes_eq x.kept.identity identity) (is_read staged identity) (read-is staged identity (record { one = s.one; there = more; same = s.same }))
]

-- no piece was read of it, but it whole
none-is : {X : Type 0} (o : Option X) → is_none o ≡ true → o ≡ None
none-is None e = refl
none-is (Some x) e = absurd (cc e)

is-staged : (staged : List StagedPage) (identity : List ℕ) → is_staged staged identity ≡ true → IsStaged staged identity
is-staged [] identity e = absurd (cc e)
is-staged (s ∷ staged) identity e =
    elim (bytes_eq s.kept.identity identity) as (λ test. Decides test (s.kept.identity ≡ identity) → ((test && is_none s.piece) || is_staged staged identity) ≡ true → IsStaged (s ∷ staged) identity) [
      | true ↦ λ decides x.
          elim (is_none s.piece) as (λ whole. is_none s.piece ≡ whole → (whole || is_staged staged identity) ≡ true → IsStaged (s ∷ staged) identity) [
            | true ↦ λ w y. record { one = s; there = here s staged; same = decides.0 refl; whole = none-is s.piece w }
            | false ↦ λ w y. let more = is-staged staged identity y in record { one = more.one; there = there s staged more.one more.there; same = more.same; whole = more.whole }
          ] refl x
      | false ↦ λ decides x. let more = is-staged staged identity x in record { one = more.one; there = there s staged more.one more.there; same = more.same; whole = more.whole }
    ] (bytes_eq-Decides s.kept.identity identity) e

staged-is : (staged : List StagedPage) (identity : List ℕ) → IsStaged staged identity → is_staged staged identity ≡ true
staged-is [] identity s = absurd (omega (arith, s.there.1))
staged-is (x ∷ staged) identity s = elim (cons_cases x staged s.one s.there) [
  | inl is ↦
      let same : bytes_eq x.kept.identity identity ≡ true = (bytes_eq-Decides x.kept.identity identity).1 (ap (λ (y : StagedPage). y.kept.identity) is ∙ s.same) in
      let whole : is_none x.piece ≡ true = ap (λ (y : StagedPage). is_none y.piece) is ∙ ap is_none s.whole in
      ap (λ (t : Bool). (t && is_none x.piece) || is_staged staged identity) same ∙ ap (λ (t : Bool). t || is_staged staged identity) whole
  | inr more ↦ or-right (bytes_eq x.kept.identity identity && is_none x.piece) (is_staged staged identity) (staged-is staged identity (record { one = s.one; there = more; same = s.same; whole = s.whole }))
]

pub staged-decides : (staged : List StagedPage) (identity : List ℕ) → Decides (is_staged staged identity) (IsStaged staged identity)
staged-decides staged identity = (is-staged staged identity, staged-is staged identity)

or-false : (b : Bool) → (b || false) ≡ b
or-false true = refl
or-false false = refl

-- the last of a list is in it
last : (a : List StagedPage) (x : StagedPage) → Contains (a ++ x ∷ []) x
last [] x = here x []
last (y ∷ a) x = there y (a ++ x ∷ []) x (last a x)

false-so : (b : Bool) → (b ≡ true → ⊥) → b ≡ false
false-so true none = absurd (none refl)
false-so false none = refl

not-staged : (staged : List StagedPage) (identity : List ℕ) → (IsStaged staged identity → ⊥) → is_staged staged identity ≡ false
not-staged staged identity none = false-so (is_staged staged identity) (λ e. none (is-staged staged identity e))

not-read : (staged : List StagedPage) (identity : List ℕ) → (IsRead staged identity → ⊥) → is_read staged identity ≡ false
not-read staged identity none = false-so (is_read staged identity) (λ e. none (is-read staged identity e))

-- ---- pages that are staged since

read-append : (a b : List StagedPage) (identity : List ℕ) → is_read (a ++ b) identity ≡ (is_read a identity || is_read b identity)
read-append [] b identity = refl
read-append (s ∷ a) b identity = elim (bytes_eq s.kept.identity identity) as (λ test. (test || is_read (a ++ b) identity) ≡ ((test || is_read a identity) || is_read b identity)) [
  | true ↦ refl
  | false ↦ read-append a b identity
]

staged-append : (a b : List StagedPage) (identity : List ℕ) → is_staged (a ++ b) identity ≡ (is_staged a identity || is_staged b identity)
staged-append [] b identity = refl
staged-append (s ∷ a) b identity = elim (bytes_eq s.kept.identity identity && is_none s.piece) as (λ test. (test || is_staged (a ++ b) identity) ≡ ((test || is_staged a identity) || is_staged b identity)) [
  | true ↦ refl
  | false ↦ staged-append a b identity
]

-- how often a page can still be read, by whether it was staged whole, and whether a piece was
fewer-reads : (whole part more_whole more_part : Bool) → cond {A = ℕ} (whole || more_whole) 0 (cond (part || more_part) 1 2) ≤ cond {A = ℕ} whole 0 (cond part 1 2)
fewer-reads true part more_whole more_part = omega arith
fewer-reads false true true more_part = omega arith
fewer-reads false true false more_part = omega arith
fewer-reads false false true more_part = omega arith
fewer-reads false false false true = omega arith
fewer-reads false false false false = omega arith

pub no-more-at : (a b : List StagedPage) (identity : List ℕ) → unread_at (a ++ b) identity ≤ unread_at a identity
no-more-at a b identity =
    let same : unread_at (a ++ b) identity ≡ cond {A = ℕ} (is_staged a identity || is_staged b identity) 0 (cond (is_read a identity || is_read b identity) 1 2) =
    ap (λ (t : Bool). cond {A = ℕ} t 0 (cond (is_read (a ++ b) identity) 1 2)) (staged-append a b identity)
    ∙ ap (λ (t : Bool). cond {A = ℕ} (is_staged a identity || is_staged b identity) 0 (cond t 1 2)) (read-append a b identity) in
    omega (arith, same, fewer-reads (is_staged a identity) (is_read a identity) (is_staged b identity) (is_read b identity))

-- a page that was not staged whole is read once more
at-most-one : (part whole : Bool) → (whole ≡ true) ⊎ (part ≡ false) → cond {A = ℕ} whole 0 1 < cond {A = ℕ} part 1 2
at-most-one part true more = elim part as (λ t. 0 < cond {A = ℕ} t 1 2) [ true ↦ omega arith | false ↦ omega arith ]
at-most-one part false more = elim more [
  | inl whole ↦ absurd (cc whole)
  | inr none ↦ let two : cond {A = ℕ} part 1 2 ≡ 2 = ap (λ t. cond {A = ℕ} t 1 2) none in omega (arith, two)
]

module _ (a later : List StagedPage) (k : Kept) (read : HasRead k a later) where
  abbrev one : StagedPage
  one = record { kept = k; page = read.page; piece = read.piece }

  itself : bytes_eq k.identity k.identity ≡ true
  itself = (bytes_eq-Decides k.identity k.identity).1 refl

  now-read : is_read later k.identity ≡ true
  now-read = read-is later k.identity (record { one = one; there = subst (λ l. Contains l one) (sym read.is) (last a one); same = refl })

  now-staged : is_staged later k.identity ≡ (is_staged a k.identity || is_none read.piece)
  now-staged =
      ap (λ l. is_staged l k.identity) read.is ∙ staged-append a (one ∷ []) k.identity
      ∙ ap (λ t. is_staged a k.identity || ((t && is_none read.piece) || false)) itself
      ∙ ap (λ t. is_staged a k.identity || t) (or-false (is_none read.piece))

  fewer-at : is_staged a k.identity ≡ false → unread_at later k.identity < unread_at a k.identity
  fewer-at was =
      let whole : is_staged later k.identity ≡ is_none read.piece = now-staged ∙ ap (λ t. t || is_none read.piece) was in
      let now : unread_at later k.identity ≡ cond {A = ℕ} (is_none read.piece) 0 1 =
      ap (λ t. cond {A = ℕ} t 0 (cond (is_read later k.identity) 1 2)) whole ∙ ap (λ t. cond {A = ℕ} (is_none read.piece) 0 (cond t 1 2)) now-read in
      let before : unread_at a k.identity ≡ cond {A = ℕ} (is_read a k.identity) 1 2 = ap (λ t. cond {A = ℕ} t 0 (cond (is_read a k.identity) 1 2)) was in
      let more : (is_none read.piece ≡ true) ⊎ (is_read a k.identity ≡ false) =
      elim read.more [ inl w ↦ inl (ap is_none w) | inr none ↦ inr (not-read a k.identity none) ] in
      omega (arith, now, before, at-most-one (is_read a k.identity) (is_none read.piece) more)

-- a page that was staged whole is read no more
pub fewer-or-none : (kept : Kept) (staged later : List StagedPage) → HasRead kept staged later → (unread_at later kept.identity < unread_at staged kept.identity) ⊎ (unread_at later kept.identity ≡ 0)
fewer-or-none kept staged later read = go (is_staged staged kept.identity) refl
  where
    go : (was : Bool) → is_staged staged kept.identity ≡ was → (unread_at later kept.identity < unread_at staged kept.identity) ⊎ (unread_at later kept.identity ≡ 0)
    go true e =
        let whole : is_staged later kept.identity ≡ true = now-staged staged later kept read ∙ ap (λ t. t || is_none read.piece) e in
        inr (ap (λ t. cond {A = ℕ} t 0 (cond (is_read later kept.identity) 1 2)) whole)
    go false e = inl (fewer-at staged later kept read e)

pub left-at : (staged : List StagedPage) (identity : List ℕ) → (IsStaged staged identity → ⊥) → 0 < unread_at staged identity
left-at staged identity none =
    let some : unread_at staged identity ≡ cond {A = ℕ} (is_read staged identity) 1 2 = ap (λ t. cond {A = ℕ} t 0 (cond (is_read staged identity) 1 2)) (not-staged staged identity none) in
    omega (arith, some, one-or-two (is_read staged identity))
  where
    one-or-two : (part : Bool) → 0 < cond {A = ℕ} part 1 2
    one-or-two true = omega arith
    one-or-two false = omega arith

-- ---- how many are unread

no-more-of : (kept : List (Option Kept)) (a b : List StagedPage) → unread_of kept (a ++ b) ≤ unread_of kept a
no-more-of [] a b = omega arith
no-more-of (None ∷ kept) a b = no-more-of kept a b
no-more-of (Some k ∷ kept) a b = omega (arith, no-more-of kept a b, no-more-at a b k.identity)

fewer-of : (kept : List (Option Kept)) (i : ℕ) (k : Kept) (a b : List StagedPage) → slice_index_or kept i None ≡ Some k → unread_at (a ++ b) k.identity < unread_at a k.identity → unread_of kept (a ++ b) < unread_of kept a
fewer-of [] i k a b at less = absurd (cc at)
fewer-of (None ∷ kept) zero k a b at less = absurd (cc at)
fewer-of (Some x ∷ kept) zero k a b at less =
    let same : x ≡ k = some_is x k at in
    let now : unread_at (a ++ b) x.identity ≡ unread_at (a ++ b) k.identity = ap (λ (y : Kept). unread_at (a ++ b) y.identity) same in
    let before : unread_at a x.identity ≡ unread_at a k.identity = ap (λ (y : Kept). unread_at a y.identity) same in
    omega (arith, no-more-of kept a b, now, before, less)
fewer-of (None ∷ kept) (suc i) k a b at less = fewer-of kept i k a b at less
fewer-of (Some x ∷ kept) (suc i) k a b at less = omega (arith, fewer-of kept i k a b at less, no-more-at a b x.identity)

pub unread-no_more : (p : HybridLog) (staged more : List StagedPage) → unread p (staged ++ more) ≤ unread p staged
unread-no_more p staged more = no-more-of p.kept staged more

pub unread-fewer : (p : HybridLog) (staged later : List StagedPage) (number : ℕ) → (missing : IsMissing p staged number) → HasRead missing.kept staged later → unread p later < unread p staged
unread-fewer p staged later number missing read =
    let k = missing.kept in
    let more : List StagedPage = (record { kept = k; page = read.page; piece = read.piece }) ∷ [] in
    let less : unread_at (staged ++ more) k.identity < unread_at staged k.identity = subst (λ l. unread_at l k.identity < unread_at staged k.identity) read.is (fewer-at staged later k read (not-staged staged k.identity missing.unread)) in
    subst (λ l. unread p l < unread p staged) (sym read.is) (fewer-of p.kept (number - p.oldest) k staged more missing.has less)
