-- Facts of logs alone.
use Rattle.std.proofs.Common.{◌≡◌, ℕ, zero, suc, ◌<◌, ◌⊎◌, inl, inr, List, [], ◌∷◌, ◌++◌, length, Option, Some, None, refl, sym, ap, ◌∙◌, subst, arith}
use Rattle.std.specs.Option.{option_or}
use Rattle.std.specs.List.{Contains}
use Rattle.std.specs.Prelude.{slice_index_or}
use Rattle.std.specs.Str.{bytes_eq}
use Rattle.std.proofs.lemmas.Bool.{cases_Bool}
use Rattle.std.proofs.lemmas.Slice.Eq.{bytes_eq-Decides}
use Rattle.records.specs.Records.{Stored}
use Rattle.hybrid.specs.Log.{Log, newest, value_of, contents}

pub some_is : {A : Type 0} (x y : A) → Some x ≡ Some y → x ≡ y
some_is x y e = cc

cons_at : {X : Type 0} (x : X) (ys : List X) (y : X) (k : ℕ) → k < suc (length ys) → slice_index_or (x ∷ ys) k y ≡ y → (x ≡ y) ⊎ Contains ys y
cons_at x ys y zero lt e = inl e
cons_at x ys y (suc k) lt e = inr (k, omega arith, e)

pub cons_cases : {X : Type 0} (x : X) (ys : List X) (y : X) → Contains (x ∷ ys) y → (x ≡ y) ⊎ Contains ys y
cons_cases x ys y c = cons_at x ys y c.0 c.1 c.2

pub here : {X : Type 0} (x : X) (ys : List X) → Contains (x ∷ ys) x
here x ys = (0, omega arith, refl)

pub there : {X : Type 0} (x : X) (ys : List X) (y : X) → Contains ys y → Contains (x ∷ ys) y
there x ys y c = (suc c.0, omega (arith, c.1), c.2)

pub newest-append : (a b : Log) (q : List ℕ) → newest (a ++ b) q ≡ option_or (newest a q) (newest b q)
unfolding newest
newest-append [] b q = refl
newest-append (e ∷ a) b q = elim (cases_Bool (bytes_eq e.1.key q)) [ inl y ↦ rw y refl | inr n ↦ rw n (newest-append a b q) ]

pub newest-key : (log : Log) (q : List ℕ) (e : ℕ × Stored) → newest log q ≡ Some e → e.1.key ≡ q
unfolding newest
newest-key [] q e h = absurd cc
newest-key (d ∷ log) q e h =
    elim (cases_Bool (bytes_eq d.1.key q)) [
      | inl same ↦ let it : d ≡ e = some_is d e (rw same at h) in ap (λ (x : ℕ × Stored). x.1.key) (sym it) ∙ (bytes_eq-Decides d.1.key q).0 same
      | inr other ↦ let below : newest log q ≡ Some e = rw other at h in newest-key log q e below
    ]

pub newest-listed : (log : Log) (q : List ℕ) (e : ℕ × Stored) → newest log q ≡ Some e → Contains log e
unfolding newest
newest-listed [] q e h = absurd cc
newest-listed (d ∷ log) q e h =
    elim (cases_Bool (bytes_eq d.1.key q)) [
      | inl same ↦ let it : d ≡ e = some_is d e (rw same at h) in subst (λ (x : ℕ × Stored). Contains (d ∷ log) x) it (here d log)
      | inr other ↦ let below : newest log q ≡ Some e = rw other at h in there d log e (newest-listed log q e below)
    ]

-- the newest record of a key after one was put
pub newest-put : (log : Log) (a : ℕ) (r : Stored) (q : List ℕ) → ((r.key ≡ q) × (newest ((a, r) ∷ log) q ≡ Some (a, r))) ⊎ (newest ((a, r) ∷ log) q ≡ newest log q)
unfolding newest
newest-put log a r q =
    elim (cases_Bool (bytes_eq r.key q)) [
      | inl same ↦ inl ((bytes_eq-Decides r.key q).0 same, rw same refl)
      | inr other ↦ inr (rw other refl)
    ]

pub newest-put_same : (log : Log) (a : ℕ) (r : Stored) (q : List ℕ) → r.key ≡ q → newest ((a, r) ∷ log) q ≡ Some (a, r)
unfolding newest
newest-put_same log a r q e = rw ((bytes_eq-Decides r.key q).1 e) refl

pub contents-alike : (one other : Log) (q : List ℕ) → newest one q ≡ newest other q → contents one q ≡ contents other q
unfolding contents
contents-alike one other q e = ap value_of e

pub contents-newest : (log : Log) (q : List ℕ) (o : Option (ℕ × Stored)) → newest log q ≡ o → contents log q ≡ value_of o
unfolding contents
contents-newest log q o e = ap value_of e

-- the older records may go where none of them is the newest of its key and has a value
pub contents-without : (newer older : Log) (q : List ℕ) → ((e : ℕ × Stored) → Contains older e → newest (newer ++ older) e.1.key ≡ Some e → e.1.value ≡ None) → contents (newer ++ older) q ≡ contents newer q
contents-without newer older q dead = go (newest newer q) (newest older q) refl refl
  where
    both : (o p : Option (ℕ × Stored)) → newest newer q ≡ o → newest older q ≡ p → newest (newer ++ older) q ≡ option_or o p
    both o p d e = newest-append newer older q ∙ (λ i. option_or (d i) (e i))

    go : (o p : Option (ℕ × Stored)) → newest newer q ≡ o → newest older q ≡ p → contents (newer ++ older) q ≡ contents newer q
    go (Some x) p d e = contents-newest (newer ++ older) q (Some x) (both (Some x) p d e) ∙ sym (contents-newest newer q (Some x) d)
    go None None d e = contents-newest (newer ++ older) q None (both None None d e) ∙ sym (contents-newest newer q None d)
    go None (Some x) d e =
        let all : newest (newer ++ older) q ≡ Some x = both None (Some x) d e in
        let key : x.1.key ≡ q = newest-key older q x e in
        let none : x.1.value ≡ None = dead x (newest-listed older q x e) (subst (λ (k : List ℕ). newest (newer ++ older) k ≡ Some x) (sym key) all) in
        contents-newest (newer ++ older) q (Some x) all ∙ none ∙ sym (contents-newest newer q None d)
