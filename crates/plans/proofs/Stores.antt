-- Stores and marks after writes.
use Rattle.std.proofs.Common.{◌≡◌, ◌≢◌, ◌∙◌, ◌||◌, Bool, true, false, List, [], ◌∷◌, ◌++◌, Option, Some, None, IsSome, cond, bytes_eq, sym, ap, refl, unwrap_or, Result, Ok, Err, OnOk, IfOk, IsOk}
use Rattle.std.specs.Bool.{Decides}
use Rattle.std.specs.Map.{update}
use Rattle.std.proofs.lemmas.Slice.Eq.{bytes_eq-Decides}
use Rattle.words.specs.Store.{Bytes, Store, Write, written}
use Rattle.words.specs.Watches.{touched}

pub apart : (a b : Bytes) → a ≢ b → bytes_eq a b ≡ false
apart a b differ =
    elim (bytes_eq a b) as (λ test. Decides test (a ≡ b) → test ≡ false) [
      | true ↦ λ decides. absurd (differ (decides.0 refl))
      | false ↦ λ decides. refl
    ] (bytes_eq-Decides a b)

pub same_key : (key : Bytes) → bytes_eq key key ≡ true
same_key key = elim (bytes_eq key key) as (λ test. Decides test (key ≡ key) → test ≡ true) [
  | true ↦ λ decides. refl
  | false ↦ λ decides. decides.1 refl
] (bytes_eq-Decides key key)

pub written-append : (writes more : List Write) (store : Store) → written store (writes ++ more) ≡ written (written store writes) more
written-append [] more store = refl
written-append (write ∷ writes) more store = written-append writes more (update bytes_eq store write.0 write.1)

-- writes leave two stores the same at a key at which they were
pub written_same : (writes : List Write) (one other : Store) (key : Bytes) → one key ≡ other key → written one writes key ≡ written other writes key
written_same [] one other key same = same
written_same (write ∷ writes) one other key same =
    written_same writes (update bytes_eq one write.0 write.1) (update bytes_eq other write.0 write.1) key
    (ap (λ value. cond (bytes_eq write.0 key) write.1 value) same)

pub touched_false : (mark : Option Bool) → touched false mark ≡ mark
touched_false None = refl
touched_false (Some mark) = refl

pub touch_two : (a b : Bool) (m : Option Bool) → touched b (touched a m) ≡ touched (a || b) m
touch_two a b None = refl
touch_two true true (Some m) = refl
touch_two true false (Some m) = refl
touch_two false b (Some m) = refl

pub or_false : (b : Bool) → (b || false) ≡ b
or_false true = refl
or_false false = refl

pub or_right : (a b : Bool) → b ≡ true → (a || b) ≡ true
or_right true b e = refl
or_right false b e = e

pub or_left : (a b : Bool) → a ≡ true → (a || b) ≡ true
or_left true b e = refl
or_left false b e = absurd (cc e)

pub append_nil : (ws : List Write) → ws ++ [] ≡ ws
append_nil [] = refl
append_nil (w ∷ ws) = ap (λ l. w ∷ l) (append_nil ws)

pub some_is : {A : Type 0} (a b : A) (o : Option A) → o ≡ Some a → o ≡ Some b → a ≡ b
some_is {A} a b o one two = ap (λ (x : Option A). unwrap_or x a) (sym one ∙ two)

pub some_of : {A : Type 0} (o : Option A) → IsSome o → (a : A) × (o ≡ Some a)
some_of (Some a) s = (a, refl)
some_of None s = absurd cc

pub ok_then : {A E P Q : Type 0} (r : Result A E) → (P → Q) → OnOk r P → OnOk r Q
ok_then (Ok x) f p = f p
ok_then (Err e) f p = tt

pub ok_both : {A E : Type 0} {P Q R : A → Type 0} (r : Result A E) → ((x : A) → P x → Q x → R x) → IfOk r P → IfOk r Q → IfOk r R
ok_both (Ok x) f p q = f x p q
ok_both (Err e) f p q = tt

pub on_ok : {A E : Type 0} {P : Type 0} (r : Result A E) → IsOk r → OnOk r P → P
on_ok (Ok x) ok p = p
on_ok (Err e) ok p = absurd (cc ok)

pub if_ok : {A E : Type 0} {P : Type 0} (r : Result A E) → P → OnOk r P
if_ok (Ok x) p = p
if_ok (Err e) p = tt

pub ok_then_all : {A E : Type 0} {P Q : A → Type 0} (r : Result A E) → ((x : A) → P x → Q x) → IfOk r P → IfOk r Q
ok_then_all (Ok x) f p = f x p
ok_then_all (Err e) f p = tt
