-- What becomes of parts, by one change of one part, and by several.
use Rattle.std.proofs.Common.{◌≡◌, ◌≢◌, ◌∙◌, ◌||◌, ℕ, Bool, true, false, List, [], ◌∷◌, ◌++◌, Option, Some, None, IsSome, cond, bytes_eq, sym, ap, subst, refl, eq-eqb, ne_eqb, ⊎_elim, ◌⊎◌, inl, inr}
use Rattle.std.specs.Bool.{Decides}
use Rattle.std.specs.Map.{update}
use Rattle.std.proofs.lemmas.Slice.Eq.{bytes_eq-Decides}
use Rattle.std.proofs.lemmas.Bool.{cases_eq}
use Rattle.words.specs.Store.{Bytes, Store, Write, written, writes_key}
use Rattle.words.specs.Watches.{touched}
use Rattle.words.specs.Stripes.{stripe_of}
use Rattle.gates.specs.Rule.{Meaning}
use Rattle.transact.specs.Tables.{Change, touches, stays, AreThere, AllRead, PartBecame, Became, joined, value_in}
use Rattle.plans.proofs.Stores.{apart, written_same, written-append, some_is, or_false, touch_two, touched_false}

module _ {T : Type 0} (contents : Meaning T) (n : ℕ) where
  -- one part changed
  pub became_one : (i : ℕ) (writes : List Write) (change : Change) (before later : ℕ → Option T) (old new : T)
      → before i ≡ Some old → later i ≡ Some new → ((j : ℕ) → j ≢ i → later j ≡ before j)
      → PartBecame contents n i writes change old new
      → ((key : Bytes) (store : Store) → stripe_of n key ≢ i → written store writes key ≡ store key)
      → ((key : Bytes) (number : ℕ) (m : Option Bool) → stripe_of n key ≢ i → change key number m ≡ m)
      → Became contents n writes change before later
  became_one i writes change before later old new was is others part leaves leaves_marks = record {
    there = λ j some. ⊎_elim (λ same. subst (λ (k : ℕ). IsSome (later k)) (sym same) (subst IsSome (sym is) refl)) (λ ne. subst IsSome (sym (others j ne)) some) (cases_eq j i);
    was = λ j q e. ⊎_elim
        (λ same.
        let q_is : new ≡ q = some_is new q (later i) is (ap later (sym same) ∙ e) in
        (old, ap before same ∙ was, subst (λ (k : ℕ). PartBecame contents n k writes change old q) (sym same) (subst (PartBecame contents n i writes change old) q_is part)))
        (λ ne. (
          q,
          sym (others j ne) ∙ e,
          record {
            here = λ key at. sym (leaves key (contents.store q) (λ x. ne (sym at ∙ x)));
            away = λ key at. refl;
            marks = λ key number at. sym (leaves_marks key number (contents.marks q key number) (λ x. ne (sym at ∙ x)));
            aside = λ key number other. refl;
          },
        ))
        (cases_eq j i);
  }

  -- nothing changed, by a change that leaves marks
  pub became_none : (change : Change) (before later : ℕ → Option T) → ((key : Bytes) (number : ℕ) (m : Option Bool) → change key number m ≡ m)
      → ((j : ℕ) → later j ≡ before j) → Became contents n [] change before later
  became_none change before later leaves same = record {
    there = λ j some. subst IsSome (sym (same j)) some;
    was = λ j q e. (q, sym (same j) ∙ e, record { here = λ key at. refl; away = λ key at. refl; marks = λ key number at. sym (leaves key number (contents.marks q key number)); aside = λ key number at. refl });
  }

  -- nothing changed
  pub became_same : (before later : ℕ → Option T) → later ≡ before → Became contents n [] stays before later
  became_same before later same = became_none stays before later (λ key number m. refl) (λ j. ap (λ (p : ℕ → Option T). p j) same)

  -- one after the other
  pub became_both : (ws vs : List Write) (f g h : Change) (a b c : ℕ → Option T) → ((key : Bytes) (number : ℕ) (m : Option Bool) → g key number (f key number m) ≡ h key number m)
      → Became contents n ws f a b → Became contents n vs g b c → Became contents n (ws ++ vs) h a c
  became_both ws vs f g h a b c marks one two = record {
    there = λ j some. two.there j (one.there j some);
    was = λ j q e.
        let second = two.was j q e in
        let first = one.was j second.0 second.1 in (
          first.0,
          first.1,
          record {
            here = λ key at. second.2.here key at ∙ written_same vs (contents.store second.0) (written (contents.store first.0) ws) key (first.2.here key at)
                ∙ sym (ap (λ s. s key) (written-append ws vs (contents.store first.0)));
            away = λ key at. second.2.away key at ∙ first.2.away key at;
            marks = λ key number at. second.2.marks key number at ∙ ap (g key number) (first.2.marks key number at) ∙ marks key number (contents.marks first.0 key number);
            aside = λ key number at. second.2.aside key number at ∙ first.2.aside key number at;
          },
        );
  }

  -- nothing changed meaning, twice
  pub became_twice : (a b c : ℕ → Option T) → Became contents n [] stays a b → Became contents n [] stays b c → Became contents n [] stays a c
  became_twice a b c = became_both [] [] stays stays stays a b c (λ key number m. refl)

  pub became_touches : (w : Write) (ws : List Write) (a b c : ℕ → Option T)
      → Became contents n (w ∷ []) (touches (w ∷ [])) a b → Became contents n ws (touches ws) b c → Became contents n (w ∷ ws) (touches (w ∷ ws)) a c
  became_touches w ws a b c = became_both (w ∷ []) ws (touches (w ∷ [])) (touches ws) (touches (w ∷ ws)) a b c
      (λ key number m. touch_two (bytes_eq w.0 key || false) (writes_key ws key) m ∙ ap (λ x. touched (x || writes_key ws key) m) (or_false (bytes_eq w.0 key)))

  -- no writes were made
  pub became_unwritten : (a b : ℕ → Option T) → ((j : ℕ) → b j ≡ a j) → Became contents n [] (touches []) a b
  became_unwritten a b = became_none (touches []) a b (λ key number m. touched_false m)

  -- parts that read as their parts of a store do so after writes
  pub became_read : (ws : List Write) (f : Change) (a b : ℕ → Option T) (whole : Store) → Became contents n ws f a b → AllRead contents n a whole → AllRead contents n b (written whole ws)
  became_read ws f a b whole became reads i q e key =
      let was = became.was i q e in
      let before = reads i was.0 was.1 key in
      ⊎_elim
      (λ at. was.2.here key at
      ∙ written_same ws (contents.store was.0) whole key (before ∙ ap (λ t. cond t (whole key) None) (eq-eqb (stripe_of n key) i at))
      ∙ sym (ap (λ t. cond t (written whole ws key) None) (eq-eqb (stripe_of n key) i at)))
      (λ ne. was.2.away key ne ∙ before ∙ ap (λ t. cond t (whole key) None) (ne_eqb (stripe_of n key) i ne)
      ∙ sym (ap (λ t. cond t (written whole ws key) None) (ne_eqb (stripe_of n key) i ne)))
      (cases_eq (stripe_of n key) i)

  pub there_after : (keys : List Bytes) (a b : ℕ → Option T) → ((i : ℕ) → IsSome (a i) → IsSome (b i)) → AreThere n a keys → AreThere n b keys
  there_after [] a b all there = tt
  there_after (key ∷ keys) a b all there = (all (stripe_of n key) there.0, there_after keys a b all there.1)

-- a write leaves the keys of other stripes
pub write_leaves : (n i : ℕ) (w : Write) → stripe_of n w.0 ≡ i → (key : Bytes) (store : Store) → stripe_of n key ≢ i → written store (w ∷ []) key ≡ store key
write_leaves n i w at key store ne = ap (λ t. cond t w.1 (store key)) (apart w.0 key (λ e. ne (ap (stripe_of n) (sym e) ∙ at)))

pub touch_leaves : (n i : ℕ) (w : Write) → stripe_of n w.0 ≡ i → (key : Bytes) (number : ℕ) (m : Option Bool) → stripe_of n key ≢ i → touches (w ∷ []) key number m ≡ m
touch_leaves n i w at key number m ne = ap (λ t. touched (t || false) m) (apart w.0 key (λ e. ne (ap (stripe_of n) (sym e) ∙ at))) ∙ touched_false m

-- one key was written
pub wrote_one : {T : Type 0} (contents : Meaning T) (n i : ℕ) (w : Write) (before later : ℕ → Option T) (old new : T)
    → before i ≡ Some old → later i ≡ Some new → ((j : ℕ) → j ≢ i → later j ≡ before j) → stripe_of n w.0 ≡ i
    → ((k : Bytes) → contents.store new k ≡ update bytes_eq (contents.store old) w.0 w.1 k)
    → ((k : Bytes) (number : ℕ) → contents.marks new k number ≡ touched (bytes_eq w.0 k) (contents.marks old k number))
    → Became contents n (w ∷ []) (touches (w ∷ [])) before later
wrote_one contents n i w before later old new was is others at value marks =
    became_one contents n i (w ∷ []) (touches (w ∷ [])) before later old new was is others
    record {
      here = λ key here. value key;
      away = λ key ne. value key ∙ write_leaves n i w at key (contents.store old) ne;
      marks = λ key number here. marks key number ∙ sym (ap (λ b. touched b (contents.marks old key number)) (or_false (bytes_eq w.0 key)));
      aside = λ key number ne. marks key number ∙ sym (ap (λ b. touched b (contents.marks old key number)) (or_false (bytes_eq w.0 key)))
          ∙ touch_leaves n i w at key number (contents.marks old key number) ne;
    }
    (write_leaves n i w at) (touch_leaves n i w at)

-- one key has another value, and marks stay
pub exchanged_one : {T : Type 0} (contents : Meaning T) (n i : ℕ) (w : Write) (before later : ℕ → Option T) (old new : T)
    → before i ≡ Some old → later i ≡ Some new → ((j : ℕ) → j ≢ i → later j ≡ before j) → stripe_of n w.0 ≡ i
    → ((k : Bytes) → contents.store new k ≡ update bytes_eq (contents.store old) w.0 w.1 k)
    → ((k : Bytes) (number : ℕ) → contents.marks new k number ≡ contents.marks old k number)
    → Became contents n (w ∷ []) stays before later
exchanged_one contents n i w before later old new was is others at value marks =
    became_one contents n i (w ∷ []) stays before later old new was is others
    record {
      here = λ key here. value key;
      away = λ key ne. value key ∙ write_leaves n i w at key (contents.store old) ne;
      marks = λ key number here. marks key number;
      aside = λ key number ne. marks key number;
    }
    (write_leaves n i w at) (λ key number m ne. refl)

-- one key was touched, and values stay
pub touched_one : {T : Type 0} (contents : Meaning T) (n i : ℕ) (w : Write) (before later : ℕ → Option T) (old new : T)
    → before i ≡ Some old → later i ≡ Some new → ((j : ℕ) → j ≢ i → later j ≡ before j) → stripe_of n w.0 ≡ i
    → ((k : Bytes) → contents.store new k ≡ contents.store old k)
    → ((k : Bytes) (number : ℕ) → contents.marks new k number ≡ touched (bytes_eq w.0 k) (contents.marks old k number))
    → Became contents n [] (touches (w ∷ [])) before later
touched_one contents n i w before later old new was is others at value marks =
    became_one contents n i [] (touches (w ∷ [])) before later old new was is others
    record {
      here = λ key here. value key;
      away = λ key ne. value key;
      marks = λ key number here. marks key number ∙ sym (ap (λ b. touched b (contents.marks old key number)) (or_false (bytes_eq w.0 key)));
      aside = λ key number ne. marks key number ∙ sym (ap (λ b. touched b (contents.marks old key number)) (or_false (bytes_eq w.0 key)))
          ∙ touch_leaves n i w at key number (contents.marks old key number) ne;
    }
    (λ key store ne. refl) (touch_leaves n i w at)

same_or_not : (key k : Bytes) → (key ≡ k) ⊎ (key ≢ k)
same_or_not key k =
    elim (bytes_eq key k) as (λ test. Decides test (key ≡ k) → (key ≡ k) ⊎ (key ≢ k)) [
      | true ↦ λ decides. inl (decides.0 refl)
      | false ↦ λ decides. inr (λ same. absurd (cc (decides.1 same)))
    ] (bytes_eq-Decides key k)

given_back : (key k : Bytes) (store : Store) (value : Option Bytes) → written store ((key, value) ∷ (key, store key) ∷ []) k ≡ store k
given_back key k store value =
    elim (bytes_eq key k) as (λ test. Decides test (key ≡ k) → cond test (store key) (cond test value (store k)) ≡ store k) [
      | true ↦ λ decides. ap store (decides.0 refl)
      | false ↦ λ decides. refl
    ] (bytes_eq-Decides key k)

-- a key that was given a value got back what it had
pub became_back : {T : Type 0} (contents : Meaning T) (n : ℕ) (key : Bytes) (value had : Option Bytes) (a b c : ℕ → Option T)
    → had ≡ joined contents n a key → Became contents n ((key, value) ∷ []) stays a b → Became contents n ((key, had) ∷ []) stays b c
    → Became contents n [] stays a c
became_back contents n key value had a b c is one two =
    let both = became_both contents n ((key, value) ∷ []) ((key, had) ∷ []) stays stays stays a b c (λ k number m. refl) one two in
    record {
      there = both.there;
      was = λ i q e.
          let was = both.was i q e in
          let at_key : stripe_of n key ≡ i → had ≡ contents.store was.0 key = λ here. is ∙ ap (value_in contents key) (ap a here ∙ was.1) in (
            was.0,
            was.1,
            record {
              here = λ k here. ⊎_elim
                  (λ same. was.2.here k here ∙ ap (λ (o : Option Bytes). written (contents.store was.0) ((key, value) ∷ (key, o) ∷ []) k) (at_key (ap (stripe_of n) same ∙ here)) ∙ given_back key k (contents.store was.0) value)
                  (λ ne. was.2.here k here ∙ ap (λ t. cond t had (cond t value (contents.store was.0 k))) (apart key k ne))
                  (same_or_not key k);
              away = was.2.away;
              marks = was.2.marks;
              aside = was.2.aside;
            },
          );
    }

-- one part has other bytes, and the same meaning
pub same_one : {T : Type 0} (contents : Meaning T) (n i : ℕ) (before later : ℕ → Option T) (old new : T)
    → before i ≡ Some old → later i ≡ Some new → ((j : ℕ) → j ≢ i → later j ≡ before j)
    → ((k : Bytes) → contents.store new k ≡ contents.store old k)
    → ((k : Bytes) (number : ℕ) → contents.marks new k number ≡ contents.marks old k number)
    → Became contents n [] stays before later
same_one contents n i before later old new was is others value marks =
    became_one contents n i [] stays before later old new was is others
    record { here = λ key here. value key; away = λ key ne. value key; marks = λ key number here. marks key number; aside = λ key number ne. marks key number }
    (λ key store ne. refl) (λ key number m ne. refl)
