-- Watches that begin, end, and are taken back.
use Rattle.std.proofs.Common.{◌≡◌, ◌∙◌, ◌||◌, ℕ, Bool, true, false, List, [], ◌∷◌, ◌++◌, Option, Some, None, IsSome, refl, sym, ap, subst, cond, nat_eq, bytes_eq, eq-eqb}
use Rattle.std.proofs.lemmas.Bool.{eqb-true}
use Rattle.std.specs.Prelude.{is_none}
use Rattle.std.specs.Bool.{Decides}
use Rattle.std.proofs.lemmas.Slice.Eq.{bytes_eq-Decides}
use Rattle.words.specs.Store.{Bytes, Write}
use Rattle.words.specs.History.{is_among}
use Rattle.words.specs.Watches.{Marks, begun}
use Rattle.words.specs.Stripes.{stripe_of}
use Rattle.gates.specs.Rule.{Meaning}
use Rattle.transact.specs.Tables.{stays, touches, begins, clears, touches_and_clears, AreThere, AreUnmarked, Became, HasBegun, joined_marks, mark_in}
use Rattle.plans.proofs.Stores.{append_nil, some_of}
use Rattle.plans.proofs.Become.{became_both, became_none, became_same}

pub away : (b : Bool) (m : Option Bool) → cond b m m ≡ m
away true m = refl
away false m = refl

pub clear_two : (a b o : Bool) (m : Option Bool) → cond o (cond b None (cond o (cond (a || false) None m) m)) (cond o (cond (a || false) None m) m) ≡ cond o (cond (a || b) None m) m
clear_two true true true m = refl
clear_two true false true m = refl
clear_two false true true m = refl
clear_two false false true m = refl
clear_two a b false m = refl

begun_two : (m : Option Bool) → begun (begun m) ≡ begun m
begun_two None = refl
begun_two (Some m) = refl

begin_two : (a b o : Bool) (m : Option Bool) → cond o (cond b (begun (cond o (cond (a || false) (begun m) m) m)) (cond o (cond (a || false) (begun m) m) m)) (cond o (cond (a || false) (begun m) m) m) ≡ cond o (cond (a || b) (begun m) m) m
begin_two true true true m = begun_two m
begin_two true false true m = refl
begin_two false true true m = refl
begin_two false false true m = refl
begin_two a b false m = refl

begin_last : (a b o : Bool) (m : Option Bool) → cond o (cond (b || false) (begun (cond o (cond a (begun m) m) m)) (cond o (cond a (begun m) m) m)) (cond o (cond a (begun m) m) m) ≡ cond o (cond (a || (b || false)) (begun m) m) m
begin_last true true true m = begun_two m
begin_last true false true m = refl
begin_last false true true m = refl
begin_last false false true m = refl
begin_last a b false m = refl

or_more : (a b c : Bool) → ((a || b) || c) ≡ (a || (b || c))
or_more true b c = refl
or_more false b c = refl

among_append : (keys : List Bytes) (key k : Bytes) → is_among (keys ++ key ∷ []) k ≡ (is_among keys k || (bytes_eq key k || false))
among_append [] key k = refl
among_append (first ∷ keys) key k = ap (λ b. bytes_eq first k || b) (among_append keys key k) ∙ sym (or_more (bytes_eq first k) (is_among keys k) (bytes_eq key k || false))

unmarked_at : (marks : Marks) (own : ℕ) (keys : List Bytes) (key : Bytes) → AreUnmarked marks own keys → is_among keys key ≡ true → marks key own ≡ None
unmarked_at marks own [] key none among = absurd (cc among)
unmarked_at marks own (first ∷ keys) key none among =
    elim (bytes_eq first key) as (λ test. Decides test (first ≡ key) → (test || is_among keys key) ≡ true → marks key own ≡ None) [
      | true ↦ λ decides e. subst (λ (k : Bytes). marks k own ≡ None) (decides.0 refl) none.0
      | false ↦ λ decides e. unmarked_at marks own keys key none.1 e
    ] (bytes_eq-Decides first key) among

unmarked_more : (marks : Marks) (own : ℕ) (keys : List Bytes) (key : Bytes) → AreUnmarked marks own keys → marks key own ≡ None → AreUnmarked marks own (keys ++ key ∷ [])
unmarked_more marks own [] key none last = (last, tt)
unmarked_more marks own (first ∷ keys) key none last = (none.0, unmarked_more marks own keys key none.1 last)

none_before : (b : Bool) (m : Option Bool) → cond b (begun m) m ≡ None → m ≡ None
none_before true None e = refl
none_before true (Some m) e = absurd (cc e)
none_before false m e = e

marked_stays : (m : Option Bool) → is_none m ≡ false → begun m ≡ m
marked_stays None e = absurd (cc e)
marked_stays (Some m) e = refl

none_of : (m : Option Bool) → is_none m ≡ true → m ≡ None
none_of None e = refl
none_of (Some m) e = absurd (cc e)

module _ {T : Type 0} (contents : Meaning T) (n own : ℕ) where
  pub cleared_more : (key : Bytes) (keys : List Bytes) (a b c : ℕ → Option T) → Became contents n [] (clears own (key ∷ [])) a b → Became contents n [] (clears own keys) b c
      → Became contents n [] (clears own (key ∷ keys)) a c
  cleared_more key keys a b c = became_both contents n [] [] (clears own (key ∷ [])) (clears own keys) (clears own (key ∷ keys)) a b c
      (λ k number m. clear_two (bytes_eq key k) (is_among keys k) (nat_eq own number) m)

  pub cleared_none : (a b : ℕ → Option T) → ((j : ℕ) → b j ≡ a j) → Became contents n [] (clears own []) a b
  cleared_none a b = became_none contents n (clears own []) a b (λ key number m. away (nat_eq own number) m)

  pub begun_more : (key : Bytes) (keys : List Bytes) (a b c : ℕ → Option T) → Became contents n [] (begins own (key ∷ [])) a b → Became contents n [] (begins own keys) b c
      → Became contents n [] (begins own (key ∷ keys)) a c
  begun_more key keys a b c = became_both contents n [] [] (begins own (key ∷ [])) (begins own keys) (begins own (key ∷ keys)) a b c
      (λ k number m. begin_two (bytes_eq key k) (is_among keys k) (nat_eq own number) m)

  -- no watch begins
  pub begins_none : (a b : ℕ → Option T) → Became contents n [] stays a b → Became contents n [] (begins own []) a b
  begins_none a b became = became_both contents n [] [] stays stays (begins own []) a b b (λ key number m. sym (away (nat_eq own number) m)) became (became_same contents n b b refl)

  pub has_begun_none : (a b : ℕ → Option T) → Became contents n [] stays a b → HasBegun contents n own [] a b
  has_begun_none a b became = record { became = begins_none a b became; there = tt; unwatched = tt }

  pub has_begun_of : (keys : List Bytes) (a b : ℕ → Option T) → keys ≡ [] → Became contents n [] stays a b → HasBegun contents n own keys a b
  has_begun_of keys a b none became = subst (λ (l : List Bytes). HasBegun contents n own l a b) (sym none) (has_begun_none a b became)

  pub touched_cleared : (ws : List Write) (keys : List Bytes) (a b c : ℕ → Option T) → Became contents n ws (touches ws) a b → Became contents n [] (clears own keys) b c
      → Became contents n ws (touches_and_clears ws own keys) a c
  touched_cleared ws keys a b c one two = subst (λ (l : List Write). Became contents n l (touches_and_clears ws own keys) a c) (append_nil ws)
      (became_both contents n ws [] (touches ws) (clears own keys) (touches_and_clears ws own keys) a b c (λ k number m. refl) one two)

  -- nothing is ended
  pub touched_only : (ws : List Write) (a b : ℕ → Option T) → Became contents n ws (touches ws) a b → Became contents n ws (touches_and_clears ws own []) a b
  touched_only ws a b one = touched_cleared ws [] a b b one (cleared_none b b (λ j. refl))

  -- what was begun stays so where nothing changes meaning
  pub still_begun : (keys : List Bytes) (a b c : ℕ → Option T) → HasBegun contents n own keys a b → Became contents n [] stays b c → HasBegun contents n own keys a c
  still_begun keys a b c has became = record {
    became = became_both contents n [] [] (begins own keys) stays (begins own keys) a b c (λ k number m. refl) has.became became;
    there = has.there;
    unwatched = has.unwatched;
  }

  -- the mark of a key that is there
  mark_there : (a : ℕ → Option T) (key : Bytes) (number : ℕ) (part : T) → a (stripe_of n key) ≡ Some part → joined_marks contents n a key number ≡ contents.marks part key number
  mark_there a key number part is = ap (mark_in contents key number) is

  -- a key is begun that was watched already
  pub begun_again : (key : Bytes) (a b : ℕ → Option T) → is_none (joined_marks contents n a key own) ≡ false → Became contents n [] (begins own (key ∷ [])) a b → Became contents n [] stays a b
  begun_again key a b some became = record {
    there = became.there;
    was = λ i q e.
        let was = became.was i q e in (
          was.0,
          was.1,
          record {
            here = was.2.here;
            away = was.2.away;
            aside = was.2.aside;
            marks = λ k number at. was.2.marks k number at
                ∙ elim (nat_eq own number) as (λ o. nat_eq own number ≡ o → cond o (cond (bytes_eq key k || false) (begun (contents.marks was.0 k number)) (contents.marks was.0 k number)) (contents.marks was.0 k number) ≡ contents.marks was.0 k number) [
                  | true ↦ λ same. elim (bytes_eq key k) as (λ test. Decides test (key ≡ k) → cond (test || false) (begun (contents.marks was.0 k number)) (contents.marks was.0 k number) ≡ contents.marks was.0 k number) [
                    | true ↦ λ decides. marked_stays (contents.marks was.0 k number)
                        (subst (λ (m : Option Bool). is_none m ≡ false) (mark_there a k number was.0 (ap a at ∙ was.1))
                        (subst (λ (s : ℕ). is_none (joined_marks contents n a k s) ≡ false) (eqb-true own number same)
                        (subst (λ (x : Bytes). is_none (joined_marks contents n a x own) ≡ false) (decides.0 refl) some)))
                    | false ↦ λ decides. refl
                  ] (bytes_eq-Decides key k)
                  | false ↦ λ other. refl
                ] refl;
          },
        );
  }

  -- one key more is begun, which was not watched
  pub begun_last : (keys : List Bytes) (key : Bytes) (a b c : ℕ → Option T) → HasBegun contents n own keys a b → AreThere n b (key ∷ []) → is_none (joined_marks contents n b key own) ≡ true
      → Became contents n [] (begins own (key ∷ [])) b c → HasBegun contents n own (keys ++ key ∷ []) a c
  begun_last keys key a b c has there none became =
      let part = some_of (b (stripe_of n key)) there.0 in
      let was = has.became.was (stripe_of n key) part.0 part.1 in
      let now : contents.marks part.0 key own ≡ None = sym (mark_there b key own part.0 part.1) ∙ none_of (joined_marks contents n b key own) none in
      let changed : begins own keys key own (contents.marks was.0 key own) ≡ None = sym (was.2.marks key own refl) ∙ now in
      let before : contents.marks was.0 key own ≡ None =
      none_before (is_among keys key) (contents.marks was.0 key own)
      (ap (λ o. cond o (cond (is_among keys key) (begun (contents.marks was.0 key own)) (contents.marks was.0 key own)) (contents.marks was.0 key own)) (sym (eq-eqb own own refl)) ∙ changed) in
      record {
        became = became_both contents n [] [] (begins own keys) (begins own (key ∷ [])) (begins own (keys ++ key ∷ [])) a b c
            (λ k number m. begin_last (is_among keys k) (bytes_eq key k) (nat_eq own number) m
            ∙ ap (λ t. cond (nat_eq own number) (cond t (begun m) m) m) (sym (among_append keys key k)))
            has.became became;
        there = Rattle.plans.proofs.Keys.there_both contents n a keys (key ∷ []) has.there (subst IsSome (sym was.1) refl, tt);
        unwatched = unmarked_more (joined_marks contents n a) own keys key has.unwatched (mark_there a key own was.0 was.1 ∙ before);
      }

  -- what was begun is taken back
  pub taken_back : (keys : List Bytes) (a b c : ℕ → Option T) → HasBegun contents n own keys a b → Became contents n [] (clears own keys) b c → Became contents n [] stays a c
  taken_back keys a b c has became = record {
    there = λ j some. became.there j (has.became.there j some);
    was = λ i q e.
        let second = became.was i q e in
        let first = has.became.was i second.0 second.1 in (
          first.0,
          first.1,
          record {
            here = λ key at. second.2.here key at ∙ first.2.here key at;
            away = λ key at. second.2.away key at ∙ first.2.away key at;
            aside = λ key number at. second.2.aside key number at ∙ first.2.aside key number at;
            marks = λ key number at.
                let m : Option Bool = contents.marks first.0 key number in
                second.2.marks key number at ∙ ap (clears own keys key number) (first.2.marks key number at)
                ∙ elim (nat_eq own number) as (λ o. nat_eq own number ≡ o → cond o (cond (is_among keys key) None (cond o (cond (is_among keys key) (begun m) m) m)) (cond o (cond (is_among keys key) (begun m) m) m) ≡ m) [
                  | true ↦ λ same. elim (is_among keys key) as (λ x. is_among keys key ≡ x → cond x None (cond x (begun m) m) ≡ m) [
                    | true ↦ λ among. sym (subst (λ (s : ℕ). contents.marks first.0 key s ≡ None) (eqb-true own number same)
                        (sym (mark_there a key own first.0 (ap a at ∙ first.1)) ∙ unmarked_at (joined_marks contents n a) own keys key has.unwatched among))
                    | false ↦ λ among. refl
                  ] refl
                  | false ↦ λ other. refl
                ] refl;
          },
        );
  }
