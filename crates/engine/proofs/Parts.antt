-- Parts that are held: of which keys they are, and what they have together.
use Rattle.std.proofs.Common.{◌≡◌, ◌∙◌, ◌||◌, ℕ, nat_eq, if◌then◌else◌, Bool, true, false, List, [], ◌∷◌, ◌++◌, Option, Some, None, IsSome, cond, bytes_eq, refl, sym, ap, subst, eq-eqb}
use Rattle.words.specs.Commands.{keys_of_all}
use Rattle.words.specs.History.{Pair, is_among, keys_of_pairs}
use Rattle.words.specs.Store.{Bytes, Store}
use Rattle.words.specs.Stripes.{stripe_of}
use Rattle.words.specs.Watches.{touched, watched_at}
use Rattle.gates.specs.Rule.{Meaning}
use Rattle.transact.specs.declared.call.Call.{Call}
use Rattle.transact.specs.declared.call.Call.TheVariants.{One, Watch, Exec, Forget}
use Rattle.transact.specs.Calls.{call_keys}
use Rattle.transact.specs.Plans.{keys_ended}
use Rattle.transact.specs.Tables.{AllRead, AreThere, Became, begins, joined, stays, touches, value_in}

pub some_of : {A : Type 0} (o : Option A) → IsSome o → (a : A) × (o ≡ Some a)
some_of (Some a) s = (a, refl)
some_of None s = absurd cc

pub some_is : {A : Type 0} (a b : A) → Some a ≡ Some b → a ≡ b
some_is a b e = cc e

pub not_among : (pairs : List Pair) (key : Bytes) → is_among (keys_of_pairs pairs) key ≡ false → watched_at pairs key ≡ None
not_among [] key e = refl
not_among (pair ∷ pairs) key e = elim (bytes_eq pair.0 key) as (λ b. (b || is_among (keys_of_pairs pairs) key) ≡ false → cond b (Some pair.1) (watched_at pairs key) ≡ None) [
  | true ↦ λ x. absurd cc
  | false ↦ λ x. not_among pairs key x
] e

untouched : (mark : Option Bool) → touched false mark ≡ mark
untouched None = refl
untouched (Some mark) = refl

module _ {T : Type 0} (n : ℕ) where
  -- there is a part for the stripe of each key still
  pub there_after : (keys : List Bytes) (before later : ℕ → Option T) → ((i : ℕ) → IsSome (before i) → IsSome (later i)) → AreThere n before keys → AreThere n later keys
  there_after [] before later all there = tt
  there_after (key ∷ keys) before later all there = (all (stripe_of n key) there.0, there_after keys before later all there.1)

  there_last : (parts : ℕ → Option T) (first last : List Bytes) → AreThere n parts (first ++ last) → AreThere n parts last
  there_last parts [] last there = there
  there_last parts (key ∷ first) last there = there_last parts first last there.1

  -- there is one for each key whose watch a call ends
  pub ended_there : (parts : ℕ → Option T) (call : Call) → AreThere n parts (call_keys call) → AreThere n parts (keys_ended call)
  ended_there parts (One command) there = tt
  ended_there parts (Watch keys) there = tt
  ended_there parts (Exec commands watching) there = there_last parts (keys_of_all commands) watching there
  ended_there parts (Forget watching) there = there

  -- parts that are as they were have become so by no write
  pub unwritten : (contents : Meaning T) (parts : ℕ → Option T) → Became contents n [] (touches []) parts parts
  unwritten contents parts = record {
    there = λ i some. some;
    was = λ i part is. (
      part,
      is,
      record {
        here = λ key here. refl;
        away = λ key ne. refl;
        marks = λ key number here. sym (untouched (contents.marks part key number));
        aside = λ key number ne. refl;
      },
    );
  }

  pub unwritten_same : (contents : Meaning T) (before later : ℕ → Option T) → later ≡ before → Became contents n [] (touches []) before later
  unwritten_same contents before later same = subst (Became contents n [] (touches []) before) (sym same) (unwritten contents before)

  -- parts that are the same have the same meaning
  pub became_same : (contents : Meaning T) (before later : ℕ → Option T) → later ≡ before → Became contents n [] stays before later
  became_same contents before later same = record {
    there = λ i some. subst (λ (p : ℕ → Option T). IsSome (p i)) (sym same) some;
    was = λ i part is. (
      part,
      ap (λ (p : ℕ → Option T). p i) (sym same) ∙ is,
      record { here = λ key here. refl; away = λ key ne. refl; marks = λ key number here. refl; aside = λ key number ne. refl },
    );
  }

  -- nor does a watch of no key change one
  pub became_none : (contents : Meaning T) (own : ℕ) (before later : ℕ → Option T) → later ≡ before → Became contents n [] (begins own []) before later
  became_none contents own before later same = record {
    there = λ i some. subst (λ (p : ℕ → Option T). IsSome (p i)) (sym same) some;
    was = λ i part is. (
      part,
      ap (λ (p : ℕ → Option T). p i) (sym same) ∙ is,
      record {
        here = λ key here. refl;
        away = λ key ne. refl;
        marks = λ key number here. sym (elim (nat_eq own number) as (λ b. (if b then contents.marks part key number else contents.marks part key number) ≡ contents.marks part key number) [ true ↦ refl | false ↦ refl ]);
        aside = λ key number ne. refl;
      },
    );
  }

  -- parts have together what the store has of which they are parts
  pub joined_at : (contents : Meaning T) (parts : ℕ → Option T) (whole : Store) (key : Bytes) → AllRead contents n parts whole → IsSome (parts (stripe_of n key))
      → joined contents n parts key ≡ whole key
  joined_at contents parts whole key reads some =
      let part = some_of (parts (stripe_of n key)) some in
      ap (value_in contents key) part.1
      ∙ reads (stripe_of n key) part.0 part.1 key
      ∙ ap (λ b. cond b (whole key) None) (eq-eqb (stripe_of n key) (stripe_of n key) refl)
