-- Parts with no key fit as long as the pass knows the same of the keys of their stripes.
use Rattle.std.proofs.Common.{◌≡◌, ◌≢◌, ◌≤◌, ℕ, suc, ◌+◌, List, [], Some, None, IsSome, Result, Ok, Err, cond, nat_eq, length, length-append, sym, refl, ap, subst, ◌∙◌, arith, ne_eqb, ⊎_elim}
use Rattle.std.proofs.lemmas.Bool.{cases_eq}
use Rattle.std.specs.Borrow.{Bor, MutBor}
use Rattle.words.specs.declared.history.Operation.TheVariants.{Watch}
use Rattle.words.specs.declared.reply.Line.TheVariants.{Done}
use Rattle.words.specs.Store.{Bytes}
use Rattle.words.specs.History.{History, after}
use Rattle.words.specs.Session.{line_reply}
use Rattle.words.specs.Stripes.{stripe_of}
use Rattle.words.specs.Watches.{mark_at}
use Rattle.gates.specs.declared.gates.CommitsWornOut.{CommitsWornOut}
use Rattle.gates.specs.declared.gates.Gates.{Gates}
use Rattle.gates.specs.declared.gates.Pass.{Pass}
use Rattle.gates.specs.declared.held.Held.{Held}
use Rattle.gates.specs.declared.view.Knowledge.{Knowledge}
use Rattle.gates.specs.Sets.{part_at}
use Rattle.gates.specs.Passes.{AllFit, stripes_of}
use Rattle.gates.specs.Helds.{HasCommitted, HasTaken, SameHold, gates_of, held_parts, held_taken, known_to}
use Rattle.store_tests.specs.Nothing.{nothing}

-- what a pass knows later agrees with what it knew, at the keys of the stripes of these parts
pub record Agrees {T : Type 0} (stripes : ℕ) (parts : List (ℕ × T)) (before later : Knowledge) : Type 0 where
  pub store : (key : Bytes) → IsSome (part_at parts (stripe_of stripes key)) → after later.seen key ≡ after before.seen key
  pub marks : (key : Bytes) → IsSome (part_at parts (stripe_of stripes key)) → mark_at later.seen later.watched key ≡ mark_at before.seen before.watched key
  pub longer : length before.seen ≤ length later.seen

module _ {T : Type 0} where
  -- parts fit still, and so do others of the same stripes
  fits_still : (n : ℕ) (took : List (ℕ × (ℕ × T))) (parts others : List (ℕ × T)) (before later : Knowledge) → Agrees n parts before later
      → ((j : ℕ) (part : T) → part_at others j ≡ Some part → (old : T) × (part_at parts j ≡ Some old))
      → AllFit nothing n before took parts → AllFit nothing n later took others
  fits_still n took parts others before later agrees had fit t j part e =
      let old = had j part e in
      let f = fit t j old.0 old.1 in
      let there : (key : Bytes) → stripe_of n key ≡ j → IsSome (part_at parts (stripe_of n key)) = (λ key here. subst (λ (k : ℕ). IsSome (part_at parts k)) (sym here) (subst IsSome (sym old.1) refl)) in
      let longer = agrees.longer in
      record {
        reads = λ key. ⊎_elim
            (λ here. f.reads key ∙ ap (λ o. cond (nat_eq (stripe_of n key) j) o None) (sym (agrees.store key (there key here))))
            (λ ne. sym (ap (λ b. cond b (after later.seen key) None) (ne_eqb (stripe_of n key) j ne)))
            (cases_eq (stripe_of n key) j);
        marks = λ key here. f.marks key here ∙ sym (agrees.marks key (there key here));
        was = f.was;
        taken = f.taken;
        early = omega (arith, f.early, longer);
        own_marks = λ key number elsewhere. refl;
        others = λ key number here ne. refl;
      }

  -- what is held fits
  abbrev pub Fit : Held T → Type 0
  Fit held = AllFit nothing (stripes_of (gates_of held)) (known_to held) (held_taken held) (held_parts held)

  -- what was taken fits as it is
  pub taken_fits : (gates : Gates T) (stripes : List ℕ) (pass : MutBor (Pass T)) (held : Held T) → HasTaken nothing gates stripes pass held → Fit held
  taken_fits gates stripes pass held t =
      subst (λ (g : Gates T). AllFit nothing (stripes_of g) (known_to held) (held_taken held) (held_parts held)) (sym t.gates_are) t.fit

  -- what is held later of the same gates fits, where the pass knows the same of it
  fits_later : (before later : Held T) → gates_of later ≡ gates_of before → held_taken later ≡ held_taken before
      → ((j : ℕ) (part : T) → part_at (held_parts later) j ≡ Some part → (old : T) × (part_at (held_parts before) j ≡ Some old))
      → Agrees (stripes_of (gates_of before)) (held_parts before) (known_to before) (known_to later) → Fit before → Fit later
  fits_later before later gates taken had agrees fit =
      subst (λ (g : Gates T). AllFit nothing (stripes_of g) (known_to later) (held_taken later) (held_parts later)) (sym gates)
      (subst (λ (l : List (ℕ × (ℕ × T))). AllFit nothing (stripes_of (gates_of before)) (known_to later) l (held_parts later)) (sym taken)
      (fits_still (stripes_of (gates_of before)) (held_taken before) (held_parts before) (held_parts later) (known_to before) (known_to later) agrees had fit))

  -- a WATCH of no key leaves what fits
  pub committed_fits : (before later : Held T) (result : Result ℕ CommitsWornOut) → HasCommitted (Unit {0}) before (Watch []) (line_reply Done) later result → Fit before → Fit later
  committed_fits before later (Ok place) did fit =
      let made = did.ok in
      let size : length (known_to later).seen ≡ suc (length made.history) = ap (λ (l : History). length l) made.seen in
      let more : length made.history ≡ length made.goes_on.0 + length (known_to before).seen = ap (λ (l : History). length l) made.goes_on.1 ∙ length-append made.goes_on.0 (known_to before).seen in
      fits_later before later did.gates did.taken (λ j part e. (part, ap (λ (l : List (ℕ × T)). part_at l j) (sym did.parts) ∙ e))
      record { store = made.store; marks = made.marks; longer = omega (arith, size, more) } fit
  committed_fits before later (Err worn) did fit =
      let told = did.worn in
      fits_later before later did.gates did.taken (λ j part e. (part, ap (λ (l : List (ℕ × T)). part_at l j) (sym did.parts) ∙ e))
      record {
        store = λ key there. ap (λ (l : History). after l key) told.seen;
        marks = λ key there. ap (λ (l : History). mark_at l (known_to later).watched key) told.seen ∙ ap (λ w. mark_at (known_to before).seen w key) told.watched;
        longer = omega (arith, ap (λ (l : History). length l) told.seen);
      } fit

  -- another part of a stripe fits
  pub replaced_fits : (before later : Held T) (i : ℕ) (old : T) → SameHold before later → part_at (held_parts before) i ≡ Some old
      → ((j : ℕ) → j ≢ i → part_at (held_parts later) j ≡ part_at (held_parts before) j) → Fit before → Fit later
  replaced_fits before later i old keeps was others fit =
      fits_later before later (ap (λ (b : Bor (Gates T)). b.now) keeps.gates) keeps.taken
      (λ j part e. ⊎_elim (λ (same : i ≡ j). (old, subst (λ (k : ℕ). part_at (held_parts before) k ≡ Some old) same was))
      (λ ne. (part, sym (others j (λ x. ne (sym x))) ∙ e)) (cases_eq i j))
      record {
        store = λ key there. ap (λ (k : Knowledge). after k.seen key) keeps.known;
        marks = λ key there. ap (λ (k : Knowledge). mark_at k.seen k.watched key) keeps.known;
        longer = omega (arith, ap (λ (k : Knowledge). length k.seen) keeps.known);
      } fit
