-- Parts that are held fit after what was planned and committed was installed.
use Rattle.std.proofs.Common.{◌≡◌, ◌∙◌, ◌||◌, ◌+◌, ◌≤◌, ℕ, Bool, true, false, List, [], ◌∷◌, length, length-append, Option, Some, None, IsSome, refl, sym, ap, subst, cond, nat_eq, eq-eqb, ne_eqb, ⊎_elim, arith}
use Rattle.std.proofs.lemmas.Bool.{cases_eq}
use Rattle.words.specs.declared.reply.Reply.{Reply}
use Rattle.words.specs.declared.history.Operation.{Operation}
use Rattle.words.specs.declared.history.Entry.{Entry}
use Rattle.words.specs.Store.{Bytes}
use Rattle.words.specs.History.{History, after, is_written, is_among, keys_of_pairs}
use Rattle.words.specs.Watches.{touched, mark_after, mark_at, mark_of}
use Rattle.words.specs.Stripes.{stripe_of}
use Rattle.gates.specs.declared.view.Knowledge.{Knowledge}
use Rattle.gates.specs.Sets.{part_at}
use Rattle.gates.specs.Rule.{Meaning, writes}
use Rattle.gates.specs.Plays.{kept}
use Rattle.gates.specs.Passes.{AllFit, Committed, KeysHeld}
use Rattle.transact.specs.Plans.{IsInstalled}
use Rattle.transact.specs.Tables.{AreThere, Became, Stand, clears, joined_marks, mark_in, stays}
use Rattle.engine.proofs.Parts.{not_among, some_of}

or_more : (a b c : Bool) → ((a || b) || c) ≡ (a || (b || c))
or_more true b c = refl
or_more false b c = refl

touched_both : (a b : Bool) (mark : Option Bool) → touched (a || b) mark ≡ touched a (touched b mark)
touched_both a b None = refl
touched_both a b (Some mark) = ap Some (or_more a b mark)

module _ {T : Type 0} (contents : Meaning T) (n : ℕ) where
  -- parts that fit are those of the store that was seen, and their marks say what was written of what is watched
  pub stand_of : (knows : Knowledge) (took : List (ℕ × (ℕ × T))) (parts : List (ℕ × T)) → AllFit contents n knows took parts → contents.trusted
      → Stand contents n (part_at parts) knows.seen knows.number knows.watched
  stand_of knows took parts fit t = record { read = λ i q e. (fit t i q e).reads; marked = λ i q e key at. (fit t i q e).marks key at }

  -- other bytes, and the same meaning; of what is known only notes differ
  pub kept_all : (knows later : Knowledge) (took : List (ℕ × (ℕ × T))) (parts last : List (ℕ × T)) → later.number ≡ knows.number → later.seen ≡ knows.seen → later.watched ≡ knows.watched
      → AllFit contents n knows took parts → Became contents n [] stays (part_at parts) (part_at last) → AllFit contents n later took last
  kept_all knows later took parts last number seen watched fit became t i q e =
      let was = became.was i q e in
      let f = fit t i was.0 was.1 in
      record {
        reads = λ key. ⊎_elim (λ at. was.2.here key at ∙ f.reads key) (λ ne. was.2.away key ne ∙ f.reads key) (cases_eq (stripe_of n key) i)
            ∙ ap (λ (h : History). cond (nat_eq (stripe_of n key) i) (after h key) None) (sym seen);
        marks = λ key here. ap (contents.marks q key) number ∙ was.2.marks key knows.number here ∙ f.marks key here
            ∙ ap (λ (h : History). mark_at h knows.watched key) (sym seen) ∙ ap (λ w. mark_at later.seen w key) (sym watched);
        was = f.was;
        taken = f.taken;
        early = subst (λ (h : History). f.was.0 ≤ length h) (sym seen) f.early;
        own_marks = λ key s elsewhere. was.2.aside key s elsewhere ∙ f.own_marks key s elsewhere;
        others = λ key s here ne. was.2.marks key s here ∙ f.others key s here (λ x. ne (x ∙ sym number))
            ∙ ap (λ (h : History). touched (is_written h f.was.0 key) (contents.marks f.was.1 key s)) (sym seen);
      }

  -- An entry was committed, and what becomes of parts by it was done.
  pub installed_all : (operation : Operation) (reply : Reply) (place : ℕ) (before later : Knowledge) (took : List (ℕ × (ℕ × T))) (parts held last : List (ℕ × T))
      → Committed n held (record { session = before.number; operation = operation; reply = reply }) place before later
      → ((i : ℕ) → IsSome (part_at parts i) → IsSome (part_at held i)) → AllFit contents n before took parts
      → (contents.trusted → IsInstalled contents n before.seen (record { session = before.number; operation = operation; reply = reply }) (part_at parts) (part_at last))
      → AllFit contents n later took last
  installed_all operation reply place before later took parts held last did there fit given t i q e =
      let installed = given t in
      let entry : Entry = record { session = before.number; operation = operation; reply = reply } in
      let old = some_of (part_at parts i) ((installed.there i).1 (subst IsSome (sym e) refl)) in
      let f = fit t i old.0 old.1 in
      let some : IsSome (part_at held i) = there i (subst IsSome (sym old.1) refl) in
      let at_held : (key : Bytes) → stripe_of n key ≡ i → IsSome (part_at held (stripe_of n key)) = λ key here. subst (λ (k : ℕ). IsSome (part_at held k)) (sym here) some in
      let at_last : (key : Bytes) → stripe_of n key ≡ i → IsSome (part_at last (stripe_of n key)) = λ key here. subst (λ (k : ℕ). IsSome (part_at last k)) (sym here) (subst IsSome (sym e) refl) in
      let new_mark : (key : Bytes) (number : ℕ) → stripe_of n key ≡ i → contents.marks q key number ≡ joined_marks contents n (part_at last) key number =
      λ key number here. sym (ap (mark_in contents key number) (ap (part_at last) here ∙ e)) in
      let old_mark : (key : Bytes) (number : ℕ) → stripe_of n key ≡ i → joined_marks contents n (part_at parts) key number ≡ contents.marks old.0 key number =
      λ key number here. ap (mark_in contents key number) (ap (part_at parts) here ∙ old.1) in
      let size : length later.seen ≡ length (entry ∷ did.history) = ap (λ (l : History). length l) did.seen in
      let more : length did.history ≡ length did.goes_on.0 + length before.seen = ap (λ (l : History). length l) did.goes_on.1 ∙ length-append did.goes_on.0 before.seen in
      record {
        reads = λ key. ⊎_elim
            (λ here. installed.read i q e key ∙ ap (λ o. cond (nat_eq (stripe_of n key) i) o None) (sym (did.store key (at_held key here))))
            (λ ne. installed.read i q e key ∙ ap (λ b. cond b (after (entry ∷ before.seen) key) None) (ne_eqb (stripe_of n key) i ne)
            ∙ sym (ap (λ b. cond b (after later.seen key) None) (ne_eqb (stripe_of n key) i ne)))
            (cases_eq (stripe_of n key) i);
        marks = λ key here. ap (contents.marks q key) did.number ∙ new_mark key before.number here ∙ installed.own key (at_last key here)
            ∙ ap (mark_after operation (writes (after before.seen) entry key) key) (old_mark key before.number here ∙ f.marks key here)
            ∙ sym (did.marks key (at_held key here));
        was = f.was;
        taken = f.taken;
        early = omega (arith, f.early);
        own_marks = λ key number elsewhere. installed.aside i old.0 q old.1 e key number elsewhere ∙ f.own_marks key number elsewhere;
        others = λ key number here ne. new_mark key number here ∙ installed.others key number (at_last key here) (λ x. ne (x ∙ sym did.number))
            ∙ ap (touched (writes (after before.seen) entry key)) (old_mark key number here ∙ f.others key number here (λ x. ne (x ∙ sym did.number)))
            ∙ sym (ap (λ w. touched w (contents.marks f.was.1 key number)) (did.touches key f.was.0 (at_held key here) f.early)
            ∙ touched_both (writes (after before.seen) entry key) (is_written before.seen f.was.0 key) (contents.marks f.was.1 key number));
      }

  pub keys_held : (parts : List (ℕ × T)) (keys : List Bytes) → AreThere n (part_at parts) keys → KeysHeld n parts keys
  keys_held parts [] there = tt
  keys_held parts (key ∷ keys) there = (there.0, keys_held parts keys there.1)

-- all that is watched is forgotten
pub forgot_all : {T : Type 0} (contents : Meaning T) (n : ℕ) (seat : ℕ) (keys : List Bytes) (knows : Knowledge) (took : List (ℕ × (ℕ × T))) (parts last : List (ℕ × T))
    → seat ≡ knows.number → keys ≡ keys_of_pairs knows.watched → AllFit contents n knows took parts → Became contents n [] (clears seat keys) (part_at parts) (part_at last)
    → AllFit contents n (kept true [] knows) took last
forgot_all contents n seat keys knows took parts last seat_is keys_are fit became t i q e =
    let was = became.was i q e in
    let f = fit t i was.0 was.1 in
    record {
      reads = λ key. ⊎_elim (λ at. was.2.here key at ∙ f.reads key) (λ ne. was.2.away key ne ∙ f.reads key) (cases_eq (stripe_of n key) i);
      marks = λ key here.
          let m : Option Bool = contents.marks was.0 key knows.number in
          was.2.marks key knows.number here
          ∙ ap (λ (b : Bool). cond b (cond (is_among keys key) None m) m) (eq-eqb seat knows.number seat_is)
          ∙ ap (λ (l : List Bytes). cond (is_among l key) None m) keys_are
          ∙ ap (λ (x : Option Bool). cond (is_among (keys_of_pairs knows.watched) key) None x) (f.marks key here)
          ∙ elim (is_among (keys_of_pairs knows.watched) key) as (λ b. is_among (keys_of_pairs knows.watched) key ≡ b → cond b None (mark_at knows.seen knows.watched key) ≡ None) [
            | true ↦ λ x. refl
            | false ↦ λ x. ap (mark_of knows.seen key) (not_among knows.watched key x)
          ] refl;
      was = f.was;
      taken = f.taken;
      early = f.early;
      own_marks = λ key number elsewhere. was.2.aside key number elsewhere ∙ f.own_marks key number elsewhere;
      others = λ key number here ne.
          let m : Option Bool = contents.marks was.0 key number in
          was.2.marks key number here
          ∙ ap (λ (b : Bool). cond b (cond (is_among keys key) None m) m) (ne_eqb seat number (λ x. ne (sym x ∙ seat_is)))
          ∙ f.others key number here ne;
    }
