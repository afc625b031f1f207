-- What a pass has after each of its steps.
use Rattle.std.proofs.lemmas.List.{reverse-append}
use Rattle.std.proofs.Common.{reverse, ◌≡◌, ◌≢◌, ◌⊎◌, ◌||◌, ℕ, zero, suc, ◌+◌, ◌<◌, ◌≤◌, Bool, true, false, List, [], ◌∷◌, ◌++◌, Some, None, cond, nat_eq, length, sym, refl, ap, subst, ◌∙◌, arith, eq-eqb, ne_eqb, inl, inr, ⊎_elim, append_assoc, append-nil, length-append, IsSome, ◌↔◌, ◌-◌, replicate, slice_index}
use Rattle.std.proofs.lemmas.Bool.{cases_eq}
use Rattle.atomic_table.specs.Table.{Me, Step, rest, turned}
use Rattle.words.specs.declared.history.Entry.{Entry}
use Rattle.words.specs.Store.{Bytes, writes_key}
use Rattle.words.specs.History.{History, after, writes_of, keys_named, is_written, AreWatches}
use Rattle.words.specs.Locality.{NamesNone}
use Rattle.words.specs.Watches.{touched, mark_at, mark_after, watched_after}
use Rattle.words.specs.Stripes.{IsPart, stripe_of}
use Rattle.gates.specs.declared.view.Note.{Note}
use Rattle.gates.specs.declared.view.Note.TheVariants.{Busy, Worn, Full, Idle, Done, Seen}
use Rattle.gates.specs.declared.view.Knowledge.{Knowledge}
use Rattle.gates.specs.declared.view.View.{View}
use Rattle.gates.specs.Sets.{part_at, times, without}
use Rattle.gates.specs.Rule.{writes, Meaning, IsMarked, touched_marks, AllLeave, AreHeld}
use Rattle.gates.specs.Plays.{first_of, own, IsSingle, kept, knowing, sees, commits, taking, giving, GoesOn, EachGoesOn, Took, Missed, Commits, Meets, resting, joined, all_see, newcomer, newcomers, others_of}
use Rattle.gates.specs.Passes.{stripes_among, FitsPart, AllFit, AreAsTaken, IsSeatOf, Learned, WasTold, WasBusy, ToldBusy, AreBusy, Committed, KeysHeld, AreNew, IsResting, known}
use Rattle.gates.specs.declared.gates.Gates.{Gates}
use Rattle.gates.specs.declared.gates.Pass.{Pass}
use Rattle.gates.proofs.Lists.{times_here, times_else, times-append, without_here, without_else}
use Rattle.gates.specs.Laws.{Laws}
use Rattle.gates.proofs.Watched.{watches_more, written_entry, written_none, touched_false, mark_commits, watches_after, watched_once, kept_once}
use Rattle.gates.proofs.Frames.{names_none, part_left, after_left, writes_left, entry_left, written_left, mark_left}
use Rattle.gates.proofs.Marks.{marked_left, touched_left}
use Rattle.gates.proofs.Steps.{part_without, watches_kept}

module _ {T : Type 0} where
  first_is : (b : Bool) (part q : T) → b ≡ true → cond b (Some part) None ≡ Some q → part ≡ q
  first_is true part q is e = cc
  first_is false part q is e = cc

  none_is : (b : Bool) (part q : T) → b ≡ false → cond b (Some part) None ≡ Some q → ⊥
  none_is true part q is e = cc
  none_is false part q is e = cc

  -- a part that was taken last
  pub among_snoc : (parts : List (ℕ × T)) (i : ℕ) (part : T) → stripes_among (parts ++ (i, part) ∷ []) ≡ stripes_among parts ++ i ∷ []
  among_snoc [] i part = refl
  among_snoc (x ∷ xs) i part = ap (λ l. x.0 ∷ l) (among_snoc xs i part)

  pub at_snoc : (parts : List (ℕ × T)) (i j : ℕ) (part q : T) → part_at (parts ++ (i, part) ∷ []) j ≡ Some q → (part_at parts j ≡ Some q) ⊎ ((i ≡ j) × (part ≡ q))
  at_snoc [] i j part q e = ⊎_elim
      (λ same. inr (same, first_is (nat_eq i j) part q (eq-eqb i j same) e))
      (λ ne. absurd (none_is (nat_eq i j) part q (ne_eqb i j ne) e))
      (cases_eq i j)
  at_snoc (x ∷ xs) i j part q e = ⊎_elim
      (λ same. let here = eq-eqb x.0 j same in
      inl (ap (λ b. cond b (Some x.1) (part_at xs j)) here ∙ sym (ap (λ b. cond b (Some x.1) (part_at (xs ++ (i, part) ∷ []) j)) here) ∙ e))
      (λ ne. let there = ne_eqb x.0 j ne in
      ⊎_elim (λ old. inl (ap (λ b. cond b (Some x.1) (part_at xs j)) there ∙ old)) (λ new. inr new)
      (at_snoc xs i j part q (sym (ap (λ b. cond b (Some x.1) (part_at (xs ++ (i, part) ∷ []) j)) there) ∙ e)))
      (cases_eq x.0 j)

  -- a stripe with a part is among the stripes
  pub part_stands : (parts : List (ℕ × T)) (j : ℕ) (q : T) → part_at parts j ≡ Some q → 0 < times j (stripes_among parts)
  part_stands [] j q e = absurd cc
  part_stands (x ∷ xs) j q e = ⊎_elim
      (λ same. let one : times j (x.0 ∷ stripes_among xs) ≡ 1 + times j (stripes_among xs) = subst (λ (k : ℕ). times j (k ∷ stripes_among xs) ≡ 1 + times j (stripes_among xs)) (sym same) (times_here j (stripes_among xs)) in omega arith)
      (λ ne. omega (arith, times_else j x.0 (stripes_among xs) ne, part_stands xs j q (sym (ap (λ b. cond b (Some x.1) (part_at xs j)) (ne_eqb x.0 j ne)) ∙ e)))
      (cases_eq x.0 j)

  -- the seat after a stripe was taken, and turned
  module _ (laws : Laws) (contents : Meaning T) (n number i : ℕ) (m w : Me T (View T)) (seat : IsSeatOf contents.trusted n number m) (below : i < n) (other : times i (stripes_among m.1) ≡ 0) (took : Took contents n i m w) where
    after_take : Me T (View T)
    after_take = (taking m.0 i took.part took.log, m.1 ++ (i, took.part) ∷ [])

    took_turned : (w.0, turned w.1) ≡ after_take
    unfolding after_take
    took_turned = ap (λ (x : Me T (View T)). (x.0, turned x.1)) took.seat

    took_seat' : IsSeatOf contents.trusted n number after_take
    unfolding after_take
    took_seat' =
        let stands : (j : ℕ) → times j (stripes_among (m.1 ++ (i, took.part) ∷ [])) ≡ times j (stripes_among m.1) + times j (i ∷ []) =
        (λ j. ap (times j) (among_snoc m.1 i took.part) ∙ times-append j (stripes_among m.1) (i ∷ [])) in
        record {
          single = refl;
          number_is = seat.number_is;
          once = λ j. ⊎_elim
              (λ e. let none_before : times j (stripes_among m.1) ≡ 0 = subst (λ (k : ℕ). times k (stripes_among m.1) ≡ 0) e other in
              let one : times j (i ∷ []) ≡ 1 = subst (λ (k : ℕ). times k (i ∷ []) ≡ 1) e (times_here i []) in omega (arith, stands j))
              (λ ne. omega (arith, stands j, times_else j i [] ne, seat.once j))
              (cases_eq i j);
          same = λ j. omega (arith, stands j, seat.same j);
          below = λ j h. ⊎_elim
              (λ e. subst (λ (k : ℕ). k < n) e below)
              (λ ne. seat.below j (omega (arith, stands j, times_else j i [] ne)))
              (cases_eq i j);
          legal = took.goes_on.legal;
          mine = took.goes_on.mine;
          watches = subst (λ (l : History). AreWatches l (own m.0).number (own m.0).watched) (sym took.goes_on.begins)
              (watches_more laws took.goes_on.more (own m.0).seen (own m.0).number (own m.0).watched seat.watches);
          each_once = seat.each_once;
        }

    pub took_seat : IsSeatOf contents.trusted n number (w.0, turned w.1)
    took_seat = subst (λ (x : Me T (View T)). IsSeatOf contents.trusted n number x) (sym took_turned) took_seat'

    pub took_parts : turned w.1 ≡ m.1 ++ (i, took.part) ∷ []
    unfolding after_take
    took_parts = ap (λ (x : Me T (View T)). x.1) took_turned

    pub took_knows : Learned (own m.0) (own w.0)
    took_knows = subst (λ (v : View T). Learned (own m.0) (own v)) (sym (ap (λ (x : Me T (View T)). x.0) took.seat))
        record { number = refl; mine = refl; seen = (took.goes_on.more, took.goes_on.begins); notes = ([], refl); watched = refl }

    pub took_notes : (own w.0).notes ≡ (own m.0).notes
    took_notes = ap (λ (x : Me T (View T)). (own x.0).notes) took.seat

    -- a part fits still
    fit_still : (j : ℕ) (q : T) → i ≢ j → 0 < times j m.0.held → FitsPart contents n (own m.0) m.0.taken j q
        → FitsPart contents n (sees (own m.0) took.log) (taking m.0 i took.part took.log).taken j q
    fit_still j q ne held f =
        let goes = took.goes_on in
        let leave = goes.leave j held in
        record {
          reads = subst (λ (h : History). IsPart n j (contents.store q) (after h)) (sym goes.begins) (part_left laws n j (contents.store q) goes.more (own m.0).seen leave f.reads);
          marks = subst (λ (h : History). IsMarked n j (contents.marks q) h (own m.0)) (sym goes.begins) (marked_left laws n j (contents.marks q) goes.more (own m.0).seen (own m.0) leave f.marks);
          was = f.was;
          taken = ap (λ b. cond b (Some (length took.log, took.part)) (part_at m.0.taken j)) (ne_eqb i j ne) ∙ f.taken;
          early = omega (arith, f.early, ap (λ (h : History). length h) goes.begins, length-append goes.more (own m.0).seen);
          own_marks = f.own_marks;
          others = λ key number here apart. f.others key number here apart
              ∙ sym (ap (λ (h : History). touched_marks h f.was.0 (contents.marks f.was.1) key number) goes.begins
              ∙ touched_left laws n j (contents.marks f.was.1) goes.more (own m.0).seen f.was.0 leave key number here);
        }

    fit_new : contents.trusted → FitsPart contents n (sees (own m.0) took.log) (taking m.0 i took.part took.log).taken i took.part
    fit_new = λ t. record {
      reads = took.reads t;
      marks = took.marked t;
      was = (length took.log, took.part);
      taken = ap (λ b. cond b (Some (length took.log, took.part)) (part_at m.0.taken i)) (eq-eqb i i refl);
      early = omega arith;
      own_marks = took.own_marks t;
      others = λ key number here apart.
          sym (ap (λ w. touched w (contents.marks took.part key number)) (written_none took.log (length took.log) key (omega arith)) ∙ touched_false (contents.marks took.part key number));
    }

    pub took_fit : AllFit contents n (own m.0) m.0.taken m.1 → AllFit contents n (own w.0) w.0.taken (turned w.1)
    took_fit fit =
        let v : View T = taking m.0 i took.part took.log in
        let view : w.0 ≡ v = ap (λ (x : Me T (View T)). x.0) took.seat in
        subst (λ (l : List (ℕ × T)). AllFit contents n (own w.0) w.0.taken l) (sym took_parts)
        (subst (λ (x : View T). AllFit contents n (own x) x.taken (m.1 ++ (i, took.part) ∷ [])) (sym view)
        (λ t j q e. ⊎_elim
        (λ old.
        let stands = part_stands m.1 j q old in
        let ne : i ≢ j = (λ same. let none_there : times j (stripes_among m.1) ≡ 0 = subst (λ (k : ℕ). times k (stripes_among m.1) ≡ 0) same other in omega arith) in
        fit_still j q ne (omega (arith, seat.same j)) (fit t j q old))
        (λ new. subst (λ (k : ℕ). FitsPart contents n (own v) v.taken k q) new.0 (subst (λ (p : T). FitsPart contents n (own v) v.taken i p) new.1 (fit_new t)))
        (at_snoc m.1 i j took.part q e)))

    -- each part is as it was taken
    pub took_lent : AreAsTaken m.0.taken m.1 → AreAsTaken w.0.taken (turned w.1)
    took_lent lent =
        let v : View T = taking m.0 i took.part took.log in
        let view : w.0 ≡ v = ap (λ (x : Me T (View T)). x.0) took.seat in
        subst (λ (l : List (ℕ × T)). AreAsTaken w.0.taken l) (sym took_parts)
        (subst (λ (x : View T). AreAsTaken x.taken (m.1 ++ (i, took.part) ∷ [])) (sym view)
        (λ j q e. ⊎_elim
        (λ old.
        let stands = part_stands m.1 j q old in
        let ne : i ≢ j = (λ same. let none_there : times j (stripes_among m.1) ≡ 0 = subst (λ (k : ℕ). times k (stripes_among m.1) ≡ 0) same other in omega arith) in
        let l = lent j q old in
        (l.0, ap (λ b. cond b (Some (length took.log, took.part)) (part_at m.0.taken j)) (ne_eqb i j ne) ∙ l.1))
        (λ new. (length took.log, ap (λ b. cond b (Some (length took.log, took.part)) (part_at m.0.taken j)) (eq-eqb i j new.0) ∙ ap (λ (p : T). Some (length took.log, p)) new.1))
        (at_snoc m.1 i j took.part q e)))

  -- the seat after a stripe was found busy
  module _ {trusted : Type 0} (n number i found : ℕ) (m w : Me T (View T)) (seat : IsSeatOf trusted n number m) (missed : Missed i found m w) where
    pub missed_seat : IsSeatOf trusted n number w
    missed_seat = subst (λ (x : Me T (View T)). IsSeatOf trusted n number x) (sym missed.seat)
        record {
          single = refl;
          number_is = seat.number_is;
          once = seat.once;
          same = seat.same;
          below = seat.below;
          legal = seat.legal;
          mine = seat.mine;
          watches = seat.watches;
          each_once = seat.each_once;
        }

    pub missed_knows : WasTold (Busy i) (own m.0) (own w.0)
    missed_knows = subst (λ (v : View T). WasTold (Busy i) (own m.0) (own v)) (sym (ap (λ (x : Me T (View T)). x.0) missed.seat))
        record { number = refl; mine = refl; seen = refl; notes = refl; watched = refl }

    pub missed_parts : w.1 ≡ m.1
    missed_parts = ap (λ (x : Me T (View T)). x.1) missed.seat

    pub missed_lent : AreAsTaken m.0.taken m.1 → AreAsTaken w.0.taken w.1
    missed_lent lent = subst (λ (x : Me T (View T)). AreAsTaken x.0.taken x.1) (sym missed.seat) lent

    pub missed_fit : (contents : Meaning T) → AllFit contents n (own m.0) m.0.taken m.1 → AllFit contents n (own w.0) w.0.taken w.1
    missed_fit contents fit = subst (λ (x : Me T (View T)). AllFit contents n (own x.0) x.0.taken x.1) (sym missed.seat)
        (λ t j q e. let f = fit t j q e in record { reads = f.reads; marks = f.marks; was = f.was; taken = f.taken; early = f.early; own_marks = f.own_marks; others = f.others })

-- parts by stripe
module _ {T : Type 0} where
  -- the part of a stripe that has one
  pub part_some : (parts : List (ℕ × T)) (j : ℕ) → IsSome (part_at parts j) → 0 < times j (stripes_among parts)
  part_some [] j some = absurd cc
  part_some (x ∷ xs) j some = ⊎_elim
      (λ same. let one : times j (x.0 ∷ stripes_among xs) ≡ 1 + times j (stripes_among xs) = subst (λ (k : ℕ). times j (k ∷ stripes_among xs) ≡ 1 + times j (stripes_among xs)) (sym same) (times_here j (stripes_among xs)) in omega arith)
      (λ ne. omega (arith, times_else j x.0 (stripes_among xs) ne, part_some xs j (subst IsSome (ap (λ b. cond b (Some x.1) (part_at xs j)) (ne_eqb x.0 j ne)) some)))
      (cases_eq x.0 j)

  pub keys_held : (n : ℕ) (parts : List (ℕ × T)) (held : List ℕ) → ((j : ℕ) → times j held ≡ times j (stripes_among parts)) → (keys : List Bytes) → KeysHeld n parts keys → AreHeld n held keys
  keys_held n parts held same [] all = tt
  keys_held n parts held same (key ∷ keys) all = (omega (arith, same (stripe_of n key), part_some parts (stripe_of n key) all.0), keys_held n parts held same keys all.1)

  -- the seat after its first part was given back
  module _ {trusted : Type 0} (n number i : ℕ) (part : T) (m w : Me T (View T)) (seat : IsSeatOf trusted n number m) (first : m.1 ≡ (i, part) ∷ rest m.1)
      (ends : Bool) (told : List Note) (gave : w ≡ (giving (knowing m.0 (kept ends told (own m.0))) i, rest m.1)) where
    among_first : (j : ℕ) → times j (stripes_among m.1) ≡ times j (i ∷ stripes_among (rest m.1))
    among_first j = ap (λ (l : List (ℕ × T)). times j (stripes_among l)) first

    gone : times i (stripes_among (rest m.1)) ≡ 0
    gone = omega (arith, among_first i, seat.once i, times_here i (stripes_among (rest m.1)))

    among_other : (j : ℕ) → i ≢ j → times j (stripes_among m.1) ≡ times j (stripes_among (rest m.1))
    among_other j ne = among_first j ∙ times_else j i (stripes_among (rest m.1)) ne

    pub gave_seat : IsSeatOf trusted n number w
    gave_seat = subst (λ (x : Me T (View T)). IsSeatOf trusted n number x) (sym gave)
        record {
          single = refl;
          number_is = seat.number_is;
          once = λ j. omega (arith, seat.once j, among_first j);
          same = λ j. ⊎_elim
              (λ e. subst (λ (k : ℕ). times k (without i m.0.held) ≡ times k (stripes_among (rest m.1))) e (without_here i m.0.held ∙ sym gone))
              (λ ne. without_else i j m.0.held (λ e. ne (sym e)) ∙ seat.same j ∙ among_other j ne)
              (cases_eq i j);
          below = λ j h. seat.below j (omega (arith, among_first j));
          legal = seat.legal;
          mine = seat.mine;
          watches = watches_kept ends told (own m.0) seat.watches;
          each_once = kept_once ends told (own m.0) seat.each_once;
        }

    pub gave_knows : own w.0 ≡ kept ends told (own m.0)
    gave_knows = ap (λ (x : Me T (View T)). own x.0) gave

    pub gave_parts : w.1 ≡ rest m.1
    gave_parts = ap (λ (x : Me T (View T)). x.1) gave

    rest_else : (j : ℕ) (q : T) → part_at (rest m.1) j ≡ Some q → i ≢ j
    rest_else j q e same = let here = part_stands (rest m.1) j q e in let none_here : times j (stripes_among (rest m.1)) ≡ 0 = subst (λ (k : ℕ). times k (stripes_among (rest m.1)) ≡ 0) same gone in omega arith

    rest_at : (j : ℕ) (q : T) → part_at (rest m.1) j ≡ Some q → part_at m.1 j ≡ Some q
    rest_at j q e =
        ap (λ (l : List (ℕ × T)). part_at l j) first ∙ ap (λ b. cond b (Some part) (part_at (rest m.1) j)) (ne_eqb i j (rest_else j q e)) ∙ e

    pub gave_fit : (contents : Meaning T) → AllFit contents n (kept ends told (own m.0)) m.0.taken m.1 → AllFit contents n (own w.0) w.0.taken w.1
    gave_fit contents fit = subst (λ (x : Me T (View T)). AllFit contents n (own x.0) x.0.taken x.1) (sym gave)
        (λ t j q e. let f = fit t j q (rest_at j q e) in record {
          reads = f.reads;
          marks = f.marks;
          was = f.was;
          taken = part_without i j m.0.taken (λ x. rest_else j q e (sym x)) ∙ f.taken;
          early = f.early;
          own_marks = f.own_marks;
          others = f.others;
        })

    pub first_held : 0 < times i m.0.held
    first_held = omega (arith, seat.same i, among_first i, times_here i (stripes_among (rest m.1)))

    pub first_below : i < n
    first_below = seat.below i (omega (arith, among_first i, times_here i (stripes_among (rest m.1))))

    pub first_fits : (contents : Meaning T) → AllFit contents n (kept ends told (own m.0)) m.0.taken m.1 → contents.trusted → FitsPart contents n (kept ends told (own m.0)) m.0.taken i part
    first_fits contents fit t = fit t i part (ap (λ (l : List (ℕ × T)). part_at l i) first ∙ ap (λ b. cond b (Some part) (part_at (rest m.1) i)) (eq-eqb i i refl))

  -- a commit
  module _ {trusted : Type 0} (laws : Laws) (n number found : ℕ) (entry : Entry) (st : Step T) (m w : Me T (View T)) (seat : IsSeatOf trusted n number m) (slots : st.slots ≡ n)
      (keys : KeysHeld n m.1 (keys_named entry.operation)) (d : Commits trusted entry st m found w) where
    leave : (stripe : ℕ) → 0 < times stripe m.0.held → AllLeave n stripe d.goes_on.more
    leave = subst (λ (k : ℕ). (stripe : ℕ) → 0 < times stripe m.0.held → AllLeave k stripe d.goes_on.more) slots d.goes_on.leave

    named : NamesNone d.goes_on.more (keys_named entry.operation)
    named = names_none n m.0.held d.goes_on.more leave (keys_named entry.operation) (keys_held n m.1 m.0.held seat.same (keys_named entry.operation) keys)

    writes_same : writes_of (after d.before) entry ≡ writes_of (after (own m.0).seen) entry
    writes_same = ap (λ (l : History). writes_of (after l) entry) d.goes_on.begins ∙ writes_left laws entry d.goes_on.more (own m.0).seen named

    written_same : (key : Bytes) (start : ℕ) → 0 < times (stripe_of n key) m.0.held → is_written d.before start key ≡ is_written (own m.0).seen start key
    written_same key start h = ap (λ (l : History). is_written l start key) d.goes_on.begins ∙ written_left laws n (stripe_of n key) d.goes_on.more (own m.0).seen start key (leave (stripe_of n key) h) refl

    pub commit_seat : entry.session ≡ (own m.0).number → IsSeatOf trusted n number w
    commit_seat session =
        let before_are : AreWatches d.before (own m.0).number (own m.0).watched =
        subst (λ (l : History). AreWatches l (own m.0).number (own m.0).watched) (sym d.goes_on.begins) (watches_more laws d.goes_on.more (own m.0).seen (own m.0).number (own m.0).watched seat.watches) in
        let are : AreWatches (entry ∷ d.before) (own m.0).number (commits (own m.0) d.before entry).watched =
        subst (λ (k : ℕ). AreWatches (entry ∷ d.before) k (commits (own m.0) d.before entry).watched) session
        (watches_after laws entry d.before (own m.0).watched (subst (λ (k : ℕ). AreWatches d.before k (own m.0).watched) (sym session) before_are)) in
        subst (λ (x : Me T (View T)). IsSeatOf trusted n number x) (sym d.seat)
        record {
          single = refl;
          number_is = seat.number_is;
          once = seat.once;
          same = seat.same;
          below = seat.below;
          legal = d.legal;
          mine = d.mine;
          watches = are;
          each_once = watched_once entry.operation (own m.0).watched (length d.before) seat.each_once;
        }

    pub committed : Committed n m.1 entry found (own m.0) (own w.0)
    committed =
        let knows : own w.0 ≡ commits (own m.0) d.before entry = ap (λ (x : Me T (View T)). own x.0) d.seat in
        subst (λ (k : Knowledge). Committed n m.1 entry found (own m.0) k) (sym knows)
        record {
          history = d.before;
          goes_on = (d.goes_on.more, d.goes_on.begins);
          place_is = d.place;
          number = refl;
          seen = refl;
          mine = ap (λ (k : ℕ). (k, entry) ∷ (own m.0).mine) (sym d.place);
          notes = refl;
          watched = ap (λ (k : ℕ). watched_after (own m.0).watched entry.operation k) (sym d.place);
          touches = λ key start some early.
              let size : length d.before ≡ length d.goes_on.more + length (own m.0).seen = ap (λ (l : History). length l) d.goes_on.begins ∙ length-append d.goes_on.more (own m.0).seen in
              written_entry entry d.before start key (omega arith)
              ∙ ap (λ l. writes_key l key || is_written d.before start key) writes_same
              ∙ ap (λ w. writes (after (own m.0).seen) entry key || w) (written_same key start (omega (arith, seat.same (stripe_of n key), part_some m.1 (stripe_of n key) some)));
          marks = λ key some.
              let here : 0 < times (stripe_of n key) m.0.held = omega (arith, seat.same (stripe_of n key), part_some m.1 (stripe_of n key) some) in
              mark_commits entry d.before (own m.0).number (own m.0).watched key
              (subst (λ (l : History). AreWatches l (own m.0).number (own m.0).watched) (sym d.goes_on.begins) (watches_more laws d.goes_on.more (own m.0).seen (own m.0).number (own m.0).watched seat.watches))
              ∙ ap (λ l. mark_after entry.operation (writes_key l key) key (mark_at d.before (own m.0).watched key)) writes_same
              ∙ ap (mark_after entry.operation (writes (after (own m.0).seen) entry key) key)
              (ap (λ (l : History). mark_at l (own m.0).watched key) d.goes_on.begins ∙ mark_left laws n (stripe_of n key) d.goes_on.more (own m.0).seen (own m.0).watched key (leave (stripe_of n key) here) refl);
          store = λ key some.
              let here : 0 < times (stripe_of n key) m.0.held = omega (arith, seat.same (stripe_of n key), part_some m.1 (stripe_of n key) some) in
              ap (λ (l : History). after (entry ∷ l) key) d.goes_on.begins
              ∙ entry_left laws entry d.goes_on.more (own m.0).seen key named
              (after_left laws n (stripe_of n key) d.goes_on.more (own m.0).seen key (leave (stripe_of n key) here) refl);
        }

pub Learned-trans : (a b c : Knowledge) → Learned a b → Learned b c → Learned a c
Learned-trans a b c one two = record {
  number = two.number ∙ one.number;
  mine = two.mine ∙ one.mine;
  seen = (two.seen.0 ++ one.seen.0, two.seen.1 ∙ ap (λ (l : History). two.seen.0 ++ l) one.seen.1 ∙ sym (append_assoc two.seen.0 one.seen.0 a.seen));
  watched = two.watched ∙ one.watched;
  notes = (two.notes.0 ++ one.notes.0, two.notes.1 ∙ ap (λ (l : List Note). two.notes.0 ++ l) one.notes.1 ∙ sym (append_assoc two.notes.0 one.notes.0 a.notes));
}

-- what a pass was told
busy_both : (stripes : List ℕ) (one two : List Note) → AreBusy stripes one → AreBusy stripes two → AreBusy stripes (one ++ two)
busy_both stripes [] two first second = second
busy_both stripes (Busy stripe ∷ one) two first second = (first.0, busy_both stripes one two first.1 second)
busy_both stripes (Worn ∷ one) two first second = absurd first
busy_both stripes (Full x refused ∷ one) two first second = absurd first
busy_both stripes (Idle x y ∷ one) two first second = absurd first
busy_both stripes (Done x y ∷ one) two first second = absurd first
busy_both stripes (Seen x y ∷ one) two first second = absurd first

busy_among : (stripe : ℕ) (stripes : List ℕ) (notes : List Note) → 0 < times stripe stripes → AreBusy (stripe ∷ []) notes → AreBusy stripes notes
busy_among stripe stripes [] among all = tt
busy_among stripe stripes (Busy other ∷ notes) among all = (
  ⊎_elim (λ same. subst (λ (k : ℕ). 0 < times k stripes) same among) (λ ne. absurd (omega (arith, all.0, times_else other stripe [] (λ e. ne e)))) (cases_eq stripe other),
  busy_among stripe stripes notes among all.1,
)
busy_among stripe stripes (Worn ∷ notes) among all = absurd all
busy_among stripe stripes (Full x refused ∷ notes) among all = absurd all
busy_among stripe stripes (Idle x y ∷ notes) among all = absurd all
busy_among stripe stripes (Done x y ∷ notes) among all = absurd all
busy_among stripe stripes (Seen x y ∷ notes) among all = absurd all

pub told_nothing : (stripes : List ℕ) (a b : Knowledge) → b.notes ≡ a.notes → ToldBusy stripes a b
told_nothing stripes a b same = ([], same, tt)

pub told_busy : (stripe : ℕ) (a b : Knowledge) → WasTold (Busy stripe) a b → ToldBusy (stripe ∷ []) a b
told_busy stripe a b told = (Busy stripe ∷ [], told.notes, (omega (arith, times_here stripe []), tt))

pub told_both : (stripes : List ℕ) (a b c : Knowledge) → ToldBusy stripes a b → ToldBusy stripes b c → ToldBusy stripes a c
told_both stripes a b c one two = (
  two.0 ++ one.0,
  two.1 ∙ ap (λ (l : List Note). two.0 ++ l) one.1 ∙ sym (append_assoc two.0 one.0 a.notes),
  busy_both stripes two.0 one.0 two.2 one.2,
)

pub told_among : (stripe : ℕ) (stripes : List ℕ) (a b : Knowledge) → 0 < times stripe stripes → ToldBusy (stripe ∷ []) a b → ToldBusy stripes a b
told_among stripe stripes a b among told = (told.0, told.1, busy_among stripe stripes told.0 among told.2)

pub Learned-told : (note : Note) (a b : Knowledge) → WasTold note a b → Learned a b
Learned-told note a b told = record { number = told.number; mine = told.mine; seen = ([], told.seen); notes = (note ∷ [], told.notes); watched = told.watched }

module _ {T : Type 0} where
  -- a stripe among the stripes has a part
  pub stands_some : (parts : List (ℕ × T)) (j : ℕ) → 0 < times j (stripes_among parts) → IsSome (part_at parts j)
  stands_some [] j h = absurd (omega arith)
  stands_some (x ∷ xs) j h = ⊎_elim
      (λ same. subst IsSome (sym (ap (λ b. cond b (Some x.1) (part_at xs j)) (eq-eqb x.0 j same))) refl)
      (λ ne. subst IsSome (sym (ap (λ b. cond b (Some x.1) (part_at xs j)) (ne_eqb x.0 j ne))) (stands_some xs j (omega (arith, times_else j x.0 (stripes_among xs) ne))))
      (cases_eq x.0 j)

  -- which stripes have parts
  pub parts_are : (parts : List (ℕ × T)) (stripes : List ℕ) → stripes ≡ stripes_among parts ++ [] → (j : ℕ) → IsSome (part_at parts j) ↔ (0 < times j stripes)
  parts_are parts stripes is j =
      let e : stripes ≡ stripes_among parts = is ∙ append-nil (stripes_among parts) in
      ((λ h. subst (λ (l : List ℕ). 0 < times j l) (sym e) (part_some parts j h)), (λ h. stands_some parts j (subst (λ (l : List ℕ). 0 < times j l) e h)))

-- a number of a list in which none stands twice does not stand before its place
pub apart : (n : ℕ) (xs ys all : List ℕ) → all ≡ xs ++ n ∷ ys → times n all ≤ 1 → times n xs ≡ 0
apart n xs ys all is once =
    let e : times n all ≡ times n (xs ++ n ∷ ys) = ap (times n) is in omega (arith, e, times-append n xs (n ∷ ys), times_here n ys)

module _ {T : Type 0} where
  -- the part of the first stripe
  pub first_part : (parts : List (ℕ × T)) (i : ℕ) (others : List ℕ) → stripes_among parts ≡ i ∷ others → (part : T) × (parts ≡ (i, part) ∷ rest parts)
  first_part [] i others e = absurd cc
  first_part (x ∷ xs) i others e = let here : x.0 ≡ i = cc in (x.1, ap (λ (k : ℕ). (k, x.1) ∷ xs) here)

  -- parts without stripes
  pub no_parts : (parts : List (ℕ × T)) → stripes_among parts ≡ [] → parts ≡ []
  no_parts [] e = refl
  no_parts (x ∷ xs) e = absurd cc

-- passes that hold nothing, and their meeting
none_stands : (held : List ℕ) → ((j : ℕ) → times j held ≡ 0) → held ≡ []
none_stands [] none = refl
none_stands (x ∷ xs) none = absurd (omega (arith, none x, times_here x xs))

module _ {T : Type 0} where
  pub nothing_held : {trusted : Type 0} (n number : ℕ) (m : Me T (View T)) → IsSeatOf trusted n number m → m.1 ≡ [] → m.0.held ≡ []
  nothing_held n number m seat nothing = none_stands m.0.held (λ j. seat.same j ∙ ap (λ (l : List (ℕ × T)). times j (stripes_among l)) nothing)

  -- two passes that have met
  module _ {trusted : Type 0} (n found : ℕ) (st : Step T) (m1 m2 theirs both loaded : Me T (View T)) (one : IsSingle m1.0) (two : IsSingle m2.0) (slots : st.slots ≡ n)
      (left : theirs ≡ (resting m2.0.passes, [])) (together : both ≡ (joined m1.0 theirs.0, m1.1)) (met : Meets trusted st both found loaded) where
    passes_met : both.0.passes ≡ own m1.0 ∷ own m2.0 ∷ []
    passes_met =
        ap (λ (x : Me T (View T)). x.0.passes) together
        ∙ ap (λ (x : Me T (View T)). m1.0.passes ++ x.0.passes) left
        ∙ ap (λ (l : List Knowledge). l ++ m2.0.passes) one ∙ ap (λ (l : List Knowledge). own m1.0 ∷ l) two

    pub go_on : GoesOn trusted n [] (own m1.0) met.log × GoesOn trusted n [] (own m2.0) met.log
    go_on =
        let each : EachGoesOn trusted st.slots (own m1.0 ∷ own m2.0 ∷ []) met.log = subst (λ (l : List Knowledge). EachGoesOn trusted st.slots l met.log) passes_met met.go_on in
        let at_n : EachGoesOn trusted n (own m1.0 ∷ own m2.0 ∷ []) met.log = subst (λ (k : ℕ). EachGoesOn trusted k (own m1.0 ∷ own m2.0 ∷ []) met.log) slots each in
        (at_n.0, at_n.1.0)

    pub loaded_passes : loaded.0.passes ≡ sees (own m1.0) met.log ∷ sees (own m2.0) met.log ∷ []
    loaded_passes = ap (λ (x : Me T (View T)). x.0.passes) met.seat ∙ ap (λ (l : List Knowledge). all_see l met.log) passes_met

    pub loaded_parts : loaded.1 ≡ m1.1
    loaded_parts = ap (λ (x : Me T (View T)). x.1) met.seat ∙ ap (λ (x : Me T (View T)). x.1) together

    pub loaded_held : loaded.0.held ≡ []
    loaded_held = ap (λ (x : Me T (View T)). x.0.held) met.seat ∙ ap (λ (x : Me T (View T)). x.0.held) together

  -- a pass that has seen a history, and holds nothing
  module _ {trusted : Type 0} (laws : Laws) (n number : ℕ) (log : History) (m w : Me T (View T)) (seat : IsSeatOf trusted n number m) (goes : GoesOn trusted n [] (own m.0) log)
      (later : w ≡ (resting (sees (own m.0) log ∷ []), [])) where
    pub seen_seat : IsSeatOf trusted n number w
    seen_seat = subst (λ (x : Me T (View T)). IsSeatOf trusted n number x) (sym later)
        record {
          single = refl;
          number_is = seat.number_is;
          once = λ j. omega arith;
          same = λ j. refl;
          below = λ j h. absurd (omega arith);
          legal = goes.legal;
          mine = goes.mine;
          watches = subst (λ (l : History). AreWatches l (own m.0).number (own m.0).watched) (sym goes.begins)
              (watches_more laws goes.more (own m.0).seen (own m.0).number (own m.0).watched seat.watches);
          each_once = seat.each_once;
        }

    pub seen_log : (own w.0).seen ≡ log
    seen_log = ap (λ (x : Me T (View T)). (own x.0).seen) later

    pub seen_notes : (own w.0).notes ≡ (own m.0).notes
    seen_notes = ap (λ (x : Me T (View T)). (own x.0).notes) later

    pub seen_learned : Learned (own m.0) (own w.0)
    seen_learned = subst (λ (x : Me T (View T)). Learned (own m.0) (own x.0)) (sym later)
        record { number = refl; mine = refl; seen = (goes.more, goes.begins); notes = ([], refl); watched = refl }

  -- a pass that was dealt
  pub new_seat : {trusted : Type 0} (n number : ℕ) (w : Me T (View T)) → w ≡ (resting (newcomer number ∷ []), []) → IsSeatOf trusted n number w
  new_seat {trusted} n number w is = subst (λ (x : Me T (View T)). IsSeatOf trusted n number x) (sym is)
      record {
        single = refl;
        number_is = refl;
        once = λ j. omega arith;
        same = λ j. refl;
        below = λ j h. absurd (omega arith);
        legal = λ t. tt;
        mine = refl;
        watches = tt;
        each_once = tt;
      }

-- the passes that are left to deal out
pub newcomers_next : (number passes : ℕ) → number < passes → newcomers number (passes - number) ≡ newcomer number ∷ newcomers (number + 1) (passes - (number + 1))
newcomers_next number passes h = let k : passes - number ≡ suc (passes - (number + 1)) = omega arith in ap (newcomers number) k

-- one pass more
pub new_snoc : {T trusted : Type 0} (gates : Gates T) (a : ℕ) (ps : List (Pass T)) (p : Pass T) → AreNew trusted gates a ps → IsResting trusted gates p → known p ≡ newcomer (a + length ps)
    → AreNew trusted gates a (ps ++ p ∷ [])
new_snoc gates a [] p all resting is = (resting, is ∙ ap newcomer (omega arith), tt)
new_snoc gates a (q ∷ ps) p all resting is =
    (all.0, all.1, new_snoc gates (a + 1) ps p all.2 resting (is ∙ ap newcomer (let e : a + length (q ∷ ps) ≡ a + 1 + length ps = omega arith in e)))

pub zeros : (n k : ℕ) → slice_index (replicate n 0) k ≡ 0
zeros zero k = refl
zeros (suc n) zero = refl
zeros (suc n) (suc k) = zeros n k

pub zeros_length : (n : ℕ) → length (replicate {A = ℕ} n 0) ≡ n
zeros_length zero = refl
zeros_length (suc n) = omega (arith, zeros_length n)

module _ {T : Type 0} (o : Me T (View T)) (number passes : ℕ) (less : number < passes) (is : o ≡ (resting (newcomers number (passes - number)), [])) where
  -- the pass that was dealt
  pub dealt_first : (w : Me T (View T)) → w ≡ (resting (first_of o.0.passes ∷ []), o.1) → w ≡ (resting (newcomer number ∷ []), [])
  dealt_first w first =
      let F : Me T (View T) → Me T (View T) = λ x. (resting (first_of x.0.passes ∷ []), x.1) in
      let G : List Knowledge → Me T (View T) = λ l. (resting (first_of l ∷ []), []) in
      first ∙ ap F is ∙ ap G (newcomers_next number passes less)

  -- and those that are left
  pub dealt_others : (w : Me T (View T)) → w ≡ (resting (others_of o.0.passes), []) → w ≡ (resting (newcomers (number + 1) (passes - (number + 1))), [])
  dealt_others w others =
      let F : Me T (View T) → Me T (View T) = λ x. (resting (others_of x.0.passes), []) in
      let G : List Knowledge → Me T (View T) = λ l. (resting (others_of l), []) in
      others ∙ ap F is ∙ ap G (newcomers_next number passes less)

-- the seats of two passes that have met
module _ {T : Type 0} (m w : Me T (View T)) (one two : Knowledge) (passes : m.0.passes ≡ one ∷ two ∷ []) where
  pub met_first : m.1 ≡ [] → w ≡ (resting (first_of m.0.passes ∷ []), m.1) → w ≡ (resting (one ∷ []), [])
  met_first nothing is =
      let F : List (ℕ × T) → Me T (View T) = λ l. (resting (first_of m.0.passes ∷ []), l) in
      let G : List Knowledge → Me T (View T) = λ l. (resting (first_of l ∷ []), []) in
      is ∙ ap F nothing ∙ ap G passes

  pub met_second : w ≡ (resting (others_of m.0.passes), []) → w ≡ (resting (two ∷ []), [])
  met_second is = let G : List Knowledge → Me T (View T) = λ l. (resting (others_of l), []) in is ∙ ap G passes

-- a pass that found a stripe busy, after it had taken others
pub was_busy : (stripe : ℕ) (a b c d : Knowledge) → Learned a b → b.notes ≡ a.notes → WasTold (Busy stripe) b c → d ≡ c → WasBusy stripe a d
was_busy stripe a b c d learned told busy same =
    subst (WasBusy stripe a) (sym same)
    record {
      number = busy.number ∙ learned.number;
      mine = busy.mine ∙ learned.mine;
      seen = (learned.seen.0, busy.seen ∙ learned.seen.1);
      watched = busy.watched ∙ learned.watched;
      notes = busy.notes ∙ ap (λ (l : List Note). Busy stripe ∷ l) told;
    }

-- what is told when parts are given back, and nothing is forgotten, leaves them fit
pub telling_fit : {T : Type 0} (contents : Meaning T) (n : ℕ) (ends : Bool) (told : List Note) (knows : Knowledge) (took : List (ℕ × (ℕ × T))) (parts : List (ℕ × T))
    → AllFit contents n (kept ends [] knows) took parts → AllFit contents n (kept ends told knows) took parts
telling_fit {T} contents n ends told knows took parts fit =
    λ t j q e. let f = fit t j q e in record { reads = f.reads; marks = f.marks; was = f.was; taken = f.taken; early = f.early; own_marks = f.own_marks; others = f.others }

pub reversed_with : (numbers : List ℕ) (last : ℕ) → reverse (numbers ++ last ∷ []) ≡ last ∷ reverse numbers
reversed_with numbers last = reverse-append numbers (last ∷ [])

-- where nothing is held, all of it fits
pub nothing_fits : {T : Type 0} (contents : Meaning T) (n : ℕ) (knows : Knowledge) (took : List (ℕ × (ℕ × T))) (parts : List (ℕ × T)) → parts ≡ []
    → AllFit contents n knows took parts
nothing_fits {T} contents n knows took parts nothing =
    λ t j q e. absurd (cc (sym (ap (λ (l : List (ℕ × T)). part_at l j) nothing) ∙ e))
