-- Each step keeps the rule.
use Rattle.std.proofs.Common.{◌≡◌, ◌≢◌, ℕ, zero, suc, ◌+◌, ◌%◌, ◌^◌, ◌<◌, ◌≤◌, Bool, true, false, List, [], ◌∷◌, ◌++◌, cond, nat_eq, nat_lt, eqb, length, map, get_or, set, slice_index, slice_set, MatchBool, sym, refl, ap, subst, ◌∙◌, arith, eq-eqb, ne_eqb, inl, inr, ⊎_elim, length-set, get_or-set_other, get_or-set_same, length-append, None, Some, lt-ltb, le-ltb, mod-eq_of_lt}
use Rattle.std.proofs.lemmas.Bool.{cases_lt, cases_eq}
use mathlib.Core.Logic.{dite}
use mathlib.Core.Option.{Option, none, some, some-injective, some-ne-none}
use native.Mathlib.Decide.{ℕ_discrete}
use lib.ListN.{get_elem?}
use prog.Atomic.{either}
use Rattle.atomic_table.specs.Table.{State, Me, step, Act, keeps, takes, gives, Valid, Allows, Splits, Joins, stepped, carried_after, opening, rest}
use Rattle.words.specs.declared.history.Entry.{Entry}
use Rattle.words.specs.Store.{Bytes}
use Rattle.words.specs.History.{History, Pair, Legal, Extends, after, subhistory, keys_named, keys_of_pairs, AreWatches}
use Rattle.words.specs.Watches.{Marks, GoesBy}
use Rattle.gates.specs.Laws.{Laws}
use Rattle.words.specs.Stripes.{stripe_of, IsPart, AreElsewhere, LeavesStripe}
use Rattle.gates.specs.declared.view.Note.TheVariants.{Busy, Worn}
use Rattle.gates.specs.declared.view.Note.{Note}
use Rattle.gates.specs.declared.view.Knowledge.{Knowledge}
use Rattle.gates.specs.declared.view.View.{View}
use Rattle.gates.specs.Sets.{times, without, part_at, without_part}
use Rattle.gates.specs.Rule.{Meaning, IsMarked, AreOwnMarks, EachMarked, touched_marks, word_of, AllLeave, total, Fits, EachFits, Names, passes_at, stands_for, armed_by, FitsView, IsHeld, Ruled, AreHeld, commit_word}
use Rattle.gates.specs.Plays.{first_of, own, IsSingle, kept, sees, notes, commits, all_see, knowing, taking, giving, EachGoesOn, Took, Missed, Tries, Arms, BecomesArmed, FindsWorn, Commits, Gives, Meets, newcomers, others_of, resting, unmet, joined, AreEmpty}
use Rattle.gates.proofs.Lists.{at_snoc, at_longer, total-append, each_set, set_here, set_else, total-set, terms_le, total-below, total-less, times_here, times_else, without_here, without_else}
use Rattle.gates.proofs.Frames.{none_both, names_none, part_left}
use Rattle.gates.proofs.Watched.{watches_more, watches_after}
use Rattle.gates.proofs.Marks.{each_fresh, each_both, each_seen, each_stays, own_stays, each_touched, touched_stays, marked_left, touched_left, each_given, mark_kept}
use Rattle.gates.specs.Passes.{FitsPart}

-- a word that is set to what it is
set_same : (l : List ℕ) (i : ℕ) → set l i (get_or l i 0) ≡ l
set_same [] i = refl
set_same (x ∷ xs) zero = refl
set_same (x ∷ xs) (suc i) = ap (λ l. x ∷ l) (set_same xs i)

-- the word of another stripe stays
other_word : (words : List ℕ) (i j x : ℕ) → j ≢ i → slice_index (slice_set words (word_of i) x) (word_of j) ≡ slice_index words (word_of j)
other_word words i j x ne = let apart : word_of j ≢ word_of i = (λ e. ne (omega arith)) in get_or-set_other words (word_of i) (word_of j) x 0 apart

one_at_most : (b : Bool) → cond b 1 0 ≤ 1
one_at_most true = omega arith
one_at_most false = omega arith

-- knowledge of a single pass
module _ {T : Type 0} (v : View T) (single : IsSingle v) where
  own_fits : (stripes : ℕ) (log : History) → EachFits stripes log v.held v.passes → Fits stripes log v.held (own v)
  own_fits stripes log all = let each : EachFits stripes log v.held (own v ∷ []) = subst (EachFits stripes log v.held) single all in each.0

  own_stands : stands_for (own v).number v ≡ 1
  own_stands =
      ap (λ (ks : List Knowledge). times (own v).number (map (λ (k : Knowledge). k.number) ks)) single
      ∙ times_here (own v).number []

  own_weight : passes_at v ≡ 1
  own_weight = ap (λ (ks : List Knowledge). length ks) single

-- a pass that a stripe's word names
module _ {T : Type 0} (words : List ℕ) (stripe : ℕ) (u : View T) (named : Names words stripe u.passes) where
  named_single : IsSingle u
  named_single = named.single ∙ ap (λ (k : Knowledge). k ∷ []) (sym (ap first_of named.single))

  named_word : slice_index words (word_of stripe) ≡ (own u).number + 1
  named_word = named.word ∙ ap (λ (k : Knowledge). k.number + 1) (sym (ap first_of named.single))

word_not_zero : {T : Type 0} (words : List ℕ) (stripe : ℕ) (u : View T) → Names words stripe u.passes → slice_index words (word_of stripe) ≡ 0 → ⊥
word_not_zero words stripe u named zero_word = omega (arith, named_word words stripe u named)

names_at : (words later : List ℕ) (stripe : ℕ) (ps : List Knowledge) → slice_index later (word_of stripe) ≡ slice_index words (word_of stripe)
    → Names words stripe ps → Names later stripe ps
names_at words later stripe ps same named = record { knows = named.knows; single = named.single; word = same ∙ named.word }

-- keys of held stripes are elsewhere than a stripe that is not held
entry_leaves : (stripes stripe : ℕ) (held : List ℕ) (keys : List Bytes) → AreHeld stripes held keys → times stripe held ≡ 0 → AreElsewhere stripes stripe keys
entry_leaves stripes stripe held [] all none_held = tt
entry_leaves stripes stripe held (key ∷ keys) all none_held =
    ((λ here. let h : 0 < times stripe held = subst (λ k. 0 < times k held) here all.0 in omega arith), entry_leaves stripes stripe held keys all.1 none_held)

-- entries of another pass that leave what a pass holds
each_later : (stripes : ℕ) (log : History) (entry : Entry) (held : List ℕ) (ps : List Knowledge)
    → times entry.session (map (λ (k : Knowledge). k.number) ps) ≡ 0 → ((stripe : ℕ) → 0 < times stripe held → LeavesStripe stripes stripe entry.operation)
    → EachFits stripes log held ps → EachFits stripes (entry ∷ log) held ps
each_later stripes log entry held [] other leaves all = tt
each_later stripes log entry held (k ∷ ks) other leaves all =
    let ne : entry.session ≢ k.number = (λ e. let one : times entry.session (k.number ∷ map (λ (k : Knowledge). k.number) ks) ≡ 1 + times entry.session (map (λ (k : Knowledge). k.number) ks) = subst (λ m. times entry.session (m ∷ map (λ (k : Knowledge). k.number) ks) ≡ 1 + times entry.session (map (λ (k : Knowledge). k.number) ks)) e (times_here entry.session (map (λ (k : Knowledge). k.number) ks)) in omega arith) in
    let ne' : k.number ≢ entry.session = (λ e. ne (sym e)) in
    let f = all.0 in (
      record {
        more = entry ∷ f.more;
        begins = ap (λ l. entry ∷ l) f.begins;
        leave = λ stripe h. (leaves stripe h, f.leave stripe h);
        mine = f.mine ∙ sym (ap (λ b. cond b ((length log, entry) ∷ subhistory log k.number) (subhistory log k.number)) (ne_eqb entry.session k.number ne));
        mine_seen = f.mine_seen;
        watches = f.watches;
      },
      each_later stripes log entry held ks (sym (times_else entry.session k.number (map (λ (k : Knowledge). k.number) ks) ne') ∙ other) leaves all.1,
    )

module _ {T : Type 0} (contents : Meaning T) (passes : ℕ) (s : State T (View T)) (ruled : Ruled contents passes s) (id : ℕ) (v : View T) (at : get_elem? s.views id ≡ some v) where
  mine_fits : FitsView (length s.homes) s.words ruled.log v
  mine_fits = ruled.views id v at

  dealt_set : (w : View T) → passes_at w ≡ passes_at v → total passes_at (set s.views id w) ≡ passes
  dealt_set w same = omega (arith, total-set passes_at s.views id v w at, ruled.dealt)

  once_set : (w : View T) → ((number : ℕ) → stands_for number w ≡ stands_for number v) → (number : ℕ) → total (stands_for number) (set s.views id w) ≤ 1
  once_set w same number = omega (arith, total-set (stands_for number) s.views id v w at, ruled.once number, same number)

  module _ (single : IsSingle v) where
    others_stand : (j : ℕ) (u : View T) → j ≢ id → get_elem? s.views j ≡ some u → stands_for (own v).number u ≡ 0
    others_stand j u ne there =
        omega (arith, own_stands v single, ruled.once (own v).number, terms_le (stands_for (own v).number) s.views id j v u ne at there)

    number_apart : (j : ℕ) (u : View T) → j ≢ id → get_elem? s.views j ≡ some u → IsSingle u → (own u).number ≢ (own v).number
    number_apart j u ne there u_single e =
        let one : stands_for (own v).number u ≡ 1 = subst (λ q. stands_for q u ≡ 1) e (own_stands u u_single) in omega (arith, others_stand j u ne there)

    -- no stripe is held twice
    not_both : (stripe j : ℕ) (u : View T) → j ≢ id → get_elem? s.views j ≡ some u → 0 < times stripe v.held → 0 < times stripe u.held → ⊥
    not_both stripe j u ne there mine theirs =
        let a = (mine_fits.names stripe mine).1 in
        let b = ((ruled.views j u there).names stripe theirs).1 in
        let a_word = named_word s.words stripe v a in let b_word = named_word s.words stripe u b in
        number_apart j u ne there (named_single s.words stripe u b) (omega arith)

  -- what the marks of a stripe say of all passes, where they say it of those of the view that is new
  all_marked : (n stripe : ℕ) (marks : Marks) (log later : History) (w : View T)
      → ((j : ℕ) (u : View T) → j ≢ id → get_elem? s.views j ≡ some u → EachMarked n stripe marks log u.passes → EachMarked n stripe marks later u.passes)
      → (EachMarked n stripe marks log v.passes → EachMarked n stripe marks later w.passes)
      → ((j : ℕ) (u : View T) → get_elem? s.views j ≡ some u → EachMarked n stripe marks log u.passes)
      → (j : ℕ) (u : View T) → get_elem? (set s.views id w) j ≡ some u → EachMarked n stripe marks later u.passes
  all_marked n stripe marks log later w others mine all =
      each_set (λ j u. EachMarked n stripe marks later u.passes) s.views id w (mine (all id v at)) (λ j u ne there. others j u ne there (all j u there))

  -- a stripe that is held stays held
  stays_held : (later : History) (words : List ℕ) (homes : List (Option T)) (w : View T) (stripe : ℕ)
      → length homes ≡ length s.homes → length ruled.log ≤ length later
      → (0 < times stripe v.held → 0 < times stripe w.held) → part_at w.taken stripe ≡ part_at v.taken stripe
      → get_elem? homes stripe ≡ get_elem? s.homes stripe
      → ((marks : Marks) (moment : ℕ) → moment ≤ length ruled.log → (j : ℕ) (u : View T) → j ≢ id → get_elem? s.views j ≡ some u
      → EachMarked (length s.homes) stripe (touched_marks ruled.log moment marks) ruled.log u.passes
      → EachMarked (length s.homes) stripe (touched_marks later moment marks) later u.passes)
      → ((marks : Marks) (moment : ℕ) → moment ≤ length ruled.log → (j : ℕ) (u : View T) → j ≢ id → get_elem? s.views j ≡ some u → 0 < times stripe u.held
      → EachMarked (length s.homes) stripe (touched_marks ruled.log moment marks) ruled.log v.passes
      → EachMarked (length s.homes) stripe (touched_marks later moment marks) later w.passes)
      → IsHeld contents s ruled.log stripe → IsHeld {T = T} contents record { words = words; homes = homes; views = set s.views id w } later stripe
  stays_held later words homes w stripe size longer keep keep_taken same others mine h =
      let n = length s.homes in
      let marks = contents.marks h.was.1 in
      dite (ℕ_discrete h.seat id)
      (λ e.
      let is : h.view ≡ v = some-injective h.view v (sym h.there ∙ ap (get_elem? s.views) e ∙ at) in
      record {
        seat = id;
        view = w;
        there = set_here s.views id w v at;
        holds = keep (subst (λ (x : View T). 0 < times stripe x.held) is h.holds);
        away = same ∙ h.away;
        was = h.was;
        taken = keep_taken ∙ sym (ap (λ (x : View T). part_at x.taken stripe) is) ∙ h.taken;
        early = omega (arith, h.early);
        marks = λ t j u ne there. let there' = sym (set_else s.views id j w ne) ∙ there in
            subst (λ (k : ℕ). EachMarked k stripe (touched_marks later h.was.0 marks) later u.passes) (sym size)
            (others marks h.was.0 h.early j u ne there' (h.marks t j u (λ x. ne (x ∙ e)) there'));
      })
      (λ ne. record {
        seat = h.seat;
        view = h.view;
        there = set_else s.views id h.seat w ne ∙ h.there;
        holds = h.holds;
        away = same ∙ h.away;
        was = h.was;
        taken = h.taken;
        early = omega (arith, h.early);
        marks = λ t j u apart there.
            subst (λ (k : ℕ). EachMarked k stripe (touched_marks later h.was.0 marks) later u.passes) (sym size)
            (dite (ℕ_discrete j id)
            (λ e. let is : w ≡ u = some-injective w u (sym (set_here s.views id w v at) ∙ sym (ap (get_elem? (set s.views id w)) e) ∙ there) in
            subst (λ (x : View T). EachMarked n stripe (touched_marks later h.was.0 marks) later x.passes) is
            (mine marks h.was.0 h.early h.seat h.view ne h.there h.holds (h.marks t id v (λ x. ne (sym x)) at)))
            (λ other. let there' = sym (set_else s.views id j w other) ∙ there in
            others marks h.was.0 h.early j u other there' (h.marks t j u apart there')));
      })

  -- the same where the log stays
  still_held : (words : List ℕ) (homes : List (Option T)) (w : View T) (stripe : ℕ) → length homes ≡ length s.homes
      → (0 < times stripe v.held → 0 < times stripe w.held) → part_at w.taken stripe ≡ part_at v.taken stripe
      → get_elem? homes stripe ≡ get_elem? s.homes stripe
      → ((marks : Marks) → EachMarked (length s.homes) stripe marks ruled.log v.passes → EachMarked (length s.homes) stripe marks ruled.log w.passes)
      → IsHeld contents s ruled.log stripe → IsHeld {T = T} contents record { words = words; homes = homes; views = set s.views id w } ruled.log stripe
  still_held words homes w stripe size keep keep_taken same mine h =
      stays_held ruled.log words homes w stripe size (omega arith) keep keep_taken same
      (λ marks moment early j u ne there is. is) (λ marks moment early j u ne there holds is. mine (touched_marks ruled.log moment marks) is) h

  -- another view, where the words of its stripes stay
  fits_still : (words : List ℕ) (j : ℕ) (u : View T) → get_elem? s.views j ≡ some u
      → ((stripe : ℕ) → 0 < times stripe u.held → slice_index words (word_of stripe) ≡ slice_index s.words (word_of stripe)) → FitsView (length s.homes) words ruled.log u
  fits_still words j u there same =
      let f = ruled.views j u there in
      record {
        fits = f.fits;
        ready = f.ready;
        names = λ stripe h. let t = f.names stripe h in (t.0, names_at s.words words stripe u.passes (same stripe h) t.1);
      }

  -- a step that changes no word and no slot
  looks : (w : View T) → passes_at w ≡ passes_at v → ((number : ℕ) → stands_for number w ≡ stands_for number v)
      → length ruled.log + total armed_by (set s.views id w) ≤ 2 ^ 62 + passes → FitsView (length s.homes) s.words ruled.log w
      → ((stripe : ℕ) → 0 < times stripe v.held → 0 < times stripe w.held)
      → ((stripe : ℕ) → part_at w.taken stripe ≡ part_at v.taken stripe)
      → ((stripe : ℕ) (marks : Marks) → EachMarked (length s.homes) stripe marks ruled.log v.passes → EachMarked (length s.homes) stripe marks ruled.log w.passes)
      → Ruled contents passes record { words = s.words; homes = s.homes; views = set s.views id w }
  looks w heavy stands room fits keep keep_taken marked =
      record {
        log = ruled.log;
        legal = ruled.legal;
        wide = ruled.wide;
        few = ruled.few;
        counts = ruled.counts;
        room = room;
        dealt = dealt_set w heavy;
        once = once_set w stands;
        views = each_set (λ j u. FitsView (length s.homes) s.words ruled.log u) s.views id w fits (λ j u ne there. ruled.views j u there);
        stripes = λ stripe h. ⊎_elim
            (λ free. inl record {
              word = free.word;
              part = free.part;
              home = free.home;
              reads = free.reads;
              own = free.own;
              marks = λ t. all_marked (length s.homes) stripe (contents.marks free.part) ruled.log ruled.log w (λ j u ne there is. is) (marked stripe (contents.marks free.part)) (free.marks t);
            })
            (λ held. inr (still_held s.words s.homes w stripe refl (keep stripe) (keep_taken stripe) refl (marked stripe) held)) (ruled.stripes stripe h);
      }

-- the marks of a single pass
one_marked : {T : Type 0} (n stripe : ℕ) (marks : Marks) (log : History) (v : View T) → IsSingle v → EachMarked n stripe marks log v.passes → IsMarked n stripe marks log (own v)
one_marked n stripe marks log v single all = let e : EachMarked n stripe marks log (own v ∷ []) = subst (EachMarked n stripe marks log) single all in e.0

-- a load leaves the words
loaded : {T V : Type 0} (holds : State T V → Type 0) (s : State T V) (i id : ℕ) (w : V) → holds record { words = s.words; homes = s.homes; views = set s.views id w }
    → holds record { words = slice_set s.words i (slice_index s.words i); homes = s.homes; views = set s.views id w }
loaded {T} {V} holds s i id w h =
    subst (λ (ws : List ℕ). holds record { words = ws; homes = s.homes; views = set s.views id w }) (sym (set_same s.words i)) h

-- what the rule says of a view, with its one pass knowing something else of the same history
same_fits : {T : Type 0} (n : ℕ) (words : List ℕ) (log : History) (v : View T) → IsSingle v → (knows : Knowledge) → knows.number ≡ (own v).number
    → Fits n log v.held knows → FitsView n words log v → FitsView n words log (knowing v knows)
same_fits n words log v single knows number fits f =
    record {
      fits = (fits, tt);
      ready = omega (arith, own_weight v single, f.ready);
      names = λ stripe h. let t = f.names stripe h in (
        t.0,
        record { knows = knows; single = refl; word = named_word words stripe v t.1 ∙ ap (λ (k : ℕ). k + 1) (sym number) },
      );
    }

noted : (n : ℕ) (log : History) (held : List ℕ) (knows later : Knowledge) → later.number ≡ knows.number → later.seen ≡ knows.seen → later.mine ≡ knows.mine
    → later.watched ≡ knows.watched
    → Fits n log held knows → Fits n log held later
noted n log held knows later number seen mine watched f =
    record {
      more = f.more;
      begins = f.begins ∙ ap (λ (l : History). f.more ++ l) (sym seen);
      leave = f.leave;
      mine = mine ∙ f.mine ∙ ap (λ (k : ℕ). subhistory log k) (sym number);
      mine_seen = mine ∙ f.mine_seen ∙ ap (λ (k : ℕ). subhistory knows.seen k) (sym number) ∙ ap (λ (l : History). subhistory l later.number) (sym seen);
      watches = subst (λ (l : History). AreWatches l later.number later.watched) (sym seen)
          (subst (λ (k : ℕ). AreWatches knows.seen k later.watched) (sym number)
          (subst (λ (w : List Pair). AreWatches knows.seen knows.number w) (sym watched) f.watches));
    }

set_there : {A : Type 0} (l : List A) (i : ℕ) (a : A) → i < length l → get_elem? (set l i a) i ≡ some a
set_there [] i a h = absurd (omega arith)
set_there (x ∷ xs) zero a h = refl
set_there (x ∷ xs) (suc i) a h = set_there xs i a (omega arith)

-- what fits with a stripe held fits without it
fewer_held : (n : ℕ) (log : History) (i : ℕ) (held : List ℕ) (ps : List Knowledge) → EachFits n log held ps → EachFits n log (without i held) ps
fewer_held n log i held [] all = tt
fewer_held n log i held (k ∷ ks) all =
    let f = all.0 in (
      record {
        more = f.more;
        begins = f.begins;
        leave = λ stripe h. dite (ℕ_discrete stripe i)
            (λ e. let none_left : times stripe (without i held) ≡ 0 = ap (λ (j : ℕ). times j (without i held)) e ∙ without_here i held in absurd (omega arith))
            (λ ne. f.leave stripe (omega (arith, without_else i stripe held ne)));
        mine = f.mine;
        mine_seen = f.mine_seen;
        watches = f.watches;
      },
      fewer_held n log i held ks all.1,
    )

pub part_without : {A : Type 0} (i j : ℕ) (parts : List (ℕ × A)) → j ≢ i → part_at (without_part i parts) j ≡ part_at parts j
part_without i j [] ne = refl
part_without i j (x ∷ xs) ne = ⊎_elim
    (λ same. ap (λ b. part_at (cond b (without_part i xs) (x ∷ without_part i xs)) j) (eq-eqb x.0 i same) ∙ part_without i j xs ne
    ∙ sym (ap (λ b. cond b (Some x.1) (part_at xs j)) (ne_eqb x.0 j (λ e. ne (sym e ∙ same)))))
    (λ other. ap (λ b. part_at (cond b (without_part i xs) (x ∷ without_part i xs)) j) (ne_eqb x.0 i other)
    ∙ ap (λ o. cond (nat_eq x.0 j) (Some x.1) o) (part_without i j xs ne))
    (cases_eq x.0 i)

pub same_some : {A : Type 0} (a b : A) (o : Rattle.std.specs.Prelude.Option A) → o ≡ Some a → o ≡ Some b → a ≡ b
same_some a b o one two = cc

pub watches_kept : (ends : Bool) (told : List Note) (k : Knowledge) → AreWatches k.seen k.number k.watched → AreWatches k.seen k.number (kept ends told k).watched
watches_kept true told k are = tt
watches_kept false told k are = are

module _ {T : Type 0} (laws : Laws) (contents : Meaning T) (passes slots id : ℕ) where
  -- A look at the commit word
  pub arms : (m : Me T (View T)) → IsSingle m.0 → m.0.armed ≡ false
      → Allows (Ruled contents passes) slots id m commit_word (λ n. n) (Arms (step slots commit_word 0 0 none) m)
  arms m single unarmed s ruled wide at small =
      let v = m.0 in
      let found = slice_index s.words commit_word in
      let none_armed : armed_by v ≡ 0 = ap (λ b. cond b 1 0) unarmed in
      let one = own_weight v single in
      ⊎_elim
      (λ below.
      let w : View T = record v { armed = true } in
      let less = total-less armed_by passes_at s.views id v at (omega arith) (λ j u there. (ruled.views j u there).ready) in
      let f = mine_fits contents passes s ruled id v at in (
        w,
        keeps,
        tt,
        loaded (Ruled contents passes) s commit_word id w (looks contents passes s ruled id v at w refl (λ q. refl)
            (omega (arith, total-set armed_by s.views id v w at, ruled.counts, ruled.dealt))
            record { fits = f.fits; ready = omega arith; names = f.names } (λ stripe h. h) (λ stripe. refl) (λ stripe marks is. is)),
        subst (λ b. MatchBool b (BecomesArmed m (w, m.1)) (FindsWorn m (w, m.1))) (sym (lt-ltb found (2 ^ 62) below)) refl,
      ))
      (λ above.
      let w : View T = knowing v (notes (own v) Worn) in
      let f = mine_fits contents passes s ruled id v at in (
        w,
        keeps,
        tt,
        loaded (Ruled contents passes) s commit_word id w (looks contents passes s ruled id v at w (sym one)
            (λ q. ap (λ (ks : List Knowledge). times q (map (λ (k : Knowledge). k.number) ks)) (sym single))
            (omega (arith, total-set armed_by s.views id v w at, ruled.room))
            (same_fits (length s.homes) s.words ruled.log v single (notes (own v) Worn) refl
            (noted (length s.homes) ruled.log v.held (own v) (notes (own v) Worn) refl refl refl refl (own_fits v single (length s.homes) ruled.log f.fits)) f)
            (λ stripe h. h) (λ stripe. refl) (λ stripe marks is. (one_marked (length s.homes) stripe marks ruled.log v single is, tt))),
        subst (λ b. MatchBool b (BecomesArmed m (w, m.1)) (FindsWorn m (w, m.1))) (sym (le-ltb found (2 ^ 62) above)) refl,
      ))
      (cases_lt found (2 ^ 62))

  -- A commit
  pub commits_step : (m : Me T (View T)) (entry : Entry) → IsSingle m.0 → m.0.armed ≡ true → entry.session ≡ (own m.0).number
      → (contents.trusted → Legal (entry ∷ (own m.0).seen)) → GoesBy (own m.0).watched entry.operation → AreHeld slots m.0.held (keys_named entry.operation)
      → Allows (Ruled contents passes) slots id m commit_word (λ n. (n + 1) % 2 ^ 64) (Commits contents.trusted entry (step slots commit_word 1 0 none) m)
  commits_step m entry single armed session due_here goes keys s ruled wide at small =
      let v = m.0 in
      let log = ruled.log in
      let n = length s.homes in
      let found = slice_index s.words commit_word in
      let one_armed : armed_by v ≡ 1 = ap (λ b. cond b 1 0) armed in
      let f = mine_fits contents passes s ruled id v at in
      let g : Fits n log v.held (own v) = own_fits v single n log f.fits in
      let may = nat_lt found (2 ^ 62) in
      let w : View T = record v { passes = commits (own v) log entry ∷ []; armed = may } in
      let sum = total-set armed_by s.views id v w at in
      let few = ruled.few in
      let room = ruled.room in
      let counts = ruled.counts in
      let fits_word : found + 1 < 2 ^ 64 = omega arith in
      let next : (found + 1) % 2 ^ 64 ≡ found + 1 = mod-eq_of_lt fits_word in
      let held_keys : AreHeld n v.held (keys_named entry.operation) = subst (λ (k : ℕ). AreHeld k v.held (keys_named entry.operation)) (sym wide) keys in
      let legal : contents.trusted → Legal (entry ∷ log) = λ t. (
        ruled.legal t,
        subst (λ (l : History). Extends l entry) (sym g.begins)
            (laws.extends entry g.more (own v).seen (names_none n v.held g.more g.leave (keys_named entry.operation) held_keys) (due_here t).1),
      ) in
      let watches_log : AreWatches log (own v).number (own v).watched =
      subst (λ (l : History). AreWatches l (own v).number (own v).watched) (sym g.begins) (watches_more laws g.more (own v).seen (own v).number (own v).watched g.watches) in
      let watches : AreWatches (entry ∷ log) (own v).number (commits (own v) log entry).watched =
      subst (λ (k : ℕ). AreWatches (entry ∷ log) k (commits (own v) log entry).watched) session
      (watches_after laws entry log (own v).watched (subst (λ (k : ℕ). AreWatches log k (own v).watched) (sym session) watches_log)) in
      let own_still : (stripe : ℕ) (marks : Marks) → times stripe v.held ≡ 0 → EachMarked n stripe marks log v.passes → EachMarked n stripe marks (entry ∷ log) w.passes =
      (λ stripe marks none is. (own_stays laws n stripe marks log entry v.held (own v) (entry_leaves n stripe v.held (keys_named entry.operation) held_keys none) goes g (one_marked n stripe marks log v single is), tt)) in
      let leaves : (stripe : ℕ) → times stripe v.held ≡ 0 → LeavesStripe n stripe entry.operation = (λ stripe h. entry_leaves n stripe v.held (keys_named entry.operation) held_keys h) in
      let mine : (length log, entry) ∷ (own v).mine ≡ subhistory (entry ∷ log) (own v).number =
      ap (λ (l : List (ℕ × Entry)). (length log, entry) ∷ l) g.mine
      ∙ sym (ap (λ b. cond b ((length log, entry) ∷ subhistory log (own v).number) (subhistory log (own v).number)) (eq-eqb entry.session (own v).number session)) in (
        w,
        keeps,
        tt,
        record {
          log = entry ∷ log;
          legal = legal;
          wide = length-set s.words commit_word ((found + 1) % 2 ^ 64) ∙ ruled.wide;
          few = few;
          counts = get_or-set_same s.words commit_word ((found + 1) % 2 ^ 64) 0 (omega (arith, ruled.wide)) ∙ next ∙ omega arith;
          room = ⊎_elim
              (λ below.
              let stays : armed_by w ≡ 1 = ap (λ b. cond b 1 0) (lt-ltb found (2 ^ 62) below) in
              omega (arith, sum, stays, counts, ruled.dealt, total-below armed_by passes_at s.views (λ j u there. (ruled.views j u there).ready)))
              (λ above. let none : armed_by w ≡ 0 = ap (λ b. cond b 1 0) (le-ltb found (2 ^ 62) above) in omega (arith, sum, none))
              (cases_lt found (2 ^ 62));
          dealt = dealt_set contents passes s ruled id v at w (sym (own_weight v single));
          once = once_set contents passes s ruled id v at w (λ q. ap (λ (ks : List Knowledge). times q (map (λ (k : Knowledge). k.number) ks)) (sym single));
          views = each_set (λ j u. FitsView n (set s.words commit_word ((found + 1) % 2 ^ 64)) (entry ∷ log) u) s.views id w
              record {
                fits = (
                  record { more = []; begins = refl; leave = λ _ _. tt; mine = mine; mine_seen = mine; watches = watches },
                  tt,
                );
                ready = one_at_most may;
                names = λ stripe h. let t = f.names stripe h in (
                  t.0,
                  record {
                    knows = commits (own v) log entry;
                    single = refl;
                    word = get_or-set_other s.words commit_word (word_of stripe) ((found + 1) % 2 ^ 64) 0 (λ e. omega arith) ∙ named_word s.words stripe v t.1;
                  },
                );
              }
              (λ j u ne there.
              let old = ruled.views j u there in
              record {
                fits = each_later n log entry u.held u.passes
                    (ap (λ (k : ℕ). times k (map (λ (x : Knowledge). x.number) u.passes)) session ∙ others_stand contents passes s ruled id v at single j u ne there)
                    (λ stripe h. leaves stripe (omega (arith, λ (mine_too : 0 < times stripe v.held). not_both contents passes s ruled id v at single stripe j u ne there mine_too h)))
                    old.fits;
                ready = old.ready;
                names = λ stripe h. let t = old.names stripe h in (
                  t.0,
                  names_at s.words (set s.words commit_word ((found + 1) % 2 ^ 64)) stripe u.passes
                      (get_or-set_other s.words commit_word (word_of stripe) ((found + 1) % 2 ^ 64) 0 (λ e. omega arith)) t.1,
                );
              });
          stripes = λ stripe h. ⊎_elim
              (λ free. inl record {
                word = get_or-set_other s.words commit_word (word_of stripe) ((found + 1) % 2 ^ 64) 0 (λ e. omega arith) ∙ free.word;
                part = free.part;
                home = free.home;
                reads = λ t. part_left laws n stripe (contents.store free.part) (entry ∷ []) log
                    (leaves stripe (omega (arith, λ (mine_too : 0 < times stripe v.held). word_not_zero s.words stripe v ((f.names stripe mine_too).1) free.word)), tt) (free.reads t);
                own = free.own;
                marks = λ t. let not_mine : times stripe v.held ≡ 0 = omega (arith, λ (mine_too : 0 < times stripe v.held). word_not_zero s.words stripe v ((f.names stripe mine_too).1) free.word) in
                    let marks = contents.marks free.part in
                    all_marked contents passes s ruled id v at n stripe marks log (entry ∷ log) w
                    (λ j u ne there is. each_stays laws n stripe marks log entry u.held u.passes (leaves stripe not_mine) (ruled.views j u there).fits is)
                    (own_still stripe marks not_mine) (free.marks t);
              })
              (λ held. inr (stays_held contents passes s ruled id v at (entry ∷ log) (set s.words commit_word ((found + 1) % 2 ^ 64)) s.homes w stripe refl (omega arith) (λ x. x) refl refl
              (λ marks moment early j u ne there is. each_touched laws n stripe marks log entry u.held moment u.passes early (ruled.views j u there).fits is)
              (λ marks moment early j u ne there theirs is.
              let not_mine : times stripe v.held ≡ 0 = omega (arith, λ (mine_too : 0 < times stripe v.held). not_both contents passes s ruled id v at single stripe j u ne there mine_too theirs) in
              let own_is = own_still stripe (touched_marks log moment marks) not_mine is in
              ((λ key here. touched_stays laws n stripe marks log entry moment early (leaves stripe not_mine) key (own v).number here ∙ own_is.0 key here), tt))
              held)) (ruled.stripes stripe h);
        },
        record {
          before = log;
          goes_on = record {
            more = g.more;
            begins = g.begins;
            leave = subst (λ (k : ℕ). (stripe : ℕ) → 0 < times stripe v.held → AllLeave k stripe g.more) wide g.leave;
            legal = ruled.legal;
            mine = g.mine;
          };
          place = counts;
          legal = legal;
          mine = mine;
          seat = refl;
        },
      )

  -- One try of a stripe that the pass does not hold
  pub tries : (m : Me T (View T)) (i : ℕ) → IsSingle m.0 → i < slots → times i m.0.held ≡ 0 → (own m.0).number + 1 < 2 ^ 64
      → Allows (Ruled contents passes) slots id m (word_of i) (λ n. either (eqb n 0) ((own m.0).number + 1) n)
      (Tries contents (step slots (word_of i) 0 ((own m.0).number + 1) none) m)
  tries m i single below none_held small_number s ruled wide at small =
      let v = m.0 in
      let n = length s.homes in
      let words = s.words in
      let found = slice_index words (word_of i) in
      let f = mine_fits contents passes s ruled id v at in
      let g : Fits n ruled.log v.held (own v) = own_fits v single n ruled.log f.fits in
      let watches_log : AreWatches ruled.log (own v).number (own v).watched =
      subst (λ (l : History). AreWatches l (own v).number (own v).watched) (sym g.begins) (watches_more laws g.more (own v).seen (own v).number (own v).watched g.watches) in
      let then : ℕ → Me T (View T) → Type 0 = Tries contents (step slots (word_of i) 0 ((own v).number + 1) none) m in
      let Goal : ℕ → Type 0 = λ x. (w : View T) × (a : Act T) × Valid s.homes m.1 a × Ruled contents passes (stepped s (word_of i) x id m.1 w a) × then found (w, carried_after m.1 a) in
      let at_stripe : (w : Me T (View T)) (b : Bool) → nat_eq found 0 ≡ b → MatchBool b (Took contents slots i m w) (Missed i found m w) → then found w =
      (λ w b is told stripe e.
      let same : i ≡ stripe = omega arith in
      subst (λ (k : ℕ). MatchBool (nat_eq found 0) (Took contents slots k m w) (Missed k found m w)) same
      (subst (λ c. MatchBool c (Took contents slots i m w) (Missed i found m w)) (sym is) told)) in
      dite (ℕ_discrete found 0)
      (λ zero_word.
      subst (λ b. Goal (either b ((own v).number + 1) found)) (sym (eq-eqb found 0 zero_word))
      (⊎_elim
      (λ free.
      let w : View T = taking v i free.part ruled.log in
      let later = set words (word_of i) ((own v).number + 1) in (
        w,
        takes i free.part,
        free.home,
        record {
          log = ruled.log;
          legal = ruled.legal;
          wide = length-set words (word_of i) ((own v).number + 1) ∙ ruled.wide ∙ ap word_of (sym (length-set s.homes i none));
          few = ruled.few;
          counts = get_or-set_other words (word_of i) commit_word ((own v).number + 1) 0 (λ e. omega arith) ∙ ruled.counts;
          room = omega (arith, total-set armed_by s.views id v w at, ruled.room);
          dealt = dealt_set contents passes s ruled id v at w (sym (own_weight v single));
          once = once_set contents passes s ruled id v at w (λ q. ap (λ (ks : List Knowledge). times q (map (λ (k : Knowledge). k.number) ks)) (sym single));
          views = let same_size : length (set s.homes i none) ≡ n = length-set s.homes i none in
              subst (λ (k : ℕ). (j : ℕ) (u : View T) → get_elem? (set s.views id w) j ≡ some u → FitsView k later ruled.log u) (sym same_size)
              (each_set (λ j u. FitsView n later ruled.log u) s.views id w
              record {
                fits = (record { more = []; begins = refl; leave = λ _ _. tt; mine = g.mine; mine_seen = g.mine; watches = watches_log }, tt);
                ready = omega (arith, own_weight v single, f.ready);
                names = λ stripe h. dite (ℕ_discrete stripe i)
                    (λ e. (
                      omega arith,
                      record {
                        knows = sees (own v) ruled.log;
                        single = refl;
                        word = ap (λ (k : ℕ). slice_index later (word_of k)) e ∙ get_or-set_same words (word_of i) ((own v).number + 1) 0 (omega (arith, ruled.wide));
                      },
                    ))
                    (λ ne.
                    let t = f.names stripe (omega (arith, times_else stripe i v.held (λ e. ne (sym e)))) in (
                      t.0,
                      record {
                        knows = sees (own v) ruled.log;
                        single = refl;
                        word = other_word words i stripe ((own v).number + 1) ne ∙ named_word words stripe v t.1;
                      },
                    ));
              }
              (λ j u ne there. fits_still contents passes s ruled id v at later j u there
              (λ stripe h. other_word words i stripe ((own v).number + 1)
              (λ e. word_not_zero words i u (((ruled.views j u there).names i (subst (λ (k : ℕ). 0 < times k u.held) e h)).1) zero_word))));
          stripes = let same_size : length (set s.homes i none) ≡ n = length-set s.homes i none in
              λ stripe h. dite (ℕ_discrete stripe i)
              (λ e. inr record {
                seat = id;
                view = w;
                there = set_here s.views id w v at;
                holds = subst (λ (k : ℕ). 0 < times k (i ∷ v.held)) (sym e) (omega (arith, times_here i v.held));
                away = ap (get_elem? (set s.homes i none)) e ∙ set_here s.homes i none (some free.part) free.home;
                was = (length ruled.log, free.part);
                taken = ap (λ b. cond b (Some (length ruled.log, free.part)) (part_at v.taken stripe)) (eq-eqb i stripe (sym e));
                early = omega arith;
                marks = λ t j u apart there.
                    let marks = contents.marks free.part in
                    let there' = sym (set_else s.views id j w apart) ∙ there in
                    subst (λ (k : ℕ). EachMarked k stripe (touched_marks ruled.log (length ruled.log) marks) ruled.log u.passes) (sym same_size)
                    (subst (λ (k : ℕ). EachMarked n k (touched_marks ruled.log (length ruled.log) marks) ruled.log u.passes) (sym e)
                    (each_fresh n i marks ruled.log u.passes (free.marks t j u there')));
              })
              (λ ne. ⊎_elim
              (λ other. inl record {
                word = other_word words i stripe ((own v).number + 1) ne ∙ other.word;
                part = other.part;
                home = set_else s.homes i stripe none ne ∙ other.home;
                reads = λ t. subst (λ (k : ℕ). IsPart k stripe (contents.store other.part) (after ruled.log)) (sym same_size) (other.reads t);
                own = λ t. subst (λ (k : ℕ). AreOwnMarks k stripe (contents.marks other.part)) (sym same_size) (other.own t);
                marks = λ t. subst (λ (k : ℕ). (j : ℕ) (u : View T) → get_elem? (set s.views id w) j ≡ some u → EachMarked k stripe (contents.marks other.part) ruled.log u.passes) (sym same_size)
                    (all_marked contents passes s ruled id v at n stripe (contents.marks other.part) ruled.log ruled.log w (λ j u ne there is. is)
                    (λ is. (one_marked n stripe (contents.marks other.part) ruled.log v single is, tt)) (other.marks t));
              })
              (λ held. inr (still_held contents passes s ruled id v at later (set s.homes i none) w stripe same_size
              (λ x. omega (arith, times_else stripe i v.held (λ e. ne (sym e))))
              (ap (λ b. cond b (Some (length ruled.log, free.part)) (part_at v.taken stripe)) (ne_eqb i stripe (λ e. ne (sym e))))
              (set_else s.homes i stripe none ne)
              (λ marks is. (one_marked n stripe marks ruled.log v single is, tt)) held))
              (ruled.stripes stripe (omega (arith, same_size))));
        },
        at_stripe (w, (i, free.part) ∷ m.1) true (eq-eqb found 0 zero_word)
            record {
              part = free.part;
              log = ruled.log;
              goes_on = record {
                more = g.more;
                begins = g.begins;
                leave = subst (λ (k : ℕ). (stripe : ℕ) → 0 < times stripe v.held → AllLeave k stripe g.more) wide g.leave;
                legal = ruled.legal;
                mine = g.mine;
              };
              reads = λ t. subst (λ (k : ℕ). IsPart k i (contents.store free.part) (after ruled.log)) wide (free.reads t);
              own_marks = λ t. subst (λ (k : ℕ). AreOwnMarks k i (contents.marks free.part)) wide (free.own t);
              marked = λ t. subst (λ (k : ℕ). IsMarked k i (contents.marks free.part) ruled.log (own v)) wide (one_marked n i (contents.marks free.part) ruled.log v single (free.marks t id v at));
              seat = refl;
            },
      ))
      (λ held. let t = (ruled.views held.seat held.view held.there).names i held.holds in absurd (word_not_zero words i held.view t.1 zero_word))
      (ruled.stripes i (omega arith))))
      (λ other_word'.
      subst (λ b. Goal (either b ((own v).number + 1) found)) (sym (ne_eqb found 0 other_word'))
      (
      let w : View T = knowing v (notes (own v) (Busy i)) in
      let others : found ≢ (own v).number + 1 = (λ e. ⊎_elim (λ free. other_word' free.word)
      (λ held.
      let t = (ruled.views held.seat held.view held.there).names i held.holds in
      let same : (own held.view).number ≡ (own v).number = omega (arith, named_word words i held.view t.1) in
      dite (ℕ_discrete held.seat id)
      (λ here.
      let is : held.view ≡ v = some-injective held.view v (sym held.there ∙ ap (get_elem? s.views) here ∙ at) in
      let h : 0 < times i v.held = subst (λ (x : View T). 0 < times i x.held) is held.holds in
      omega arith)
      (λ ne. number_apart contents passes s ruled id v at single held.seat held.view ne held.there (named_single words i held.view t.1) same))
      (ruled.stripes i (omega arith))) in (
        w,
        keeps,
        tt,
        loaded (Ruled contents passes) s (word_of i) id w (looks contents passes s ruled id v at w (sym (own_weight v single))
            (λ q. ap (λ (ks : List Knowledge). times q (map (λ (k : Knowledge). k.number) ks)) (sym single))
            (omega (arith, total-set armed_by s.views id v w at, ruled.room))
            (same_fits n words ruled.log v single (notes (own v) (Busy i)) refl
            (noted n ruled.log v.held (own v) (notes (own v) (Busy i)) refl refl refl refl g) f)
            (λ stripe h. h) (λ stripe. refl) (λ stripe marks is. (one_marked n stripe marks ruled.log v single is, tt))),
        at_stripe (w, m.1) false (ne_eqb found 0 other_word') record { others = others; seat = refl },
      )
      ))

  -- the same at a word and a number that are the stripe's and the pass's
  pub tries_at : (m : Me T (View T)) (i word mine : ℕ) → word ≡ word_of i → mine ≡ (own m.0).number + 1 → IsSingle m.0 → i < slots → times i m.0.held ≡ 0 → mine < 2 ^ 64
      → Allows (Ruled contents passes) slots id m word (λ n. either (eqb n 0) mine n) (Tries contents (step slots word 0 mine none) m)
  tries_at m i word mine word_is mine_is single below none_held small =
      subst (λ (x : ℕ). Allows (Ruled contents passes) slots id m x (λ n. either (eqb n 0) mine n) (Tries contents (step slots x 0 mine none) m)) (sym word_is)
      (subst (λ (y : ℕ). Allows (Ruled contents passes) slots id m (word_of i) (λ n. either (eqb n 0) y n) (Tries contents (step slots (word_of i) 0 y none) m)) (sym mine_is)
      (tries m i single below none_held (subst (λ (y : ℕ). y < 2 ^ 64) mine_is small)))

  -- The stripe in front is given back
  pub gives_back : (ends : Bool) (told : List Note) (v : View T) (i : ℕ) (part : T) (more : List (ℕ × T)) → IsSingle v → 0 < times i v.held
      → (ends ≡ true → AreHeld slots v.held (keys_of_pairs (own v).watched)) → (contents.trusted → FitsPart contents slots (kept ends told (own v)) v.taken i part)
      → Allows (Ruled contents passes) slots id (v, (i, part) ∷ more) (word_of i) (λ _. 0)
      (λ _. Gives ends told (step slots (word_of i) 0 0 none) (v, (i, part) ∷ more) 0)
  gives_back ends told v i part more single mine_held may fit s ruled wide at small =
      let n = length s.homes in
      let words = s.words in
      let f = mine_fits contents passes s ruled id v at in
      let g : Fits n ruled.log v.held (own v) = own_fits v single n ruled.log f.fits in
      let k : Knowledge = kept ends told (own v) in
      let w : View T = giving (knowing v k) i in
      let later = set words (word_of i) 0 in
      let homes = set s.homes i (some part) in
      let same_size : length homes ≡ n = length-set s.homes i (some part) in
      let below : i < n = (f.names i mine_held).0 in
      let fits_n : contents.trusted → FitsPart contents n k v.taken i part = λ t. subst (λ (j : ℕ). FitsPart contents j k v.taken i part) (sym wide) (fit t) in
      let marks : Marks = contents.marks part in
      let reads_now : contents.trusted → IsPart n i (contents.store part) (after ruled.log) = λ t.
      subst (λ (l : History). IsPart n i (contents.store part) (after l)) (sym g.begins)
      (part_left laws n i (contents.store part) g.more (own v).seen (g.leave i mine_held) (fits_n t).reads) in
      let own_now : contents.trusted → IsMarked n i marks ruled.log k = λ t.
      subst (λ (l : History). IsMarked n i marks l k) (sym g.begins) (marked_left laws n i marks g.more (own v).seen k (g.leave i mine_held) (fits_n t).marks) in
      let was_marks : contents.trusted → Marks = λ t. contents.marks (fits_n t).was.1 in
      let same_marks : (t : contents.trusted) (key : Bytes) (other : ℕ) → stripe_of n key ≡ i → other ≢ (own v).number → marks key other ≡ touched_marks ruled.log (fits_n t).was.0 (was_marks t) key other =
      (λ t key other here ne. (fits_n t).others key other here ne
      ∙ sym (ap (λ (l : History). touched_marks l (fits_n t).was.0 (was_marks t) key other) g.begins ∙ touched_left laws n i (was_marks t) g.more (own v).seen (fits_n t).was.0 (g.leave i mine_held) key other here)) in
      let others_now : contents.trusted → (j : ℕ) (u : View T) → j ≢ id → get_elem? s.views j ≡ some u → EachMarked n i marks ruled.log u.passes =
      (λ t j u ne there. ⊎_elim
      (λ free. absurd (word_not_zero words i v ((f.names i mine_held).1) free.word))
      (λ held. dite (ℕ_discrete held.seat id)
      (λ e.
      let is : held.view ≡ v = some-injective held.view v (sym held.there ∙ ap (get_elem? s.views) e ∙ at) in
      let same_was : held.was ≡ (fits_n t).was = same_some held.was (fits_n t).was (part_at v.taken i) (sym (ap (λ (x : View T). part_at x.taken i) is) ∙ held.taken) (fits_n t).taken in
      each_given n i (touched_marks ruled.log (fits_n t).was.0 (was_marks t)) marks ruled.log (own v).number u.passes (same_marks t)
      (others_stand contents passes s ruled id v at single j u ne there)
      (subst (λ (x : ℕ × T). EachMarked n i (touched_marks ruled.log x.0 (contents.marks x.1)) ruled.log u.passes) same_was (held.marks t j u (λ x. ne (x ∙ e)) there)))
      (λ ne'. absurd (not_both contents passes s ruled id v at single i held.seat held.view ne' held.there mine_held held.holds)))
      (ruled.stripes i below)) in
      let own_kept : (stripe : ℕ) (marks : Marks) → times stripe v.held ≡ 0 → EachMarked n stripe marks ruled.log v.passes → EachMarked n stripe marks ruled.log w.passes =
      (λ stripe marks none is. (
        mark_kept n stripe marks ruled.log ends told (own v)
            (λ e. entry_leaves n stripe v.held (keys_of_pairs (own v).watched) (subst (λ (k : ℕ). AreHeld k v.held (keys_of_pairs (own v).watched)) (sym wide) (may e)) none)
            (one_marked n stripe marks ruled.log v single is),
        tt,
      )) in (
        w,
        gives,
        tt,
        record {
          log = ruled.log;
          legal = ruled.legal;
          wide = length-set words (word_of i) 0 ∙ ruled.wide ∙ ap word_of (sym same_size);
          few = ruled.few;
          counts = get_or-set_other words (word_of i) commit_word 0 0 (λ e. omega arith) ∙ ruled.counts;
          room = omega (arith, total-set armed_by s.views id v w at, ruled.room);
          dealt = dealt_set contents passes s ruled id v at w (sym (own_weight v single));
          once = once_set contents passes s ruled id v at w (λ q. ap (λ (ks : List Knowledge). times q (map (λ (k : Knowledge). k.number) ks)) (sym single));
          views = subst (λ (k : ℕ). (j : ℕ) (u : View T) → get_elem? (set s.views id w) j ≡ some u → FitsView k later ruled.log u) (sym same_size)
              (each_set (λ j u. FitsView n later ruled.log u) s.views id w
              record {
                fits = fewer_held n ruled.log i v.held (k ∷ []) (record { more = g.more; begins = g.begins; leave = g.leave; mine = g.mine; mine_seen = g.mine_seen; watches = watches_kept ends told (own v) g.watches }, tt);
                ready = omega (arith, f.ready, own_weight v single);
                names = λ stripe h.
                    let ne : stripe ≢ i = (λ e. let none_left : times stripe (without i v.held) ≡ 0 = ap (λ (k : ℕ). times k (without i v.held)) e ∙ without_here i v.held in omega arith) in
                    let t = f.names stripe (omega (arith, without_else i stripe v.held ne)) in
                    (t.0, names_at words later stripe (k ∷ []) (other_word words i stripe 0 ne) record { knows = k; single = refl; word = named_word words stripe v t.1 });
              }
              (λ j u ne there. fits_still contents passes s ruled id v at later j u there
              (λ stripe h. other_word words i stripe 0
              (λ e. not_both contents passes s ruled id v at single i j u ne there mine_held (subst (λ (k : ℕ). 0 < times k u.held) e h)))));
          stripes = λ stripe h. dite (ℕ_discrete stripe i)
              (λ e. inl record {
                word = ap (λ (k : ℕ). slice_index later (word_of k)) e ∙ get_or-set_same words (word_of i) 0 0 (omega (arith, ruled.wide));
                part = part;
                home = ap (get_elem? homes) e ∙ set_there s.homes i (some part) below;
                reads = λ t. subst (λ (k : ℕ). IsPart k stripe (contents.store part) (after ruled.log)) (sym same_size)
                    (subst (λ (k : ℕ). IsPart n k (contents.store part) (after ruled.log)) (sym e) (reads_now t));
                own = λ t. subst (λ (k : ℕ). AreOwnMarks k stripe (contents.marks part)) (sym same_size)
                    (subst (λ (k : ℕ). AreOwnMarks n k (contents.marks part)) (sym e) (fits_n t).own_marks);
                marks = λ t. subst (λ (k : ℕ). (j : ℕ) (u : View T) → get_elem? (set s.views id w) j ≡ some u → EachMarked k stripe marks ruled.log u.passes) (sym same_size)
                    (subst (λ (k : ℕ). (j : ℕ) (u : View T) → get_elem? (set s.views id w) j ≡ some u → EachMarked n k marks ruled.log u.passes) (sym e)
                    (each_set (λ j u. EachMarked n i marks ruled.log u.passes) s.views id w (own_now t, tt) (others_now t)));
              })
              (λ ne. ⊎_elim
              (λ other. inl record {
                word = other_word words i stripe 0 ne ∙ other.word;
                part = other.part;
                home = set_else s.homes i stripe (some part) ne ∙ other.home;
                reads = λ t. subst (λ (k : ℕ). IsPart k stripe (contents.store other.part) (after ruled.log)) (sym same_size) (other.reads t);
                own = λ t. subst (λ (k : ℕ). AreOwnMarks k stripe (contents.marks other.part)) (sym same_size) (other.own t);
                marks = λ t. subst (λ (k : ℕ). (j : ℕ) (u : View T) → get_elem? (set s.views id w) j ≡ some u → EachMarked k stripe (contents.marks other.part) ruled.log u.passes) (sym same_size)
                    (all_marked contents passes s ruled id v at n stripe (contents.marks other.part) ruled.log ruled.log w (λ j u ne there is. is)
                    (own_kept stripe (contents.marks other.part) (omega (arith, λ (mine_too : 0 < times stripe v.held). word_not_zero words stripe v ((f.names stripe mine_too).1) other.word))) (other.marks t));
              })
              (λ held. inr (stays_held contents passes s ruled id v at ruled.log later homes w stripe same_size (omega arith)
              (λ x. omega (arith, without_else i stripe v.held ne)) (part_without i stripe v.taken ne) (set_else s.homes i stripe (some part) ne)
              (λ marks moment early j u ne there is. is)
              (λ marks moment early j u ne there theirs is. own_kept stripe (touched_marks ruled.log moment marks)
              (omega (arith, λ (mine_too : 0 < times stripe v.held). not_both contents passes s ruled id v at single stripe j u ne there mine_too theirs)) is) held))
              (ruled.stripes stripe (omega (arith, same_size))));
        },
        λ stripe e. let same : i ≡ stripe = omega arith in ap (λ (j : ℕ). (giving (knowing v k) j, more)) same,
      )

  -- the same of a seat whose first part this is
  pub gives_first : (ends : Bool) (told : List Note) (m : Me T (View T)) (i word : ℕ) (part : T) → word ≡ word_of i → m.1 ≡ (i, part) ∷ rest m.1 → IsSingle m.0 → 0 < times i m.0.held
      → (ends ≡ true → AreHeld slots m.0.held (keys_of_pairs (own m.0).watched)) → (contents.trusted → FitsPart contents slots (kept ends told (own m.0)) m.0.taken i part)
      → Allows (Ruled contents passes) slots id m word (λ _. 0) (λ _. Gives ends told (step slots word 0 0 none) m 0)
  gives_first ends told m i word part word_is first single held may fit =
      subst (λ (x : ℕ). Allows (Ruled contents passes) slots id m x (λ _. 0) (λ _. Gives ends told (step slots x 0 0 none) m 0)) (sym word_is)
      (subst (λ (l : List (ℕ × T)). Allows (Ruled contents passes) slots id (m.0, l) (word_of i) (λ _. 0) (λ _. Gives ends told (step slots (word_of i) 0 0 none) (m.0, l) 0)) (sym first)
      (gives_back ends told m.0 i part (rest m.1) single held may fit))

-- passes that have all seen the log
each_sees : (laws : Laws) (n : ℕ) (log : History) (held : List ℕ) (ps : List Knowledge) → EachFits n log held ps → EachFits n log held (all_see ps log)
each_sees laws n log held [] all = tt
each_sees laws n log held (k ∷ ks) all = (
  record {
    more = [];
    begins = refl;
    leave = λ _ _. tt;
    mine = all.0.mine;
    mine_seen = all.0.mine;
    watches = subst (λ (l : History). AreWatches l k.number k.watched) (sym all.0.begins) (watches_more laws all.0.more k.seen k.number k.watched all.0.watches);
  },
  each_sees laws n log held ks all.1,
)

numbers_see : (log : History) (ps : List Knowledge) → map (λ (k : Knowledge). k.number) (all_see ps log) ≡ map (λ (k : Knowledge). k.number) ps
numbers_see log [] = refl
numbers_see log (k ∷ ks) = ap (λ l. k.number ∷ l) (numbers_see log ks)

length_see : (log : History) (ps : List Knowledge) → length (all_see ps log) ≡ length ps
length_see log [] = refl
length_see log (k ∷ ks) = omega (arith, length_see log ks)

each_goes_on : {trusted : Type 0} (n slots : ℕ) (log : History) (held : List ℕ) (ps : List Knowledge) → (trusted → Legal log) → EachFits n log held ps → EachGoesOn trusted slots ps log
each_goes_on n slots log held [] legal all = tt
each_goes_on n slots log held (k ∷ ks) legal all = (
  record { more = all.0.more; begins = all.0.begins; leave = λ stripe h. absurd (omega arith); legal = legal; mine = all.0.mine },
  each_goes_on n slots log held ks legal all.1,
)

each_append : (n : ℕ) (log : History) (held : List ℕ) (ps qs : List Knowledge) → EachFits n log held ps → EachFits n log held qs → EachFits n log held (ps ++ qs)
each_append n log held [] qs one two = two
each_append n log held (p ∷ ps) qs one two = (one.0, each_append n log held ps qs one.1 two)

numbers_append : (q : ℕ) (ps rs : List Knowledge)
    → times q (map (λ (k : Knowledge). k.number) (ps ++ rs)) ≡ times q (map (λ (k : Knowledge). k.number) ps) + times q (map (λ (k : Knowledge). k.number) rs)
numbers_append q [] rs = omega arith
numbers_append q (p ∷ ps) rs = omega (arith, numbers_append q ps rs)

each_new : (n number count : ℕ) → EachFits n [] [] (newcomers number count)
each_new n number zero = tt
each_new n number (suc count) = (record { more = []; begins = refl; leave = λ _ _. tt; mine = refl; mine_seen = refl; watches = tt }, each_new n (number + 1) count)

length_new : (number count : ℕ) → length (newcomers number count) ≡ count
length_new number zero = refl
length_new number (suc count) = omega (arith, length_new (number + 1) count)

times_lower : (q number count : ℕ) → q < number → times q (map (λ (k : Knowledge). k.number) (newcomers number count)) ≡ 0
times_lower q number zero less = refl
times_lower q number (suc count) less =
    times_else q number (map (λ (k : Knowledge). k.number) (newcomers (number + 1) count)) (λ e. omega arith) ∙ times_lower q (number + 1) count (omega arith)

times_new : (q number count : ℕ) → times q (map (λ (k : Knowledge). k.number) (newcomers number count)) ≤ 1
times_new q number zero = omega arith
times_new q number (suc count) = dite (ℕ_discrete number q)
    (λ e. let l = map (λ (k : Knowledge). k.number) (newcomers (number + 1) count) in
    let one : times q (number ∷ l) ≡ 1 + times q l = subst (λ (k : ℕ). times q (k ∷ l) ≡ 1 + times q l) (sym e) (times_here q l) in
    omega (arith, times_lower q (number + 1) count (omega arith)))
    (λ ne. omega (arith, times_else q number (map (λ (k : Knowledge). k.number) (newcomers (number + 1) count)) ne, times_new q (number + 1) count))

length_somes : {T : Type 0} (parts : List T) → length (map some parts) ≡ length parts
length_somes [] = refl
length_somes (x ∷ xs) = omega (arith, length_somes xs)

empty_there : {T : Type 0} (contents : Meaning T) (parts : List T) (i : ℕ) → AreEmpty contents parts → i < length parts
    → (part : T) × (get_elem? (map some parts) i ≡ some (some part)) × ((key : Bytes) → contents.store part key ≡ None) × ((key : Bytes) (number : ℕ) → contents.marks part key number ≡ None)
empty_there contents [] i all h = absurd (omega arith)
empty_there contents (x ∷ xs) zero all h = (x, refl, all.0, all.1)
empty_there contents (x ∷ xs) (suc i) all h = empty_there contents xs i all.2 (omega arith)

new_marked : (n stripe : ℕ) (marks : Marks) (number count : ℕ) → ((key : Bytes) (other : ℕ) → marks key other ≡ None) → EachMarked n stripe marks [] (newcomers number count)
new_marked n stripe marks number zero blank = tt
new_marked n stripe marks number (suc count) blank = ((λ key here. blank key number), new_marked n stripe marks (number + 1) count blank)

opening_marked : {T : Type 0} (n stripe : ℕ) (marks : Marks) (passes seat : ℕ) (u : View T) → ((key : Bytes) (other : ℕ) → marks key other ≡ None)
    → get_elem? (unmet passes ∷ []) seat ≡ some u → EachMarked n stripe marks [] u.passes
opening_marked {T} n stripe marks passes zero u blank there =
    subst (λ (x : View T). EachMarked n stripe marks [] x.passes) (some-injective (unmet passes) u there) (new_marked n stripe marks 0 passes blank)
opening_marked n stripe marks passes (suc seat) u blank there = absurd (some-ne-none u (sym there))

idle_holds : {T : Type 0} (v : View T) → v.held ≡ [] → (stripe : ℕ) → 0 < times stripe v.held → ⊥
idle_holds v none_held stripe h = let zero_times : times stripe v.held ≡ 0 = ap (times stripe) none_held in omega arith

not_idle : {T : Type 0} (id : ℕ) (v : View T) (views : List (View T)) → get_elem? views id ≡ some v → v.held ≡ [] → (seat : ℕ) (u : View T) → get_elem? views seat ≡ some u
    → (stripe : ℕ) → 0 < times stripe u.held → seat ≢ id
not_idle {T} id v views at none_held seat u there stripe h e =
    let is : u ≡ v = some-injective u v (sym there ∙ ap (get_elem? views) e ∙ at) in
    idle_holds v none_held stripe (subst (λ (x : View T). 0 < times stripe x.held) is h)

resting_fits : {T : Type 0} (n : ℕ) (words : List ℕ) (log : History) (v : View T) → v.held ≡ [] → armed_by v ≡ 0 → EachFits n log v.held v.passes → FitsView n words log v
resting_fits n words log v none_held unarmed fits =
    record { fits = fits; ready = omega arith; names = λ stripe h. absurd (idle_holds v none_held stripe h) }

opening_view : {T : Type 0} (n : ℕ) (words : List ℕ) (passes : ℕ) (seat : ℕ) (u : View T) → get_elem? (unmet passes ∷ []) seat ≡ some u → FitsView n words [] u
opening_view {T} n words passes zero u there =
    subst (λ (x : View T). FitsView n words [] x) (some-injective (unmet passes) u there)
    record { fits = each_new n 0 passes; ready = omega arith; names = λ stripe h. absurd (omega arith) }
opening_view n words passes (suc seat) u there = absurd (some-ne-none u (sym there))

module _ {T : Type 0} (contents : Meaning T) (passes : ℕ) where
  -- The table as it opens
  pub opens : (words : List ℕ) (parts : List T) → length words ≡ word_of (length parts) → ((k : ℕ) → slice_index words k ≡ 0) → AreEmpty contents parts → passes < 2 ^ 62
      → Ruled contents passes (opening words parts (unmet passes))
  opens words parts wide zeros all few =
      let size : length (map some parts) ≡ length parts = length_somes parts in
      record {
        log = [];
        legal = λ t. tt;
        wide = wide ∙ ap word_of (sym size);
        few = few;
        counts = zeros commit_word;
        room = omega arith;
        dealt = omega (arith, length_new 0 passes);
        once = λ q. omega (arith, times_new q 0 passes);
        views = λ seat u there. opening_view (length (map some parts)) words passes seat u there;
        stripes = λ stripe h.
            let t = empty_there contents parts stripe all (omega (arith, size)) in
            inl record {
              word = zeros (word_of stripe);
              part = t.0;
              home = t.1;
              reads = λ trust key. t.2 key ∙ sym (none_both (nat_eq (stripe_of (length (map some parts)) key) stripe) (after [] key) refl);
              own = λ trust key number elsewhere. t.3 key number;
              marks = λ trust seat u there. opening_marked (length (map some parts)) stripe (contents.marks t.0) passes seat u t.3 there;
            };
      }

  -- A view is cut in two, where it holds nothing
  pub splits : (id : ℕ) (v left right : View T) → v.held ≡ [] → left.held ≡ [] → right.held ≡ [] → left.armed ≡ false → right.armed ≡ false
      → passes_at left + passes_at right ≡ passes_at v → ((q : ℕ) → stands_for q left + stands_for q right ≡ stands_for q v)
      → ((n : ℕ) (log : History) → EachFits n log v.held v.passes → EachFits n log left.held left.passes × EachFits n log right.held right.passes)
      → ((n stripe : ℕ) (marks : Marks) (log : History) → EachMarked n stripe marks log v.passes → EachMarked n stripe marks log left.passes × EachMarked n stripe marks log right.passes)
      → Splits (Ruled contents passes) id v left right
  splits id v left right none_held left_held right_held left_unarmed right_unarmed heavy stands cut cut_marks s ruled at =
      let n = length s.homes in
      let f = mine_fits contents passes s ruled id v at in
      let halves = cut n ruled.log f.fits in
      let zero_left : armed_by left ≡ 0 = ap (λ b. cond b 1 0) left_unarmed in
      let zero_right : armed_by right ≡ 0 = ap (λ b. cond b 1 0) right_unarmed in
      let each : (stripe : ℕ) (marks : Marks) → EachMarked n stripe marks ruled.log v.passes
      → ((j : ℕ) (u : View T) → j ≢ id → get_elem? s.views j ≡ some u → EachMarked n stripe marks ruled.log u.passes)
      → (j : ℕ) (u : View T) → get_elem? (set s.views id left ++ right ∷ []) j ≡ some u → EachMarked n stripe marks ruled.log u.passes =
      (λ stripe marks here others j u there. ⊎_elim
      (λ old. each_set (λ j u. EachMarked n stripe marks ruled.log u.passes) s.views id left (cut_marks n stripe marks ruled.log here).0 others j u old)
      (λ new. subst (λ (x : View T). EachMarked n stripe marks ruled.log x.passes) new (cut_marks n stripe marks ruled.log here).1)
      (at_snoc (set s.views id left) right u j there)) in
      record {
        log = ruled.log;
        legal = ruled.legal;
        wide = ruled.wide;
        few = ruled.few;
        counts = ruled.counts;
        room = omega (arith, ruled.room, total-append armed_by (set s.views id left) (right ∷ []), total-set armed_by s.views id v left at);
        dealt = omega (arith, ruled.dealt, total-append passes_at (set s.views id left) (right ∷ []), total-set passes_at s.views id v left at);
        once = λ q. omega (arith, ruled.once q, stands q, total-append (stands_for q) (set s.views id left) (right ∷ []), total-set (stands_for q) s.views id v left at);
        views = λ j u there. ⊎_elim
            (λ old. each_set (λ j u. FitsView n s.words ruled.log u) s.views id left (resting_fits n s.words ruled.log left left_held zero_left halves.0)
            (λ k x ne was. ruled.views k x was) j u old)
            (λ new. subst (λ (x : View T). FitsView n s.words ruled.log x) new (resting_fits n s.words ruled.log right right_held zero_right halves.1))
            (at_snoc (set s.views id left) right u j there);
        stripes = λ stripe h. ⊎_elim
            (λ free. inl record {
              word = free.word;
              part = free.part;
              home = free.home;
              reads = free.reads;
              own = free.own;
              marks = λ t. each stripe (contents.marks free.part) (free.marks t id v at) (λ j u ne there. free.marks t j u there);
            })
            (λ held. inr record {
              seat = held.seat;
              view = held.view;
              there = at_longer (set s.views id left) (right ∷ []) held.seat held.view
                  (set_else s.views id held.seat left (not_idle id v s.views at none_held held.seat held.view held.there stripe held.holds) ∙ held.there);
              holds = held.holds;
              away = held.away;
              was = held.was;
              taken = held.taken;
              early = held.early;
              marks = let not_this = not_idle id v s.views at none_held held.seat held.view held.there stripe held.holds in
                  let marks = touched_marks ruled.log held.was.0 (contents.marks held.was.1) in
                  λ t j u ne there. ⊎_elim
                  (λ old. dite (ℕ_discrete j id)
                  (λ e. let is : left ≡ u = some-injective left u (sym (set_here s.views id left v at) ∙ sym (ap (get_elem? (set s.views id left)) e) ∙ old) in
                  subst (λ (x : View T). EachMarked n stripe marks ruled.log x.passes) is (cut_marks n stripe marks ruled.log (held.marks t id v (λ x. not_this (sym x)) at)).0)
                  (λ other. held.marks t j u ne (sym (set_else s.views id j left other) ∙ old)))
                  (λ new. subst (λ (x : View T). EachMarked n stripe marks ruled.log x.passes) new (cut_marks n stripe marks ruled.log (held.marks t id v (λ x. not_this (sym x)) at)).1)
                  (at_snoc (set s.views id left) right u j there);
            })
            (ruled.stripes stripe h);
      }

  -- Two views that hold nothing become one
  pub joins : (id other : ℕ) (v w : View T) → v.held ≡ [] → w.held ≡ [] → Joins (Ruled contents passes) id v other w (joined v w) (resting [])
  joins id other v w none_held none_held' s ruled at ne at_both =
      let n = length s.homes in
      let at' : get_elem? s.views other ≡ some w = sym (set_else s.views id other (joined v w) ne) ∙ at_both in
      let f = mine_fits contents passes s ruled id v at in
      let g = mine_fits contents passes s ruled other w at' in
      let one = total-set armed_by s.views id v (joined v w) at in
      let two = total-set armed_by (set s.views id (joined v w)) other w (resting []) at_both in
      let heavy_one = total-set passes_at s.views id v (joined v w) at in
      let heavy_two = total-set passes_at (set s.views id (joined v w)) other w (resting []) at_both in
      let f_fits : EachFits n ruled.log [] v.passes = subst (λ (l : List ℕ). EachFits n ruled.log l v.passes) none_held f.fits in
      let g_fits : EachFits n ruled.log [] w.passes = subst (λ (l : List ℕ). EachFits n ruled.log l w.passes) none_held' g.fits in
      record {
        log = ruled.log;
        legal = ruled.legal;
        wide = ruled.wide;
        few = ruled.few;
        counts = ruled.counts;
        room = omega (arith, ruled.room, one, two);
        dealt = omega (arith, ruled.dealt, heavy_one, heavy_two, length-append v.passes w.passes);
        once = λ q. omega (
          arith,
          ruled.once q,
          total-set (stands_for q) s.views id v (joined v w) at,
          total-set (stands_for q) (set s.views id (joined v w)) other w (resting []) at_both,
          numbers_append q v.passes w.passes,
        );
        views = each_set (λ j u. FitsView n s.words ruled.log u) (set s.views id (joined v w)) other (resting [])
            record { fits = tt; ready = omega arith; names = λ stripe h. absurd (omega arith) }
            (λ j u apart there. each_set (λ j u. FitsView n s.words ruled.log u) s.views id (joined v w)
            record { fits = each_append n ruled.log [] v.passes w.passes f_fits g_fits; ready = omega arith; names = λ stripe h. absurd (omega arith) }
            (λ k x ne' was. ruled.views k x was) j u there);
        stripes = λ stripe h. ⊎_elim
            (λ free. inl record {
              word = free.word;
              part = free.part;
              home = free.home;
              reads = free.reads;
              own = free.own;
              marks = λ t. let marks = contents.marks free.part in
                  each_set (λ j u. EachMarked n stripe marks ruled.log u.passes) (set s.views id (joined v w)) other (resting []) tt
                  (λ j u apart there. each_set (λ j u. EachMarked n stripe marks ruled.log u.passes) s.views id (joined v w)
                  (each_both n stripe marks ruled.log v.passes w.passes (free.marks t id v at) (free.marks t other w at'))
                  (λ k x ne' was. free.marks t k x was) j u there);
            })
            (λ held. inr record {
              seat = held.seat;
              view = held.view;
              there = set_else (set s.views id (joined v w)) other held.seat (resting []) (not_idle other w s.views at' none_held' held.seat held.view held.there stripe held.holds)
                  ∙ set_else s.views id held.seat (joined v w) (not_idle id v s.views at none_held held.seat held.view held.there stripe held.holds) ∙ held.there;
              holds = held.holds;
              away = held.away;
              was = held.was;
              taken = held.taken;
              early = held.early;
              marks = let not_one = not_idle id v s.views at none_held held.seat held.view held.there stripe held.holds in
                  let not_two = not_idle other w s.views at' none_held' held.seat held.view held.there stripe held.holds in
                  let marks = touched_marks ruled.log held.was.0 (contents.marks held.was.1) in
                  λ t j u ne there. each_set (λ j u. j ≢ held.seat → EachMarked n stripe marks ruled.log u.passes) (set s.views id (joined v w)) other (resting []) (λ _. tt)
                  (λ j u apart there'. each_set (λ j u. j ≢ held.seat → EachMarked n stripe marks ruled.log u.passes) s.views id (joined v w)
                  (λ _. each_both n stripe marks ruled.log v.passes w.passes (held.marks t id v (λ x. not_one (sym x)) at) (held.marks t other w (λ x. not_two (sym x)) at'))
                  (λ k x ne' was not_holder. held.marks t k x not_holder was) j u there') j u there ne;
            })
            (ruled.stripes stripe h);
      }

  -- A look by a seat that holds nothing
  pub meets : (laws : Laws) (slots id i : ℕ) (m : Me T (View T)) → m.0.held ≡ [] → Allows (Ruled contents passes) slots id m i (λ n. n) (Meets contents.trusted (step slots i 0 0 none) m)
  meets laws slots id i m none_held s ruled wide at small =
      let v = m.0 in
      let n = length s.homes in
      let f = mine_fits contents passes s ruled id v at in
      let w : View T = record v { passes = all_see v.passes ruled.log } in (
        w,
        keeps,
        tt,
        loaded (Ruled contents passes) s i id w (looks contents passes s ruled id v at w (length_see ruled.log v.passes)
            (λ q. ap (times q) (numbers_see ruled.log v.passes))
            (omega (arith, total-set armed_by s.views id v w at, ruled.room))
            record {
              fits = each_sees laws n ruled.log v.held v.passes f.fits;
              ready = omega (arith, f.ready, length_see ruled.log v.passes);
              names = λ stripe h. absurd (idle_holds v none_held stripe h);
            }
            (λ stripe h. h) (λ stripe. refl) (λ stripe marks is. each_seen n stripe marks ruled.log ruled.log v.passes is)),
        record { log = ruled.log; go_on = each_goes_on n slots ruled.log v.held v.passes ruled.legal f.fits; seat = refl },
      )

module _ {T : Type 0} (contents : Meaning T) (passes : ℕ) where
  -- the first pass stays, and a new seat stands for the others
  pub keep_splits : (id : ℕ) (v : View T) → v.held ≡ [] → v.passes ≡ first_of v.passes ∷ others_of v.passes
      → Splits (Ruled contents passes) id v (resting (first_of v.passes ∷ [])) (resting (others_of v.passes))
  keep_splits id v none_held first_is =
      splits contents passes id v (resting (first_of v.passes ∷ [])) (resting (others_of v.passes)) none_held refl refl refl refl
      (omega (arith, ap (λ (l : List Knowledge). length l) first_is))
      (λ q. omega (arith, ap (λ (l : List Knowledge). times q (map (λ (k : Knowledge). k.number) l)) first_is))
      (λ n log fits.
      let none : EachFits n log [] v.passes = subst (λ (l : List ℕ). EachFits n log l v.passes) none_held fits in
      let all : EachFits n log [] (first_of v.passes ∷ others_of v.passes) = subst (EachFits n log []) first_is none in
      ((all.0, tt), all.1))
      (λ n stripe marks log is.
      let all : EachMarked n stripe marks log (first_of v.passes ∷ others_of v.passes) = subst (EachMarked n stripe marks log) first_is is in
      ((all.0, tt), all.1))

  -- a new seat stands for all
  pub leave_splits : (id : ℕ) (v : View T) → v.held ≡ [] → Splits (Ruled contents passes) id v (resting []) (resting v.passes)
  leave_splits id v none_held =
      splits contents passes id v (resting []) (resting v.passes) none_held refl refl refl refl (omega arith) (λ q. omega arith)
      (λ n log fits. (tt, subst (λ (l : List ℕ). EachFits n log l v.passes) none_held fits))
      (λ n stripe marks log is. (tt, is))
