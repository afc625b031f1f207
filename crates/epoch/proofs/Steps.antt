-- Each step keeps the rule.
use Rattle.std.proofs.Common.{◌≡◌, ◌≢◌, ℕ, zero, suc, ◌+◌, ◌-◌, ◌%◌, ◌^◌, ◌<◌, ◌≤◌, ◌⊎◌, Bool, true, false, List, [], ◌∷◌, ◌++◌, cond, min, nat_eq, nat_lt, length, get_or, set, replicate, slice_index, slice_set, MatchBool, sym, refl, ap, subst, ◌∙◌, arith, eq-eqb, ne_eqb, inl, inr, ⊎_elim, length-set, get_or-set_other, get_or-set_same, lt-ltb, le-ltb, mod-eq_of_lt}
use Rattle.std.proofs.lemmas.List.{length-replicate}
use Rattle.std.proofs.lemmas.Bool.{cases_lt, true≢false, false≢true}
use mathlib.Core.Logic.{dite}
use mathlib.Core.Option.{Option, none, some, some-injective, some-ne-none}
use native.Mathlib.Decide.{ℕ_discrete}
use lib.ListN.{get_elem?}
use Rattle.atomic_table.specs.Table.{State, Me, step, keeps, Allows, Splits, Joins, opening}
use Rattle.epoch.specs.declared.view.View.{View}
use Rattle.epoch.specs.declared.view.Note.TheVariants.{Worn}
use Rattle.epoch.specs.Clear.{Clear}
use Rattle.epoch.specs.Rule.{epoch_word, word_of, StayAt, ClearBelow, Stands, armed_by, count_of, advances_of, total, AreBelow, FitsView, Ruled}
use Rattle.epoch.specs.Plays.{standing, unmet, token, learning, setting, validating, noting, advancing, beginning, least, passing, Validates, Arms, Advances, Begins, Passes, Compares}
use Rattle.epoch.proofs.Lists.{at_set, each_set, at_snoc, set_else, total-append, total-set, total-below, total-less}

-- the epoch
abbrev epoch_in : List ℕ → ℕ
epoch_in words = slice_index words epoch_word

-- a word that is set to what it is
set_same : (l : List ℕ) (i : ℕ) → set l i (get_or l i 0) ≡ l
set_same [] i = refl
set_same (x ∷ xs) zero = refl
set_same (x ∷ xs) (suc i) = ap (λ l. x ∷ l) (set_same xs i)

-- the word of another seat stays
other_word : (words : List ℕ) (i j x : ℕ) → j ≢ i → slice_index (slice_set words (word_of i) x) (word_of j) ≡ slice_index words (word_of j)
other_word words i j x ne = let apart : word_of j ≢ word_of i = (λ e. ne (omega arith)) in get_or-set_other words (word_of i) (word_of j) x 0 apart

-- the epoch word is no seat's
epoch_stays : (words : List ℕ) (i x : ℕ) → slice_index (slice_set words (word_of i) x) epoch_word ≡ slice_index words epoch_word
epoch_stays words i x = let apart : epoch_word ≢ word_of i = (λ e. omega arith) in get_or-set_other words (word_of i) epoch_word x 0 apart

-- a seat's word is not the epoch word
word_stays : (words : List ℕ) (i x : ℕ) → slice_index (slice_set words epoch_word x) (word_of i) ≡ slice_index words (word_of i)
word_stays words i x = let apart : word_of i ≢ epoch_word = (λ e. omega arith) in get_or-set_other words epoch_word (word_of i) x 0 apart

bool_one : (b : Bool) → cond b 1 0 ≤ 1
bool_one true = omega arith
bool_one false = omega arith

none_yet : (b : Bool) → ◌≡◌ {A = ℕ} (cond b 0 0) 0
none_yet true = refl
none_yet false = refl

below_on : (a b : ℕ) (xs : List ℕ) → a ≤ b → AreBelow a xs → AreBelow b xs
below_on a b [] le all = tt
below_on a b (x ∷ xs) le all = (omega (arith, all.0), below_on a b xs le all.1)

-- no stay is below what a scan of all seats found
all_clear : (seats : ℕ) (words : List ℕ) (views : List View) → ((seat : ℕ) (v : View) → get_elem? views seat ≡ some v → FitsView seats words views v)
    → (seat : ℕ) (v : View) (e : ℕ) → get_elem? views seat ≡ some v → v.passed ≡ seats → e < v.bound → Clear (epoch_in words) e (StayAt views)
all_clear seats words views all seat v e there whole below =
    let f = all seat v there in (
      omega (arith, f.scan.0),
      λ x a.
          let u = a.1 in
          let g = all a.0 u a.2 in
          let one = g.stay a.3.0 in
          let t = g.word u.first (omega arith, omega (arith, one.0)) in
          let c = f.scan.1 a.0 u a.2 a.3.0 (omega (arith, t.0)) in
          omega (arith, c, a.3.1),
    )

module _ {S : Type 0} (seats : ℕ) (s : State S View) (ruled : Ruled seats s) (id : ℕ) (v : View) (at : get_elem? s.views id ≡ some v) where
  mine : FitsView seats s.words s.views v
  mine = ruled.views id v at

  -- what is clear stays clear
  clear_on : (epoch : ℕ) (w : View) (bound number : ℕ) → epoch_in s.words ≤ epoch
      → (w.valid ≡ true → ((v.valid ≡ true) × (w.own ≡ v.own)) ⊎ (epoch_in s.words ≡ w.own)) → w.first ≡ v.first
      → ClearBelow (epoch_in s.words) bound number s.views → ClearBelow epoch bound number (set s.views id w)
  clear_on epoch w bound number grows stays first c = (
    omega (arith, c.0),
    each_set (λ j u. u.valid ≡ true → u.first < number → bound ≤ u.own) s.views id w
        (λ valid below. ⊎_elim
        (λ old. let t = c.1 id v at old.0 (omega arith) in omega (arith, old.1))
        (λ new. omega (arith, c.0)) (stays valid))
        (λ j u ne there. c.1 j u there),
  )

  -- a view after the step stands for what it stood for
  was : (w : View) → w.first ≡ v.first → w.count ≡ v.count → (i : ℕ) (a : View) → get_elem? (set s.views id w) i ≡ some a
      → (b : View) × (get_elem? s.views i ≡ some b) × (a.first ≡ b.first) × (a.count ≡ b.count)
  was w first count i a there = ⊎_elim
      (λ t. (v, ap (get_elem? s.views) t.0 ∙ at, ap (λ (x : View). x.first) (sym t.1) ∙ first, ap (λ (x : View). x.count) (sym t.1) ∙ count))
      (λ t. (a, t.1, refl, refl)) (at_set s.views id i w a there)

  -- a step that advances nothing leaves the number of advances
  same_advances : (w : View) → w.count ≡ v.count → w.advanced ≡ v.advanced → epoch_in s.words ≡ 1 + total advances_of (set s.views id w)
  same_advances w count advanced =
      let same : advances_of w ≡ advances_of v =
      ap (λ (n : ℕ). cond (nat_eq n 0) 0 (length w.advanced)) count ∙ ap (λ (l : List ℕ). cond (nat_eq v.count 0) 0 (length l)) advanced in
      omega (arith, same, total-set advances_of s.views id v w at, ruled.counted)

  -- One step of the seat. It changes no other seat's word, and the epoch only grows.
  moves : (words : List ℕ) (homes : List (Option S)) (w : View) → length words ≡ length s.words → epoch_in s.words ≤ epoch_in words
      → ((number : ℕ) → number < seats → (Stands v number → ⊥) → slice_index words (word_of number) ≡ slice_index s.words (word_of number))
      → ((number : ℕ) → number < seats → Stands v number → slice_index words (word_of number) ≡ w.own)
      → w.first ≡ v.first → w.count ≡ v.count
      → (w.valid ≡ true → ((v.valid ≡ true) × (w.own ≡ v.own)) ⊎ ((v.count ≡ 1) × (epoch_in s.words ≡ w.own)))
      → armed_by w ≤ w.count → epoch_in words + total armed_by (set s.views id w) ≤ 2 ^ 62 + seats → AreBelow (epoch_in words) w.advanced
      → epoch_in words ≡ 1 + total advances_of (set s.views id w)
      → ClearBelow (epoch_in words) w.bound w.passed (set s.views id w)
      → Ruled {S = S} seats record { words = words; homes = homes; views = set s.views id w }
  moves words homes w same_size grows others own first count stays ready room past counted scan =
      let f = mine in
      let stays' : w.valid ≡ true → ((v.valid ≡ true) × (w.own ≡ v.own)) ⊎ (epoch_in s.words ≡ w.own) = (λ e. ⊎_elim (λ t. inl t) (λ t. inr t.1) (stays e)) in
      let each : (seat : ℕ) (u : View) → get_elem? (set s.views id w) seat ≡ some u → FitsView seats words (set s.views id w) u =
      each_set (λ j u. FitsView seats words (set s.views id w) u) s.views id w
      record {
        ready = ready;
        word = λ number stands.
            let st : Stands v number = (omega (arith, stands.0), omega (arith, stands.1)) in
            let t = f.word number st in (t.0, own number t.0 st);
        stay = λ e. ⊎_elim
            (λ t. let r = f.stay t.0 in (count ∙ r.0, omega (arith, r.1, t.1), omega (arith, r.2, t.1)))
            (λ t. (count ∙ t.0, omega (arith, ruled.counted, t.1), omega (arith, t.1))) (stays e);
        past = past;
        scan = scan;
      }
      (λ j u ne there.
      let g = ruled.views j u there in
      record {
        ready = g.ready;
        word = λ number stands. let t = g.word number stands in (
          t.0,
          others number t.0 (λ mine_too. ruled.apart id j v u (λ e. ne (sym e)) at there number mine_too stands) ∙ t.1,
        );
        stay = λ e. let r = g.stay e in (r.0, r.1, omega (arith, r.2));
        past = below_on (epoch_in s.words) (epoch_in words) u.advanced grows g.past;
        scan = clear_on (epoch_in words) w u.bound u.passed grows stays' first g.scan;
      }) in
      record {
        wide = same_size ∙ ruled.wide;
        few = ruled.few;
        counted = counted;
        room = room;
        dealt = omega (arith, total-set count_of s.views id v w at, ruled.dealt);
        apart = λ i j a b ne at_a at_b number in_a in_b.
            let x = was w first count i a at_a in
            let y = was w first count j b at_b in
            ruled.apart i j x.0 y.0 ne x.1 y.1 number
            (omega (arith, in_a.0, x.2), omega (arith, in_a.1, x.2, x.3))
            (omega (arith, in_b.0, y.2), omega (arith, in_b.1, y.2, y.3));
        views = each;
        clear = all_clear seats words (set s.views id w) each;
      }

  -- A step that changes no word
  looks : (homes : List (Option S)) (w : View) → w.own ≡ v.own → w.first ≡ v.first → w.count ≡ v.count
      → (w.valid ≡ true → (v.valid ≡ true) ⊎ ((v.count ≡ 1) × (epoch_in s.words ≡ w.own)))
      → armed_by w ≤ w.count → epoch_in s.words + total armed_by (set s.views id w) ≤ 2 ^ 62 + seats → w.advanced ≡ v.advanced
      → ClearBelow (epoch_in s.words) w.bound w.passed (set s.views id w)
      → Ruled {S = S} seats record { words = s.words; homes = homes; views = set s.views id w }
  looks homes w own first count stays ready room advanced scan =
      moves s.words homes w refl (omega arith) (λ _ _ _. refl) (λ number below stands. (mine.word number stands).1 ∙ sym own) first count
      (λ e. ⊎_elim (λ t. inl (t, own)) (λ t. inr t) (stays e)) ready room
      (subst (λ l. AreBelow (epoch_in s.words) l) (sym advanced) mine.past) (same_advances w count advanced) scan

  -- the same where the seat stays armed or not, and its scan is what it was
  sees : (homes : List (Option S)) (w : View) → w.own ≡ v.own → w.first ≡ v.first → w.count ≡ v.count → w.armed ≡ v.armed → w.advanced ≡ v.advanced
      → (w.valid ≡ true → (v.valid ≡ true) ⊎ ((v.count ≡ 1) × (epoch_in s.words ≡ w.own)))
      → ClearBelow (epoch_in s.words) w.bound w.passed (set s.views id w)
      → Ruled {S = S} seats record { words = s.words; homes = homes; views = set s.views id w }
  sees homes w own first count armed advanced stays scan =
      let same : armed_by w ≡ armed_by v = ap (λ b. cond b 1 0) armed in
      looks homes w own first count stays (omega (arith, mine.ready))
      (omega (arith, total-set armed_by s.views id v w at, ruled.room)) advanced scan

  -- what the seat has scanned stays clear, where its stay stays
  scan_on : (w : View) (bound number : ℕ) → w.own ≡ v.own → w.first ≡ v.first → (w.valid ≡ true → (v.valid ≡ true) ⊎ (epoch_in s.words ≡ w.own))
      → ClearBelow (epoch_in s.words) bound number s.views → ClearBelow (epoch_in s.words) bound number (set s.views id w)
  scan_on w bound number own first stays c =
      clear_on (epoch_in s.words) w bound number (omega arith) (λ e. ⊎_elim (λ t. inl (t, own)) (λ t. inr t) (stays e)) first c

-- a load leaves the words
loaded : {S V : Type 0} (holds : State S V → Type 0) (s : State S V) (i id : ℕ) (w : V) → holds record { words = s.words; homes = s.homes; views = set s.views id w }
    → holds record { words = slice_set s.words i (slice_index s.words i); homes = s.homes; views = set s.views id w }
loaded {S} {V} holds s i id w h =
    subst (λ (ws : List ℕ). holds record { words = ws; homes = s.homes; views = set s.views id w }) (sym (set_same s.words i)) h

least_below : (bound found : ℕ) → least bound found ≤ bound
least_below bound found = dite (ℕ_discrete found 0)
    (λ e. subst (λ b. cond b bound (min bound found) ≤ bound) (sym (eq-eqb found 0 e)) (omega arith))
    (λ ne. subst (λ b. cond b bound (min bound found) ≤ bound) (sym (ne_eqb found 0 ne)) (omega arith))

least_found : (bound found : ℕ) → 1 ≤ found → least bound found ≤ found
least_found bound found some_found =
    subst (λ b. cond b bound (min bound found) ≤ found) (sym (ne_eqb found 0 (λ e. omega arith))) (omega arith)

module _ {S : Type 0} (seats slots id : ℕ) where
  -- The own word is set, or cleared
  pub sets_at : (m : Me S View) (number word e : ℕ) → word ≡ word_of number → m.0.first ≡ number → m.0.count ≡ 1
      → Allows (Ruled {S = S} seats) slots id m word (λ _. e) (λ _. (λ (w : Me S View). w ≡ (setting m.0 e, m.1)))
  sets_at m number word e word_is first single s ruled wide at small =
      let v = m.0 in
      let f = mine seats s ruled id v at in
      let w : View = setting v e in
      let t = f.word number (omega arith, omega arith) in
      let later = set s.words (word_of number) e in
      let same_epoch : epoch_in later ≡ epoch_in s.words = epoch_stays s.words number e in
      let never : w.valid ≡ true → ⊥ = (λ h. false≢true h) in
      let ok : Ruled {S = S} seats record { words = later; homes = s.homes; views = set s.views id w } =
      moves seats s ruled id v at later s.homes w (length-set s.words (word_of number) e) (omega (arith, same_epoch))
      (λ k below out. other_word s.words number k e (λ h. out (omega arith, omega arith)))
      (λ k below in_v.
      let is : k ≡ number = omega (arith, in_v.0, in_v.1) in
      ap (λ (j : ℕ). slice_index later (word_of j)) is ∙ get_or-set_same s.words (word_of number) e 0 (omega (arith, ruled.wide, t.0)))
      refl refl (λ h. absurd (never h)) f.ready
      (omega (arith, same_epoch, total-set armed_by s.views id v w at, ruled.room))
      (subst (λ (k : ℕ). AreBelow k v.advanced) (sym same_epoch) f.past)
      (omega (arith, same_epoch, same_advances seats s ruled id v at w refl refl))
      (clear_on seats s ruled id v at (epoch_in later) w v.bound v.passed (omega (arith, same_epoch)) (λ h. absurd (never h)) refl f.scan) in (
        w,
        keeps,
        tt,
        subst (λ (k : ℕ). Ruled {S = S} seats record { words = slice_set s.words k e; homes = s.homes; views = set s.views id w }) (sym word_is) ok,
        refl,
      )

  -- The epoch word is read, and the stay is valid where it agrees
  pub validates : (m : Me S View) → m.0.count ≡ 1
      → Allows (Ruled {S = S} seats) slots id m epoch_word (λ n. n) (Validates (step slots epoch_word 0 0 none) m)
  validates m single s ruled wide at small =
      let v = m.0 in
      let f = mine seats s ruled id v at in
      let found = slice_index s.words epoch_word in
      let w : View = validating v found in
      let stays : w.valid ≡ true → found ≡ v.own = (λ h. dite (ℕ_discrete found v.own) (λ e. e) (λ ne. absurd (true≢false (sym h ∙ ne_eqb found v.own ne)))) in (
        w,
        keeps,
        tt,
        loaded (Ruled {S = S} seats) s epoch_word id w
            (sees seats s ruled id v at s.homes w refl refl refl refl refl (λ h. inr (single, stays h))
            (scan_on seats s ruled id v at w v.bound v.passed refl refl (λ h. inr (stays h)) f.scan)),
        (omega (arith, ruled.counted), refl),
      )

  -- A look at the epoch word
  pub arms : (m : Me S View) → m.0.count ≡ 1 → m.0.armed ≡ false
      → Allows (Ruled {S = S} seats) slots id m epoch_word (λ n. n) (Arms (step slots epoch_word 0 0 none) m)
  arms m single unarmed s ruled wide at small =
      let v = m.0 in
      let f = mine seats s ruled id v at in
      let found = slice_index s.words epoch_word in
      let none_armed : armed_by v ≡ 0 = ap (λ b. cond b 1 0) unarmed in
      let Same : Me S View → Me S View → Type 0 = λ x y. x ≡ y in
      ⊎_elim
      (λ below.
      let w : View = record v { armed = true } in
      let less = total-less armed_by count_of s.views id v at (omega arith) (λ j u there. (ruled.views j u there).ready) in (
        w,
        keeps,
        tt,
        loaded (Ruled {S = S} seats) s epoch_word id w (looks seats s ruled id v at s.homes w refl refl refl (λ h. inl h) (omega arith)
            (omega (arith, total-set armed_by s.views id v w at, ruled.dealt)) refl
            (scan_on seats s ruled id v at w v.bound v.passed refl refl (λ h. inl h) f.scan)),
        subst (λ b. MatchBool b (Same (w, m.1) (record v { armed = true }, m.1)) (Same (w, m.1) (noting v Worn, m.1))) (sym (lt-ltb found (2 ^ 62) below)) refl,
      ))
      (λ above.
      let w : View = noting v Worn in (
        w,
        keeps,
        tt,
        loaded (Ruled {S = S} seats) s epoch_word id w (sees seats s ruled id v at s.homes w refl refl refl refl refl (λ h. inl h)
            (scan_on seats s ruled id v at w v.bound v.passed refl refl (λ h. inl h) f.scan)),
        subst (λ b. MatchBool b (Same (w, m.1) (record v { armed = true }, m.1)) (Same (w, m.1) (noting v Worn, m.1))) (sym (le-ltb found (2 ^ 62) above)) refl,
      ))
      (cases_lt found (2 ^ 62))

  -- The epoch is advanced
  pub advances : (m : Me S View) → m.0.count ≡ 1 → m.0.armed ≡ true
      → Allows (Ruled {S = S} seats) slots id m epoch_word (λ n. (n + 1) % 2 ^ 64) (Advances (step slots epoch_word 1 0 none) m)
  advances m single armed s ruled wide at small =
      let v = m.0 in
      let f = mine seats s ruled id v at in
      let found = slice_index s.words epoch_word in
      let one_armed : armed_by v ≡ 1 = ap (λ b. cond b 1 0) armed in
      let may = nat_lt found (2 ^ 62) in
      let w : View = advancing v found in
      let sum = total-set armed_by s.views id v w at in
      let few = ruled.few in
      let room = ruled.room in
      let fits_word : found + 1 < 2 ^ 64 = omega arith in
      let next : (found + 1) % 2 ^ 64 ≡ found + 1 = mod-eq_of_lt fits_word in
      let later = set s.words epoch_word ((found + 1) % 2 ^ 64) in
      let now : epoch_in later ≡ found + 1 = get_or-set_same s.words epoch_word ((found + 1) % 2 ^ 64) 0 (omega (arith, ruled.wide)) ∙ next in
      let were : advances_of v ≡ length v.advanced = ap (λ (n : ℕ). cond (nat_eq n 0) 0 (length v.advanced)) single in
      let one_more : advances_of w ≡ suc (length v.advanced) = ap (λ (n : ℕ). cond (nat_eq n 0) 0 (length w.advanced)) single in
      let one_at_most : (b : Bool) → cond b 1 0 ≤ 1 = bool_one in (
        w,
        keeps,
        tt,
        moves seats s ruled id v at later s.homes w (length-set s.words epoch_word ((found + 1) % 2 ^ 64)) (omega (arith, now))
            (λ k below out. word_stays s.words k ((found + 1) % 2 ^ 64))
            (λ k below in_v. word_stays s.words k ((found + 1) % 2 ^ 64) ∙ (f.word k in_v).1)
            refl refl (λ h. inl (h, refl)) (omega (arith, one_at_most may))
            (⊎_elim
            (λ below.
            let stays : armed_by w ≡ 1 = ap (λ b. cond b 1 0) (lt-ltb found (2 ^ 62) below) in
            omega (arith, sum, stays, now, ruled.dealt, total-below armed_by count_of s.views (λ j u there. (ruled.views j u there).ready)))
            (λ above. let none : armed_by w ≡ 0 = ap (λ b. cond b 1 0) (le-ltb found (2 ^ 62) above) in omega (arith, sum, none, now))
            (cases_lt found (2 ^ 62)))
            (omega (arith, now), below_on found (epoch_in later) v.advanced (omega (arith, now)) f.past)
            (omega (arith, now, were, one_more, total-set advances_of s.views id v w at, ruled.counted))
            (clear_on seats s ruled id v at (epoch_in later) w v.bound v.passed (omega (arith, now)) (λ h. inl (h, refl)) refl f.scan),
        refl,
      )

  -- A scan begins
  pub begins : (m : Me S View) → Allows (Ruled {S = S} seats) slots id m epoch_word (λ n. n) (Begins (step slots epoch_word 0 0 none) m)
  begins m s ruled wide at small =
      let v = m.0 in
      let found = slice_index s.words epoch_word in
      let w : View = beginning v found in (
        w,
        keeps,
        tt,
        loaded (Ruled {S = S} seats) s epoch_word id w
            (sees seats s ruled id v at s.homes w refl refl refl refl refl (λ h. inl h)
            (scan_on seats s ruled id v at w found 0 refl refl (λ h. inl h) (omega arith, λ j u there valid below. absurd (omega arith)))),
        refl,
      )

  -- A scan reads the word of the next seat
  pub passes : (m : Me S View) (number word : ℕ) → word ≡ word_of number → number ≡ m.0.passed → number < seats
      → Allows (Ruled {S = S} seats) slots id m word (λ n. n) (Passes (step slots word 0 0 none) m)
  passes m number word word_is next below s ruled wide at small =
      let v = m.0 in
      let f = mine seats s ruled id v at in
      let found = slice_index s.words word in
      let w : View = passing v found in
      let scan : ClearBelow (epoch_in s.words) (least v.bound found) (v.passed + 1) s.views = (
        omega (arith, f.scan.0, least_below v.bound found),
        λ j u there valid before. ⊎_elim
            (λ less. omega (arith, f.scan.1 j u there valid less, least_below v.bound found))
            (λ not_less.
            let g = ruled.views j u there in
            let one = g.stay valid in
            let t = g.word u.first (omega arith, omega (arith, one.0)) in
            let is : number ≡ u.first = omega arith in
            let same : found ≡ u.own = ap (λ (k : ℕ). slice_index s.words k) (word_is ∙ ap word_of is) ∙ t.1 in
            omega (arith, least_found v.bound found (omega (arith, one.1))))
            (cases_lt u.first v.passed),
      ) in (
        w,
        keeps,
        tt,
        loaded (Ruled {S = S} seats) s word id w
            (sees seats s ruled id v at s.homes w refl refl refl refl refl (λ h. inl h)
            (scan_on seats s ruled id v at w (least v.bound found) (v.passed + 1) refl refl (λ h. inl h) scan)),
        refl,
      )

  -- A look by a seat that knows of a scan
  pub compares : (m : Me S View) (word : ℕ) → Allows (Ruled {S = S} seats) slots id m word (λ n. n) (Compares (step slots word 0 0 none) m)
  compares m word s ruled wide at small =
      let v = m.0 in
      let f = mine seats s ruled id v at in (
        v,
        keeps,
        tt,
        loaded (Ruled {S = S} seats) s word id v
            (sees seats s ruled id v at s.homes v refl refl refl refl refl (λ h. inl h)
            (scan_on seats s ruled id v at v v.bound v.passed refl refl (λ h. inl h) f.scan)),
        (refl, λ valid below. f.scan.1 id v at valid below),
      )

-- what is clear of a list is clear of it with a view of no stay
clear_more : (epoch bound number : ℕ) (views : List View) (new : View) → (new.valid ≡ true → ⊥) → ClearBelow epoch bound number views → ClearBelow epoch bound number (views ++ new ∷ [])
clear_more epoch bound number views new never c = (
  c.0,
  λ j u there valid below. ⊎_elim (λ old. c.1 j u old valid below) (λ is. absurd (never (ap (λ (x : View). x.valid) is ∙ valid))) (at_snoc views new u j there),
)

-- a list of one
only_one : {A : Type 0} (a : A) (P : ℕ → A → Type 0) → P 0 a → (j : ℕ) (b : A) → get_elem? (a ∷ []) j ≡ some b → P j b
only_one a P here zero b e = subst (λ x. P 0 x) (some-injective a b e) here
only_one a P here (suc j) b e = absurd (some-ne-none b (sym e))

-- where an element of a longer list stands
last_or_old : {A : Type 0} (l : List A) (a b : A) (j : ℕ) → get_elem? (l ++ a ∷ []) j ≡ some b → (get_elem? l j ≡ some b) ⊎ ((a ≡ b) × (j ≡ length l))
last_or_old [] a b zero e = inr (some-injective a b e, refl)
last_or_old [] a b (suc j) e = absurd (some-ne-none b (sym e))
last_or_old (x ∷ xs) a b zero e = inl e
last_or_old (x ∷ xs) a b (suc j) e = ⊎_elim (λ t. inl t) (λ t. inr (t.0, ap suc t.1)) (last_or_old xs a b j e)

module _ {S : Type 0} (seats id : ℕ) where
  -- A view is cut in two, and the new one has no stay
  pub splits : (v left right : View) → left.first ≡ v.first → left.count + right.count ≡ v.count → left.own ≡ v.own
      → (left.valid ≡ true → (v.valid ≡ true) × (left.count ≡ v.count)) → (right.valid ≡ true → ⊥)
      → ((number : ℕ) → Stands right number → Stands v number × (right.own ≡ v.own) × (Stands left number → ⊥))
      → armed_by left ≤ left.count → armed_by right ≤ right.count → armed_by left + armed_by right ≤ armed_by v
      → advances_of left + advances_of right ≡ advances_of v
      → ((epoch : ℕ) → AreBelow epoch v.advanced → AreBelow epoch left.advanced × AreBelow epoch right.advanced)
      → ((epoch : ℕ) (views : List View) → ClearBelow epoch v.bound v.passed views → ClearBelow epoch left.bound left.passed views × ClearBelow epoch right.bound right.passed views)
      → Splits (Ruled {S = S} seats) id v left right
  splits v left right first counts own stays never rights ready_left ready_right armed advances past scans s ruled at =
      let f = mine seats s ruled id v at in
      let epoch = epoch_in s.words in
      let set_views = set s.views id left in
      let views = set_views ++ right ∷ [] in
      let left_in : (number : ℕ) → Stands left number → Stands v number = (λ number stands. (omega (arith, stands.0), omega (arith, stands.1))) in
      let on : (bound number : ℕ) → ClearBelow epoch bound number s.views → ClearBelow epoch bound number views =
      (λ bound number c. clear_more epoch bound number set_views right never
      (clear_on seats s ruled id v at epoch left bound number (omega arith) (λ e. inl ((stays e).0, own)) first c)) in
      let scan_left = (scans epoch s.views f.scan).0 in
      let scan_right = (scans epoch s.views f.scan).1 in
      let each_old : (seat : ℕ) (u : View) → get_elem? set_views seat ≡ some u → FitsView seats s.words views u =
      each_set (λ j u. FitsView seats s.words views u) s.views id left
      record {
        ready = ready_left;
        word = λ number stands. let t = f.word number (left_in number stands) in (t.0, t.1 ∙ sym own);
        stay = λ e. let t = stays e in let r = f.stay t.0 in (t.1 ∙ r.0, omega (arith, r.1), omega (arith, r.2));
        past = (past epoch f.past).0;
        scan = on left.bound left.passed scan_left;
      }
      (λ j u ne there.
      let g = ruled.views j u there in
      record { ready = g.ready; word = g.word; stay = g.stay; past = g.past; scan = on u.bound u.passed g.scan }) in
      let new_fits : FitsView seats s.words views right = record {
        ready = ready_right;
        word = λ number stands. let r = rights number stands in let t = f.word number r.0 in (t.0, t.1 ∙ sym r.1);
        stay = λ e. absurd (never e);
        past = (past epoch f.past).1;
        scan = on right.bound right.passed scan_right;
      } in
      let each : (seat : ℕ) (u : View) → get_elem? views seat ≡ some u → FitsView seats s.words views u =
      (λ j u there. ⊎_elim (λ old. each_old j u old) (λ is. subst (λ (x : View). FitsView seats s.words views x) is new_fits) (at_snoc set_views right u j there)) in
      -- a view that stands for a number stood for it, or is new and the cut view stood for it
      let from : (i : ℕ) (a : View) → get_elem? views i ≡ some a → (number : ℕ) → Stands a number
      → ((b : View) × (get_elem? s.views i ≡ some b) × Stands b number × (i ≡ id → Stands left number)) ⊎ (Stands right number × (i ≡ length set_views)) =
      (λ i a there number stands. ⊎_elim
      (λ old. ⊎_elim
      (λ t. let in_left : Stands left number = subst (λ (x : View). Stands x number) (sym t.1) stands in
      inl (v, ap (get_elem? s.views) t.0 ∙ at, left_in number in_left, λ _. in_left))
      (λ t. inl (a, t.1, stands, λ e. absurd (t.0 e))) (at_set s.views id i left a old))
      (λ t. inr (subst (λ (x : View). Stands x number) (sym t.0) stands, t.1)) (last_or_old set_views right a i there)) in
      let apart_new : (i : ℕ) (a : View) (number : ℕ) → get_elem? s.views i ≡ some a → Stands a number → (i ≡ id → Stands left number) → Stands right number → ⊥ =
      (λ i a number there in_a in_left in_right.
      let r = rights number in_right in
      dite (ℕ_discrete i id) (λ e. r.2 (in_left e)) (λ ne. ruled.apart i id a v ne there at number in_a r.0)) in
      record {
        wide = ruled.wide;
        few = ruled.few;
        counted = omega (arith, ruled.counted, total-append advances_of set_views (right ∷ []), total-set advances_of s.views id v left at);
        room = omega (arith, ruled.room, total-append armed_by set_views (right ∷ []), total-set armed_by s.views id v left at);
        dealt = omega (arith, ruled.dealt, total-append count_of set_views (right ∷ []), total-set count_of s.views id v left at);
        apart = λ i j a b ne at_a at_b number in_a in_b. ⊎_elim
            (λ x. ⊎_elim
            (λ y. ruled.apart i j x.0 y.0 ne x.1 y.1 number x.2 y.2)
            (λ y. apart_new i x.0 number x.1 x.2 x.3 y.0) (from j b at_b number in_b))
            (λ x. ⊎_elim
            (λ y. apart_new j y.0 number y.1 y.2 y.3 x.0)
            (λ y. ne (x.1 ∙ sym y.1)) (from j b at_b number in_b))
            (from i a at_a number in_a);
        views = each;
        clear = all_clear seats s.words views each;
      }

  -- the first seat stays, and a new view stands for the others
  pub deals : (v : View) (first count : ℕ) → 1 ≤ count → v ≡ standing first count
      → Splits (Ruled {S = S} seats) id v (standing v.first 1) (standing (v.first + 1) (v.count - 1))
  deals v first count some_left is =
      let count_is : v.count ≡ count = ap (λ (x : View). x.count) is in
      splits v (standing v.first 1) (standing (v.first + 1) (v.count - 1)) refl (omega arith) (sym (ap (λ (x : View). x.own) is))
      (λ e. absurd (false≢true e)) (λ e. false≢true e)
      (λ number stands. ((omega (arith, stands.0), omega (arith, stands.1)), sym (ap (λ (x : View). x.own) is), λ left. omega (arith, left.1, stands.0)))
      (omega arith) (omega arith) (omega arith)
      (omega (arith, ap advances_of is, none_yet (nat_eq count 0), none_yet (nat_eq (v.count - 1) 0))) (λ _ _. (tt, tt))
      (λ epoch views c. ((omega arith, λ j u there valid below. absurd (omega arith)), (omega arith, λ j u there valid below. absurd (omega arith))))

  -- a token of what a seat knows
  pub tells : (v : View) → armed_by v ≤ v.count → Splits (Ruled {S = S} seats) id v v (token v)
  tells v ready =
      splits v v (token v) refl (omega arith) refl (λ e. (e, refl)) (λ e. false≢true e) (λ number stands. absurd (omega (arith, stands.0, stands.1)))
      ready (omega arith) (omega arith) (omega arith) (λ epoch past. (past, past)) (λ epoch views c. (c, c))

  -- the same of any view
  pub tells_any : (v : View) → Splits (Ruled {S = S} seats) id v v (token v)
  tells_any v s ruled at = tells v (ruled.views id v at).ready s ruled at

  -- a seat learns what a token knows of a scan
  pub learns : (other : ℕ) (v w : View) → w.first ≡ 0 → w.count ≡ 0 → w.armed ≡ false → Joins (Ruled {S = S} seats) id v other w (learning v w) (standing 0 0)
  learns other v w first nobody unarmed s ruled at ne at_both =
      let both = learning v w in
      let at_old : get_elem? s.views other ≡ some w = sym (set_else s.views id other both ne) ∙ at_both in
      let g = ruled.views other w at_old in
      let one : Ruled {S = S} seats record { words = s.words; homes = s.homes; views = set s.views id both } =
      sees seats s ruled id v at s.homes both refl refl refl refl refl (λ h. inl h)
      (scan_on seats s ruled id v at both w.bound w.passed refl refl (λ h. inl h) g.scan) in
      let s1 : State S View = record { words = s.words; homes = s.homes; views = set s.views id both } in
      let spent = standing 0 0 in
      let zero_armed : armed_by w ≡ 0 = ap (λ b. cond b 1 0) unarmed in
      let no_advances : advances_of w ≡ 0 = ap (λ (n : ℕ). cond (nat_eq n 0) 0 (length w.advanced)) nobody in
      moves seats s1 one other w at_both s.words s.homes spent refl (omega arith) (λ _ _ _. refl) (λ number below stands. absurd (omega (arith, stands.0, stands.1)))
      (sym first) (sym nobody) (λ e. absurd (false≢true e)) (omega arith)
      (omega (arith, total-set armed_by s1.views other w spent at_both, one.room)) tt
      (omega (arith, no_advances, total-set advances_of s1.views other w spent at_both, one.counted)) (omega arith, λ j u there valid below. absurd (omega arith))

-- each of so many words is 0
zero_everywhere : (n i : ℕ) → slice_index (replicate n 0) i ≡ 0
zero_everywhere zero i = refl
zero_everywhere (suc n) zero = refl
zero_everywhere (suc n) (suc i) = zero_everywhere n i

-- The table as it opens
module _ {S : Type 0} (seats : ℕ) where
  pub opens : (words : List ℕ) → length words ≡ word_of seats → epoch_in words ≡ 1 → ((number : ℕ) → slice_index words (word_of number) ≡ 0) → seats < 2 ^ 62
      → Ruled {S = S} seats (opening words [] (unmet seats))
  opens words wide begun zeros few =
      let views = unmet seats ∷ [] in
      let only : (P : ℕ → View → Type 0) → P 0 (unmet seats) → (seat : ℕ) (u : View) → get_elem? views seat ≡ some u → P seat u = only_one (unmet seats) in
      let each : (seat : ℕ) (u : View) → get_elem? views seat ≡ some u → FitsView seats words views u =
      only (λ _ u. FitsView seats words views u) record {
        ready = omega arith;
        word = λ number stands. (omega (arith, stands.1), zeros number);
        stay = λ e. absurd (false≢true e);
        past = tt;
        scan = (omega arith, λ j u there valid below. absurd (omega arith));
      } in
      record {
        wide = wide;
        few = few;
        counted = omega (arith, begun, none_yet (nat_eq seats 0));
        room = omega (arith, begun);
        dealt = omega arith;
        apart = λ i j a b ne at_a at_b number in_a in_b.
            ne (only (λ k _. k ≡ 0) refl i a at_a ∙ sym (only (λ k _. k ≡ 0) refl j b at_b));
        views = each;
        clear = all_clear seats words views each;
      }

  -- the words of a new table: the epoch word is 1, and the others are 0
  pub opens_anew : (words : List ℕ) → words ≡ set (replicate (word_of seats) 0) epoch_word 1 → seats < 2 ^ 62 → Ruled {S = S} seats (opening words [] (unmet seats))
  opens_anew words is few =
      let zeros : List ℕ = replicate (word_of seats) 0 in
      let wide : length zeros ≡ word_of seats = length-replicate (word_of seats) 0 in
      let apart : (number : ℕ) → word_of number ≢ epoch_word = (λ number e. omega arith) in
      opens words (ap length is ∙ length-set zeros epoch_word 1 ∙ wide)
      (ap epoch_in is ∙ get_or-set_same zeros epoch_word 1 0 (omega (arith, wide)))
      (λ number. ap (λ (l : List ℕ). slice_index l (word_of number)) is ∙ get_or-set_other zeros epoch_word (word_of number) 1 0 (apart number) ∙ zero_everywhere (word_of seats) (word_of number)) few
