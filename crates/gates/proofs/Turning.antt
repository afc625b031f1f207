-- Parts, turned round until one is in front.
use Rattle.std.proofs.Common.{◌≡◌, ◌≢◌, ℕ, ◌+◌, ◌<◌, ◌≤◌, List, [], ◌∷◌, ◌++◌, Option, Some, None, cond, nat_eq, length, sym, refl, ap, subst, ◌∙◌, arith, eq-eqb, ne_eqb, ⊎_elim, append_assoc, append-nil, IsSome}
use Rattle.std.proofs.lemmas.Bool.{cases_eq}
use Rattle.atomic_table.specs.Table.{Me, rest, turned}
use Rattle.gates.specs.declared.held.Held.{Held}
use Rattle.gates.specs.Sets.{part_at, times, turned_list}
use Rattle.gates.specs.Passes.{stripes_among}
use Rattle.gates.specs.Helds.{held_parts, IsOpen}
use Rattle.gates.specs.Lending.{from_part, before_part, brought, held_with, with_part}
use Rattle.gates.proofs.Lists.{times_here, times_else, times-append}
use Rattle.atomic_table.specs.declared.shared.Seat.{Seat}
use Rattle.gates.specs.declared.view.View.{View}
use Rattle.gates.proofs.Holding.{part_some, stands_some, among_snoc, first_part}

module _ {T : Type 0} where
  -- a stripe's part at the front, or behind another
  at_first : (i : ℕ) (x : ℕ × T) (xs : List (ℕ × T)) → x.0 ≡ i → part_at (x ∷ xs) i ≡ Some x.1
  at_first i x xs e = ap (λ b. cond b (Some x.1) (part_at xs i)) (eq-eqb x.0 i e)

  at_later : (i : ℕ) (x : ℕ × T) (xs : List (ℕ × T)) → x.0 ≢ i → part_at (x ∷ xs) i ≡ part_at xs i
  at_later i x xs ne = ap (λ b. cond b (Some x.1) (part_at xs i)) (ne_eqb x.0 i ne)

  from_first : (i : ℕ) (x : ℕ × T) (xs : List (ℕ × T)) → x.0 ≡ i → from_part i (x ∷ xs) ≡ x ∷ xs
  from_first i x xs e = ap (λ b. cond b (x ∷ xs) (from_part i xs)) (eq-eqb x.0 i e)

  from_later : (i : ℕ) (x : ℕ × T) (xs : List (ℕ × T)) → x.0 ≢ i → from_part i (x ∷ xs) ≡ from_part i xs
  from_later i x xs ne = ap (λ b. cond b (x ∷ xs) (from_part i xs)) (ne_eqb x.0 i ne)

  before_first : (i : ℕ) (x : ℕ × T) (xs : List (ℕ × T)) → x.0 ≡ i → before_part i (x ∷ xs) ≡ []
  before_first i x xs e = ap (λ b. cond b [] (x ∷ before_part i xs)) (eq-eqb x.0 i e)

  before_later : (i : ℕ) (x : ℕ × T) (xs : List (ℕ × T)) → x.0 ≢ i → before_part i (x ∷ xs) ≡ x ∷ before_part i xs
  before_later i x xs ne = ap (λ b. cond b [] (x ∷ before_part i xs)) (ne_eqb x.0 i ne)

  some_later : (i : ℕ) (x : ℕ × T) (xs : List (ℕ × T)) → x.0 ≢ i → IsSome (part_at (x ∷ xs) i) → IsSome (part_at xs i)
  some_later i x xs ne h = subst IsSome (at_later i x xs ne) h

  -- what is put behind a list that has the stripe
  from_snoc : (i : ℕ) (xs ys : List (ℕ × T)) → IsSome (part_at xs i) → from_part i (xs ++ ys) ≡ from_part i xs ++ ys
  from_snoc i [] ys h = absurd cc
  from_snoc i (x ∷ xs) ys h = ⊎_elim
      (λ e. from_first i x (xs ++ ys) e ∙ ap (λ (l : List (ℕ × T)). l ++ ys) (sym (from_first i x xs e)))
      (λ ne. from_later i x (xs ++ ys) ne ∙ from_snoc i xs ys (some_later i x xs ne h) ∙ ap (λ (l : List (ℕ × T)). l ++ ys) (sym (from_later i x xs ne)))
      (cases_eq x.0 i)

  before_snoc : (i : ℕ) (xs ys : List (ℕ × T)) → IsSome (part_at xs i) → before_part i (xs ++ ys) ≡ before_part i xs
  before_snoc i [] ys h = absurd cc
  before_snoc i (x ∷ xs) ys h = ⊎_elim
      (λ e. before_first i x (xs ++ ys) e ∙ sym (before_first i x xs e))
      (λ ne. before_later i x (xs ++ ys) ne ∙ ap (λ (l : List (ℕ × T)). x ∷ l) (before_snoc i xs ys (some_later i x xs ne h)) ∙ sym (before_later i x xs ne))
      (cases_eq x.0 i)

  -- a turn does not change where it ends
  pub brought_turned : (i : ℕ) (x : ℕ × T) (xs : List (ℕ × T)) → x.0 ≢ i → IsSome (part_at (x ∷ xs) i) → brought i (xs ++ x ∷ []) ≡ brought i (x ∷ xs)
  brought_turned i x xs ne h =
      let h' = some_later i x xs ne h in
      ap (λ (l : List (ℕ × T)). l ++ before_part i (xs ++ x ∷ [])) (from_snoc i xs (x ∷ []) h')
      ∙ ap (λ (l : List (ℕ × T)). (from_part i xs ++ x ∷ []) ++ l) (before_snoc i xs (x ∷ []) h')
      ∙ append_assoc (from_part i xs) (x ∷ []) (before_part i xs)
      ∙ ap (λ (l : List (ℕ × T)). l ++ x ∷ before_part i xs) (sym (from_later i x xs ne))
      ∙ ap (λ (l : List (ℕ × T)). from_part i (x ∷ xs) ++ l) (sym (before_later i x xs ne))

  -- and comes nearer to it
  pub before_turned : (i : ℕ) (x : ℕ × T) (xs : List (ℕ × T)) → x.0 ≢ i → IsSome (part_at (x ∷ xs) i)
      → length (before_part i (xs ++ x ∷ [])) < length (before_part i (x ∷ xs))
  before_turned i x xs ne h =
      omega (arith, ap (λ (l : List (ℕ × T)). length l) (before_snoc i xs (x ∷ []) (some_later i x xs ne h)), ap (λ (l : List (ℕ × T)). length l) (before_later i x xs ne))

  -- the stripe still has its part
  pub some_turned : (i : ℕ) (xs : List (ℕ × T)) → IsSome (part_at xs i) → IsSome (part_at (turned xs) i)
  some_turned i [] h = absurd cc
  some_turned i (x ∷ xs) h =
      stands_some (xs ++ x ∷ []) i (omega (arith, ap (times i) (among_snoc xs x.0 x.1), times-append i (stripes_among xs) (x.0 ∷ []), part_some (x ∷ xs) i h))

  pub among_turned : (xs : List (ℕ × T)) → stripes_among (turned xs) ≡ turned_list (stripes_among xs)
  among_turned [] = refl
  among_turned (x ∷ xs) = among_snoc xs x.0 x.1

  -- where the part is in front, all is as it ends
  pub brought_first : (i : ℕ) (x : ℕ × T) (xs : List (ℕ × T)) → x.0 ≡ i → brought i (x ∷ xs) ≡ x ∷ xs
  brought_first i x xs e =
      ap (λ (l : List (ℕ × T)). l ++ before_part i (x ∷ xs)) (from_first i x xs e) ∙ ap (λ (l : List (ℕ × T)). (x ∷ xs) ++ l) (before_first i x xs e) ∙ append-nil (x ∷ xs)

  from_has : (i : ℕ) (xs : List (ℕ × T)) → IsSome (part_at xs i) → (part : T) × (from_part i xs ≡ (i, part) ∷ rest (from_part i xs)) × (part_at xs i ≡ Some part)
  from_has i [] h = absurd cc
  from_has i (x ∷ xs) h = ⊎_elim
      (λ e. (x.1, from_first i x xs e ∙ ap (λ (k : ℕ). (k, x.1) ∷ xs) e ∙ ap (λ (l : List (ℕ × T)). (i, x.1) ∷ rest l) (sym (from_first i x xs e)), at_first i x xs e))
      (λ ne.
      let t = from_has i xs (some_later i x xs ne h) in
      (t.0, from_later i x xs ne ∙ t.1 ∙ ap (λ (l : List (ℕ × T)). (i, t.0) ∷ rest l) (sym (from_later i x xs ne)), at_later i x xs ne ∙ t.2))
      (cases_eq x.0 i)

  -- the stripe's part is in front
  pub brought_has : (i : ℕ) (xs : List (ℕ × T)) → IsSome (part_at xs i) → (part : T) × (brought i xs ≡ (i, part) ∷ rest (brought i xs)) × (part_at xs i ≡ Some part)
  brought_has i [] h = absurd cc
  brought_has i (x ∷ xs) h = ⊎_elim
      (λ e. (
        x.1,
        brought_first i x xs e ∙ ap (λ (k : ℕ). (k, x.1) ∷ xs) e ∙ ap (λ (l : List (ℕ × T)). (i, x.1) ∷ rest l) (sym (brought_first i x xs e)),
        at_first i x xs e,
      ))
      (λ ne.
      let t = brought_has i xs (some_later i x xs ne h) in
      let from : brought i (x ∷ xs) ≡ from_part i xs ++ x ∷ before_part i xs =
      ap (λ (l : List (ℕ × T)). l ++ before_part i (x ∷ xs)) (from_later i x xs ne) ∙ ap (λ (l : List (ℕ × T)). from_part i xs ++ l) (before_later i x xs ne) in
      let f = from_has i xs (some_later i x xs ne h) in (
        f.0,
        from ∙ ap (λ (l : List (ℕ × T)). l ++ x ∷ before_part i xs) f.1
            ∙ ap (λ (l : List (ℕ × T)). (i, f.0) ∷ rest l) (sym (from ∙ ap (λ (l : List (ℕ × T)). l ++ x ∷ before_part i xs) f.1)),
        at_later i x xs ne ∙ f.2,
      ))
      (cases_eq x.0 i)

  -- what is held, after a turn
  pub held_turned : (h : Held T) (order : List ℕ) (seat : Seat T (View T)) (i : ℕ) → seat.table_id ≡ h.pass.now.seat.table_id → seat.id ≡ h.pass.now.seat.id
      → seat.me ≡ (h.pass.now.seat.me.0, turned h.pass.now.seat.me.1) → brought i (turned (held_parts h)) ≡ brought i (held_parts h)
      → held_with (record h { pass = record (h.pass) { now = record (h.pass.now) { seat = seat } }; order = order }) (brought i seat.me.1) ≡ held_with h (brought i (held_parts h))
  held_turned h order seat i table id me same =
      let b : brought i seat.me.1 ≡ brought i (held_parts h) = ap (λ (m : Me T (View T)). brought i m.1) me ∙ same in
      let v : seat.me.0 ≡ h.pass.now.seat.me.0 = ap (λ (m : Me T (View T)). m.0) me in
      λ k. record h {
        pass = record (h.pass) {
          now = record (h.pass.now) {
            seat = record (h.pass.now.seat) { table_id = table k; id = id k; me = (v k, b k) };
          };
        };
        order = stripes_among (b k);
      }

  -- what is held, with the parts that there are
  pub held_same : (h : Held T) → stripes_among (held_parts h) ≡ h.order → held_with h (held_parts h) ≡ h
  held_same h e = λ k. record h { order = e k }

  pub held_done : (h initial : Held T) (i : ℕ) → stripes_among (held_parts h) ≡ h.order → (others : List ℕ) → h.order ≡ i ∷ others
      → held_with h (brought i (held_parts h)) ≡ held_with initial (brought i (held_parts initial)) → h ≡ held_with initial (brought i (held_parts initial))
  held_done h initial i order others first same =
      let f = first_part (held_parts h) i others (order ∙ first) in
      let there : brought i (held_parts h) ≡ held_parts h =
      ap (brought i) f.1 ∙ brought_first i (i, f.0) (rest (held_parts h)) refl ∙ sym f.1 in
      sym (held_same h order) ∙ ap (held_with h) (sym there) ∙ same

  -- a stripe that has a part is not in front, so its parts can be turned
  pub turn_keeps : (parts : List (ℕ × T)) (i first : ℕ) (others : List ℕ) → stripes_among parts ≡ first ∷ others → first ≢ i → IsSome (part_at parts i)
      → (brought i (turned parts) ≡ brought i parts) × (length (before_part i (turned parts)) < length (before_part i parts))
  turn_keeps [] i first others e ne h = absurd cc
  turn_keeps (x ∷ xs) i first others e ne h =
      let here : x.0 ≡ first = cc in
      let apart : x.0 ≢ i = (λ same. ne (sym here ∙ same)) in
      (brought_turned i x xs apart h, before_turned i x xs apart h)

  pub none_has : (i : ℕ) (parts : List (ℕ × T)) → parts ≡ [] → IsSome (part_at parts i) → ⊥
  none_has i [] e h = cc
  none_has i (x ∷ xs) e h = cc

  -- where one stripe alone is held, no other has its part
  pub held_alone : (s i : ℕ) (parts : List (ℕ × T)) → stripes_among parts ≡ s ∷ [] → IsSome (part_at parts i) → i ≡ s
  held_alone s i parts alone there =
      let stands : 0 < times i (s ∷ []) = subst (λ (l : List ℕ). 0 < times i l) alone (part_some parts i there) in
      ⊎_elim (λ same. sym same) (λ ne. absurd (omega (arith, stands, times_else i s [] ne))) (cases_eq s i)

  -- what is held once the part in front was written
  pub lent : (h later : Held T) (i : ℕ) (w : T) → later ≡ held_with h (brought i (held_parts h)) → IsSome (part_at (held_parts h) i)
      → record later {
        pass = record (later.pass) {
          now = record (later.pass.now) { seat = record (later.pass.now.seat) { me = (later.pass.now.seat.me.0, (i, w) ∷ rest later.pass.now.seat.me.1) } };
        };
      } ≡ with_part h i w
  lent h later i w is there =
      let t = brought_has i (held_parts h) there in
      let order : stripes_among (brought i (held_parts h)) ≡ i ∷ stripes_among (rest (brought i (held_parts h))) = ap (λ (l : List (ℕ × T)). stripes_among l) t.1 in
      (λ k. record (is k) {
        pass = record ((is k).pass) {
          now = record ((is k).pass.now) { seat = record ((is k).pass.now.seat) { me = ((is k).pass.now.seat.me.0, (i, w) ∷ rest (is k).pass.now.seat.me.1) } };
        };
      })
      ∙ (λ k. record (with_part h i w) { order = order k })

  abbrev front_of : T → List (ℕ × T) → Option T
  front_of part [] = None
  front_of part (x ∷ xs) = Some x.1

  -- and what was lent
  pub lent_value : (h later : Held T) (i : ℕ) (part : T) → later ≡ held_with h (brought i (held_parts h)) → IsSome (part_at (held_parts h) i)
      → held_parts later ≡ (i, part) ∷ rest (held_parts later) → part_at (held_parts h) i ≡ Some part
  lent_value h later i part is there front =
      let t = brought_has i (held_parts h) there in
      let parts : held_parts later ≡ brought i (held_parts h) = ap (λ (x : Held T). held_parts x) is in
      let same : (i, part) ∷ rest (held_parts later) ≡ (i, t.0) ∷ rest (brought i (held_parts h)) = sym front ∙ parts ∙ t.1 in
      t.2 ∙ sym (ap (λ (l : List (ℕ × T)). front_of part l) same)

  part_skip : (j : ℕ) (xs ys : List (ℕ × T)) → times j (stripes_among xs) ≡ 0 → part_at (xs ++ ys) j ≡ part_at ys j
  part_skip j [] ys none = refl
  part_skip j (x ∷ xs) ys none = ⊎_elim
      (λ e. let one : times j (x.0 ∷ stripes_among xs) ≡ 1 + times j (stripes_among xs) = subst (λ (k : ℕ). times j (k ∷ stripes_among xs) ≡ 1 + times j (stripes_among xs)) (sym e) (times_here j (stripes_among xs)) in absurd (omega arith))
      (λ ne. at_later j x (xs ++ ys) ne ∙ part_skip j xs ys (sym (times_else j x.0 (stripes_among xs) ne) ∙ none))
      (cases_eq x.0 j)

  part_none : (j : ℕ) (ys : List (ℕ × T)) → times j (stripes_among ys) ≡ 0 → part_at ys j ≡ None
  part_none j [] none = refl
  part_none j (y ∷ ys) none = ⊎_elim
      (λ e. let one : times j (y.0 ∷ stripes_among ys) ≡ 1 + times j (stripes_among ys) = subst (λ (k : ℕ). times j (k ∷ stripes_among ys) ≡ 1 + times j (stripes_among ys)) (sym e) (times_here j (stripes_among ys)) in absurd (omega arith))
      (λ ne. at_later j y ys ne ∙ part_none j ys (sym (times_else j y.0 (stripes_among ys) ne) ∙ none))
      (cases_eq y.0 j)

  part_end : (j : ℕ) (xs ys : List (ℕ × T)) → times j (stripes_among ys) ≡ 0 → part_at (xs ++ ys) j ≡ part_at xs j
  part_end j [] ys none = part_none j ys none
  part_end j (x ∷ xs) ys none = ap (λ (o : Option T). cond (nat_eq x.0 j) (Some x.1) o) (part_end j xs ys none)

  among_append : (xs ys : List (ℕ × T)) → stripes_among (xs ++ ys) ≡ stripes_among xs ++ stripes_among ys
  among_append [] ys = refl
  among_append (x ∷ xs) ys = ap (λ l. x.0 ∷ l) (among_append xs ys)

  times_parts : (j : ℕ) (xs ys : List (ℕ × T)) → times j (stripes_among (xs ++ ys)) ≡ times j (stripes_among xs) + times j (stripes_among ys)
  times_parts j xs ys = ap (times j) (among_append xs ys) ∙ times-append j (stripes_among xs) (stripes_among ys)

  -- the two halves
  halves : (i : ℕ) (xs : List (ℕ × T)) → xs ≡ before_part i xs ++ from_part i xs
  halves i [] = refl
  halves i (x ∷ xs) = ⊎_elim
      (λ e. sym (from_first i x xs e) ∙ ap (λ (l : List (ℕ × T)). l ++ from_part i (x ∷ xs)) (sym (before_first i x xs e)))
      (λ ne. ap (λ (l : List (ℕ × T)). x ∷ l) (halves i xs) ∙ ap (λ (l : List (ℕ × T)). (x ∷ before_part i xs) ++ l) (sym (from_later i x xs ne))
      ∙ ap (λ (l : List (ℕ × T)). l ++ from_part i (x ∷ xs)) (sym (before_later i x xs ne)))
      (cases_eq x.0 i)

  pub times_brought : (i j : ℕ) (xs : List (ℕ × T)) → times j (stripes_among (brought i xs)) ≡ times j (stripes_among xs)
  times_brought i j xs =
      omega (arith, times_parts j (from_part i xs) (before_part i xs), times_parts j (before_part i xs) (from_part i xs), ap (λ (l : List (ℕ × T)). times j (stripes_among l)) (halves i xs))

  pub part_brought : (i j : ℕ) (xs : List (ℕ × T)) → times j (stripes_among xs) ≤ 1 → part_at (brought i xs) j ≡ part_at xs j
  part_brought i j xs once =
      let b = before_part i xs in let f = from_part i xs in
      let sum : times j (stripes_among b) + times j (stripes_among f) ≤ 1 = omega (arith, times_parts j b f, ap (λ (l : List (ℕ × T)). times j (stripes_among l)) (halves i xs)) in
      let whole : part_at xs j ≡ part_at (b ++ f) j = ap (λ (l : List (ℕ × T)). part_at l j) (halves i xs) in
      ⊎_elim
      (λ none. part_end j f b none ∙ sym (part_skip j b f none) ∙ sym whole)
      (λ some. let none : times j (stripes_among f) ≡ 0 = omega (arith, some) in
      part_skip j f b none ∙ sym (part_end j b f none) ∙ sym whole)
      (cases_eq (times j (stripes_among b)) 0)

  -- after a write, the stripe has the new part
  pub written_has : (i : ℕ) (w : T) (parts : List (ℕ × T)) → part_at ((i, w) ∷ rest (brought i parts)) i ≡ Some w
  written_has i w parts = at_first i (i, w) (rest (brought i parts)) refl

  -- and each other stripe the part that it had
  pub written_other : (i j : ℕ) (w : T) (parts : List (ℕ × T)) → IsSome (part_at parts i) → times j (stripes_among parts) ≤ 1 → j ≢ i
      → part_at ((i, w) ∷ rest (brought i parts)) j ≡ part_at parts j
  written_other i j w parts there once ne =
      let t = brought_has i parts there in
      let apart : i ≢ j = (λ e. ne (sym e)) in
      at_later j (i, w) (rest (brought i parts)) apart ∙ sym (at_later j (i, t.0) (rest (brought i parts)) apart) ∙ ap (λ (l : List (ℕ × T)). part_at l j) (sym t.1) ∙ part_brought i j parts once

  among_written : (i : ℕ) (w : T) (parts : List (ℕ × T)) → IsSome (part_at parts i) → stripes_among ((i, w) ∷ rest (brought i parts)) ≡ stripes_among (brought i parts)
  among_written i w parts there = let t = brought_has i parts there in sym (ap (λ (l : List (ℕ × T)). stripes_among l) t.1)

  -- what is held stays open
  pub written_open : {trusted : Type 0} (h : Held T) (i : ℕ) (w : T) → IsOpen trusted h → IsSome (part_at (held_parts h) i) → IsOpen trusted (with_part h i w)
  written_open h i w is there =
      let s = is.holding.seat in
      let parts = held_parts h in
      let same : (j : ℕ) → times j (stripes_among ((i, w) ∷ rest (brought i parts))) ≡ times j (stripes_among parts) =
      (λ j. ap (times j) (among_written i w parts there) ∙ times_brought i j parts) in
      record {
        holding = record {
          table = is.holding.table;
          small = is.holding.small;
          armed = is.holding.armed;
          seat = record {
            single = s.single;
            number_is = s.number_is;
            once = λ j. omega (arith, s.once j, same j);
            same = λ j. s.same j ∙ sym (same j);
            below = λ j at. s.below j (omega (arith, same j));
            legal = s.legal;
            mine = s.mine;
            watches = s.watches;
            each_once = s.each_once;
          };
        };
        order = refl;
      }
