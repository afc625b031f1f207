-- Places that were released.
use Rattle.std.proofs.Common.{◌≡◌, ◌∙◌, ◌+◌, ◌-◌, ◌<◌, ◌≤◌, ◌⊎◌, inl, inr, ⊎_elim, ℕ, Bool, true, false, List, [], ◌∷◌, ◌++◌, length, length-append, append_assoc, append-nil, refl, sym, ap, subst, arith}
use Rattle.epoch.specs.declared.view.View.{View}
use Rattle.epoch.specs.declared.view.Note.{Note}
use Rattle.epoch.specs.declared.view.Note.TheVariants.{Worn}
use Rattle.epoch.specs.Seats.{AdvancedPast, WasWorn}
use Rattle.std.specs.List.{Contains}
use Rattle.gates.specs.Background.{AreRaised, IsEachRefused}
use Rattle.gates.specs.Pages.{Place}
use Rattle.hybrid.specs.HybridLog.{HybridLog, Kept}
use Rattle.shards.specs.Counted.{Counted, HasReleased, HasRetired, HasTurned, IsCounted, places_of, waiting_of}
use Rattle.shards.specs.declared.freeing.Freed.{Freed}
use Rattle.shards.specs.Freeing.{HasDrainedAll, HasFreed, HasReleasedAll, HasRetiredAll, HasTriedAll, ReleasesAll}
use Rattle.std.specs.Bool.{OnFalse}
use Rattle.hybrid.specs.HybridLog.{log_of}
use Rattle.hybrid.specs.Log.{contents}
use Rattle.shards.proofs.Raised.{raised_gone, raised_left, raised_none, tried_since, waited_both, waited_none, waited_retired}

-- RETIRED

pub retired_none : (c : Counted) → HasRetiredAll false c c
retired_none c = record { log = refl; in_flight = refl; drained = refl; places = refl; waited = waited_none (waiting_of c); worn = refl }

pub retired_more : (old now next : Counted) → HasRetiredAll false old now → HasRetired now next → HasRetiredAll false old next
retired_more old now next all one =
    let fewer : length now.unlinked ≡ length one.others + 1 = ap length one.had ∙ omega arith in
    let more : length next.retired ≡ length now.retired + 1 = ap (λ (c : Counted). length c.retired) one.is ∙ length-append now.retired (one.kept ∷ []) in
    record {
      log = ap (λ (c : Counted). c.log) one.is ∙ all.log;
      in_flight = ap (λ (c : Counted). c.in_flight) one.is ∙ all.in_flight;
      drained = ap (λ (c : Counted). c.drained) one.is ∙ all.drained;
      places = omega (arith, fewer, more, ap (λ (c : Counted). length c.unlinked) one.is, all.places);
      waited = waited_both (waiting_of old) (waiting_of now) (waiting_of next) all.waited (waited_retired now next one);
      worn = ap (λ (c : Counted). c.worn) one.is ∙ all.worn;
    }

-- one more was not retired
pub retired_refused : (old now next : Counted) → HasRetiredAll false old now → next ≡ record now { worn = true } → HasRetiredAll true old next
retired_refused old now next all is =
    subst (λ (c : Counted). HasRetiredAll true old c) (sym is) (record {
      log = all.log;
      in_flight = all.in_flight;
      drained = all.drained;
      places = all.places;
      waited = record { unlinked = all.waited.unlinked; retired = all.waited.retired };
      worn = refl;
    })

pub retired_fewer : (now next : Counted) → HasRetired now next → length next.unlinked < length now.unlinked
retired_fewer now next one = omega (arith, ap length one.had, ap (λ (c : Counted). length c.unlinked) one.is)

pub tried_none : (v : View) → HasTriedAll false v v
tried_none v = record { advanced = ([], refl); notes = refl }

pub tried_more : (e : ℕ) (u v w : View) → HasTriedAll false u v → AdvancedPast e v w → HasTriedAll false u w
tried_more e u v w all one = record { advanced = (e ∷ all.advanced.0, one.advanced ∙ ap (λ (l : List ℕ). e ∷ l) all.advanced.1); notes = one.notes ∙ all.notes }

pub tried_worn : (u v w : View) → HasTriedAll false u v → WasWorn v w → HasTriedAll true u w
tried_worn u v w all one = record { advanced = (all.advanced.0, one.advanced ∙ all.advanced.1); notes = one.notes ∙ ap (λ (l : List Note). Worn ∷ l) all.notes }

-- DRAINED

-- So many retired receipts are still to be tried, the first ones. Each of the others that is left was refused.
pub record IsTurning (old now : Counted) (left : ℕ) : Type 0 where
  pub log : now.log ≡ old.log
  pub in_flight : now.in_flight ≡ old.in_flight
  pub unlinked : now.unlinked ≡ old.unlinked
  pub worn : now.worn ≡ old.worn
  pub places : length now.retired + length now.drained ≡ length old.retired + length old.drained
  pub some : left ≤ length now.retired
  pub gone : List (Place × ℕ)
  pub rest : List (Place × ℕ)
  pub kept : List (Place × ℕ)
  pub first : length rest ≡ left
  pub was : old.refused ≡ gone ++ rest
  pub is : now.refused ≡ rest ++ kept
  pub raised : AreRaised 1 [] gone kept

pub turning_begin : (c : Counted) (n : ℕ) → n ≡ length c.retired → n ≡ length c.refused → IsTurning c c n
turning_begin c n retired refused = record {
  log = refl;
  in_flight = refl;
  unlinked = refl;
  worn = refl;
  places = refl;
  some = omega (arith, retired);
  gone = [];
  rest = c.refused;
  kept = [];
  first = sym refused;
  was = refl;
  is = sym (append-nil c.refused);
  raised = raised_none 1 [] [];
}

head_is : (a b : Place × ℕ) (x y : List (Place × ℕ)) → a ∷ x ≡ b ∷ y → a ≡ b
head_is a b x y e = cc e

tail_is : (a b : Place × ℕ) (x y : List (Place × ℕ)) → a ∷ x ≡ b ∷ y → x ≡ y
tail_is a b x y e = cc e

-- the first of the counts that are left is that of the receipt that was tried
turn_counts : (was now gone rest kept counts : List (Place × ℕ)) (count : Place × ℕ) → was ≡ gone ++ rest → now ≡ rest ++ kept → now ≡ count ∷ counts → 0 < length rest
    → (others : List (Place × ℕ)) × (length rest ≡ length others + 1) × (was ≡ (gone ++ count ∷ []) ++ others) × (counts ≡ others ++ kept)
turn_counts was now gone [] kept counts count is_was is_now has some = absurd (omega (arith, some))
turn_counts was now gone (r ∷ rest) kept counts count is_was is_now has some = (
  rest,
  omega arith,
  is_was ∙ ap (λ (n : Place × ℕ). gone ++ n ∷ rest) (head_is r count (rest ++ kept) counts (sym is_now ∙ has)) ∙ sym (append_assoc gone (count ∷ []) rest),
  sym (tail_is r count (rest ++ kept) counts (sym is_now ∙ has)),
)

pub turning_more : (old now next : Counted) (before left : ℕ) → before ≡ left + 1 → IsTurning old now before → HasTurned now next → IsTurning old next left
turning_more old now next before left one t has =
    let one_is : Place × ℕ = (has.kept.identity, has.count) in
    let split = turn_counts old.refused now.refused t.gone t.rest t.kept has.counts one_is t.was t.is has.counted (omega (arith, t.first, one)) in
    let longer : length now.retired ≡ length has.others + 1 = ap length has.had ∙ omega arith in
    ⊎_elim
    (λ drained. record {
      log = ap (λ (c : Counted). c.log) drained ∙ t.log;
      in_flight = ap (λ (c : Counted). c.in_flight) drained ∙ t.in_flight;
      unlinked = ap (λ (c : Counted). c.unlinked) drained ∙ t.unlinked;
      worn = ap (λ (c : Counted). c.worn) drained ∙ t.worn;
      places = omega (arith, longer, ap (λ (c : Counted). length c.retired) drained, ap (λ (c : Counted). length c.drained) drained ∙ length-append now.drained (has.kept ∷ []), t.places);
      some = omega (arith, longer, ap (λ (c : Counted). length c.retired) drained, t.some, one);
      gone = t.gone ++ one_is ∷ [];
      rest = split.0;
      kept = t.kept;
      first = omega (arith, split.1, t.first, one);
      was = split.2;
      is = ap (λ (c : Counted). c.refused) drained ∙ split.3;
      raised = raised_gone t.gone t.kept one_is t.raised;
    })
    (λ refused. record {
      log = ap (λ (c : Counted). c.log) refused.2 ∙ t.log;
      in_flight = ap (λ (c : Counted). c.in_flight) refused.2 ∙ t.in_flight;
      unlinked = ap (λ (c : Counted). c.unlinked) refused.2 ∙ t.unlinked;
      worn = ap (λ (c : Counted). c.worn) refused.2 ∙ t.worn;
      places = omega (arith, longer, ap (λ (c : Counted). length c.retired) refused.2 ∙ length-append has.others (has.kept ∷ []), ap (λ (c : Counted). length c.drained) refused.2, t.places);
      some = omega (arith, longer, ap (λ (c : Counted). length c.retired) refused.2 ∙ length-append has.others (has.kept ∷ []), t.some, one);
      gone = t.gone ++ one_is ∷ [];
      rest = split.0;
      kept = t.kept ++ (has.kept.identity, refused.0) ∷ [];
      first = omega (arith, split.1, t.first, one);
      was = split.2;
      is = ap (λ (c : Counted). c.refused) refused.2 ∙ ap (λ (l : List (Place × ℕ)). l ++ (has.kept.identity, refused.0) ∷ []) split.3 ∙ append_assoc split.0 t.kept ((has.kept.identity, refused.0) ∷ []);
      raised = raised_left t.gone t.kept has.kept.identity has.count refused.0 refused.1 t.raised;
    })
    has.how

none_left : (l : List (Place × ℕ)) → length l ≡ 0 → l ≡ []
none_left [] e = refl
none_left (n ∷ l) e = absurd (omega (arith, e))

pub turning_end : (old now : Counted) (left : ℕ) → left ≡ 0 → IsTurning old now left → HasDrainedAll old now
turning_end old now left none t =
    let rest : t.rest ≡ [] = none_left t.rest (t.first ∙ none) in
    record {
      log = t.log;
      in_flight = t.in_flight;
      unlinked = t.unlinked;
      worn = t.worn;
      places = t.places;
      each = subst (λ (l : List (Place × ℕ)). AreRaised 1 [] l now.refused) (sym (t.was ∙ ap (λ (l : List (Place × ℕ)). t.gone ++ l) rest ∙ append-nil t.gone))
          (subst (λ (l : List (Place × ℕ)). AreRaised 1 [] t.gone l) (sym (t.is ∙ ap (λ (l : List (Place × ℕ)). l ++ t.kept) rest)) t.raised);
    }

-- RELEASED

pub released_none : (c : Counted) → HasReleasedAll c 0 c
released_none c = record { log = refl; fewer = omega arith; in_flight = refl; unlinked = refl; retired = refl; refused = refl; worn = refl; places = omega arith }

pub released_more : {R D : Type 0} (serves : D → R → Type 0) (identity : R → List ℕ) (old now next : Counted) (count : ℕ) (before after : D) → HasReleasedAll old count now → IsCounted now
    → HasReleased serves identity now before next after → HasReleasedAll old (count + 1) next
released_more serves identity old now next count before after all counted one =
    let longer : length now.drained ≡ length one.others + 1 = ap length one.had ∙ omega arith in
    let fewer : next.log.unreleased ≡ now.log.unreleased - 1 = ap (λ (c : Counted). c.log.unreleased) one.is in
    record {
      log = ap (λ (c : Counted). c.log) one.is ∙ ap (λ (p : HybridLog). record p { unreleased = now.log.unreleased - 1 }) all.log ∙ ap (λ (n : ℕ). record old.log { unreleased = n }) (sym fewer);
      fewer = omega (arith, fewer, counted, longer, all.fewer);
      in_flight = ap (λ (c : Counted). c.in_flight) one.is ∙ all.in_flight;
      unlinked = ap (λ (c : Counted). c.unlinked) one.is ∙ all.unlinked;
      retired = ap (λ (c : Counted). c.retired) one.is ∙ all.retired;
      refused = ap (λ (c : Counted). c.refused) one.is ∙ all.refused;
      worn = ap (λ (c : Counted). c.worn) one.is ∙ all.worn;
      places = omega (arith, longer, ap (λ (c : Counted). length c.drained) one.is, all.places);
    }

pub released_fewer : {R D : Type 0} (serves : D → R → Type 0) (identity : R → List ℕ) (now next : Counted) (before after : D) → HasReleased serves identity now before next after
    → length next.drained < length now.drained
released_fewer serves identity now next before after one = omega (arith, ap length one.had, ap (λ (c : Counted). length c.drained) one.is)

-- ALL OF IT

pub freed_by : (a b c d : Counted) (count : ℕ) (freed : Freed) → HasRetiredAll freed.refused.retire a b → HasDrainedAll b c → HasReleasedAll c count d → (freed.released ≡ true → 0 < count) → (freed.released ≡ false → count ≡ 0)
    → d.drained ≡ [] → (b.unlinked ≡ []) ⊎ (freed.refused.retire ≡ true) → (c.retired ≡ []) ⊎ (freed.refused.drain ≡ true) → HasFreed a freed d
freed_by a b c d count freed one two three some none drained unlinked retired =
    let log : c.log ≡ a.log = two.log ∙ one.log in
    let un : d.unlinked ≡ b.unlinked = three.unlinked ∙ two.unlinked in
    record {
      count = count;
      some = some;
      none = none;
      log = three.log ∙ ap (λ (p : HybridLog). record p { unreleased = d.log.unreleased }) log;
      fewer = omega (arith, three.fewer, ap (λ (p : HybridLog). p.unreleased) log);
      in_flight = three.in_flight ∙ two.in_flight ∙ one.in_flight;
      places = omega (arith, ap length un, ap length three.retired, three.places, two.places, one.places, ap length one.drained);
      drained = drained;
      unlinked = ⊎_elim (λ e. inl (un ∙ e)) (λ w. inr w) unlinked;
      worn = three.worn ∙ two.worn ∙ one.worn;
      retired = ⊎_elim (λ e. inl (three.retired ∙ e)) (λ w. inr w) retired;
      left = λ place has. one.waited.unlinked place (subst (λ (l : List Kept). Contains (places_of l) place) un has);
      each = subst (IsEachRefused (places_of a.unlinked) a.refused) (sym three.refused) (tried_since (waiting_of a) (waiting_of b) c.refused one.waited two.each);
    }

either_false : (P : Type 0) (b : Bool) → OnFalse b P → P ⊎ (b ≡ true)
either_false P true is = inr refl
either_false P false is = inl is

pub freed_steps : (a b c d : Counted) (count : ℕ) (retire drain released : Bool) → HasRetiredAll retire a b → HasDrainedAll b c → HasReleasedAll c count d → (released ≡ true → 0 < count) → (released ≡ false → count ≡ 0)
    → d.drained ≡ [] → OnFalse retire (b.unlinked ≡ []) → OnFalse drain (c.retired ≡ [])
    → HasFreed a (record { released = released; refused = record { retire = retire; drain = drain } }) d
freed_steps a b c d count retire drain released one two three some none drained unlinked retired =
    freed_by a b c d count (record { released = released; refused = record { retire = retire; drain = drain } }) one two three some none drained
    (either_false (b.unlinked ≡ []) retire unlinked) (either_false (c.retired ≡ []) drain retired)

-- nothing was drained any more
pub released_end : {D : Type 0} (releases : D → ℕ) (old now next : Counted) (first before after : D) (any : Bool) → next ≡ now → after ≡ before
    → ReleasesAll releases any (old, first) (now, before) → ReleasesAll releases any (old, first) (next, after)
released_end releases old now next first before after any same device all = record {
  count = all.count;
  released = subst (λ (c : Counted). HasReleasedAll old all.count c) (sym same) all.released;
  any = all.any;
  none = all.none;
  given = ap releases device ∙ all.given;
}

-- what a log stands for, where places were counted off
pub same_store : (old new : HybridLog) → new ≡ record old { unreleased = new.unreleased } → contents (log_of new) ≡ contents (log_of old)
same_store old new same = ap (λ (p : HybridLog). contents (log_of p)) same
