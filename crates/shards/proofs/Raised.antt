-- Places that are retired, and how often words that were read blocked their drains.
use Rattle.std.proofs.Common.{◌≡◌, ◌<◌, ◌⊎◌, inl, inr, ⊎_elim, ℕ, List, [], ◌∷◌, ◌++◌, Bool, sym, ap, subst, arith}
use Rattle.std.specs.List.{Contains}
use Rattle.std.proofs.lemmas.List.Elements.{Contains-append_cases, Contains-append_left, Contains-append_right, Contains-push, Contains-push_cases}
use Rattle.gates.specs.Background.{AreRaised, IsEachRefused}
use Rattle.gates.specs.Pages.{Place}
use Rattle.hybrid.specs.HybridLog.{Kept}
use Rattle.shards.specs.Counted.{Counted, HasRetired, Waiting, WasRefused, places_of, waiting_of}
use Rattle.shards.specs.Cleaning.{WasNotDrained, WasNotRetired}
use Rattle.shards.specs.Freeing.{HasWaited}

pub in_none : {X : Type 0} (x : X) → Contains [] x → ⊥
in_none {X} x has = absurd (omega (arith, has.1))

-- the first, or one of the others
in_cons : {X : Type 0} (x y : X) (others : List X) → Contains (x ∷ others) y → (x ≡ y) ⊎ Contains others y
in_cons {X} x y others has =
    ⊎_elim (λ first. ⊎_elim (λ none. absurd (in_none y none)) (λ same. inl same) (Contains-push_cases [] x y first)) (λ later. inr later)
    (Contains-append_cases (x ∷ []) others y has)

-- counts that are the same
pub raised_same : (unlinked : List Place) (a : List (Place × ℕ)) → AreRaised 0 unlinked a a
raised_same unlinked a place count has = inl (count, has, omega arith)

-- none are raised
pub raised_none : (by : ℕ) (unlinked : List Place) (a : List (Place × ℕ)) → AreRaised by unlinked a []
raised_none by unlinked a place count has = absurd (in_none (place, count) has)

-- counts that were raised before, and since
pub raised_later : (by : ℕ) (u v : List Place) (a b c : List (Place × ℕ)) → ((place : Place) → Contains v place → Contains u place) → AreRaised 0 u a b → AreRaised by v b c → AreRaised by u a c
raised_later by u v a b c left one two place count has = ⊎_elim
    (λ mid. ⊎_elim (λ was. inl (was.0, was.1, omega (arith, was.2, mid.2))) (λ fresh. inr (fresh.0, omega (arith, mid.2))) (one place mid.0 mid.1))
    (λ fresh. inr (left place fresh.0, fresh.1))
    (two place count has)

pub weaker : (u : List Place) (a b : List (Place × ℕ)) → AreRaised 1 u a b → AreRaised 0 u a b
weaker u a b is place count has =
    ⊎_elim (λ was. inl (was.0, was.1, omega (arith, was.2))) (λ fresh. inr (fresh.0, omega (arith, fresh.1))) (is place count has)

-- one more was tried: it has gone, or its count is greater
pub raised_gone : (a b : List (Place × ℕ)) (w : Place × ℕ) → AreRaised 1 [] a b → AreRaised 1 [] (a ++ w ∷ []) b
raised_gone a b w is place count has =
    ⊎_elim (λ was. inl (was.0, Contains-append_left a (w ∷ []) (place, was.0) was.1, was.2)) (λ fresh. inr fresh) (is place count has)

pub raised_left : (a b : List (Place × ℕ)) (p : Place) (w n : ℕ) → w < n → AreRaised 1 [] a b → AreRaised 1 [] (a ++ (p, w) ∷ []) (b ++ (p, n) ∷ [])
raised_left a b p w n less is place count has = ⊎_elim
    (λ old. raised_gone a b (p, w) is place count old)
    (λ same. inl (
      w,
      subst (λ (q : Place). Contains (a ++ (p, w) ∷ []) (q, w)) (ap (λ (x : Place × ℕ). x.0) same) (Contains-push a (p, w)),
      omega (arith, less, ap (λ (x : Place × ℕ). x.1) same),
    ))
    (Contains-push_cases b (p, n) (place, count) has)

-- the count of the first is greater
first_raised : (p : Place) (w n : ℕ) (counts : List (Place × ℕ)) → w < n → AreRaised 0 [] ((p, w) ∷ counts) ((p, n) ∷ counts)
first_raised p w n counts less place count has = ⊎_elim
    (λ same. inl (
      w,
      subst (λ (q : Place). Contains ((p, w) ∷ counts) (q, w)) (ap (λ (x : Place × ℕ). x.0) same) (Contains-append_left ((p, w) ∷ []) counts (p, w) (Contains-push [] (p, w))),
      omega (arith, less, ap (λ (x : Place × ℕ). x.1) same),
    ))
    (λ later. inl (count, Contains-append_right ((p, w) ∷ []) counts (place, count) later, omega arith))
    (in_cons (p, n) (place, count) counts has)

pub counts_raised : (a b : Counted) → WasRefused a b → AreRaised 0 [] a.refused b.refused
counts_raised a b was =
    subst (λ (l : List (Place × ℕ)). AreRaised 0 [] l b.refused) (sym was.counted)
    (subst (λ (l : List (Place × ℕ)). AreRaised 0 [] ((was.place, was.count) ∷ was.counts) l) (sym (ap (λ (c : Counted). c.refused) was.is))
    (first_raised was.place was.count was.now was.counts was.more))

-- WHAT WAITED

pub waited_none : (w : Waiting) → HasWaited w w
waited_none w = record { unlinked = λ place has. has; retired = raised_same (places_of w.unlinked) w.refused }

pub waited_same : (a b : Waiting) → b ≡ a → HasWaited a b
waited_same a b same = subst (λ (w : Waiting). HasWaited a w) (sym same) (waited_none a)

pub waited_both : (a b c : Waiting) → HasWaited a b → HasWaited b c → HasWaited a c
waited_both a b c one two = record {
  unlinked = λ place has. one.unlinked place (two.unlinked place has);
  retired = raised_later 0 (places_of a.unlinked) (places_of b.unlinked) a.refused b.refused c.refused one.unlinked one.retired two.retired;
}

-- places that wait may be tried since
pub each_since : (a b : Waiting) (c : List (Place × ℕ)) → HasWaited a b → IsEachRefused (places_of b.unlinked) b.refused c → IsEachRefused (places_of a.unlinked) a.refused c
each_since a b c waited each = raised_later 1 (places_of a.unlinked) (places_of b.unlinked) a.refused b.refused c waited.unlinked waited.retired each

pub tried_since : (a b : Waiting) (c : List (Place × ℕ)) → HasWaited a b → IsEachRefused [] b.refused c → IsEachRefused (places_of a.unlinked) a.refused c
tried_since a b c waited each = raised_later 1 (places_of a.unlinked) [] a.refused b.refused c (λ place none. absurd (in_none place none)) waited.retired each

-- an unlinked place was retired
retired_kept : (now : Counted) (kept : Kept) (others : List Kept) (count : ℕ) → now.unlinked ≡ kept ∷ others
    → HasWaited (waiting_of now) (record { in_flight = now.in_flight; unlinked = others; retired = now.retired ++ kept ∷ []; drained = now.drained; refused = now.refused ++ (kept.identity, count) ∷ []; worn = now.worn })
retired_kept now kept others count had =
    let all : (place : Place) → Contains (kept.identity ∷ places_of others) place → Contains (places_of now.unlinked) place =
    λ place has. subst (λ (l : List Kept). Contains (places_of l) place) (sym had) has in
    record {
      unlinked = λ place has. all place (Contains-append_right (kept.identity ∷ []) (places_of others) place has);
      retired = λ place n has. ⊎_elim
          (λ old. inl (n, old, omega arith))
          (λ same. inr (
            all place (subst (λ (q : Place). Contains (kept.identity ∷ places_of others) q) (ap (λ (x : Place × ℕ). x.0) same)
                (Contains-append_left (kept.identity ∷ []) (places_of others) kept.identity (Contains-push [] kept.identity))),
            omega arith,
          ))
          (Contains-push_cases now.refused (kept.identity, count) (place, n) has);
    }

pub waited_retired : (now next : Counted) → HasRetired now next → HasWaited (waiting_of now) (waiting_of next)
waited_retired now next one = subst (λ (w : Waiting). HasWaited (waiting_of now) w) (sym (ap waiting_of one.is)) (retired_kept now one.kept one.others 0 one.had)

-- the oldest was not drained
pub waited_undrained : (refused : Bool) (old new : Counted) → WasNotDrained refused old new → HasWaited (waiting_of old) (waiting_of new)
waited_undrained refused old new not = record {
  unlinked = λ place has. subst (λ (l : List Kept). Contains (places_of l) place) (ap (λ (c : Counted). c.unlinked) not.same) has;
  retired = raised_later 0 (places_of old.unlinked) [] old.refused old.refused new.refused (λ place none. absurd (in_none place none)) (raised_same (places_of old.unlinked) old.refused) not.counts;
}

-- the oldest was not retired
pub waited_unretired : (refused : Bool) (old new : Counted) → WasNotRetired refused old new → HasWaited (waiting_of old) (waiting_of new)
waited_unretired refused old new not =
    subst (λ (c : Counted). HasWaited (waiting_of old) (waiting_of c)) (sym not.same) (record { unlinked = λ place has. has; retired = raised_same (places_of old.unlinked) old.refused })
