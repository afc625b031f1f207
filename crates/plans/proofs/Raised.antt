-- Places that wait for their release, and how often words that were read blocked their drains.
use Rattle.std.proofs.Common.{inl, inr, ⊎_elim, ℕ, List, arith}
use Rattle.std.specs.List.{Contains}
use Rattle.gates.specs.Background.{AreRaised, IsEachRefused}
use Rattle.gates.specs.Pages.{Place}
use Rattle.shards.specs.Counted.{Counted, Waiting, places_of, waiting_of}
use Rattle.shards.specs.Freeing.{HasFreed, HasWaited}
use Rattle.shards.specs.declared.freeing.Freed.{Freed}

-- counts that were raised before, and since
raised_later : (by : ℕ) (u v : List Place) (a b c : List (Place × ℕ)) → ((place : Place) → Contains v place → Contains u place) → AreRaised 0 u a b → AreRaised by v b c → AreRaised by u a c
raised_later by u v a b c left one two place count has = ⊎_elim
    (λ mid. ⊎_elim (λ was. inl (was.0, was.1, omega (arith, was.2, mid.2))) (λ fresh. inr (fresh.0, omega (arith, mid.2))) (one place mid.0 mid.1))
    (λ fresh. inr (left place fresh.0, fresh.1))
    (two place count has)

weaker : (u : List Place) (a b : List (Place × ℕ)) → AreRaised 1 u a b → AreRaised 0 u a b
weaker u a b is place count has =
    ⊎_elim (λ was. inl (was.0, was.1, omega (arith, was.2))) (λ fresh. inr (fresh.0, omega (arith, fresh.1))) (is place count has)

pub waited_none : (w : Waiting) → HasWaited w w
waited_none w = record { unlinked = λ place has. has; retired = λ place count has. inl (count, has, omega arith) }

waited_both : (a b c : Waiting) → HasWaited a b → HasWaited b c → HasWaited a c
waited_both a b c one two = record {
  unlinked = λ place has. one.unlinked place (two.unlinked place has);
  retired = raised_later 0 (places_of a.unlinked) (places_of b.unlinked) a.refused b.refused c.refused one.unlinked one.retired two.retired;
}

-- places were released that could be
pub waited_freed : (a : Waiting) (old new : Counted) (freed : Freed) → HasWaited a (waiting_of old) → HasFreed old freed new → HasWaited a (waiting_of new)
waited_freed a old new freed waited has =
    waited_both a (waiting_of old) (waiting_of new) waited (record { unlinked = has.left; retired = weaker (places_of old.unlinked) old.refused new.refused has.each })

-- and each that is left was tried since
pub each_since : (a b : Waiting) (c : List (Place × ℕ)) → HasWaited a b → IsEachRefused (places_of b.unlinked) b.refused c → IsEachRefused (places_of a.unlinked) a.refused c
each_since a b c waited each = raised_later 1 (places_of a.unlinked) (places_of b.unlinked) a.refused b.refused c waited.unlinked waited.retired each
