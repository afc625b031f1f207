-- How many stripes a round leaves out.
use Rattle.std.proofs.Common.{◌≡◌, ℕ, zero, suc, ◌+◌, ◌≤◌, ◌<◌, false, cond, nat_lt, List, [], ◌∷◌, arith, ltb-true, ltb-false, lt-ltb, refl, ap, add-one}
use Rattle.std.proofs.lemmas.Bool.{cond_both}
use Rattle.upkeep.specs.declared.stripes.Duty.TheVariants.{Flush, Evict}
use Rattle.upkeep.specs.declared.stripes.Event.{Event}
use Rattle.upkeep.specs.declared.stripes.Event.TheVariants as event
use Rattle.upkeep.specs.Events.{missed, times_told}

-- the cost of a stripe is 0 where the count has grown
cost-grown : (a b : ℕ) → a < b → cond (nat_lt a b) 0 1 ≤ 0
cost-grown a b grown = rw (lt-ltb a b grown) (omega arith)

-- and 1 at most
cost-most : (a b : ℕ) → cond (nat_lt a b) 0 1 ≤ 1
cost-most a b = cond_both (nat_lt a b) 0 1 (λ n. n ≤ 1) (λ is. omega arith) (λ is. omega arith)

-- it falls as the count grows
cost-more : (a b c : ℕ) → b ≤ c → cond (nat_lt a c) 0 1 ≤ cond (nat_lt a b) 0 1
cost-more a b c more =
    cond_both (nat_lt a b) 0 1 (λ n. cond (nat_lt a c) 0 1 ≤ n)
    (λ is. cost-grown a c (omega (arith, ltb-true a b is)))
    (λ is. cost-most a c)

-- of no stripes none was missed
pub missed-none : (before later : List Event) → missed 0 before later ≡ 0
unfolding missed
missed-none before later = refl

-- what was missed falls as more is told
missed-more : (count : ℕ) (before between later : List Event) → ((k : ℕ) → times_told k between ≤ times_told k later)
    → missed count before later ≤ missed count before between
unfolding missed
missed-more zero before between later more = omega arith
missed-more (suc k) before between later more =
    omega (
      arith,
      cost-more (times_told k before) (times_told k between) (times_told k later) (more k),
      missed-more k before between later more,
    )

-- it falls as more was told before
cost-from : (a b c : ℕ) → a ≤ b → cond (nat_lt a c) 0 1 ≤ cond (nat_lt b c) 0 1
cost-from a b c from =
    cond_both (nat_lt b c) 0 1 (λ n. cond (nat_lt a c) 0 1 ≤ n)
    (λ is. cost-grown a c (omega (arith, ltb-true b c is)))
    (λ is. cost-most a c)

-- what was missed from the first on is no more than what was missed from later on
missed-from : (count : ℕ) (before between later : List Event) → ((k : ℕ) → times_told k before ≤ times_told k between)
    → missed count before later ≤ missed count between later
unfolding missed
missed-from zero before between later from = omega arith
missed-from (suc k) before between later from =
    omega (
      arith,
      cost-from (times_told k before) (times_told k between) (times_told k later) (from k),
      missed-from k before between later from,
    )

-- where the last of several rounds left out no more stripes than calls have failed, all of them together left out no more
pub missed-last : (count now-count : ℕ) (before between later : List Event) (first was now : ℕ)
    → now-count ≡ count → ((k : ℕ) → times_told k before ≤ times_told k between) → first ≤ was
    → missed now-count between later + was ≤ now → missed count before later + first ≤ now
missed-last count now-count before between later first was now is from more fair =
    omega (
      arith,
      missed-from count before between later from,
      ap (λ n. missed n between later) is,
      more,
      fair,
    )

-- a stripe costs nothing, or a call has failed
cost-step : (a b c was now : ℕ) → a ≤ b → b + was < c + now → was ≤ now → cond (nat_lt a c) 0 1 + was ≤ now
cost-step a b c was now from looked more =
    cond_both (nat_lt a c) 0 1 (λ n. n + was ≤ now)
    (λ is. omega arith)
    (λ is. omega (arith, ltb-false a c is))

-- one stripe more was looked at, or a call of the device has failed
missed-next : (k : ℕ) (before between later : List Event) (first was now : ℕ)
    → ((j : ℕ) → times_told j before ≤ times_told j between) → ((j : ℕ) → times_told j between ≤ times_told j later)
    → times_told k between + was < times_told k later + now → was ≤ now
    → missed k before between + first ≤ was → missed (suc k) before later + first ≤ now
unfolding missed
missed-next k before between later first was now from more looked failed fair =
    omega (
      arith,
      cost-step (times_told k before) (times_told k between) (times_told k later) was now (from k) looked failed,
      missed-more k before between later more,
    )

pub missed-step : (k : ℕ) (before between later : List Event) (first was now : ℕ)
    → ((j : ℕ) → times_told j before ≤ times_told j between) → ((j : ℕ) → times_told j between ≤ times_told j later)
    → times_told k between + was < times_told k later + now → was ≤ now
    → missed k before between + first ≤ was → missed (k + 1) before later + first ≤ now
missed-step k before between later first was now from more looked failed fair =
    rw add-one (missed-next k before between later first was now from more looked failed fair)

-- of two stripes one was told of, and one was not
one_of_two : missed 2 [] (event.Done 0 Flush ∷ []) ≡ 1
unfolding missed times_told
one_of_two = refl

none_of_two : missed 2 (event.Idle 1 Evict ∷ []) (event.Short 0 false ∷ (event.Short 1 false ∷ (event.Idle 1 Evict ∷ []))) ≡ 0
unfolding missed times_told
none_of_two = refl
