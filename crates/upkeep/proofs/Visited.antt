-- Steps at a stripe, one after the other, and what is looked at after them.
use Rattle.std.proofs.Common.{◌≡◌, ◌≢◌, ℕ, suc, ◌+◌, ◌-◌, ◌<◌, Bool, true, false, if◌then◌else◌, nat_lt, List, ◌∷◌, refl, sym, subst, add-one, arith}
use Rattle.upkeep.specs.declared.stripes.Duty.{Duty}
use Rattle.upkeep.specs.declared.stripes.Duty.TheVariants.{Flush, Evict, Clean}
use Rattle.upkeep.specs.declared.stripes.Event.{Event}
use Rattle.upkeep.specs.declared.stripes.Event.TheVariants as event
use Rattle.upkeep.specs.declared.laps.Laps.{Laps}
use Rattle.upkeep.specs.Steps.{HasEnded, HasLookedAfter, HasMade, HasNoted, HasVisitedOne, HaveDone, HaveMade, HaveVisited, IsBehindAfter}

-- no step was made
pub none-done : (duty : Duty) (stripe places : ℕ) (events : List Event) (laps : Laps)
    → HaveDone 0 duty stripe places events events laps laps
unfolding HaveDone
none-done duty stripe places events laps = (refl, refl)

-- a step that was done, or was not
made-by : (duty : Duty) (stripe places : ℕ) (before later : List Event) (was now : Laps) (done is : Bool)
    → done ≡ is → HasMade duty stripe places before later was now done → HasMade duty stripe places before later was now is
made-by duty stripe places before later was now done is same made =
    let P : Bool → Type 0 = λ b. HasMade duty stripe places before later was now b in subst P same made

-- one step more was done
done-suc : (count : ℕ) (duty : Duty) (stripe places : ℕ) (before between later : List Event) (was laps now : Laps)
    → HaveDone count duty stripe places before between was laps → HasMade duty stripe places between later laps now true
    → HaveDone (suc count) duty stripe places before later was now
unfolding HaveDone
done-suc count duty stripe places before between later was laps now had made = (between, laps, had, made)

pub done-next : (count : ℕ) (duty : Duty) (stripe places : ℕ) (before between later : List Event) (was laps now : Laps) (done : Bool)
    → done ≡ true → HaveDone count duty stripe places before between was laps → HasMade duty stripe places between later laps now done
    → HaveDone (count + 1) duty stripe places before later was now
done-next count duty stripe places before between later was laps now done is had made =
    rw add-one
    (
    done-suc
    count duty stripe places before between later was laps now had (made-by duty stripe places between later laps now done true is made)
    )

-- so many are left of 16
one-left : (count : ℕ) → count < 16 → 16 - count ≡ suc (15 - count)
one-left count few = omega arith

ended-one : (count : ℕ) (duty : Duty) (stripe places : ℕ) (before later : List Event) (was now : Laps)
    → count < 16 → HasMade duty stripe places before later was now false → HasEnded (16 - count) duty stripe places before later was now
ended-one count duty stripe places before later was now few made =
    let P : ℕ → Type 0 = λ left. HasEnded left duty stripe places before later was now in subst P (sym (one-left count few)) made

-- fewer than 16 were done, and the last one was not
pub made-some : (count : ℕ) (duty : Duty) (stripe places : ℕ) (before between later : List Event) (was laps now : Laps) (done : Bool)
    → count < 16 → done ≡ false → HaveDone count duty stripe places before between was laps
    → HasMade duty stripe places between later laps now done → HaveMade duty stripe places before later was now (nat_lt 0 count)
made-some count duty stripe places before between later was laps now done few is had made = (
  count,
  between,
  laps,
  omega (arith, few),
  refl,
  had,
  ended-one count duty stripe places between later laps now few (made-by duty stripe places between later laps now done false is made),
)

-- 16 were done
pub made-all : (count : ℕ) (duty : Duty) (stripe places : ℕ) (before later : List Event) (was now : Laps)
    → count ≡ 16 → HaveDone count duty stripe places before later was now → HaveMade duty stripe places before later was now true
made-all count duty stripe places before later was now is had =
    let P : ℕ → Type 0 = λ n. HaveDone n duty stripe places before later was now in
    (16, later, now, omega arith, refl, subst P is had, (refl, refl))

-- the cleaner has looked
pub looked-clean : (duty : Duty) (stripe used : ℕ) (before later : List Event) → duty ≡ Clean
    → later ≡ event.Used stripe used ∷ before → HasLookedAfter duty true stripe before later
looked-clean duty stripe used before later is told =
    let P : Duty → Type 0 = λ d. HasLookedAfter d true stripe before later in subst P (sym is) (used, told)

-- nobody has
pub looked-idle : (duty : Duty) (any : Bool) (stripe : ℕ) (events : List Event) → any ≡ false → HasLookedAfter duty any stripe events events
looked-idle Flush any stripe events is = refl
looked-idle Evict any stripe events is = refl
looked-idle Clean true stripe events is = let none : ⊥ = cc in absurd none
looked-idle Clean false stripe events is = refl

pub looked-other : (duty : Duty) (any : Bool) (stripe : ℕ) (events : List Event) → duty ≢ Clean
    → HasLookedAfter duty any stripe events events
looked-other Flush any stripe events other = refl
looked-other Evict any stripe events other = refl
looked-other Clean any stripe events other = absurd (other refl)

-- no stripe was visited
pub none-visited : (duty : Duty) (places : ℕ) (events : List Event) (laps : List Laps)
    → HaveVisited 0 duty places events events laps laps false
unfolding HaveVisited
none-visited duty places events laps = (refl, refl, refl)

suc-visited : (stripe : ℕ) (duty : Duty) (places : ℕ) (before between later : List Event) (was laps now : List Laps) (earlier here any : Bool)
    → any ≡ (if here then true else earlier) → HaveVisited stripe duty places before between was laps earlier
    → HasVisitedOne duty places stripe between later laps now here → HaveVisited (suc stripe) duty places before later was now any
unfolding HaveVisited
suc-visited stripe duty places before between later was laps now earlier here any is had one = (between, laps, earlier, here, had, one, is)

-- one more was
pub one-visited : (stripe : ℕ) (duty d : Duty) (places p : ℕ) (before between later : List Event) (was laps now : List Laps)
    (earlier here any : Bool) → d ≡ duty → p ≡ places → any ≡ (if here then true else earlier)
    → HaveVisited stripe duty places before between was laps earlier → HasVisitedOne d p stripe between later laps now here
    → HaveVisited (stripe + 1) duty places before later was now any
one-visited stripe duty d places p before between later was laps now earlier here any e f is had one =
    rw add-one
    (suc-visited stripe duty places before between later was laps now earlier here any is had
    (subst (λ (x : Duty). HasVisitedOne x places stripe between later laps now here) e
    (subst (λ (n : ℕ). HasVisitedOne d n stripe between later laps now here) f one)))

-- what is noted after a visit, by the two clauses that say it
pub noted-by : (duty : Duty) (stripe places : ℕ) (laps : Laps) (events : List Event) (any : Bool) → (any ≡ false → laps.behind ≡ false)
    → (duty ≡ Clean → any ≡ true → IsBehindAfter stripe places laps events) → HasNoted duty stripe places laps events any
noted-by Flush stripe places laps events false level behind = level refl
noted-by Evict stripe places laps events false level behind = level refl
noted-by Clean stripe places laps events false level behind = level refl
noted-by Flush stripe places laps events true level behind = tt
noted-by Evict stripe places laps events true level behind = tt
noted-by Clean stripe places laps events true level behind = behind refl refl
