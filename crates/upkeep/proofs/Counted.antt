-- How often a stripe was told of, and how many steps were done, after a step.
use Rattle.std.proofs.Common.{◌≡◌, ℕ, ◌+◌, ◌≤◌, ◌<◌, Bool, true, false, cond, List, [], ◌∷◌, ◌++◌, refl, ap, subst, eq-eqb, arith}
use Rattle.upkeep.specs.declared.stripes.Duty.{Duty}
use Rattle.upkeep.specs.declared.stripes.Duty.TheVariants.{Flush, Evict, Clean}
use Rattle.upkeep.specs.declared.stripes.Outcome.TheVariants as outcome
use Rattle.upkeep.specs.declared.stripes.Event.{Event}
use Rattle.upkeep.specs.declared.stripes.Event.TheVariants as event
use Rattle.upkeep.specs.declared.steps.Step.{Step}
use Rattle.upkeep.specs.declared.steps.Step.TheVariants.{Unneeded, Waits, Next, First}
use Rattle.upkeep.specs.Events.{stepped, steps_done, stripe_of, times_told}
use Rattle.upkeep.specs.Steps.{IsTold, is_done_by}

-- a stripe was told of once more
pub times_told-same : (stripe : ℕ) (told : Event) (events : List Event) → stripe_of told ≡ stripe → times_told stripe (told ∷ events) ≡ times_told stripe events + 1
unfolding times_told
times_told-same stripe told events is = rw (eq-eqb (stripe_of told) stripe is) (omega arith)

-- and no less often than before
pub times_told-more : (k : ℕ) (told : Event) (events : List Event) → times_told k events ≤ times_told k (told ∷ events)
unfolding times_told
times_told-more k told events = omega arith

pub times_told-append : (k : ℕ) (more before : List Event) → times_told k before ≤ times_told k (more ++ before)
times_told-append k [] before = omega arith
times_told-append k (told ∷ more) before = omega (arith, times_told-more k told (more ++ before), times_told-append k more before)

-- what was told of a stripe counts there
pub times_told-then : (stripe : ℕ) (told : Event) (more before : List Event) → stripe_of told ≡ stripe → times_told stripe before < times_told stripe (more ++ (told ∷ before))
times_told-then stripe told more before is =
    omega (arith, times_told-same stripe told before is, times_told-append stripe more (told ∷ before))

-- a stripe at which a step was made was looked at, or a call of the device has failed
pub times_told-step :
    (duty : Duty) (stripe : ℕ) (did : Step) (before later : List Event) (had has : ℕ) → had ≤ has
    → (did ≡ Next outcome.Fault → duty ≡ Flush → had < has)
    → IsTold duty stripe did before later → times_told stripe before + had < times_told stripe later + has
times_told-step Flush stripe (Next outcome.Done) before later had has more failed told =
    omega (arith, more, ap (times_told stripe) told, times_told-same stripe (event.Done stripe Flush) before refl)
times_told-step Flush stripe (Next outcome.Idle) before later had has more failed told =
    omega (arith, more, ap (times_told stripe) told, times_told-same stripe (event.Idle stripe Flush) before refl)
times_told-step Flush stripe (Next outcome.Full) before later had has more failed told =
    omega (arith, more, ap (times_told stripe) told, times_told-same stripe (event.Full stripe) before refl)
times_told-step Flush stripe (Next outcome.Fault) before later had has more failed told =
    omega (arith, failed refl refl, ap (times_told stripe) told)
times_told-step Flush stripe Unneeded before later had has more failed told = absurd told
times_told-step Flush stripe (Waits seen) before later had has more failed told = absurd told
times_told-step Flush stripe (First seen came) before later had has more failed told = absurd told
times_told-step Evict stripe Unneeded before later had has more failed told =
    omega (arith, more, ap (times_told stripe) told, times_told-same stripe (event.Short stripe false) before refl)
times_told-step Evict stripe (Next came) before later had has more failed told =
    omega (arith, more, ap (times_told stripe) told, times_told-then stripe (event.Short stripe true) (stepped stripe Evict came) before refl)
times_told-step Evict stripe (Waits seen) before later had has more failed told = absurd told
times_told-step Evict stripe (First seen came) before later had has more failed told = absurd told
times_told-step Clean stripe Unneeded before later had has more failed told =
    omega (arith, more, ap (times_told stripe) told, times_told-same stripe (event.HalfUsed stripe false) before refl)
times_told-step Clean stripe (Next came) before later had has more failed told =
    omega (arith, more, ap (times_told stripe) told, times_told-then stripe (event.HalfUsed stripe true) (stepped stripe Clean came) before refl)
times_told-step Clean stripe (Waits seen) before later had has more failed told =
    omega (
      arith,
      more,
      ap (times_told stripe) told,
      times_told-then stripe (event.HalfUsed stripe true) (event.Opened stripe seen.opened ∷ (event.Used stripe seen.used ∷ [])) before refl,
    )
times_told-step Clean stripe (First seen came) before later had has more failed told =
    let looked = event.Used stripe seen.used ∷ (event.HalfUsed stripe true ∷ before) in
    omega (
      arith,
      more,
      ap (times_told stripe) told,
      times_told-then stripe (event.Opened stripe seen.opened) (stepped stripe Clean came) looked refl,
      times_told-append stripe (event.Used stripe seen.used ∷ (event.HalfUsed stripe true ∷ [])) before,
    )

-- no stripe was told of less often
pub times_told-others : (duty : Duty) (stripe : ℕ) (did : Step) (before later : List Event) → IsTold duty stripe did before later
    → (k : ℕ) → times_told k before ≤ times_told k later
times_told-others Flush stripe (Next came) before later told k =
    omega (arith, ap (times_told k) told, times_told-append k (stepped stripe Flush came) before)
times_told-others Flush stripe Unneeded before later told k = absurd told
times_told-others Flush stripe (Waits seen) before later told k = absurd told
times_told-others Flush stripe (First seen came) before later told k = absurd told
times_told-others Evict stripe Unneeded before later told k =
    omega (arith, ap (times_told k) told, times_told-more k (event.Short stripe false) before)
times_told-others Evict stripe (Next came) before later told k =
    omega (arith, ap (times_told k) told, times_told-append k (stepped stripe Evict came) (event.Short stripe true ∷ before), times_told-more k (event.Short stripe true) before)
times_told-others Evict stripe (Waits seen) before later told k = absurd told
times_told-others Evict stripe (First seen came) before later told k = absurd told
times_told-others Clean stripe Unneeded before later told k =
    omega (arith, ap (times_told k) told, times_told-more k (event.HalfUsed stripe false) before)
times_told-others Clean stripe (Next came) before later told k =
    omega (arith, ap (times_told k) told, times_told-append k (stepped stripe Clean came) (event.HalfUsed stripe true ∷ before), times_told-more k (event.HalfUsed stripe true) before)
times_told-others Clean stripe (Waits seen) before later told k =
    omega (
      arith,
      ap (times_told k) told,
      times_told-append k (event.Opened stripe seen.opened ∷ (event.Used stripe seen.used ∷ (event.HalfUsed stripe true ∷ []))) before,
    )
times_told-others Clean stripe (First seen came) before later told k =
    omega (
      arith,
      ap (times_told k) told,
      times_told-append k (stepped stripe Clean came) (event.Opened stripe seen.opened ∷ (event.Used stripe seen.used ∷ (event.HalfUsed stripe true ∷ before))),
      times_told-append k (event.Opened stripe seen.opened ∷ (event.Used stripe seen.used ∷ (event.HalfUsed stripe true ∷ []))) before,
    )

-- one step more is done, or none
pub steps_done-step : (duty : Duty) (stripe : ℕ) (did : Step) (before later : List Event) → IsTold duty stripe did before later
    → steps_done later ≡ cond (is_done_by did) 1 0 + steps_done before
unfolding steps_done
steps_done-step Flush stripe (Next outcome.Done) before later told = omega (arith, ap steps_done told)
steps_done-step Flush stripe (Next outcome.Idle) before later told = omega (arith, ap steps_done told)
steps_done-step Flush stripe (Next outcome.Full) before later told = omega (arith, ap steps_done told)
steps_done-step Flush stripe (Next outcome.Fault) before later told = omega (arith, ap steps_done told)
steps_done-step Flush stripe Unneeded before later told = absurd told
steps_done-step Flush stripe (Waits seen) before later told = absurd told
steps_done-step Flush stripe (First seen came) before later told = absurd told
steps_done-step Evict stripe Unneeded before later told = omega (arith, ap steps_done told)
steps_done-step Evict stripe (Next outcome.Done) before later told = omega (arith, ap steps_done told)
steps_done-step Evict stripe (Next outcome.Idle) before later told = omega (arith, ap steps_done told)
steps_done-step Evict stripe (Next outcome.Full) before later told = omega (arith, ap steps_done told)
steps_done-step Evict stripe (Next outcome.Fault) before later told = omega (arith, ap steps_done told)
steps_done-step Evict stripe (Waits seen) before later told = absurd told
steps_done-step Evict stripe (First seen came) before later told = absurd told
steps_done-step Clean stripe Unneeded before later told = omega (arith, ap steps_done told)
steps_done-step Clean stripe (Next outcome.Done) before later told = omega (arith, ap steps_done told)
steps_done-step Clean stripe (Next outcome.Idle) before later told = omega (arith, ap steps_done told)
steps_done-step Clean stripe (Next outcome.Full) before later told = omega (arith, ap steps_done told)
steps_done-step Clean stripe (Next outcome.Fault) before later told = omega (arith, ap steps_done told)
steps_done-step Clean stripe (Waits seen) before later told = omega (arith, ap steps_done told)
steps_done-step Clean stripe (First seen outcome.Done) before later told = omega (arith, ap steps_done told)
steps_done-step Clean stripe (First seen outcome.Idle) before later told = omega (arith, ap steps_done told)
steps_done-step Clean stripe (First seen outcome.Full) before later told = omega (arith, ap steps_done told)
steps_done-step Clean stripe (First seen outcome.Fault) before later told = omega (arith, ap steps_done told)

-- a look is no step
pub steps_done-used : (stripe used : ℕ) (events : List Event) → steps_done (event.Used stripe used ∷ events) ≡ steps_done events
unfolding steps_done
steps_done-used stripe used events = omega arith

-- by whether the step was done
pub steps_done-by : (duty : Duty) (stripe : ℕ) (did : Step) (before later : List Event) → IsTold duty stripe did before later
    → (done : Bool) → is_done_by did ≡ done → steps_done later ≡ cond done 1 0 + steps_done before
steps_done-by duty stripe did before later told done is =
    let P : Bool → Type 0 = λ b. steps_done later ≡ cond b 1 0 + steps_done before in subst P is (steps_done-step duty stripe did before later told)
