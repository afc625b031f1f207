-- Turns, one after the other.
use Rattle.std.proofs.Common.{◌≡◌, ℕ, zero, suc, ◌+◌, ◌≤◌, Bool, false, List, ◌∷◌, ◌++◌, refl, sym, subst}
use Rattle.std.specs.List.{list_any}
use Rattle.upkeep.specs.declared.calls.Call.{Call}
use Rattle.upkeep.specs.declared.calls.Call.TheVariants as call
use Rattle.upkeep.specs.declared.laps.Laps.{Laps}
use Rattle.upkeep.specs.declared.stripes.Duty.{Duty}
use Rattle.upkeep.specs.declared.stripes.Duty.TheVariants.{Clean}
use Rattle.upkeep.specs.Events.{missed}
use Rattle.upkeep.specs.Rounds.{Course, HasRested, HasTurned, HaveTurned, told_after}
use Rattle.upkeep.specs.Steps.{HaveVisited}

-- what the cleaner tells
pub told-clean : (duty : Duty) (laps : List Laps) (behind : Bool) (before later : List Call) → duty ≡ Clean
    → behind ≡ list_any (λ (l : Laps). l.behind) laps → later ≡ call.TellBehind behind ∷ before → later ≡ told_after duty laps ++ before
told-clean duty laps behind before later is any told =
    subst (λ (d : Duty). later ≡ told_after d laps ++ before) (sym is)
    (subst (λ (b : Bool). later ≡ call.TellBehind b ∷ before) any told)

-- a turn of a thread whose stripes, duty and places are as they were at first
pub turned-by : (stripes s : ℕ) (duty d e : Duty) (places p : ℕ) (over done : Bool) (was now : Course) (told rested : List Call)
    → s ≡ stripes → d ≡ duty → e ≡ d → p ≡ places
    → HaveVisited s d p was.events now.events was.laps now.laps done → missed s was.events now.events + was.failures ≤ now.failures
    → told ≡ told_after e now.laps ++ was.calls → HasRested done told rested → now.calls ≡ call.IsOver over ∷ rested
    → HasTurned stripes duty places over was now
turned-by stripes s duty d e places p over done was now told rested same_stripes same_duty kept same_places visits fair is_told rest asked =
    subst (λ (n : ℕ). HasTurned n duty places over was now) same_stripes
    (subst (λ (x : Duty). HasTurned s x places over was now) same_duty
    (subst (λ (n : ℕ). HasTurned s d n over was now) same_places
    (record {
      done = done;
      rested = rested;
      visits = visits;
      fair = fair;
      rest =
          subst (λ (x : Duty). HasRested done (told_after x now.laps ++ was.calls) rested) kept
          (subst (λ (t : List Call). HasRested done t rested) is_told rest);
      asked = asked;
    })))

-- none was made
pub none-turned : (stripes : ℕ) (duty : Duty) (places : ℕ) (was : Course)
    → (turns : ℕ) × HaveTurned turns stripes duty places was was
unfolding HaveTurned
none-turned stripes duty places was = (zero, refl)

-- one more was
pub one-turned : (stripes : ℕ) (duty : Duty) (places : ℕ) (was between now : Course)
    → ((turns : ℕ) × HaveTurned turns stripes duty places was between) → HasTurned stripes duty places false between now
    → (turns : ℕ) × HaveTurned turns stripes duty places was now
unfolding HaveTurned
one-turned stripes duty places was between now turned one = (suc turned.0, (between, turned.1, one))
