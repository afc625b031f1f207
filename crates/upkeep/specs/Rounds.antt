-- Rounds over all stripes, and the rests between them.
use Rattle.std.specs.Prelude.{ℕ, zero, suc, ◌≡◌, ◌+◌, ◌≤◌, Bool, true, false, List, [], ◌∷◌, ◌++◌, length, All}
use Rattle.std.specs.List.{list_any}
use Rattle.upkeep.specs.declared.calls.Call.{Call}
use Rattle.upkeep.specs.declared.calls.Call.TheVariants as call
use Rattle.upkeep.specs.declared.stripes.Duty.{Duty}
use Rattle.upkeep.specs.declared.stripes.Duty.TheVariants.{Flush, Evict, Clean}
use Rattle.upkeep.specs.declared.stripes.Event.{Event}
use Rattle.upkeep.specs.declared.chores.Chores.{Chores}
use Rattle.upkeep.specs.declared.laps.Laps.{Laps}
use Rattle.upkeep.specs.Events.{missed}
use Rattle.upkeep.specs.Laps.{IsNewLaps}
use Rattle.upkeep.specs.Steps.{HaveVisited}

-- for how many milliseconds a thread rests that found nothing to do: 50 where no connection is served, else 10
abbrev pub rest_by : (idle : Bool) → ℕ
rest_by true = 50
rest_by false = 10

-- what a thread's chores are
abbrev pub duty_of : Chores → Duty
duty_of chores = chores.duty

-- the cleaner's laps
abbrev pub laps_of : Chores → List Laps
laps_of chores = chores.laps.items

-- how many places they take each stripe to have
abbrev pub places_of : Chores → ℕ
places_of chores = chores.places

-- they are of this duty, at so many stripes of so many places, and no lap has begun
pub record AreFor (of : Duty) (count each : ℕ) (chores : Chores) : Type 0 where
  pub duty : chores.duty ≡ of
  pub stripes : length chores.laps.items ≡ count
  pub places : chores.places ≡ each
  pub laps : All IsNewLaps chores.laps.items

-- How far a thread has come: what it was told of the stripes, how many calls of the device have failed, its laps, and its calls beside, the
-- newest first.
pub record Course : Type 0 where
  pub events : List Event
  pub failures : ℕ
  pub laps : List Laps
  pub calls : List Call

abbrev pub course : (events : List Event) (failures : ℕ) (laps : List Laps) (calls : List Call) → Course
course e f l c = record { events = e; failures = f; laps = l; calls = c }

-- what is told after a round: the cleaner tells whether it is behind at any stripe, others tell nothing
abbrev pub told_after : Duty → List Laps → List Call
told_after Flush laps = []
told_after Evict laps = []
told_after Clean laps = call.TellBehind (list_any (λ (l : Laps). l.behind) laps) ∷ []

-- The rest after a round: none where a step was done at any stripe; else it was asked whether no connection is served, and the rest is as
-- long as that wants.
abbrev pub HasRested : (done : Bool) → (before later : List Call) → Type 0
HasRested true before later = later ≡ before
HasRested false before later = (idle : Bool) × (later ≡ call.Rest (rest_by idle) ∷ (call.IsIdle idle ∷ before))

-- A turn: one visit to each stripe, of which no more were left out than calls of the device have failed; then what is told, and the rest;
-- then it was asked once whether serving is over, and answered so.
pub record HasTurned (stripes : ℕ) (duty : Duty) (places : ℕ) (over : Bool) (was now : Course) : Type 0 where
  pub done : Bool
  pub rested : List Call
  pub visits : HaveVisited stripes duty places was.events now.events was.laps now.laps done
  pub fair : missed stripes was.events now.events + was.failures ≤ now.failures
  pub rest : HasRested done (told_after duty now.laps ++ was.calls) rested
  pub asked : now.calls ≡ call.IsOver over ∷ rested

-- so many turns, one after the other, and nothing else; after each it was answered that serving is not over
unfoldable pub HaveTurned : (turns stripes : ℕ) → Duty → (places : ℕ) → (was now : Course) → Type 0
HaveTurned zero stripes duty places was now = now ≡ was
HaveTurned (suc turns) stripes duty places was now =
    (between : Course) × HaveTurned turns stripes duty places was between × HasTurned stripes duty places false between now

-- turns until serving is over: some after which it was not, and one after which it was
abbrev pub HasKeptUp : (stripes : ℕ) → Duty → (places : ℕ) → (was now : Course) → Type 0
HasKeptUp stripes duty places was now =
    (turns : ℕ) × (between : Course) × HaveTurned turns stripes duty places was between × HasTurned stripes duty places true between now

-- it was asked last whether serving is over, and answered that it is
abbrev pub WasToldOver : List Call → Type 0
WasToldOver calls = (earlier : List Call) × (calls ≡ call.IsOver true ∷ earlier)
