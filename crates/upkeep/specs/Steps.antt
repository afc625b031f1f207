-- What is done at a stripe by what is seen there: the table of duties.
use Rattle.std.specs.Prelude.{ℕ, zero, suc, ◌≡◌, ◌-◌, ◌≤◌, ◌<◌, nat_lt, Bool, true, false, if◌then◌else◌, List, [], ◌∷◌, ◌++◌, length, set, slice_index_or}
use Rattle.upkeep.specs.declared.stripes.Duty.{Duty}
use Rattle.upkeep.specs.declared.stripes.Duty.TheVariants.{Flush, Evict, Clean}
use Rattle.upkeep.specs.declared.stripes.Outcome.{Outcome}
use Rattle.upkeep.specs.declared.stripes.Outcome.TheVariants as outcome
use Rattle.upkeep.specs.declared.stripes.Event.{Event}
use Rattle.upkeep.specs.declared.stripes.Event.TheVariants as event
use Rattle.upkeep.specs.declared.steps.Step.{Step}
use Rattle.upkeep.specs.declared.steps.Step.TheVariants.{Unneeded, Waits, Next, First}
use Rattle.upkeep.specs.declared.laps.Laps.{Laps}
use Rattle.upkeep.specs.Events.{is_done, stepped}
use Rattle.upkeep.specs.Laps.{IsAfter, SameLap, begins_by, choice_by, is_behind_by}

-- whether a step was done
abbrev pub is_done_by : Step → Bool
is_done_by Unneeded = false
is_done_by (Waits seen) = false
is_done_by (Next outcome) = is_done outcome
is_done_by (First seen outcome) = is_done outcome

-- What is told of a step at a stripe, the newest first. The flusher looks at nothing. The evictor asks whether frames are short, and does a step
-- only where they are. The cleaner asks whether half of the places are used, and goes on only where they are: with a step of its lap, or by what it
-- then sees of the places that are used and of a deletion's page.
abbrev pub IsTold : Duty → (stripe : ℕ) → Step → (before later : List Event) → Type 0
IsTold Flush stripe (Next came) before later = later ≡ stepped stripe Flush came ++ before
IsTold Flush stripe Unneeded before later = ⊥
IsTold Flush stripe (Waits seen) before later = ⊥
IsTold Flush stripe (First seen came) before later = ⊥
IsTold Evict stripe Unneeded before later = later ≡ event.Short stripe false ∷ before
IsTold Evict stripe (Next came) before later = later ≡ stepped stripe Evict came ++ (event.Short stripe true ∷ before)
IsTold Evict stripe (Waits seen) before later = ⊥
IsTold Evict stripe (First seen came) before later = ⊥
IsTold Clean stripe Unneeded before later = later ≡ event.HalfUsed stripe false ∷ before
IsTold Clean stripe (Next came) before later = later ≡ stepped stripe Clean came ++ (event.HalfUsed stripe true ∷ before)
IsTold Clean stripe (Waits seen) before later =
    later ≡ event.Opened stripe seen.opened ∷ (event.Used stripe seen.used ∷ (event.HalfUsed stripe true ∷ before))
IsTold Clean stripe (First seen came) before later =
    later ≡ stepped stripe Clean came ++ (event.Opened stripe seen.opened ∷ (event.Used stripe seen.used ∷ (event.HalfUsed stripe true ∷ before)))

-- A step of the cleaner that came to this leaves the laps so: it ends a lap where it met a fault or a full stripe.
abbrev pub HasStopped : Outcome → (was now : Laps) → Type 0
HasStopped outcome.Done was now = (now.left ≡ was.left) × SameLap was now
HasStopped outcome.Idle was now = (now.left ≡ was.left) × SameLap was now
HasStopped outcome.Full was now = (now.left ≡ 0) × SameLap was now
HasStopped outcome.Fault was now = (now.left ≡ 0) × SameLap was now

-- a step of a lap was taken, and came to this
abbrev pub HasGoneOn : Outcome → (was now : Laps) → Type 0
HasGoneOn outcome.Done was now = (now.left ≡ was.left - 1) × SameLap was now
HasGoneOn outcome.Idle was now = (now.left ≡ was.left - 1) × SameLap was now
HasGoneOn outcome.Full was now = (now.left ≡ 0) × SameLap was now
HasGoneOn outcome.Fault was now = (now.left ≡ 0) × SameLap was now

-- What becomes of the laps of a stripe of so many places. Only the cleaner has any: a step is the next of a lap that has one left, or the first of a
-- lap that begins by what was seen, where none was left; else none begins.
abbrev pub HasStepped : Duty → (places : ℕ) → Step → (was now : Laps) → Type 0
HasStepped Flush places step was now = Unit {0}
HasStepped Evict places step was now = Unit {0}
HasStepped Clean places Unneeded was now = (now.left ≡ was.left) × SameLap was now
HasStepped Clean places (Next came) was now = (0 < was.left) × HasGoneOn came was now
HasStepped Clean places (Waits seen) was now =
    (was.left ≡ 0) × (seen.places ≡ places) × (begins_by (choice_by was seen) seen.used ≡ false) × IsAfter was seen (choice_by was seen) now
HasStepped Clean places (First seen came) was now =
    (was.left ≡ 0) × (seen.places ≡ places) × (begins_by (choice_by was seen) seen.used ≡ true)
    × (begun : Laps) × IsAfter was seen (choice_by was seen) begun × HasStopped came begun now

-- One step was made at this stripe of so many places, as both tables say, and was done or not.
abbrev pub HasMade : Duty → (stripe places : ℕ) → (before later : List Event) → (was now : Laps) → (done : Bool) → Type 0
HasMade duty stripe places before later was now done =
    (step : Step) × IsTold duty stripe step before later × HasStepped duty places step was now × (done ≡ is_done_by step)

-- so many steps were done there, one after the other, and no other was made
unfoldable pub HaveDone : (count : ℕ) → Duty → (stripe places : ℕ) → (before later : List Event) → (was now : Laps) → Type 0
HaveDone zero duty stripe places before later was now = (later ≡ before) × (now ≡ was)
HaveDone (suc count) duty stripe places before later was now =
    (between : List Event) × (laps : Laps)
    × HaveDone count duty stripe places before between was laps × HasMade duty stripe places between later laps now true

-- after so many steps that were done: none more, where they are 16, or one that was not done
abbrev pub HasEnded : (left : ℕ) → Duty → (stripe places : ℕ) → (before later : List Event) → (was now : Laps) → Type 0
HasEnded zero duty stripe places before later was now = (later ≡ before) × (now ≡ was)
HasEnded (suc left) duty stripe places before later was now = HasMade duty stripe places before later was now false

-- Up to 16 steps were done there, and where they are fewer, one more was made, which was not done; any says whether one was done.
abbrev pub HaveMade : Duty → (stripe places : ℕ) → (before later : List Event) → (was now : Laps) → (any : Bool) → Type 0
HaveMade duty stripe places before later was now any =
    (count : ℕ) × (between : List Event) × (laps : Laps) × (count ≤ 16) × (any ≡ nat_lt 0 count)
    × HaveDone count duty stripe places before between was laps × HasEnded (16 - count) duty stripe places between later laps now

-- after these the cleaner looks at how many places are used, where it did one; nobody else looks
abbrev pub HasLookedAfter : Duty → (any : Bool) → (stripe : ℕ) → (before later : List Event) → Type 0
HasLookedAfter Flush any stripe before later = later ≡ before
HasLookedAfter Evict any stripe before later = later ≡ before
HasLookedAfter Clean false stripe before later = later ≡ before
HasLookedAfter Clean true stripe before later = (used : ℕ) × (later ≡ event.Used stripe used ∷ before)

-- A visit: these steps, and then this look. But for whether it is behind, which is noted then, the laps are as the steps left them.
abbrev pub HasVisited : Duty → (stripe places : ℕ) → (before later : List Event) → (was now : Laps) → (any : Bool) → Type 0
HasVisited duty stripe places before later was now any =
    (between : List Event) × (laps : Laps) × HaveMade duty stripe places before between was laps any
    × HasLookedAfter duty any stripe between later × (now.left ≡ laps.left) × SameLap laps now

-- The cleaner looked last at how many places of this stripe are used, and is behind there by that.
abbrev pub IsBehindAfter : (stripe places : ℕ) → Laps → List Event → Type 0
IsBehindAfter stripe places laps [] = ⊥
IsBehindAfter stripe places laps (event.Used of used ∷ events) = (of ≡ stripe) × (laps.behind ≡ is_behind_by laps.left used places)
IsBehindAfter stripe places laps (event.HalfUsed of answer ∷ events) = ⊥
IsBehindAfter stripe places laps (event.Short of answer ∷ events) = ⊥
IsBehindAfter stripe places laps (event.Opened of answer ∷ events) = ⊥
IsBehindAfter stripe places laps (event.Full of ∷ events) = ⊥
IsBehindAfter stripe places laps (event.Idle of duty ∷ events) = ⊥
IsBehindAfter stripe places laps (event.Done of duty ∷ events) = ⊥

-- What is noted after a visit by which it is told whether the cleaner is behind: it is where it looked last, by what it saw there, and nowhere else.
abbrev pub HasNoted : Duty → (stripe places : ℕ) → Laps → List Event → (any : Bool) → Type 0
HasNoted duty stripe places laps events false = laps.behind ≡ false
HasNoted Flush stripe places laps events true = Unit {0}
HasNoted Evict stripe places laps events true = Unit {0}
HasNoted Clean stripe places laps events true = IsBehindAfter stripe places laps events

-- A visit to a stripe with its own laps, which are those at its number. All others stay.
pub record HasVisitedOne (duty : Duty) (places stripe : ℕ) (before later : List Event) (was now : List Laps) (any : Bool) : Type 0 where
  pub old : Laps
  pub new : Laps
  pub within : stripe < length was
  pub own : slice_index_or was stripe old ≡ old
  pub kept : now ≡ set was stripe new
  pub visited : HasVisited duty stripe places before later old new any
  pub noted : HasNoted duty stripe places new later any

-- One visit to each of so many stripes, from the first on, of this duty and of so many places each, and to no other; any says whether a step was done.
unfoldable pub HaveVisited : (stripes : ℕ) → Duty → (places : ℕ) → (before later : List Event) → (was now : List Laps) → (any : Bool) → Type 0
HaveVisited zero duty places before later was now any = (later ≡ before) × (now ≡ was) × (any ≡ false)
HaveVisited (suc stripe) duty places before later was now any =
    (between : List Event) × (laps : List Laps) × (earlier here : Bool) × HaveVisited stripe duty places before between was laps earlier
    × HasVisitedOne duty places stripe between later laps now here × (any ≡ (if here then true else earlier))
