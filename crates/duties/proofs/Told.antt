-- What a step's notes are as events.
use Rattle.std.proofs.Common.{◌≡◌, ℕ, ◌+◌, ◌≤◌, ◌<◌, Bool, true, false, Result, Ok, Err, List, [], ◌∷◌, ◌++◌, refl, ap, ◌∙◌, arith}
use Rattle.epoch.specs.declared.view.View.{View}
use Rattle.words.specs.declared.reply.Fault.{Fault}
use Rattle.words.specs.declared.reply.Fault.TheVariants as fault
use Rattle.gates.specs.declared.view.Knowledge.{Knowledge}
use Rattle.gates.specs.declared.view.Look.TheVariants.{HalfUsed, Used, FewerFree, FewerExpected}
use Rattle.gates.specs.declared.view.Note.{Note}
use Rattle.gates.specs.declared.view.Note.TheVariants as note
use Rattle.gates.specs.declared.view.Work.TheVariants as work
use Rattle.gates.specs.Passes.{AreBusy}
use Rattle.background.specs.Visits.{HasCleaned, HasFlushed, Visited, told}
use Rattle.upkeep.specs.declared.stripes.Duty.TheVariants as duty
use Rattle.upkeep.specs.declared.stripes.Event.{Event}
use Rattle.upkeep.specs.declared.stripes.Event.TheVariants as event
use Rattle.upkeep.specs.declared.stripes.Outcome.TheVariants as outcome
use Rattle.upkeep.specs.Events.{stepped}
use Rattle.duties.specs.Notes.{duty_for, events_of, outcome_by}

-- that others had the stripe is no event
pub events_of-busy : (stripes : List ℕ) (more was : List Note) → AreBusy stripes more → events_of (more ++ was) ≡ events_of was
events_of-busy stripes [] was busy = refl
events_of-busy stripes (note.Busy stripe ∷ more) was busy = events_of-busy stripes more was busy.1
events_of-busy stripes (note.Worn ∷ more) was busy = absurd busy
events_of-busy stripes (note.Full stripe refused ∷ more) was busy = absurd busy
events_of-busy stripes (note.Idle stripe did ∷ more) was busy = absurd busy
events_of-busy stripes (note.Done stripe did ∷ more) was busy = absurd busy
events_of-busy stripes (note.Seen stripe look ∷ more) was busy = absurd busy

-- what was told last, and before it nothing but that
pub events_of-last : (stripes : List ℕ) (last more was : List Note) → AreBusy stripes more → events_of (last ++ (more ++ was)) ≡ events_of last ++ events_of was
events_of-last stripes [] more was busy = events_of-busy stripes more was busy
events_of-last stripes (note.Busy stripe ∷ last) more was busy = events_of-last stripes last more was busy
events_of-last stripes (note.Worn ∷ last) more was busy = events_of-last stripes last more was busy
events_of-last stripes (note.Full stripe refused ∷ last) more was busy = ap (λ (es : List Event). event.Full stripe ∷ es) (events_of-last stripes last more was busy)
events_of-last stripes (note.Idle stripe did ∷ last) more was busy = ap (λ (es : List Event). event.Idle stripe (duty_for did) ∷ es) (events_of-last stripes last more was busy)
events_of-last stripes (note.Done stripe did ∷ last) more was busy = ap (λ (es : List Event). event.Done stripe (duty_for did) ∷ es) (events_of-last stripes last more was busy)
events_of-last stripes (note.Seen stripe (HalfUsed answer) ∷ last) more was busy = ap (λ (es : List Event). event.HalfUsed stripe answer ∷ es) (events_of-last stripes last more was busy)
events_of-last stripes (note.Seen stripe (Used count) ∷ last) more was busy = ap (λ (es : List Event). event.Used stripe count ∷ es) (events_of-last stripes last more was busy)
events_of-last stripes (note.Seen stripe (FewerFree count answer) ∷ last) more was busy = ap (λ (es : List Event). event.Short stripe answer ∷ es) (events_of-last stripes last more was busy)
events_of-last stripes (note.Seen stripe (FewerExpected count answer) ∷ last) more was busy = ap (λ (es : List Event). event.Opened stripe answer ∷ es) (events_of-last stripes last more was busy)

-- a visit that was told this last
pub events_of-visited : (stripes : List ℕ) (last : List Note) (was now : Knowledge) → Visited stripes last was now
    → events_of now.notes ≡ events_of last ++ events_of was.notes
events_of-visited stripes last was now visited =
    ap events_of visited.busy.1 ∙ events_of-last stripes last visited.busy.0 was.notes visited.busy.2

-- the events of a flush
pub events_of-flushed : (stripe : ℕ) (result : Result Bool Fault) (before failed : ℕ) (was now : Knowledge) (heard hears : View)
    → HasFlushed (stripe ∷ []) stripe result before failed was now heard hears
    → events_of now.notes ≡ stepped stripe duty.Flush (outcome_by result) ++ events_of was.notes
events_of-flushed stripe (Ok true) before failed was now heard hears flushed = events_of-visited (stripe ∷ []) _ was now flushed.1
events_of-flushed stripe (Ok false) before failed was now heard hears flushed = events_of-visited (stripe ∷ []) _ was now flushed.1
events_of-flushed stripe (Err fault.StoreFull) before failed was now heard hears flushed = events_of-visited (stripe ∷ []) _ was now flushed.1.visited
events_of-flushed stripe (Err fault.DeviceFault) before failed was now heard hears flushed = events_of-visited (stripe ∷ []) _ was now flushed.1
events_of-flushed stripe (Err fault.OutOfMemory) before failed was now heard hears flushed = absurd flushed
events_of-flushed stripe (Err fault.CommitsWornOut) before failed was now heard hears flushed = absurd flushed

-- a call of the device has failed in a flush that met a fault, and none was forgotten
pub failed-flushed : (stripe : ℕ) (result : Result Bool Fault) (before failed : ℕ) (was now : Knowledge) (heard hears : View)
    → HasFlushed (stripe ∷ []) stripe result before failed was now heard hears
    → (before ≤ failed) × (outcome_by result ≡ outcome.Fault → before < failed)
failed-flushed stripe (Ok true) before failed was now heard hears flushed = let e = flushed.0 in (omega arith, λ is. cc)
failed-flushed stripe (Ok false) before failed was now heard hears flushed = let e = flushed.0 in (omega arith, λ is. cc)
failed-flushed stripe (Err fault.StoreFull) before failed was now heard hears flushed = let e = flushed.0 in (omega arith, λ is. cc)
failed-flushed stripe (Err fault.DeviceFault) before failed was now heard hears flushed = let e = flushed.0 in (omega arith, λ is. omega arith)
failed-flushed stripe (Err fault.OutOfMemory) before failed was now heard hears flushed = absurd flushed
failed-flushed stripe (Err fault.CommitsWornOut) before failed was now heard hears flushed = absurd flushed

-- the events of an eviction
pub events_of-evicted : (stripe : ℕ) (done : Bool) (was now : Knowledge) → Visited (stripe ∷ []) (told work.Evict stripe done) was now
    → events_of now.notes ≡ stepped stripe duty.Evict (outcome_by (Ok done)) ++ events_of was.notes
events_of-evicted stripe true was now visited = events_of-visited (stripe ∷ []) _ was now visited
events_of-evicted stripe false was now visited = events_of-visited (stripe ∷ []) _ was now visited

-- the events of a step of the cleaner
pub events_of-cleaned : (lends : Type 0) (stripe : ℕ) (result : Result Bool Fault) (before failed : ℕ) (was now : Knowledge) (heard hears : View)
    → HasCleaned lends (stripe ∷ []) stripe result before failed was now heard hears
    → events_of now.notes ≡ stepped stripe duty.Clean (outcome_by result) ++ events_of was.notes
events_of-cleaned lends stripe (Ok true) before failed was now heard hears cleaned = events_of-visited (stripe ∷ []) _ was now cleaned.2
events_of-cleaned lends stripe (Ok false) before failed was now heard hears cleaned = events_of-visited (stripe ∷ []) _ was now cleaned.2
events_of-cleaned lends stripe (Err fault.StoreFull) before failed was now heard hears cleaned = events_of-visited (stripe ∷ []) _ was now cleaned.1.visited
events_of-cleaned lends stripe (Err fault.DeviceFault) before failed was now heard hears cleaned = events_of-visited (stripe ∷ []) _ was now cleaned.1
events_of-cleaned lends stripe (Err fault.OutOfMemory) before failed was now heard hears cleaned = events_of-visited (stripe ∷ []) _ was now cleaned.2
events_of-cleaned lends stripe (Err fault.CommitsWornOut) before failed was now heard hears cleaned = absurd cleaned

-- no failure was forgotten in it
pub failed-cleaned : (lends : Type 0) (stripe : ℕ) (result : Result Bool Fault) (before failed : ℕ) (was now : Knowledge) (heard hears : View)
    → HasCleaned lends (stripe ∷ []) stripe result before failed was now heard hears → before ≤ failed
failed-cleaned lends stripe (Ok true) before failed was now heard hears cleaned = let e = cleaned.0 in omega arith
failed-cleaned lends stripe (Ok false) before failed was now heard hears cleaned = let e = cleaned.0 in omega arith
failed-cleaned lends stripe (Err fault.StoreFull) before failed was now heard hears cleaned = let e = cleaned.0 in omega arith
failed-cleaned lends stripe (Err fault.DeviceFault) before failed was now heard hears cleaned = let e = cleaned.0 in omega arith
failed-cleaned lends stripe (Err fault.OutOfMemory) before failed was now heard hears cleaned = let e = cleaned.1 in omega arith
failed-cleaned lends stripe (Err fault.CommitsWornOut) before failed was now heard hears cleaned = absurd cleaned
