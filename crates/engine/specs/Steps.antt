-- The steps of background threads, as passes of an engine make them.
use Rattle.std.specs.Prelude.{ℕ, ◌≡◌, List, Some, Bool, Result, Ok}
use Rattle.words.specs.declared.reply.Fault.{Fault}
use Rattle.epoch.specs.Seats as seats
use Rattle.epoch.specs.declared.epochs.EpochSeat.{EpochSeat}
use Rattle.gates.specs.declared.view.Note.{Note}
use Rattle.gates.specs.declared.view.Work.TheVariants.{Evict}
use Rattle.gates.specs.Passes.{WasBusy, known}
use Rattle.background.specs.Visits.{HasCleaned, HasFlushed, Visited, told}
use Rattle.plans.specs.declared.hands.Hands.{Hands}
use Rattle.engine.specs.declared.pass.Pass.{Pass}

module _ {D R : Type 0} where
  -- of the seat that a pass had, and of the one that it has
  abbrev pub SeatsOf : (EpochSeat → EpochSeat → Type 0) → (was now : Pass D R) → Type 0
  SeatsOf P was now = (before later : Hands R EpochSeat) → was.hands ≡ Some before → now.hands ≡ Some later → P before.own later.own

  -- a pass was told of a stripe, and of these alone that others had them
  abbrev pub VisitedBy : (stripes : List ℕ) (told : List Note) (was now : Pass D R) → Type 0
  VisitedBy stripes told was now = Visited stripes told (known was.gates) (known now.gates)

  -- a pass found a stripe busy
  abbrev pub FoundBusyBy : (stripe : ℕ) (was now : Pass D R) → Type 0
  FoundBusyBy stripe was now = WasBusy stripe (known was.gates) (known now.gates)

  -- a pass made the flusher's step at a stripe, and was told of these alone that others had them; `failures` counts the failed calls of an opening
  abbrev pub FlushedBy : (failures : D → ℕ) (stripes : List ℕ) (stripe : ℕ) → Result Bool Fault → (was now : Pass D R) → Type 0
  FlushedBy failures stripes stripe result was now = SeatsOf (λ before later. HasFlushed stripes stripe result
      (failures was.device) (failures now.device) (known was.gates) (known now.gates) (seats.known before) (seats.known later)) was now

  -- the evictor's step
  abbrev pub EvictedBy : (stripes : List ℕ) (stripe : ℕ) → Result Bool Fault → (was now : Pass D R) → Type 0
  EvictedBy stripes stripe result was now = (done : Bool) × (result ≡ Ok done) × VisitedBy stripes (told Evict stripe done) was now

  -- the cleaner's step; `lends` where receipts lend their pages
  abbrev pub CleanedBy : (lends : Type 0) (failures : D → ℕ) (stripes : List ℕ) (stripe : ℕ) → Result Bool Fault → (was now : Pass D R) → Type 0
  CleanedBy lends failures stripes stripe result was now = SeatsOf (λ before later. HasCleaned lends stripes stripe result
      (failures was.device) (failures now.device) (known was.gates) (known now.gates) (seats.known before) (seats.known later)) was now
