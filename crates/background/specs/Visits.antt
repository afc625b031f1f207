-- What becomes of a pass that visits one stripe, and of the stripe's part.
use Rattle.std.specs.Prelude.{ℕ, ◌≡◌, ◌≢◌, ◌⊎◌, ◌+◌, Bool, true, false, Option, Some, Result, Ok, Err, List, [], ◌∷◌, ◌++◌, IfOk}
use Rattle.epoch.specs.declared.view.View.{View}
use Rattle.epoch.specs.declared.epochs.EpochSeat.{EpochSeat}
use Rattle.epoch.specs.Seats as seats
use Rattle.words.specs.Store.{Bytes}
use Rattle.words.specs.History.{History}
use Rattle.words.specs.declared.reply.Fault.{Fault}
use Rattle.words.specs.declared.reply.Fault.TheVariants as fault
use Rattle.gates.specs.declared.gates.Pass.{Pass}
use Rattle.gates.specs.declared.view.Work.{Work}
use Rattle.gates.specs.declared.view.Work.TheVariants.{Flush, Clean}
use Rattle.gates.specs.declared.view.Refused.{Refused}
use Rattle.gates.specs.declared.view.Knowledge.{Knowledge}
use Rattle.gates.specs.declared.view.Note.{Note}
use Rattle.gates.specs.declared.view.Note.TheVariants as note
use Rattle.gates.specs.declared.report.Report.{Report}
use Rattle.gates.specs.declared.report.Report.TheVariants as report
use Rattle.gates.specs.Passes.{AreBusy, WasBusy, known}
use Rattle.gates.specs.Rule.{Meaning}
use Rattle.shards.specs.Cleaning.{MatchFault}
use Rattle.shards.specs.Heard.{HasHeard, HasHeardWorn}
use Rattle.shards.specs.declared.shard.Shard.{Shard}
use Rattle.background.specs.declared.at.Turn.{Turn}
use Rattle.shards.specs.declared.cleaning.Stepped.{Stepped}
use Rattle.shards.specs.declared.cleaning.Stepped.TheVariants as stepped
use Rattle.transact.specs.declared.call.Busy.{Busy}
use Rattle.background.specs.declared.cells.Began.{Began}
use Rattle.background.specs.declared.cells.Began.TheVariants as began
use Rattle.background.specs.declared.cells.Landing.{Landing}
use Rattle.background.specs.declared.cells.Landing.TheVariants as landing
use Rattle.background.specs.declared.clean.Round.{Round}
use Rattle.background.specs.declared.clean.Round.TheVariants as round

-- The pass was told this last, and before it that others had stripes of these, and nothing else. It made no entry, and watches what it did.
pub record Visited (stripes : List ℕ) (last : List Note) (was now : Knowledge) : Type 0 where
  pub number : now.number ≡ was.number
  pub mine : now.mine ≡ was.mine
  pub watched : now.watched ≡ was.watched
  pub seen : (more : History) × (now.seen ≡ more ++ was.seen)
  pub busy : (more : List Note) × (now.notes ≡ last ++ (more ++ was.notes)) × AreBusy stripes more

-- The part of a stripe is another one since, of which this holds, and has the same store and marks. Other parts are the same.
pub record HasStepped {T : Type 0} (contents : Meaning T) (stripe : ℕ) (before later : ℕ → Option T) (Says : (was now : T) → Type 0) : Type 0 where
  pub old : T
  pub new : T
  pub was : before stripe ≡ Some old
  pub is : later stripe ≡ Some new
  pub others : (other : ℕ) → other ≢ stripe → later other ≡ before other
  pub store : contents.trusted → (key : Bytes) → contents.store new key ≡ contents.store old key
  pub marks : contents.marks new ≡ contents.marks old
  pub says : Says old new

-- what is told of a step that was done, or for which there was nothing to do
abbrev pub told : Work → (stripe : ℕ) → (done : Bool) → List Note
told work stripe true = note.Done stripe work ∷ []
told work stripe false = note.Idle stripe work ∷ []

-- The pass was told last that the stripe is full, and none of its places could be released but for what the epochs refused. A retirement was
-- refused only where the seat was told that the epoch word is worn out.
pub record WasFull (stripes : List ℕ) (stripe : ℕ) (was now : Knowledge) (heard hears : View) : Type 0 where
  pub refused : Refused
  pub visited : Visited stripes (note.Full stripe refused ∷ []) was now
  pub worn : refused.retire ≡ true → HasHeardWorn heard hears

-- What a flush that begins came to: there was nothing to do, or the store is full, each of which was told last; or a page is on its way, and nothing
-- was told.
abbrev pub HasBegun : (stripes : List ℕ) (stripe : ℕ) → Began → (was now : Knowledge) → (heard hears : View) → Type 0
HasBegun stripes stripe began.Idle was now heard hears = Visited stripes (note.Idle stripe Flush ∷ []) was now
HasBegun stripes stripe (began.Full refused) was now heard hears = WasFull stripes stripe was now heard hears
HasBegun stripes stripe (began.Sealed flight) was now heard hears = Visited stripes [] was now

-- what is told where a flush ends
abbrev pub told_at_end : {R : Type 0} → (stripe : ℕ) → Landing R → List Note
told_at_end stripe landing.Landed = note.Done stripe Flush ∷ []
told_at_end stripe (landing.Again written) = []
told_at_end stripe (landing.Full refused) = note.Full stripe refused ∷ []

-- What the end of a flush came to: it was done, which was told last, or the store is full.
abbrev pub HasEnded : (stripes : List ℕ) (stripe : ℕ) → (done : Bool) → (was now : Knowledge) → (heard hears : View) → Type 0
HasEnded stripes stripe true was now heard hears = Visited stripes (note.Done stripe Flush ∷ []) was now
HasEnded stripes stripe false was now heard hears = WasFull stripes stripe was now heard hears

-- What the flusher's step came to: it was done, there was nothing to do, or the store is full, each of which was told last; or the write
-- failed. Only then has a call of the device failed. There is no other fault.
abbrev pub HasFlushed : (stripes : List ℕ) (stripe : ℕ) → Result Bool Fault → (failed_before failed : ℕ) → (was now : Knowledge) → (heard hears : View) → Type 0
HasFlushed stripes stripe (Ok done) failed_before failed was now heard hears = (failed ≡ failed_before) × Visited stripes (told Flush stripe done) was now
HasFlushed stripes stripe (Err fault.StoreFull) failed_before failed was now heard hears = (failed ≡ failed_before) × WasFull stripes stripe was now heard hears
HasFlushed stripes stripe (Err fault.DeviceFault) failed_before failed was now heard hears = (failed ≡ failed_before + 1) × Visited stripes [] was now
HasFlushed stripes stripe (Err fault.OutOfMemory) failed_before failed was now heard hears = ⊥
HasFlushed stripes stripe (Err fault.CommitsWornOut) failed_before failed was now heard hears = ⊥

-- How often the device was asked to write in the flusher's step: once for a page that waits, and else not. The store may be full before the write,
-- or after it.
abbrev pub HasWritten : Result Bool Fault → (before writes : ℕ) → Type 0
HasWritten (Ok true) before writes = writes ≡ before + 1
HasWritten (Ok false) before writes = writes ≡ before
HasWritten (Err fault.DeviceFault) before writes = writes ≡ before + 1
HasWritten (Err fault.StoreFull) before writes = (writes ≡ before) ⊎ (writes ≡ before + 1)
HasWritten (Err fault.OutOfMemory) before writes = ⊥
HasWritten (Err fault.CommitsWornOut) before writes = ⊥

-- What the cleaner's step came to: it was done, there was nothing to do, or the store is full, each of which was told last; or a call of
-- the device failed, or there was no memory for a page, which receipts did not lend. Only where a call of the device failed has one been
-- counted. A retirement was refused only where the seat was told that the epoch word is worn out. There is no other fault.
abbrev pub HasCleaned : (lends : Type 0) (stripes : List ℕ) (stripe : ℕ) → Result Bool Fault → (failed_before failed : ℕ) → (was now : Knowledge) → (heard hears : View) → Type 0
HasCleaned lends stripes stripe (Ok true) failed_before failed was now heard hears =
    (failed ≡ failed_before) × (refused : Refused) × Visited stripes (note.Done stripe (Clean refused) ∷ []) was now
HasCleaned lends stripes stripe (Ok false) failed_before failed was now heard hears =
    (failed ≡ failed_before) × (refused : Refused) × Visited stripes (note.Idle stripe (Clean refused) ∷ []) was now × (refused.retire ≡ true → HasHeardWorn heard hears)
HasCleaned lends stripes stripe (Err fault.StoreFull) failed_before failed was now heard hears = (failed ≡ failed_before) × WasFull stripes stripe was now heard hears
HasCleaned lends stripes stripe (Err fault.DeviceFault) failed_before failed was now heard hears = (failed ≡ failed_before + 1) × Visited stripes [] was now
HasCleaned lends stripes stripe (Err fault.OutOfMemory) failed_before failed was now heard hears = (lends → ⊥) × (failed ≡ failed_before) × Visited stripes [] was now
HasCleaned lends stripes stripe (Err fault.CommitsWornOut) failed_before failed was now heard hears = ⊥

-- the pass looked at its stripe, and nothing was told: no call of the device failed, and what the seat was told stands
pub record HasLooked (stripes : List ℕ) (failed_before failed : ℕ) (was now : Knowledge) (heard hears : View) : Type 0 where
  pub failures : failed ≡ failed_before
  pub visited : Visited stripes [] was now
  pub heard_more : HasHeard heard hears

-- nothing was refused
abbrev pub none_refused : Refused
none_refused = record { retire = false; drain = false }

-- what is told of it
abbrev pub report_for : (stripe : ℕ) → Result Stepped Fault → Report
report_for stripe (Ok stepped.Done) = report.Done stripe (Clean none_refused)
report_for stripe (Ok (stepped.Idle refused)) = report.Idle stripe (Clean refused)
report_for stripe (Ok (stepped.Full refused)) = report.Full stripe refused
report_for stripe (Ok (stepped.Cold number)) = report.Nothing
report_for stripe (Err fault.StoreFull) = report.Nothing
report_for stripe (Err fault.DeviceFault) = report.Nothing
report_for stripe (Err fault.OutOfMemory) = report.Nothing
report_for stripe (Err fault.CommitsWornOut) = report.Nothing

-- what a round comes to whose step came to this
abbrev pub round_for : Result Stepped Fault → Result Round Fault
round_for (Ok stepped.Done) = Ok (round.Ended true)
round_for (Ok (stepped.Idle refused)) = Ok (round.Ended false)
round_for (Ok (stepped.Full refused)) = Err fault.StoreFull
round_for (Ok (stepped.Cold number)) = Ok round.Again
round_for (Err fault) = Err fault

-- by what a round came to
abbrev pub MatchRound : Result Round Fault → (ended : Result Bool Fault → Type 0) → (again : Type 0) → Type 0
MatchRound (Ok (round.Ended done)) ended again = ended (Ok done)
MatchRound (Ok round.Again) ended again = again
MatchRound (Err fault) ended again = ended (Err fault)

module _ {T : Type 0} where
  -- A stripe was another pass's: that is all that the pass was told, and neither the device nor the seat was asked.
  pub record HasMissed {D : Type 0} (stripe : ℕ) (busy : Busy) (before later : Pass T × D × EpochSeat) : Type 0 where
    pub stripe_is : busy.stripe ≡ stripe
    pub was_busy : WasBusy busy.stripe (known before.0) (known later.0)
    pub not_asked : later.1 ≡ before.1
    pub no_epoch : later.2 ≡ before.2

  module _ {D : Type 0} (failures : D → ℕ) where
    -- what the flusher's step came to for its pass, the device and the seat, where the pass waits for its stripe
    abbrev pub FlushedBy : (stripe : ℕ) → Result Bool Fault → (before later : Pass T × D × EpochSeat) → Type 0
    FlushedBy stripe result before later =
        HasFlushed (stripe ∷ []) stripe result (failures before.1) (failures later.1) (known before.0) (known later.0) (seats.known before.2) (seats.known later.2)

    -- the same with one try of the stripe
    abbrev pub TriedFlush : (stripe : ℕ) → Result (Result Bool Fault) Busy → (before later : Pass T × D × EpochSeat) → Type 0
    TriedFlush stripe result before later =
        IfOk result (λ done. HasFlushed [] stripe done (failures before.1) (failures later.1) (known before.0) (known later.0) (seats.known before.2) (seats.known later.2))

    -- what the cleaner's step came to, where the pass waits for its stripe
    abbrev pub CleanedBy : (lends : Type 0) (stripe : ℕ) → Result Bool Fault → (before later : Pass T × D × EpochSeat) → Type 0
    CleanedBy lends stripe result before later =
        HasCleaned lends (stripe ∷ []) stripe result (failures before.1) (failures later.1) (known before.0) (known later.0) (seats.known before.2) (seats.known later.2)

    -- the same with one try of the stripe
    abbrev pub TriedClean : (lends : Type 0) (stripe : ℕ) → Result (Result Bool Fault) Busy → (before later : Pass T × D × EpochSeat) → Type 0
    TriedClean lends stripe result before later =
        IfOk result
        (λ done. HasCleaned lends [] stripe done (failures before.1) (failures later.1) (known before.0) (known later.0) (seats.known before.2) (seats.known later.2))

    -- what a look of the cleaner came to
    abbrev pub LookedBy : (stripe : ℕ) → (before later : Pass T × D × EpochSeat) → Type 0
    LookedBy stripe before later =
        HasLooked (stripe ∷ []) (failures before.1) (failures later.1) (known before.0) (known later.0) (seats.known before.2) (seats.known later.2)

  -- what a flush that begins came to for its pass and the seat
  abbrev pub BegunBy : (stripe : ℕ) → Began → (before later : Pass T × EpochSeat) → Type 0
  BegunBy stripe began before later = HasBegun (stripe ∷ []) stripe began (known before.0) (known later.0) (seats.known before.1) (seats.known later.1)

  -- what the end of one came to
  abbrev pub EndedBy : (stripe : ℕ) → (done : Bool) → (before later : Pass T × EpochSeat) → Type 0
  EndedBy stripe done before later = HasEnded (stripe ∷ []) stripe done (known before.0) (known later.0) (seats.known before.1) (seats.known later.1)

-- what a round of the cleaner's step came to: an end of the step, or a look, where no page may be read while the stripe is held
abbrev pub TookRound : {R D : Type 0} → (failures : D → ℕ) (lends : Type 0) → Turn R → Result Round Fault → (before later : Pass (Shard R) × D × EpochSeat) → Type 0
TookRound failures lends turn result before later =
    MatchRound result (λ ended. CleanedBy failures lends turn.at.now.stripe ended before later)
    ((turn.reads ≡ false) × LookedBy failures turn.at.now.stripe before later)

-- why a page was not read: a call of the device has failed, or there was no memory
abbrev pub ReadFailed : Fault → (failed_before failed : ℕ) → Type 0
ReadFailed fault failed_before failed = MatchFault fault (failed ≡ failed_before) (failed ≡ failed_before + 1) ⊥
