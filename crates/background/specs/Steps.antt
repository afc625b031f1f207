-- What a step makes of the part of a stripe that is held, of the seat and of the device.
use Rattle.std.specs.Prelude.{ℕ, ◌≡◌, ◌+◌, ⊤, Bool, true, false, Option, Some, Result, Ok, Err, List, IfOk, IfErr, OnOk, OnErr}
use Rattle.std.specs.Bool.{OnTrue, OnFalse}
use Rattle.epoch.specs.declared.view.View.{View}
use Rattle.epoch.specs.declared.epochs.Epochs.{Epochs}
use Rattle.epoch.specs.declared.epochs.EpochSeat.{EpochSeat}
use Rattle.epoch.specs.Seats.{IsOutside, WasWorn, known}
use Rattle.words.specs.Store.{Bytes}
use Rattle.words.specs.declared.reply.Fault.{Fault}
use Rattle.words.specs.declared.reply.Fault.TheVariants as fault
use Rattle.gates.specs.declared.view.Work.TheVariants.{Clean, Evict, Flush}
use Rattle.gates.specs.declared.view.Look.{Look}
use Rattle.gates.specs.declared.view.Refused.{Refused}
use Rattle.gates.specs.Background.{AreRefused, IsIdle, IsSeen, IsSpent, IsStep}
use Rattle.gates.specs.Pages.{IsFull, Pages}
use Rattle.hybrid.specs.HybridLog.{Kept, receipt_at, with_dropped}
use Rattle.hybrid.specs.Staging.{IsMissing, StagedPage}
use Rattle.hybrid.specs.Weighing.{oldest_weight}
use Rattle.shards.specs.declared.cleaning.Stepped.{Stepped}
use Rattle.shards.specs.declared.cleaning.Stepped.TheVariants as stepped
use Rattle.shards.specs.declared.flushing.Unflushed.{Unflushed}
use Rattle.shards.specs.declared.shard.Shard.{Shard}
use Rattle.shards.specs.Cleaning.{MatchFault, MatchStepped}
use Rattle.shards.specs.Counted.{Counted, HasFlushed, HasLanded, IsFirstSealed, claimed, with_flight, without_flight}
use Rattle.shards.specs.Flushing.{HasFreedFirst, HasRefreed, MatchUnflushed}
use Rattle.shards.specs.Heard.{HasHeard, ToldWorn}
use Rattle.shards.specs.Receipts.{kept_by}
use Rattle.shards.specs.Rooms.{HasNoRoom}
use Rattle.shards.specs.Shards.{shard_counted, shard_log, shard_meaning, shard_pages}
use Rattle.background.specs.declared.cells.Began.{Began}
use Rattle.background.specs.declared.cells.Began.TheVariants as began
use Rattle.background.specs.declared.cells.Flight.{Flight}
use Rattle.background.specs.declared.cells.Landing.{Landing}
use Rattle.background.specs.declared.cells.Landing.TheVariants as landing
use Rattle.background.specs.declared.written.Written.{Written}
use Rattle.background.specs.Visits.{HasStepped}

-- What is held is held still: parts can be lent, and nothing differs but parts.
pub record IsStillHeld {P : Type 0} (is_open : P → Type 0) (keeps : P → P → Type 0) (before later : P) : Type 0 where
  pub open_still : is_open later
  pub kept : keeps before later

-- The seat is outside, and what it was told before stands.
pub record HasHeardOutside (epochs : Epochs) (before later : EpochSeat) : Type 0 where
  pub outside : IsOutside epochs later
  pub heard : HasHeard (known before) (known later)

-- by what began
abbrev pub MatchBegan : Began → (idle : Type 0) → (full : Refused → Type 0) → (sealed : Flight → Type 0) → Type 0
MatchBegan began.Idle idle full sealed = idle
MatchBegan (began.Full refused) idle full sealed = full refused
MatchBegan (began.Sealed flight) idle full sealed = sealed flight

-- what a step of the cleaner came to may be told of its part
abbrev pub MayTell : Result Stepped Fault → (was now : Pages) → Type 0
MayTell (Ok stepped.Done) was now = (refused : Refused) → IsStep (Clean refused) was now
MayTell (Ok (stepped.Idle refused)) was now = IsIdle (Clean refused) now × AreRefused (Clean refused) was now
MayTell (Ok (stepped.Full refused)) was now = IsFull now × IsSpent refused was now
MayTell (Ok (stepped.Cold number)) was now = Unit {0}
MayTell (Err fault.StoreFull) was now = Unit {0}
MayTell (Err fault.DeviceFault) was now = Unit {0}
MayTell (Err fault.OutOfMemory) was now = Unit {0}
MayTell (Err fault.CommitsWornOut) was now = Unit {0}

-- this holds of a page that is wanted
abbrev pub IfWanted : Result Stepped Fault → (cold : ℕ → Type 0) → Type 0
IfWanted came cold = IfOk came (λ step. MatchStepped step ⊤ (λ refused. ⊤) (λ refused. ⊤) cold)

-- this holds where the store is full
abbrev pub IfSpent : Result Stepped Fault → Type 0 → Type 0
IfSpent came spent = IfOk came (λ step. MatchStepped step ⊤ (λ refused. ⊤) (λ refused. spent) (λ number. ⊤))

module _ {R : Type 0} where
  -- by how a flight ended
  abbrev pub MatchLanding : Landing R → (landed : Type 0) → (again : Written R → Type 0) → (full : Refused → Type 0) → Type 0
  MatchLanding landing.Landed landed again full = landed
  MatchLanding (landing.Again written) landed again full = again written
  MatchLanding (landing.Full refused) landed again full = full refused

  -- What comes of a flight beside its part: a page that is to land in another hold is the one that was to land, and a retirement was refused only
  -- where the seat was told that the epoch word is worn out.
  abbrev pub EndedSo : Landing R → Written R → (heard hears : View) → Type 0
  EndedSo ended written heard hears = MatchLanding ended ⊤ (λ again. again ≡ written) (λ refused. ToldWorn refused heard hears)

  -- the part of this stripe keeps this receipt of the page of this number
  pub record Keeps (parts : ℕ → Option (Shard R)) (stripe number : ℕ) (kept : Kept) : Type 0 where
    pub part : Shard R
    pub there : parts stripe ≡ Some part
    pub has : receipt_at (shard_log part) number ≡ Some kept

  -- a step at this stripe has made this of its part
  abbrev pub SteppedAt : {P : Type 0} → (steady : Type 0) (part_of : P → ℕ → Option (Shard R)) (stripe : ℕ) (before later : P) (Says : (was now : Shard R) → Type 0) → Type 0
  SteppedAt steady part_of stripe before later Says = HasStepped (shard_meaning steady) stripe (part_of before) (part_of later) Says

  -- what was seen of a part, which is the same
  pub record SeenAt (look : Look) (was now : Shard R) : Type 0 where
    pub same : now ≡ was
    pub seen : IsSeen look (shard_pages now)

  -- the oldest resident page has left its frame, or has no receipt
  pub record EvictedAt (done : Bool) (was now : Shard R) : Type 0 where
    pub step : OnTrue done (IsStep Evict (shard_pages was) (shard_pages now))
    pub idle : OnFalse done (IsIdle Evict (shard_pages now))
    pub dropped : OnTrue done (shard_counted now ≡ record (shard_counted was) { log = with_dropped (shard_log was) })
    pub same : OnFalse done (now ≡ was)

  -- no place may be taken, and none can be released, but for what the epochs refused
  pub record IsSpentFull (refused : Refused) (was now : Shard R) : Type 0 where
    pub full : IsFull (shard_pages now)
    pub spent : IsSpent refused (shard_pages was) (shard_pages now)

  -- No page waits to be written, or no place may be taken, or the first page that waits was copied and a place is counted for it. Places may have been
  -- released before.
  abbrev pub BegunAt : Began → (page : Bytes) → (was now : Shard R) → Type 0
  BegunAt began.Idle page was now = IsIdle Flush (shard_pages now) × HasFreedFirst (shard_counted was) (shard_counted now)
  BegunAt (began.Full refused) page was now = IsSpentFull refused was now × HasFreedFirst (shard_counted was) (shard_counted now)
  BegunAt (began.Sealed flight) page was now =
      (mid : Counted) × HasFreedFirst (shard_counted was) mid × IsFirstSealed mid.log flight.number page × (shard_counted now ≡ with_flight mid)

  -- The receipt of a page that was written is kept, or its place unlinked; or places were released and one is counted for the page; or no place
  -- may be taken.
  abbrev pub EndedAt : (identity shown : R → Bytes) → Landing R → Written R → (was now : Shard R) → Type 0
  EndedAt identity shown landing.Landed written was now =
      IsStep Flush (shard_pages was) (shard_pages now)
      × HasLanded (claimed (shard_counted was)) written.flight.number written.page.now (kept_by identity shown written.receipt) (shard_counted now)
  EndedAt identity shown (landing.Again again) written was now = (mid : Counted) × HasRefreed (shard_counted was) mid × (shard_counted now ≡ claimed mid)
  EndedAt identity shown (landing.Full refused) written was now = IsSpentFull refused was now × HasRefreed (shard_counted was) (shard_counted now)

  -- a place is counted off
  abbrev pub FailedAt : (was now : Shard R) → Type 0
  FailedAt was now = shard_counted now ≡ without_flight (shard_counted was)

  -- The first page that waits was written and its receipt is kept, or none waits, or none was written. Places may have been released before.
  pub record FlushedAt (result : Result Bool Unflushed) (was now : Shard R) : Type 0 where
    pub step : IfOk result (λ done. OnTrue done (IsStep Flush (shard_pages was) (shard_pages now)))
    pub idle : IfOk result (λ done. OnFalse done (IsIdle Flush (shard_pages now)))
    pub full : IfErr result (λ fault. MatchUnflushed fault ⊤ (λ refused. IsSpentFull refused was now))
    pub flushed : IfOk result (λ done. OnTrue done ((mid : Counted) × HasFreedFirst (shard_counted was) mid × HasFlushed mid (shard_counted now)))
    pub waited : IfOk result (λ done. OnFalse done (HasFreedFirst (shard_counted was) (shard_counted now)))
    pub failed : OnErr result (HasFreedFirst (shard_counted was) (shard_counted now))

  -- What the cleaner's step came to may be told of the part; a page that is wanted is missing; and what lives in the oldest page has no room where
  -- that is why the store is full.
  pub record CleanedAt (steady : Type 0) (came : Result Stepped Fault) (staged : List StagedPage) (was now : Shard R) : Type 0 where
    pub told : MayTell came (shard_pages was) (shard_pages now)
    pub cold : IfWanted came (λ number. IsMissing (shard_log now) staged number)
    pub lacks : steady → IfSpent came (HasNoRoom (shard_log now) (oldest_weight (shard_log was)))

-- Why a page was not written: a call of the device has failed, or no place may be taken, and none has failed.
abbrev pub FailedSo : Result Bool Unflushed → (failed_before failed : ℕ) → (heard hears : View) → Type 0
FailedSo result failed_before failed heard hears =
    IfErr result (λ fault. MatchUnflushed fault (failed ≡ failed_before + 1) (λ refused. ToldWorn refused heard hears × (failed ≡ failed_before)))

module _ {D : Type 0} where
  -- What a step of the cleaner came to for the device and the seat. A retirement was refused only where the seat was told that the epoch word is
  -- worn out; a page is wanted only where it may not be read meanwhile, and receipts do not lend it; a call of the device has failed only where
  -- that is the fault.
  pub record CleanedSo (lends : Type 0) (failures : D → ℕ) (reads : Bool) (came : Result Stepped Fault) (before later : D × EpochSeat) : Type 0 where
    pub worn : IfOk came
        (λ step. MatchStepped step ⊤ (λ refused. refused.retire ≡ true → WasWorn (known before.1) (known later.1))
        (λ refused. ToldWorn refused (known before.1) (known later.1)) (λ number. ⊤))
    pub cold : IfWanted came (λ number. (reads ≡ false) × (lends → ⊥))
    pub fault : IfErr came (λ fault. MatchFault fault ((lends → ⊥) × (failures later.0 ≡ failures before.0)) (failures later.0 ≡ failures before.0 + 1) ⊥)
    pub no_fault : OnOk came (failures later.0 ≡ failures before.0)
