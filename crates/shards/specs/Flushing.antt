-- The flusher's step at a stripe, which releases places first where no place may be taken.
use Rattle.std.specs.Prelude.{ℕ, ◌≡◌, ◌⊎◌, ◌+◌, ⊤, Bool, true, false, List, Result, Ok, Err, IfOk, OnErr}
use Rattle.std.specs.Bool.{OnTrue, OnFalse}
use Rattle.epoch.specs.declared.epochs.EpochSeat.{EpochSeat}
use Rattle.epoch.specs.Seats.{known}
use Rattle.gates.specs.Background.{IsIdle, IsSpent, IsStep}
use Rattle.gates.specs.Pages as pages
use Rattle.gates.specs.Pages.{Pages}
use Rattle.gates.specs.declared.view.Refused.{Refused}
use Rattle.gates.specs.declared.view.Work.TheVariants.{Flush}
use Rattle.hybrid.specs.Reserving.{IsFull}
use Rattle.shards.specs.Cleaning.{AreSpent}
use Rattle.shards.specs.Counted.{Counted, HasFlushed, HasLanded, IsFirstSealed, claimed, with_flight}
use Rattle.shards.specs.Freeing.{HasFreed}
use Rattle.shards.specs.Heard.{ToldWorn}
use Rattle.shards.specs.Receipts.{kept_by}
use Rattle.shards.specs.Shards.{shard_counted, shard_pages}
use Rattle.shards.specs.declared.flushing.Beginning.{Beginning}
use Rattle.shards.specs.declared.flushing.Beginning.TheVariants as beginning
use Rattle.shards.specs.declared.flushing.Ending.{Ending}
use Rattle.shards.specs.declared.flushing.Ending.TheVariants as ending
use Rattle.shards.specs.declared.flushing.Flown.{Flown}
use Rattle.shards.specs.declared.flushing.Unflushed.{Unflushed}
use Rattle.shards.specs.declared.flushing.Unflushed.TheVariants as unflushed
use Rattle.shards.specs.declared.freeing.Freed.{Freed}
use Rattle.shards.specs.declared.shard.Shard.{Shard}

-- no place may be taken, and all places were released that could be
pub record HasRefreed (old new : Counted) : Type 0 where
  pub full : IsFull old.log
  pub freed : Freed
  pub has : HasFreed old freed new

-- the same, or nothing changed
abbrev pub HasFreedFirst : (old new : Counted) → Type 0
HasFreedFirst old new = (new ≡ old) ⊎ HasRefreed old new

-- by how a flush began
abbrev pub MatchBeginning : Beginning → (idle : Type 0) → (full : Refused → Type 0) → (sealed : ℕ → Type 0) → Type 0
MatchBeginning beginning.Idle idle full sealed = idle
MatchBeginning (beginning.Full refused) idle full sealed = full refused
MatchBeginning (beginning.Sealed number) idle full sealed = sealed number

-- by how one ended
abbrev pub MatchEnding : {R : Type 0} → Ending R → (landed : Type 0) → (again : R → Type 0) → (full : Refused → Type 0) → Type 0
MatchEnding ending.Landed landed again full = landed
MatchEnding (ending.Again receipt) landed again full = again receipt
MatchEnding (ending.Full refused) landed again full = full refused

-- by why a page was not written
abbrev pub MatchUnflushed : Unflushed → (device : Type 0) → (full : Refused → Type 0) → Type 0
MatchUnflushed unflushed.DeviceFault device full = device
MatchUnflushed (unflushed.Full refused) device full = full refused

-- How often the device was asked to write: once for a page, and else not.
abbrev pub HasWritten : Result Bool Unflushed → (before writes : ℕ) → Type 0
HasWritten (Ok true) before writes = writes ≡ before + 1
HasWritten (Ok false) before writes = writes ≡ before
HasWritten (Err unflushed.DeviceFault) before writes = writes ≡ before + 1
HasWritten (Err (unflushed.Full refused)) before writes = writes ≡ before

-- No page waits to be written, or no place may be taken, or the first page that waits was copied and a place is counted for it. Places may have been
-- released before.
abbrev pub BeganAt : Beginning → (page : List ℕ) (was now : Counted) → Type 0
BeganAt beginning page was now =
    MatchBeginning beginning (HasFreedFirst was now) (λ refused. HasFreedFirst was now)
    (λ number. (mid : Counted) × HasFreedFirst was mid × IsFirstSealed mid.log number page × (now ≡ with_flight mid))

-- what may be told of it
abbrev pub BeganTold : Beginning → (was now : Pages) → Type 0
BeganTold beginning was now = MatchBeginning beginning (IsIdle Flush now) (λ refused. AreSpent refused was now) (λ number. ⊤)

-- the first page that waits was written and its receipt is kept; places may have been released before
abbrev pub FlushesFirst : (was now : Counted) → Type 0
FlushesFirst was now = (mid : Counted) × HasFreedFirst was mid × HasFlushed mid now

module _ {R : Type 0} where
  -- The receipt of a page that was written is kept, or its place unlinked; or places were released and one is counted for the page; or no place may
  -- be taken.
  abbrev pub EndsAt : (identity shown : R → List ℕ) → Ending R → Flown R → (was now : Counted) → Type 0
  EndsAt identity shown ending flown was now =
      MatchEnding ending (HasLanded (claimed was) flown.number flown.page.now (kept_by identity shown flown.receipt) now)
      (λ again. (again ≡ flown.receipt) × ((mid : Counted) × HasRefreed was mid × (now ≡ claimed mid))) (λ refused. HasRefreed was now)

  -- what may be told of it
  abbrev pub EndedTold : Ending R → (was now : Pages) → Type 0
  EndedTold ending was now = MatchEnding ending (IsStep Flush was now) (λ again. ⊤) (λ refused. AreSpent refused was now)

  -- The first page that waits was written and its receipt is kept, which is a step, or none waits; or none was written. Places may have been released
  -- before.
  pub record Flushes (result : Result Bool Unflushed) (was now : Shard R) : Type 0 where
    pub flushed : IfOk result (λ done. OnTrue done (FlushesFirst (shard_counted was) (shard_counted now)))
    pub waited : IfOk result (λ done. OnFalse done (HasFreedFirst (shard_counted was) (shard_counted now)))
    pub failed : OnErr result (HasFreedFirst (shard_counted was) (shard_counted now))
    pub done : IfOk result (λ done. OnTrue done (IsStep Flush (shard_pages was) (shard_pages now)))
    pub idle : IfOk result (λ done. OnFalse done (IsIdle Flush (shard_pages now)))

  -- No place may be taken for a page, and none can be released, but for what the epochs refused: a retirement only where the seat was told that the
  -- epoch word is worn out. No call of the device has failed.
  pub record HasNoPlace {D : Type 0} (failures : D → ℕ) (refused : Refused) (before later : Shard R × D × EpochSeat) : Type 0 where
    pub full : pages.IsFull (shard_pages later.0)
    pub spent : IsSpent refused (shard_pages before.0) (shard_pages later.0)
    pub worn : ToldWorn refused (known before.2) (known later.2)
    pub no_fault : failures later.1 ≡ failures before.1

  -- why a page was not written: a call of the device has failed; or no place may be taken for it
  abbrev pub FlushFailed : {D : Type 0} → (failures : D → ℕ) → Unflushed → (before later : Shard R × D × EpochSeat) → Type 0
  FlushFailed failures fault before later =
      MatchUnflushed fault (failures later.1 ≡ failures before.1 + 1) (λ refused. HasNoPlace failures refused before later)
