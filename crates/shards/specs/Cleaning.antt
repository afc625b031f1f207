-- The cleaner's step at a stripe.
use Rattle.std.specs.Prelude.{ℕ, ◌≡◌, ◌⊎◌, ◌+◌, ◌<◌, ◌≤◌, ⊤, Bool, true, false, List, [], ◌∷◌, ◌++◌, length, None, Some, Result, IfErr, OnOk, if◌then◌else◌}
use Rattle.epoch.specs.declared.view.View.{View}
use Rattle.epoch.specs.declared.epochs.EpochSeat.{EpochSeat}
use Rattle.epoch.specs.Seats.{WasWorn, known}
use Rattle.words.specs.Store.{Bytes}
use Rattle.words.specs.declared.reply.Fault.{Fault}
use Rattle.words.specs.declared.reply.Fault.TheVariants as fault
use Rattle.gates.specs.Background.{AreRaised, AreRefused, IsIdle, IsSpent, IsStep}
use Rattle.gates.specs.Pages.{IsFull, Pages, total}
use Rattle.gates.specs.declared.view.Refused.{Refused}
use Rattle.gates.specs.declared.view.Work.TheVariants.{Clean}
use Rattle.hybrid.specs.HybridLog.{HasRoom, HybridLog, Kept, log_of, receipt_of, tail_bytes}
use Rattle.hybrid.specs.Staging.{AreRight, IsMissing, StagedPage}
use Rattle.hybrid.specs.Weighing.{MatchWeighed, oldest_weight}
use Rattle.hybrid.specs.declared.stripe.TheConstants.{CLEAN_WEIGHT}
use Rattle.hybrid.specs.declared.stripe.clean.Weighed.{Weighed}
use Rattle.shards.specs.Counted.{Counted, HasUnlinked, MatchCleaning, places_waiting, waiting_of}
use Rattle.shards.specs.Freeing.{HasWaited}
use Rattle.shards.specs.Heard.{ToldWorn}
use Rattle.shards.specs.Logs.{IsTooHeavy}
use Rattle.shards.specs.Rooms.{HasNoRoom}
use Rattle.shards.specs.Shards.{shard_counted, shard_log, shard_marks, shard_pages, shard_store}
use Rattle.shards.specs.declared.cleaning.Made.{Made}
use Rattle.shards.specs.declared.cleaning.Made.TheVariants as made
use Rattle.shards.specs.declared.cleaning.Stepped.{Stepped}
use Rattle.shards.specs.declared.cleaning.Stepped.TheVariants as stepped
use Rattle.shards.specs.declared.counted.Cleaning.{Cleaning}
use Rattle.shards.specs.declared.shard.Shard.{Shard}

-- by what the step came to
abbrev pub MatchStepped : Stepped → (done : Type 0) → (idle : Refused → Type 0) → (full : Refused → Type 0) → (cold : ℕ → Type 0) → Type 0
MatchStepped stepped.Done done idle full cold = done
MatchStepped (stepped.Idle refused) done idle full cold = idle refused
MatchStepped (stepped.Full refused) done idle full cold = full refused
MatchStepped (stepped.Cold number) done idle full cold = cold number

-- by what came of room that was to be made
abbrev pub MatchMade : Made → (room : Type 0) → (full : Refused → Type 0) → Type 0
MatchMade made.Room room full = room
MatchMade (made.Full refused) room full = full refused

-- by why it failed; it makes no commit
abbrev pub MatchFault : Fault → (memory device full : Type 0) → Type 0
MatchFault fault.OutOfMemory memory device full = memory
MatchFault fault.DeviceFault memory device full = device
MatchFault fault.StoreFull memory device full = full
MatchFault fault.CommitsWornOut memory device full = ⊥

-- the page of this number was staged by the receipt that is kept of it
pub record IsFetched (p : HybridLog) (number : ℕ) (old new : List StagedPage) : Type 0 where
  pub kept : Kept
  pub has : receipt_of p number ≡ Some kept
  pub page : Bytes
  pub staged : new ≡ old ++ record { kept = kept; page = page; piece = None } ∷ []

-- what waits but for the unlinked receipts is the same
pub record SameWaiting (old new : Counted) : Type 0 where
  pub in_flight : new.in_flight ≡ old.in_flight
  pub retired : new.retired ≡ old.retired
  pub drained : new.drained ≡ old.drained
  pub refused : new.refused ≡ old.refused
  pub worn : new.worn ≡ old.worn

-- Room was made: pages may have left their frames, and places that wait may have been released.
pub record HasMadeRoom (old new : Counted) : Type 0 where
  pub oldest : new.log.oldest ≡ old.log.oldest
  pub first : old.log.resident.oldest ≤ new.log.resident.oldest
  pub in_flight : new.in_flight ≡ old.in_flight
  pub places : places_waiting (waiting_of new) ≤ places_waiting (waiting_of old)
  pub waited : HasWaited (waiting_of old) (waiting_of new)

-- The records are the same, the tail page has as many bytes, and the oldest page is the same; so is its receipt, if it has one.
pub record KeepsRecords (old new : HybridLog) : Type 0 where
  pub records : log_of new ≡ log_of old
  pub tail : tail_bytes new ≡ tail_bytes old
  pub oldest : new.oldest ≡ old.oldest
  pub kept : (kept : Kept) → receipt_of old old.oldest ≡ Some kept → receipt_of new new.oldest ≡ Some kept

-- The oldest page has left the log, and its receipt is the newest of the unlinked ones. Others may have been retired.
pub record HasUnlinkedPage (old new : Counted) : Type 0 where
  pub left : new.log.oldest ≡ old.log.oldest + 1
  pub places : places_waiting (waiting_of new) ≤ places_waiting (waiting_of old) + 1
  pub others : List Kept
  pub kept : Kept
  pub unlinked : new.unlinked ≡ others ++ kept ∷ []

-- the oldest page is resident, and what waits is the same
pub record IsResidentStill (old new : Counted) : Type 0 where
  pub resident : new.log.resident.oldest ≡ new.log.oldest
  pub waiting : SameWaiting old new
  pub unlinked : new.unlinked ≡ old.unlinked

-- No retired place was drained: there is none, or the drain of the oldest was refused, since a word that was read has blocked it. Nothing else changed,
-- and no count is less.
pub record WasNotDrained (refused : Bool) (old new : Counted) : Type 0 where
  pub same : new ≡ record old { refused = new.refused }
  pub retired : (new.retired ≡ []) ⊎ (refused ≡ true)
  pub more : refused ≡ true → total old.refused < total new.refused
  pub counts : AreRaised 0 [] old.refused new.refused

-- No unlinked place was retired: there is none, or that was refused, since the epoch word was read as worn out. Nothing else changed.
pub record WasNotRetired (refused : Bool) (old new : Counted) : Type 0 where
  pub same : new ≡ record old { worn = new.worn }
  pub unlinked : (new.unlinked ≡ []) ⊎ (refused ≡ true)
  pub worn : new.worn ≡ (if refused then true else old.worn)

-- WHAT IS TOLD OF A STEP

-- no place may be taken, and none can be released, but for what the epochs refused
abbrev pub AreSpent : Refused → (was now : Pages) → Type 0
AreSpent refused was now = IsFull now × IsSpent refused was now

-- what a step of the cleaner came to may be told of the pages
abbrev pub MayBeTold : Stepped → (was now : Pages) → Type 0
MayBeTold step was now =
    MatchStepped step ((refused : Refused) → IsStep (Clean refused) was now) (λ refused. IsIdle (Clean refused) now × AreRefused (Clean refused) was now)
    (λ refused. AreSpent refused was now) (λ number. ⊤)

-- what the seat was told, where there was nothing to do and where the store is full
abbrev pub StepWorn : Stepped → (heard hears : View) → Type 0
StepWorn step heard hears = MatchStepped step ⊤ (λ refused. refused.retire ≡ true → WasWorn heard hears) (λ refused. ToldWorn refused heard hears) (λ number. ⊤)

-- the same of a step at the oldest page
abbrev pub PageWorn : Stepped → (before later : EpochSeat) → Type 0
PageWorn step before later = MatchStepped step ⊤ (λ told. later ≡ before) (λ told. ToldWorn told (known before) (known later)) (λ number. ⊤)

-- the same where its records were to be copied
abbrev pub SpentWorn : Stepped → (heard hears : View) → Type 0
SpentWorn step heard hears = MatchStepped step ⊤ (λ told. ⊤) (λ told. ToldWorn told heard hears) (λ number. ⊤)

-- this holds of a page that is wanted
abbrev pub IfCold : Stepped → (wanted : ℕ → Type 0) → Type 0
IfCold step wanted = MatchStepped step ⊤ (λ refused. ⊤) (λ refused. ⊤) wanted

-- where a drained place is counted off, it was given back to the device
abbrev pub IsGivenBack : (was now : Counted) (released_before released : ℕ) → Type 0
IsGivenBack was now released_before released = length now.drained + 1 ≡ length was.drained → released ≡ released_before + 1

-- why a page was not read: there was no memory, or a call of the device has failed
abbrev pub ReadFailed : Fault → (failed_before failed : ℕ) → Type 0
ReadFailed fault failed_before failed = MatchFault fault (failed ≡ failed_before) (failed ≡ failed_before + 1) ⊥

-- why a step of the cleaner failed: there was no memory for a page, for which this holds, or a call of the device has failed
abbrev pub StepFailed : (unlent : Type 0) → Fault → (failed_before failed : ℕ) → Type 0
StepFailed unlent fault failed_before failed = MatchFault fault (unlent × (failed ≡ failed_before)) (failed ≡ failed_before + 1) ⊥

-- A call of the device has failed only where that is the fault. Memory was refused only where `unlent` holds.
pub record FailsSo {A : Type 0} (unlent : Type 0) (result : Result A Fault) (failed_before failed : ℕ) : Type 0 where
  pub fault : IfErr result (λ fault. StepFailed unlent fault failed_before failed)
  pub no_fault : OnOk result (failed ≡ failed_before)

-- WHAT THE OLDEST PAGE WEIGHS

-- by what the oldest page weighs: that, where it has left its frames; else it is resident
abbrev pub HasWeighed : Weighed → (wanted : ℕ → Type 0) → HybridLog → Type 0
HasWeighed weighed wanted log =
    MatchWeighed weighed (λ weight. (weight ≤ CLEAN_WEIGHT) × (log.oldest < log.resident.oldest)) wanted (log.resident.oldest ≡ log.oldest)

-- it weighs what lives in it
abbrev pub WeighsOldest : Weighed → HybridLog → Type 0
WeighsOldest weighed log = MatchWeighed weighed (λ weight. weight ≡ oldest_weight log) (λ number. ⊤) ⊤

-- its receipt is kept
abbrev pub KeepsOldest : Weighed → HybridLog → Type 0
KeepsOldest weighed log = MatchWeighed weighed (λ weight. (kept : Kept) × (receipt_of log log.oldest ≡ Some kept)) (λ number. ⊤) ⊤

-- The oldest page has left its frame, its receipt is kept, and it was weighed: it weighs what lives in it, where what is staged is right.
pub record IsWeighed (steady : Type 0) (staged : List StagedPage) (weight : ℕ) (log : HybridLog) : Type 0 where
  pub light : weight ≤ CLEAN_WEIGHT
  pub weighs : steady → AreRight staged → weight ≡ oldest_weight log
  pub kept : Kept
  pub has : receipt_of log log.oldest ≡ Some kept
  pub left : log.oldest < log.resident.oldest

-- WHAT A STEP MAKES OF A STRIPE

module _ {R : Type 0} where
  -- What keys have is the same, over a steady device where what is staged is right, and that stays right. Marks are the same.
  pub record KeepsMeaning (steady : Type 0) (before later : Shard R × List StagedPage) : Type 0 where
    pub right : steady → AreRight before.1 → AreRight later.1
    pub store : steady → AreRight before.1 → (key : Bytes) → shard_store later.0 key ≡ shard_store before.0 key
    pub marks : shard_marks later.0 ≡ shard_marks before.0

  -- A page is missing, which may not be read meanwhile, and which receipts do not lend.
  pub record IsWanted (reads : Bool) (lends : Type 0) (shard : Shard R) (staged : List StagedPage) (number : ℕ) : Type 0 where
    pub unread : reads ≡ false
    pub unlent : lends → ⊥
    pub missing : IsMissing (shard_log shard) staged number

  -- what lives in the oldest page has no room, where that is why the store is full
  abbrev pub LacksPlaces : Stepped → (was now : Shard R) → Type 0
  LacksPlaces step was now = MatchStepped step ⊤ (λ told. ⊤) (λ told. HasNoRoom (shard_log now) (oldest_weight (shard_log was))) (λ number. ⊤)

  -- the oldest page has left the log, or is resident, or no place may be taken, or a page is wanted
  abbrev pub HasCleaned : (reads : Bool) (lends : Type 0) → Stepped → (refused : Refused) (staged : List StagedPage) (was now : Shard R) → Type 0
  HasCleaned reads lends step refused staged was now =
      MatchStepped step (HasUnlinkedPage (shard_counted was) (shard_counted now))
      (λ told. (told ≡ refused) × IsResidentStill (shard_counted was) (shard_counted now)) (λ told. AreSpent told (shard_pages was) (shard_pages now))
      (IsWanted reads lends now staged)

  -- the same of one that is not resident
  abbrev pub HasUnlinkedOldest : (reads : Bool) (lends : Type 0) → Stepped → (staged : List StagedPage) (was now : Shard R) → Type 0
  HasUnlinkedOldest reads lends step staged was now =
      MatchStepped step (HasUnlinkedPage (shard_counted was) (shard_counted now)) (λ told. ⊥) (λ told. AreSpent told (shard_pages was) (shard_pages now))
      (IsWanted reads lends now staged)

  -- No place may be taken, and none can be released, but for what the epochs refused: a retirement only where the seat was told that the epoch word
  -- is worn out. There is no room for this weight.
  pub record IsSpentFor (refused : Refused) (weight : ℕ) (heard hears : View) (was now : Shard R) : Type 0 where
    pub full : IsFull (shard_pages now)
    pub spent : IsSpent refused (shard_pages was) (shard_pages now)
    pub worn : ToldWorn refused heard hears
    pub lacks : HasNoRoom (shard_log now) weight

  -- there is room for this weight, or no place may be taken
  abbrev pub HasMade : Made → (weight : ℕ) (heard hears : View) (was now : Shard R) → Type 0
  HasMade made weight heard hears was now = MatchMade made (HasRoom (shard_log now) weight) (λ refused. IsSpentFor refused weight heard hears was now)

  -- the oldest page has left the log, or nothing changed: a page is wanted, what lives in it is too heavy, or it is resident
  abbrev pub UnlinksOldest : (reads : Bool) (lends : Type 0) → Cleaning → (weight : ℕ) (staged : List StagedPage) (was now : Shard R) → Type 0
  UnlinksOldest reads lends cleaning weight staged was now =
      MatchCleaning cleaning (HasUnlinked (shard_counted was) (shard_counted now) weight)
      (λ number. (now ≡ was) × IsWanted reads lends now staged number) (λ heavy. (now ≡ was) × IsTooHeavy weight heavy)
      ((now ≡ was) × ((shard_log now).resident.oldest ≡ (shard_log now).oldest))
