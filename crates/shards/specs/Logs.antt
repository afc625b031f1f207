-- What a step makes of a log, with what becomes of its places on the device.
use Rattle.std.specs.Prelude.{ℕ, ◌≡◌, ◌+◌, ◌-◌, ◌<◌, ◌≤◌, ⊤, true, false, List, [], Option, Result, IfErr, OnOk}
use Rattle.std.specs.Map.{update}
use Rattle.std.specs.Str.{bytes_eq}
use Rattle.epoch.specs.declared.view.View.{View}
use Rattle.epoch.specs.Seats.{AdvancedPast, WasWorn}
use Rattle.hybrid.specs.HybridLog.{HasRoom, HybridLog, IsSealed, SameContents, empty_log, log_of, tail_bytes}
use Rattle.hybrid.specs.Log.{contents}
use Rattle.hybrid.specs.Reserving as reserving
use Rattle.hybrid.specs.Reserving.{IsFull}
use Rattle.hybrid.specs.Shedding.{HasShed}
use Rattle.hybrid.specs.Staging.{IsCleaned}
use Rattle.hybrid.specs.Weighing.{oldest_weight}
use Rattle.hybrid.specs.declared.stripe.TheConstants.{CLEAN_WEIGHT}
use Rattle.hybrid.specs.declared.stripe.room.Fault.{Fault as Unreserved}
use Rattle.words.specs.declared.limits.Limits.{Limits}
use Rattle.shards.specs.declared.counted.Begun.{Begun}
use Rattle.shards.specs.declared.counted.Cleaning.{Cleaning}
use Rattle.shards.specs.declared.counted.Moved.{Moved}
use Rattle.shards.specs.Counted.{Counted, HasDrained, HasRetired, IsFirstSealed, MatchBegun, MatchCleaning, MatchMoved, WasRefused, waiting_of}
use Rattle.shards.specs.Receipts.{kept_by}

-- an empty log of these limits
abbrev pub log_by : Limits → HybridLog
log_by limits = empty_log limits.stripes limits.buckets limits.frames limits.places

-- a log beside which nothing is counted
abbrev pub counted_alone : HybridLog → Counted
counted_alone log = record { log = log; in_flight = 0; unlinked = []; retired = []; drained = []; refused = []; worn = false }

-- what lives in the oldest page is too heavy for this room
abbrev pub IsTooHeavy : (room weight : ℕ) → Type 0
IsTooHeavy room weight = (room < weight) × (weight ≤ CLEAN_WEIGHT)

-- what is too heavy is what lives in the oldest page
abbrev pub HeavyIsOldest : Cleaning → HybridLog → Type 0
HeavyIsOldest cleaning log = MatchCleaning cleaning ⊤ (λ number. ⊤) (λ heavy. heavy ≡ oldest_weight log) ⊤

-- the oldest page has left the log, and what lives in it was added at the tail
abbrev pub CleansOldest : Cleaning → (was now : HybridLog) → Type 0
CleansOldest cleaning was now = MatchCleaning cleaning (IsCleaned was now) (λ number. ⊤) (λ weight. ⊤) ⊤

-- What the log has is the same; where the oldest page has left it, what lives in it was added at the tail; what is too heavy is what lives in it.
pub record CleansRightly (cleaning : Cleaning) (was now : HybridLog) : Type 0 where
  pub same : SameContents was now
  pub added : CleansOldest cleaning was now
  pub weighed : HeavyIsOldest cleaning was

-- the oldest page is resident, or it is not
abbrev pub OldestLies : Cleaning → HybridLog → Type 0
OldestLies cleaning log = MatchCleaning cleaning ⊤ (λ number. log.oldest < log.resident.oldest) (λ weight. log.oldest < log.resident.oldest) (log.resident.oldest ≡ log.oldest)

-- why room was not made: a call of the device has failed, or the log is full, and none has failed
abbrev pub ReserveFailed : Unreserved → (log : HybridLog) (failed_before failed : ℕ) → Type 0
ReserveFailed fault log failed_before failed = reserving.MatchFault fault (failed ≡ failed_before + 1) (IsFull log × (failed ≡ failed_before))

-- A call of the device has failed only where that is the fault.
pub record FailsToReserve {A : Type 0} (result : Result A Unreserved) (log : HybridLog) (failed_before failed : ℕ) : Type 0 where
  pub fault : IfErr result (λ fault. ReserveFailed fault log failed_before failed)
  pub no_fault : OnOk result (failed ≡ failed_before)

-- The records, the bytes of the tail page and what stands beside the log are the same.
pub record KeepsContent (was now : Counted) : Type 0 where
  pub records : log_of now.log ≡ log_of was.log
  pub tail : tail_bytes now.log ≡ tail_bytes was.log
  pub waits : waiting_of now ≡ waiting_of was

-- where no call of the device has failed, pages have left their frames, and these alone were written
abbrev pub HasShedSo : {R D : Type 0} → (failures : D → ℕ) (wrote : D → List ℕ → R → D → Type 0) (identity shown : R → List ℕ) (before later : HybridLog × D) → Type 0
HasShedSo failures wrote identity shown before later = failures later.1 ≡ failures before.1 → HasShed wrote (kept_by identity shown) before.0 before.1 later.0 later.1

-- one key has this value, and others what they had
abbrev pub SetsKey : (key : List ℕ) (value : Option (List ℕ)) (was now : HybridLog) → Type 0
SetsKey key value was now = (other : List ℕ) → contents (log_of now) other ≡ update bytes_eq (contents (log_of was)) key value other

-- of the room that there was, this weight was taken
abbrev pub TakesRoom : (weight : ℕ) (was now : HybridLog) → Type 0
TakesRoom weight was now = (more : ℕ) → weight ≤ more → HasRoom was more → HasRoom now (more - weight)

-- no page waits to be written, or the log is full, or the first that waits was copied
abbrev pub BeginsAt : Begun → HybridLog → (page : List ℕ) → Type 0
BeginsAt begun log page = MatchBegun begun ((number : ℕ) → IsSealed log number → ⊥) (IsFull log) (λ number. IsFirstSealed log number page)

-- the oldest unlinked receipt was retired, or there is none, or that was refused
abbrev pub RetiresOldest : Moved → (was now : Counted) → Type 0
RetiresOldest moved was now = MatchMoved moved (HasRetired was now) ((was.unlinked ≡ []) × (now ≡ was)) (now ≡ record was { worn = true })

-- what the seat was told of it
abbrev pub RetiresAs : {S : Type 0} → (knows : S → View) → Moved → (before later : S) → Type 0
RetiresAs knows moved before later = MatchMoved moved ((e : ℕ) × AdvancedPast e (knows before) (knows later)) (later ≡ before) (WasWorn (knows before) (knows later))

-- the oldest retired receipt was drained, or there is none, or that was refused
abbrev pub DrainsOldest : Moved → (was now : Counted) → Type 0
DrainsOldest moved was now = MatchMoved moved (HasDrained was now) ((was.retired ≡ []) × (now ≡ was)) (WasRefused was now)
