-- A stripe's log with what stands beside it, as the plain log that it stands for.
use Rattle.std.specs.Prelude.{ℕ, ◌≡◌, ◌+◌, ◌-◌, ◌<◌, ◌≤◌, Bool, true, false, not, ◌&&◌, List, [], ◌∷◌, ◌++◌, map, get_or, length, Option, Some, None, is_some}
use Rattle.words.specs.Store.{Bytes}
use Rattle.frames.specs.Resident.{page_of, next_number, first_mutable}
use Rattle.hybrid.specs.HybridLog.{HybridLog, Kept, log_of}
use Rattle.shards.specs.Counted.{Counted}
use Rattle.world_model.specs.Logs.{LogState, Stamped, unreleased, is_full, oldest_sealed, with_copy, with_installed, place_at, dropped}
use Rattle.world_model.specs.Logs as logs
use Rattle.world_model.specs.Enabled.{has_none}
use Rattle.world_log.specs.Places.{Receipt, Shelves, view, with_shelf, with_shown}
use Rattle.world_log.specs.declared.queues.Queues.{Queues}
use Rattle.world_log.specs.declared.queues.Flushing.{Flushing}
use Rattle.world_log.specs.declared.queues.Flushing.TheVariants as has

-- What stands beside a stripe's log: what the flusher has of it, and the receipts of pages that have left it, the oldest first; the numbers
-- are the epochs of stamps.
pub record Beside : Type 0 where
  pub flushing : Flushing
  pub unlinked : List Kept
  pub retired : List (Receipt × ℕ)
  pub drained : List (Receipt × ℕ)

-- the unlinked ones are the shard's, and all others the world's
abbrev pub beside_of : Counted → Queues → Beside
beside_of c queues = record { flushing = queues.flushing; unlinked = c.unlinked; retired = queues.retired.items; drained = queues.drained.items }

-- what the flusher has, by numbers
abbrev pub flushing_of : Flushing → logs.Flushing
flushing_of has.Nothing = logs.Nothing
flushing_of (has.Copied number page) = logs.Copied number
flushing_of (has.Wrote number page receipt) = logs.Wrote number receipt.place

abbrev pub is_idle : Flushing → Bool
is_idle flushing = has_none (flushing_of flushing)

-- the place of a receipt
abbrev pub place_of : Kept → ℕ
place_of kept = get_or kept.identity 0 0

-- the place of a receipt that is kept
abbrev pub place_kept : Option Kept → Option ℕ
place_kept None = None
place_kept (Some kept) = Some (place_of kept)

abbrev pub place_stamped : Receipt × ℕ → Stamped
place_stamped one = record { place = one.0.place; epoch = one.1 }

-- the plain log
abbrev pub log_state : HybridLog → Beside → LogState
log_state p beside = record {
  oldest = p.oldest;
  first = p.resident.oldest;
  kept = map place_kept p.kept;
  flushing = flushing_of beside.flushing;
  unlinked = map place_of beside.unlinked;
  retired = map place_stamped beside.retired;
  drained = map place_stamped beside.drained;
}

-- the flusher's page is read-only, its copy is the page still, while that is resident, and its receipt shows the copy
abbrev pub IsFaithful : HybridLog → Flushing → Type 0
IsFaithful p has.Nothing = Unit {0}
IsFaithful p (has.Copied number page) =
    (number < first_mutable p.resident) × (p.resident.oldest ≤ number → page.value ≡ page_of p.resident number)
IsFaithful p (has.Wrote number page receipt) =
    (number < first_mutable p.resident) × (p.resident.oldest ≤ number → page.value ≡ page_of p.resident number) × (receipt.page ≡ page.value)

-- its pages are numbered from the oldest on
pub record IsNumbered (p : HybridLog) : Type 0 where
  pub live : p.oldest ≤ p.resident.oldest
  pub numbered : p.oldest + length p.kept ≡ next_number p.resident

-- how many places the flusher has
abbrev pub count_flushing : Flushing → ℕ
count_flushing has.Nothing = 0
count_flushing (has.Copied number page) = 1
count_flushing (has.Wrote number page receipt) = 1

-- how many the world has of a stripe: these are in flight for its shard
abbrev pub flights : Queues → ℕ
flights queues = count_flushing queues.flushing + length queues.retired.items + length queues.drained.items

-- A log agrees with what stands beside it: its count of places is that of the lists, the places in flight are those that the world has, the shard
-- retires and drains none itself, and the flusher's copy is right.
pub record Agrees (c : Counted) (queues : Queues) : Type 0 where
  pub counted : c.log.unreleased ≡ unreleased (log_state c.log (beside_of c queues))
  pub in_flight : c.in_flight ≡ flights queues
  pub retired : c.retired ≡ []
  pub drained : c.drained ≡ []
  pub faithful : IsFaithful c.log queues.flushing

-- a log has so many frames and places as it had
pub record IsAlike (old new : HybridLog) : Type 0 where
  pub frames : new.resident.frames ≡ old.resident.frames
  pub places : new.places ≡ old.places

-- a log has the records that it had
abbrev pub SameLog : HybridLog → HybridLog → Type 0
SameLog old new = log_of new ≡ log_of old

-- the step was done, which was enabled, or it was not and nothing has changed
pub record Did (may : Bool) (step : LogState → LogState) (old : HybridLog) (before : Beside) (new : HybridLog) (after : Beside) : Type 0 where
  pub enabled : may ≡ true
  pub done : log_state new after ≡ step (log_state old before)

pub record DidNot (may : Bool) (old : HybridLog) (before : Beside) (new : HybridLog) (after : Beside) : Type 0 where
  pub enabled : may ≡ false
  pub log : new ≡ old
  pub beside : after ≡ before

abbrev pub Does : Bool → (may : Bool) → (LogState → LogState) → HybridLog → Beside → HybridLog → Beside → Type 0
Does true may step old before new after = Did may step old before new after
Does false may step old before new after = DidNot may old before new after

abbrev pub may_copy : HybridLog → Beside → Bool
may_copy p beside =
    let log : LogState = log_state p beside in
    has_none log.flushing && (is_some (oldest_sealed p.resident.frames log) && not (is_full p.places log))

abbrev pub DoesCopy : Bool → HybridLog → Beside → HybridLog → Beside → Type 0
DoesCopy done old before new after = Does done (may_copy old before) (with_copy old.resident.frames) old before new after

-- THE OTHER STEPS, BY WHAT STANDS BESIDE THE LOG

-- the flusher wrote the page that it copied to the next place
abbrev pub IsWritten : Flushing → Shelves → Flushing → Shelves → Type 0
IsWritten (has.Copied number page) old after new =
    (after ≡ has.Wrote number page (record { place = length old.shelves; page = page.value; released = false })) × (new ≡ with_shelf old page.value)
IsWritten _ old after new = ⊥

abbrev pub has_copy : Flushing → Bool
has_copy has.Nothing = false
has_copy (has.Copied number page) = true
has_copy (has.Wrote number page receipt) = false

abbrev pub has_receipt : Flushing → Bool
has_receipt has.Nothing = false
has_receipt (has.Copied number page) = false
has_receipt (has.Wrote number page receipt) = true

abbrev pub DoesWrite : Bool → Queues → Shelves → Queues → Shelves → Type 0
DoesWrite true before old after new =
    IsWritten before.flushing old after.flushing new
    × (after ≡ record before { flushing = after.flushing })
DoesWrite false before old after new = (has_copy before.flushing ≡ false) × (after ≡ before) × (new ≡ old)

abbrev pub DoesInstall : Bool → HybridLog → Beside → HybridLog → Beside → Type 0
DoesInstall done old before new after = Does done (has_receipt before.flushing) (with_installed old.resident.frames) old before new after

-- this receipt was unlinked
abbrev pub IsUnlinkedIn : Kept → Beside → Beside → Type 0
IsUnlinkedIn kept before after = after ≡ record before { unlinked = before.unlinked ++ kept ∷ [] }

abbrev pub DoesDrop : Bool → HybridLog → Beside → HybridLog → Beside → Type 0
DoesDrop done old before new after =
    let log : LogState = log_state old before in
    Does done (is_some (place_at log log.first)) dropped old before new after

abbrev pub DoesRetire : Bool → ℕ → Beside → Beside → Type 0
DoesRetire true epoch before after =
    (r : Receipt) × (others : List Kept) × (before.unlinked ≡ view r ∷ others)
    × (after ≡ record before { unlinked = others; retired = before.retired ++ (r, epoch) ∷ [] })
DoesRetire false epoch before after = (before.unlinked ≡ []) × (after ≡ before)

abbrev pub DoesDrain : Bool → Queues → Queues → Type 0
DoesDrain true before after =
    (one : Receipt × ℕ) × (others : List (Receipt × ℕ)) × (before.retired.items ≡ one ∷ others) × (after.retired.items ≡ others)
    × (after.drained.items ≡ before.drained.items ++ one ∷ []) × (after.flushing ≡ before.flushing)
DoesDrain false before after =
    (before.retired.items ≡ []) × (after.retired.items ≡ before.retired.items) × (after.drained.items ≡ before.drained.items)
    × (after.flushing ≡ before.flushing)

-- each of these receipts has its place on the device
abbrev pub AreGiven : List (Receipt × ℕ) → Shelves → Type 0
AreGiven [] device = Unit {0}
AreGiven (one ∷ others) device = (one.0.place < length device.shelves) × AreGiven others device

abbrev pub DoesRelease : Bool → Bytes → HybridLog → Beside → Shelves → HybridLog → Beside → Shelves → Type 0
DoesRelease true page old before device new after shown =
    (one : Receipt × ℕ) × (others : List (Receipt × ℕ)) × (before.drained ≡ one ∷ others) × (after ≡ record before { drained = others })
    × (shown ≡ with_shown device one.0.place page) × (new ≡ record old { unreleased = old.unreleased - 1 })
DoesRelease false page old before device new after shown = (before.drained ≡ []) × (after ≡ before) × (new ≡ old) × (shown ≡ device)
