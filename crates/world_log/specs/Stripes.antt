-- The stripes of the world: what each stores, on its log, and who holds it.
use Rattle.std.specs.Prelude.{ℕ, ◌≡◌, ◌<◌, ◌≤◌, true, false, List, length, map, Option, Some, None, slice_get, if◌then◌else◌}
use Rattle.std.specs.Vec.{with_item}
use Rattle.words.specs.Store.{Store, empty}
use Rattle.words.specs.Watches.{Marks}
use Rattle.words.specs.Stripes.{stripe_of}
use Rattle.hybrid.specs.HybridLog.{HybridLog}
use Rattle.shards.specs.Counted.{Counted}
use Rattle.shards.specs.Shards.{SameWaits, shard_counted, shard_log, shard_store, shard_marks}
use Rattle.world_model.specs.Enabled.{holds}
use Rattle.world_model.specs.Logs.{LogState, place_at}
use Rattle.world_model.specs.States.{log_at}
use Rattle.world_log.specs.Beside.{Beside, beside_of, log_state}
use Rattle.world_log.specs.declared.queues.Queues.{Queues}
use Rattle.world_log.specs.Types.{Lane, Stripes}
use Rattle.world_log.specs.declared.lanes.Lane as any
use Rattle.world_log.specs.declared.stripes.Stripes as any_lanes

-- PARTS OF ANY TYPE

module _ {S : Type 0} where
  -- how many stripes there are
  abbrev pub count_in : any_lanes.Stripes S → ℕ
  count_in stripes = length stripes.holders.items

  -- the client that acts
  abbrev pub acting_in : any_lanes.Stripes S → ℕ
  acting_in stripes = stripes.acting

  -- there is one stripe at least, and there are 64 at most
  abbrev pub IsFew : any_lanes.Stripes S → Type 0
  IsFew stripes = (1 ≤ count_in stripes) × (count_in stripes ≤ 64)

  -- the part of a stripe
  abbrev pub part_in : Option (any.Lane S) → Option S
  part_in None = None
  part_in (Some lane) = Some lane.shard

  -- the part of a stripe, if the client holds it that acts
  abbrev pub lent : any_lanes.Stripes S → ℕ → Option S
  lent stripes i = if holds stripes.holders.items stripes.acting i then part_in (slice_get stripes.lanes.items i) else None

  -- the stripes with another part of one
  abbrev pub with_part_in : any_lanes.Stripes S → ℕ → Option (any.Lane S) → S → any_lanes.Stripes S
  with_part_in stripes i None part = stripes
  with_part_in stripes i (Some lane) part = record stripes { lanes = with_item stripes.lanes i (record lane { shard = part }) }

  abbrev pub with_part : any_lanes.Stripes S → ℕ → S → any_lanes.Stripes S
  with_part stripes i part = with_part_in stripes i (slice_get stripes.lanes.items i) part

  -- what the world has beside the log of a stripe
  abbrev pub queues_in : Option (any.Lane S) → Option Queues
  queues_in None = None
  queues_in (Some lane) = Some lane.queues

  -- Nothing differs but the parts of the stripes that the acting client holds.
  pub record KeepsLanes (before later : any_lanes.Stripes S) : Type 0 where
    pub holders : later.holders ≡ before.holders
    pub acting : later.acting ≡ before.acting
    pub count : length later.lanes.items ≡ length before.lanes.items
    pub queues : (i : ℕ) → queues_in (slice_get later.lanes.items i) ≡ queues_in (slice_get before.lanes.items i)
    pub others : (i : ℕ) → holds before.holders.items before.acting i ≡ false → slice_get later.lanes.items i ≡ slice_get before.lanes.items i

-- OF THE WORLD

-- the log of a stripe, by itself and as plain data
abbrev pub lane_log : Lane → HybridLog
lane_log lane = shard_log lane.shard

-- the log, with what its shard counts of its places
abbrev pub lane_counted : Lane → Counted
lane_counted lane = shard_counted lane.shard

-- what stands beside the log
abbrev pub lane_beside : Lane → Beside
lane_beside lane = beside_of (lane_counted lane) lane.queues

abbrev pub lane_state : Lane → LogState
lane_state lane = log_state (lane_log lane) (lane_beside lane)

-- who holds which
abbrev pub holders_of : Stripes → List (Option ℕ)
holders_of stripes = stripes.holders.items

-- what a part that may be missing stores, and its marks
abbrev pub store_in : Option Lane → Store
store_in None = empty
store_in (Some lane) = shard_store lane.shard

abbrev pub marks_in : Option Lane → Marks
marks_in None key session = None
marks_in (Some lane) key session = shard_marks lane.shard key session

-- what each stripe stores
abbrev pub stores_of : Stripes → ℕ → Store
stores_of stripes i = store_in (slice_get stripes.lanes.items i)

-- the marks of each key, in its stripe
abbrev pub marks_of : Stripes → Marks
marks_of stripes key session = marks_in (slice_get stripes.lanes.items (stripe_of (length stripes.holders.items) key)) key session

-- the logs
abbrev pub states_of : Stripes → List LogState
states_of stripes = map lane_state stripes.lanes.items

-- the same with another holder of one, or where another client acts
abbrev pub with_holder : Stripes → ℕ → Option ℕ → Stripes
with_holder stripes i holder = record stripes { holders = with_item stripes.holders i holder }

abbrev pub acts_for : Stripes → ℕ → Stripes
acts_for stripes client = record stripes { acting = client }

-- Of these nothing differs but what keys have, their marks, and the logs.
pub record KeepsOthers (before later : Stripes) : Type 0 where
  pub holders : later.holders ≡ before.holders
  pub acting : later.acting ≡ before.acting
  pub count : length later.lanes.items ≡ length before.lanes.items
  pub queues : (i : ℕ) → queues_in (slice_get later.lanes.items i) ≡ queues_in (slice_get before.lanes.items i)
  pub others : (i : ℕ) → holds before.holders.items before.acting i ≡ false → slice_get later.lanes.items i ≡ slice_get before.lanes.items i
  pub waits : SameWaits (lent before) (lent later)

-- there is a lane for each stripe, and so many stripes as there may be
pub record IsEven (stripes : Stripes) : Type 0 where
  pub lanes : length stripes.lanes.items ≡ length stripes.holders.items
  pub some : 1 ≤ length stripes.holders.items
  pub most : length stripes.holders.items ≤ 64

-- A client holds this stripe, whose log keeps a receipt of the place for a page that is not resident.
pub record IsKeeper (stripes : Stripes) (c place stripe : ℕ) : Type 0 where
  pub held : holds stripes.holders.items c stripe ≡ true
  pub number : ℕ
  pub away : number < (log_at (states_of stripes) stripe).first
  pub kept : place_at (log_at (states_of stripes) stripe) number ≡ Some place

-- the same of one stripe
pub record KeepsAway (lane : Lane) (place : ℕ) : Type 0 where
  pub number : ℕ
  pub away : number < (lane_state lane).first
  pub kept : place_at (lane_state lane) number ≡ Some place
