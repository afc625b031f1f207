-- What becomes of parts that are held, in words of what lends them. `steady` says whether their device is; `stripes_of`, `holder_of` and
-- `part_of` are the lender's: how many stripes there are, which seat holds them, and the part of each.
use Rattle.std.specs.Prelude.{ℕ, List, [], ◌∷◌, Option, Result}
use Rattle.words.specs.Store.{Bytes, Store, Write}
use Rattle.words.specs.Watches.{Marks}
use Rattle.hybrid.specs.HybridLog.{HybridLog}
use Rattle.transact.specs.Tables.{Became, Change, HasBegun, begins, clears, joined, joined_marks, stays, touches}
use Rattle.transact.specs.declared.call.Call.{Call}
use Rattle.shards.specs.declared.shard.Shard.{Shard}
use Rattle.shards.specs.Rooms.{HaveGrown}
use Rattle.shards.specs.Shards.{logs_of, shard_meaning}
use Rattle.plans.specs.declared.planned.Planned.{Planned}
use Rattle.plans.specs.Memory.{NeedsNoMemoryOn}
use Rattle.plans.specs.Planning.{AreMarks}

module _ {R P : Type 0} where
  module _ (steady : Type 0) (stripes_of : P → ℕ) (part_of : P → ℕ → Option (Shard R)) where
    -- the store that the parts are together
    abbrev pub store_of : P → Store
    store_of parts = joined (shard_meaning steady) (stripes_of parts) (part_of parts)

    -- the marks that they have together
    abbrev pub marks_of : P → Marks
    marks_of parts = joined_marks (shard_meaning steady) (stripes_of parts) (part_of parts)

    -- these writes were made, and marks changed so
    abbrev pub Becomes : (before later : P) → List Write → Change → Type 0
    Becomes before later writes change = Became (shard_meaning steady) (stripes_of before) writes change (part_of before) (part_of later)

    -- the same where marks are touched at the keys that are written
    abbrev pub BecomesWritten : (before later : P) → List Write → Type 0
    BecomesWritten before later writes = Becomes before later writes (touches writes)

    -- the first of writes was made, or is hidden by these others: what the others make of what it left, all of them make of what was before
    abbrev pub BecomesFirst : (before later : P) (next : Write) (others : List Write) → Type 0
    BecomesFirst before later next others =
        (last : ℕ → Option (Shard R)) → Became (shard_meaning steady) (stripes_of before) others (touches others) (part_of later) last
        → Became (shard_meaning steady) (stripes_of before) (next ∷ others) (touches (next ∷ others)) (part_of before) last

    -- where this holds and receipts lend their pages, the call needs memory
    abbrev pub NeedsMemory : P → (Right lends : Type 0) → Call → Type 0
    NeedsMemory parts Right lends call = Right → lends → NeedsNoMemoryOn (store_of parts) call → ⊥

  -- the same of what they make of the logs
  abbrev pub GrowsFirst : (stripes_of : P → ℕ) (part_of : P → ℕ → Option (Shard R)) → (before later : P) → Write → List Write → Type 0
  GrowsFirst stripes_of part_of before later next others =
      (last : ℕ → Option HybridLog) → HaveGrown (stripes_of before) others (logs_of (part_of later)) last
      → HaveGrown (stripes_of before) (next ∷ others) (logs_of (part_of before)) last

  module _ (steady : Type 0) (stripes_of holder_of : P → ℕ) (part_of : P → ℕ → Option (Shard R)) where
    -- the holder watches these keys from here on
    abbrev pub BeginsWatches : (before later : P) → List Bytes → Type 0
    BeginsWatches before later keys = Becomes steady stripes_of part_of before later [] (begins (holder_of before) keys)

    -- the holder watches none of these keys any more
    abbrev pub EndsWatches : (before later : P) → List Bytes → Type 0
    EndsWatches before later keys = Becomes steady stripes_of part_of before later [] (clears (holder_of before) keys)

    -- the keys that the holder has begun to watch since any earlier parts were these, and are those
    abbrev pub BeginsMore : (before later : P) (was now : List Bytes) → Type 0
    BeginsMore before later was now =
        (first : ℕ → Option (Shard R)) → HasBegun (shard_meaning steady) (stripes_of before) (holder_of before) was first (part_of before)
        → HasBegun (shard_meaning steady) (stripes_of before) (holder_of before) now first (part_of later)

    -- where the holder has begun to watch these keys since any earlier parts, what keys had then and all marks are again as they were
    abbrev pub TakesBack : (before later : P) (begun : List Bytes) → Type 0
    TakesBack before later begun =
        (first : ℕ → Option (Shard R)) → HasBegun (shard_meaning steady) (stripes_of before) (holder_of before) begun first (part_of before)
        → Became (shard_meaning steady) (stripes_of before) [] stays first (part_of later)

    -- by what came of a plan, the holder watches the keys that the call begins to watch, or no mark has changed
    abbrev pub AreMarkedFor : {E : Type 0} → (before later : P) → List Bytes → Result Planned E → Type 0
    AreMarkedFor before later keys result =
        AreMarks (shard_meaning steady) (stripes_of before) (holder_of before) keys (part_of before) (part_of later) result
