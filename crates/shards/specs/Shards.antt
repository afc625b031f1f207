-- Shards: what one has of the keys of its stripe.
use Rattle.std.specs.Prelude.{ℕ, ◌≡◌, ◌+◌, ◌-◌, length, map, Option, option_map}
use Rattle.std.specs.Option.{is_some}
use Rattle.frames.specs.Resident.{next_number}
use Rattle.words.specs.declared.limits.TheConstants.{WEIGHT_OF_KEY}
use Rattle.words.specs.Store.{Store, Write}
use Rattle.words.specs.Watches.{Marks}
use Rattle.records.specs.Records.{value_bytes}
use Rattle.hybrid.specs.HybridLog.{HybridLog, log_of}
use Rattle.hybrid.specs.Log.{contents}
use Rattle.gates.specs.Pages.{Pages}
use Rattle.gates.specs.Rule.{Meaning}
use Rattle.watch.specs.Marked.{marks_of}
use Rattle.shards.specs.Counted.{Counted, Waiting, places_of, waiting_of}
use Rattle.shards.specs.declared.shard.Shard.{Shard}

-- what a write weighs that no later one hides
abbrev pub weigh : Write → ℕ
weigh write = WEIGHT_OF_KEY + length write.0 + length (value_bytes write.1)

module _ {R : Type 0} where
  -- the log of a shard, with what becomes of its places on the device
  abbrev pub shard_counted : Shard R → Counted
  shard_counted shard = shard.log

  -- a shard with another one
  abbrev pub with_counted : Shard R → Counted → Shard R
  with_counted shard counted = record shard { log = counted }

  -- the log of a shard
  abbrev pub shard_log : Shard R → HybridLog
  shard_log shard = shard.log.log

  -- what a shard has beside its log
  abbrev pub shard_waiting : Shard R → Waiting
  shard_waiting shard = waiting_of shard.log

  -- the store that a shard stands for: what each key has
  abbrev pub shard_store : Shard R → Store
  shard_store shard = contents (log_of shard.log.log)

  -- the marks of a shard
  abbrev pub shard_marks : Shard R → Marks
  shard_marks shard = marks_of shard.marks

  -- the pages of a shard
  abbrev pub shard_pages : Shard R → Pages
  shard_pages shard = record {
    oldest = shard.log.log.oldest;
    first = shard.log.log.resident.oldest;
    tail = next_number shard.log.log.resident - 1;
    frames = shard.log.log.resident.frames;
    receipts = map is_some shard.log.log.kept;
    unlinked = length shard.log.unlinked;
    retired = length shard.log.retired;
    drained = length shard.log.drained;
    waits = places_of shard.log.unlinked;
    refused = shard.log.refused;
    worn = shard.log.worn;
    unreleased = shard.log.log.unreleased;
    places = shard.log.log.places;
  }

  -- what a shard stands for, where this is the premise of what is said of its values
  abbrev pub shard_meaning : Type 0 → Meaning (Shard R)
  shard_meaning trusted = record { trusted = trusted; store = shard_store; marks = shard_marks; pages = shard_pages }

  -- the logs of parts, each at its stripe
  abbrev pub logs_of : (ℕ → Option (Shard R)) → ℕ → Option HybridLog
  logs_of parts stripe = option_map shard_log (parts stripe)

  -- the log of each part is as it was
  abbrev pub SameLogs : (before later : ℕ → Option (Shard R)) → Type 0
  SameLogs before later = (stripe : ℕ) → logs_of later stripe ≡ logs_of before stripe

  -- what parts have beside their logs, each at its stripe
  abbrev pub waits_of : (ℕ → Option (Shard R)) → ℕ → Option Waiting
  waits_of parts stripe = option_map shard_waiting (parts stripe)

  -- what each part has beside its log is as it was
  abbrev pub SameWaits : (before later : ℕ → Option (Shard R)) → Type 0
  SameWaits before later = (stripe : ℕ) → waits_of later stripe ≡ waits_of before stripe
