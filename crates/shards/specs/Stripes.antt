-- What is found in a stripe, and what a step makes of it.
use Rattle.std.specs.Prelude.{ℕ, ◌≡◌, ◌+◌, true, List, [], None, Some}
use Rattle.std.specs.Str.{bytes_eq}
use Rattle.hybrid.specs.HybridLog.{log_of, tail_bytes, with_dropped}
use Rattle.hybrid.specs.Lookups.{Leads, MatchLookup}
use Rattle.hybrid.specs.declared.stripe.find.Lookup.{Lookup}
use Rattle.words.specs.Watches.{touched}
use Rattle.watch.specs.Marked.{are_these, begun_if}
use Rattle.shards.specs.declared.counted.Begun.{Begun}
use Rattle.shards.specs.declared.counted.Moved.{Moved}
use Rattle.shards.specs.declared.shard.Shard.{Shard}
use Rattle.shards.specs.Counted.{HasDrained, HasLanded, HasReleased, HasRetired, MatchBegun, MatchMoved, WasRefused, claimed, with_flight}
use Rattle.shards.specs.Receipts.{kept_by}
use Rattle.shards.specs.Shards.{shard_counted, shard_log, shard_marks, shard_store, shard_waiting, with_counted}

module _ {R : Type 0} where
  -- what a lookup says of a key
  abbrev pub Finds : Lookup → (key : List ℕ) → Shard R → Type 0
  Finds lookup key shard =
      MatchLookup lookup (λ value. shard_store shard key ≡ Some value) (shard_store shard key ≡ None) (λ number. Leads (shard_log shard) key number)

  -- What keys have and marks are the same, and so are the records, the bytes of the tail page and what waits beside the log.
  pub record KeepsAll (was now : Shard R) : Type 0 where
    pub store : shard_store now ≡ shard_store was
    pub marks : shard_marks now ≡ shard_marks was
    pub waits : shard_waiting now ≡ shard_waiting was
    pub records : log_of (shard_log now) ≡ log_of (shard_log was)
    pub tail : tail_bytes (shard_log now) ≡ tail_bytes (shard_log was)

  -- the marks of one key say that it was written
  abbrev pub TouchesKey : (key : List ℕ) (was now : Shard R) → Type 0
  TouchesKey key was now = (k : List ℕ) (number : ℕ) → shard_marks now k number ≡ touched (bytes_eq key k) (shard_marks was k number)

  -- a session watches one key more
  abbrev pub MarksKey : (key : List ℕ) (seat : ℕ) (was now : Shard R) → Type 0
  MarksKey key seat was now = (k : List ℕ) (s : ℕ) → shard_marks now k s ≡ begun_if (are_these key seat k s) (shard_marks was k s)

  -- the oldest resident page has left its frame
  abbrev pub DropsOldest : (was now : Shard R) → Type 0
  DropsOldest was now = shard_counted now ≡ record (shard_counted was) { log = with_dropped (shard_log was) }

  -- a place is counted for the page that begins, and else nothing changed
  abbrev pub BeginsWith : Begun → (was now : Shard R) → Type 0
  BeginsWith begun was now = MatchBegun begun (now ≡ was) (now ≡ was) (λ number. shard_counted now ≡ with_flight (shard_counted was))

  -- the place of a page that was written is in flight no more
  abbrev pub LandsIn : (identity shown : R → List ℕ) (number : ℕ) (page : List ℕ) (receipt : R) (was now : Shard R) → Type 0
  LandsIn identity shown number page receipt was now = HasLanded (claimed (shard_counted was)) number page (kept_by identity shown receipt) (shard_counted now)

  -- the oldest drained receipt went back to the device
  abbrev pub ReleasesOne : {D : Type 0} → (serves : D → R → Type 0) (identity : R → List ℕ) (before later : Shard R × D) → Type 0
  ReleasesOne serves identity before later = HasReleased serves identity (shard_counted before.0) before.1 (shard_counted later.0) later.1

  -- the oldest unlinked receipt was retired, or there is none, or that was refused
  abbrev pub RetiresFirst : Moved → (was now : Shard R) → Type 0
  RetiresFirst moved was now =
      MatchMoved moved (HasRetired (shard_counted was) (shard_counted now)) (((shard_counted was).unlinked ≡ []) × (now ≡ was))
      (now ≡ with_counted was (record (shard_counted was) { worn = true }))

  -- the oldest retired receipt was drained, or there is none, or that was refused
  abbrev pub DrainsFirst : Moved → (was now : Shard R) → Type 0
  DrainsFirst moved was now =
      MatchMoved moved (HasDrained (shard_counted was) (shard_counted now)) (((shard_counted was).retired ≡ []) × (now ≡ was))
      (WasRefused (shard_counted was) (shard_counted now))

  -- as many places were counted off as were given back to the device
  abbrev pub AreCountedOff : (released_before released : ℕ) (was now : Shard R) → Type 0
  AreCountedOff released_before released was now = released + (shard_log now).unreleased ≡ released_before + (shard_log was).unreleased
