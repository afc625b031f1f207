-- What making room leaves of a log in any case, and where room was lacking.
use Rattle.std.specs.Prelude.{ℕ, ◌≡◌, ◌<◌, ◌≤◌, List, Option, Some}
use Rattle.words.specs.declared.limits.TheConstants.{WEIGHT_MAX}
use Rattle.words.specs.Store.{Write, weight}
use Rattle.hybrid.specs.HybridLog.{HybridLog, available, expected, tail_bytes}
use Rattle.shards.specs.Rooms.{LacksRoomAt, purpose_of, share}

-- The bytes of the tail page are as many as they were, and no fewer frames are available, nor are fewer expected.
pub record KeepsRoom (old new : HybridLog) : Type 0 where
  pub tail : tail_bytes new ≡ tail_bytes old
  pub frames : available old ≤ available new
  pub to_come : expected old ≤ expected new

-- the same of each log
abbrev pub KeepRoom : (before later : ℕ → Option HybridLog) → Type 0
KeepRoom before later =
    (stripe : ℕ) (new : HybridLog) → later stripe ≡ Some new → (old : HybridLog) × (before stripe ≡ Some old) × KeepsRoom old new

-- While room was made for writes, which are these, a stripe was met that may have no room for its share of them: it is one that they write.
pub record LacksShareAt (Made : List Write → Type 0) (n : ℕ) (before later : ℕ → Option HybridLog) (stripe : ℕ) : Type 0 where
  pub writes : List Write
  pub made : Made writes
  pub light : weight writes ≤ WEIGHT_MAX
  pub below : stripe < n
  pub written : 0 < share n stripe writes
  pub lacks : LacksRoomAt stripe (share n stripe writes) (purpose_of writes) before later

-- there is such a stripe
abbrev pub FoundLacking : (Made : List Write → Type 0) (n : ℕ) (before later : ℕ → Option HybridLog) → Type 0
FoundLacking Made n before later = (stripe : ℕ) × LacksShareAt Made n before later stripe
