-- What plans make of the stripes' logs and of the device, as the plain state has it.
use Rattle.std.specs.Prelude.{ℕ, suc, ◌≡◌, ◌<◌, ◌≤◌, Bool, true, List, [], Option, Some, length}
use Rattle.words.specs.declared.limits.TheConstants.{WEIGHT_MAX}
use Rattle.words.specs.Store.{Bytes, Write, weight}
use Rattle.hybrid.specs.HybridLog.{HybridLog, Kept}
use Rattle.hybrid.specs.Staging.{StagedPage}
use Rattle.transact.specs.Tables.{Became, Change}
use Rattle.plans.specs.Reading as reading
use Rattle.shards.specs.Rooms as rooms
use Rattle.shards.specs.Shards.{logs_of, shard_meaning}
use Rattle.plans.specs.Stops.{IsCold}
use Rattle.world_model.specs.Commits.{OpensPages}
use Rattle.world_model.specs.Enabled.{holds}
use Rattle.world_model.specs.Logs.{place_at}
use Rattle.world_model.specs.Rooms.{StepsAll, HasNoPlace, is_written_in, AreWritten}
use Rattle.world_model.specs.States.{State, log_at}
use Rattle.world_log.specs.Places.{Receipt, Shelves, Serves, Wrote, SamePlaces, identity, view, writes_of}
use Rattle.world_log.specs.Freeing.{waiting_in}
use Rattle.world_log.specs.Given.{IsGiven, StaysGiven}
use Rattle.world_log.specs.Stripes.{KeepsOthers, IsEven, lent, stores_of, marks_of, states_of}
use Rattle.world_log.specs.WorldLogs.{IsWorldLog, NoneReleasedAt, state_of}
use Rattle.world_log.specs.Types.{Stripes}
use Rattle.world_log.specs.declared.logs.WorldLog.{WorldLog}

-- how many stripes there are
abbrev pub count_of : WorldLog → ℕ
count_of log = length log.stripes.holders.items

-- the logs that are lent to the client that acts
abbrev pub logs_lent : Stripes → ℕ → Option HybridLog
logs_lent stripes = logs_of (lent stripes)

-- with other stripes, and another device
abbrev pub with_parts : WorldLog → Stripes → Shelves → WorldLog
with_parts log stripes device = record log { stripes = stripes; device = device }

-- what keys have is the same, and all marks
pub record SameValues (old new : Stripes) : Type 0 where
  pub stores : stores_of new ≡ stores_of old
  pub marks : marks_of new ≡ marks_of old

-- ROOM

-- Pages left their frames in stripes that these writes write.
pub record IsMade (rest : State) (old new : WorldLog) (writes : List Write) : Type 0 where
  pub stripes : List ℕ
  pub written : AreWritten (count_of old) writes stripes
  pub sheds : StepsAll (state_of rest old) stripes (state_of rest new)
  pub log : IsWorldLog new
  pub given : StaysGiven old.device new.device

pub record RoomLaws : Type 0 where
  pub made : (rest : State) (log : WorldLog) (stripes : Stripes) (device : Shelves) (writes : List Write)
      → IsWorldLog log → KeepsOthers log.stripes stripes → SameValues log.stripes stripes
      → rooms.MakesRoom Wrote view (count_of log) (count_of log) writes (logs_lent log.stripes) log.device (logs_lent stripes) device
      → IsMade rest log (with_parts log stripes device) writes
  -- the same, and no place can be taken then in a stripe that these writes write
  pub full : (rest : State) (log : WorldLog) (stripes : Stripes) (device : Shelves) (writes : List Write) (i : ℕ)
      → IsWorldLog log → KeepsOthers log.stripes stripes → SameValues log.stripes stripes
      → 0 < rooms.share (count_of log) i writes → i < count_of log
      → rooms.MakesRoom Wrote view (count_of log) (suc i) writes (logs_lent log.stripes) log.device (logs_lent stripes) device
      → rooms.IsFullAt (logs_lent stripes) i
      → IsMade rest log (with_parts log stripes device) writes × (is_written_in (count_of log) writes i ≡ true)
      × HasNoPlace (state_of rest (with_parts log stripes device)) i

-- a plan leaves all places that wait
abbrev pub WaitLaw : Type 0
WaitLaw = (old new : Stripes) → KeepsOthers old new → waiting_in new ≡ waiting_in old

-- COMMITS

-- Writes of a call open pages, as their parts say, and nothing else becomes of logs, places and the epoch.
abbrev pub OpeningLaw : Type 0
OpeningLaw =
    (rest later : State) (log : WorldLog) (stripes : Stripes) (writes : List Write)
    → IsWorldLog log → KeepsOthers log.stripes stripes → weight writes ≤ WEIGHT_MAX
    → rooms.HaveGrown (count_of log) writes (logs_lent log.stripes) (logs_lent stripes)
    → OpensPages (state_of rest log) writes (state_of later (with_parts log stripes log.device)) × IsWorldLog (with_parts log stripes log.device)

-- marks stay as they are
abbrev pub IsStill : Change → Type 0
IsStill change = (key : Bytes) (number : ℕ) (mark : Option Bool) → change key number mark ≡ mark

-- where no write was made, and no mark changed, what keys have is the same
abbrev pub ValueLaw : Type 0
ValueLaw =
    (old new : Stripes) (change : Change) → IsEven old → KeepsOthers old new → IsStill change
    → Became (shard_meaning ⊥) (length old.holders.items) [] change (lent old) (lent new) → SameValues old new

-- READS

-- Where what was served still is, and no write was asked for and no call failed, all places are as they were. Over other counts of calls, all
-- stands as it was.
pub record ReadLaws : Type 0 where
  pub places : (old new : Shelves) → ((r : Receipt) → Serves old r → Serves new r) → new.failures ≡ old.failures → writes_of new ≡ writes_of old
      → SamePlaces old new
  pub log : (log : WorldLog) (device : Shelves) → SamePlaces log.device device → IsWorldLog log → IsWorldLog (with_parts log log.stripes device)
  pub state : (rest : State) (log : WorldLog) (device : Shelves) → SamePlaces log.device device
      → state_of rest (with_parts log log.stripes device) ≡ state_of rest log
  pub given : (old new : Shelves) → SamePlaces old new → StaysGiven old new
  -- where no receipt that is kept is of a place that was released, the device serves those of the parts that are lent
  pub served : (log : WorldLog) → IsWorldLog log → ((i : ℕ) → NoneReleasedAt log i)
      → reading.AreServed Serves identity log.device (logs_lent log.stripes)

-- The receipt is kept of a page that is not resident, in a stripe that the acting client holds, and the device gave it.
pub record IsColdIn (log : WorldLog) (kept : Kept) : Type 0 where
  pub receipt : Receipt
  pub is : kept ≡ view receipt
  pub given : IsGiven log.device receipt
  pub stripe : ℕ
  pub held : holds log.stripes.holders.items log.stripes.acting stripe ≡ true
  pub number : ℕ
  pub away : number < (log_at (states_of log.stripes) stripe).first
  pub place : place_at (log_at (states_of log.stripes) stripe) number ≡ Some receipt.place

-- the receipts that a plan names are such
abbrev pub ColdLaw : Type 0
ColdLaw =
    (log : WorldLog) (n : ℕ) (keys : List Bytes) (staged : List StagedPage) (kept : Kept)
    → IsWorldLog log → IsCold n (logs_lent log.stripes) keys staged kept → IsColdIn log kept
