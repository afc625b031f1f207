-- What a call of a client comes to, that is planned over the stripes that the client holds.
use Rattle.std.specs.Prelude.{ℕ, ◌≡◌, ◌<◌, Bool, true, false, List, [], Option, Some, length}
use Rattle.words.specs.declared.reply.Reply.{Reply}
use Rattle.words.specs.Store.{Bytes, Write}
use Rattle.words.specs.History.{History, Pair}
use Rattle.words.specs.Session.{Asked, operation_of}
use Rattle.gates.specs.Passes.{AreWatched}
use Rattle.hybrid.specs.HybridLog.{Kept}
use Rattle.hybrid.specs.Staging.{AreRight, StagedPage}
use Rattle.hybrid.specs.Writing.{AreFit}
use Rattle.transact.specs.declared.call.Call.{Call}
use Rattle.transact.specs.declared.call.Call.TheVariants.{One, Watch, Exec, Forget}
use Rattle.transact.specs.Calls.{asked_of}
use Rattle.transact.specs.Plans.{EndsAll, IsPlan, keys_begun, made}
use Rattle.transact.specs.Tables.{Became, Stand, begins, clears, joined, stays}
use Rattle.plans.specs.declared.planned.Planned.{Planned}
use Rattle.shards.specs.Rooms.{AreRoomy, HaveGrown, MakesRoom, MeetsFull}
use Rattle.shards.specs.Shards.{shard_meaning}
use Rattle.plans.specs.Sizes.{AllShort}
use Rattle.plans.specs.Stops.{AreCold, keys_looked_up}
use Rattle.world_log.specs.Places.{Receipt, Shelves, Wrote, SamePlaces, view}
use Rattle.world_log.specs.PlanLaws.{logs_lent, with_parts}
use Rattle.world_log.specs.Freeing.{HasFreed, StaysFull}
use Rattle.world_log.specs.Given.{IsGiven}
use Rattle.world_log.specs.WorldLogs.{stays_of}
use Rattle.world_log.specs.Stripes.{KeepsOthers, acts_for, lent, states_of}
use Rattle.world_log.specs.Types.{Stripes}
use Rattle.world_log.specs.declared.logs.WorldLog.{WorldLog}
use Rattle.world_model.specs.Logs.{place_at}
use Rattle.world_model.specs.Rooms.{is_spent}
use Rattle.world_model.specs.States.{State, log_at}
use Rattle.world_model.specs.Enabled.{are_none, holds}
use Rattle.world_model.specs.Places.{Each}
use Rattle.world_model.specs.Commits.{marks_changed}
use Rattle.world_model.specs.Planning.{ROUNDS}
use Rattle.world.specs.Stripes.{HasInstalled}
use Rattle.world.specs.declared.desk.Desk.{Desk}
use Rattle.world.specs.declared.desk.Plan.TheVariants as plan

-- whether a call looks keys up: a command or a transaction
abbrev pub looks_up : Call → Bool
looks_up (One command) = true
looks_up (Watch keys) = false
looks_up (Exec commands watching) = true
looks_up (Forget watching) = false

-- how many stripes there are
abbrev pub count_of : Stripes → ℕ
count_of stripes = length stripes.holders.items

-- no value in the stripes that a client holds is longer than a value may be
abbrev pub AreShort : Stripes → ℕ → Type 0
AreShort stripes c = AllShort (joined (shard_meaning ⊥) (count_of stripes) (lent (acts_for stripes c)))

-- This holds of each history of which the stripes that a client holds are the store, and of what its session watches in it.
abbrev pub EachTime : Stripes → (c : ℕ) → Call → (Asked → History → List Pair → Type 0) → Type 0
EachTime stripes c call P =
    (asked : Asked) (seen : History) (watched : List Pair) → asked_of call ≡ Some asked
    → Stand (shard_meaning ⊥) (count_of stripes) (lent (acts_for stripes c)) seen c watched → EndsAll call watched → AreWatched watched watched
    → P asked seen watched

-- what is due of a call to a client that holds its stripes
abbrev pub IsDue : Stripes → (c : ℕ) → Call → Reply → List Write → Type 0
IsDue stripes c call reply writes = EachTime stripes c call (λ asked seen watched. IsPlan seen (operation_of watched asked) reply writes)

-- what it would write
abbrev pub WouldWrite : Stripes → (c : ℕ) → Call → List Write → Type 0
WouldWrite stripes c call writes = EachTime stripes c call (λ asked seen watched. writes ≡ made seen (operation_of watched asked))

-- A call was planned: it is due, and there is room for what it writes, for which pages may have left their frames.
pub record HasPlanned (old : WorldLog) (c : ℕ) (call : Call) (planned : Planned) (new : WorldLog) : Type 0 where
  pub due : AreShort old.stripes c → IsDue old.stripes c call planned.reply planned.writes
  pub roomy : AreRoomy (count_of old.stripes) (logs_lent new.stripes) planned.writes
  pub fits : AreFit planned.writes
  pub keeps : KeepsOthers (acts_for old.stripes c) new.stripes
  pub became : Became (shard_meaning ⊥) (count_of old.stripes) [] (begins c (keys_begun call)) (lent (acts_for old.stripes c)) (lent new.stripes)
  pub read : Shelves
  pub reads : SamePlaces old.device read
  pub makes : MakesRoom Wrote view (count_of old.stripes) (count_of old.stripes) planned.writes (logs_lent (acts_for old.stripes c)) read (logs_lent new.stripes) new.device
  pub else_same : new ≡ with_parts old new.stripes new.device

-- Receipts of pages were named that are to be read for it. Nothing has changed.
pub record HasNamed (old : WorldLog) (c : ℕ) (call : Call) (staged : List StagedPage) (receipts : List Kept) (new : WorldLog) : Type 0 where
  pub cold : AreCold (count_of old.stripes) (logs_lent (acts_for old.stripes c)) (keys_looked_up call) staged receipts
  pub keeps : KeepsOthers (acts_for old.stripes c) new.stripes
  pub parts : lent new.stripes ≡ lent (acts_for old.stripes c)
  pub else_same : new ≡ with_parts old new.stripes old.device

-- A stripe was met that is full, which it would write.
pub record HasMet (old : WorldLog) (c : ℕ) (call : Call) (stripe : ℕ) (new : WorldLog) : Type 0 where
  pub keeps : KeepsOthers (acts_for old.stripes c) new.stripes
  pub became : Became (shard_meaning ⊥) (count_of old.stripes) [] stays (lent (acts_for old.stripes c)) (lent new.stripes)
  pub read : Shelves
  pub reads : SamePlaces old.device read
  pub meets : MeetsFull Wrote view (count_of old.stripes) stripe (λ writes. AreShort old.stripes c → WouldWrite old.stripes c call writes)
      (logs_lent (acts_for old.stripes c)) read (logs_lent new.stripes) new.device
  pub else_same : new ≡ with_parts old new.stripes new.device

-- what a client has beside its session is the same but for the plan, and for pages that were read, which are right
pub record KeepsDesk (old new : Desk) : Type 0 where
  pub due : new.due ≡ old.due
  pub fetched : new.fetched ≡ old.fetched
  pub stay : new.stay ≡ old.stay
  pub right : AreRight new.staged

-- a receipt that is to be read is kept of a page that is not resident, in a stripe that a client holds, and the device gave it
pub record IsReadFor (old : WorldLog) (c : ℕ) (read : ℕ × Receipt) : Type 0 where
  pub held : holds old.stripes.holders.items c read.0 ≡ true
  pub number : ℕ
  pub away : number < (log_at (states_of old.stripes) read.0).first
  pub place : place_at (log_at (states_of old.stripes) read.0) number ≡ Some read.1.place
  pub given : IsGiven old.device read.1

-- What a plan came to that met a full stripe: places were released there that could be, while clients had these stays. Where none was, the
-- stripe is full; else the call was planned again, and was made, or met a full stripe again.
pub data HasEnded (c : ℕ) (call : Call) (stays : List (Option ℕ)) (new : WorldLog) (is : Desk) : WorldLog → (stripe : ℕ) → Desk → Type 0 where
  Stays : (old : WorldLog) (stripe : ℕ) (was : Desk) → is.plan ≡ plan.Full → HasFreed stays stripe old new → StaysFull stripe old new
      → ((rest : State) → stays_of rest ≡ stays → is_spent rest.clients (log_at (states_of new.stripes) stripe) ≡ true)
      → KeepsDesk was is → HasEnded c call stays new is old stripe was
  Frees : (old : WorldLog) (stripe : ℕ) (was : Desk) (mid : WorldLog) (planned : Planned) → HasFreed stays stripe old mid → is.plan ≡ plan.Made planned
      → HasPlanned mid c call planned new → KeepsDesk was is → HasEnded c call stays new is old stripe was
  Again : (old : WorldLog) (stripe : ℕ) (was : Desk) (mid late : WorldLog) (next : ℕ) (between : Desk) → HasFreed stays stripe old mid
      → HasMet mid c call next late → KeepsDesk was between → HasEnded c call stays new is late next between → HasEnded c call stays new is old stripe was

-- What a call that looks keys up came to, whose client took the last of its stripes.
pub data HasArranged (old : WorldLog) (c : ℕ) (call : Call) (stays : List (Option ℕ)) (was : Desk) (new : WorldLog) (is : Desk) : Type 0 where
  Makes : (planned : Planned) → is.plan ≡ plan.Made planned → HasPlanned old c call planned new → KeepsDesk was is → HasArranged old c call stays was new is
  Names : (receipts : List Kept) → HasNamed old c call was.staged receipts new → was.fetched < ROUNDS → are_none is.due.items ≡ false → Each (IsReadFor new c) is.due.items
      → is ≡ record was { due = is.due; staged = is.staged } → AreRight is.staged → HasArranged old c call stays was new is
  Meets : (stripe : ℕ) (mid : WorldLog) (between : Desk) → HasMet old c call stripe mid → KeepsDesk was between
      → HasEnded c call stays new is mid stripe between → HasArranged old c call stays was new is

-- A call was run of which nothing is kept: it is planned and installed, and writes nothing.
pub record HasRun (old : WorldLog) (c : ℕ) (call : Call) (reply : Reply) (new : WorldLog) : Type 0 where
  pub due : AreShort old.stripes c → IsDue old.stripes c call reply []
  pub installed : HasInstalled old.stripes [] (marks_changed c call []) new.stripes
  pub keeps : KeepsOthers (acts_for old.stripes c) new.stripes
  pub grown : HaveGrown (count_of old.stripes) [] (logs_lent (acts_for old.stripes c)) (logs_lent new.stripes)
  pub else_same : new ≡ with_parts old new.stripes old.device

-- A plan was installed.
pub record HasPut (old : WorldLog) (c : ℕ) (call : Call) (planned : Planned) (new : WorldLog) : Type 0 where
  pub installed : HasInstalled old.stripes planned.writes (marks_changed c call planned.writes) new.stripes
  pub keeps : KeepsOthers (acts_for old.stripes c) new.stripes
  pub grown : HaveGrown (count_of old.stripes) planned.writes (logs_lent (acts_for old.stripes c)) (logs_lent new.stripes)
  pub else_same : new ≡ with_parts old new.stripes old.device

-- Marks of a client were cleared, and nothing else has changed.
pub record HasCleared (old : WorldLog) (c : ℕ) (keys : List Bytes) (new : WorldLog) : Type 0 where
  pub installed : HasInstalled old.stripes [] (clears c keys) new.stripes
  pub keeps : KeepsOthers (acts_for old.stripes c) new.stripes
  pub logs : (i : ℕ) → logs_lent new.stripes i ≡ logs_lent (acts_for old.stripes c) i
  pub else_same : new ≡ with_parts old new.stripes old.device
