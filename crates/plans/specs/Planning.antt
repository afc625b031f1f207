-- What is asked of a plan, what one leaves that was made, and what one leaves that was not.
use Rattle.std.specs.Prelude.{ℕ, ◌≡◌, ◌<◌, ◌≤◌, ◌+◌, ◌∷◌, false, length, unwrap_or, nat_lt, if◌then◌else◌, List, [], Option, Some, Result, Ok, Err, IfErr, IfOk}
use Rattle.words.specs.declared.command.Command.{Command}
use Rattle.words.specs.declared.command.Command.TheVariants.{Get}
use Rattle.words.specs.declared.history.Operation.{Operation}
use Rattle.words.specs.declared.history.Operation.TheVariants.{Run, Exec, Watch}
use Rattle.words.specs.declared.reply.Reply.{Reply}
use Rattle.words.specs.declared.limits.TheConstants.{WEIGHT_MAX}
use Rattle.words.specs.declared.word.TheConstants.{WORD_INLINE}
use Rattle.words.specs.Store.{Bytes, Write, weight}
use Rattle.words.specs.Commands.{keys_of, keys_of_all}
use Rattle.words.specs.History.{History, Pair, after, is_dirty, keys_of_pairs, too_much}
use Rattle.words.specs.Session.{Asked, operation_of, value_reply}
use Rattle.gates.specs.Passes.{AreWatched}
use Rattle.gates.specs.Rule.{Meaning}
use Rattle.hybrid.specs.HybridLog.{HybridLog, Kept}
use Rattle.hybrid.specs.Staging.{AreRight, StagedPage}
use Rattle.hybrid.specs.Writing.{AreFit}
use Rattle.transact.specs.declared.call.Call.{Call}
use Rattle.transact.specs.Calls.{asked_of, call_keys}
use Rattle.transact.specs.Plans.{EndsAll, IsEntry, IsPlan, made}
use Rattle.transact.specs.Tables.{AllRead, AreThere, Became, HasBegun, Stand, begins, joined, stays}
use Rattle.shards.specs.Devices.{StillServes}
use Rattle.shards.specs.Receipts.{kept_by}
use Rattle.shards.specs.declared.shard.Shard.{Shard}
use Rattle.shards.specs.Rooms.{AreRoomy, IsFullAt, LeaveFrames, MakesRoom, MeetsFull, ShedFew, share}
use Rattle.shards.specs.Shards.{SameLogs, SameWaits, logs_of, shard_log, shard_meaning, shard_store, weigh}
use Rattle.plans.specs.declared.planned.Planned.{Planned}
use Rattle.plans.specs.declared.stop.Stop.{Stop}
use Rattle.plans.specs.declared.stop.Stop.TheVariants as stop
use Rattle.plans.specs.Lacking.{FoundLacking, KeepRoom}
use Rattle.plans.specs.Memory.{AreAtHand, IsAtHand, IsBriefOn, IsPlannedInPlace, NeedsNoMemoryOn}
use Rattle.plans.specs.Sizes.{AllShort, IsPlaced}
use Rattle.plans.specs.Stops.{AreCold, Each, IsNeeded, IsNotEmpty, IsWantedFor, faults, keys_looked_up}

-- What is asked of a plan: the operations it is judged by, each on a history whose store the parts are of; the keys that are looked up for it; and
-- whether it is made without memory where no page wants a read.
pub record Question : Type 1 where
  pub Asks : History → Operation → Type 0
  pub keys : List Bytes
  pub Brief : Type 0

-- the reply and the writes are due to what is asked, where this holds
abbrev pub AreDue : (Right : Type 0) → Question → Reply → List Write → Type 0
AreDue Right question reply writes = Right → (seen : History) (operation : Operation) → question.Asks seen operation → IsPlan seen operation reply writes

-- the same of the writes alone
abbrev pub AreMade : (Right : Type 0) → Question → List Write → Type 0
AreMade Right question writes = Right → (seen : History) (operation : Operation) → question.Asks seen operation → writes ≡ made seen operation

-- what is answered and written where a call answers and writes this, unless its writes weigh too much
pub record AreSettled (reply : Reply) (writes : List Write) (said : Reply) (written : List Write) : Type 0 where
  pub reply_is : said ≡ (if nat_lt WEIGHT_MAX (weight writes) then too_much else reply)
  pub writes_are : written ≡ (if nat_lt WEIGHT_MAX (weight writes) then [] else writes)

-- A plan that writes nothing and begins no watch.
pub record HasAnswered (Right : Type 0) (question : Question) (planned : Planned) : Type 0 where
  pub due : AreDue Right question planned.reply planned.writes
  pub none : planned.writes ≡ []
  pub begun : planned.begun ≡ []

-- A plan of a watch of these keys: it is due after any history, and writes nothing.
abbrev pub IsPlanOfWatch : List Bytes → Planned → Type 0
IsPlanOfWatch keys planned = ((seen : History) → IsPlan seen (Watch keys) planned.reply planned.writes) × (planned.writes ≡ [])

-- Pages are wanted: receipts of pages of these logs that are neither resident nor staged, one at least, each of one to which a lookup of the keys
-- comes where what is staged is right. Receipts do not lend their pages.
pub record AreWanted (lends Right : Type 0) (n : ℕ) (keys : List Bytes) (staged : List StagedPage) (logs : ℕ → Option HybridLog) (receipts : List Kept) : Type 0 where
  pub cold : AreCold n logs keys staged receipts
  pub needed : Each (IsNeeded Right n logs keys staged) receipts
  pub unlent : lends → ⊥

-- The same of a lookup of one key in a log.
pub record AreWantedAt (lends Right : Type 0) (log : HybridLog) (key : Bytes) (staged : List StagedPage) (receipts : List Kept) : Type 0 where
  pub some : IsNotEmpty receipts
  pub each : Each (IsWantedFor Right log key staged) receipts
  pub unlent : lends → ⊥

-- Memory was refused: a plan takes some. One that is brief takes none where no page wants a read.
abbrev pub TakesMemory : (lends Right : Type 0) → (n : ℕ) → Question → List StagedPage → (ℕ → Option HybridLog) → Type 0
TakesMemory lends Right n question staged logs = Right → AreAtHand lends n logs question.keys staged → question.Brief → ⊥

module _ {R : Type 0} where
  -- Parts over which these keys may be looked up: they can be lent, and there is a part for each key.
  pub record MayLookUp (Lent : Type 0) (n : ℕ) (parts : ℕ → Option (Shard R)) (keys : List Bytes) : Type 0 where
    pub can_lend : Lent
    pub there : AreThere n parts keys

  -- The same of a key that is given a value or deleted, which weighs no more than may be written.
  pub record MayPut (Lent : Type 0) (n : ℕ) (parts : ℕ → Option (Shard R)) (write : Write) : Type 0 where
    pub may : MayLookUp Lent n parts (write.0 ∷ [])
    pub light : weigh write ≤ WEIGHT_MAX

  -- The same of a call that makes an entry, and whose writes have their place in a page.
  pub record MayPlan (Lent : Type 0) (n : ℕ) (parts : ℕ → Option (Shard R)) (call : Call) : Type 0 where
    pub may : MayLookUp Lent n parts (call_keys call)
    pub entry : IsEntry call
    pub place : IsPlaced call

  -- by why a plan was not made
  abbrev pub MatchStop : Stop R → (cold : List Kept → Type 0) → (memory fault : Type 0) → (full : ℕ → Type 0) → Type 0
  MatchStop (stop.Cold receipts) cold memory fault full = cold receipts
  MatchStop stop.OutOfMemory cold memory fault full = memory
  MatchStop stop.DeviceFault cold memory fault full = fault
  MatchStop (stop.StoreFull stripe) cold memory fault full = full stripe

  -- The value of a key, as parts have it, and a GET of the key is due to be answered by it.
  pub record IsValue (Right : Type 0) (contents : Meaning (Shard R)) (n : ℕ) (parts : ℕ → Option (Shard R)) (key : Bytes) (value : Option Bytes) : Type 0 where
    pub is : Right → value ≡ joined contents n parts key
    pub due : Right → (seen : History) → AllRead contents n parts (after seen) → IsPlan seen (Run (Get key)) (value_reply value) []

  -- a lookup found no value: pages are wanted for it, or memory was refused
  abbrev pub HasMissed : (lends Right : Type 0) (n : ℕ) → Question → List StagedPage → (ℕ → Option HybridLog) → Stop R → Type 0
  HasMissed lends Right n question staged logs stop =
      MatchStop stop (AreWanted lends Right n question.keys staged logs) (TakesMemory lends Right n question staged logs) ⊥ (λ stripe. ⊥)

  -- the same of a key in its part
  abbrev pub MissedAt : (lends Right : Type 0) (part : Shard R) (key : Bytes) → List StagedPage → Stop R → Type 0
  MissedAt lends Right part key staged stop =
      MatchStop stop (AreWantedAt lends Right (shard_log part) key staged)
      (Right → IsAtHand lends (shard_log part) staged → length (unwrap_or (shard_store part key) []) ≤ WORD_INLINE → ⊥)
      ⊥ (λ stripe. ⊥)

  -- as many calls of a device failed as what came of a plan says
  abbrev pub HaveFailed : {A : Type 0} → Result A (Stop R) → (before now : ℕ) → Type 0
  HaveFailed (Ok value) before now = now ≡ before
  HaveFailed (Err stop) before now = now ≡ before + faults stop

  -- the same of an error that has a stop
  abbrev pub HaveFailedBy : {A H : Type 0} (stop_of : H → Stop R) → Result A H → (before now : ℕ) → Type 0
  HaveFailedBy stop_of (Ok value) before now = now ≡ before
  HaveFailedBy stop_of (Err halt) before now = now ≡ before + faults (stop_of halt)

  -- a command is asked on parts that are read as such a store
  pub record RunsOn (contents : Meaning (Shard R)) (n : ℕ) (parts : ℕ → Option (Shard R)) (command : Command) (seen : History) (operation : Operation) : Type 0 where
    pub read : AllRead contents n parts (after seen)
    pub is : operation ≡ Run command

  -- a transaction none of whose watched keys was written
  pub record ExecsOn (contents : Meaning (Shard R)) (n : ℕ) (parts : ℕ → Option (Shard R)) (commands : List Command) (seen : History) (operation : Operation) : Type 0 where
    pub watched : List Pair
    pub read : AllRead contents n parts (after seen)
    pub clean : is_dirty seen watched ≡ false
    pub is : operation ≡ Exec commands watched

  -- a transaction of a session that watches these keys
  pub record ExecsWatching (contents : Meaning (Shard R)) (n : ℕ) (parts : ℕ → Option (Shard R)) (seat : ℕ) (watching : List Bytes) (commands : List Command) (seen : History) (operation : Operation) : Type 0 where
    pub watched : List Pair
    pub stand : Stand contents n parts seen seat watched
    pub ends : watching ≡ keys_of_pairs watched
    pub once : AreWatched watched watched
    pub is : operation ≡ Exec commands watched

  -- a call of a session, on values none of which is too long
  pub record AsksOn (contents : Meaning (Shard R)) (n : ℕ) (parts : ℕ → Option (Shard R)) (seat : ℕ) (call : Call) (seen : History) (operation : Operation) : Type 0 where
    pub asked : Asked
    pub watched : List Pair
    pub short : AllShort (joined contents n parts)
    pub asks : asked_of call ≡ Some asked
    pub stand : Stand contents n parts seen seat watched
    pub ends : EndsAll call watched
    pub once : AreWatched watched watched
    pub is : operation ≡ operation_of watched asked

  module _ (contents : Meaning (Shard R)) (n : ℕ) (parts : ℕ → Option (Shard R)) where
    -- what a command asks
    abbrev pub of_command : Command → Question
    of_command command = record { Asks = RunsOn contents n parts command; keys = keys_of command; Brief = IsPlannedInPlace (joined contents n parts) command }

    -- the same of one whose keys' values are copied
    abbrev pub of_copied : Command → Question
    of_copied command = record { Asks = RunsOn contents n parts command; keys = keys_of command; Brief = IsBriefOn (joined contents n parts) command }

    -- what a GET asks: it takes no memory for a value that is held inline
    abbrev pub of_get : Bytes → Question
    of_get key = record { Asks = RunsOn contents n parts (Get key); keys = key ∷ []; Brief = IsPlannedInPlace (joined contents n parts) (Get key) }

    -- what the commands of a transaction ask that is not dirty
    abbrev pub of_commands : List Command → Question
    of_commands commands = record { Asks = ExecsOn contents n parts commands; keys = keys_of_all commands; Brief = ⊥ }

    -- what a transaction asks
    abbrev pub of_exec : (seat : ℕ) → (watching : List Bytes) → List Command → Question
    of_exec seat watching commands = record { Asks = ExecsWatching contents n parts seat watching commands; keys = keys_of_all commands; Brief = ⊥ }

    -- what a call asks
    abbrev pub of_call : (seat : ℕ) → Call → Question
    of_call seat call = record { Asks = AsksOn contents n parts seat call; keys = keys_looked_up call; Brief = NeedsNoMemoryOn (joined contents n parts) call }

  -- The same of parts that are held, in words of what lends them. `steady` says whether their device is; `stripes_of`, `holder_of` and
  -- `part_of` are the lender's: how many stripes there are, which seat holds them, and the part of each.
  module _ {P : Type 0} (steady : Type 0) where
    module _ (stripes_of : P → ℕ) (part_of : P → ℕ → Option (Shard R)) (parts : P) where
      -- what a command asks
      abbrev pub asks_command : Command → Question
      asks_command command = of_command (shard_meaning steady) (stripes_of parts) (part_of parts) command

      -- the same of one whose keys' values are copied
      abbrev pub asks_copied : Command → Question
      asks_copied command = of_copied (shard_meaning steady) (stripes_of parts) (part_of parts) command

      -- what a GET asks
      abbrev pub asks_get : Bytes → Question
      asks_get key = of_get (shard_meaning steady) (stripes_of parts) (part_of parts) key

      -- what the commands of a transaction ask that is not dirty
      abbrev pub asks_commands : List Command → Question
      asks_commands commands = of_commands (shard_meaning steady) (stripes_of parts) (part_of parts) commands

      -- what was found is the value of a key
      abbrev pub IsValueIn : (Right : Type 0) (key : Bytes) (value : Option Bytes) → Type 0
      IsValueIn Right key value = IsValue Right (shard_meaning steady) (stripes_of parts) (part_of parts) key value

      -- no value of a key was found: pages are wanted for it, or memory was refused
      abbrev pub HasMissedIn : (lends Right : Type 0) (key : Bytes) → List StagedPage → Stop R → Type 0
      HasMissedIn lends Right key staged stop =
          HasMissed lends Right (stripes_of parts) (asks_get key) staged (logs_of (part_of parts)) stop

    module _ (stripes_of holder_of : P → ℕ) (part_of : P → ℕ → Option (Shard R)) (parts : P) where
      -- what a transaction of the holder asks
      abbrev pub asks_exec : (watching : List Bytes) → List Command → Question
      asks_exec watching commands = of_exec (shard_meaning steady) (stripes_of parts) (part_of parts) (holder_of parts) watching commands

      -- what a call of the holder asks
      abbrev pub asks_call : Call → Question
      asks_call call = of_call (shard_meaning steady) (stripes_of parts) (part_of parts) (holder_of parts) call

  -- No mark has changed, nor what keys have, whatever came of a plan. It begins no watch.
  pub record IsUnmarked (contents : Meaning (Shard R)) (n : ℕ) (before later : ℕ → Option (Shard R)) (result : Result Planned (Stop R)) : Type 0 where
    pub begun : IfOk result (λ planned. planned.begun ≡ [])
    pub became : Became contents n [] stays before later

  -- What becomes of marks where a call is planned: its session watches the keys that it begins to watch.
  pub record HasMarked (contents : Meaning (Shard R)) (n seat : ℕ) (keys : List Bytes) (before later : ℕ → Option (Shard R)) (planned : Planned) : Type 0 where
    pub became : Became contents n [] (begins seat keys) before later
    pub begun : HasBegun contents n seat planned.begun before later

  -- By what came of a plan: where there is none, no mark has changed, nor what keys have.
  abbrev pub AreMarks : {E : Type 0} (contents : Meaning (Shard R)) (n seat : ℕ) (keys : List Bytes) (before later : ℕ → Option (Shard R)) → Result Planned E → Type 0
  AreMarks contents n seat keys before later (Ok planned) = HasMarked contents n seat keys before later planned
  AreMarks contents n seat keys before later (Err stop) = Became contents n [] stays before later

  -- A plan wants pages, and nothing has changed at all.
  pub record WantsPages {D : Type 0} (lends Right : Type 0) (n : ℕ) (keys : List Bytes) (staged : List StagedPage) (before later : (ℕ → Option (Shard R)) × D) (receipts : List Kept) : Type 0 where
    pub wanted : AreWanted lends Right n keys staged (logs_of before.0) receipts
    pub untouched : later.0 ≡ before.0
    pub device : later.1 ≡ before.1

  -- Memory was refused, and no log has changed, nor the device.
  pub record LacksMemory {D : Type 0} (lends Right : Type 0) (n : ℕ) (question : Question) (staged : List StagedPage) (before later : (ℕ → Option (Shard R)) × D) : Type 0 where
    pub takes : TakesMemory lends Right n question staged (logs_of before.0)
    pub logs : SameLogs before.0 later.0
    pub device : later.1 ≡ before.1

  -- A plan that may be carried out: what it answers and writes is due, what it writes fits, and each stripe has room for its share of it.
  pub record IsReady (Due : Reply → List Write → Type 0) (n : ℕ) (later : ℕ → Option (Shard R)) (planned : Planned) : Type 0 where
    pub due : Due planned.reply planned.writes
    pub fits : AreFit planned.writes
    pub room : AreRoomy n (logs_of later) planned.writes

  -- A stripe is full that a call writes, whatever history it is asked on.
  pub record IsFullFor (Right : Type 0) (question : Question) (n : ℕ) (later : ℕ → Option (Shard R)) (stripe : ℕ) : Type 0 where
    pub full : IsFullAt (logs_of later) stripe
    pub below : stripe < n
    pub written : Right → (seen : History) (operation : Operation) → question.Asks seen operation → 0 < share n stripe (made seen operation)

  -- `wrote` is the device's, and `kept` shows a receipt. Parts and their device are taken together, as they were and as they are.
  module _ {D : Type 0} (wrote : D → List ℕ → R → D → Type 0) (kept : R → Kept) where
    -- A plan that was made: what it answers and writes is due; what it writes fits, and each stripe has room for its share of it and the frames that
    -- it leaves, no more pages having left their frames than that wants.
    pub record HasPlanned (Due : Reply → List Write → Type 0) (n : ℕ) (before later : (ℕ → Option (Shard R)) × D) (planned : Planned) : Type 0 where
      pub due : Due planned.reply planned.writes
      pub fits : AreFit planned.writes
      pub room : AreRoomy n (logs_of later.0) planned.writes
      pub made : MakesRoom wrote kept n n planned.writes (logs_of before.0) before.1 (logs_of later.0) later.1
      pub few : ShedFew n planned.writes (logs_of before.0) (logs_of later.0)
      pub left : LeaveFrames n planned.writes (logs_of before.0) (logs_of later.0)

    -- a stripe was met that is full, while room was made for writes, which are these
    abbrev pub FoundFull : (Made : List Write → Type 0) (n : ℕ) (before later : (ℕ → Option (Shard R)) × D) (stripe : ℕ) → Type 0
    FoundFull Made n before later stripe = MeetsFull wrote kept n stripe Made (logs_of before.0) before.1 (logs_of later.0) later.1

    -- A plan that was not made, by why.
    abbrev pub HasStopped : (lends Right : Type 0) → Question → (n : ℕ) → List StagedPage → (before later : (ℕ → Option (Shard R)) × D) → Stop R → Type 0
    HasStopped lends Right question n staged before later stop =
        MatchStop stop (WantsPages lends Right n question.keys staged before later) (LacksMemory lends Right n question staged before later)
        (FoundLacking (AreMade Right question) n (logs_of before.0) (logs_of later.0)) (FoundFull (AreMade Right question) n before later)

  -- What a plan leaves in any case: the device serves what it served, parts have beside their logs what they had, and no log has less room.
  pub record StillStands {D : Type 0} (Serves : D → D → Type 0) (before later : (ℕ → Option (Shard R)) × D) : Type 0 where
    pub serves : Serves before.1 later.1
    pub waits : SameWaits before.0 later.0
    pub rooms : KeepRoom (logs_of before.0) (logs_of later.0)

-- What is held is held still: parts can be lent, and nothing differs but parts.
pub record IsStillHeld {P : Type 0} (is_open : P → Type 0) (keeps : P → P → Type 0) (before later : P) : Type 0 where
  pub open_still : is_open later
  pub kept : keeps before later

-- What came of a plan of what is asked, whatever it came to. Parts and their device are taken together, as they were and as they are; the rest is
-- the device's, the receipts' and the lender's.
pub record CameOfPlan {P D R : Type 0} (wrote : D → List ℕ → R → D → Type 0) (serves : D → R → Type 0) (releases failures : D → ℕ) (identity shown : R → List ℕ) (steady honest lends : Type 0) (is_open : P → Type 0) (keeps : P → P → Type 0) (stripes_of : P → ℕ) (part_of : P → ℕ → Option (Shard R)) (staged : List StagedPage) (question : Question) (before later : P × D) (result : Result Planned (Stop R)) : Type 0 where
  -- one that was made is due, and there is room for it
  pub planned : IfOk result (HasPlanned wrote (kept_by identity shown) (AreDue (honest × AreRight staged) question) (stripes_of before.0) (part_of before.0, before.1) (part_of later.0, later.1))
  -- no mark has changed, nor what keys have
  pub unmarked : IsUnmarked (shard_meaning steady) (stripes_of before.0) (part_of before.0) (part_of later.0) result
  -- one that was not made says why
  pub stopped : IfErr result (HasStopped wrote (kept_by identity shown) lends (honest × AreRight staged) question (stripes_of before.0) staged (part_of before.0, before.1) (part_of later.0, later.1))
  -- the device serves what it served, parts have beside their logs what they had, and no log has less room
  pub stands : StillStands (StillServes serves releases) (part_of before.0, before.1) (part_of later.0, later.1)
  -- as many calls of the device failed as the result says
  pub failed : HaveFailed result (failures before.1) (failures later.1)
  -- what was held is held still
  pub held : IsStillHeld is_open keeps before.0 later.0
