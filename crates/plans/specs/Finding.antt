-- What is found of keys that are looked up.
use Rattle.std.specs.Prelude.{ℕ, ◌≡◌, ◌<◌, ◌∷◌, ◌++◌, [], List, Option}
use Rattle.words.specs.declared.command.Command.{Command}
use Rattle.words.specs.declared.reply.CommandReply.{CommandReply}
use Rattle.words.specs.Answers.{answer, value_of}
use Rattle.words.specs.Commands.{IsInline}
use Rattle.words.specs.Store.{Bytes, Store, Write, empty, written}
use Rattle.strings.specs.declared.writes.TheConstants.{WRITES_INLINE}
use Rattle.strings.specs.Overlays.{NeedsNoMemory}
use Rattle.gates.specs.Rule.{Meaning}
use Rattle.hybrid.specs.HybridLog.{HybridLog, Kept}
use Rattle.hybrid.specs.Staging.{StagedPage}
use Rattle.transact.specs.Memory.{of_one_key}
use Rattle.transact.specs.Tables.{joined}
use Rattle.shards.specs.declared.shard.Shard.{Shard}
use Rattle.shards.specs.Shards.{logs_of, shard_log, shard_meaning, shard_store}
use Rattle.plans.specs.declared.stop.Stop.{Stop}
use Rattle.plans.specs.Memory.{AreAtHand, IsAtHand}
use Rattle.plans.specs.Planning.{AreWantedAt, HasMissed, MatchStop, of_copied}
use Rattle.plans.specs.Sizes.{IsShort}
use Rattle.plans.specs.Stops.{HasFound, IsNeeded, IsWanted, IsWantedFor}

-- What the command answers and writes is the same on each store, so nothing of it is to be looked up.
abbrev pub ReadsNothing : Command → Type 0
ReadsNothing command = (one other : Store) → answer one command ≡ answer other command

-- What a command answers and writes that names this key alone, on what the key has, where that is right. No value is too long.
pub record AnswersOn (Right : Type 0) (store : Store) (key : Bytes) (command : Command) (done : CommandReply × List Write) : Type 0 where
  pub value : Option Bytes
  pub short : IsShort value
  pub is : Right → value ≡ store key
  pub answer_is : done ≡ answer (written empty ((key, value) ∷ [])) command

-- the receipt that the log keeps of the page of this number, which is neither resident nor staged, joins the cold ones
pub record JoinsWanted (log : HybridLog) (staged : List StagedPage) (number : ℕ) (cold_before cold : List Kept) : Type 0 where
  pub kept : Kept
  pub joins : cold ≡ cold_before ++ kept ∷ []
  pub wanted : IsWanted log staged kept
  pub number_is : wanted.number ≡ number

-- Receipts of pages that are wanted and what was found are taken together, as they were and as they are.
module _ {R : Type 0} where
  -- a lookup is cold at the page of this number: its receipt is wanted, and no other, or memory was refused for it
  abbrev pub WantsPage : HybridLog → List StagedPage → (number : ℕ) → Stop R → Type 0
  WantsPage log staged number stop = MatchStop stop (JoinsWanted log staged number []) (Unit {0}) ⊥ (λ stripe. ⊥)

  -- A command that names this key alone was not answered: a page is wanted for the key, or memory was refused, which the command needs on what
  -- the key has.
  abbrev pub MissedFor : (lends Right : Type 0) (part : Shard R) (key : Bytes) → Command → List StagedPage → Stop R → Type 0
  MissedFor lends Right part key command staged stop =
      MatchStop stop (AreWantedAt lends Right (shard_log part) key staged)
      (Right → IsAtHand lends (shard_log part) staged → NeedsNoMemory (of_one_key key (shard_store part key)) command → ⊥)
      ⊥ (λ stripe. ⊥)

  -- a key was looked up in its part
  abbrev pub LooksUpAt : (Right : Type 0) (part : Shard R) (key : Bytes) → List StagedPage → (before later : List Kept × List Write) → Type 0
  LooksUpAt Right part key staged before later =
      HasFound (IsWantedFor Right (shard_log part) key staged) Right (shard_store part) (key ∷ []) before.0 later.0 before.1 later.1

  -- keys were looked up in the parts of their stripes
  abbrev pub LooksUp : (Right : Type 0) (contents : Meaning (Shard R)) (n : ℕ) (parts : ℕ → Option (Shard R)) (keys : List Bytes) → List StagedPage
      → (before later : List Kept × List Write) → Type 0
  LooksUp Right contents n parts keys staged before later =
      HasFound (IsNeeded Right n (logs_of parts) keys staged) Right (joined contents n parts) keys before.0 later.0 before.1 later.1

  -- What is found of a key of a part takes no memory: no page wants a read; there is room for one write more; the key is held without an allocation,
  -- and so is its value, if it has one.
  pub record FindsInPlaceAt (lends Right : Type 0) (part : Shard R) (key : Bytes) (staged : List StagedPage) (count : ℕ) : Type 0 where
    pub is_right : Right
    pub hand : IsAtHand lends (shard_log part) staged
    pub few : count < WRITES_INLINE
    pub key_inline : IsInline key
    pub value_inline : IsInline (value_of (shard_store part key))

  -- the same of a key of its stripe
  pub record FindsInPlace (lends Right : Type 0) (contents : Meaning (Shard R)) (n : ℕ) (parts : ℕ → Option (Shard R)) (key : Bytes) (staged : List StagedPage) (count : ℕ) : Type 0 where
    pub is_right : Right
    pub hand : AreAtHand lends n (logs_of parts) (key ∷ []) staged
    pub few : count < WRITES_INLINE
    pub key_inline : IsInline key
    pub value_inline : IsInline (value_of (joined contents n parts key))

  -- The same of parts that are held, in words of what lends them.
  module _ {P : Type 0} (steady : Type 0) (stripes_of : P → ℕ) (part_of : P → ℕ → Option (Shard R)) (parts : P) where
    -- keys were looked up
    abbrev pub LooksUpIn : (Right : Type 0) (keys : List Bytes) → List StagedPage → (before later : List Kept × List Write) → Type 0
    LooksUpIn Right keys staged before later =
        LooksUp Right (shard_meaning steady) (stripes_of parts) (part_of parts) keys staged before later

    -- a command that names one key alone was answered on what the key has
    abbrev pub AnswersOnIn : (Right : Type 0) (key : Bytes) → Command → CommandReply × List Write → Type 0
    AnswersOnIn Right key command done = AnswersOn Right (joined (shard_meaning steady) (stripes_of parts) (part_of parts)) key command done

    -- a command was not answered: pages are wanted for its keys, or memory was refused
    abbrev pub HasMissedFor : (lends Right : Type 0) → Command → List StagedPage → Stop R → Type 0
    HasMissedFor lends Right command staged stop =
        HasMissed lends Right (stripes_of parts) (of_copied (shard_meaning steady) (stripes_of parts) (part_of parts) command) staged (logs_of (part_of parts)) stop

    -- what is found of a key takes no memory
    abbrev pub FindsInPlaceIn : (lends Right : Type 0) (key : Bytes) → List StagedPage → (count : ℕ) → Type 0
    FindsInPlaceIn lends Right key staged count =
        FindsInPlace lends Right (shard_meaning steady) (stripes_of parts) (part_of parts) key staged count
