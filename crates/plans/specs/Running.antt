-- What comes of commands that run one after the other, each on what its keys have where it lies.
use Rattle.std.specs.Prelude.{ℕ, ◌≡◌, ◌++◌, ◌∷◌, [], List, Option, Some, None}
use Rattle.words.specs.declared.command.Command.{Command}
use Rattle.words.specs.declared.reply.CommandReply.{CommandReply}
use Rattle.words.specs.Answers.{answer, answers, is_some}
use Rattle.words.specs.Commands.{keys_of}
use Rattle.words.specs.Store.{Bytes, Store, Write, written}
use Rattle.gates.specs.Rule.{Meaning}
use Rattle.hybrid.specs.Writing.{AreFit}
use Rattle.transact.specs.Tables.{AreThere, joined, keys_written, values_of}
use Rattle.shards.specs.declared.shard.Shard.{Shard}
use Rattle.shards.specs.Shards.{shard_meaning}
use Rattle.plans.specs.declared.looks.Looks.{Looks}
use Rattle.plans.specs.declared.looks.Looks.TheVariants.{AtNothing, AtValue, AtItems, AtPresence}
use Rattle.plans.specs.Sizes.{AllShort, AreShort, IsShort}

-- What was found of a key: it is right where this holds, and no longer than a value may be.
pub record IsFound (Right : Type 0) (store : Store) (key : Bytes) (value : Option Bytes) : Type 0 where
  pub short : IsShort value
  pub is : Right → value ≡ store key

-- What a command answers and writes depends on what this key has alone.
abbrev pub ReadsOne : Bytes → Command → Type 0
ReadsOne key command = (one other : Store) → one key ≡ other key → answer one command ≡ answer other command

-- two stores have the same of these keys
abbrev pub AreAlike : List Bytes → Store → Store → Type 0
AreAlike [] one other = Unit {0}
AreAlike (key ∷ keys) one other = (is_some (one key) ≡ is_some (other key)) × AreAlike keys one other

-- What a command answers and writes depends on which of its keys are there, and not on their values.
abbrev pub AsksPresence : Command → Type 0
AsksPresence command = (one other : Store) → AreAlike (keys_of command) one other → answer one command ≡ answer other command

-- by what a command looks at
abbrev pub MatchLooks : Looks → (nothing : Type 0) → (value : Bytes → Type 0) → (items : List Bytes → Type 0) → (presence : Type 0) → Type 0
MatchLooks AtNothing nothing value items presence = nothing
MatchLooks (AtValue key) nothing value items presence = value key.now
MatchLooks (AtItems keys) nothing value items presence = items keys.now
MatchLooks AtPresence nothing value items presence = presence

-- an empty value in place of each value
abbrev pub stand_in : Option Bytes → Option Bytes
stand_in None = None
stand_in (Some value) = Some []

-- Which of these keys are there was shown. That is right where this holds.
pub record HasShown (Right : Type 0) (store : Store) (keys : List Bytes) (before after : List Write) : Type 0 where
  pub short : AreShort before → AreShort after
  pub is : Right → after ≡ before ++ values_of (λ key. stand_in (store key)) keys

-- A command was run on a store after these writes: the writes have gained its own.
pub record HasRun (store : Store) (command : Command) (before after : List Write) (reply : CommandReply) : Type 0 where
  pub reply_is : reply ≡ (answer (written store before) command).0
  pub writes_are : after ≡ before ++ (answer (written store before) command).1

-- A command was run on what was found of its keys, where the writes made before do not say what they have: where that is right, as on the store. What
-- it writes is what it writes on some store none of whose values is too long.
pub record HasRunOn (Right : Type 0) (store : Store) (command : Command) (before after : List Write) (reply : CommandReply) : Type 0 where
  pub found : Store
  pub short : AllShort found
  pub writes_are : after ≡ before ++ (answer (written found before) command).1
  pub is : Right → HasRun store command before after reply

-- Commands were run one after the other: where what was found is right, as on the store that parts have together. A page takes each key and value that
-- they write, and there is a part for each key.
pub record HaveRun {T : Type 0} (Right : Type 0) (contents : Meaning T) (n : ℕ) (parts : ℕ → Option T) (commands : List Command) (replies : List CommandReply) (writes : List Write) : Type 0 where
  pub fits : AreFit writes
  pub there : AreThere n parts (keys_written writes)
  pub are : Right → (replies, writes) ≡ answers (joined contents n parts) commands

-- The same of parts that are held, in words of what lends them.
module _ {R P : Type 0} (steady : Type 0) (stripes_of : P → ℕ) (part_of : P → ℕ → Option (Shard R)) (parts : P) where
  -- keys that were shown
  abbrev pub HasShownIn : (Right : Type 0) (keys : List Bytes) → (before after : List Write) → Type 0
  HasShownIn Right keys before after = HasShown Right (joined (shard_meaning steady) (stripes_of parts) (part_of parts)) keys before after

  -- a command
  abbrev pub HasRunIn : (Right : Type 0) → Command → (before after : List Write) → CommandReply → Type 0
  HasRunIn Right command before after reply =
      HasRunOn Right (joined (shard_meaning steady) (stripes_of parts) (part_of parts)) command before after reply

  -- commands
  abbrev pub HaveRunIn : (Right : Type 0) → List Command → List CommandReply → List Write → Type 0
  HaveRunIn Right commands replies writes = HaveRun Right (shard_meaning steady) (stripes_of parts) (part_of parts) commands replies writes
