-- What keys have, as a reply tells it.
use Rattle.std.specs.Prelude.{ℕ, [], ◌∷◌, Bool, true, false, IsTrue, List, Option, map}
use Rattle.words.specs.declared.command.Command.{Command}
use Rattle.words.specs.declared.command.Command.TheVariants.{Get, MGet}
use Rattle.words.specs.declared.history.Operation.TheVariants.{Run}
use Rattle.words.specs.declared.reply.CommandReply.TheVariants.{One}
use Rattle.words.specs.declared.reply.Item.{Item}
use Rattle.words.specs.declared.reply.Reply.{Reply}
use Rattle.words.specs.declared.reply.Reply.TheVariants as reply
use Rattle.words.specs.History.{History, after}
use Rattle.words.specs.Session.{values_reply}
use Rattle.words.specs.Store.{Bytes}
use Rattle.gates.specs.Rule.{Meaning}
use Rattle.transact.specs.Plans.{IsPlan}
use Rattle.transact.specs.Tables.{AllRead}
use Rattle.shards.specs.declared.shard.Shard.{Shard}
use Rattle.shards.specs.Shards.{shard_meaning}

-- whether a command is a GET
abbrev pub is_get : Command → Bool
is_get (Get key) = true
is_get _ = false

-- each of the commands is one
abbrev pub AreGets : List Command → Type 0
AreGets [] = Unit {0}
AreGets (command ∷ commands) = IsTrue (is_get command) × AreGets commands

-- the reply to a transaction of GETs that found these (Redis transactions page: an array of what its commands are answered)
abbrev pub gets_reply : List Item → Reply
gets_reply items = reply.Array (map One items)

module _ {R : Type 0} where
  -- The items that an MGET of these keys is due to be answered, after each history whose store the parts have.
  pub record AreValues (Right : Type 0) (contents : Meaning (Shard R)) (n : ℕ) (parts : ℕ → Option (Shard R)) (keys : List Bytes) (items : List Item) : Type 0 where
    pub due : Right → (seen : History) → AllRead contents n parts (after seen) → IsPlan seen (Run (MGet keys)) (values_reply items) []

  -- The same of parts that are held, in words of what lends them.
  module _ {P : Type 0} (steady : Type 0) (stripes_of : P → ℕ) (part_of : P → ℕ → Option (Shard R)) (parts : P) where
    abbrev pub AreValuesIn : (Right : Type 0) (keys : List Bytes) → List Item → Type 0
    AreValuesIn Right keys items = AreValues Right (shard_meaning steady) (stripes_of parts) (part_of parts) keys items
