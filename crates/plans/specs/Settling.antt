-- Commands of one key, settled on what the key has.
use Rattle.std.specs.Prelude.{ℕ, ◌≡◌, ◌≤◌, ◌∷◌, [], List, length, IfSome, None, Option, Some}
use Rattle.words.specs.declared.command.Command.{Command}
use Rattle.words.specs.declared.history.Operation.TheVariants.{Run}
use Rattle.words.specs.declared.limits.TheConstants.{VALUE_BYTES_MAX, WEIGHT_MAX}
use Rattle.words.specs.Answers.{answer}
use Rattle.words.specs.History.{History, after, outcome}
use Rattle.words.specs.Store.{Bytes, Store, Write}
use Rattle.words.specs.Stripes.{stripe_of}
use Rattle.strings.specs.Overlays.{AreInline, IsInlineReply}
use Rattle.hybrid.specs.HybridLog.{HybridLog}
use Rattle.hybrid.specs.Lookups.{IsInPlace}
use Rattle.hybrid.specs.declared.stripe.find.Spot.{Spot}
use Rattle.gates.specs.Rule.{Meaning}
use Rattle.transact.specs.Plans.{IsPlan}
use Rattle.transact.specs.Tables.{AllRead}
use Rattle.shards.specs.declared.shard.Shard.{Shard}
use Rattle.shards.specs.Shards.{logs_of, shard_meaning, weigh}
use Rattle.plans.specs.declared.settling.Change.{Change}
use Rattle.plans.specs.declared.settling.Change.TheVariants as change
use Rattle.plans.specs.declared.settling.Settled.{Settled}

-- what is written of a key that is changed so, where this value was given
abbrev pub changes : Change → (key value : Bytes) → List Write
changes change.Nothing key value = []
changes change.Given key value = (key, Some value) ∷ []
changes (change.Made text) key value = (key, Some text) ∷ []
changes change.Deleted key value = (key, None) ∷ []

-- this of the text that the key gets, if it gets one
abbrev pub IfGives : Change → (value : Bytes) → (Bytes → Type 0) → Type 0
IfGives change.Nothing value P = Unit {0}
IfGives change.Given value P = P value
IfGives (change.Made text) value P = P text
IfGives change.Deleted value P = Unit {0}

-- this of the bytes that are then a key's value in its record, if it is changed: none where it is deleted
abbrev pub IfWrites : Change → (value : Bytes) → (Bytes → Type 0) → Type 0
IfWrites change.Nothing value P = Unit {0}
IfWrites change.Given value P = P value
IfWrites (change.Made text) value P = P text
IfWrites change.Deleted value P = P []

-- The newest record of the key stands there, in the log of its stripe, and has room for this text in place.
abbrev pub IsSpot : (n : ℕ) → (logs : ℕ → Option HybridLog) → (key text : Bytes) → Spot → Type 0
IsSpot n logs key text spot = (log : HybridLog) → logs (stripe_of n key) ≡ Some log → IsInPlace log key (length text) spot.address

-- What was settled is what the command answers and writes where its key has this and it was given this value: on each store that has so.
abbrev pub SettlesAs : (Right : Type 0) (has : Option Bytes) → Command → (key value : Bytes) → Settled → Type 0
SettlesAs Right has command key value done =
    Right → (store : Store) → store key ≡ has → outcome store (Run command) ≡ (done.reply, changes done.change key value)

-- what a command answers and writes on a store is held without an allocation
pub record IsInlineOn (store : Store) (command : Command) : Type 0 where
  pub reply : IsInlineReply (answer store command).0
  pub writes : AreInline (answer store command).1

module _ {R : Type 0} where
  -- What a command comes to, where this value was given: what it answers and writes is due to it after each history whose store the parts have. The
  -- text that its key gets is no longer than a value may be, and light beside the key; where a spot is told, it has room for what is written.
  pub record IsSettled (Right : Type 0) (contents : Meaning (Shard R)) (n : ℕ) (parts : ℕ → Option (Shard R)) (key value : Bytes) (command : Command) (settled : Settled) : Type 0 where
    pub due : Right → (seen : History) → AllRead contents n parts (after seen) → IsPlan seen (Run command) settled.reply (changes settled.change key value)
    pub light : IfGives settled.change value (λ text. weigh (key, Some text) ≤ WEIGHT_MAX)
    pub short : IfGives settled.change value (λ text. length text ≤ VALUE_BYTES_MAX)
    pub spot : IfSome settled.spot (λ spot. IfWrites settled.change value (λ text. IsSpot n (logs_of parts) key text spot))

  -- The same of parts that are held, in words of what lends them.
  module _ {P : Type 0} (steady : Type 0) (stripes_of : P → ℕ) (part_of : P → ℕ → Option (Shard R)) (parts : P) where
    abbrev pub IsSettledIn : (Right : Type 0) (key value : Bytes) → Command → Settled → Type 0
    IsSettledIn Right key value command settled =
        IsSettled Right (shard_meaning steady) (stripes_of parts) (part_of parts) key value command settled

  -- The same of a spot.
  module _ {P : Type 0} (stripes_of : P → ℕ) (part_of : P → ℕ → Option (Shard R)) (parts : P) where
    abbrev pub IsSpotIn : (key text : Bytes) → Spot → Type 0
    IsSpotIn key text spot = IsSpot (stripes_of parts) (logs_of (part_of parts)) key text spot
