-- Plans: what a call comes to.
use Rattle.std.specs.Prelude.{ℕ, ◌≡◌, ◌≢◌, ◌+◌, ◌↔◌, List, [], ◌∷◌, length, if◌then◌else◌, true, Option, Some, IsSome}
use Rattle.words.specs.declared.limits.TheConstants.{WEIGHT_OF_KEY}
use Rattle.words.specs.declared.reply.Reply.{Reply}
use Rattle.words.specs.declared.history.Operation.{Operation}
use Rattle.words.specs.Store.{Bytes, Write, writes_key}
use Rattle.words.specs.History.{History, Pair, after, due, outcome, was_not_done, writes_of, keys_of_pairs}
use Rattle.words.specs.Watches.{touched, mark_after}
use Rattle.words.specs.Stripes.{stripe_of}
use Rattle.words.specs.declared.history.Entry.{Entry}
use Rattle.gates.specs.Rule.{Meaning}
use Rattle.transact.specs.Tables.{AllRead, joined_marks}
use Rattle.gates.specs.Sets.{inserted}
use Rattle.words.specs.Commands.{touches_keys}
use Rattle.transact.specs.declared.call.Call.{Call}
use Rattle.transact.specs.declared.call.Call.TheVariants.{One, Watch, Exec, Forget}

-- a set of stripes with those of these keys
abbrev pub stripes_with : ℕ → List ℕ → List Bytes → List ℕ
stripes_with n stripes [] = stripes
stripes_with n stripes (key ∷ keys) = stripes_with n (inserted (stripe_of n key) stripes) keys

-- the writes that an operation makes where this history stands before it
abbrev pub made : History → Operation → List Write
made seen operation = if was_not_done (due seen operation) then [] else (outcome (after seen) operation).1

-- What a call is planned to answer and to write is what is due to its operation where this history stands before it.
pub record IsPlan (seen : History) (operation : Operation) (reply : Reply) (writes : List Write) : Type 0 where
  pub reply_due : reply ≡ due seen operation
  pub writes_due : writes ≡ made seen operation

-- what settings weigh, where a key counts with each value that it is given
abbrev pub weight_of_each : List (Bytes × Bytes) → ℕ
weight_of_each [] = 0
weight_of_each (setting ∷ settings) = WEIGHT_OF_KEY + length setting.0 + length setting.1 + weight_of_each settings

-- the keys that a call begins to watch
abbrev pub keys_begun : Call → List Bytes
keys_begun (One command) = []
keys_begun (Watch keys) = keys
keys_begun (Exec commands watching) = []
keys_begun (Forget watching) = []

-- the keys whose watches a call ends
abbrev pub keys_ended : Call → List Bytes
keys_ended (One command) = []
keys_ended (Watch keys) = []
keys_ended (Exec commands watching) = watching
keys_ended (Forget watching) = watching

-- a call that comes to an entry: a command that reads or writes keys, a watch, or a transaction
abbrev pub IsEntry : Call → Type 0
IsEntry (One command) = touches_keys command ≡ true
IsEntry (Watch keys) = Unit {0}
IsEntry (Exec commands watching) = Unit {0}
IsEntry (Forget watching) = ⊥

-- where a call ends watches, they are of all that its session watches
abbrev pub EndsAll : Call → List Pair → Type 0
EndsAll (One command) watched = Unit {0}
EndsAll (Watch keys) watched = Unit {0}
EndsAll (Exec commands watching) watched = watching ≡ keys_of_pairs watched
EndsAll (Forget watching) watched = watching ≡ keys_of_pairs watched

-- What becomes of parts by an entry behind this history: they read as their parts of the store that it leaves, the marks of its session are
-- as the entry leaves them, and those of other sessions are touched at the keys that it writes. Marks of keys of other stripes stay.
pub record IsInstalled {T : Type 0} (contents : Meaning T) (n : ℕ) (seen : History) (entry : Entry) (before later : ℕ → Option T) : Type 0 where
  pub there : (i : ℕ) → IsSome (before i) ↔ IsSome (later i)
  pub read : AllRead contents n later (after (entry ∷ seen))
  pub own : (key : Bytes) → IsSome (later (stripe_of n key)) → joined_marks contents n later key entry.session
      ≡ mark_after entry.operation (writes_key (writes_of (after seen) entry) key) key (joined_marks contents n before key entry.session)
  pub others : (key : Bytes) (number : ℕ) → IsSome (later (stripe_of n key)) → number ≢ entry.session → joined_marks contents n later key number
      ≡ touched (writes_key (writes_of (after seen) entry) key) (joined_marks contents n before key number)
  pub aside : (i : ℕ) (old new : T) → before i ≡ Some old → later i ≡ Some new → (key : Bytes) (number : ℕ) → stripe_of n key ≢ i
      → contents.marks new key number ≡ contents.marks old key number
