-- Histories: what sessions did to the shared store, as a map of byte strings would answer it.
use Rattle.std.specs.Prelude.{ℕ, ◌≡◌, ◌+◌, Bool, true, false, ◌||◌, ◌&&◌, List, [], ◌∷◌, ◌++◌, length, nat_lt, nat_eq, if◌then◌else◌, IsTrue}
use Rattle.std.specs.Str.{bytes_eq}
use Rattle.words.specs.declared.limits.TheConstants.{WEIGHT_MAX}
use Rattle.words.specs.declared.command.Command.{Command}
use Rattle.words.specs.declared.reply.Refusal.TheVariants.{WritesTooMuch}
use Rattle.words.specs.declared.reply.Line.TheVariants.{Done, Refused}
use Rattle.words.specs.declared.reply.Item.TheVariants as item
use Rattle.words.specs.declared.reply.CommandReply.TheVariants as command_reply
use Rattle.words.specs.declared.reply.Reply.{Reply}
use Rattle.words.specs.declared.reply.Reply.TheVariants as reply
use Rattle.words.specs.declared.history.Operation.{Operation}
use Rattle.words.specs.declared.history.Operation.TheVariants.{Run, Watch, Exec}
use Rattle.words.specs.declared.history.Entry.{Entry}
use Rattle.words.specs.Store.{Bytes, Store, Write, empty, written, writes_key, weight}
use Rattle.words.specs.Commands.{touches_keys, keys_of, keys_of_all, MayBeQueued}
use Rattle.words.specs.Bounds.{IsBounded, AreBounded}
use Rattle.words.specs.Answers.{answer, answers, line}

-- A history: entries, the newest first. A position in it is the number of entries before an entry, so the newest of `entry ∷ before`
-- stands at position `length before`.
abbrev pub History : Type 0
History = List Entry

-- A watched key, with the position of the entry that began to watch it.
abbrev pub Pair : Type 0
Pair = Bytes × ℕ

-- what an operation answers on a store and writes, whatever its writes weigh and whatever was watched
abbrev pub outcome : Store → Operation → Reply × List Write
outcome store (Run command) = let one = answer store command in (reply.Single one.0, one.1)
outcome store (Watch keys) = (reply.Single (line Done), [])
outcome store (Exec commands pairs) = let all = answers store commands in (reply.Array all.0, all.1)

-- the line of a call whose writes weigh too much
abbrev pub too_much : Reply
too_much = reply.Single (line (Refused WritesTooMuch))

-- Whether a reply says that nothing was done: the null array, of a transaction that was not run, or the line of writes that weigh too
-- much.
abbrev pub was_not_done : Reply → Bool
was_not_done (reply.Single (command_reply.One (item.Line (Refused WritesTooMuch)))) = true
was_not_done reply.NullArray = true
was_not_done _ = false

-- what an entry writes, where this store stands before it
abbrev pub writes_of : Store → Entry → List Write
writes_of store entry = if was_not_done entry.reply then [] else (outcome store entry.operation).1

-- the store after a history, from the empty store on
abbrev pub after : History → Store
after [] = empty
after (entry ∷ before) = written (after before) (writes_of (after before) entry)

-- whether an entry of the history writes the key, from this position on
abbrev pub is_written : History → (from : ℕ) → Bytes → Bool
is_written [] from key = false
is_written (entry ∷ before) from key =
    (if nat_lt (length before) from then false else writes_key (writes_of (after before) entry) key) || is_written before from key

-- Whether a transaction that goes by these pairs and stands after this history is dirty: one of the keys was written after its position.
-- (Redis transactions page: WATCH.)
abbrev pub is_dirty : History → List Pair → Bool
is_dirty history [] = false
is_dirty history (pair ∷ pairs) = is_written history (pair.1 + 1) pair.0 || is_dirty history pairs

-- the watched keys that an operation goes by
abbrev pub pairs_of : Operation → List Pair
pairs_of (Run command) = []
pairs_of (Watch keys) = []
pairs_of (Exec commands pairs) = pairs

-- What an operation is answered that stands after this history: the null array where it is dirty, else the line of writes that weigh too
-- much where they do, else what it answers.
abbrev pub due : History → Operation → Reply
due before operation =
    let all = outcome (after before) operation in
    if is_dirty before (pairs_of operation) then reply.NullArray
    else (if nat_lt WEIGHT_MAX (weight all.1) then too_much else all.0)

-- commands of which each may stand in a transaction
abbrev pub MayAllBeQueued : List Command → Type 0
MayAllBeQueued [] = Unit {0}
MayAllBeQueued (command ∷ commands) = MayBeQueued command × MayAllBeQueued commands

-- An operation that has a place in the history: not a single command that reads and writes no key, nor a transaction with a command that
-- may not stand in one; and none of a key or a value beyond the limits.
abbrev pub HasPlace : Operation → Type 0
HasPlace (Run command) = IsTrue (touches_keys command) × IsBounded command
HasPlace (Watch keys) = Unit {0}
HasPlace (Exec commands pairs) = MayAllBeQueued commands × AreBounded commands

-- whether the key is one of these
abbrev pub is_among : List Bytes → Bytes → Bool
is_among [] key = false
is_among (first ∷ keys) key = bytes_eq first key || is_among keys key

-- whether an operation begins to watch the key
abbrev pub begins_watch : Operation → Bytes → Bool
begins_watch (Run command) key = false
begins_watch (Watch keys) key = is_among keys key
begins_watch (Exec commands pairs) key = false

-- whether the entry at the pair's position is the session's, and begins to watch the pair's key
abbrev pub is_watch : History → (session : ℕ) → Pair → Bool
is_watch [] session pair = false
is_watch (entry ∷ before) session pair =
    if nat_eq (length before) pair.1 then nat_eq entry.session session && begins_watch entry.operation pair.0
    else is_watch before session pair

-- each of the pairs is an earlier watch of the session
abbrev pub AreWatches : History → (session : ℕ) → List Pair → Type 0
AreWatches history session [] = Unit {0}
AreWatches history session (pair ∷ pairs) = IsTrue (is_watch history session pair) × AreWatches history session pairs

-- An entry that may stand after this history: it has the reply that is due to it, and goes by watches of its own session.
pub record Extends (before : History) (entry : Entry) : Type 0 where
  pub place : HasPlace entry.operation
  pub reply_due : entry.reply ≡ due before entry.operation
  pub watches : AreWatches before entry.session (pairs_of entry.operation)

-- The history is one that a single thread could have made: each entry may stand after those before it.
abbrev pub Legal : History → Type 0
Legal [] = Unit {0}
Legal (entry ∷ before) = Legal before × Extends before entry

-- An entry with its position.
abbrev pub Placed : Type 0
Placed = ℕ × Entry

-- the entries of one session, each with its position, the newest first
abbrev pub subhistory : History → ℕ → List Placed
subhistory [] session = []
subhistory (entry ∷ before) session =
    if nat_eq entry.session session then (length before, entry) ∷ subhistory before session else subhistory before session

-- the keys of pairs
abbrev pub keys_of_pairs : List Pair → List Bytes
keys_of_pairs [] = []
keys_of_pairs (pair ∷ pairs) = pair.0 ∷ keys_of_pairs pairs

-- the keys that an operation names, those that it goes by among them
abbrev pub keys_named : Operation → List Bytes
keys_named (Run command) = keys_of command
keys_named (Watch keys) = keys
keys_named (Exec commands pairs) = keys_of_all commands ++ keys_of_pairs pairs
