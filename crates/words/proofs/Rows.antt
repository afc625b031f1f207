-- The words that computed rows are written in: requests as lines of words, what is written for them, replies and entries.
use Rattle.std.specs.Prelude.{ℕ, ℤ, ◌≡◌, Bool, true, false, List, [], ◌∷◌, Option, Some, None, Result, Ok, Err, nat_eq, codes}
use Prim.Native.String.{String}
use Rattle.words.specs.declared.command.Command.{Command}
use Rattle.words.specs.declared.command.Command.TheVariants.{Bad}
use Rattle.words.specs.declared.reply.Refusal.{Refusal}
use Rattle.words.specs.declared.reply.TransactionError.{TransactionError}
use Rattle.words.specs.declared.reply.Line.TheVariants.{Done, Queued, Refused, Misplaced}
use Rattle.words.specs.declared.reply.CommandReply.{CommandReply}
use Rattle.words.specs.declared.reply.Reply.{Reply}
use Rattle.words.specs.declared.reply.Reply.TheVariants.{Single}
use Rattle.words.specs.declared.history.Operation.TheVariants.{Run, Watch, Exec}
use Rattle.words.specs.declared.history.Entry.{Entry}
use Rattle.words.specs.Store.{Bytes, Store, empty, written}
use Rattle.words.specs.Numbers.{number_of}
use Rattle.words.specs.Commands.{command_of}
use Rattle.words.specs.Answers.{answers, line, bulk}
use Rattle.words.specs.Encoding.{encodings}
use Rattle.words.specs.History.{History, Pair, due, pairs_of, AreWatches, Extends}
use Rattle.words.specs.Session.{line_reply}
use Rattle.words.proofs.PlaceTests.{has_place, place_by}

-- a byte in front of the first word
abbrev pub in_front : ℕ → List Bytes → List Bytes
in_front byte [] = (byte ∷ []) ∷ []
in_front byte (word ∷ words) = (byte ∷ word) ∷ words

-- the same, or an empty word in front where the byte is a space
abbrev pub parted : (is_space : Bool) → ℕ → List Bytes → List Bytes
parted true byte words = [] ∷ words
parted false byte words = in_front byte words

-- what stands between the spaces of a line
abbrev pub split : Bytes → List Bytes
split [] = [] ∷ []
split (byte ∷ bytes) = parted (nat_eq byte 32) byte (split bytes)

-- the words of a line
abbrev pub words : String → List Bytes
words spaced = split (codes spaced)

-- the words of each of these lines
abbrev pub requests : List String → List (List Bytes)
requests [] = []
requests (first ∷ lines) = words first ∷ requests lines

-- the numbers that these texts are
abbrev pub numbers_of : List String → List (Option ℤ)
numbers_of [] = []
numbers_of (text ∷ texts) = number_of (codes text) ∷ numbers_of texts

-- a command, or one that is refused at once
abbrev pub kept : Result Command Refusal → Command
kept (Ok command) = command
kept (Err refusal) = Bad refusal

-- the commands that these lines are
abbrev pub commands : List String → List Command
commands [] = []
commands (first ∷ lines) = kept (command_of (words first)) ∷ commands lines

-- each answer as the reply of one request
abbrev pub singles : List CommandReply → List Reply
singles [] = []
singles (said ∷ others) = Single said ∷ singles others

-- the bytes that are written for these commands, run one after another on the empty store
abbrev pub wrote : List Command → Bytes
wrote run = encodings (singles (answers empty run).0)

-- the bytes that are written for these lines
abbrev pub said : List String → Bytes
said lines = wrote (commands lines)

-- the store that these lines leave
abbrev pub left : List String → Store
left lines = written empty (answers empty (commands lines)).1

-- Replies.

abbrev pub text : String → CommandReply
text bytes = bulk (Some (codes bytes))

abbrev pub null : CommandReply
null = bulk None

abbrev pub error : Refusal → CommandReply
error refusal = line (Refused refusal)

abbrev pub ok : Reply
ok = line_reply Done

abbrev pub queued : Reply
queued = line_reply Queued

abbrev pub misplaced : TransactionError → Reply
misplaced why = line_reply (Misplaced why)

-- Entries of a session: a line that was run, keys that are watched, lines that were run as a transaction.

abbrev pub ran : ℕ → String → CommandReply → Entry
ran session run reply = record { session = session; operation = Run (kept (command_of (words run))); reply = Single reply }

abbrev pub watched : ℕ → String → Entry
watched session keys = record { session = session; operation = Watch (words keys); reply = ok }

abbrev pub transaction : ℕ → List String → List Pair → Reply → Entry
transaction session lines pairs reply = record { session = session; operation = Exec (commands lines) pairs; reply = reply }

-- an entry that may stand after a history: it has a place there, the reply that is due to it, and goes by watches
pub stands : {before : History} {entry : Entry} → has_place entry.operation ≡ true → entry.reply ≡ due before entry.operation
    → AreWatches before entry.session (pairs_of entry.operation) → Extends before entry
stands {entry = entry} place reply_due watches = record { place = place_by entry.operation place; reply_due = reply_due; watches = watches }
