-- What sessions ask of the shared store, and the keys that they watch.
use Rattle.std.specs.Prelude.{◌≡◌, List, [], ◌∷◌, ◌++◌, Option, Some, None, Result, Ok, Err}
use Rattle.words.specs.Store.{Bytes}
use Rattle.words.specs.Commands.{keys_of, keys_of_all}
use Rattle.words.specs.History.{is_among}
use Rattle.words.specs.Watches.{with_new}
use Rattle.words.specs.declared.reply.Reply.{Reply}
use Rattle.words.specs.declared.reply.Fault.{Fault}
use Rattle.words.specs.declared.reply.Line.{Line}
use Rattle.words.specs.declared.reply.Line.TheVariants.{Faulty}
use Rattle.words.specs.Session.{Asked, line_reply, value_reply}
use Rattle.words.specs.Session as asked
use Rattle.transact.specs.declared.call.Answer.{Answer}
use Rattle.transact.specs.declared.call.Answer.TheVariants as answer
use Rattle.transact.specs.declared.call.Call.{Call}
use Rattle.transact.specs.declared.call.Call.TheVariants.{One, Watch, Exec, Forget}

-- What a call asks of the store. One that ends the watches asks nothing: it has no place in the history.
abbrev pub asked_of : Call → Option Asked
asked_of (One command) = Some (asked.Run command)
asked_of (Watch keys) = Some (asked.Watch keys)
asked_of (Exec commands watching) = Some (asked.Exec commands)
asked_of (Forget watching) = None

-- the call of a session that watches these keys, the newest first, and asks this
abbrev pub call_of : List Bytes → Asked → Call
call_of watched (asked.Run command) = One command
call_of watched (asked.Watch keys) = Watch keys
call_of watched (asked.Exec commands) = Exec commands watched

-- the answer of one line, or of a fault
abbrev pub answer_of : Result Line Fault → Answer
answer_of (Ok said) = answer.Reply (line_reply said)
answer_of (Err fault) = answer.Fault fault

-- the answer that tells what a GET found, or a fault
abbrev pub answer_with : Result (Option Bytes) Fault → Answer
answer_with (Ok value) = answer.Reply (value_reply value)
answer_with (Err fault) = answer.Fault fault

-- what is said to an answer as it comes
abbrev pub reply_to : Answer → Reply
reply_to (answer.Reply reply) = reply
reply_to (answer.Fault fault) = line_reply (Faulty fault)

-- the keys that a call names
abbrev pub call_keys : Call → List Bytes
call_keys (One command) = keys_of command
call_keys (Watch keys) = keys
call_keys (Exec commands watching) = keys_of_all commands ++ watching
call_keys (Forget watching) = watching

-- what is watched, the newest first, where these keys are and those come to it, each once
abbrev pub watched_with : List Bytes → List Bytes → List Bytes
watched_with watched [] = watched
watched_with watched (key ∷ keys) = watched_with (with_new (is_among watched key) key watched) keys

-- what was watched earlier: others may have come to it since
abbrev pub IsEarlier : (old new : List Bytes) → Type 0
IsEarlier old new = (added : List Bytes) × (new ≡ added ++ old)
