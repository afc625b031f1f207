-- Calls that are submitted: what they ask, which stripes they need, and their answers by cases.
use Rattle.std.specs.Prelude.{ℕ, List, []}
use Rattle.words.specs.declared.reply.Reply.{Reply}
use Rattle.words.specs.declared.reply.Fault.{Fault}
use Rattle.words.specs.Session.{Asked}
use Rattle.words.specs.Session as asked
use Rattle.transact.specs.Calls.{call_keys}
use Rattle.transact.specs.Plans.{stripes_with}
use Rattle.transact.specs.declared.call.Answer.{Answer}
use Rattle.transact.specs.declared.call.Answer.TheVariants as answer
use Rattle.transact.specs.declared.call.Call.{Call}
use Rattle.transact.specs.declared.call.Call.TheVariants.{One, Watch, Exec, Forget}

-- what a call asks that comes to an entry (one that ends the watches does not)
abbrev pub asked_for : Call → Asked
asked_for (One command) = asked.Run command
asked_for (Watch keys) = asked.Watch keys
asked_for (Exec commands watching) = asked.Exec commands
asked_for (Forget watching) = asked.Exec []

-- the stripes of a call's keys, of so many
abbrev pub stripes_asked : ℕ → Call → List ℕ
stripes_asked count call = stripes_with count [] (call_keys call)

-- where the answer is a reply, it is such
abbrev pub IfReply : Answer → (Reply → Type 0) → Type 0
IfReply (answer.Reply reply) P = P reply
IfReply (answer.Fault fault) P = Unit {0}

-- where the answer is a fault, it is such
abbrev pub IfFault : Answer → (Fault → Type 0) → Type 0
IfFault (answer.Reply reply) P = Unit {0}
IfFault (answer.Fault fault) P = P fault
