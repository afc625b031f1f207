-- What a call that only reads is answered, and what it has appended to the buffer of its caller.
use Rattle.std.specs.Prelude.{ℕ, List, [], Option, Some, None, IfSome, Result, Ok, Err, false}
use Rattle.words.specs.declared.command.Command.{Command}
use Rattle.words.specs.declared.command.Command.TheVariants.{Get, MGet}
use Rattle.words.specs.declared.history.Operation.TheVariants as operation
use Rattle.words.specs.declared.reply.Fault.{Fault}
use Rattle.words.specs.declared.reply.Reply.{Reply}
use Rattle.words.specs.Encoding.{encoding}
use Rattle.words.specs.History.{History, after}
use Rattle.words.specs.Session.{Asked, Run, value_reply, values_reply}
use Rattle.words.specs.Store.{Bytes}
use Rattle.gates.specs.declared.held.Held.{Held}
use Rattle.gates.specs.declared.report.Report.TheVariants.{Nothing}
use Rattle.gates.specs.declared.view.Knowledge.{Knowledge}
use Rattle.gates.specs.Helds.{held_parts, held_stripes}
use Rattle.gates.specs.Sets.{part_at}
use Rattle.transact.specs.declared.call.Answer.{Answer}
use Rattle.transact.specs.declared.call.Answer.TheVariants as answer
use Rattle.transact.specs.declared.call.Call.{Call}
use Rattle.transact.specs.declared.call.Call.TheVariants.{One, Watch, Exec, Forget}
use Rattle.transact.specs.Plans.{IsPlan}
use Rattle.transact.specs.Tables.{AllRead}
use Rattle.shards.specs.declared.shard.Shard.{Shard}
use Rattle.shards.specs.Shards.{shard_meaning}
use Rattle.engine.specs.Answers.{IsAnswered}
use Rattle.engine.specs.Calls.{Promises}
use Rattle.engine.specs.Entering.{values_answer}
use Rattle.engine.specs.Passes.{know}
use Rattle.engine.specs.declared.enter.Entered.{Entered}
use Rattle.engine.specs.declared.exec.Came.{Came}
use Rattle.engine.specs.declared.exec.Came.TheVariants as came
use Rattle.engine.specs.declared.gather.GotAll.{GotAll}
use Rattle.engine.specs.declared.gather.GotAll.TheVariants as got_all
use Rattle.engine.specs.declared.get.Got.{Got}
use Rattle.engine.specs.declared.get.Got.TheVariants as got
use Rattle.engine.specs.declared.say.Saying.{Saying}
use Rattle.engine.specs.declared.say.Speaking.{Speaking}
use Rattle.engine.specs.declared.say.Speaking.TheVariants as speaking
use Rattle.engine.specs.declared.say.Spoken.{Spoken}
use Rattle.engine.specs.declared.say.Spoken.TheVariants as spoken
use Rattle.plans.specs.Telling.{AreGets, gets_reply}

-- the command that a call is which only reads
abbrev pub speaking_command : Speaking → Command
speaking_command (speaking.Key key) = Get key.now
speaking_command (speaking.Keys keys) = MGet keys.now

-- what it asks
abbrev pub speaking_asked : Speaking → Asked
speaking_asked call = Run (speaking_command call)

-- the call that it stands for
abbrev pub speaking_call : Speaking → Call
speaking_call call = One (speaking_command call)

-- the reply that was appended
abbrev pub spoken_reply : Spoken → Reply
spoken_reply (spoken.Value value) = value_reply value
spoken_reply (spoken.Values items) = values_reply items
spoken_reply (spoken.Gets items) = gets_reply items

-- what is said to a call that has said this
abbrev pub saying_reply : Saying → Reply
saying_reply saying = spoken_reply saying.spoken.now

-- the answer to a call that has said its reply, or was refused by a fault
abbrev pub spoken_answer : Result Spoken Fault → Answer
spoken_answer (Ok said) = answer.Reply (spoken_reply said)
spoken_answer (Err fault) = answer.Fault fault

-- what it has appended
abbrev pub spoken_text : Result Spoken Fault → Bytes
spoken_text (Ok said) = encoding (spoken_reply said)
spoken_text (Err fault) = []

-- Such a call was answered by what it came to, if it came to something: by a pass that knew the one, and then knows the other. However many
-- calls of its device had failed, none has failed since. Of these stripes alone it was told that others had them.
abbrev pub WasSpoken : Promises → (stripes : List ℕ) → Speaking → Option (Result Spoken Fault) → (was now : Knowledge) → Type 0
WasSpoken promises stripes call result was now =
    (failures : ℕ) → IfSome result
    (λ spoken. IsAnswered promises stripes (speaking_call call) (spoken_answer spoken) (know was failures) (know now failures))

module _ {R : Type 0} where
  -- The reply that was appended is due to the call, after each history whose store the parts have.
  abbrev pub IsSpokenIn : (steady Right : Type 0) → Speaking → Held (Shard R) → Spoken → Type 0
  IsSpokenIn steady Right call held said =
      Right → (seen : History) → AllRead (shard_meaning steady) (held_stripes held) (part_at (held_parts held)) (after seen)
      → IsPlan seen (operation.Run (speaking_command call)) (spoken_reply said) []

-- the answer to a GET
abbrev pub got_answer : Result Got Fault → Answer
got_answer (Ok (got.Said said)) = answer.Reply (spoken_reply said)
got_answer (Ok (got.Found value)) = answer.Reply (value_reply value)
got_answer (Err fault) = answer.Fault fault

-- what it has appended
abbrev pub got_text : Result Got Fault → Bytes
got_text (Ok (got.Said said)) = encoding (spoken_reply said)
got_text (Ok (got.Found value)) = []
got_text (Err fault) = []

-- the answer to an MGET
abbrev pub got_all_answer : GotAll → Answer
got_all_answer (got_all.Said said) = answer.Reply (spoken_reply said)
got_all_answer (got_all.Gathered told) = values_answer told

-- what it has appended
abbrev pub got_all_text : GotAll → Bytes
got_all_text (got_all.Said said) = encoding (spoken_reply said)
got_all_text (got_all.Gathered told) = []

-- the answer to a call that may have said its reply
abbrev pub came_answer : Came → Answer
came_answer (came.Said said) = answer.Reply (spoken_reply said)
came_answer (came.Answered told) = told

-- what it has appended
abbrev pub came_text : Came → Bytes
came_text (came.Said said) = encoding (spoken_reply said)
came_text (came.Answered told) = []

-- where it has said its reply, this
abbrev pub IfSaid : Came → Type 0 → Type 0
IfSaid (came.Said said) P = P
IfSaid (came.Answered told) P = Unit {0}

-- what a transaction of GETs came to, where one that was not answered ends no watches, and tells nothing
abbrev pub as_spoke : Option (Entered (Result Spoken Fault)) → Entered (Option (Result Spoken Fault))
as_spoke (Some entered) = record { answer = Some entered.answer; ends = entered.ends; report = entered.report }
as_spoke None = record { answer = None; ends = false; report = Nothing }

-- it is a transaction of GETs
abbrev pub IsOfGets : Call → Type 0
IsOfGets (One command) = ⊥
IsOfGets (Watch keys) = ⊥
IsOfGets (Exec commands watching) = AreGets commands
IsOfGets (Forget watching) = ⊥
