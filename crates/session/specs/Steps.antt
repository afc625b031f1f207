-- What a request gives, by what it does to the session.
use Rattle.std.specs.Prelude.{◌≡◌, List, [], Option, Some, None}
use Rattle.words.specs.declared.reply.Reply.{Reply}
use Rattle.words.specs.declared.reply.Line.TheVariants.{Done, Queued}
use Rattle.words.specs.declared.command.Command.{Command}
use Rattle.words.specs.Store.{Bytes}
use Rattle.words.specs.History.{Pair, HasPlace}
use Rattle.words.specs.Session.{Mode, Turn, Says, Forgets, Tries, Calls, Never, Asked, Run, Watch, Exec, operation_of, line_reply, says, turn}
use Rattle.words.specs.Session as mode
use Rattle.transact.specs.declared.call.Call.{Call}
use Rattle.transact.specs.declared.call.Call.TheVariants.{Forget}
use Rattle.transact.specs.Calls.{asked_of, call_of, watched_with}
use Rattle.session.specs.declared.modes.Step.{Step}
use Rattle.session.specs.declared.modes.Step.TheVariants as step
use Rattle.session.specs.declared.modes.Session.{Session}
use Rattle.session.specs.declared.modes.Queueing.{Queueing}
use Rattle.session.specs.declared.modes.Taken.{Taken}
use Rattle.session.specs.declared.modes.Taken.TheVariants as taken
use Rattle.session.specs.declared.modes.Leaving.{Leaving}
use Rattle.session.specs.declared.modes.Leaving.TheVariants as leaving
use Rattle.session.specs.Standings.{Standing, stands, standing_of, queueing_of, closed_of, Wait, ForAnswer, ForEnd, wait_of, watched_done, watched_faulty}

-- a request that does this, of a session that watches these keys, is answered with this reply, and leaves the session so
abbrev pub IsSaid : Turn → List Bytes → Reply → Standing → Type 0
IsSaid (Says said next) watched reply new = (reply ≡ said) × (new ≡ stands next watched)
IsSaid (Forgets said next) watched reply new = (watched ≡ []) × (reply ≡ said) × (new ≡ stands next [])
IsSaid (Tries said done faulty) watched reply new = (reply ≡ said) × (new ≡ stands done watched)
IsSaid (Calls asked done faulty) watched reply new = ⊥
IsSaid Never watched reply new = ⊥

-- it makes this call, and the session then waits for this
abbrev pub IsAsked : Turn → List Bytes → Call → Wait → Type 0
IsAsked (Calls asked done faulty) watched call wait =
    (call ≡ call_of watched asked)
    × (wait ≡ ForAnswer (stands done (watched_done watched asked)) (stands faulty (watched_faulty watched asked)))
IsAsked (Forgets said next) watched call wait = (¬ (watched ≡ [])) × (call ≡ Forget watched) × (wait ≡ ForEnd said (stands next []))
IsAsked (Says said next) watched call wait = ⊥
IsAsked (Tries said done faulty) watched call wait = ⊥
IsAsked Never watched call wait = ⊥

-- a key comes to these that are watched
abbrev pub BringsKey : List Bytes → Asked → Type 0
BringsKey watched (Watch keys) = ¬ (watched_with watched keys ≡ watched)
BringsKey watched (Run command) = ⊥
BringsKey watched (Exec commands) = ⊥

-- it wants memory, for a command that is to be queued or for a key that is to be watched, and leaves the session so where there is none
abbrev pub IsOutOfMemory : Turn → List Bytes → Standing → Type 0
IsOutOfMemory (Tries said done faulty) watched new = (said ≡ line_reply Queued) × (new ≡ stands faulty watched)
IsOutOfMemory (Calls asked done faulty) watched new = BringsKey watched asked × (new ≡ stands faulty watched)
IsOutOfMemory (Says said next) watched new = ⊥
IsOutOfMemory (Forgets said next) watched new = ⊥
IsOutOfMemory Never watched new = ⊥

-- what is asked has its place in the history, whatever pairs the session watches
abbrev pub HasItsPlace : Option Asked → Type 0
HasItsPlace None = Unit {0}
HasItsPlace (Some asked) = (pairs : List Pair) → HasPlace (operation_of pairs asked)

-- What a request gives that does this, of a session that watches these keys. A call asks for what has its place in the history.
abbrev pub Gives : Turn → List Bytes → Step → Type 0
Gives turned watched (step.Says reply session) = IsSaid turned watched reply (standing_of session)
Gives turned watched (step.Closes reply session) = IsSaid turned watched reply (closed_of session)
Gives turned watched (step.OutOfMemory session) = IsOutOfMemory turned watched (standing_of session)
Gives turned watched (step.Calls call called) = IsAsked turned watched call (wait_of called) × HasItsPlace (asked_of call)

-- what a request of these words gives, of a session that stands so
abbrev pub IsStep : Standing → (words : List Bytes) → Step → Type 0
IsStep old words result = Gives (turn old.mode old.watched words) old.watched result

-- a request that does this leaves a transaction of these commands so
abbrev pub IsLeft : Turn → List Command → Leaving → Type 0
IsLeft turned queue (leaving.Spoils line) = turned ≡ says line mode.Spoiled
IsLeft turned queue leaving.OutOfMemory = (done : Mode) × (turned ≡ Tries (line_reply Queued) done mode.Spoiled)
IsLeft turned queue leaving.Runs = turned ≡ Calls (Exec queue) mode.Idle mode.Idle
IsLeft turned queue leaving.Discards = turned ≡ Forgets (line_reply Done) mode.Idle
IsLeft turned queue leaving.Quits = turned ≡ says Done mode.Closed

-- What a request comes to that does this, of a session that is in a transaction, and how the session is then. One that leaves the
-- transaction is as it was.
abbrev pub IsTaken : Turn → (old : Session Queueing) → Taken → (new : Session Queueing) → Type 0
IsTaken turned old (taken.Stays line) new = IsSaid turned old.watching (line_reply line) (queueing_of new)
IsTaken turned old (taken.Leaves left) new = IsLeft turned old.mode.queue left × (new ≡ old)
