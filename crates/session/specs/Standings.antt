-- Sessions as contracts see them: the mode, and the keys that are watched.
use Rattle.std.specs.Prelude.{◌≡◌, ◌-◌, List, [], ◌∷◌, drop, length, Option, Some, None}
use Rattle.words.specs.declared.reply.Line.TheVariants.{Faulty}
use Rattle.words.specs.declared.reply.Reply.{Reply}
use Rattle.words.specs.Store.{Bytes}
use Rattle.words.specs.Session.{Mode, Asked, Run, Watch, Exec, line_reply}
use Rattle.words.specs.Session as mode
use Rattle.transact.specs.declared.call.Call.{Call}
use Rattle.transact.specs.declared.call.Call.TheVariants.{Forget}
use Rattle.transact.specs.declared.call.Answer.{Answer}
use Rattle.transact.specs.declared.call.Answer.TheVariants as answer
use Rattle.transact.specs.Calls.{watched_with}
use Rattle.session.specs.declared.modes.Session.{Session}
use Rattle.session.specs.declared.modes.Idle.{Idle}
use Rattle.session.specs.declared.modes.Queueing.{Queueing}
use Rattle.session.specs.declared.modes.Spoiled.{Spoiled}
use Rattle.session.specs.declared.modes.Closed.{Closed}
use Rattle.session.specs.declared.modes.AnySession.{AnySession}
use Rattle.session.specs.declared.modes.AnySession.TheVariants as any
use Rattle.session.specs.declared.modes.Called.{Called}
use Rattle.session.specs.declared.modes.Then.{Then}
use Rattle.session.specs.declared.modes.Then.TheVariants as then

-- A session: its mode, and the keys that it watches, the newest first.
pub record Standing : Type 0 where
  pub mode : Mode
  pub watched : List Bytes

-- a session in this mode that watches these keys
abbrev pub stands : Mode → List Bytes → Standing
stands m watched = record { mode = m; watched = watched }

-- a session at the beginning
abbrev pub start : Standing
start = stands mode.Idle []

-- what a session watches, in whichever mode
abbrev pub watched_of : {M : Type 0} → Session M → List Bytes
watched_of session = session.watching

-- sessions in each mode
abbrev pub idle_of : Session Idle → Standing
idle_of session = stands mode.Idle session.watching

abbrev pub queueing_of : Session Queueing → Standing
queueing_of session = stands (mode.Queueing session.mode.queue session.mode.words session.mode.bytes) session.watching

abbrev pub spoiled_of : Session Spoiled → Standing
spoiled_of session = stands mode.Spoiled session.watching

abbrev pub closed_of : Session Closed → Standing
closed_of session = stands mode.Closed session.watching

-- a session in whichever mode it is
abbrev pub standing_of : AnySession → Standing
standing_of (any.Idle session) = idle_of session
standing_of (any.Queueing session) = queueing_of session
standing_of (any.Spoiled session) = spoiled_of session

-- the call that forgets these watched keys, exactly where there are some
abbrev pub forget_of : List Bytes → Option Call
forget_of [] = None
forget_of (key ∷ keys) = Some (Forget (key ∷ keys))

-- what is watched once the asked was answered by a reply, and by a fault: a transaction ends its watches whatever it is answered
abbrev pub watched_done : List Bytes → Asked → List Bytes
watched_done watched (Run command) = watched
watched_done watched (Watch keys) = watched_with watched keys
watched_done watched (Exec commands) = []

abbrev pub watched_faulty : List Bytes → Asked → List Bytes
watched_faulty watched (Run command) = watched
watched_faulty watched (Watch keys) = watched
watched_faulty watched (Exec commands) = []

-- What a session waits for.
pub data Wait : Type 0 where
  ForAnswer : (done faulty : Standing) → Wait  -- the answer to a call: how it stands after a reply, and after a fault
  ForEnd : Reply → Standing → Wait  -- the end of its watches: it then says this, and stands so

-- what a session waits for that watches these keys
abbrev pub wait_for : Then → List Bytes → Wait
wait_for then.Answers watched = ForAnswer (stands mode.Idle watched) (stands mode.Idle watched)
wait_for (then.AnswersOrTakesBack count) watched =
    ForAnswer (stands mode.Idle watched) (stands mode.Idle (drop (length watched - count) watched))
wait_for (then.Says line) watched = ForEnd (line_reply line) (stands mode.Idle watched)

abbrev pub wait_of : Called → Wait
wait_of called = wait_for called.then called.session.watching

-- what a session that waits says to the answer, and how it stands then
abbrev pub Resumes : Wait → Answer → Reply → Standing → Type 0
Resumes (ForAnswer done faulty) (answer.Reply given) reply new = (reply ≡ given) × (new ≡ done)
Resumes (ForAnswer done faulty) (answer.Fault fault) reply new = (reply ≡ line_reply (Faulty fault)) × (new ≡ faulty)
Resumes (ForEnd said after) answered reply new = (reply ≡ said) × (new ≡ after)
