-- What a client does: the core of a connection, between the bytes that it is fed and the calls and replies that it gives.
use Rattle.std.specs.Prelude.{◌≡◌, ◌⊎◌, List, [], ◌++◌}
use Rattle.words.specs.declared.command.Command.{Command}
use Rattle.words.specs.declared.reply.Reply.{Reply}
use Rattle.words.specs.Store.{Bytes}
use Rattle.words.specs.Spelling.{IsRequest, spelling}
use Rattle.words.specs.Stream as stream
use Rattle.words.specs.Commands.{command_of, AsksNoMemory}
use Rattle.words.specs.Session.{Mode, Idle, Queueing, Spoiled, Closed, Turn, turn}
use Rattle.resp_read.specs.Memory.{FitInline}
use Rattle.transact.specs.declared.call.Answer.{Answer}
use Rattle.transact.specs.declared.call.Answer.TheVariants as answer
use Rattle.session.specs.Standings.{Standing, Wait, stands, standing_of, closed_of, wait_of, start}
use Rattle.session.specs.Standings as standings
use Rattle.session.specs.Steps.{IsSaid, IsAsked, IsOutOfMemory, HasItsPlace}
use Rattle.transact.specs.Calls.{asked_of}
use Rattle.connection.specs.declared.state.State.{State}
use Rattle.connection.specs.declared.state.State.TheVariants as state
use Rattle.connection.specs.declared.client.Front.{Front}
use Rattle.connection.specs.declared.client.Front.TheVariants as front
use Rattle.connection.specs.declared.client.Next.{Next}
use Rattle.connection.specs.declared.client.Next.TheVariants as next

-- how far a session has come
pub data Stage : Type 0 where
  Ready : Standing → Stage  -- it waits for a request and stands so, or has ended
  Called : Wait → Stage  -- it waits for the answer to a call
  Stepping : Stage  -- its next step is taken: it is never seen so

-- how far a client has come: the bytes that it was fed and whose requests are not taken up yet, and its session
pub record Progress : Type 0 where
  pub unread : Bytes
  pub stage : Stage

-- the stage that a client keeps
abbrev pub stage_of : State → Stage
stage_of (state.Ready session) = Ready (standing_of session)
stage_of (state.Called called) = Called (wait_of called)
stage_of (state.Closed session) = Ready (closed_of session)
stage_of state.Stepping = Stepping

-- a client at the beginning
abbrev pub beginning : Progress
beginning = record { unread = []; stage = Ready start }

-- the session waits for a request, or has ended
abbrev pub IsReady : Stage → Type 0
IsReady (Ready stands) = Unit {0}
IsReady (Called wait) = ⊥
IsReady Stepping = ⊥

-- the session waits for an answer
abbrev pub IsCalled : Stage → Type 0
IsCalled (Ready stands) = ⊥
IsCalled (Called wait) = Unit {0}
IsCalled Stepping = ⊥

-- the mode in which it waits for a request
abbrev pub mode_of : Stage → Mode
mode_of (Ready stands) = stands.mode
mode_of (Called wait) = Closed
mode_of Stepping = Closed

-- the keys that it watches then, the newest first
abbrev pub watched_of : Stage → List Bytes
watched_of (Ready stands) = stands.watched
watched_of (Called wait) = []
watched_of Stepping = []

-- the session has not ended
abbrev pub IsOpen : Mode → Type 0
IsOpen Idle = Unit {0}
IsOpen (Queueing queue words bytes) = Unit {0}
IsOpen Spoiled = Unit {0}
IsOpen Closed = ⊥

-- the session is in a transaction whose commands are queued
abbrev pub IsQueueing : Mode → Type 0
IsQueueing Idle = ⊥
IsQueueing (Queueing queue words bytes) = Unit {0}
IsQueueing Spoiled = ⊥
IsQueueing Closed = ⊥

-- the commands that are queued
abbrev pub queue_of : Mode → List Command
queue_of Idle = []
queue_of (Queueing queue words bytes) = queue
queue_of Spoiled = []
queue_of Closed = []

-- a request is taken off the front of the bytes
pub record TakesOff (old : Bytes) (words : List Bytes) (new : Bytes) : Type 0 where
  pub request : IsRequest words
  pub taken : old ≡ spelling words ++ new

-- what a request does to a session at this stage
abbrev pub turn_at : Stage → List Bytes → Turn
turn_at stage words = turn (mode_of stage) (watched_of stage) words

-- Memory is asked for at the front of the bytes: a request stands there whose words are more or longer than are held without an
-- allocation, or whose command keeps such words or a list of them.
abbrev pub WantsMemory : Bytes → Type 0
WantsMemory unread =
    (words : List Bytes) × (rest : Bytes) × TakesOff unread words rest × ((¬ FitInline words) ⊎ (¬ AsksNoMemory (command_of words)))

-- What a request does to a session at this stage that is answered, or makes a call, and the stage after it.
abbrev pub Steps : Stage → List Bytes → Next → Stage → Type 0
Steps old words (next.Says reply) new =
    (after : Standing) × (new ≡ Ready after) × IsSaid (turn_at old words) (watched_of old) reply after
Steps old words next.SaysOutOfMemory new =
    (after : Standing) × (new ≡ Ready after) × IsOutOfMemory (turn_at old words) (watched_of old) after
Steps old words (next.Calls call) new =
    (wait : Wait) × (new ≡ Called wait) × IsAsked (turn_at old words) (watched_of old) call wait × HasItsPlace (asked_of call)
Steps old words _ new = ⊥

-- a request is taken off the front of what is unread, and does this
abbrev pub TakesUp : Progress → Next → Progress → Type 0
TakesUp old done new = (words : List Bytes) × TakesOff old.unread words new.unread × Steps old.stage words done new.stage

-- What a client that has come so far does next, and how far it has come then. It finds no memory where the words of the request at the
-- front are more or longer than are held without an allocation, and stands as before; or where its command keeps such words, and it is
-- taken off.
abbrev pub Gives : Progress → Next → Progress → Type 0
Gives old next.Input new = (stream.front old.unread ≡ stream.Part) × IsOpen (mode_of old.stage) × (new ≡ old)
Gives old (next.Says reply) new = TakesUp old (next.Says reply) new
Gives old next.SaysOutOfMemory new = TakesUp old next.SaysOutOfMemory new
Gives old (next.Calls call) new = TakesUp old (next.Calls call) new
Gives old (next.Malformed fault) new = (stream.front old.unread ≡ stream.Faulty fault) × IsOpen (mode_of old.stage) × (new ≡ old)
Gives old next.Closed new = (mode_of old.stage ≡ Closed) × (new ≡ old)
Gives old next.OutOfMemory new =
    (words : List Bytes) × (rest : Bytes) × TakesOff old.unread words rest × IsOpen (mode_of old.stage)
    × (((¬ FitInline words) × (new ≡ old)) ⊎ ((¬ AsksNoMemory (command_of words)) × (new ≡ record old { unread = rest })))

-- a client that has come so far, before a request of these words was taken off
abbrev pub before : List Bytes → Progress → Progress
before words at = record at { unread = spelling words ++ at.unread }

-- What stands at the front of a client that has come so far, whose words these are where it is a request, and how far it has come then.
abbrev pub Stands : Progress → Front → List Bytes → Progress → Type 0
Stands old front.Request words new = IsRequest words × (old ≡ before words new) × IsOpen (mode_of old.stage)
Stands old front.Input words new = Gives old next.Input new
Stands old (front.Malformed fault) words new = Gives old (next.Malformed fault) new
Stands old front.OutOfMemory words new = Gives old next.OutOfMemory new
Stands old front.Closed words new = Gives old next.Closed new

-- the session is in no transaction, and waits for a request
abbrev pub IsIdle : Stage → Type 0
IsIdle stage = (watched : List Bytes) × (stage ≡ Ready (stands Idle watched))

-- what a session at this stage says to the answer of its call, and at which stage it then is
abbrev pub Resumes : Stage → Answer → Reply → Stage → Type 0
Resumes (Ready stands) answer reply new = ⊥
Resumes (Called wait) answer reply new = (after : Standing) × (new ≡ Ready after) × standings.Resumes wait answer reply after
Resumes Stepping answer reply new = ⊥

-- the session goes on behind its call as it does whichever reply it is answered with
abbrev pub ResumesSaid : Stage → Stage → Type 0
ResumesSaid old new = (given : Reply) → (said : Reply) × Resumes old (answer.Reply given) said new
