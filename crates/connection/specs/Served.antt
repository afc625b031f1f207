-- What serving one connection did, for each way in which it ends.
use Rattle.std.specs.Prelude.{ℕ, ◌≡◌, ◌≢◌, ◌<◌, ◌≤◌, ◌⊎◌, List, [], ◌∷◌, ◌++◌, length, Option, Some, None}
use Rattle.words.specs.declared.reply.ProtocolFault.{ProtocolFault}
use Rattle.words.specs.declared.reply.Reply.{Reply}
use Rattle.words.specs.declared.reply.Fault.{Fault}
use Rattle.words.specs.declared.reply.Line.TheVariants as line
use Rattle.words.specs.Store.{Bytes}
use Rattle.words.specs.Spelling.{spellings, AreRequests}
use Rattle.words.specs.Stream.{front, Part, Faulty}
use Rattle.words.specs.Stream as stream
use Rattle.words.specs.Encoding.{encoding, encodings}
use Rattle.words.specs.History.{Pair, Placed, keys_of_pairs}
use Rattle.words.specs.Session.{Asked, Mode, Idle, Closed, Turn, Calls, Transcript, line_reply, value_reply, values_reply}
use Rattle.gates.specs.declared.view.Note.{Note}
use Rattle.streams.specs.declared.observed.Told.{Told}
use Rattle.streams.specs.declared.observed.Told.TheVariants as told
use Rattle.engine.specs.Passes.{Known}
use Rattle.engine.specs.Calls.{Promises, IsCause}
use Rattle.engine.specs.Got.{spoken_reply}
use Rattle.connection.specs.declared.answering.Due.{Due}
use Rattle.connection.specs.declared.answering.Due.TheVariants as due
use Rattle.connection.specs.declared.serving.Ended.{Ended}
use Rattle.connection.specs.declared.serving.Ended.TheVariants as ended
use Rattle.connection.specs.declared.answering.Paused.{Paused}
use Rattle.connection.specs.declared.answering.Paused.TheVariants as paused
use Rattle.connection.specs.declared.reading.TheConstants.{PIECE_BYTES}
use Rattle.connection.specs.declared.reading.Waiting.{Waiting}
use Rattle.connection.specs.declared.reading.Waiting.TheVariants as waiting
use Rattle.connection.specs.Clients.{Progress, beginning, before, IsIdle, IsReady, IsOpen, mode_of, watched_of, turn_at, TakesOff, WantsMemory}
use Rattle.connection.specs.Conversations.{Went, Leads, Conversation, Answers}

-- a client that was fed these bytes at once, and has answered none of them
abbrev pub fed_at_once : Bytes → Progress
fed_at_once bytes = record beginning { unread = bytes }

-- the line of a protocol fault
abbrev pub fault_line : ProtocolFault → Bytes
fault_line fault = encoding (line_reply (line.Malformed fault))

-- the whole text of a connection: the replies, and the line of the fault where the rest begins with one and it was met
abbrev pub IsWhole : Bytes → List Reply → Bytes → Type 0
IsWhole rest replies whole =
    (whole ≡ encodings replies)
    ⊎ ((fault : ProtocolFault) × (front rest ≡ Faulty fault) × (whole ≡ encodings replies ++ fault_line fault))

-- There was no memory to feed the client the piece that was read last. All whole requests of what it was fed before are answered: nothing or
-- a part of a request was left of that.
pub record LacksPiece (rest : Bytes) : Type 0 where
  pub fed : Bytes
  pub piece : Bytes
  pub joined : rest ≡ fed ++ piece
  pub waits : front fed ≡ Part
  pub some : 0 < length piece
  pub short : length piece ≤ PIECE_BYTES

-- For what a connection found no memory that read these bytes and left this rest of them.
pub data LacksMemory (bytes rest : Bytes) : Type 0 where
  ForOutput : bytes ≡ [] → LacksMemory bytes rest  -- for its output buffer, so nothing was read
  ForPiece : LacksPiece rest → LacksMemory bytes rest  -- for the reader, to take the piece that was read last
  ForRequest : WantsMemory rest → LacksMemory bytes rest  -- for the words of the whole request at the front, or for its command

-- What is left of the bytes, the mode of the session, and the text that was written, where a connection ended so. After the end of the
-- input, or a read that failed, all complete requests are answered and all is written. After QUIT the requests up to it are answered and
-- all is written. After a protocol fault all requests before it are answered, and its line is written last. After a write that failed, a
-- beginning of the text is written. Where it ended out of memory the requests before the one that found none are answered, and all is written.
abbrev pub Ends : Ended → (bytes rest : Bytes) → Mode → List Reply → (text : Bytes) → Type 0
Ends ended.EndOfInput bytes rest mode replies text = (front rest ≡ Part) × IsOpen mode × (text ≡ encodings replies)
Ends ended.Quit bytes rest mode replies text = (mode ≡ Closed) × (text ≡ encodings replies)
Ends ended.ProtocolFault bytes rest mode replies text =
    (fault : ProtocolFault) × (front rest ≡ Faulty fault) × IsOpen mode × (text ≡ encodings replies ++ fault_line fault)
Ends ended.ReadFailed bytes rest mode replies text = (front rest ≡ Part) × IsOpen mode × (text ≡ encodings replies)
Ends ended.WriteFailed bytes rest mode replies text = (whole more : Bytes) × IsWhole rest replies whole × (whole ≡ text ++ more)
Ends ended.NoMemory bytes rest mode replies text = LacksMemory bytes rest × IsOpen mode × (text ≡ encodings replies)

-- What a connection comes to over a device whose receipts promise this.
module _ (promises : Promises) where
  -- What was asked was answered by the line of a fault that had its cause, by a pass that knew the one, then knows the other and was told this
  -- meanwhile: the store was asked for what may want memory, or a call of the device failed, or a stripe that would be written was full, or
  -- commits are worn out.
  pub record IsFaulty (asked : Asked) (was now : Known) (told : List Note) (reply : Reply) : Type 0 where
    pub fault : Fault
    pub says : reply ≡ line_reply (line.Faulty fault)
    pub stripes : List ℕ
    pub cause : IsCause promises fault stripes asked was now told

  -- A request that asks the store makes its entry, and no call of the device has failed in it, or is answered by the line of a fault that had
  -- its cause. With any other request no call of the device has failed.
  abbrev pub Spares : Turn → (was now : Known) → List Note → List Placed → Reply → Type 0
  Spares (Calls asked done faulty) was now told own reply =
      (own ≡ [] → IsFaulty asked was now told reply) × (own ≢ [] → now.failures ≡ was.failures)
  Spares _ was now told own reply = now.failures ≡ was.failures

  -- the same of the request that was taken off
  abbrev pub Spared : Progress → (was now : Known) → List Note → List Placed → Progress → Reply → Type 0
  Spared old was now told own new reply =
      (words : List Bytes) × TakesOff old.unread words new.unread × Spares (turn_at old.stage words) was now told own reply

  -- The next turn of a client whose pass knew the one and then knows the other answered its request with this reply.
  pub record Turned (was now : Known) (old new : Progress) (reply : Reply) : Type 0 where
    pub own : List Placed
    pub went : Went was now own
    pub answers : Answers was.number own was.watched now.watched old new reply
    pub spared : Spared old was now went.told own new reply

  -- The next turns of a client, of a pass that knew the one and then knows the other, answered its requests with these replies, in order.
  abbrev pub Turns : (was now : Known) → (old new : Progress) → List Reply → Type 0
  Turns was now old new [] = (now ≡ was) × (new ≡ old)
  Turns was now old new (reply ∷ replies) = (mid : Known) × (at : Progress) × Turned was mid old at reply × Turns mid now at new replies

  -- A connection that read these bytes, of a pass that knew the one and then knows the other: the bytes are the spellings of requests, in
  -- order, and a rest; the requests, the entries that the pass made and the replies are a transcript, which leads the session to this mode.
  -- Each reply is that of a turn, the line of a fault with its cause; after the last turn the pass made no entry, and no call of its device
  -- has failed.
  pub record Answered (was now : Known) (bytes : Bytes) : Type 0 where
    pub requests : List (List Bytes)
    pub rest : Bytes
    pub own : List Placed
    pub replies : List Reply
    pub mode : Mode
    pub pairs : List Pair
    pub joined : bytes ≡ spellings requests ++ rest
    pub within : AreRequests requests
    pub went : Went was now own
    pub transcript : Transcript was.number Idle [] requests own replies
    pub leads : Leads was.number Idle [] requests own replies mode pairs
    pub last : Known
    pub stands : Progress
    pub turns : Turns was last (fed_at_once bytes) stands replies
    pub forgets : Went last now []
    pub no_failure : now.failures ≡ last.failures

  -- A conversation of a pass that knew the one when it began and knows the other now.
  pub record Conversing (was now : Known) (fed : Bytes) (at : Progress) (said : Bytes) : Type 0 where
    pub own : List Placed
    pub went : Went was now own
    pub conversation : Conversation was.number own now.watched fed at said
    pub turns : Turns was now (fed_at_once fed) at conversation.replies

  -- What was read and what was written of a connection that ended so, whose pass knew the one when it began and then knows the other.
  pub record Served (was now : Known) (ended : Ended) (bytes text : Bytes) : Type 0 where
    pub talk : Answered was now bytes
    pub ends : Ends ended bytes talk.rest talk.mode talk.replies text

  -- Where the answering of what was fed paused: `written` was written since the connection began, and the output buffer holds the rest. Where
  -- a piece could not be fed, it was read last, and the client stands as before it: with no whole request.
  abbrev pub HasPaused : (was now : Known) → Bytes → Paused → Progress → (written held : Bytes) → Type 0
  HasPaused was now fed paused.Input standing written held =
      (front standing.unread ≡ Part) × IsOpen (mode_of standing.stage) × Conversing was now fed standing (written ++ held)
  HasPaused was now fed (paused.Malformed fault) standing written held =
      (front standing.unread ≡ Faulty fault) × IsOpen (mode_of standing.stage) × Conversing was now fed standing (written ++ held)
  HasPaused was now fed paused.Closed standing written held =
      (mode_of standing.stage ≡ Closed) × Conversing was now fed standing (written ++ held)
  HasPaused was now fed paused.NoMemory standing written held =
      (at : Progress) × WantsMemory at.unread × IsOpen (mode_of at.stage) × Conversing was now fed at (written ++ held)
  HasPaused was now fed paused.Unfed standing written held =
      (before piece : Bytes) × (fed ≡ before ++ piece) × (0 < length piece) × (length piece ≤ PIECE_BYTES)
      × (front standing.unread ≡ Part) × IsOpen (mode_of standing.stage) × Conversing was now before standing (written ++ held)
  HasPaused was now fed paused.WriteFailed standing written held =
      (at : Progress) × (whole more : Bytes) × Conversing was now fed at whole × (whole ≡ written ++ more)

  -- What the answering of a piece came to: all is written and the conversation goes on, or the connection ended.
  abbrev pub HasAnswered : (was now : Known) → Bytes → Option Ended → Progress → (written : Bytes) → Type 0
  HasAnswered was now fed None standing written = Conversing was now fed standing written
  HasAnswered was now fed (Some ended) standing written = Served was now ended fed written

  -- what a turn did: it answered the request, or the pass knows what it knew
  abbrev pub IsDue : (was now : Known) → Progress → Due → Progress → Type 0
  IsDue was now old (due.Reply reply) new = Turned was now old new reply
  IsDue was now old (due.Line said) new = Turned was now old new (line_reply said)
  IsDue was now old (due.Values found) new = Turned was now old new (values_reply found)
  IsDue was now old (due.Value found) new = Turned was now old new (value_reply found)
  IsDue was now old (due.Said said) new = Turned was now old new (spoken_reply said)
  IsDue was now old _ new = now ≡ was

-- what the output buffer was given in a turn already
abbrev pub due_text : Due → Bytes
due_text (due.Said said) = encoding (spoken_reply said)
due_text _ = []

-- a client hears what is answered: no write to it has failed
abbrev pub IsHeard : (writer : Told) → Type 0
IsHeard writer = writer ≢ told.Failure

-- what the reader has told when a connection ended so
abbrev pub reader_told : Ended → Told → Told
reader_told ended.EndOfInput old = told.End
reader_told ended.Quit old = old
reader_told ended.ProtocolFault old = old
reader_told ended.ReadFailed old = told.Failure
reader_told ended.WriteFailed old = old
reader_told ended.NoMemory old = old

-- what the writer has told when a connection ended so
abbrev pub writer_told : Ended → Told → Told
writer_told ended.EndOfInput old = old
writer_told ended.Quit old = old
writer_told ended.ProtocolFault old = old
writer_told ended.ReadFailed old = old
writer_told ended.WriteFailed old = told.Failure
writer_told ended.NoMemory old = old

-- the number of an ending
abbrev pub number_of : Ended → ℕ
number_of ended.EndOfInput = 1
number_of ended.Quit = 2
number_of ended.ProtocolFault = 3
number_of ended.ReadFailed = 4
number_of ended.WriteFailed = 5
number_of ended.NoMemory = 6

-- what the writer has told where the answering paused so
abbrev pub paused_told : Paused → Told → Told
paused_told paused.Input old = old
paused_told (paused.Malformed fault) old = old
paused_told paused.Closed old = old
paused_told paused.NoMemory old = old
paused_told paused.Unfed old = old
paused_told paused.WriteFailed old = told.Failure

-- the answering did not pause since a piece could not be fed
abbrev pub IsFed : Paused → Type 0
IsFed paused.Unfed = ⊥
IsFed _ = Unit {0}

-- all whole requests that a client was fed are answered, and its session has not ended
abbrev pub WaitsForInput : Progress → Type 0
WaitsForInput standing = (front standing.unread ≡ Part) × IsOpen (mode_of standing.stage)

-- how a client stands where the answering of what it was fed paused
abbrev pub StandsAt : Paused → Progress → Type 0
StandsAt paused.Input standing = WaitsForInput standing
StandsAt _ standing = Unit {0}

-- nothing is in the room that is read into where the answering paused for input
abbrev pub LeavesAt : Paused → Bytes → Type 0
LeavesAt paused.Input held = held ≡ []
LeavesAt _ held = Unit {0}

-- All whole requests that a client was fed are answered, its session has not ended, and all replies are written: the output buffer holds
-- nothing.
abbrev pub IsAnswered : Progress → (held : Bytes) → Type 0
IsAnswered standing held = (front standing.unread ≡ Part) × IsOpen (mode_of standing.stage) × (held ≡ [])

-- how a client stands, and what the output buffer holds, where a connection goes on
abbrev pub GoesOn : Option Ended → Progress → (held : Bytes) → Type 0
GoesOn None standing held = IsAnswered standing held
GoesOn (Some ended) standing held = Unit {0}

-- the endings to which the answering of a piece may come
abbrev pub EndsAnswering : Option Ended → Type 0
EndsAnswering None = Unit {0}
EndsAnswering (Some ended.EndOfInput) = ⊥
EndsAnswering (Some ended.Quit) = Unit {0}
EndsAnswering (Some ended.ProtocolFault) = Unit {0}
EndsAnswering (Some ended.ReadFailed) = ⊥
EndsAnswering (Some ended.WriteFailed) = Unit {0}
EndsAnswering (Some ended.NoMemory) = Unit {0}

-- what the writer has told after that
abbrev pub answered_told : Option Ended → Told → Told
answered_told None old = old
answered_told (Some ended) old = writer_told ended old

-- What the reading of a piece came to: the client was fed it, or the connection ends.
abbrev pub HasTaken : Option Ended → Progress → Bytes → Progress → Type 0
HasTaken None old piece new = new ≡ record old { unread = old.unread ++ piece }
HasTaken (Some ended.EndOfInput) old piece new = (piece ≡ []) × (new ≡ old)
HasTaken (Some ended.Quit) old piece new = ⊥
HasTaken (Some ended.ProtocolFault) old piece new = ⊥
HasTaken (Some ended.ReadFailed) old piece new = (piece ≡ []) × (new ≡ old)
HasTaken (Some ended.WriteFailed) old piece new = ⊥
HasTaken (Some ended.NoMemory) old piece new = (0 < length piece) × (new ≡ old)

-- what the reader has told after that
abbrev pub taken_told : Option Ended → Told → Told
taken_told None old = old
taken_told (Some ended) old = reader_told ended old

-- What asking for a piece that is there already came to: the client was fed it, or nothing was read, or there was no memory to feed it.
abbrev pub HasWaited : Waiting → Progress → Bytes → Progress → Type 0
HasWaited waiting.Fed old piece new = (0 < length piece) × (new ≡ record old { unread = old.unread ++ piece })
HasWaited waiting.Nothing old piece new = (piece ≡ []) × (new ≡ old)
HasWaited waiting.NoMemory old piece new = (0 < length piece) × (new ≡ old)

-- how often the reader gave bytes then
abbrev pub waited_count : Waiting → ℕ
waited_count waiting.Fed = 1
waited_count waiting.Nothing = 0
waited_count waiting.NoMemory = 1

-- nothing is in the room after that, unless there was no memory
abbrev pub LeavesRoom : Waiting → Bytes → Type 0
LeavesRoom waiting.Fed held = held ≡ []
LeavesRoom waiting.Nothing held = held ≡ []
LeavesRoom waiting.NoMemory held = Unit {0}

-- How far a client has come after its next turn: it took a request off the front, or no whole request is left, or a fault stands at the
-- front, or memory was asked for, or its session has ended.
abbrev pub HasTurned : Progress → Due → Progress → Type 0
HasTurned old (due.Reply reply) new = (words : List Bytes) × TakesOff old.unread words new.unread
HasTurned old (due.Line said) new = (words : List Bytes) × TakesOff old.unread words new.unread
HasTurned old (due.Values found) new = (words : List Bytes) × TakesOff old.unread words new.unread
HasTurned old (due.Value found) new = (words : List Bytes) × TakesOff old.unread words new.unread
HasTurned old (due.Said found) new = (words : List Bytes) × TakesOff old.unread words new.unread
HasTurned old due.Input new = (stream.front old.unread ≡ stream.Part) × IsOpen (mode_of old.stage) × (new ≡ old)
HasTurned old (due.Malformed fault) new = (stream.front old.unread ≡ stream.Faulty fault) × IsOpen (mode_of old.stage) × (new ≡ old)
HasTurned old due.Closed new = (mode_of old.stage ≡ Closed) × (new ≡ old)
HasTurned old due.NoMemory new = WantsMemory old.unread × IsOpen (mode_of old.stage)

-- the client's session waits for a request, or has ended, and watches what its pass does
pub record Attends (knows : Known) (at : Progress) : Type 0 where
  pub ready : IsReady at.stage
  pub watches : watched_of at.stage ≡ keys_of_pairs knows.watched

-- what became of a request of these words is due to each client that is in no transaction and attends to what its pass knew
abbrev pub IsDueToIdle : Promises → (was now : Known) → (words : List Bytes) → Due → Type 0
IsDueToIdle promises was now words came =
    (at : Progress) → Attends was at → IsIdle at.stage → IsDue promises was now (before words at) came at
