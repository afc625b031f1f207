-- The commit of a call.
use Rattle.std.specs.Prelude.{ℕ, ◌≡◌, ◌≤◌, false, List, [], ◌∷◌, ◌++◌, length, set, Option, Some, None, nat_eq, if◌then◌else◌}
use Rattle.words.specs.declared.reply.Fault.TheVariants.{StoreFull}
use Rattle.words.specs.declared.history.Operation.{Operation}
use Rattle.words.specs.declared.history.Entry.{Entry}
use Rattle.words.specs.declared.reply.Reply.{Reply}
use Rattle.words.specs.Store.{Bytes, Write, written}
use Rattle.words.specs.Encoding.{encoding}
use Rattle.words.specs.History.{Pair}
use Rattle.words.specs.Watches.{watched_after}
use Rattle.words.specs.Stripes.{stripe_of}
use Rattle.words.specs.Session.{Asked, operation_of, watched_at_fault}
use Rattle.transact.specs.declared.call.Call.{Call}
use Rattle.transact.specs.declared.call.Answer.{Answer}
use Rattle.transact.specs.declared.call.Answer.TheVariants as answer
use Rattle.transact.specs.Calls.{asked_of}
use Rattle.transact.specs.Plans.{keys_begun, keys_ended}
use Rattle.transact.specs.Tables.{Change, begins, clears, touches}
use Rattle.connection.specs.Clients.{Stage, Progress, Resumes}
use Rattle.world_model.specs.Logs.{with_opened}
use Rattle.world_model.specs.States.{Phase, Serving, Calling, Leaving, Left, ClientState, State, log_of, stripe_count}
use Rattle.world_model.specs.Advancing.{When}
use Rattle.world_model.specs.Rooms.{is_written_in}
use Rattle.world_model.specs.Planning.{reply_now, writes_now}

-- The client's session took this answer to its call, and this was written to it; it watches these keys then.
pub record Resumed (peer : ClientState) (at : Progress) (given : Answer) (watches : List Pair) (after : ClientState) : Type 0 where
  pub said : Reply
  pub stage : Stage
  pub resumes : Resumes at.stage given said stage
  pub else_same : after ≡ record peer {
    phase = Serving (record at { stage = stage });
    watches = watches;
    output = peer.output ++ encoding said;
    fetched = 0;
    full = false;
  }

-- What a commit does to clients and history. One of a call that asks for something adds its one entry, with its reply, which is said. One
-- that only forgets adds none; where a request asked for it, its reply is said.
abbrev pub Told : State → ℕ → ClientState → Progress → Call → Option Asked → State → Type 0
Told before c peer at call None after =
    (resumed : ClientState) × (given : Answer) × Resumed peer at given [] resumed
    × (after.clients ≡ set before.clients c resumed) × (after.history ≡ before.history)
Told before c peer at call (Some asked) after =
    let operation : Operation = operation_of peer.watches asked in
    let reply : Reply = reply_now before c operation in
    let entry : Entry = record { session = c; operation = operation; reply = reply } in
    (resumed : ClientState)
    × Resumed peer at (answer.Reply reply) (watched_after peer.watches operation (length before.history)) resumed
    × (after.clients ≡ set before.clients c resumed) × (after.history ≡ entry ∷ before.history)

-- The same of a call whose plan met a full stripe: it is answered by that line, and adds no entry. A transaction's watches end.
abbrev pub Refused : State → ℕ → ClientState → Progress → Option Asked → State → Type 0
Refused before c peer at None after = ⊥
Refused before c peer at (Some asked) after =
    (resumed : ClientState) × Resumed peer at (answer.Fault StoreFull) (watched_at_fault peer.watches asked) resumed
    × (after.clients ≡ set before.clients c resumed) × (after.history ≡ before.history)

-- what a call writes when it is committed
abbrev pub writes_of_call : State → ℕ → List Pair → Option Asked → List Write
writes_of_call state c watches None = []
writes_of_call state c watches (Some asked) = writes_now state c (operation_of watches asked)

-- what a client's call does to the marks: those of its writes are touched, those of a watch are added, those of a transaction and of a
-- call that forgets are cleared
abbrev pub marks_changed : (c : ℕ) → Call → List Write → Change
marks_changed c call writes key session mark =
    clears c (keys_ended call) key session (touches writes key session (begins c (keys_begun call) key session mark))

-- Writes are installed in the stripes of their keys, and marks change.
pub record Installs (before : State) (writes : List Write) (change : Change) (after : State) : Type 0 where
  pub holders : after.holders ≡ before.holders
  pub stores : (i : ℕ) (key : Bytes)
      → after.stores i key ≡ (if nat_eq (stripe_of (stripe_count before) key) i then written (before.stores i) writes key else before.stores i key)
  pub marks : (key : Bytes) (session : ℕ) → after.marks key session ≡ change key session (before.marks key session)

-- how many pages a commit opens in a stripe at most, and the cleaner's step
abbrev pub OPENED_MAX : ℕ
OPENED_MAX = 7

-- Pages are opened behind the tail pages of the stripes that are written to, and nothing else becomes of logs, places and the epoch.
pub record OpensPages (before : State) (writes : List Write) (after : State) : Type 0 where
  pub count : length after.logs ≡ length before.logs
  pub logs : (i : ℕ) → (opened : ℕ) × (opened ≤ OPENED_MAX) × (log_of after i ≡ with_opened (log_of before i) opened)
      × (is_written_in (stripe_count before) writes i ≡ false → opened ≡ 0)
  pub places : after.places ≡ before.places
  pub epoch : after.epoch ≡ before.epoch
  pub frames : after.frames ≡ before.frames
  pub limit : after.limit ≡ before.limit

-- A client's open call is committed.
abbrev pub Commits : State → ℕ → ClientState → Phase → State → Type 0
Commits before c peer (Calling at call) after =
    When peer.full
    (Refused before c peer at (asked_of call) after × Installs before [] (clears c (keys_ended call)) after × OpensPages before [] after)
    (let writes : List Write = writes_of_call before c peer.watches (asked_of call) in
    Told before c peer at call (asked_of call) after × Installs before writes (marks_changed c call writes) after × OpensPages before writes after)
Commits before c peer (Leaving keys) after =
    (after.clients ≡ set before.clients c (record peer { phase = Left; watches = [] })) × (after.history ≡ before.history)
    × Installs before [] (clears c keys) after × OpensPages before [] after
Commits before c peer _ after = ⊥
