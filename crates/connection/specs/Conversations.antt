-- What a client and its driver have said to each other so far, whoever the driver is: the transcript of the session.
use Rattle.std.specs.Prelude.{ℕ, ◌≡◌, ◌≤◌, List, [], ◌∷◌, ◌++◌, reverse}
use Rattle.words.specs.declared.reply.Reply.{Reply}
use Rattle.words.specs.Store.{Bytes}
use Rattle.words.specs.Spelling.{spellings, AreRequests}
use Rattle.words.specs.Encoding.{encodings}
use Rattle.words.specs.History.{History, Pair, Placed, keys_of_pairs}
use Rattle.words.specs.Session.{Mode, Idle, turn, Follows}
use Rattle.gates.specs.declared.view.Note.{Note}
use Rattle.engine.specs.Passes.{Known}
use Rattle.connection.specs.Clients.{Progress, IsReady, mode_of, watched_of, TakesOff}

-- A transcript with its end: a session that is in this mode and watches these pairs was asked these requests, made these entries of its own,
-- each with its position, and said these replies; it is in the last mode then, and watches the last pairs.
abbrev pub Leads : ℕ → Mode → List Pair → List (List Bytes) → List Placed → List Reply → (last : Mode) → (watched : List Pair) → Type 0
Leads session mode pairs [] entries replies last watched = (entries ≡ []) × (replies ≡ []) × (mode ≡ last) × (pairs ≡ watched)
Leads session mode pairs (words ∷ requests) entries replies last watched =
    Follows session pairs (turn mode (keys_of_pairs pairs) words) entries replies
    (λ next now others more. Leads session next now requests others more last watched)

-- A talk: a session was asked these requests, made these entries of its own and said these replies; it is in this mode, and watches these.
-- Whatever leads on from here, this stands before it.
abbrev pub Talk : ℕ → List (List Bytes) → List Placed → List Reply → Mode → List Pair → Type 0
Talk session requests own replies mode pairs =
    (others : List (List Bytes)) (entries : List Placed) (more : List Reply) (last : Mode) (watched : List Pair)
    → Leads session mode pairs others entries more last watched
    → Leads session Idle [] (requests ++ others) (own ++ entries) (replies ++ more) last watched

-- A conversation so far, of a session that began with no watch: a client was fed these bytes and has come so far, and this text was said.
-- The session has made these entries of its own, and watches these pairs. The bytes are the spellings of the requests that are done and
-- what is unread; the requests, the entries and the replies are a talk; and the text is the encodings of the replies.
pub record Conversation (session : ℕ) (own : List Placed) (pairs : List Pair) (fed : Bytes) (at : Progress) (said : Bytes) : Type 0 where
  pub requests : List (List Bytes)
  pub replies : List Reply
  pub joined : fed ≡ spellings requests ++ at.unread
  pub within : AreRequests requests
  pub ready : IsReady at.stage
  pub watches : watched_of at.stage ≡ keys_of_pairs pairs
  pub talk : Talk session requests own replies (mode_of at.stage) pairs
  pub text : said ≡ encodings replies

-- One request is answered: it is taken off the unread bytes, the session makes these entries, one or none, and has this reply; it watched
-- the one pairs before and watches the others after.
pub record Answers (session : ℕ) (entries : List Placed) (pairs after : List Pair) (old new : Progress) (reply : Reply) : Type 0 where
  pub words : List Bytes
  pub taken : TakesOff old.unread words new.unread
  pub ready : IsReady new.stage
  pub watches : watched_of new.stage ≡ keys_of_pairs after
  pub goes_on : (others : List (List Bytes)) (later : List Placed) (more : List Reply) (last : Mode) (watched : List Pair)
      → Leads session (mode_of new.stage) after others later more last watched
      → Leads session (mode_of old.stage) pairs (words ∷ others) (entries ++ later) (reply ∷ more) last watched

-- What a pass has seen has gone on, the entries that it has made since are these, and this was it told beside. Calls of its device may have
-- failed since.
pub record Went (was now : Known) (own : List Placed) : Type 0 where
  pub number : now.number ≡ was.number
  pub more : History
  pub seen : now.seen ≡ more ++ was.seen
  pub mine : now.mine ≡ reverse own ++ was.mine
  pub told : List Note
  pub notes : now.notes ≡ told ++ was.notes
  pub failures : was.failures ≤ now.failures
