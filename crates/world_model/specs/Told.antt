-- The headline: what each client was told, along one legal history.
use Rattle.std.specs.Prelude.{ℕ, ◌≡◌, ◌⊎◌, ◌<◌, Bool, true, false, List, [], ◌++◌, length, reverse, None, get_or}
use Rattle.words.specs.declared.reply.Reply.{Reply}
use Rattle.words.specs.declared.reply.ProtocolFault.{ProtocolFault}
use Rattle.words.specs.Store.{Bytes}
use Rattle.words.specs.Spelling.{spellings, AreRequests}
use Rattle.words.specs.Stream.{front, Part, Faulty}
use Rattle.words.specs.Encoding.{encodings}
use Rattle.words.specs.History.{History, Legal, Pair, Placed, after, subhistory}
use Rattle.words.specs.Stripes.{IsPart}
use Rattle.words.specs.Session.{Idle, Closed, Mode, Transcript}
use Rattle.connection.specs.declared.client.Next.TheVariants as next
use Rattle.connection.specs.Clients.{Progress, Gives, IsOpen, mode_of}
use Rattle.connection.specs.Conversations.{Leads}
use Rattle.connection.specs.Served.{fault_line}
use Rattle.world_model.specs.States.{Phase, Serving, Calling, ClientState, State, client, stripe_count}
use Rattle.world_model.specs.Enabled.{holds_none}

-- a client's own entries of a history, each with its position, in order
abbrev pub mine : History → ℕ → List Placed
mine history c = reverse (subhistory history c)

-- How a session was over of which this was left unanswered, and what was written last: after QUIT nothing; at the end of its input, where
-- no whole request was left, nothing; at a protocol fault its line.
abbrev pub IsOver : Mode → (closed : Bool) → (rest ending : Bytes) → Type 0
IsOver mode closed rest ending =
    ((mode ≡ Closed) × (ending ≡ []))
    ⊎ (((closed ≡ true) × (front rest ≡ Part) × IsOpen mode × (ending ≡ []))
    ⊎ ((fault : ProtocolFault) × (front rest ≡ Faulty fault) × IsOpen mode × (ending ≡ fault_line fault)))

-- What is left of a client's input, and what was written after the replies. Where it has no open call and holds no stripe, no whole request
-- is left, nor a fault. Where it has an open call, that call's request stands first. (Where it still holds stripes after a commit, whole
-- requests may be left; they are what its session has not taken up.)
abbrev pub IsLeft : Phase → (none : Bool) → Mode → (closed : Bool) → (rest ending : Bytes) → Type 0
IsLeft (Serving at) true mode closed rest ending = (rest ≡ at.unread) × (front rest ≡ Part) × IsOpen mode × (ending ≡ [])
IsLeft (Serving at) false mode closed rest ending = (rest ≡ at.unread) × (ending ≡ [])
IsLeft (Calling at call) none mode closed rest ending =
    (before : Progress) × (rest ≡ before.unread) × (mode ≡ mode_of before.stage) × Gives before (next.Calls call) at × (ending ≡ [])
IsLeft _ none mode closed rest ending = IsOver mode closed rest ending

-- What a client was told: its input is the spellings of requests and what is left; the requests, its own entries of the history and the
-- replies are a transcript of its session, which leads it to this mode; and what was written to it is the encodings of the replies, and
-- last the line of a protocol fault where one was met.
pub record IsTold (c : ℕ) (history : History) (none : Bool) (peer : ClientState) : Type 0 where
  pub requests : List (List Bytes)
  pub replies : List Reply
  pub rest : Bytes
  pub ending : Bytes
  pub mode : Mode
  pub pairs : List Pair
  pub joined : peer.input ≡ spellings requests ++ rest
  pub within : AreRequests requests
  pub transcript : Transcript c Idle [] requests (mine history c) replies
  pub leads : Leads c Idle [] requests (mine history c) replies mode pairs
  pub text : peer.output ≡ encodings replies ++ ending
  pub left : IsLeft peer.phase none mode peer.closed rest ending

-- The headline: the history is legal; each client was told what is due, along its own entries of it; and each free stripe reads as its part
-- of the store that the history leaves.
pub record Headline (state : State) : Type 0 where
  pub legal : Legal state.history
  pub told : (c : ℕ) → c < length state.clients → IsTold c state.history (holds_none c state.holders) (client state c)
  pub parts : (i : ℕ) → i < stripe_count state → get_or state.holders i None ≡ None
      → IsPart (stripe_count state) i (state.stores i) (after state.history)
