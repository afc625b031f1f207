-- What keeps the headline from event to event.
use Rattle.std.specs.Prelude.{ℕ, ◌≡◌, ◌<◌, Bool, true, List, [], ◌++◌, length}
use Rattle.words.specs.declared.reply.Reply.{Reply}
use Rattle.words.specs.Store.{Bytes}
use Rattle.words.specs.Spelling.{spellings, AreRequests}
use Rattle.words.specs.Stream.{front, Part}
use Rattle.words.specs.Encoding.{encodings}
use Rattle.words.specs.History.{Legal, Pair, Placed, after, keys_of_pairs, AreWatches}
use Rattle.words.specs.Watches.{mark_at}
use Rattle.words.specs.Stripes.{IsPart}
use Rattle.words.specs.Session.{Mode, Idle}
use Rattle.gates.specs.Passes.{AreWatched}
use Rattle.transact.specs.declared.call.Call.{Call}
use Rattle.connection.specs.declared.client.Next.TheVariants as next
use Rattle.connection.specs.Clients.{Progress, Gives, IsOpen, mode_of}
use Rattle.connection.specs.Conversations.{Leads, Conversation}
use Rattle.world_model.specs.States.{Phase, Serving, Calling, Leaving, Left, Ended, Due, ClientState, State, client, stripe_count}
use Rattle.world_model.specs.Enabled.{holds_none}
use Rattle.world_model.specs.Told.{mine, IsOver}
use Rattle.world_model.specs.Places.{ArePlaced, stay_of, due_of}

-- a call was opened by the request that a client's session then took up, of which this conversation was had before
pub record Opened (c : ℕ) (own : List Placed) (watches : List Pair) (input : Bytes) (at : Progress) (call : Call) (output : Bytes) : Type 0 where
  pub before : Progress
  pub conversation : Conversation c own watches input before output
  pub gives : Gives before (next.Calls call) at

-- a session that is over was told this
pub record Over (c : ℕ) (own : List Placed) (input : Bytes) (closed : Bool) (output : Bytes) : Type 0 where
  pub requests : List (List Bytes)
  pub replies : List Reply
  pub rest : Bytes
  pub ending : Bytes
  pub mode : Mode
  pub pairs : List Pair
  pub joined : input ≡ spellings requests ++ rest
  pub within : AreRequests requests
  pub leads : Leads c Idle [] requests own replies mode pairs
  pub text : output ≡ encodings replies ++ ending
  pub over : IsOver mode closed rest ending

-- what a client was told so far, by how far it has come
abbrev pub Talks : (c : ℕ) → List Placed → List Pair → Bytes → Bool → Phase → Bytes → Type 0
Talks c own watches input closed (Serving at) output = Conversation c own watches input at output
Talks c own watches input closed (Calling at call) output = Opened c own watches input at call output
Talks c own watches input closed (Leaving keys) output = Over c own input closed output × (keys ≡ keys_of_pairs watches)
Talks c own watches input closed Left output = Over c own input closed output × (watches ≡ [])
Talks c own watches input closed Ended output = Over c own input closed output × (watches ≡ [])

-- where a client may advance, it has
abbrev pub HasAdvanced : Phase → (none : Bool) → Type 0
HasAdvanced (Serving at) true = (front at.unread ≡ Part) × IsOpen (mode_of at.stage)
HasAdvanced Left true = ⊥
HasAdvanced _ none = Unit {0}

-- receipts are to be read only for a call of a session that is open
abbrev pub ReadsFor : Phase → List Due → Type 0
ReadsFor (Calling at call) due = Unit {0}
ReadsFor _ due = due ≡ []

-- One client of a sound world: what it was told is due, along its own entries; its watches are watches of its own, each key once; the
-- marks that it has in the stripes say which of them were written since; and receipts are to be read for an open call alone.
pub record IsSoundClient (c : ℕ) (state : State) (peer : ClientState) : Type 0 where
  pub talks : Talks c (mine state.history c) peer.watches peer.input peer.closed peer.phase peer.output
  pub watches : AreWatches state.history c peer.watches
  pub once : AreWatched peer.watches peer.watches
  pub marks : (key : Bytes) → state.marks key c ≡ mark_at state.history peer.watches key
  pub reads : ReadsFor peer.phase peer.due

-- The world is sound: its history is legal, each stripe reads as its part of the store that the history leaves, each client is sound, and
-- has advanced where it may; and no receipt that is read again was released.
pub record IsSound (state : State) : Type 0 where
  pub legal : Legal state.history
  pub parts : (i : ℕ) → IsPart (stripe_count state) i (state.stores i) (after state.history)
  pub clients : (c : ℕ) → c < length state.clients → IsSoundClient c state (client state c)
  pub rest : (c : ℕ) → c < length state.clients → HasAdvanced (client state c).phase (holds_none c state.holders)
  pub logs : length state.logs ≡ stripe_count state
  pub placed : ArePlaced state.logs state.places state.epoch (stay_of state) (due_of state)
