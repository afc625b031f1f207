-- How a client advances: it answers what it was fed, until a call is open or nothing is left.
use Rattle.std.specs.Prelude.{ℕ, ◌≡◌, Bool, true, false, ◌&&◌, List, [], ◌∷◌, ◌++◌}
use Rattle.words.specs.declared.reply.Reply.{Reply}
use Rattle.words.specs.declared.reply.ProtocolFault.{ProtocolFault}
use Rattle.words.specs.Store.{Bytes}
use Rattle.words.specs.Encoding.{encoding}
use Rattle.words.specs.History.{Pair, keys_of_pairs}
use Rattle.transact.specs.declared.call.Call.{Call}
use Rattle.connection.specs.declared.client.Next.TheVariants as next
use Rattle.connection.specs.Clients.{Progress, Gives}
use Rattle.connection.specs.Served.{fault_line}
use Rattle.world_model.specs.States.{Phase, Serving, Calling, Leaving, Left, Ended, ClientState, State, client, with_client}
use Rattle.world_model.specs.Enabled.{holds_none}

-- a client whose session is over, and to whom this was written: it forgets what it watches, or has ended
abbrev pub leave_for : List Pair → Phase
leave_for [] = Ended
leave_for (pair ∷ pairs) = Leaving (keys_of_pairs (pair ∷ pairs))

abbrev pub leaving : ClientState → Bytes → ClientState
leaving peer written = record peer { phase = leave_for peer.watches; output = peer.output ++ written }

-- Where a client goes no further: no whole request is left, and its input may go on; or it is at its end; or QUIT was answered; or a
-- protocol fault stands next, whose line is written; or the next request opens a call. After the last four but the call its session is over.
pub data Pauses (peer : ClientState) (at : Progress) : ClientState → Type 0 where
  Waits : Gives at next.Input at → peer.closed ≡ false → Pauses peer at peer
  Finishes : Gives at next.Input at → peer.closed ≡ true → Pauses peer at (leaving peer [])
  Quits : Gives at next.Closed at → Pauses peer at (leaving peer [])
  Fails : (fault : ProtocolFault) → Gives at (next.Malformed fault) at → Pauses peer at (leaving peer (fault_line fault))
  Opens : (call : Call) (called : Progress) → Gives at (next.Calls call) called → Pauses peer at (record peer { phase = Calling called call })

-- A client answers the requests at the front of what it was fed, in order, those that touch no shared state, until it goes no further.
pub data Answers : ClientState → Progress → ClientState → Type 0 where
  Here : (peer : ClientState) (at : Progress) (after : ClientState) → Pauses peer at after → Answers peer at after
  Says : (peer : ClientState) (at : Progress) (reply : Reply) (later : Progress) (after : ClientState) → Gives at (next.Says reply) later
      → Answers (record peer { phase = Serving later; output = peer.output ++ encoding reply }) later after → Answers peer at after

-- what a client does that may advance; one that is to forget nothing more has ended
abbrev pub Advances : ClientState → Phase → ClientState → Type 0
Advances peer (Serving at) after = Answers peer at after
Advances peer Left after = after ≡ record peer { phase = Ended }
Advances peer _ after = ⊥

-- whether a client has no open call, and has not ended
abbrev pub is_idle : Phase → Bool
is_idle (Serving at) = true
is_idle Left = true
is_idle _ = false

-- P where the test holds, else Q
abbrev pub When : Bool → Type 0 → Type 0 → Type 0
When true P Q = P
When false P Q = Q

-- a client advances whenever it has no open call and holds no stripe
abbrev pub Goes : State → ℕ → State → Type 0
Goes before c after =
    When (is_idle (client before c).phase && holds_none c before.holders)
    ((peer : ClientState) × Advances (client before c) (client before c).phase peer × (after ≡ with_client before c peer))
    (after ≡ before)
