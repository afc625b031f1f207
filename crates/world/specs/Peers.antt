-- How a client of the world is seen, and what its steps do.
use Rattle.std.specs.Prelude.{ℕ, ◌≡◌, Bool, true, false, List, [], ◌∷◌, ◌++◌, Some, None}
use Rattle.words.specs.declared.reply.Reply.{Reply}
use Rattle.words.specs.declared.history.Operation.{Operation}
use Rattle.words.specs.Encoding.{encoding}
use Rattle.words.specs.History.{Pair, keys_of_pairs}
use Rattle.words.specs.Watches.{watched_after}
use Rattle.words.specs.Session.{Asked, operation_of, watched_at_fault}
use Rattle.transact.specs.declared.call.Call.{Call}
use Rattle.transact.specs.declared.call.Answer.{Answer}
use Rattle.transact.specs.declared.call.Answer.TheVariants as answer
use Rattle.transact.specs.Calls.{asked_of}
use Rattle.connection.specs.declared.client.Next.{Next}
use Rattle.connection.specs.declared.client.Next.TheVariants as next
use Rattle.connection.specs.Clients.{Progress, Stage, beginning, Gives, IsReady, IsCalled, Resumes, watched_of}
use Rattle.words.specs.declared.reply.Fault.TheVariants.{StoreFull}
use Rattle.world_model.specs.States.{Phase, Serving, Calling, Leaving, Left, Ended, ClientState}
use Rattle.world_model.specs.Advancing.{Pauses}
use Rattle.world.specs.declared.peer.Phase as peers
use Rattle.world.specs.declared.peer.Phase.TheVariants as peer
use Rattle.world.specs.declared.peer.Open.{Open}
use Rattle.world.specs.declared.peer.Open.TheVariants as opens
use Rattle.world.specs.declared.peer.Kind.{Kind}
use Rattle.world.specs.declared.peer.Kind.TheVariants as kinds
use Rattle.world.specs.declared.peer.Peer.TheInside.{Inside}

-- how far a client has come
abbrev pub phase_of : peers.Phase → Phase
phase_of (peer.Serving client) = Serving client
phase_of (peer.Calling client call) = Calling client call
phase_of (peer.Leaving watching) = Leaving watching
phase_of peer.Left = Left
phase_of peer.Ended = Ended

-- a client by its session alone: nothing is to be read for it, and it is in no stay
abbrev pub seen : Inside → ClientState
seen one = record {
  input = one.input.items;
  closed = one.closed;
  phase = phase_of one.phase;
  watches = one.watches.items;
  output = one.output.items;
  due = [];
  fetched = 0;
  full = false;
  stay = None;
}

-- how far its session has come, where it is not over
abbrev pub progress_of : Phase → Progress
progress_of (Serving at) = at
progress_of (Calling at call) = at
progress_of _ = beginning

-- the client has no open call, and its session is not over
abbrev pub IsServing : Phase → Type 0
IsServing (Serving at) = Unit {0}
IsServing _ = ⊥

-- a call is open that asks for something, or for nothing but the end of the watches
abbrev pub IsCalling : Phase → Type 0
IsCalling (Calling at call) = Unit {0}
IsCalling _ = ⊥

abbrev pub IsAsking : Phase → Type 0
IsAsking (Calling at call) = (asked : Asked) × (asked_of call ≡ Some asked)
IsAsking _ = ⊥

abbrev pub IsForgetting : Phase → Type 0
IsForgetting (Calling at call) = asked_of call ≡ None
IsForgetting _ = ⊥

-- the client's session is over, and its call is open that forgets what it watched
abbrev pub IsLeaving : Phase → Type 0
IsLeaving (Leaving keys) = Unit {0}
IsLeaving _ = ⊥

-- the client can be ended
abbrev pub IsEndable : Phase → Type 0
IsEndable (Serving at) = IsReady at.stage
IsEndable (Calling at call) = IsCalled at.stage
IsEndable _ = Unit {0}

-- what its session watches are the keys of these pairs
abbrev pub Attends : List Pair → Phase → Type 0
Attends watches (Serving at) = IsReady at.stage × (watched_of at.stage ≡ keys_of_pairs watches)
Attends watches (Calling at call) =
    (before : Progress) × (watched_of before.stage ≡ keys_of_pairs watches) × Gives before (next.Calls call) at
Attends watches (Leaving keys) = keys ≡ keys_of_pairs watches
Attends watches _ = Unit {0}

-- the client's watches are what its session watches
abbrev pub IsSteady : ClientState → Type 0
IsSteady one = Attends one.watches one.phase

-- each of these clients can be ended
abbrev pub AreEndable : List ClientState → Type 0
AreEndable [] = Unit {0}
AreEndable (one ∷ others) = IsEndable one.phase × AreEndable others

-- what a call of a session is for
abbrev pub IsKindOf : Kind → Call → Type 0
IsKindOf kinds.Asks call = (asked : Asked) × (asked_of call ≡ Some asked)
IsKindOf kinds.Forgets call = asked_of call ≡ None
IsKindOf kinds.Leaves call = ⊥

-- what an open call is for
abbrev pub IsKind : Kind → Phase → Type 0
IsKind kinds.Leaves (Leaving keys) = Unit {0}
IsKind kinds.Asks (Calling at call) = (asked : Asked) × (asked_of call ≡ Some asked)
IsKind kinds.Forgets (Calling at call) = asked_of call ≡ None
IsKind _ _ = ⊥

-- what a client's open call is
abbrev pub OnCall : Open → Phase → Type 0
OnCall opens.Nothing (Serving at) = Unit {0}
OnCall opens.Nothing Left = Unit {0}
OnCall opens.Nothing Ended = Unit {0}
OnCall (opens.Call call) (Calling at other) = other ≡ call.now
OnCall (opens.Forget keys) (Leaving others) = others ≡ keys.now
OnCall _ _ = ⊥

-- what a client's session does next
pub record Comes (old : ClientState) (given : Next) (new : ClientState) : Type 0 where
  pub at : Progress
  pub later : Progress
  pub stands : old.phase ≡ Serving at
  pub gives : Gives at given later
  pub else_same : new ≡ record old { phase = Serving later }

-- a client answered its next request
pub record Replies (old new : ClientState) : Type 0 where
  pub at : Progress
  pub later : Progress
  pub reply : Reply
  pub stands : old.phase ≡ Serving at
  pub gives : Gives at (next.Says reply) later
  pub else_same : new ≡ record old { phase = Serving later; output = old.output ++ encoding reply }

-- a client answered its next request, or went no further
abbrev pub StepsOn : Bool → ClientState → ClientState → Type 0
StepsOn true old new = Replies old new
StepsOn false old new = (at : Progress) × (old.phase ≡ Serving at) × Pauses old at new

-- a client's session took this answer to its call, and says this
pub record Takes (old : ClientState) (given : Answer) (call : Call) (said : Reply) (new : ClientState) : Type 0 where
  pub at : Progress
  pub stage : Stage
  pub stands : old.phase ≡ Calling at call
  pub resumes : Resumes at.stage given said stage
  pub else_same : new ≡ record old { phase = Serving (record at { stage = stage }) }

-- what a client did at this position, whose call is this, and what it watches since
pub record HasOperated (old : ClientState) (call : Call) (position : ℕ) (operation : Operation) (new : ClientState) : Type 0 where
  pub asked : Asked
  pub asks : asked_of call ≡ Some asked
  pub operation_is : operation ≡ operation_of old.watches asked
  pub else_same : new ≡ record old { watches = watched_after old.watches operation position }

-- a client's session took this answer to its call, and this was written to it; it watches these keys then
pub record Took (old : ClientState) (at : Progress) (given : Answer) (watches : List Pair) (new : ClientState) : Type 0 where
  pub said : Reply
  pub stage : Stage
  pub resumes : Resumes at.stage given said stage
  pub else_same : new ≡ record old { phase = Serving (record at { stage = stage }); watches = watches; output = old.output ++ encoding said }

-- a client whose call was committed at this position took the reply, and what was done is this
abbrev pub HasAnswered : ClientState → Phase → Reply → (position : ℕ) → Operation × Reply → ClientState → Type 0
HasAnswered old (Calling at call) reply position done new =
    (asked : Asked) × (asked_of call ≡ Some asked) × (done.0 ≡ operation_of old.watches asked) × (done.1 ≡ reply)
    × Took old at (answer.Reply reply) (watched_after old.watches (operation_of old.watches asked) position) new
HasAnswered old _ reply position done new = ⊥

-- a client whose call met a full stripe took that answer; a transaction's watches end
abbrev pub HasBeenRefused : ClientState → Phase → ClientState → Type 0
HasBeenRefused old (Calling at call) new =
    (asked : Asked) × (asked_of call ≡ Some asked) × Took old at (answer.Fault StoreFull) (watched_at_fault old.watches asked) new
HasBeenRefused old _ new = ⊥

-- a client watches what is left where its call was not done
pub record HasGivenUp (old : ClientState) (call : Call) (new : ClientState) : Type 0 where
  pub asked : Asked
  pub asks : asked_of call ≡ Some asked
  pub else_same : new ≡ record old { watches = watched_at_fault old.watches asked }

-- a client whose call was committed that only forgets took an answer
abbrev pub HasForgotten : ClientState → Phase → ClientState → Type 0
HasForgotten old (Calling at call) new = (given : Answer) × Took old at given [] new
HasForgotten old _ new = ⊥
