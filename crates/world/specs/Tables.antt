-- The state that a world stands for, and what its steps do.
use Rattle.std.specs.Prelude.{ℕ, ◌≡◌, ◌≢◌, ◌<◌, Bool, true, false, List, [], ◌∷◌, ◌++◌, length, map, replicate, reverse, get_or, None, Some, slice_get}
use Rattle.std.specs.Vec.{with_item}
use Rattle.words.specs.declared.history.Operation.{Operation}
use Rattle.words.specs.declared.reply.Reply.{Reply}
use Rattle.words.specs.Store.{Write}
use Rattle.words.specs.Session.{Asked}
use Rattle.transact.specs.declared.call.Call.{Call}
use Rattle.hybrid.specs.HybridLog.{HybridLog, HasRoom}
use Rattle.hybrid.specs.Writing.{AreFit}
use Rattle.plans.specs.declared.planned.Planned.{Planned}
use Rattle.shards.specs.Rooms.{AreRoomy}
use Rattle.shards.specs.Shards.{logs_of}
use Rattle.world_log.specs.Given.{StaysGiven}
use Rattle.world_log.specs.Stripes.{acts_for, lent, with_holder}
use Rattle.world_log.specs.WorldLogs.{IsWorldLog, KeepsHeld, Took, epoch_of}
use Rattle.world_log.specs.WorldLogs as logs
use Rattle.world_log.specs.Types.{Stripes}
use Rattle.world_model.specs.declared.event.Event.{Event}
use Rattle.world_model.specs.declared.event.Event.TheVariants.{Commit}
use Rattle.world_model.specs.Actors.{actor}
use Rattle.world_model.specs.States.{ClientState, State, client, fresh, open_call, start, stripe_count}
use Rattle.world_model.specs.Enabled.{is_enabled_for}
use Rattle.world_model.specs.Planning.{PlansFor, asked_by, stay_begun, taken}
use Rattle.world_model.specs.Commits.{Commits}
use Rattle.world_model.specs.Effects.{Does}
use Rattle.world_model.specs.Planned.{IsNoCommitOf, IsPlanned}
use Rattle.world_model.specs.Resting.{IsOrderly}
use Rattle.world_model.specs.Soundness.{IsSound}
use Rattle.world.specs.Planning.{looks_up}
use Rattle.world.specs.Peers.{HasAnswered, IsAsking, IsEndable, IsSteady}
use Rattle.world.specs.Desks.{IsNew, IsRight, IsStage, client_of}
use Rattle.world.specs.declared.desk.Desk.{Desk}
use Rattle.world.specs.declared.desk.Stage.{Stage}
use Rattle.world.specs.declared.desk.Plan.{Plan}
use Rattle.world.specs.declared.desk.Plan.TheVariants as plan
use Rattle.world.specs.declared.member.Member.{Member}
use Rattle.world.specs.declared.world.World.{World}

-- the clients and the history, and nothing else
abbrev pub rest_of : World → State
rest_of world = record (start 0 0 0 0) { clients = map client_of world.members.items; history = reverse world.history.items }

unfoldable pub state_of : World → State
state_of world = logs.state_of (rest_of world) world.log

-- A plan that was made for a client's open call is the one that is due, and there is room for what it writes in the stripes that the client
-- holds.
pub record IsMade (state : State) (stripes : Stripes) (c : ℕ) (planned : Planned) : Type 0 where
  pub call : Call
  pub looks : looks_up call ≡ true
  pub asked : Asked
  pub due : IsPlanned state c call asked planned.reply planned.writes
  pub roomy : AreRoomy (stripe_count state) (logs_of (lent (acts_for stripes c))) planned.writes
  pub fits : AreFit planned.writes

-- A client's open call, all of whose stripes it holds, met a full stripe: this would have been due.
pub record IsMet (state : State) (c : ℕ) : Type 0 where
  pub call : Call
  pub asked : Asked
  pub reply : Reply
  pub writes : List Write
  pub due : IsPlanned state c call asked reply writes

-- what is kept of a client's plan is right
abbrev pub IsKept : State → Stripes → ℕ → Plan → Type 0
IsKept state stripes c plan.Nothing = Unit {0}
IsKept state stripes c (plan.Made planned) = IsMade state stripes c planned
IsKept state stripes c plan.Full = IsMet state c

-- What holds of a world between any two events.
pub record IsWorld (world : World) : Type 0 where
  pub sound : IsSound (state_of world)
  pub order : IsOrderly (state_of world)
  pub log : IsWorldLog world.log
  pub desks : (c : ℕ) (one : Member) → slice_get world.members.items c ≡ Some one → IsRight world.log.device one.desk
  pub plans : (c : ℕ) (one : Member) → slice_get world.members.items c ≡ Some one → IsKept (state_of world) world.log.stripes c one.desk.plan

-- each of these clients can be ended
abbrev pub AreEndable : List Member → Type 0
AreEndable members = (c : ℕ) (one : Member) → slice_get members c ≡ Some one → IsEndable one.peer.phase

-- what there was room for in the stripes of a client, there is room for still
pub record StaysRoomy (c : ℕ) (old new : Stripes) : Type 0 where
  pub count : length new.holders.items ≡ length old.holders.items
  pub rooms : (i : ℕ) (log : HybridLog) → logs_of (lent (acts_for old c)) i ≡ Some log
      → (later : HybridLog) × (logs_of (lent (acts_for new c)) i ≡ Some later) × ((weight : ℕ) → HasRoom log weight → HasRoom later weight)

-- What an event left of a client's plan: it is the same and its room is left, where the event is no commit of the client; or it is new, and
-- right.
pub data PlanStays (old new : World) (e : Event) (c : ℕ) (one : Member) : Type 0 where
  Same : (was : Member) → slice_get old.members.items c ≡ Some was → one.desk.plan ≡ was.desk.plan → IsNoCommitOf c e
      → StaysRoomy c old.log.stripes new.log.stripes → PlanStays old new e c one
  New : actor e ≡ Some c → IsKept (state_of new) new.log.stripes c one.desk.plan → PlanStays old new e c one

-- what an event leaves beside the plain state
pub record Tended (old : World) (e : Event) (new : World) : Type 0 where
  pub count : length new.members.items ≡ length old.members.items
  pub log : IsWorldLog new.log
  pub desks : (c : ℕ) (one : Member) → slice_get new.members.items c ≡ Some one → IsRight new.log.device one.desk
  pub plans : (c : ℕ) (one : Member) → slice_get new.members.items c ≡ Some one → PlanStays old new e c one

-- EVENTS OF CLIENTS

-- a client may be let advance
abbrev pub IsReadyFor : ℕ → World → Type 0
IsReadyFor c world = (one : Member) → slice_get world.members.items c ≡ Some one → IsSteady one.peer

-- an event of a client was done, which was enabled
pub record Handled (old : World) (c : ℕ) (e : Event) (new : World) : Type 0 where
  pub enabled : is_enabled_for (state_of old) c (client (state_of old) c) e ≡ true
  pub does : Does (state_of old) c (client (state_of old) c) e (state_of new)
  pub ready : IsReadyFor c new
  pub tended : Tended old e new

-- an event was done where it is enabled, else nothing has changed
abbrev pub Handles : Bool → World → ℕ → Event → World → Type 0
Handles true old c e new = Handled old c e new
Handles false old c e new = (is_enabled_for (state_of old) c (client (state_of old) c) e ≡ false) × (new ≡ old)

-- Clients may have gone on: what they have beside their sessions is the same.
pub record HasGoneOn (old new : World) : Type 0 where
  pub desks : (c : ℕ) (one : Member) → slice_get new.members.items c ≡ Some one
      → (was : Member) × (slice_get old.members.items c ≡ Some was) × (one.desk ≡ was.desk)
  pub else_same : new ≡ record old { members = new.members }

-- a client holds a stripe more, and is in a stay
pub record HasHeld (old : World) (c stripe : ℕ) (new : World) : Type 0 where
  pub one : Member
  pub there : slice_get old.members.items c ≡ Some one
  pub else_same : new ≡ record old {
    members = with_item old.members c (record one { desk = record one.desk { stay = stay_begun one.desk.stay (epoch_of old.log) } });
    log = record old.log { stripes = with_holder old.log.stripes stripe (Some c) };
  }

-- A client took the last stripe of its call in a sound world, which is not planned yet.
pub record IsTaken (c : ℕ) (world : World) : Type 0 where
  pub before : State
  pub stripe : ℕ
  pub sound : IsSound before
  pub below : c < length before.clients
  pub free : get_or before.holders stripe None ≡ None
  pub reads : (client before c).due ≡ []
  pub state : state_of world ≡ taken before c (client before c) stripe
  pub log : IsWorldLog world.log
  pub one : Member
  pub there : slice_get world.members.items c ≡ Some one
  pub steady : IsSteady one.peer
  pub right : IsRight world.log.device one.desk
  pub none : one.desk.due.items ≡ []
  pub plan : one.desk.plan ≡ plan.Nothing

-- A client's call was planned, if it looks keys up.
pub record HasComeTo (old : World) (c : ℕ) (new : World) : Type 0 where
  pub one : Member
  pub there : slice_get old.members.items c ≡ Some one
  pub desk : Desk
  pub else_same : new ≡ record old { members = with_item old.members c (record one { desk = desk }); log = new.log }
  pub plans : PlansFor (state_of old) c one.peer.watches (asked_by (open_call one.peer.phase)) (state_of new)
  pub log : IsWorldLog new.log
  pub given : StaysGiven old.log.device new.log.device
  pub right : IsRight new.log.device desk
  pub kept : IsKept (state_of new) new.log.stripes c desk.plan
  pub rooms : (d : ℕ) → d ≢ c → StaysRoomy d old.log.stripes new.log.stripes

-- how far a client's call was planned
abbrev pub IsStageAt : Stage → World → ℕ → Type 0
IsStageAt stage world c = (one : Member) → slice_get world.members.items c ≡ Some one → IsStage stage one.desk.plan

-- A client's open call was committed.
pub record HasCommitted (old : World) (c : ℕ) (new : World) : Type 0 where
  pub commits : Commits (state_of old) c (client (state_of old) c) (client (state_of old) c).phase (state_of new)
  pub ready : IsReadyFor c new
  pub tended : Tended old (Commit c) new

-- a client waits for the answer to a call that asks for something
abbrev pub IsAskingAt : World → ℕ → Type 0
IsAskingAt world c = (one : Member) → slice_get world.members.items c ≡ Some one → IsAsking one.peer.phase × IsSteady one.peer

-- A client's call was answered so, which is an entry of the history.
pub record HasAnsweredAt (old : World) (c : ℕ) (reply : Reply) (new : World) : Type 0 where
  pub one : Member
  pub there : slice_get old.members.items c ≡ Some one
  pub peer : ClientState
  pub done : Operation × Reply
  pub answered : HasAnswered one.peer one.peer.phase reply (length old.history.items) done peer
  pub steady : IsSteady peer
  pub else_same : new ≡ record old { members = with_item old.members c (record one { peer = peer }); history = new.history }
  pub history : new.history.items ≡ old.history.items ++ record { session = c; operation = done.0; reply = done.1 } ∷ []

-- so many clients at the beginning
pub record AreNew (count : ℕ) (members : List Member) : Type 0 where
  pub all : map client_of members ≡ replicate count fresh
  pub each : (c : ℕ) (one : Member) → slice_get members c ≡ Some one → (one.peer ≡ fresh) × IsNew one.desk

-- EVENTS OF STRIPES

-- an event of a stripe did what it does where it is enabled, and else nothing
pub record HasWorked (e : Event) (old new : World) : Type 0 where
  pub took : Took (rest_of old) e old.log new.log
  pub log : IsWorldLog new.log
  pub given : StaysGiven old.log.device new.log.device
  pub held : KeepsHeld old.log.stripes new.log.stripes
