-- All stripes of the world on their logs, as the plain state that they stand for.
use Rattle.std.specs.Prelude.{ℕ, ◌≡◌, ◌<◌, Bool, true, ◌&&◌, List, [], ◌∷◌, map, get_or, Option, None, Some, slice_get}
use Rattle.hybrid.specs.HybridLog.{HasRoom}
use Rattle.world_model.specs.declared.event.Event.{Event}
use Rattle.world_model.specs.Logs.{Stamped, place_at}
use Rattle.world_model.specs.Places.{Each, standing}
use Rattle.world_model.specs.States.{ClientState, State, log_at, start}
use Rattle.world_model.specs.Advancing.{When}
use Rattle.world_model.specs.Enabled.{is_enabled_in, is_past}
use Rattle.world_model.specs.Effects.{Works}
use Rattle.world_log.specs.Places.{Receipt, Shelves, places_of}
use Rattle.world_log.specs.Beside.{Agrees, IsNumbered}
use Rattle.world_log.specs.Given.{AreAllGiven}
use Rattle.world_log.specs.Stripes.{IsEven, lane_beside, lane_counted, lane_log, lane_state, marks_of, states_of, stores_of}
use Rattle.world_log.specs.declared.queues.Queues.{Queues}
use Rattle.world_log.specs.Types.{Lane, Stripes}
use Rattle.world_log.specs.declared.logs.WorldLog.{WorldLog}

abbrev pub epoch_of : WorldLog → ℕ
epoch_of log = log.epoch

-- the plain state, whose clients, history, stores and marks are those of `rest`
abbrev pub state_beside : State → WorldLog → State
state_beside rest log = record rest {
  holders = log.stripes.holders.items;
  logs = states_of log.stripes;
  places = places_of log.device;
  epoch = log.epoch;
  frames = log.frames;
  limit = log.limit;
}

-- the plain state, whose clients and history are those of `rest`
abbrev pub with_values : State → Stripes → State
with_values rest stripes = record rest { stores = stores_of stripes; marks = marks_of stripes }

abbrev pub state_of : State → WorldLog → State
state_of rest log = state_beside (with_values rest log.stripes) log

-- it is as at the beginning, whatever clients and history there are
abbrev pub IsNew : (stripes frames limit : ℕ) → WorldLog → Type 0
IsNew stripes frames limit log =
    (rest : State) → state_of rest log ≡ record (start stripes 0 frames limit) { clients = rest.clients; history = rest.history }

-- the epochs of these places are below this one, and each is below that of the places behind it
abbrev pub AreRising : ℕ → List Stamped → Type 0
AreRising epoch [] = Unit {0}
AreRising epoch (one ∷ others) = (one.epoch < epoch) × Each (λ (other : Stamped). one.epoch < other.epoch) others × AreRising epoch others

-- a stripe's log agrees with what stands beside it, has so many frames and places, its stamps rise and are below the epoch, and the device gave
-- all of its receipts
pub record IsLane (device : Shelves) (frame_count limit epoch : ℕ) (lane : Lane) : Type 0 where
  pub agrees : Agrees (lane_counted lane) lane.queues
  pub numbered : IsNumbered (lane_log lane)
  pub frames : (lane_log lane).resident.frames ≡ frame_count
  pub places : (lane_log lane).places ≡ limit
  pub stamps : AreRising epoch (lane_state lane).retired
  pub given : AreAllGiven device (lane_log lane) (lane_beside lane)

-- there is a log for each stripe, and each is right
pub record IsWorldLog (log : WorldLog) : Type 0 where
  pub even : IsEven log.stripes
  pub lanes : (i : ℕ) (lane : Lane) → slice_get log.stripes.lanes.items i ≡ Some lane → IsLane log.device log.frames log.limit log.epoch lane

-- an event of a stripe did what it does where it is enabled, and else nothing
abbrev pub Took : State → Event → WorldLog → WorldLog → Type 0
Took rest e old new = When (is_enabled_in (state_of rest old) e) (Works (state_of rest old) e (state_of rest new)) (state_of rest new ≡ state_of rest old)

-- the stays of all clients, and whether each is past an epoch
abbrev pub stays_of : State → List (Option ℕ)
stays_of rest = map (λ (peer : ClientState). peer.stay) rest.clients

abbrev pub all_stays_past : List (Option ℕ) → ℕ → Bool
all_stays_past [] e = true
all_stays_past (one ∷ stays) e = is_past e one && all_stays_past stays e

-- the oldest retired place has this stamp
pub record IsOldest (queues : Queues) (epoch : ℕ) : Type 0 where
  pub one : Receipt × ℕ
  pub others : List (Receipt × ℕ)
  pub items : queues.retired.items ≡ one ∷ others
  pub stamp : one.1 ≡ epoch

-- no receipt that is kept of a stripe is of a place that was released, as `NoneReleased` says of the plain state
abbrev pub NoneReleasedAt : WorldLog → ℕ → Type 0
NoneReleasedAt log i =
    (number place : ℕ) → place_at (log_at (states_of log.stripes) i) number ≡ Some place → standing (places_of log.device) place ≡ 1

-- A step on stripes leaves who holds which, and there is room for what there was room for in a stripe that is held.
pub record KeepsHeld (old new : Stripes) : Type 0 where
  pub holders : new.holders ≡ old.holders
  pub rooms : (i c : ℕ) (lane : Lane) → get_or old.holders.items i None ≡ Some c → slice_get old.lanes.items i ≡ Some lane
      → (later : Lane) × (slice_get new.lanes.items i ≡ Some later) × ((weight : ℕ) → HasRoom (lane_log lane) weight → HasRoom (lane_log later) weight)
