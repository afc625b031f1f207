-- A client of the world that plans its open call.
use Rattle.std.specs.Prelude.{ℕ, ◌≡◌, true, false, List, Option, Some, None}
use Rattle.hybrid.specs.Staging.{AreRight}
use Rattle.transact.specs.declared.call.Call.{Call}
use Rattle.transact.specs.Plans.{IsEntry}
use Rattle.plans.specs.Reading.{AreServed}
use Rattle.plans.specs.Sizes.{IsPlaced}
use Rattle.transact.specs.Submits.{stripes_asked}
use Rattle.world_log.specs.Freeing.{HasStepped}
use Rattle.world_log.specs.Places.{Serves, identity}
use Rattle.world_log.specs.PlanLaws.{logs_lent}
use Rattle.world_log.specs.Stripes.{acts_for}
use Rattle.world_log.specs.declared.logs.WorldLog.{WorldLog}
use Rattle.world_model.specs.States.{open_call}
use Rattle.world_model.specs.Enabled.{first_missing}
use Rattle.world.specs.Planning.{HasArranged, count_of, looks_up}
use Rattle.world.specs.declared.desk.Desk.{Desk}
use Rattle.world.specs.declared.member.Member.{Member}

-- A client holds all stripes of its call, which is within the limits; and receipts that are kept in its stripes are served, also where room
-- was made.
pub record IsReadyToPlan (log : WorldLog) (c : ℕ) (stays : List (Option ℕ)) (one : Member) : Type 0 where
  pub entry : (call : Call) → open_call one.peer.phase ≡ Some call → looks_up call ≡ true → IsEntry call
  pub place : (call : Call) → open_call one.peer.phase ≡ Some call → looks_up call ≡ true → IsPlaced call
  pub all : (call : Call) → open_call one.peer.phase ≡ Some call
      → first_missing log.stripes.holders.items c (stripes_asked (count_of log.stripes) call) ≡ None
  pub right : AreRight one.desk.staged
  pub served : (mid : WorldLog) → HasStepped stays log mid → AreServed Serves identity mid.device (logs_lent (acts_for mid.stripes c))

-- Its call is planned where it looks keys up, and else nothing has changed.
pub data HasPlannedFor (old : WorldLog) (c : ℕ) (stays : List (Option ℕ)) (one : Member) (new : WorldLog) (desk : Desk) : Type 0 where
  Plans : (call : Call) → open_call one.peer.phase ≡ Some call → looks_up call ≡ true → HasArranged old c call stays one.desk new desk
      → HasPlannedFor old c stays one new desk
  Waits : ((call : Call) → open_call one.peer.phase ≡ Some call → looks_up call ≡ false) → new ≡ old → desk ≡ one.desk
      → HasPlannedFor old c stays one new desk
