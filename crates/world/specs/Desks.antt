-- What a client of the world has beside its session, and the client that both are.
use Rattle.std.specs.Prelude.{ℕ, ◌≡◌, ◌+◌, ◌<◌, Bool, true, false, [], map, None}
use Rattle.hybrid.specs.Staging.{AreRight}
use Rattle.world_log.specs.Places.{Receipt, Shelves}
use Rattle.world_log.specs.Given.{IsGiven, StaysGiven}
use Rattle.world_log.specs.WorldLogs.{IsWorldLog, state_of}
use Rattle.world_log.specs.declared.logs.WorldLog.{WorldLog}
use Rattle.world_model.specs.States.{Due, ClientState, State}
use Rattle.world_model.specs.Enabled.{are_none}
use Rattle.world_model.specs.Places.{Each}
use Rattle.world_model.specs.Planning.{ROUNDS}
use Rattle.world.specs.declared.desk.Plan.{Plan}
use Rattle.world.specs.declared.desk.Plan.TheVariants as plan
use Rattle.world.specs.declared.desk.Stage.{Stage}
use Rattle.world.specs.declared.desk.Stage.TheVariants as stage
use Rattle.world.specs.declared.desk.Desk.{Desk}
use Rattle.world.specs.declared.member.Member.{Member}

-- a receipt that is to be read, by numbers
abbrev pub due_of : ℕ × Receipt → Due
due_of read = record { stripe = read.0; place = read.1.place }

-- whether a plan met a full stripe
abbrev pub is_full_plan : Plan → Bool
is_full_plan plan.Nothing = false
is_full_plan (plan.Made planned) = false
is_full_plan plan.Full = true

-- a client with this beside its session
abbrev pub beside : Desk → ClientState → ClientState
beside desk one = record one {
  due = map due_of desk.due.items;
  fetched = desk.fetched;
  full = is_full_plan desk.plan;
  stay = desk.stay;
}

abbrev pub client_of : Member → ClientState
client_of member = beside member.desk member.peer

-- that of a client without a call
pub record IsNew (desk : Desk) : Type 0 where
  pub due : desk.due.items ≡ []
  pub staged : desk.staged ≡ []
  pub fetched : desk.fetched ≡ 0
  pub plan : desk.plan ≡ plan.Nothing
  pub stay : desk.stay ≡ None

-- how far a call was planned
abbrev pub IsStage : Stage → Plan → Type 0
IsStage stage.Nothing plan.Nothing = Unit {0}
IsStage stage.Made (plan.Made planned) = Unit {0}
IsStage stage.Full plan.Full = Unit {0}
IsStage _ _ = ⊥

-- what a client has beside its session once its call is committed
pub record IsDone (before after : Desk) : Type 0 where
  pub due : after.due ≡ before.due
  pub fetched : after.fetched ≡ 0
  pub full : is_full_plan after.plan ≡ false
  pub stay : after.stay ≡ before.stay

-- The device gave the receipts that are to be read; the pages that were read are right; and receipts are to be read only while that may be
-- done still.
pub record IsRight (device : Shelves) (desk : Desk) : Type 0 where
  pub given : Each (λ (read : ℕ × Receipt). IsGiven device read.1) desk.due.items
  pub right : AreRight desk.staged
  pub few : are_none desk.due.items ≡ false → desk.fetched < ROUNDS

-- The pages that were due were read; no place of the device has changed.
pub record HasFetched (old : Desk) (before : WorldLog) (new : Desk) (after : WorldLog) : Type 0 where
  pub due : new.due.items ≡ []
  pub fetched : new.fetched ≡ old.fetched + 1
  pub plan : new.plan ≡ old.plan
  pub stay : new.stay ≡ old.stay
  pub right : AreRight new.staged
  pub same : (rest : State) → state_of rest after ≡ state_of rest before
  pub stripes : after.stripes ≡ before.stripes
  pub log : IsWorldLog after
  pub given : StaysGiven before.device after.device
