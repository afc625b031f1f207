-- A world at its beginning.
use Rattle.std.proofs.Common.{◌≡◌, ◌∙◌, ℕ, ◌≤◌, List, [], reverse, sym, ap, ap₂, subst, arith}
use Rattle.words.specs.History.{History}
use Rattle.hybrid.specs.Staging.{AreRight}
use Rattle.world_log.specs.Places.{Receipt, Shelves}
use Rattle.world_log.specs.Given.{IsGiven}
use Rattle.world_log.specs.WorldLogs.{IsNew as IsNewLog, IsWorldLog}
use Rattle.world_log.specs.Types.{Stripes}
use Rattle.world_model.specs.States.{ClientState, State, start, stripe_count}
use Rattle.world_model.specs.Places.{Each}
use Rattle.world_model.specs.Resting.{IsOrderly}
use Rattle.world_model.specs.Soundness.{IsSound}
use Rattle.world.specs.Desks.{IsNew, IsRight}
use Rattle.world.specs.Laws.{TurnLaws}
use Rattle.world.specs.Tables.{AreNew, IsKept, IsWorld, rest_of, state_of}
use Rattle.world.specs.declared.desk.Desk.{Desk}
use Rattle.world.specs.declared.world.World.{World}
use Rattle.world.proofs.Coming.{no_due}

-- so many clients and stripes, and an empty history
pub start_is : (world : World) (stripes clients frames limit : ℕ) → IsNewLog stripes frames limit world.log → AreNew clients world.members.items
    → world.history.items ≡ [] → state_of world ≡ start stripes clients frames limit
unfolding state_of
start_is world stripes clients frames limit new are none =
    new (rest_of world)
    ∙ ap₂ (λ (l : List ClientState) (h : History). (let s : State = record (start stripes 0 frames limit) { clients = l; history = h } in s)) are.all (ap reverse none)

-- no page is wrong where there is none
pub none_right : AreRight []
none_right k page below = absurd (omega (arith, below))

-- nothing is to be read for a new client, and nothing was planned
pub new_right : (device : Shelves) (desk : Desk) → IsNew desk → IsRight device desk
new_right device desk is = record {
  given = subst (Each (λ (read : ℕ × Receipt). IsGiven device read.1)) (sym is.due) tt;
  right = subst AreRight (sym is.staged) none_right;
  few = λ some. no_due desk.due.items is.due some;
}

pub new_kept : (state : State) (stripes : Stripes) (c : ℕ) (desk : Desk) → IsNew desk → IsKept state stripes c desk.plan
new_kept state stripes c desk is = subst (IsKept state stripes c) (sym is.plan) tt

start_ordered : TurnLaws → (world : World) (stripes clients frames limit : ℕ) → state_of world ≡ start stripes clients frames limit
    → IsWorldLog world.log → IsOrderly (state_of world)
unfolding state_of
start_ordered laws world stripes clients frames limit is log =
    subst IsOrderly (sym is)
    (laws.order_start stripes clients frames limit (subst (λ (state : State). 1 ≤ stripe_count state) is log.even.some))

pub world_is : TurnLaws → (world : World) (stripes clients frames limit : ℕ) → IsNewLog stripes frames limit world.log → IsWorldLog world.log
    → AreNew clients world.members.items → world.history.items ≡ [] → IsWorld world
world_is laws world stripes clients frames limit new log are none = record {
  sound = subst IsSound (sym (start_is world stripes clients frames limit new are none)) (laws.start stripes clients frames limit);
  order = start_ordered laws world stripes clients frames limit (start_is world stripes clients frames limit new are none) log;
  log = log;
  desks = λ c one at. new_right world.log.device one.desk (are.each c one at).1;
  plans = λ c one at. new_kept (state_of world) world.log.stripes c one.desk (are.each c one at).1;
}
