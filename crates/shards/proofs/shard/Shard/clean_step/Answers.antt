use Rattle.std.proofs.Common.{◌≡◌, ◌∙◌, IfOk, ap, subst}
use Rattle.std.specs.Prelude.{⊤}
use Rattle.hybrid.specs.HybridLog.{HybridLog}
use Rattle.hybrid.specs.Weighing.{oldest_weight}
use Rattle.epoch.specs.Seats.{known}
use Rattle.epoch.specs.declared.epochs.EpochSeat.{EpochSeat}
use Rattle.gates.specs.Background.{IsStep}
use Rattle.gates.specs.declared.view.Work.TheVariants.{Clean}
use Rattle.shards.specs.Cleaning.{MatchStepped, WasNotDrained}
use Rattle.shards.specs.Counted.{Counted}
use Rattle.shards.specs.Rooms.{HasNoRoom}
use Rattle.shards.specs.Shards.{shard_counted, shard_log, shard_pages}
use Rattle.shards.specs.declared.shard.Shard.{Shard}
use Rattle.shards.proofs.Refreed.{step_since, stepped_by, tried_both, worn_by}
use Rattle.shards.proofs.shard.Shard.clean_step.Goals as goal

pub returns-in_default-clause-done : goal.returns-in_default-clause-done
returns-in_default-clause-done g c = λ refused.
    subst (λ (s : Shard _). IsStep (Clean refused) (shard_pages s) (shard_pages c.drains.new.self)) c.if-release.ensures.none.1 (c.in_default.ensures.done refused)

pub returns-in_default-retires-clause-done : goal.returns-in_default-retires-clause-done
returns-in_default-retires-clause-done g c = λ refused.
    let left = subst (λ (s : Shard _). WasNotDrained c.in-Some.drain (shard_counted s) (shard_counted c.drains.new.self)) c.if-release.ensures.none.1 c.in-Some.ensures.left in
    step_since refused c.args.self.now c.drains.new.self c.retires.new.self left.same (c.in_default-retires.ensures.done refused)

pub returns-clause-lacks : goal.returns-clause-lacks
returns-clause-lacks g c = λ t right.
    let still : shard_log c.retires.new.self ≡ shard_log c.args.self.now =
    ap (λ (x : Counted). x.log) c.in-Some-retires.ensures.left.same ∙ ap (λ (x : Counted). x.log) c.in-Some.ensures.left.same ∙ ap (λ (s : Shard _). shard_log s) c.if-release.ensures.none.1 in
    subst (λ (p : HybridLog). IfOk c.clean.result (λ step. MatchStepped step ⊤ (λ told. ⊤) (λ told. HasNoRoom (shard_log c.clean.new.self) (oldest_weight p)) (λ number. ⊤))) still (c.clean.ensures.lacks t right)

pub returns-clause-seat : goal.returns-clause-seat
returns-clause-seat g c = record {
  outside = c.clean.ensures.seat.outside;
  tried = tried_both (known c.args.seat.now) (known c.retires.new.seat) (known c.clean.new.seat) c.retires.ensures.tried c.clean.ensures.seat.tried;
}

pub returns-clause-done : goal.returns-clause-done
returns-clause-done g c =
    let none = c.if-release.ensures.none in
    stepped_by c.clean.result c.in-Some-retires.retire c.in-Some.drain c.args.self.now c.drains.new.self c.retires.new.self c.clean.new.self _ none.0
    (subst (λ (s : Shard _). WasNotDrained c.in-Some.drain (shard_counted s) (shard_counted c.drains.new.self)) none.1 c.in-Some.ensures.left) c.in-Some-retires.ensures.left c.clean.ensures.cleaned

pub returns-clause-worn : goal.returns-clause-worn
returns-clause-worn g c =
    worn_by c.clean.result c.in-Some-retires.retire c.in-Some.drain c.retires.new.self c.clean.new.self _ _ _ (known c.args.seat.now) (known c.retires.new.seat) (known c.clean.new.seat) _
    (λ same. ap (λ (s : EpochSeat). known s) same) c.retires.ensures.tried c.in-Some-retires.ensures.worn c.clean.ensures.cleaned c.clean.ensures.worn
