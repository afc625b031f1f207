use Rattle.std.proofs.Common.{◌≤◌, ◌∙◌, ℕ, ap, sym, subst, arith}
use Rattle.hybrid.specs.HybridLog.{HybridLog, IsHybridLog}
use Rattle.hybrid.specs.Weighing.{oldest_weight}
use Rattle.world_log.specs.Beside.{beside_of}
use Rattle.world_log.specs.Cleaning.{AreServed, HasUnlinked}
use Rattle.world_log.proofs.AllGiven.{all_stays}
use Rattle.world_log.proofs.CleanSteps.{made_from, served_places, weight_same}
use Rattle.world_log.proofs.GivenSteps.{given_places}
use Rattle.world_log.proofs.cleaning.unlink_oldest.Goals as goal

pub weigh-requires-clause-cold : goal.weigh-requires-clause-cold
weigh-requires-clause-cold c = rw c.stripe-2.ensures.log c.requires.cold

pub weigh-requires-clause-served : goal.weigh-requires-clause-served
weigh-requires-clause-served c = subst (λ (p : HybridLog). AreServed p c.args.device.now) (sym c.stripe-2.ensures.log) c.requires.served

pub make_room-requires-clause-served : goal.make_room-requires-clause-served
make_room-requires-clause-served c =
    served_places c.args.log.now.log c.args.device.now c.weigh.new.device c.in_ok-weight.ensures.places c.requires.served

pub returns-then-not-branch-clause-given : goal.returns-then-not-branch-clause-given
returns-then-not-branch-clause-given c given =
    c.in_ok-make_room.ensures.given
    (all_stays c.args.device.now c.weigh.new.device c.args.log.now.log (beside_of c.args.log.now c.args.queues.now)
    (given_places c.args.device.now c.weigh.new.device c.in_ok-weight.ensures.places) given)

pub clean-requires-clause-enough : goal.clean-requires-clause-enough
clean-requires-clause-enough c =
    let fit : IsHybridLog c.args.log.now.log = subst IsHybridLog c.stripe.ensures.log c.oldest-oldest.ensures.log in
    subst (λ (k : ℕ). k ≤ c.in_ok-weight.weight)
    (c.in_ok-weight.ensures.weight ∙ ap oldest_weight c.stripe-2.ensures.log
    ∙ sym (weight_same c.args.log.now.log c.make_room.new.log.log c.in_ok-make_room.ensures.reserved.0 fit c.requires.cold
    c.in_ok-make_room.ensures.reserved.1 c.in_ok-make_room.ensures.same))
    (omega arith)

pub returns-clause-does : goal.returns-clause-does
returns-clause-does c = (
  c.make_room.new.log.log,
  made_from c.args.log.now.log c.make_room.new.log.log c.args.device.now c.weigh.new.device c.make_room.new.device c.clean.new.device
      (beside_of c.args.log.now c.args.queues.now) c.in_ok-weight.ensures.places c.in_ok-clean.ensures.places c.in_ok-make_room.ensures.made,
  subst (λ b. HasUnlinked c.make_room.new.log.log b c.clean.new.log.log (beside_of c.clean.new.log c.args.queues.now)) c.in_ok-make_room.ensures.beside c.in_ok-clean.ensures.does,
)

pub returns-clause-given : goal.returns-clause-given
returns-clause-given c given =
    c.in_ok-clean.ensures.given c.clean.new.device
    (all_stays c.make_room.new.device c.clean.new.device c.make_room.new.log.log (beside_of c.make_room.new.log c.args.queues.now)
    (given_places c.make_room.new.device c.clean.new.device c.in_ok-clean.ensures.places)
    (c.in_ok-make_room.ensures.given
    (all_stays c.args.device.now c.weigh.new.device c.args.log.now.log (beside_of c.args.log.now c.args.queues.now)
    (given_places c.args.device.now c.weigh.new.device c.in_ok-weight.ensures.places) given)))

pub returns-clause-stays : goal.returns-clause-stays
returns-clause-stays c receipt given =
    given_places c.make_room.new.device c.clean.new.device c.in_ok-clean.ensures.places receipt
    (c.in_ok-make_room.ensures.stays receipt (given_places c.args.device.now c.weigh.new.device c.in_ok-weight.ensures.places receipt given))
