use Rattle.std.proofs.Common.{◌≡◌, ◌∙◌, ◌<◌, length, nat_lt, true, ap, refl, arith, sym, subst, false}
use Rattle.std.proofs.lemmas.Bool.{ltb-true}
use Rattle.std.proofs.lemmas.Option.{slice_get_read}
use Rattle.hybrid.specs.HybridLog.{HybridLog}
use Rattle.shards.specs.Counted.{Counted}
use Rattle.world_model.specs.Logs.{LogState}
use Rattle.world_log.specs.Stripes.{lane_log}
use Rattle.world_log.specs.WorldLogs.{with_values}
use Rattle.world_log.proofs.LaneSteps.{free_is, log_there, reached}
use Rattle.world_log.proofs.RoomSteps.{took_unlink, told_unlink}
use Rattle.world_log.proofs.logs.WorldLog.unlink.Goals as goal

pub clean-requires-clause-within : goal.clean-requires-clause-within
clean-requires-clause-within c = omega (arith, c.if-i-len.false, c.len.ensures, c.requires.log.even.lanes)

pub clean-requires-clause-free : goal.clean-requires-clause-free
clean-requires-clause-free c =
    let held = slice_get_read c.args.self.now.stripes.holders.items (length c.args.self.now.stripes.holders.items) c.args.i c.index.result.now refl
    (omega (arith, c.if-i-len.false, c.len.ensures, c.requires.log.even.lanes)) c.index.ensures in
    free_is c.args.self.now c.args.i c.index.result.now held (rw c.is_some.ensures at c.if-is_some.false)

pub clean-requires-clause-cold : goal.clean-requires-clause-cold
clean-requires-clause-cold c =
    let here = slice_get_read c.args.self.now.stripes.lanes.items (length c.args.self.now.stripes.lanes.items) c.args.i c.index-2.result.now refl
    (omega (arith, c.if-i-len.false, c.len.ensures)) c.index-2.ensures in
    let cold : nat_lt (lane_log c.index-2.result.now).oldest (lane_log c.index-2.result.now).resident.oldest ≡ true =
    subst (λ (p : HybridLog). nat_lt p.oldest p.resident.oldest ≡ true) (c.stripe.ensures.log ∙ ap (λ (x : Counted). x.log) c.counted.ensures) (sym c.is_cold.ensures ∙ c.if-not-is_cold.false) in
    subst (λ (l : LogState). l.oldest < l.first) (sym (log_there c.args.self.now.stripes.lanes.items c.args.i c.index-2.result.now here)) (ltb-true _ _ cold)

pub returns-clause-took : goal.returns-clause-took
returns-clause-took c rest stays =
    let here = slice_get_read c.args.self.now.stripes.lanes.items (length c.args.self.now.stripes.lanes.items) c.args.i c.index-2.result.now refl
    (omega (arith, c.if-i-len.false, c.len.ensures)) c.index-2.ensures in
    let held = slice_get_read c.args.self.now.stripes.holders.items (length c.args.self.now.stripes.holders.items) c.args.i c.index.result.now refl
    (omega (arith, c.if-i-len.false, c.len.ensures, c.requires.log.even.lanes)) c.index.ensures in
    let cold : nat_lt (lane_log c.index-2.result.now).oldest (lane_log c.index-2.result.now).resident.oldest ≡ true =
    subst (λ (p : HybridLog). nat_lt p.oldest p.resident.oldest ≡ true) (c.stripe.ensures.log ∙ ap (λ (x : Counted). x.log) c.counted.ensures) (sym c.is_cold.ensures ∙ c.if-not-is_cold.false) in
    took_unlink rest c.args.i c.args.self.now c.clean.new.self (sym (
    told_unlink (with_values rest c.args.self.now.stripes) c.args.self.now c.args.i c.index-2.result.now true (reached c.args.self.now c.args.i c.index-2.result.now c.requires.log here)
    (free_is c.args.self.now c.args.i c.index.result.now held (rw c.is_some.ensures at c.if-is_some.false)) cold))
    (c.in_ok-clean.ensures.does rest stays)

pub returns-clause-told : goal.returns-clause-told
returns-clause-told c rest =
    let here = slice_get_read c.args.self.now.stripes.lanes.items (length c.args.self.now.stripes.lanes.items) c.args.i c.index-2.result.now refl
    (omega (arith, c.if-i-len.false, c.len.ensures)) c.index-2.ensures in
    let held = slice_get_read c.args.self.now.stripes.holders.items (length c.args.self.now.stripes.holders.items) c.args.i c.index.result.now refl
    (omega (arith, c.if-i-len.false, c.len.ensures, c.requires.log.even.lanes)) c.index.ensures in
    let cold : nat_lt (lane_log c.index-2.result.now).oldest (lane_log c.index-2.result.now).resident.oldest ≡ true =
    subst (λ (p : HybridLog). nat_lt p.oldest p.resident.oldest ≡ true) (c.stripe.ensures.log ∙ ap (λ (x : Counted). x.log) c.counted.ensures) (sym c.is_cold.ensures ∙ c.if-not-is_cold.false) in
    told_unlink (with_values rest c.args.self.now.stripes) c.args.self.now c.args.i c.index-2.result.now true (reached c.args.self.now c.args.i c.index-2.result.now c.requires.log here)
    (free_is c.args.self.now c.args.i c.index.result.now held (rw c.is_some.ensures at c.if-is_some.false)) cold

pub returns-then-not-is_cold-clause-told : goal.returns-then-not-is_cold-clause-told
returns-then-not-is_cold-clause-told c rest =
    let here = slice_get_read c.args.self.now.stripes.lanes.items (length c.args.self.now.stripes.lanes.items) c.args.i c.index-2.result.now refl
    (omega (arith, c.if-i-len.false, c.len.ensures)) c.index-2.ensures in
    let held = slice_get_read c.args.self.now.stripes.holders.items (length c.args.self.now.stripes.holders.items) c.args.i c.index.result.now refl
    (omega (arith, c.if-i-len.false, c.len.ensures, c.requires.log.even.lanes)) c.index.ensures in
    told_unlink (with_values rest c.args.self.now.stripes) c.args.self.now c.args.i c.index-2.result.now false (reached c.args.self.now c.args.i c.index-2.result.now c.requires.log here)
    (free_is c.args.self.now c.args.i c.index.result.now held (rw c.is_some.ensures at c.if-is_some.false))
    (subst (λ (p : HybridLog). nat_lt p.oldest p.resident.oldest ≡ false) (c.stripe.ensures.log ∙ ap (λ (x : Counted). x.log) c.counted.ensures) (sym c.is_cold.ensures ∙ c.if-not-is_cold.true))
