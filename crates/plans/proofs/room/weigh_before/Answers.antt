use Rattle.std.proofs.Common.{◌≡◌, ◌∙◌, true, false, sym, ap, cond, arith}
use Rattle.words.specs.Store.{writes_key}
use Rattle.shards.specs.Shards.{weigh}
use Rattle.plans.proofs.Rooms.{first_light}
use Rattle.plans.proofs.room.weigh_before.Goals as goal

pub weigh-requires : goal.weigh-requires
weigh-requires c =
    let last : writes_key c.args.others.now c.args.write.now.0 ≡ false = ap (writes_key c.args.others.now) (sym c.key.ensures) ∙ sym c.writes_to.ensures ∙ c.if-writes_to.false in
    omega (arith, first_light c.args.write.now c.args.others.now last, c.requires)

pub returns-then-writes_to : goal.returns-then-writes_to
returns-then-writes_to c =
    let hidden : writes_key c.args.others.now c.args.write.now.0 ≡ true = ap (writes_key c.args.others.now) (sym c.key.ensures) ∙ sym c.writes_to.ensures ∙ c.if-writes_to.true in
    sym (ap (λ b. cond b 0 (weigh c.args.write.now)) hidden)

pub returns : goal.returns
returns c =
    let last : writes_key c.args.others.now c.args.write.now.0 ≡ false = ap (writes_key c.args.others.now) (sym c.key.ensures) ∙ sym c.writes_to.ensures ∙ c.if-writes_to.false in
    c.weigh.ensures ∙ sym (ap (λ b. cond b 0 (weigh c.args.write.now)) last)
