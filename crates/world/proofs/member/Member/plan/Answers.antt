use Rattle.std.proofs.Common.{◌∙◌, ap, sym}
use Rattle.world_model.specs.States.{open_call}
use Rattle.world.specs.Members.{Plans}
use Rattle.world.proofs.Worlds.{ok_then, on_call}
use Rattle.world.proofs.member.Member.plan.Goals as goal

pub returns-clause-planned : goal.returns-clause-planned
returns-clause-planned c =
    let on = on_call c.args.self.now.peer.phase c.in-Call.call c.in-Call.ensures in
    ok_then c.arrange.result
    (λ arranged. Plans c.in-Call.call.now (ap open_call on.1) (sym c.looks_up.ensures ∙ c.if-not-looks_up.false) arranged)
    c.arrange.ensures
