use Rattle.std.proofs.Common.{◌++◌, take, ◌∙◌}
use Rattle.streams.specs.Laws.{Appends-then}
use Rattle.streams.proofs.Sent.{rest_sent}
use Rattle.streams.proofs.noted.Noted.write_all.Goals as goal

pub loop-rest-preserved : goal.loop-rest-preserved
loop-rest-preserved g c =
    let before = c.loop-rest.invariant.0 in
    let written = c.in-Ok.ensures.written in
    ((before.0 ++ take c.in-Ok.count c.loop-rest.rest.now, Appends-then _ _ _ before.0 _ before.1 written.2, rest_sent _ before.0 _ _ before.2), c.in-Ok.ensures.told ∙ c.loop-rest.invariant.1, c.in-Ok.ensures.reads ∙ c.loop-rest.invariant.2)
