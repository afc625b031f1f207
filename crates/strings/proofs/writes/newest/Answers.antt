use Rattle.std.proofs.Common.{◌∙◌, sym}
use Rattle.strings.proofs.Shows.{last_here, last_elsewhere}
use Rattle.strings.proofs.writes.newest.Goals as goal

pub returns-then-is_to : goal.returns-then-is_to
returns-then-is_to c =
    λ store. c.loop-write.invariant store
    ∙ last_here c.loop-write.rest.now c.in-Some.others.now c.in-Some.write.now c.args.key.now store c.in-Some.ensures.cases.0
    (sym c.is_to.ensures ∙ c.if-is_to.true)

pub loop-write-preserved : goal.loop-write-preserved
loop-write-preserved c =
    λ store. c.loop-write.invariant store
    ∙ last_elsewhere c.loop-write.rest.now c.in-Some.others.now c.in-Some.write.now c.args.key.now store c.in-Some.ensures.cases.0
    (sym c.is_to.ensures ∙ c.if-is_to.false)
