use Rattle.std.proofs.Common.{◌∙◌, ℕ}
use Rattle.shards.specs.Shards.{logs_of}
use Rattle.plans.proofs.Spots.{aimed}
use Rattle.plans.proofs.placing.target_for.Goals as goal

pub returns-in-Some-clause-target : goal.returns-in-Some-clause-target
returns-in-Some-clause-target g c =
    let n : ℕ = g.P.Parts.stripes_of c.args.parts.now in
    let logs = logs_of (g.P.Parts.part_of c.args.parts.now) in
    let made = c.target_with.ensures in
    aimed n logs c.args.write.now c.in-Some.found c.target_with.result c.size_of-size.result (c.in-Some.ensures.key ∙ c.key.ensures) c.size_of-size.ensures made.stripe made.hash made.spot (c.in-Some.ensures.among n logs c.requires.looked)
