use Rattle.std.proofs.Common.{ℕ}
use Rattle.plans.proofs.Logs.{logs_one}
use Rattle.plans.proofs.Waits.{waits_one}
use Rattle.plans.proofs.cells.clear.Goals as goal

pub returns-clause-logs : goal.returns-clause-logs
returns-clause-logs g c =
    let i : ℕ = c.stripe_in-stripe.result in
    let new = c.clear.new.self in
    logs_one (g.P.Parts.part_of c.args.parts.now) (g.P.Parts.part_of (g.P.Parts.with_part c.args.parts.now i new)) i c.part.result.now new
    c.part.ensures.value (c.part.ensures.written new) (c.part.ensures.others new) c.clear.ensures.log

pub returns-clause-waits : goal.returns-clause-waits
returns-clause-waits g c =
    let i : ℕ = c.stripe_in-stripe.result in
    let new = c.clear.new.self in
    waits_one (g.P.Parts.part_of c.args.parts.now) (g.P.Parts.part_of (g.P.Parts.with_part c.args.parts.now i new)) i c.part.result.now new
    c.part.ensures.value (c.part.ensures.written new) (c.part.ensures.others new) c.clear.ensures.waits
