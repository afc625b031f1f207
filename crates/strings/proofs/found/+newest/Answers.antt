use Rattle.std.proofs.Common.{◌∙◌, sym}
use Rattle.strings.proofs.Shows.{last_here, last_elsewhere, found_in_rest}
use Rattle.strings.proofs.found.+newest.Goals as goal

pub returns-then-is_of : goal.returns-then-is_of
returns-then-is_of t c =
    λ store. last_here c.args.findings.now c.in_ok-finding.others.now c.in_ok-finding.finding.now c.args.key.now store c.in_ok-finding.ensures.cases.0
    (sym c.is_of.ensures ∙ c.if-is_of.true)

pub returns-else-is_of : goal.returns-else-is_of
returns-else-is_of t c =
    found_in_rest c.newest.result c.args.findings.now c.in_ok-finding.others.now c.args.key.now
    (λ store. last_elsewhere c.args.findings.now c.in_ok-finding.others.now c.in_ok-finding.finding.now c.args.key.now store c.in_ok-finding.ensures.cases.0
    (sym c.is_of.ensures ∙ c.if-is_of.false))
    c.newest.ensures
