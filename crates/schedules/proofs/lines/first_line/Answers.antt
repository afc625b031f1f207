use Rattle.schedules.proofs.Spellings.{no_first, no_first_of_two, no_first_of_three, first_of_four}
use Rattle.schedules.proofs.lines.first_line.Goals as goal

pub returns-in_err-name : goal.returns-in_err-name
returns-in_err-name c = rw c.from_residual.ensures (no_first c.args.text.now c.in_err-name.ensures)

pub returns-in_err-clients : goal.returns-in_err-clients
returns-in_err-clients c =
    rw c.from_residual-in_err-clients.ensures
    (no_first_of_two c.args.text.now c.in_ok-name.name.now c.in_ok-name.numbers.now c.in_ok-name.ensures c.in_err-clients.ensures)

pub returns-in_err-stripes : goal.returns-in_err-stripes
returns-in_err-stripes c =
    rw c.from_residual-in_err-stripes.ensures
    (no_first_of_three c.args.text.now c.in_ok-name.name.now c.in_ok-name.numbers.now c.in_ok-clients.clients.now c.in_ok-clients.numbers.now
    c.in_ok-name.ensures c.in_ok-clients.ensures c.in_err-stripes.ensures)

pub returns : goal.returns
returns c =
    first_of_four c.args.text.now c.in_ok-name.name.now c.in_ok-name.numbers.now c.in_ok-clients.clients.now c.in_ok-clients.numbers.now
    c.in_ok-stripes.stripes.now c.in_ok-stripes.frames.now c.limits_of.result
    c.in_ok-name.ensures c.in_ok-clients.ensures c.in_ok-stripes.ensures c.limits_of.ensures
