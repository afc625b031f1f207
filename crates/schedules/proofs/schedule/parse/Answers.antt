use Rattle.std.proofs.lemmas.Grind.{common_steps}
use Rattle.std.proofs.Common.{arith, ◌≡◌, refl}
use Rattle.schedules.specs.Schedules.{First}
use Rattle.schedules.proofs.Texts.{no_first_line, no_first_line_of, bad}
use Rattle.schedules.proofs.schedule.parse.Goals as goal

pub returns-in_default-clause-bad : goal.returns-in_default-clause-bad
returns-in_default-clause-bad c = λ number is. (
    let one : number ≡ 1 = cc in
    First one (no_first_line c.args.text.now c.in_default.ensures)
    )

pub returns-in_default-first_line-clause-bad : goal.returns-in_default-first_line-clause-bad
returns-in_default-first_line-clause-bad c = λ number is. (
    let one : number ≡ 1 = cc in
    First one (no_first_line_of c.args.text.now c.in-Some.line.now c.in-Some.rest.now c.in-Some.ensures c.in_default-first_line.ensures)
    )

pub returns-in-Err-clause-bad : goal.returns-in-Err-clause-bad
returns-in-Err-clause-bad c = λ number is.
    bad c.in-Some-first_line.limits c.args.text.now c.in-Some.line.now c.in-Some.rest.now number
    c.in-Some.ensures c.in-Some-first_line.ensures (c.in-Err.ensures.bad number is)

pub returns-in-Ok-clause-schedule : goal.returns-in-Ok-clause-schedule
returns-in-Ok-clause-schedule c = grind (arith, common_steps)
