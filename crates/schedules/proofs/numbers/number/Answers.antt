use Rattle.std.proofs.Common.{sym, ◌∙◌}
use Rattle.schedules.proofs.Numerals.{unnumbered, refused, taken}
use Rattle.schedules.proofs.numbers.number.Goals as goal

pub returns-in_err-parse : goal.returns-in_err-parse
returns-in_err-parse c =
    let none = sym c.parse.ensures ∙ c.in_err-parse.was in
    rw c.from_residual.ensures (unnumbered c.args.end c.args.text.now c.requires none)

pub returns-in_err-number : goal.returns-in_err-number
returns-in_err-number c =
    let some = sym c.parse.ensures ∙ c.in_ok-parse.was in
    let none = sym c.ok.ensures.value ∙ c.in_err-number.was in
    rw c.from_residual-in_err-number.ensures
    (refused c.args.end c.args.text.now c.in_ok-parse.field-0 c.try_from.result c.requires some c.try_from.ensures none)

pub returns : goal.returns
returns c =
    let some = sym c.parse.ensures ∙ c.in_ok-parse.was in
    let taken_as = sym c.ok.ensures.value ∙ c.in_ok-number.was in
    rw c.then_some.ensures
    (taken c.args.end c.args.text.now c.in_ok-parse.field-0 c.try_from.result c.in_ok-number.number c.requires some c.try_from.ensures taken_as)
