use Rattle.std.proofs.Common.{⊎_elim, sym, ◌∙◌}
use Rattle.schedules.proofs.Hexes.{spells, upper_spells_none, unread_spells_none}
use Rattle.schedules.proofs.hexadecimal.bytes_of.Goals as goal

pub returns-then-has_upper_case : goal.returns-then-has_upper_case
returns-then-has_upper_case c =
    λ bytes are is. upper_spells_none c.args.text.now bytes (sym c.has_upper_case.ensures ∙ c.if-has_upper_case.true) are is

pub returns-in-Ok : goal.returns-in-Ok
returns-in-Ok c =
    let lower = sym c.has_upper_case.ensures ∙ c.if-has_upper_case.false in
    let are = spells c.args.text.now c.in-Ok.bytes.items lower (c.in-Ok.ensures.ok) in
    (are.1, are.0)

pub returns-in_default : goal.returns-in_default
returns-in_default c =
    λ bytes are is. ⊎_elim (λ memory. c.in_default.not-OutOfMemory memory)
    (λ unread. unread_spells_none c.args.text.now bytes c.in-Err.fault unread are is) c.in-Err.ensures.err
