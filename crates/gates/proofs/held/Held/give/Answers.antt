use Rattle.std.proofs.Common.{sym, ap, ◌∙◌, false}
use Rattle.gates.specs.Sets.{rest_of}
use Rattle.gates.specs.Plays.{kept}
use Rattle.gates.specs.Passes.{known, parts_in, taken_in}
use Rattle.gates.proofs.Holding.{first_part, no_parts}
use Rattle.gates.proofs.Telling.{none_told}
use Rattle.gates.proofs.held.Held.give.Goals as goal

-- where nothing is held, nothing is told
pub returns-in_default-clause-known : goal.returns-in_default-clause-known
returns-in_default-clause-known g c =
    let pass = c.args.self.pass.now in
    let none = no_parts (parts_in pass) (c.requires.open.order ∙ c.in_default.ensures) in
    c.give_all.ensures.known ∙ sym (ap (λ l. kept false l (known pass)) (none_told g.T.Part.meaning (taken_in pass) (parts_in pass) c.args.report.now none c.requires.told))

pub give_telling-requires-clause-first : goal.give_telling-requires-clause-first
give_telling-requires-clause-first g c =
    first_part (parts_in c.args.self.pass.now) c.in-Some.stripe (rest_of c.args.self.order) (c.requires.open.order ∙ c.in-Some.ensures)
