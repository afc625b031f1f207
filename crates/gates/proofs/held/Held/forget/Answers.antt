use Rattle.std.proofs.Common.{rules, true, sym, ap, subst, ◌∙◌}
use Rattle.gates.specs.Sets.{rest_of}
use Rattle.gates.specs.declared.view.Knowledge.{Knowledge}
use Rattle.gates.specs.Passes.{stripes_of, known, parts_in, taken_in, AllFit}
use Rattle.gates.proofs.Holding.{first_part, no_parts}
use Rattle.gates.proofs.Asked.{kept_nothing}
use Rattle.gates.specs.Plays.{kept}
use Rattle.gates.proofs.Telling.{none_told}
use Rattle.gates.proofs.held.Held.forget.Goals as goal

-- where nothing is held, nothing is watched
pub give_all-requires-clause-fit : goal.give_all-requires-clause-fit
give_all-requires-clause-fit g c =
    let pass = c.args.self.pass.now in
    let n = stripes_of c.args.self.gates.now in
    let none = no_parts (parts_in pass) (c.requires.open.order ∙ c.in_default.ensures) in
    subst (λ (k : Knowledge). AllFit g.T.Part.meaning n k (taken_in pass) (parts_in pass)) (kept_nothing n (parts_in pass) (known pass) none c.requires.keys) c.requires.fit

pub returns-in_default-clause-known : goal.returns-in_default-clause-known
returns-in_default-clause-known g c =
    let pass = c.args.self.pass.now in
    let n = stripes_of c.args.self.gates.now in
    let none = no_parts (parts_in pass) (c.requires.open.order ∙ c.in_default.ensures) in
    c.give_all.ensures.known
    ∙ sym (ap (λ l. kept true l (known pass)) (none_told g.T.Part.meaning (taken_in pass) (parts_in pass) c.args.report.now none c.requires.told)
    ∙ kept_nothing n (parts_in pass) (known pass) none c.requires.keys)

pub give_telling-requires-clause-first : goal.give_telling-requires-clause-first
give_telling-requires-clause-first g c =
    first_part (parts_in c.args.self.pass.now) c.in-Some.first (rest_of c.args.self.order) (c.requires.open.order ∙ c.in-Some.ensures)

pub returns-clause-known : goal.returns-clause-known
returns-clause-known g c = search rules
