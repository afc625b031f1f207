use Rattle.gates.specs.Passes.{known, parts_in, taken_in, stripes_of}
use Rattle.gates.proofs.Holding.{telling_fit}
use Rattle.gates.proofs.gates.Gates.give_telling.Goals as goal

pub give_first-requires-clause-fit : goal.give_first-requires-clause-fit
give_first-requires-clause-fit g c =
    telling_fit g.T.Part.meaning (stripes_of c.args.self.now) g.E.Ending.ends g.E.Ending.told (known c.args.pass.now) (taken_in c.args.pass.now) (parts_in c.args.pass.now) c.requires.fit
