use Rattle.std.proofs.Common.{rules}
use Rattle.gates.proofs.Trying.{taken_at_once}
use Rattle.gates.proofs.gates.Gates.hold.Goals as goal

pub returns-clause-taken : goal.returns-clause-taken
returns-clause-taken g c before took = taken_at_once g.T.Part.meaning c.args.self.now c.args.stripes.now before _ _ took (search rules)

pub returns-clause-told : goal.returns-clause-told
returns-clause-told g c before took = took.notes
