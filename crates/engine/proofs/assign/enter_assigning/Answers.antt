use Rattle.gates.specs.Helds.{known_to}
use Rattle.engine.proofs.assign.enter_assigning.Goals as goal

pub enter_light-requires-clause-due : goal.enter_light-requires-clause-due
enter_light-requires-clause-due g c = λ t. c.are_light.ensures.done c.if-are_light.true (known_to c.args.held.now).seen
