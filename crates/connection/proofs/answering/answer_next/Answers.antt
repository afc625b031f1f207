use Rattle.connection.proofs.Called.{wants_memory}
use Rattle.connection.proofs.answering.answer_next.Goals as goal

pub returns-in-OutOfMemory-clause-turned : goal.returns-in-OutOfMemory-clause-turned
returns-in-OutOfMemory-clause-turned g c =
    let gives = c.in-OutOfMemory.ensures in (wants_memory _ _ gives.0 gives.1 gives.2 gives.4, gives.3)
