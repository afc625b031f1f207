use Rattle.connection.proofs.Called.{wants_command}
use Rattle.connection.proofs.answering.answer_obeyed.Goals as goal

pub returns-in-Err-clause-turned : goal.returns-in-Err-clause-turned
returns-in-Err-clause-turned g c =
    (wants_command c.args.words.now c.args.client.now c.requires.request (λ asks. absurd (cc (c.in-Err.ensures.memory asks))), c.requires.is_open)
