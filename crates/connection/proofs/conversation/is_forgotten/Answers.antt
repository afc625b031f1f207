use Rattle.connection.proofs.Turns.{answers_forgot}
use Rattle.connection.proofs.conversation.is_forgotten.Goals as goal

pub returns : goal.returns
returns c = answers_forgot
