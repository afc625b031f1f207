use Rattle.connection.proofs.Turns.{answers_said}
use Rattle.connection.proofs.conversation.says.Goals as goal

pub returns : goal.returns
returns c = answers_said
