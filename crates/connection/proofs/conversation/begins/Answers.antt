use Rattle.connection.proofs.Conversing.{conversation_begins}
use Rattle.connection.proofs.conversation.begins.Goals as goal

pub returns : goal.returns
returns c = conversation_begins
