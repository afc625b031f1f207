use Rattle.connection.proofs.Conversing.{conversation_next}
use Rattle.connection.proofs.conversation.goes_on.Goals as goal

pub returns : goal.returns
returns c = conversation_next
