use Rattle.connection.proofs.Turns.{answers_want}
use Rattle.connection.proofs.conversation.says_out_of_memory.Goals as goal

pub returns : goal.returns
returns c = answers_want
