use Rattle.connection.proofs.Conversing.{conversation_fed}
use Rattle.connection.proofs.conversation.is_fed.Goals as goal

pub returns : goal.returns
returns c = λ session own pairs fed said piece old talk. conversation_fed session own pairs fed said piece old talk
