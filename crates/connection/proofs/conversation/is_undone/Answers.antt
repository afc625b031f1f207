use Rattle.connection.proofs.Turns.{answers_undone}
use Rattle.connection.proofs.conversation.is_undone.Goals as goal

pub returns : goal.returns
returns c = λ session pairs old called new call asked f reply. answers_undone session pairs old called new call asked f reply c.watches_follow_entries.ensures.fault
