use Rattle.connection.proofs.Turns.{answers_done}
use Rattle.connection.proofs.conversation.is_done.Goals as goal

pub returns : goal.returns
returns c = λ session pairs old called new call asked given reply position. answers_done session pairs old called new call asked given reply position c.watches_follow_entries.ensures.entry
