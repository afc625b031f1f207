use Rattle.std.proofs.Common.{rules}
use Rattle.connection.proofs.client.Client.take_up.Goals as goal

pub returns-in-Closed : goal.returns-in-Closed
returns-in-Closed c = search rules
