use Rattle.std.proofs.Common.{inr, refl}
use Rattle.connection.proofs.client.Client.obey.Goals as goal

pub returns-in_default : goal.returns-in_default
returns-in_default c = (
  c.args.words.now,
  c.args.self.now.unread,
  record { request = c.requires.request; taken = refl },
  c.requires.is_open,
  inr (λ asks. absurd (cc (c.in_default.ensures.memory asks)), refl),
)
