use Rattle.connection.specs.Clients.{mode_of}
use Rattle.connection.proofs.Conversing.{closed_transcript, closed_leads}
use Rattle.connection.proofs.conversation.concludes.Goals as goal

pub returns : goal.returns
returns c = record {
  transcript = λ session own pairs fed said at talk. closed_transcript session talk.requests own talk.replies _ pairs talk.talk;
  leads = λ session own pairs fed said at talk. closed_leads session talk.requests own talk.replies (mode_of at.stage) pairs talk.talk;
}
