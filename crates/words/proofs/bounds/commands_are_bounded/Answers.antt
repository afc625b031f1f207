use Rattle.words.proofs.Bounded.{command_bounded}
use Rattle.words.proofs.bounds.commands_are_bounded.Goals as goal

pub returns : goal.returns
returns c = λ words request. command_bounded words request.short
