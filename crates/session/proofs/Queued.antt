-- Commands that are queued.
use Rattle.std.proofs.Common.{List, [], ◌∷◌, ◌++◌}
use Rattle.words.specs.declared.command.Command.{Command}
use Rattle.words.specs.Commands.{MayBeQueued}
use Rattle.words.specs.Bounds.{IsBounded, AreBounded}
use Rattle.words.specs.History.{MayAllBeQueued}

pub one_more : (queue : List Command) (command : Command) → MayAllBeQueued queue → MayBeQueued command → MayAllBeQueued (queue ++ command ∷ [])
one_more [] command all one = (one, tt)
one_more (first ∷ queue) command all one = (all.0, one_more queue command all.1 one)

pub one_more_bounded : (queue : List Command) (command : Command) → AreBounded queue → IsBounded command → AreBounded (queue ++ command ∷ [])
one_more_bounded [] command all one = (one, tt)
one_more_bounded (first ∷ queue) command all one = (all.0, one_more_bounded queue command all.1 one)
