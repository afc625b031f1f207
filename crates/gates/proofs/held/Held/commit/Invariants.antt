use Rattle.words.specs.Session.{operation_of}
use Rattle.gates.specs.Passes.{known}
use Rattle.gates.proofs.held.Held.commit.Given as goal

abbrev pub ghosts-commit_as : goal.ghosts-commit_as
ghosts-commit_as g a =
    record {
      entry = record {
        session = (known a.pass.now).number;
        operation = operation_of (known a.pass.now).watched (g.C.Asks.asked a.call.now);
        reply = g.S.Says.said a.reply.now;
      };
    }
