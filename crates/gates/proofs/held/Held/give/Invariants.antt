use Rattle.std.proofs.Common.{false}
use Rattle.gates.specs.Background.{notes_of}
use Rattle.gates.proofs.held.Held.give.Given as goal

abbrev pub ghosts-give_telling : goal.ghosts-give_telling
ghosts-give_telling g a = record { ends = false; told = notes_of a.report.now }
