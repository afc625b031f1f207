use Rattle.std.proofs.Common.{length}
use Rattle.strings.proofs.found.+newest.Given as goal

abbrev pub decreases-newest : goal.decreases-newest
decreases-newest l = length l.findings.now
