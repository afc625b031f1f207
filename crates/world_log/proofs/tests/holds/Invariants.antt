use Rattle.world_log.specs.WorldLogs.{IsWorldLog}
use Rattle.world_log.proofs.tests.holds.Given as goal

abbrev pub invariant-loop-count : goal.invariant-loop-count
invariant-loop-count l = IsWorldLog l.log
