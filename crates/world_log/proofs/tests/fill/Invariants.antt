use Rattle.world_log.specs.WorldLogs.{IsWorldLog}
use Rattle.world_log.proofs.tests.fill.Given as goal

abbrev pub invariant-loop-number : goal.invariant-loop-number
invariant-loop-number l = IsWorldLog l.log
