use Rattle.std.proofs.Common.{◌≡◌, take}
use Rattle.world.specs.Tables.{state_of}
use Rattle.schedules.specs.Reports.{client_lines}
use Rattle.schedules.proofs.report.report_of.Given as goal

abbrev pub invariant-loop-client : goal.invariant-loop-client
invariant-loop-client l = l.report.items ≡ client_lines 0 (take l.client (state_of l.world).clients)
