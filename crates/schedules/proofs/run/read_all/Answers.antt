use Rattle.std.proofs.Common.{rules, ◌++◌, take}
use Rattle.streams.specs.Laws.{Consumes-then}
use Rattle.schedules.proofs.run.read_all.Goals as goal

pub returns-then-is_err-clause-read : goal.returns-then-is_err-clause-read
returns-then-is_err-clause-read g c = (
  c.loop-count.text.items ++ take c.in-Bytes.count c.read.new.buffer,
  Consumes-then _ _ _ c.loop-count.text.items (take c.in-Bytes.count c.read.new.buffer) c.loop-count.invariant.read c.in-Bytes.ensures.read.2,
  tt,
)

pub returns-in-Failure-clause-end : goal.returns-in-Failure-clause-end
returns-in-Failure-clause-end g c = search rules

pub returns-in-Failure-clause-told : goal.returns-in-Failure-clause-told
returns-in-Failure-clause-told g c = search rules
