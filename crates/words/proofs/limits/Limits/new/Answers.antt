use Rattle.std.proofs.Common.{rules}
use Rattle.words.proofs.limits.Limits.new.Goals as goal

pub invariant_of-result : goal.invariant_of-result
invariant_of-result c = search rules

pub returns-then-in_range-clause-numbers : goal.returns-then-in_range-clause-numbers
returns-then-in_range-clause-numbers c = search rules
