use Rattle.std.proofs.Common.{rules}
use Rattle.words.proofs.shapes.key_offset_value.Goals as goal

pub returns-in_err-key-in-Some-2-clause-memory : goal.returns-in_err-key-in-Some-2-clause-memory
returns-in_err-key-in-Some-2-clause-memory c = search rules

pub overflow_cast-result : goal.overflow_cast-result
overflow_cast-result c = search rules

pub returns-in_err-copy-in-Some-2-clause-memory : goal.returns-in_err-copy-in-Some-2-clause-memory
returns-in_err-copy-in-Some-2-clause-memory c = search rules

pub returns-in_ok-copy-in-Some-2-clause-exact : goal.returns-in_ok-copy-in-Some-2-clause-exact
returns-in_ok-copy-in-Some-2-clause-exact c = search rules
