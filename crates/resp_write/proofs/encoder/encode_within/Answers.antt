use Rattle.std.proofs.Common.{rules}
use Rattle.resp_write.proofs.encoder.encode_within.Goals as goal

pub returns-in_default-clause-fits : goal.returns-in_default-clause-fits
returns-in_default-clause-fits c = search rules

pub returns-in_default-clause-full : goal.returns-in_default-clause-full
returns-in_default-clause-full c = search rules
