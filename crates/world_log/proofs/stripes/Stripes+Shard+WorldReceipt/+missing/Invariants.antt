use Rattle.std.proofs.Common.{length}
use Rattle.world_log.proofs.stripes.Stripes+Shard+WorldReceipt.+missing.Given as goal

abbrev pub decreases-missing : goal.decreases-missing
decreases-missing l = length l.stripes
