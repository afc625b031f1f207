use Rattle.std.proofs.Common.{arith}
use Rattle.shards.proofs.Short.{short_value}
use Rattle.shards.proofs.shard.Shard.find.Goals as goal

pub returns-else-value-le-VALUE_BYTES_MAX-clause-contents : goal.returns-else-value-le-VALUE_BYTES_MAX-clause-contents
returns-else-value-le-VALUE_BYTES_MAX-clause-contents g c = λ honest right.
    absurd (omega (
      arith,
      c.if-value-le-VALUE_BYTES_MAX.false,
      short_value c.stripe-log.result.now c.as_slice.result.now c.in-Found.value.now c.is_laid_out.ensures.log (c.in-Found.ensures.contents honest right),
    ))
