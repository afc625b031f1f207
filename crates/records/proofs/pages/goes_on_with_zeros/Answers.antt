use Rattle.std.proofs.Common.{refl}
use Rattle.records.proofs.Alike.{goes-on, goes-apart}
use Rattle.records.proofs.pages.goes_on_with_zeros.Goals as goal

pub returns-then-eq : goal.returns-then-eq
returns-then-eq c =
    goes-on c.args.long.now c.args.short.now _ _ _ c.eq.result c.eq-then-eq.result c.requires.longer c.requires.bound c.split_at.ensures.front c.split_at.ensures.back c.eq.ensures c.if-eq.true refl c.eq-then-eq.ensures

pub returns-else-eq : goal.returns-else-eq
returns-else-eq c = goes-apart c.args.long.now c.args.short.now _ c.eq.result c.split_at.ensures.front c.eq.ensures c.if-eq.false
