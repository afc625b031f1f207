use Rattle.std.proofs.Common.{false, length}
use Rattle.shards.specs.Freeing.{HasRetiredAll, HasTriedAll}
use Rattle.shards.proofs.freeing.retire_all.Given as goal

abbrev pub invariant-all : goal.invariant-all
invariant-all g l = record {
  is : g.S.Retires.is_of l.epochs l.own;
  retired : HasRetiredAll false l.fn.log l.log;
  told : HasTriedAll false (g.S.Retires.knows l.fn.own) (g.S.Retires.knows l.own);
}

abbrev pub decreases-all : goal.decreases-all
decreases-all g l = length l.log.unlinked
