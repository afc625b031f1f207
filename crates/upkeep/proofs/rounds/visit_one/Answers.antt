use Rattle.std.proofs.Common.{refl, sym, arith}
use Rattle.upkeep.proofs.Visited.{noted-by}
use Rattle.upkeep.proofs.rounds.visit_one.Goals as goal

pub returns-clause-visited : goal.returns-clause-visited
returns-clause-visited g c = record {
  old = c.index_mut-laps.result.now;
  new = c.visit.new.laps;
  within = omega (arith, c.requires.below, c.requires.laps);
  own = sym c.index_mut-laps.ensures.value;
  kept = refl;
  visited = c.visit.ensures.made;
  noted = noted-by _ _ _ _ _ _ c.visit.ensures.level c.visit.ensures.behind;
}
