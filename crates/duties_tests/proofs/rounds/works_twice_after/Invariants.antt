use Rattle.std.proofs.Common.{◌≡◌, length}
use Rattle.engine.specs.Passes.{Rests, stripe_count}
use Rattle.upkeep.specs.Rounds.{laps_of}
use Rattle.duties_tests.proofs.rounds.works_twice_after.Given as goal

abbrev pub invariant-loop : goal.invariant-loop
invariant-loop g l = record {
  ready : Rests g.D.Receipt.Shows.is_steady l.site.engine.now l.site.pass;
  laps : length (laps_of l.chores) ≡ stripe_count l.site.engine.now;
}
