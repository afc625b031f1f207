use Rattle.std.proofs.Common.{◌≡◌, ℕ, ◌+◌, ◌<◌, ◌≤◌}
use Rattle.upkeep.specs.Events.{steps_done, times_told}
use Rattle.upkeep.specs.Steps.{HaveDone}
use Rattle.upkeep.proofs.steps.some_steps.Given as goal

abbrev pub invariant-loop-count : goal.invariant-loop-count
invariant-loop-count g l = record {
  ready : g.S.Stripes.is_ready l.stripes;
  count : g.S.Stripes.count l.stripes ≡ g.S.Stripes.count l.initial.stripes;
  more : g.S.Stripes.failures l.initial.stripes ≤ g.S.Stripes.failures l.stripes;
  looked : 0 < l.count → times_told l.stripe (g.S.Stripes.events l.initial.stripes) + g.S.Stripes.failures l.initial.stripes
      < times_told l.stripe (g.S.Stripes.events l.stripes) + g.S.Stripes.failures l.stripes;
  others : (k : ℕ) → times_told k (g.S.Stripes.events l.initial.stripes) ≤ times_told k (g.S.Stripes.events l.stripes);
  done : steps_done (g.S.Stripes.events l.stripes) ≡ steps_done (g.S.Stripes.events l.initial.stripes) + l.count;
  made : HaveDone
      l.count l.duty l.stripe l.places (g.S.Stripes.events l.initial.stripes) (g.S.Stripes.events l.stripes) l.initial.laps l.laps;
}
