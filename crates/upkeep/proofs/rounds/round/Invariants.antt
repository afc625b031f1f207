use Rattle.std.proofs.Common.{◌≡◌, ℕ, ◌+◌, ◌<◌, ◌≤◌, true, false, length}
use Rattle.upkeep.specs.Events.{missed, steps_done, times_told}
use Rattle.upkeep.specs.Rounds.{duty_of, laps_of, places_of}
use Rattle.upkeep.specs.Steps.{HaveVisited}
use Rattle.upkeep.proofs.rounds.round.Given as goal

abbrev pub invariant-loop-stripe : goal.invariant-loop-stripe
invariant-loop-stripe g l = record {
  ready : g.S.Stripes.is_ready l.stripes;
  count : g.S.Stripes.count l.stripes ≡ g.S.Stripes.count l.initial.stripes;
  laps : length (laps_of l.chores) ≡ g.S.Stripes.count l.initial.stripes;
  duty : duty_of l.chores ≡ duty_of l.initial.chores;
  places : places_of l.chores ≡ places_of l.initial.chores;
  fair : missed l.stripe (g.S.Stripes.events l.initial.stripes) (g.S.Stripes.events l.stripes) + g.S.Stripes.failures l.initial.stripes
      ≤ g.S.Stripes.failures l.stripes;
  others : (k : ℕ) → times_told k (g.S.Stripes.events l.initial.stripes) ≤ times_told k (g.S.Stripes.events l.stripes);
  grows : steps_done (g.S.Stripes.events l.initial.stripes) ≤ steps_done (g.S.Stripes.events l.stripes);
  done : l.done ≡ true → steps_done (g.S.Stripes.events l.initial.stripes) < steps_done (g.S.Stripes.events l.stripes);
  visits : HaveVisited l.stripe (duty_of l.initial.chores) (places_of l.initial.chores) (g.S.Stripes.events l.initial.stripes)
      (g.S.Stripes.events l.stripes) (laps_of l.initial.chores) (laps_of l.chores) l.done;
  idle : l.done ≡ false → steps_done (g.S.Stripes.events l.stripes) ≡ steps_done (g.S.Stripes.events l.initial.stripes);
}
