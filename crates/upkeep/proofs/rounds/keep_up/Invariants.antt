use Rattle.std.proofs.Common.{◌≡◌, ℕ, ◌≤◌, length}
use Rattle.upkeep.specs.Events.{times_told}
use Rattle.upkeep.specs.Rounds.{HaveTurned, course, duty_of, laps_of, places_of}
use Rattle.upkeep.proofs.rounds.keep_up.Given as goal

abbrev pub invariant-loop : goal.invariant-loop
invariant-loop g l = record {
  ready : g.S.Stripes.is_ready l.stripes;
  laps : length (laps_of l.chores) ≡ g.S.Stripes.count l.stripes;
  count : g.S.Stripes.count l.stripes ≡ g.S.Stripes.count l.initial.stripes;
  duty : duty_of l.chores ≡ duty_of l.initial.chores;
  places : places_of l.chores ≡ places_of l.initial.chores;
  more : g.S.Stripes.failures l.initial.stripes ≤ g.S.Stripes.failures l.stripes;
  others : (k : ℕ) → times_told k (g.S.Stripes.events l.initial.stripes) ≤ times_told k (g.S.Stripes.events l.stripes);
  turns : (turns : ℕ)
      × HaveTurned turns (g.S.Stripes.count l.initial.stripes) (duty_of l.initial.chores) (places_of l.initial.chores)
      (
      course
      (g.S.Stripes.events l.initial.stripes) (g.S.Stripes.failures l.initial.stripes) (laps_of l.initial.chores)
      (g.B.Surroundings.calls l.initial.beside)
      )
      (
      course
      (g.S.Stripes.events l.stripes) (g.S.Stripes.failures l.stripes) (laps_of l.chores) (g.B.Surroundings.calls l.beside)
      );
}
