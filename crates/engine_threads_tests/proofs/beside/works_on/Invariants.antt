use Rattle.std.specs.Prelude.{◌≡◌}
use Rattle.engine.specs.Passes.{Rests, stripe_count}
use Rattle.engine_threads_tests.proofs.beside.works_on.Given as goal

abbrev pub invariant-loop-round : goal.invariant-loop-round
invariant-loop-round g l = Rests (Unit {0}) l.engine l.filler × Rests (Unit {0}) l.engine l.background × (stripe_count l.engine ≡ 1)
