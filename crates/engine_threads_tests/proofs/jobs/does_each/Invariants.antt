use Rattle.std.specs.Prelude.{◌≡◌, []}
use Rattle.engine.specs.Passes.{knows, Rests}
use Rattle.engine_threads_tests.proofs.jobs.does_each.Given as goal

abbrev pub invariant-loop-job : goal.invariant-loop-job
invariant-loop-job g l = Rests (Unit {0}) l.engine l.pass × ((knows (λ device. 0) l.pass).watched ≡ [])
