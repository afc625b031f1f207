use Rattle.std.specs.Prelude.{◌≡◌, []}
use Rattle.engine.specs.Passes.{knows, Rests}
use Rattle.engine_threads_tests.proofs.jobs.works.Given as goal

abbrev pub invariant-loop-n : goal.invariant-loop-n
invariant-loop-n g l = Rests (Unit {0}) l.engine l.pass × ((knows (λ device. 0) l.pass).watched ≡ [])
