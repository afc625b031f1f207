use Rattle.std.specs.Prelude.{◌≡◌}
use Rattle.engine.specs.Passes.{Rests, stripe_count}
use Rattle.engine_harness.proofs.steps.cleans.Given as goal

abbrev pub invariant-loop-n : goal.invariant-loop-n
invariant-loop-n g l = Rests g.D.Receipt.Shows.is_steady l.engine l.pass × (stripe_count l.engine ≡ 1)
