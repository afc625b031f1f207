use Rattle.std.specs.Prelude.{◌≡◌}
use Rattle.engine.specs.Passes.{Rests, stripe_count}
use Rattle.cold_tests.proofs.scenes.are_done.Given as goal

abbrev pub invariant-loop-deed : goal.invariant-loop-deed
invariant-loop-deed g l = Rests g.D.Receipt.Shows.is_steady l.engine l.pass × (stripe_count l.engine ≡ 1)
