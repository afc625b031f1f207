use Rattle.world_tests.proofs.pages.+repeated.Given as goal

abbrev pub decreases-repeated : goal.decreases-repeated
decreases-repeated g l = l.times
