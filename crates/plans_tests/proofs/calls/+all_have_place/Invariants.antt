use Rattle.std.proofs.Common.{length}
use Rattle.plans_tests.proofs.calls.+all_have_place.Given as goal

abbrev pub decreases-all_have_place : goal.decreases-all_have_place
decreases-all_have_place l = length l.commands.now
