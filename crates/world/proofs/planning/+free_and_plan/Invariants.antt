use Rattle.world_log.specs.Freeing.{waiting_in}
use Rattle.world.proofs.planning.+free_and_plan.Given as goal

abbrev pub decreases-free_and_plan : goal.decreases-free_and_plan
decreases-free_and_plan l = waiting_in l.log.now.stripes
