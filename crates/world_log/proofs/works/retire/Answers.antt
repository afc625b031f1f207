use Rattle.std.proofs.Common.{refl}
use Rattle.world_log.proofs.CountSteps.{retired_agrees, retired_does}
use Rattle.world_log.proofs.works.retire.Goals as goal

pub returns-clause-does : goal.returns-clause-does
returns-clause-does c =
    retired_does c.args.log.now c.take_unlinked.new.self c.args.queues.now (record c.args.queues.now { retired = c.push_back.new.self }) c.in-Some.receipt c.args.epoch
    c.in-Some.ensures.taken c.in-Ok.ensures.items refl refl

pub returns-clause-agrees : goal.returns-clause-agrees
returns-clause-agrees c =
    retired_agrees c.args.log.now c.take_unlinked.new.self c.args.queues.now (record c.args.queues.now { retired = c.push_back.new.self }) c.in-Some.receipt c.args.epoch
    c.in-Some.ensures.taken c.in-Ok.ensures.items refl refl c.requires.agrees
