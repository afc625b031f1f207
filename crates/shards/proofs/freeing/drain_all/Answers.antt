use Rattle.std.proofs.Common.{◌-◌, arith}
use Rattle.shards.proofs.Freed.{turning_begin, turning_end, turning_more}
use Rattle.shards.proofs.freeing.drain_all.Goals as goal

pub each-init : goal.each-init
each-init g c = turning_begin c.args.log.now c.retired-left.result c.retired-left.ensures.retired c.retired-left.ensures.refused

pub turn-requires : goal.turn-requires
turn-requires g c = record { some = omega (arith, c.each.invariant.some, c.each-test.true) }

pub each-preserved : goal.each-preserved
each-preserved g c = turning_more c.args.log.now c.each.log c.turn.new.self c.each.left (c.each.left - 1) (omega (arith, c.each-test.true)) c.each.invariant c.turn.ensures

pub returns-clause-drained : goal.returns-clause-drained
returns-clause-drained g c = turning_end c.args.log.now c.each.log c.each.left (omega (arith, c.each-test.false)) c.each.invariant
