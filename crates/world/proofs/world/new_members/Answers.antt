use Rattle.std.proofs.Common.{◌+◌, sym, subst}
use Rattle.world.specs.Tables.{AreEndable, AreNew}
use Rattle.world.proofs.Worlds.{new_endable, new_more}
use Rattle.world.proofs.world.new_members.Goals as goal

pub end_members-requires : goal.end_members-requires
end_members-requires c = subst AreEndable (sym c.in-Err.ensures.items) (new_endable c.loop.counter c.loop.members.items c.loop.invariant)

pub loop-preserved : goal.loop-preserved
loop-preserved c =
    subst (AreNew (c.loop.counter + 1)) (sym c.in_default.ensures.items)
    (new_more c.loop.counter c.loop.members.items (record { peer = c.new.result; desk = c.new-in-loop.result }) c.loop.invariant c.new.ensures.fresh c.new-in-loop.ensures)
