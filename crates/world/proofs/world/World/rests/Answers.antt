use Rattle.std.proofs.Common.{refl}
use Rattle.world.specs.Tables.{state_of}
use Rattle.world.proofs.Worlds.{all_endable}
use Rattle.world.proofs.world.World.rests.Goals as goal

pub returns : goal.returns
unfolding state_of
returns c = record { endable = all_endable (state_of c.args.self.now) c.args.self.now.members.items refl c.requires.sound }
