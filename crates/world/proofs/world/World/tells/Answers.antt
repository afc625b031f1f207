use Rattle.world.specs.Tables.{state_of}
use Rattle.world.proofs.world.World.tells.Goals as goal

pub returns-clause-headline : goal.returns-clause-headline
returns-clause-headline c = c.laws.ensures.turns.headline (state_of c.args.self.now) c.requires.sound

pub returns-clause-places : goal.returns-clause-places
returns-clause-places c = c.laws.ensures.turns.places (state_of c.args.self.now) c.requires.sound
