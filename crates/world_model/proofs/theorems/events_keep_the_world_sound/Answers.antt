use Rattle.world_model.proofs.Soundness.{turns_sound}
use Rattle.world_model.proofs.theorems.events_keep_the_world_sound.Goals as goal

pub returns : goal.returns
returns c = λ before events after turns sound.
    turns_sound c.laws.ensures.talks c.laws.ensures.watches before events after turns sound
