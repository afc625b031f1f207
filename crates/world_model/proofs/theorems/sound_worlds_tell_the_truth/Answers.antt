use Rattle.world_model.proofs.Begins.{start_sound}
use Rattle.world_model.proofs.Soundness.{none_released}
use Rattle.world_model.proofs.Telling.{headline_is}
use Rattle.world_model.proofs.theorems.sound_worlds_tell_the_truth.Goals as goal

pub returns : goal.returns
returns c = record {
  start = λ stripes clients frames limit. start_sound c.laws.ensures.talks stripes clients frames limit;
  headline = λ state sound. headline_is c.laws.ensures.talks state sound;
  places = λ state sound. none_released state sound;
}
