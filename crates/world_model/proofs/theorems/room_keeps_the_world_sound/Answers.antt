use Rattle.world_model.proofs.Soundness.{steps_sound, none_taken}
use Rattle.world_model.proofs.theorems.room_keeps_the_world_sound.Goals as goal

pub returns : goal.returns
returns c = record {
  sound = λ before stripes after steps sound. steps_sound before stripes after steps sound;
  taken = λ before d i stripes after sound below free none steps. none_taken before d i stripes after sound below free none steps;
}
