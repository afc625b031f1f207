use Rattle.world_model.specs.States.{start}
use Rattle.world_model.proofs.Begins.{start_sound}
use Rattle.world_model.proofs.Soundness.{turns_sound, none_released}
use Rattle.world_model.proofs.Telling.{headline_is}
use Rattle.world_model.proofs.theorems.events_keep_the_headline.Goals as goal

pub returns : goal.returns
returns c = record {
  headline = λ stripes clients frames limit events after turns.
      headline_is c.laws.ensures.talks after
      (turns_sound c.laws.ensures.talks c.laws.ensures.watches (start stripes clients frames limit) events after turns
      (start_sound c.laws.ensures.talks stripes clients frames limit));
  places = λ stripes clients frames limit events after turns.
      none_released after
      (turns_sound c.laws.ensures.talks c.laws.ensures.watches (start stripes clients frames limit) events after turns
      (start_sound c.laws.ensures.talks stripes clients frames limit));
}
