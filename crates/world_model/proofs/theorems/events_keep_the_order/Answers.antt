use Rattle.world_model.proofs.Ordering.{start_order, turns_order}
use Rattle.world_model.proofs.theorems.events_keep_the_order.Goals as goal

pub returns : goal.returns
returns c = record {
  start = λ stripes clients frames limit some. start_order stripes clients frames limit some;
  turns = λ before events after turns order. turns_order before events after turns order;
}
