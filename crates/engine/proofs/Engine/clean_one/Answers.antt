use Rattle.std.proofs.Common.{refl}
use Rattle.engine.proofs.Engine.clean_one.Goals as goal

pub returns-clause-rests : goal.returns-clause-rests
returns-clause-rests g c = record {
  rests = c.clean_one-result.ensures.own;
  has_hands = (
    record { alloc = c.in-Some.hands.alloc; staged = c.clear.new.self; own = c.clean_one-result.result.1 },
    refl,
    record { outside = c.clean_one-result.ensures.outside; none = c.clear.ensures },
  );
}
