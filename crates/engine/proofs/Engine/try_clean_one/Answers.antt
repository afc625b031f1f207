use Rattle.std.proofs.Common.{refl}
use Rattle.engine.proofs.Engine.try_clean_one.Goals as goal

pub returns-clause-rests : goal.returns-clause-rests
returns-clause-rests g c = record {
  rests = c.try_clean_one-result.ensures.own;
  has_hands = (
    record { alloc = c.in-Some.hands.alloc; staged = c.clear.new.self; own = c.try_clean_one-result.new.seat },
    refl,
    record { outside = c.try_clean_one-result.ensures.outside; none = c.clear.ensures },
  );
}
