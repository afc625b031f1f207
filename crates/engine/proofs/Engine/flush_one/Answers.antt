use Rattle.std.proofs.Common.{refl}
use Rattle.engine.proofs.Later.{free_of}
use Rattle.engine.proofs.Engine.flush_one.Goals as goal

pub returns-clause-rests : goal.returns-clause-rests
returns-clause-rests g c = record {
  rests = c.flush_one-result.ensures.own;
  has_hands = (
    record { alloc = c.in-Some.hands.alloc; staged = c.in-Some.hands.staged; own = c.flush_one-result.new.seat },
    refl,
    record {
      outside = c.flush_one-result.ensures.outside;
      none = (free_of c.args.self.now.epochs c.args.pass.now.hands c.in-Some.hands c.in-Some.ensures.value c.requires.rests.has_hands).none;
    },
  );
}
