use Rattle.std.proofs.Common.{refl}
use Rattle.background.proofs.look.look_at.Goals as goal

pub returns-clause-stepped : goal.returns-clause-stepped
returns-clause-stepped g c =
    let part = c.part.result.now in
    record {
      old = part;
      new = part;
      was = c.part.ensures.value;
      is = c.part.ensures.written part;
      others = c.part.ensures.others part;
      store = λ t key. refl;
      marks = refl;
      says = record { same = refl; seen = c.seen_of.ensures.seen };
    }
