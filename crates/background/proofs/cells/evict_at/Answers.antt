use Rattle.std.proofs.Common.{ap}
use Rattle.words.specs.Store.{Store}
use Rattle.background.proofs.cells.evict_at.Goals as goal

pub returns-clause-stepped : goal.returns-clause-stepped
returns-clause-stepped g c =
    let new = c.drop_oldest.new.self in
    record {
      old = c.part.result.now;
      new = new;
      was = c.part.ensures.value;
      is = c.part.ensures.written new;
      others = c.part.ensures.others new;
      store = λ t key. ap (λ (s : Store). s key) c.drop_oldest.ensures.store;
      marks = c.drop_oldest.ensures.marks;
      says = record {
        step = c.drop_oldest.ensures.done;
        idle = c.drop_oldest.ensures.idle;
        dropped = c.drop_oldest.ensures.dropped;
        same = c.drop_oldest.ensures.same;
      };
    }
