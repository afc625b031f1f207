use Rattle.std.proofs.Common.{ap}
use Rattle.words.specs.Store.{Store}
use Rattle.background.proofs.cells.fail_at.Goals as goal

pub returns-clause-stepped : goal.returns-clause-stepped
returns-clause-stepped g c =
    let new = c.fail_flush.new.self in
    record {
      old = c.part.result.now;
      new = new;
      was = c.part.ensures.value;
      is = c.part.ensures.written new;
      others = c.part.ensures.others new;
      store = λ t key. ap (λ (s : Store). s key) c.fail_flush.ensures.store;
      marks = c.fail_flush.ensures.marks;
      says = c.fail_flush.ensures.freed;
    }
