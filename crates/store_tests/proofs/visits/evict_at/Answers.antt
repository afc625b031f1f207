use Rattle.store_tests.proofs.visits.evict_at.Goals as goal

pub returns-clause-stepped : goal.returns-clause-stepped
returns-clause-stepped g c =
    let new = c.evict.new.self in
    record {
      old = c.part.result.now;
      new = new;
      was = c.part.ensures.value;
      is = c.part.ensures.written new;
      others = c.part.ensures.others new;
      store = c.evict.ensures.store;
      marks = c.evict.ensures.marks;
      says = c.evict.ensures.says;
    }
