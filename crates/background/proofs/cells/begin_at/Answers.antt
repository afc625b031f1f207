use Rattle.std.proofs.Common.{ap}
use Rattle.words.specs.Store.{Store}
use Rattle.background.proofs.cells.begin_at.Goals as goal

pub returns-in-Idle-clause-stepped : goal.returns-in-Idle-clause-stepped
returns-in-Idle-clause-stepped g c =
    let new = c.begin_freeing.new.self in
    record {
      old = c.part-part.result.now;
      new = new;
      was = c.part-part.ensures.value;
      is = c.part-part.ensures.written new;
      others = c.part-part.ensures.others new;
      store = λ t key. ap (λ (s : Store). s key) c.begin_freeing.ensures.store;
      marks = c.begin_freeing.ensures.marks;
      says = (c.in-Idle.ensures.told, c.in-Idle.ensures.begun);
    }

pub returns-in-Full-clause-stepped : goal.returns-in-Full-clause-stepped
returns-in-Full-clause-stepped g c =
    let new = c.begin_freeing.new.self in
    record {
      old = c.part-part.result.now;
      new = new;
      was = c.part-part.ensures.value;
      is = c.part-part.ensures.written new;
      others = c.part-part.ensures.others new;
      store = λ t key. ap (λ (s : Store). s key) c.begin_freeing.ensures.store;
      marks = c.begin_freeing.ensures.marks;
      says = (record { full = c.in-Full.ensures.told.0; spent = c.in-Full.ensures.told.1 }, c.in-Full.ensures.begun);
    }

pub returns-in-Sealed-clause-stepped : goal.returns-in-Sealed-clause-stepped
returns-in-Sealed-clause-stepped g c =
    let new = c.begin_freeing.new.self in
    record {
      old = c.part-part.result.now;
      new = new;
      was = c.part-part.ensures.value;
      is = c.part-part.ensures.written new;
      others = c.part-part.ensures.others new;
      store = λ t key. ap (λ (s : Store). s key) c.begin_freeing.ensures.store;
      marks = c.begin_freeing.ensures.marks;
      says = c.in-Sealed.ensures.begun;
    }
