use Rattle.std.proofs.Common.{ap}
use Rattle.words.specs.Store.{Store}
use Rattle.background.specs.Steps.{IsSpentFull}
use Rattle.background.proofs.Settling.{unflushed_as}
use Rattle.background.proofs.cells.flush_at.Goals as goal

pub returns-clause-stepped : goal.returns-clause-stepped
returns-clause-stepped g c =
    let new = c.flush.new.self in
    record {
      old = c.part.result.now;
      new = new;
      was = c.part.ensures.value;
      is = c.part.ensures.written new;
      others = c.part.ensures.others new;
      store = λ t key. ap (λ (s : Store). s key) c.flush.ensures.store;
      marks = c.flush.ensures.marks;
      says = record {
        step = c.flush.ensures.flushed.done;
        idle = c.flush.ensures.flushed.idle;
        full = unflushed_as c.flush.result _ _ _ (λ refused. IsSpentFull refused c.part.result.now new) (λ failed. tt) (λ refused full. record { full = full.full; spent = full.spent })
            c.flush.ensures.fault;
        flushed = c.flush.ensures.flushed.flushed;
        waited = c.flush.ensures.flushed.waited;
        failed = c.flush.ensures.flushed.failed;
      };
    }

pub returns-clause-fault : goal.returns-clause-fault
returns-clause-fault g c = unflushed_as c.flush.result _ _ _ _ (λ failed. failed) (λ refused full. (full.worn, full.no_fault)) c.flush.ensures.fault
