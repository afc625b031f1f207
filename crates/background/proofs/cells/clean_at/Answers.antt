use Rattle.std.proofs.Common.{◌≡◌, false}
use Rattle.hybrid.specs.Staging.{IsMissing}
use Rattle.shards.specs.Shards.{shard_log, shard_pages}
use Rattle.background.proofs.Settling.{cold_as, may_tell}
use Rattle.background.proofs.cells.clean_at.Goals as goal

pub returns-clause-stepped : goal.returns-clause-stepped
returns-clause-stepped g c =
    let new = c.clean_step.new.self in
    record {
      old = c.part.result.now;
      new = new;
      was = c.part.ensures.value;
      is = c.part.ensures.written new;
      others = c.part.ensures.others new;
      store = λ t key. c.clean_step.ensures.meaning.store t (c.requires.right t) key;
      marks = c.clean_step.ensures.meaning.marks;
      says = record {
        told = may_tell c.clean_step.result (shard_pages c.part.result.now) (shard_pages new) c.clean_step.ensures.done;
        cold = cold_as c.clean_step.result _ (IsMissing (shard_log new) c.clean_step.new.staged) (λ number cold. cold.missing) c.clean_step.ensures.cold;
        lacks = λ t. c.clean_step.ensures.lacks t (c.requires.right t);
      };
    }

pub returns-clause-came : goal.returns-clause-came
returns-clause-came g c = record {
  worn = c.clean_step.ensures.worn;
  cold = cold_as c.clean_step.result _ (λ number. (c.args.turn.now.reads ≡ false) × (g.R.Shows.lends → ⊥)) (λ number cold. (cold.unread, cold.unlent)) c.clean_step.ensures.cold;
  fault = c.clean_step.ensures.failed.fault;
  no_fault = c.clean_step.ensures.failed.no_fault;
}
