use Rattle.std.proofs.Common.{◌≡◌, ◌+◌, [], vec_len}
use Rattle.std.specs.List.{All}
use Rattle.engine.specs.Passes.{knows, Rests}
use Rattle.server.proofs.workers.start_workers.Given as goal

abbrev pub invariant-loop-pass : goal.invariant-loop-pass
invariant-loop-pass g l = record {
  rest : All (Rests g.D.Receipt.Shows.is_steady l.fn.shared.engine.now) l.passes.items;
  watch : All (λ pass. (knows g.D.Device.failures pass).watched ≡ []) l.passes.items;
  workers : l.crew.workers + vec_len l.passes ≡ l.initial.crew.workers + vec_len l.initial.passes;
  closers : l.crew.closers ≡ l.initial.crew.closers;
  flushers : l.crew.flushers ≡ l.initial.crew.flushers;
  evictors : l.crew.evictors ≡ l.initial.crew.evictors;
  cleaners : l.crew.cleaners ≡ l.initial.crew.cleaners;
}

abbrev pub decreases-loop-pass : goal.decreases-loop-pass
decreases-loop-pass g l = vec_len l.passes
