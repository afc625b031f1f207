use Rattle.std.proofs.Common.{◌≡◌, []}
use Rattle.engine.specs.Passes.{knows, Rests}
use Rattle.server.proofs.working.work.Given as goal

abbrev pub invariant-loop : goal.invariant-loop
invariant-loop g l = record {
  rests : Rests g.D.Receipt.Shows.is_steady l.fn.shared.engine.now l.pass;
  watches : (knows g.D.Device.failures l.pass).watched ≡ [];
}
