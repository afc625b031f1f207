use Rattle.std.proofs.Common.{arith}
use Rattle.engine.proofs.Dealt.{all_rest, all_watch, dealt_count}
use Rattle.engine.proofs.Engine.new.Goals as goal

pub returns-clause-count : goal.returns-clause-count
returns-clause-count g c = omega (
  arith,
  c.in_ok-passes.passes.ok.0,
  c.args.openings.ok.0,
  dealt_count g.D.Receipt.Shows.is_steady c.in_ok-gates.gates c.in_ok-epochs.epochs 0 c.in_ok-passes.passes.items c.args.openings.items c.in_ok-passes.ensures,
)

pub returns-clause-rest : goal.returns-clause-rest
returns-clause-rest g c = all_rest g.D.Receipt.Shows.is_steady c.in_ok-gates.gates c.in_ok-epochs.epochs c.in_ok-passes.passes.items c.args.openings.items c.in_ok-passes.ensures

pub returns-clause-watch : goal.returns-clause-watch
returns-clause-watch g c = all_watch g.D.Receipt.Shows.is_steady c.in_ok-gates.gates c.in_ok-epochs.epochs g.D.Device.failures c.in_ok-passes.passes.items c.args.openings.items c.in_ok-passes.ensures
