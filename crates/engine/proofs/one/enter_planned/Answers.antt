use Rattle.std.proofs.Common.{ℕ, refl, arith}
use Rattle.gates.specs.declared.held.Held.{Held}
use Rattle.gates.specs.declared.report.Report.TheVariants.{Nothing}
use Rattle.gates.specs.Helds.{held_stripes, known_to}
use Rattle.shards.specs.declared.shard.Shard.{Shard}
use Rattle.plans.specs.declared.stop.Stop.TheVariants as stop
use Rattle.engine.specs.Calls.{promises_of}
use Rattle.engine.specs.Entering.{one_call_of}
use Rattle.engine.proofs.Ones.{one_touches}
use Rattle.engine.proofs.Entering.{given_still}
use Rattle.engine.proofs.Stopped.{stopped_quietly}
use Rattle.engine.proofs.one.enter_planned.Goals as goal

pub returns-in_default-clause-entered : goal.returns-in_default-clause-entered
returns-in_default-clause-entered g c =
    let s = g.R.Shows.is_steady in
    let start : Held (Shard _) = c.args.held.now in
    let f : ℕ = g.D.Device.failures c.args.device.now in
    record {
      back = given_still s Nothing start start c.requires.begin.may.is_open tt refl refl c.requires.begin.may.fit;
      answered = record {
        done = tt;
        undone =
            stopped_quietly {R = ℕ} (promises_of s g.R.Shows.lends (held_stripes start)) (one_call_of c.args.asks.now) stop.OutOfMemory (known_to start) (known_to start) f f
            (one_touches c.args.asks.now.verb c.args.asks.now.key.now c.args.asks.now.value.now) refl refl tt tt (omega arith) c.requires.memory;
      };
    }
