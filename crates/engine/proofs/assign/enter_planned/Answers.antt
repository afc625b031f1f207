use Rattle.std.proofs.Common.{ℕ, refl, arith}
use Rattle.words.specs.Briefs.{pairs_of}
use Rattle.words.specs.History.{after}
use Rattle.gates.specs.declared.held.Held.{Held}
use Rattle.gates.specs.declared.report.Report.TheVariants.{Nothing}
use Rattle.gates.specs.Helds.{held_stripes, known_to}
use Rattle.shards.specs.declared.shard.Shard.{Shard}
use Rattle.plans.specs.declared.stop.Stop.TheVariants as stop
use Rattle.engine.specs.Calls.{promises_of}
use Rattle.engine.specs.Memory.{settings_call}
use Rattle.engine.proofs.Entering.{entered_as, given_still}
use Rattle.engine.proofs.Settings.{heavy_asks}
use Rattle.engine.proofs.Stopped.{stopped_quietly}
use Rattle.engine.proofs.assign.enter_planned.Goals as goal

pub returns-in_default-clause-entered : goal.returns-in_default-clause-entered
returns-in_default-clause-entered g c =
    let s = g.R.Shows.is_steady in
    let start : Held (Shard _) = c.args.held.now in
    let call = settings_call c.args.assigning.now.words.now in
    let f : ℕ = g.D.Device.failures c.args.device.now in
    entered_as s _ call call c.answered.result _ (start, f) (start, f) refl c.answered.ensures (record {
      back = given_still s Nothing start start c.requires.begin.may.is_open tt refl refl c.requires.begin.may.fit;
      answered = record {
        done = tt;
        undone =
            stopped_quietly {R = ℕ} (promises_of s g.R.Shows.lends (held_stripes start)) call stop.OutOfMemory (known_to start) (known_to start) f f refl refl refl tt tt (omega arith)
            (λ asks. heavy_asks _ (after (known_to start).seen) (pairs_of c.args.assigning.now.words.now) c.requires.heavy asks);
      };
    })
