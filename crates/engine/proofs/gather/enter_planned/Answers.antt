use Rattle.std.proofs.Common.{ℕ, refl, sym, subst, arith}
use Rattle.gates.specs.declared.held.Held.{Held}
use Rattle.gates.specs.declared.report.Report.TheVariants.{Nothing}
use Rattle.gates.specs.Helds.{held_stripes, known_to}
use Rattle.shards.specs.declared.shard.Shard.{Shard}
use Rattle.plans.specs.declared.stop.Stop.TheVariants as stop
use Rattle.engine.specs.Calls.{promises_of}
use Rattle.engine.specs.Memory.{values_call}
use Rattle.engine.specs.Entering.{HasEntered, values_answer}
use Rattle.engine.specs.declared.enter.Entered.{Entered}
use Rattle.engine.specs.declared.gather.Gathered.{Gathered}
use Rattle.engine.specs.Stops.{HasHeardFor}
use Rattle.engine.proofs.Entering.{given_still}
use Rattle.engine.proofs.Stopped.{stopped_quietly}
use Rattle.engine.proofs.gather.enter_planned.Goals as goal

pub returns-in_default-clause-entered : goal.returns-in_default-clause-entered
returns-in_default-clause-entered g c =
    let s = g.R.Shows.is_steady in
    let start : Held (Shard _) = c.args.held.now in
    let f : ℕ = g.D.Device.failures c.args.device.now in
    record {
      back = given_still s Nothing start start c.requires.begin.may.is_open tt refl refl c.requires.begin.may.fit;
      answered = record {
        done = tt;
        undone =
            stopped_quietly {R = ℕ} (promises_of s g.R.Shows.lends (held_stripes start)) (values_call c.args.reading.now.keys.now) stop.OutOfMemory (known_to start) (known_to start) f f refl refl refl tt tt (omega arith)
            (λ asks. asks.1.1.texts.reply);
      };
    }

pub returns-in-Ok-entered-clause-entered : goal.returns-in-Ok-entered-clause-entered
returns-in-Ok-entered-clause-entered g c =
    let has = c.in-Ok-entered.ensures.entered in
    subst (λ (e : Entered Gathered). HasEntered (promises_of g.R.Shows.is_steady g.R.Shows.lends (held_stripes c.args.held.now)) (values_call c.args.reading.now.keys.now) values_answer (c.args.held.now, g.D.Device.failures c.args.device.now)
    (c.enter-entered.new.held, g.D.Device.failures c.enter-entered.new.device) e) (sym c.planned.ensures)
    (record { back = has.back; answered = rw c.in-Ok.ensures at has.answered })

pub returns-in-Ok-entered-clause-heard : goal.returns-in-Ok-entered-clause-heard
returns-in-Ok-entered-clause-heard g c =
    let has = c.in-Ok-entered.ensures.heard in
    subst (λ (e : Entered Gathered). HasHeardFor values_answer e (g.S.Retires.knows c.args.hands.now.own) (g.S.Retires.knows c.enter-entered.new.hands.own)) (sym c.planned.ensures)
    (record { heard = has.heard; worn = has.worn; full = has.full })
