use Rattle.std.proofs.Common.{Result, Ok, Err, IfOk, OnErr, [], refl, sym, subst}
use Rattle.words.specs.declared.command.Command.TheVariants.{MGet}
use Rattle.words.specs.declared.history.Operation.TheVariants.{Run}
use Rattle.words.specs.Session.{values_reply}
use Rattle.gates.specs.declared.held.Held.{Held}
use Rattle.gates.specs.declared.view.Knowledge.{Knowledge}
use Rattle.gates.specs.Helds.{held_stripes, known_to}
use Rattle.transact.specs.Plans.{IsPlan}
use Rattle.shards.specs.declared.shard.Shard.{Shard}
use Rattle.engine.specs.Entering.{values_answer}
use Rattle.engine.specs.Memory.{values_call}
use Rattle.engine.proofs.Entering.{begin_still, cold_behind, entered_behind, stands}
use Rattle.engine.proofs.gather.enter_values.Goals as goal

ok_then : {A E : Type 0} (result : Result A E) (P Q : A → Type 0) → ((a : A) → P a → Q a) → IfOk result P → IfOk result Q
ok_then (Ok a) P Q turn has = turn a has
ok_then (Err e) P Q turn has = tt

err_then : {A E : Type 0} (result : Result A E) (P Q : Type 0) → (P → Q) → OnErr result P → OnErr result Q
err_then (Ok a) P Q turn has = tt
err_then (Err e) P Q turn has = turn has

pub enter_planned-requires-clause-begin : goal.enter_planned-requires-clause-begin
enter_planned-requires-clause-begin g c =
    begin_still g.R.Shows.is_steady (values_call c.args.reading.now.keys.now) c.args.held.now c.tell_values.new.parts c.requires.begin c.tell_values.ensures.held.open_still c.tell_values.ensures.held.kept c.tell_values.ensures.same

pub returns-in_default-clause-entered : goal.returns-in_default-clause-entered
returns-in_default-clause-entered g c =
    ok_then c.enter_planned.result _ _
    (λ entered. entered_behind g.R.Shows.is_steady g.R.Shows.lends (values_call c.args.reading.now.keys.now) values_answer c.args.held.now c.tell_values.new.parts c.enter_planned.new.held
    (g.D.Device.failures c.args.device.now) (g.D.Device.failures c.enter_planned.new.device) entered c.tell_values.ensures.held.kept)
    c.enter_planned.ensures.entered

pub returns-in_default-clause-cold : goal.returns-in_default-clause-cold
returns-in_default-clause-cold g c =
    err_then c.enter_planned.result _ _
    (cold_behind g.R.Shows.is_steady g.R.Shows.lends (values_call c.args.reading.now.keys.now) c.args.held.now c.tell_values.new.parts c.enter_planned.new.held
    (g.D.Device.failures c.args.device.now) (g.D.Device.failures c.enter_planned.new.device) c.tell_values.ensures.held.kept)
    c.enter_planned.ensures.cold

pub enter_told-requires-clause-begin : goal.enter_told-requires-clause-begin
enter_told-requires-clause-begin g c =
    begin_still g.R.Shows.is_steady (values_call c.args.reading.now.keys.now) c.args.held.now c.tell_values.new.parts c.requires.begin c.tell_values.ensures.held.open_still c.tell_values.ensures.held.kept c.tell_values.ensures.same

pub enter_told-requires-clause-due : goal.enter_told-requires-clause-due
enter_told-requires-clause-due g c = λ t.
    let s : Type 0 = g.R.Shows.is_steady in
    let start : Held (Shard _) = c.args.held.now in
    subst (λ (k : Knowledge). IsPlan k.seen (Run (MGet c.args.reading.now.keys.now)) (values_reply c.in-Some.values) []) (sym c.tell_values.ensures.held.kept.known)
    (c.in-Some.ensures.values.due (g.met.R.Shows.steady_is_honest t, c.requires.hands.right t) (known_to start).seen
    (stands s (held_stripes start) (known_to start).number start refl c.requires.begin.may.fit t).read)

pub returns-clause-entered : goal.returns-clause-entered
returns-clause-entered g c =
    entered_behind g.R.Shows.is_steady g.R.Shows.lends (values_call c.args.reading.now.keys.now) values_answer c.args.held.now c.tell_values.new.parts c.enter_told.new.held
    (g.D.Device.failures c.args.device.now) (g.D.Device.failures c.args.device.now) c.enter_told.result c.tell_values.ensures.held.kept
    (c.enter_told.ensures.entered (g.D.Device.failures c.args.device.now))

pub returns-clause-heard : goal.returns-clause-heard
returns-clause-heard g c = c.enter_told.ensures.heard (g.S.Retires.knows c.args.hands.now.own)
