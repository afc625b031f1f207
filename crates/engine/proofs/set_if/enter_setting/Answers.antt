use Rattle.std.proofs.Common.{◌≡◌, Bool, Some, sym, ap, subst}
use Rattle.std.specs.Borrow.{Bor}
use Rattle.words.specs.Store.{Bytes}
use Rattle.words.specs.Commands.{set_with}
use Rattle.words.specs.declared.command.When.{When}
use Rattle.gates.specs.declared.gates.Gates.{Gates}
use Rattle.gates.specs.declared.held.Held.{Held}
use Rattle.gates.specs.Helds.{held_stripes}
use Rattle.hybrid.specs.Staging.{AreRight}
use Rattle.transact.specs.Tables.{AreThere}
use Rattle.transact.specs.declared.call.Call.{Call}
use Rattle.transact.specs.declared.call.Call.TheVariants.{One}
use Rattle.shards.specs.declared.shard.Shard.{Shard}
use Rattle.engine.specs.Calls.{promises_of}
use Rattle.engine.specs.declared.one.Does.TheVariants as does
use Rattle.engine.specs.Entering.{HasEntered, MayBegin, own_answer}
use Rattle.engine.proofs.Entering.{begin_still, cold_behind, counted, entered_behind, parts_of}
use Rattle.engine.proofs.Ones.{done_names, err_then, ok_then, settled_still}
use Rattle.engine.proofs.set_if.enter_setting.Goals as goal

-- a call that is a SET of a key is that SET of the key that is known by its hash
same_call : (call : Call) (key named value : Bytes) (when : When) (gets : Bool) → call ≡ One (set_with named value (Some (when, gets))) → key ≡ named → call ≡ One (set_with key value (Some (when, gets)))
same_call call key named value when gets is hashed = subst (λ (k : Bytes). call ≡ One (set_with k value (Some (when, gets)))) (sym hashed) is

pub settle_set-requires-clause-may : goal.settle_set-requires-clause-may
settle_set-requires-clause-may g c =
    let call : Call = One (set_with c.new.result c.args.value.now (Some (c.args.when, c.args.gets))) in
    let is : c.args.call.now ≡ call = same_call c.args.call.now c.new.result c.args.key.now c.args.value.now c.args.when c.args.gets c.requires.is c.new.ensures in
    let begin : MayBegin g.R.Shows.is_steady call c.args.held.now = subst (λ (x : Call). MayBegin g.R.Shows.is_steady x c.args.held.now) is c.requires.begin in
    record {
      can_lend = begin.may.is_open;
      there = subst (AreThere (held_stripes c.args.held.now) (parts_of g.R.Shows.is_steady c.args.held.now)) (done_names (does.Set c.args.when c.args.gets) c.new.result c.args.value.now) begin.may.there;
    }

pub settle_set-requires-clause-bounded : goal.settle_set-requires-clause-bounded
settle_set-requires-clause-bounded g c =
    let call : Call = One (set_with c.new.result c.args.value.now (Some (c.args.when, c.args.gets))) in
    let is : c.args.call.now ≡ call = same_call c.args.call.now c.new.result c.args.key.now c.args.value.now c.args.when c.args.gets c.requires.is c.new.ensures in
    let begin : MayBegin g.R.Shows.is_steady call c.args.held.now = subst (λ (x : Call). MayBegin g.R.Shows.is_steady x c.args.held.now) is c.requires.begin in
    begin.place.1

pub enter_settled-requires-clause-begin : goal.enter_settled-requires-clause-begin
enter_settled-requires-clause-begin g c =
    let call : Call = One (set_with c.new.result c.args.value.now (Some (c.args.when, c.args.gets))) in
    let is : c.args.call.now ≡ call = same_call c.args.call.now c.new.result c.args.key.now c.args.value.now c.args.when c.args.gets c.requires.is c.new.ensures in
    let begin : MayBegin g.R.Shows.is_steady call c.args.held.now = subst (λ (x : Call). MayBegin g.R.Shows.is_steady x c.args.held.now) is c.requires.begin in
    begin_still g.R.Shows.is_steady call c.args.held.now c.settle_set.new.parts begin c.settle_set.ensures.held.open_still c.settle_set.ensures.held.kept c.settle_set.ensures.same

pub enter_settled-requires-clause-settled : goal.enter_settled-requires-clause-settled
enter_settled-requires-clause-settled g c =
    let s : Type 0 = g.R.Shows.is_steady in
    let start : Held (Shard _) = c.args.held.now in
    let mid : Held (Shard _) = c.settle_set.new.parts in
    settled_still s (g.R.Shows.is_honest × AreRight c.args.hands.now.staged) (held_stripes start) (held_stripes mid) (parts_of s start) (parts_of s mid) _ _ _ c.in-Some.settled
    (λ t. (g.met.R.Shows.steady_is_honest t, c.requires.hands.right t))
    (counted s start mid (ap (λ (g : Bor (Gates (Shard _))). g.now) c.settle_set.ensures.held.kept.gates)) c.settle_set.ensures.same c.in-Some.ensures.settled

pub returns-in-Some-clause-entered : goal.returns-in-Some-clause-entered
returns-in-Some-clause-entered g c =
    let call : Call = One (set_with c.new.result c.args.value.now (Some (c.args.when, c.args.gets))) in
    let is : c.args.call.now ≡ call = same_call c.args.call.now c.new.result c.args.key.now c.args.value.now c.args.when c.args.gets c.requires.is c.new.ensures in
    subst (λ (x : Call). HasEntered (promises_of g.R.Shows.is_steady g.R.Shows.lends (held_stripes c.args.held.now)) x own_answer (c.args.held.now, g.D.Device.failures c.args.device.now)
    (c.enter_settled.new.held, g.D.Device.failures c.enter_settled.new.device) c.enter_settled.result) (sym is)
    (entered_behind g.R.Shows.is_steady g.R.Shows.lends call own_answer c.args.held.now c.settle_set.new.parts c.enter_settled.new.held
    (g.D.Device.failures c.args.device.now) (g.D.Device.failures c.enter_settled.new.device) c.enter_settled.result c.settle_set.ensures.held.kept c.enter_settled.ensures.entered)

pub enter-requires-clause-begin : goal.enter-requires-clause-begin
enter-requires-clause-begin g c =
    begin_still g.R.Shows.is_steady c.args.call.now c.args.held.now c.settle_set.new.parts c.requires.begin c.settle_set.ensures.held.open_still c.settle_set.ensures.held.kept c.settle_set.ensures.same

pub returns-in-None-clause-entered : goal.returns-in-None-clause-entered
returns-in-None-clause-entered g c =
    ok_then c.enter.result _ _
    (λ entered. entered_behind g.R.Shows.is_steady g.R.Shows.lends c.args.call.now own_answer c.args.held.now c.settle_set.new.parts c.enter.new.held
    (g.D.Device.failures c.args.device.now) (g.D.Device.failures c.enter.new.device) entered c.settle_set.ensures.held.kept)
    c.enter.ensures.entered

pub returns-in-None-clause-cold : goal.returns-in-None-clause-cold
returns-in-None-clause-cold g c =
    err_then c.enter.result _ _
    (cold_behind g.R.Shows.is_steady g.R.Shows.lends c.args.call.now c.args.held.now c.settle_set.new.parts c.enter.new.held
    (g.D.Device.failures c.args.device.now) (g.D.Device.failures c.enter.new.device) c.settle_set.ensures.held.kept)
    c.enter.ensures.cold
