use Rattle.std.proofs.Common.{ℕ, List, ap, subst}
use Rattle.std.specs.Borrow.{Bor}
use Rattle.words.specs.History.{after}
use Rattle.words.specs.Store.{Bytes}
use Rattle.gates.specs.declared.gates.Gates.{Gates}
use Rattle.gates.specs.declared.held.Held.{Held}
use Rattle.gates.specs.declared.view.Knowledge.{Knowledge}
use Rattle.gates.specs.Helds.{held_stripes}
use Rattle.hybrid.specs.Staging.{AreRight}
use Rattle.transact.specs.Submits.{asked_for}
use Rattle.transact.specs.Tables.{AreThere, joined}
use Rattle.shards.specs.declared.shard.Shard.{Shard}
use Rattle.shards.specs.Shards.{shard_meaning}
use Rattle.engine.specs.Entering.{command_asked, one_call_of, own_answer}
use Rattle.engine.specs.Memory.{AsksNoMemory}
use Rattle.engine.proofs.Entering.{begin_still, cold_behind, counted, entered_behind, parts_of}
use Rattle.engine.proofs.Memory.{asks_on}
use Rattle.engine.proofs.Ones.{err_then, none_some, ok_then, one_brief, one_names, one_planned, settled_still}
use Rattle.engine.proofs.one.enter_one.Goals as goal

pub settle-requires-clause-may : goal.settle-requires-clause-may
settle-requires-clause-may g c = record {
  can_lend = c.requires.begin.may.is_open;
  there = subst (λ (l : List Bytes). AreThere (held_stripes c.args.held.now) (parts_of g.R.Shows.is_steady c.args.held.now) l) (one_names c.args.asks.now.verb c.args.asks.now.key.now c.args.asks.now.value.now) c.requires.begin.may.there;
}

pub settle-requires-clause-bounded : goal.settle-requires-clause-bounded
settle-requires-clause-bounded g c = c.requires.begin.place.1

pub enter_settled-requires-clause-begin : goal.enter_settled-requires-clause-begin
enter_settled-requires-clause-begin g c =
    begin_still g.R.Shows.is_steady (one_call_of c.args.asks.now) c.args.held.now c.settle.new.parts c.requires.begin c.settle.ensures.held.open_still c.settle.ensures.held.kept c.settle.ensures.same

pub enter_settled-requires-clause-settled : goal.enter_settled-requires-clause-settled
enter_settled-requires-clause-settled g c =
    let s : Type 0 = g.R.Shows.is_steady in
    let start : Held (Shard _) = c.args.held.now in
    let mid : Held (Shard _) = c.settle.new.parts in
    settled_still s (g.R.Shows.is_honest × AreRight c.args.hands.now.staged) (held_stripes start) (held_stripes mid) (parts_of s start) (parts_of s mid) c.args.asks.now.key.now c.args.asks.now.value.now (command_asked c.args.asks.now) c.in-Some.settled
    (λ t. (g.met.R.Shows.steady_is_honest t, c.requires.hands.right t))
    (counted s start mid (ap (λ (g : Bor (Gates (Shard _))). g.now) c.settle.ensures.held.kept.gates)) c.settle.ensures.same c.in-Some.ensures.settled

pub returns-in-Some-clause-entered : goal.returns-in-Some-clause-entered
returns-in-Some-clause-entered g c =
    entered_behind g.R.Shows.is_steady g.R.Shows.lends (one_call_of c.args.asks.now) own_answer c.args.held.now c.settle.new.parts c.enter_settled.new.held
    (g.D.Device.failures c.args.device.now) (g.D.Device.failures c.enter_settled.new.device) c.enter_settled.result c.settle.ensures.held.kept c.enter_settled.ensures.entered

pub enter_planned-requires-clause-begin : goal.enter_planned-requires-clause-begin
enter_planned-requires-clause-begin g c =
    begin_still g.R.Shows.is_steady (one_call_of c.args.asks.now) c.args.held.now c.settle.new.parts c.requires.begin c.settle.ensures.held.open_still c.settle.ensures.held.kept c.settle.ensures.same

pub enter_planned-requires-clause-memory : goal.enter_planned-requires-clause-memory
enter_planned-requires-clause-memory g c = λ asks.
    let s : Type 0 = g.R.Shows.is_steady in
    let start : Held (Shard _) = c.args.held.now in
    let n : ℕ = held_stripes start in
    let call = one_call_of c.args.asks.now in
    let near = asks_on s g.R.Shows.lends n start call c.requires.begin.may.fit c.requires.begin.may.there (one_planned c.args.asks.now.verb c.args.asks.now.key.now c.args.asks.now.value.now).other
    (subst (λ (k : Knowledge). AsksNoMemory (s × g.R.Shows.lends) (after k.seen) (asked_for call)) c.settle.ensures.held.kept.known asks) in
    none_some c.settle.result c.in-None.is
    (c.settle.ensures.memory near.1 (g.met.R.Shows.steady_is_honest near.0, c.requires.hands.right near.0)
    (one_brief c.args.asks.now.verb c.args.asks.now.key.now c.args.asks.now.value.now (joined (shard_meaning s) n (parts_of s start)) near.2))

pub returns-in-None-clause-entered : goal.returns-in-None-clause-entered
returns-in-None-clause-entered g c =
    ok_then c.enter_planned.result _ _
    (λ entered. entered_behind g.R.Shows.is_steady g.R.Shows.lends (one_call_of c.args.asks.now) own_answer c.args.held.now c.settle.new.parts c.enter_planned.new.held
    (g.D.Device.failures c.args.device.now) (g.D.Device.failures c.enter_planned.new.device) entered c.settle.ensures.held.kept)
    c.enter_planned.ensures.entered

pub returns-in-None-clause-cold : goal.returns-in-None-clause-cold
returns-in-None-clause-cold g c =
    err_then c.enter_planned.result _ _
    (cold_behind g.R.Shows.is_steady g.R.Shows.lends (one_call_of c.args.asks.now) c.args.held.now c.settle.new.parts c.enter_planned.new.held
    (g.D.Device.failures c.args.device.now) (g.D.Device.failures c.enter_planned.new.device) c.settle.ensures.held.kept)
    c.enter_planned.ensures.cold
