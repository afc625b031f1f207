use Rattle.std.proofs.Common.{◌≡◌, ◌∙◌, List, [], ap, sym, subst}
use Rattle.std.specs.Borrow.{Bor}
use Rattle.words.specs.declared.command.Command.{Command}
use Rattle.words.specs.Commands.{keys_of_all}
use Rattle.words.specs.Session.{operation_of}
use Rattle.words.specs.Store.{Bytes}
use Rattle.gates.specs.declared.gates.Gates.{Gates}
use Rattle.gates.specs.declared.held.Held.{Held}
use Rattle.gates.specs.declared.report.Report.TheVariants.{Nothing}
use Rattle.gates.specs.declared.view.Knowledge.{Knowledge}
use Rattle.gates.specs.Helds.{held_stripes, known_to, number_of}
use Rattle.transact.specs.declared.call.Call.{Call}
use Rattle.transact.specs.declared.call.Call.TheVariants as call
use Rattle.transact.specs.Calls.{call_keys}
use Rattle.transact.specs.Plans.{EndsAll, IsEntry, IsPlan, keys_begun, keys_ended}
use Rattle.transact.specs.Submits.{asked_for}
use Rattle.transact.specs.Tables.{AreThere}
use Rattle.shards.specs.declared.shard.Shard.{Shard}
use Rattle.shards.specs.Shards.{shard_meaning}
use Rattle.plans.specs.Telling.{AreGets, gets_reply}
use Rattle.engine.specs.Got.{IsOfGets, spoken_answer}
use Rattle.engine.proofs.Parts.{became_same}
use Rattle.engine.proofs.Saids.{there_first, there_last}
use Rattle.engine.proofs.Entering.{begin_still, entered_behind, fit_kept, given_still, parts_of, seat_is, stands}
use Rattle.engine.proofs.exec.enter_gets.Goals as goal

pub say_gets-requires-clause-may : goal.say_gets-requires-clause-may
say_gets-requires-clause-may g c =
    let s : Type 0 = g.R.Shows.is_steady in
    let start : Held (Shard _) = c.args.held.now in
    let commands : List Command = c.in-Exec.commands in
    let watching : List Bytes = c.in-Exec.watching in
    record {
      can_lend = c.requires.begin.may.is_open;
      there = subst (λ (l : List Command). AreThere (held_stripes start) (parts_of s start) (keys_of_all l)) (sym c.as_slice.ensures)
          (there_first (held_stripes start) (parts_of s start) (keys_of_all commands) watching
          (subst (λ (x : Call). AreThere (held_stripes start) (parts_of s start) (call_keys x)) (sym c.call.ensures ∙ c.in-Exec.is) c.requires.begin.may.there));
    }

pub say_gets-requires-clause-watching : goal.say_gets-requires-clause-watching
say_gets-requires-clause-watching g c =
    let s : Type 0 = g.R.Shows.is_steady in
    let start : Held (Shard _) = c.args.held.now in
    let commands : List Command = c.in-Exec.commands in
    let watching : List Bytes = c.in-Exec.watching in
    subst (λ (l : List Bytes). AreThere (held_stripes start) (parts_of s start) l) (sym c.keys.ensures)
    (there_last (held_stripes start) (parts_of s start) (keys_of_all commands) watching
    (subst (λ (x : Call). AreThere (held_stripes start) (parts_of s start) (call_keys x)) (sym c.call.ensures ∙ c.in-Exec.is) c.requires.begin.may.there))

pub say_gets-requires-clause-gets : goal.say_gets-requires-clause-gets
say_gets-requires-clause-gets g c = subst AreGets (sym c.as_slice.ensures) (subst IsOfGets (sym c.call.ensures ∙ c.in-Exec.is) c.requires.gets)

pub enter_said-entered-requires-clause-begin : goal.enter_said-entered-requires-clause-begin
enter_said-entered-requires-clause-begin g c =
    begin_still g.R.Shows.is_steady c.args.call.now c.args.held.now c.say_gets.new.parts c.requires.begin c.say_gets.ensures.held.open_still c.say_gets.ensures.held.kept c.say_gets.ensures.same

pub enter_said-entered-requires-clause-entry : goal.enter_said-entered-requires-clause-entry
enter_said-entered-requires-clause-entry g c = subst IsEntry (sym (sym c.call.ensures ∙ c.in-Exec.is)) tt

pub enter_said-entered-requires-clause-due : goal.enter_said-entered-requires-clause-due
enter_said-entered-requires-clause-due g c = λ t.
    let s : Type 0 = g.R.Shows.is_steady in
    let start : Held (Shard _) = c.args.held.now in
    let seat : number_of start ≡ (known_to start).number = seat_is s start c.requires.begin.may.is_open in
    let is : c.args.call.now ≡ call.Exec c.in-Exec.commands c.in-Exec.watching = sym c.call.ensures ∙ c.in-Exec.is in
    subst (λ (k : Knowledge). IsPlan k.seen (operation_of k.watched (asked_for c.args.call.now)) (gets_reply c.in-Some.said) []) (sym c.say_gets.ensures.held.kept.known)
    (c.in-Some.ensures.due (g.met.R.Shows.steady_is_honest t, c.requires.right t) (known_to start).seen (operation_of (known_to start).watched (asked_for c.args.call.now)) (record {
      watched = (known_to start).watched;
      stand = stands s (held_stripes start) (number_of start) start seat c.requires.begin.may.fit t;
      ends = c.keys.ensures ∙ subst (λ (x : Call). EndsAll x (known_to start).watched) is c.requires.begin.ends;
      once = c.requires.begin.may.is_open.holding.seat.each_once;
      is = ap (λ (x : Call). operation_of (known_to start).watched (asked_for x)) is
          ∙ ap (λ (l : List Command). operation_of (known_to start).watched (asked_for (call.Exec l c.in-Exec.watching))) (sym c.as_slice.ensures);
    }))

pub enter_said-entered-requires-clause-unwatched : goal.enter_said-entered-requires-clause-unwatched
enter_said-entered-requires-clause-unwatched g c = ap keys_begun (sym c.call.ensures ∙ c.in-Exec.is)

pub enter_said-entered-requires-clause-ended : goal.enter_said-entered-requires-clause-ended
enter_said-entered-requires-clause-ended g c = ap keys_ended (sym c.call.ensures ∙ c.in-Exec.is)

pub returns-in_default-say_gets-clause-back : goal.returns-in_default-say_gets-clause-back
returns-in_default-say_gets-clause-back g c =
    let s : Type 0 = g.R.Shows.is_steady in
    let start : Held (Shard _) = c.args.held.now in
    let mid : Held (Shard _) = c.say_gets.new.parts in
    let same = c.say_gets.ensures.held.kept in
    given_still s Nothing start mid c.say_gets.ensures.held.open_still tt (ap (λ (g : Bor (Gates (Shard _))). g.now) same.gates) same.pass
    (fit_kept s (held_stripes start) start mid same c.requires.begin.may.fit (became_same (held_stripes start) (shard_meaning s) (parts_of s start) (parts_of s mid) c.say_gets.ensures.same))

pub returns-in-Ok-clause-entered : goal.returns-in-Ok-clause-entered
returns-in-Ok-clause-entered g c = λ failures.
    entered_behind g.R.Shows.is_steady g.R.Shows.lends c.args.call.now spoken_answer c.args.held.now c.say_gets.new.parts c.enter_said-entered.new.held
    failures failures c.enter_said-entered.result c.say_gets.ensures.held.kept (c.enter_said-entered.ensures.entered failures)

pub returns-in-Err-clause-entered : goal.returns-in-Err-clause-entered
returns-in-Err-clause-entered g c = λ failures.
    entered_behind g.R.Shows.is_steady g.R.Shows.lends c.args.call.now spoken_answer c.args.held.now c.say_gets.new.parts c.enter_said-entered.new.held
    failures failures c.enter_said-entered.result c.say_gets.ensures.held.kept (c.enter_said-entered.ensures.entered failures)
