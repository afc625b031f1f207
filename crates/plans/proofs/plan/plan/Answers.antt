use Rattle.std.proofs.Common.{◌∙◌, ℕ, List, refl, sym, subst, IfErr, IfOk}
use Rattle.words.specs.Store.{Bytes}
use Rattle.words.specs.Commands.{keys_of, keys_of_all}
use Rattle.words.specs.declared.command.Command.{Command}
use Rattle.words.specs.declared.history.Operation.{Operation}
use Rattle.hybrid.specs.Staging.{AreRight}
use Rattle.shards.specs.Receipts.{kept_by}
use Rattle.shards.specs.Shards.{logs_of, shard_meaning}
use Rattle.transact.specs.declared.call.Call.{Call}
use Rattle.transact.specs.declared.call.Call.TheVariants as call
use Rattle.transact.specs.Calls.{call_keys}
use Rattle.transact.specs.Plans.{IsPlan, keys_begun}
use Rattle.transact.specs.Tables.{AreThere, joined}
use Rattle.plans.specs.Memory.{IsPlannedInPlace}
use Rattle.plans.specs.Planning.{AreDue, AsksOn, ExecsWatching, AreMarks, HasPlanned, HasStopped, RunsOn, of_call, of_command, of_exec}
use Rattle.plans.specs.Sizes.{AreSized, IsPlaced}
use Rattle.plans.proofs.Few.{still_same}
use Rattle.plans.proofs.Keys.{there_append}
use Rattle.plans.proofs.Questions.{all_planned_as, execs_of, failed_memory, marks_none, planned_nothing, runs_of, stopped_as, stopped_memory, watches_of}
use Rattle.plans.proofs.Sized.{sized_all, sized_one}
use Rattle.plans.proofs.Spared.{spare_same}
use Rattle.plans.proofs.Stores.{ok_then_all}
use Rattle.plans.proofs.plan.plan.Goals as goal

pub plan_one-requires-clause-may : goal.plan_one-requires-clause-may
plan_one-requires-clause-may g c = record {
  can_lend = c.requires.may.may.can_lend;
  there = subst (λ (x : Call). AreThere (g.P.Parts.stripes_of c.args.parts.now) (g.P.Parts.part_of c.args.parts.now) (call_keys x)) (sym c.call.ensures ∙ c.in-One.is) c.requires.may.may.there;
}

pub plan_one-requires-clause-sized : goal.plan_one-requires-clause-sized
plan_one-requires-clause-sized g c =
    sized_one c.writes_are_bounded.ensures c.in-One.command (subst IsPlaced (sym c.call.ensures ∙ c.in-One.is) c.requires.may.place)

pub plan_exec-requires-clause-may : goal.plan_exec-requires-clause-may
plan_exec-requires-clause-may g c =
    let n : ℕ = (g.P.Parts.stripes_of c.args.parts.now) in
    let parts = g.P.Parts.part_of c.args.parts.now in record {
      can_lend = c.requires.may.may.can_lend;
      there = subst (λ (l : List Command). AreThere n parts (keys_of_all l)) (sym c.as_slice.ensures)
          (there_append (shard_meaning g.R.Shows.is_steady) n parts (keys_of_all c.in-Exec.commands) c.in-Exec.watching (subst (λ (x : Call). AreThere n parts (call_keys x)) (sym c.call.ensures ∙ c.in-Exec.is) c.requires.may.may.there)).0;
    }

pub plan_exec-requires-clause-watching : goal.plan_exec-requires-clause-watching
plan_exec-requires-clause-watching g c =
    let n : ℕ = (g.P.Parts.stripes_of c.args.parts.now) in
    let parts = g.P.Parts.part_of c.args.parts.now in
    subst (λ (l : List Bytes). AreThere n parts l) (sym c.keys.ensures)
    (there_append (shard_meaning g.R.Shows.is_steady) n parts (keys_of_all c.in-Exec.commands) c.in-Exec.watching (subst (λ (x : Call). AreThere n parts (call_keys x)) (sym c.call.ensures ∙ c.in-Exec.is) c.requires.may.may.there)).1

pub plan_exec-requires-clause-sized : goal.plan_exec-requires-clause-sized
plan_exec-requires-clause-sized g c =
    subst AreSized (sym c.as_slice.ensures)
    (sized_all c.writes_are_bounded.ensures c.in-Exec.commands (subst IsPlaced (sym c.call.ensures ∙ c.in-Exec.is) c.requires.may.place))

pub returns-in-One-clause-planned : goal.returns-in-One-clause-planned
returns-in-One-clause-planned g c =
    let n : ℕ = (g.P.Parts.stripes_of c.args.parts.now) in
    let parts = g.P.Parts.part_of c.args.parts.now in
    let later = g.P.Parts.part_of c.plan_one.new.parts in
    let right = g.R.Shows.is_honest × AreRight c.args.staged.now in
    let contents = shard_meaning g.R.Shows.is_steady in
    let kept = kept_by g.R.Shows.identity g.R.Shows.shown in
    subst (λ (x : Call). IfOk c.plan_one.result (HasPlanned g.D.Device.wrote kept (AreDue right (of_call contents n parts (g.P.Parts.holder_of c.args.parts.now) x)) n (parts, c.args.device.now) (later, c.plan_one.new.device))) (sym (sym c.call.ensures ∙ c.in-One.is))
    (all_planned_as g.D.Device.wrote kept c.plan_one.result (AreDue right (of_command contents n parts c.in-One.command)) (AreDue right (of_call contents n parts (g.P.Parts.holder_of c.args.parts.now) (call.One c.in-One.command))) n (parts, c.args.device.now) (later, c.plan_one.new.device)
    (λ said writes due is_right seen operation asks. due is_right seen operation (runs_of contents n parts (g.P.Parts.holder_of c.args.parts.now) c.in-One.command seen operation asks)) c.plan_one.ensures.planned)

pub returns-in-One-clause-marks : goal.returns-in-One-clause-marks
returns-in-One-clause-marks g c =
    let n : ℕ = (g.P.Parts.stripes_of c.args.parts.now) in
    let a = g.P.Parts.part_of c.args.parts.now in
    let b = g.P.Parts.part_of c.plan_one.new.parts in
    let contents = shard_meaning g.R.Shows.is_steady in
    subst (λ (x : Call). AreMarks contents n (g.P.Parts.holder_of c.args.parts.now) (keys_begun x) a b c.plan_one.result) (sym (sym c.call.ensures ∙ c.in-One.is))
    (marks_none contents n (g.P.Parts.holder_of c.args.parts.now) a b c.plan_one.result c.plan_one.ensures.unmarked)

pub returns-in-One-clause-stopped : goal.returns-in-One-clause-stopped
returns-in-One-clause-stopped g c =
    let n : ℕ = (g.P.Parts.stripes_of c.args.parts.now) in
    let parts = g.P.Parts.part_of c.args.parts.now in
    let later = g.P.Parts.part_of c.plan_one.new.parts in
    let right = g.R.Shows.is_honest × AreRight c.args.staged.now in
    let contents = shard_meaning g.R.Shows.is_steady in
    let kept = kept_by g.R.Shows.identity g.R.Shows.shown in
    subst (λ (x : Call). IfErr c.plan_one.result (HasStopped g.D.Device.wrote kept g.R.Shows.lends right (of_call contents n parts (g.P.Parts.holder_of c.args.parts.now) x) n c.args.staged.now (parts, c.args.device.now) (later, c.plan_one.new.device))) (sym (sym c.call.ensures ∙ c.in-One.is))
    (stopped_as g.D.Device.wrote kept c.plan_one.result g.R.Shows.lends right (RunsOn contents n parts c.in-One.command) (AsksOn contents n parts (g.P.Parts.holder_of c.args.parts.now) (call.One c.in-One.command)) (keys_of c.in-One.command)
    (IsPlannedInPlace (joined contents n parts) c.in-One.command) n c.args.staged.now (parts, c.args.device.now) (later, c.plan_one.new.device) (runs_of contents n parts (g.P.Parts.holder_of c.args.parts.now) c.in-One.command) c.plan_one.ensures.stopped)

pub returns-in-Watch-clause-planned : goal.returns-in-Watch-clause-planned
returns-in-Watch-clause-planned g c =
    let n : ℕ = (g.P.Parts.stripes_of c.args.parts.now) in
    let parts = g.P.Parts.part_of c.args.parts.now in
    let later = g.P.Parts.part_of c.plan_watch.new.parts in
    let right = g.R.Shows.is_honest × AreRight c.args.staged.now in
    let contents = shard_meaning g.R.Shows.is_steady in
    let kept = kept_by g.R.Shows.identity g.R.Shows.shown in
    subst (λ (x : Call). IfOk c.plan_watch.result (HasPlanned g.D.Device.wrote kept (AreDue right (of_call contents n parts (g.P.Parts.holder_of c.args.parts.now) x)) n (parts, c.args.device.now) (later, c.args.device.now))) (sym (sym c.call.ensures ∙ c.in-Watch.is))
    (ok_then_all c.plan_watch.result
    (λ planned has. planned_nothing g.D.Device.wrote kept (AreDue right (of_call contents n parts (g.P.Parts.holder_of c.args.parts.now) (call.Watch c.in-Watch.keys))) n (parts, c.args.device.now) (later, c.args.device.now) planned
    (λ is_right seen operation asks. subst (λ (o : Operation). IsPlan seen o planned.reply planned.writes) (sym (watches_of contents n parts (g.P.Parts.holder_of c.args.parts.now) c.in-Watch.keys seen operation asks)) (has.0 seen))
    has.1 c.plan_watch.ensures.same.0 refl)
    c.plan_watch.ensures.planned)

pub returns-in-Watch-clause-marks : goal.returns-in-Watch-clause-marks
returns-in-Watch-clause-marks g c =
    let n : ℕ = (g.P.Parts.stripes_of c.args.parts.now) in
    let a = g.P.Parts.part_of c.args.parts.now in
    let b = g.P.Parts.part_of c.plan_watch.new.parts in
    let contents = shard_meaning g.R.Shows.is_steady in
    subst (λ (x : Call). AreMarks contents n (g.P.Parts.holder_of c.args.parts.now) (keys_begun x) a b c.plan_watch.result) (sym (sym c.call.ensures ∙ c.in-Watch.is))
    (c.plan_watch.ensures.marks)

pub returns-in-Watch-clause-stopped : goal.returns-in-Watch-clause-stopped
returns-in-Watch-clause-stopped g c =
    let n : ℕ = (g.P.Parts.stripes_of c.args.parts.now) in
    let parts = g.P.Parts.part_of c.args.parts.now in
    let later = g.P.Parts.part_of c.plan_watch.new.parts in
    let right = g.R.Shows.is_honest × AreRight c.args.staged.now in
    let contents = shard_meaning g.R.Shows.is_steady in
    let kept = kept_by g.R.Shows.identity g.R.Shows.shown in
    subst (λ (x : Call). IfErr c.plan_watch.result (HasStopped g.D.Device.wrote kept g.R.Shows.lends right (of_call contents n parts (g.P.Parts.holder_of c.args.parts.now) x) n c.args.staged.now (parts, c.args.device.now) (later, c.args.device.now))) (sym (sym c.call.ensures ∙ c.in-Watch.is))
    (stopped_memory g.D.Device.wrote kept c.plan_watch.result g.R.Shows.lends right (of_call contents n parts (g.P.Parts.holder_of c.args.parts.now) (call.Watch c.in-Watch.keys)) n c.args.staged.now (parts, c.args.device.now) (later, c.args.device.now)
    (record { takes = λ is_right hand brief. brief; logs = c.plan_watch.ensures.same.0; device = refl }) c.plan_watch.ensures.stop)

pub returns-in-Watch-clause-stands : goal.returns-in-Watch-clause-stands
returns-in-Watch-clause-stands g c = record {
  serves = still_same g.D.Device.serves g.D.Device.releases g.D.Device.writes c.args.device.now;
  waits = c.plan_watch.ensures.same.1;
  rooms = spare_same (logs_of (g.P.Parts.part_of c.args.parts.now)) (logs_of (g.P.Parts.part_of c.plan_watch.new.parts)) c.plan_watch.ensures.same.0;
}

pub returns-in-Watch-clause-failed : goal.returns-in-Watch-clause-failed
returns-in-Watch-clause-failed g c = failed_memory c.plan_watch.result (g.D.Device.failures c.args.device.now) c.plan_watch.ensures.stop

pub returns-in-Exec-clause-planned : goal.returns-in-Exec-clause-planned
returns-in-Exec-clause-planned g c =
    let n : ℕ = (g.P.Parts.stripes_of c.args.parts.now) in
    let parts = g.P.Parts.part_of c.args.parts.now in
    let later = g.P.Parts.part_of c.plan_exec.new.parts in
    let right = g.R.Shows.is_honest × AreRight c.args.staged.now in
    let contents = shard_meaning g.R.Shows.is_steady in
    let kept = kept_by g.R.Shows.identity g.R.Shows.shown in
    let commands : List Command = c.in-Exec.commands in
    let watching : List Bytes = c.in-Exec.watching in
    subst (λ (x : Call). IfOk c.plan_exec.result (HasPlanned g.D.Device.wrote kept (AreDue right (of_call contents n parts (g.P.Parts.holder_of c.args.parts.now) x)) n (parts, c.args.device.now) (later, c.plan_exec.new.device))) (sym (sym c.call.ensures ∙ c.in-Exec.is))
    (all_planned_as g.D.Device.wrote kept c.plan_exec.result (AreDue right (of_exec contents n parts (g.P.Parts.holder_of c.args.parts.now) watching commands)) (AreDue right (of_call contents n parts (g.P.Parts.holder_of c.args.parts.now) (call.Exec commands watching))) n (parts, c.args.device.now) (later, c.plan_exec.new.device)
    (λ said writes due is_right seen operation asks. due is_right seen operation (execs_of contents n parts (g.P.Parts.holder_of c.args.parts.now) watching commands seen operation asks))
    (subst (λ (l : List Bytes). IfOk c.plan_exec.result (HasPlanned g.D.Device.wrote kept (AreDue right (of_exec contents n parts (g.P.Parts.holder_of c.args.parts.now) l commands)) n (parts, c.args.device.now) (later, c.plan_exec.new.device))) c.keys.ensures
    (subst (λ (l : List Command). IfOk c.plan_exec.result (HasPlanned g.D.Device.wrote kept (AreDue right (of_exec contents n parts (g.P.Parts.holder_of c.args.parts.now) c.keys.result.now l)) n (parts, c.args.device.now) (later, c.plan_exec.new.device))) c.as_slice.ensures
    c.plan_exec.ensures.planned)))

pub returns-in-Exec-clause-marks : goal.returns-in-Exec-clause-marks
returns-in-Exec-clause-marks g c =
    let n : ℕ = (g.P.Parts.stripes_of c.args.parts.now) in
    let a = g.P.Parts.part_of c.args.parts.now in
    let b = g.P.Parts.part_of c.plan_exec.new.parts in
    let contents = shard_meaning g.R.Shows.is_steady in
    subst (λ (x : Call). AreMarks contents n (g.P.Parts.holder_of c.args.parts.now) (keys_begun x) a b c.plan_exec.result) (sym (sym c.call.ensures ∙ c.in-Exec.is))
    (marks_none contents n (g.P.Parts.holder_of c.args.parts.now) a b c.plan_exec.result c.plan_exec.ensures.unmarked)

pub returns-in-Exec-clause-stopped : goal.returns-in-Exec-clause-stopped
returns-in-Exec-clause-stopped g c =
    let n : ℕ = (g.P.Parts.stripes_of c.args.parts.now) in
    let parts = g.P.Parts.part_of c.args.parts.now in
    let later = g.P.Parts.part_of c.plan_exec.new.parts in
    let right = g.R.Shows.is_honest × AreRight c.args.staged.now in
    let contents = shard_meaning g.R.Shows.is_steady in
    let kept = kept_by g.R.Shows.identity g.R.Shows.shown in
    let commands : List Command = c.in-Exec.commands in
    let watching : List Bytes = c.in-Exec.watching in
    subst (λ (x : Call). IfErr c.plan_exec.result (HasStopped g.D.Device.wrote kept g.R.Shows.lends right (of_call contents n parts (g.P.Parts.holder_of c.args.parts.now) x) n c.args.staged.now (parts, c.args.device.now) (later, c.plan_exec.new.device))) (sym (sym c.call.ensures ∙ c.in-Exec.is))
    (stopped_as g.D.Device.wrote kept c.plan_exec.result g.R.Shows.lends right (ExecsWatching contents n parts (g.P.Parts.holder_of c.args.parts.now) watching commands) (AsksOn contents n parts (g.P.Parts.holder_of c.args.parts.now) (call.Exec commands watching)) (keys_of_all commands) ⊥ n c.args.staged.now
    (parts, c.args.device.now) (later, c.plan_exec.new.device) (execs_of contents n parts (g.P.Parts.holder_of c.args.parts.now) watching commands)
    (subst (λ (l : List Bytes). IfErr c.plan_exec.result (HasStopped g.D.Device.wrote kept g.R.Shows.lends right (of_exec contents n parts (g.P.Parts.holder_of c.args.parts.now) l commands) n c.args.staged.now (parts, c.args.device.now) (later, c.plan_exec.new.device))) c.keys.ensures
    (subst (λ (l : List Command). IfErr c.plan_exec.result (HasStopped g.D.Device.wrote kept g.R.Shows.lends right (of_exec contents n parts (g.P.Parts.holder_of c.args.parts.now) c.keys.result.now l) n c.args.staged.now (parts, c.args.device.now) (later, c.plan_exec.new.device))) c.as_slice.ensures
    c.plan_exec.ensures.stopped)))
