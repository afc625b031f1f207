use Rattle.std.proofs.Common.{◌∙◌, arith, ℕ, List, [], ◌∷◌, Some, Err, false, refl, sym, ap, subst}
use Rattle.std.specs.Borrow.{Bor}
use Rattle.words.specs.declared.command.Command.TheVariants.{Set}
use Rattle.words.specs.declared.command.When.TheVariants.{Always}
use Rattle.words.specs.declared.reply.Fault.{Fault}
use Rattle.words.specs.declared.reply.Line.TheVariants.{Done}
use Rattle.words.specs.Session.{line_reply}
use Rattle.words.specs.Session as asked
use Rattle.gates.specs.declared.gates.Gates.{Gates}
use Rattle.gates.specs.declared.held.Held.{Held}
use Rattle.gates.specs.declared.report.Report.{Report}
use Rattle.gates.specs.declared.report.Report.TheVariants.{Nothing}
use Rattle.gates.specs.declared.view.Knowledge.{Knowledge}
use Rattle.gates.specs.Background.{IsToldOf}
use Rattle.gates.specs.Sets.{part_at}
use Rattle.gates.specs.Helds.{held_stripes, held_parts, held_taken, known_to, same_as_it}
use Rattle.transact.specs.Calls.{asked_of}
use Rattle.words.specs.Store.{Write}
use Rattle.words.specs.Stripes.{stripe_of}
use Rattle.shards.specs.Rooms.{IsRoomyAt}
use Rattle.transact.specs.Tables.{Became, stays, touches}
use Rattle.shards.specs.declared.shard.Shard.{Shard}
use Rattle.shards.specs.Shards.{logs_of, shard_meaning, weigh}
use Rattle.engine.specs.Calls.{IsUndone, promises_of}
use Rattle.engine.specs.Entering.{given, line_came_to}
use Rattle.transact.specs.declared.call.Answer.TheVariants as answer
use Rattle.engine.specs.Memory.{set_call}
use Rattle.engine.specs.Passes.{know}
use Rattle.engine.specs.Stops.{fault_of}
use Rattle.gates.specs.Passes.{AreAsTaken}
use Rattle.engine.proofs.Parts.{there_after}
use Rattle.engine.proofs.Stopped.{cold_in, full_in, full_then, memory_in, set_stopped}
use Rattle.engine.proofs.Entering.{counted, done_by, fit_installed, fit_kept, fit_undone, given_still, heard_stop, named_held, parts_of, reply_due, stands, told_stop, was_worn}
use Rattle.engine.proofs.Hearing.{lacking_then}
use Rattle.engine.proofs.set.enter_set.Goals as goal

pub reserve_freeing-requires-clause-may : goal.reserve_freeing-requires-clause-may
reserve_freeing-requires-clause-may g c = record {
  may = record { can_lend = c.requires.may.is_open; there = c.requires.may.there };
  light = omega (arith, sym c.weighs_too_much.ensures.weight ∙ c.if-weighs_too_much.false);
}

pub told_of-fault-requires : goal.told_of-fault-requires
told_of-fault-requires g c = record { never_cold = cold_in c.in-Err.halt.stop _ _ _ _ c.in-Err.ensures.halted }

pub returns-in-Err-clause-back : goal.returns-in-Err-clause-back
returns-in-Err-clause-back g c =
    let s : Type 0 = g.R.Shows.is_steady in
    let last : Held (Shard _) = c.reserve_freeing.new.parts in
    let same = c.reserve_freeing.ensures.held.kept in
    given_still s c.told_of-fault.result.report c.args.held.now last c.reserve_freeing.ensures.held.open_still
    (subst (λ (r : Report). IsToldOf (shard_meaning s) (held_taken last) (held_parts last) r) (sym c.told_of-fault.ensures.report)
    (told_stop s (held_parts c.args.held.now) (held_parts last) (held_taken last) c.in-Err.halt.stop c.in-Err.halt.refused
    (subst (λ (l : List (ℕ × (ℕ × Shard _))). AreAsTaken l (held_parts c.args.held.now)) (sym same.taken) c.requires.lent) (full_then c.in-Err.halt.stop _ _ (λ stripe stuck. (stuck.full, stuck.spent)) c.in-Err.ensures.full)))
    (ap (λ (g : Bor (Gates (Shard _))). g.now) same.gates) same.pass
    (fit_kept s (held_stripes c.args.held.now) c.args.held.now last same c.requires.may.fit c.reserve_freeing.ensures.became)

pub returns-in-Err-clause-answered : goal.returns-in-Err-clause-answered
returns-in-Err-clause-answered g c = record {
  done = tt;
  undone =
      let s : Type 0 = g.R.Shows.is_steady in
      let start : Knowledge = known_to c.args.held.now in
      let mid : Knowledge = known_to c.reserve_freeing.new.parts in
      let f0 : ℕ = g.D.Device.failures c.args.device.now in
      let f1 : ℕ = g.D.Device.failures c.reserve_freeing.new.device in
      let P : Fault → Report → Type 0 = λ f r. IsUndone (promises_of s g.R.Shows.lends (held_stripes c.args.held.now)) [] (asked_of (set_call c.args.key.now c.args.value.now)) f (know start f0) (know (given false r mid) f1) in
      subst (λ (f : Fault). P f c.told_of-fault.result.report) (sym c.told_of-fault.ensures.fault)
      (subst (λ (r : Report). P (fault_of c.in-Err.halt.stop) r) (sym c.told_of-fault.ensures.report)
      (set_stopped (promises_of s g.R.Shows.lends (held_stripes c.args.held.now)) c.args.key.now c.args.value.now c.in-Err.halt.stop c.in-Err.halt.refused start mid f0 f1 c.reserve_freeing.ensures.held.kept.known (cold_in c.in-Err.halt.stop _ _ _ _ c.in-Err.ensures.halted) (memory_in c.in-Err.halt.stop _ _ _ _ c.in-Err.ensures.halted (λ never. never)) c.in-Err.ensures.failed (full_in c.in-Err.halt.stop _ _ _ _ c.in-Err.ensures.halted)
      ((rw c.key.ensures at c.weighs_too_much.ensures.light) c.if-weighs_too_much.false start.seen)));
}

pub returns-in-Err-clause-heard : goal.returns-in-Err-clause-heard
returns-in-Err-clause-heard g c =
    heard_stop c.in-Err.halt.stop c.in-Err.halt.refused (line_came_to (Err c.told_of-fault.result.fault) c.told_of-fault.result.report) _ _ (ap answer.Fault c.told_of-fault.ensures.fault) c.told_of-fault.ensures.report c.reserve_freeing.ensures.retires.heard (full_then c.in-Err.halt.stop _ _ (λ stripe stuck. stuck.worn) c.in-Err.ensures.full)

pub commit_line-requires-clause-due : goal.commit_line-requires-clause-due
commit_line-requires-clause-due g c =
    reply_due g.R.Shows.is_steady c.args.held.now c.reserve_freeing.new.parts (asked.Run (Set c.args.key.now c.args.value.now Always)) (line_reply Done) ((c.args.key.now, Some c.args.value.now) ∷ []) c.reserve_freeing.ensures.held.kept
    (λ t. (rw c.key.ensures at c.weighs_too_much.ensures.light) c.if-weighs_too_much.false (known_to c.args.held.now).seen)

pub commit_line-requires-clause-keys : goal.commit_line-requires-clause-keys
commit_line-requires-clause-keys g c =
    let s : Type 0 = g.R.Shows.is_steady in
    named_held s (held_stripes c.args.held.now) c.args.held.now c.reserve_freeing.new.parts (set_call c.args.key.now c.args.value.now) c.reserve_freeing.ensures.held.kept refl refl tt
    (there_after (held_stripes c.args.held.now) (c.args.key.now ∷ []) (parts_of s c.args.held.now) (parts_of s c.reserve_freeing.new.parts) c.reserve_freeing.ensures.became.there c.requires.may.there)

pub install_put-requires-clause-room : goal.install_put-requires-clause-room
install_put-requires-clause-room g c =
    let s : Type 0 = g.R.Shows.is_steady in
    let start : Held (Shard _) = c.args.held.now in
    let done : Held (Shard _) = c.commit_line.new.held in
    let w : Write = (c.args.key.now, Some c.args.value.now) in
    let count = counted s start done (c.commit_line.ensures.gates ∙ ap (λ (g : Bor (Gates (Shard _))). g.now) c.reserve_freeing.ensures.held.kept.gates) in
    subst (λ (m : ℕ). IsRoomyAt (logs_of (parts_of s done)) (stripe_of m c.args.key.now) (weigh w)) (sym count) (subst (λ (l : List (ℕ × Shard _)). IsRoomyAt (logs_of (part_at l)) (stripe_of (held_stripes start) c.args.key.now) (weigh w)) (sym c.commit_line.ensures.parts) c.in_default.ensures.room)

pub returns-in-Ok-clause-back : goal.returns-in-Ok-clause-back
returns-in-Ok-clause-back g c =
    let s : Type 0 = g.R.Shows.is_steady in
    let n : ℕ = (held_stripes c.args.held.now) in
    let start : Held (Shard _) = c.args.held.now in
    let mid : Held (Shard _) = c.reserve_freeing.new.parts in
    let done : Held (Shard _) = c.commit_line.new.held in
    let last : Held (Shard _) = c.install_put.new.parts in
    let count = counted s start done (c.commit_line.ensures.gates ∙ ap (λ (g : Bor (Gates (Shard _))). g.now) c.reserve_freeing.ensures.held.kept.gates) in
    let w : Write = (c.args.key.now, Some c.args.value.now) in
    let installed = subst (λ (m : ℕ). Became (shard_meaning s) m (w ∷ []) (touches (w ∷ [])) (parts_of s done) (parts_of s last)) count c.install_put.ensures.became in
    let reserved : Became (shard_meaning s) n [] stays (parts_of s start) (parts_of s done) =
    subst (λ (l : List (ℕ × Shard _)). Became (shard_meaning s) n [] stays (parts_of s start) (part_at l)) (sym c.commit_line.ensures.parts) c.reserve_freeing.ensures.became in
    given_still s Nothing start last c.install_put.ensures.held.open_still tt
    (ap (λ (g : Bor (Gates (Shard _))). g.now) c.install_put.ensures.held.kept.gates ∙ c.commit_line.ensures.gates ∙ ap (λ (g : Bor (Gates (Shard _))). g.now) c.reserve_freeing.ensures.held.kept.gates)
    (c.install_put.ensures.held.kept.pass ∙ c.commit_line.ensures.pass ∙ c.reserve_freeing.ensures.held.kept.pass)
    (fit_installed s n (known_to start).number c.in-Ok.field-0 (asked.Run (Set c.args.key.now c.args.value.now Always)) (line_reply Done) start mid done last refl refl
    (λ t. c.writes_install_a_command.ensures n (known_to start).number (Set c.args.key.now c.args.value.now Always) (known_to start).seen (known_to start).watched (line_reply Done) ((c.args.key.now, Some c.args.value.now) ∷ [])
    (parts_of s start) (parts_of s done) (parts_of s last) ((rw c.key.ensures at c.weighs_too_much.ensures.light) c.if-weighs_too_much.false (known_to start).seen)
    (stands s n (known_to start).number start refl c.requires.may.fit t) reserved installed)
    c.requires.may.fit c.reserve_freeing.ensures.held.kept c.reserve_freeing.ensures.became.there c.commit_line.ensures.taken c.in-Ok.ensures.ok c.install_put.ensures.held.kept)

pub returns-in-Ok-clause-answered : goal.returns-in-Ok-clause-answered
returns-in-Ok-clause-answered g c = record {
  done =
      done_by (set_call c.args.key.now c.args.value.now) (line_reply Done) _ c.in-Ok.field-0 _ (known_to c.args.held.now) (known_to c.reserve_freeing.new.parts) (known_to c.commit_line.new.held) (known_to c.install_put.new.parts)
      (g.D.Device.failures c.args.device.now) (g.D.Device.failures c.reserve_freeing.new.device) refl c.reserve_freeing.ensures.held.kept.known c.install_put.ensures.held.kept.known c.in-Ok.ensures.ok c.in_default.ensures.failed;
  undone = tt;
}

pub returns-in-Err-commit_line-clause-back : goal.returns-in-Err-commit_line-clause-back
returns-in-Err-commit_line-clause-back g c =
    let s : Type 0 = g.R.Shows.is_steady in
    let n : ℕ = (held_stripes c.args.held.now) in
    let start : Held (Shard _) = c.args.held.now in
    let last : Held (Shard _) = c.commit_line.new.held in
    given_still s Nothing start last c.commit_line.ensures.open_still tt (c.commit_line.ensures.gates ∙ ap (λ (g : Bor (Gates (Shard _))). g.now) c.reserve_freeing.ensures.held.kept.gates)
    (c.commit_line.ensures.pass ∙ c.reserve_freeing.ensures.held.kept.pass)
    (fit_undone s n start c.reserve_freeing.new.parts last last c.reserve_freeing.ensures.held.kept c.commit_line.ensures.taken c.in-Err-commit_line.ensures.worn (same_as_it last) c.requires.may.fit
    (subst (λ (l : List (ℕ × Shard _)). Became (shard_meaning s) n [] stays (parts_of s start) (part_at l)) (sym c.commit_line.ensures.parts) c.reserve_freeing.ensures.became))

pub returns-in-Err-commit_line-clause-answered : goal.returns-in-Err-commit_line-clause-answered
returns-in-Err-commit_line-clause-answered g c = record {
  done = tt;
  undone =
      was_worn (promises_of g.R.Shows.is_steady g.R.Shows.lends (held_stripes c.args.held.now)) (set_call c.args.key.now c.args.value.now) (known_to c.args.held.now) (known_to c.reserve_freeing.new.parts) (known_to c.commit_line.new.held)
      (known_to c.commit_line.new.held) (known_to c.commit_line.new.held) (g.D.Device.failures c.args.device.now) (g.D.Device.failures c.reserve_freeing.new.device)
      refl refl refl c.reserve_freeing.ensures.held.kept.known c.in-Err-commit_line.ensures.worn c.in_default.ensures.failed;
}

pub returns-in-Err-clause-lacks : goal.returns-in-Err-clause-lacks
returns-in-Err-clause-lacks g c = lacking_then c.told_of-fault.result.fault _ c.in-Err.ensures.lacks
