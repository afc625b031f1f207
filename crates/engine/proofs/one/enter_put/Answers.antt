use Rattle.std.proofs.Common.{◌∙◌, ℕ, List, [], ◌∷◌, Err, false, refl, sym, ap, subst}
use Rattle.std.specs.Borrow.{Bor}
use Rattle.std.specs.Option.{option_copied}
use Rattle.words.specs.declared.command.Command.{Command}
use Rattle.words.specs.declared.reply.Fault.{Fault}
use Rattle.words.specs.declared.reply.Reply.{Reply}
use Rattle.words.specs.History.{HasPlace}
use Rattle.words.specs.Session as asked
use Rattle.words.specs.Session.{operation_of}
use Rattle.words.specs.Store.{Bytes, Write}
use Rattle.words.specs.Stripes.{stripe_of}
use Rattle.gates.specs.declared.gates.Gates.{Gates}
use Rattle.gates.specs.declared.held.Held.{Held}
use Rattle.gates.specs.declared.report.Report.{Report}
use Rattle.gates.specs.declared.report.Report.TheVariants.{Nothing}
use Rattle.gates.specs.declared.view.Knowledge.{Knowledge}
use Rattle.gates.specs.Background.{IsToldOf}
use Rattle.gates.specs.Passes.{AreAsTaken}
use Rattle.gates.specs.Sets.{part_at}
use Rattle.gates.specs.Helds.{held_stripes, held_parts, held_taken, known_to, same_as_it}
use Rattle.transact.specs.declared.call.Call.TheVariants as call
use Rattle.transact.specs.Calls.{asked_of, call_keys}
use Rattle.transact.specs.Submits.{asked_for}
use Rattle.transact.specs.Tables.{AreThere, Became, stays, touches}
use Rattle.shards.specs.declared.shard.Shard.{Shard}
use Rattle.shards.specs.Rooms.{IsRoomyAt}
use Rattle.shards.specs.Shards.{logs_of, shard_meaning, weigh}
use Rattle.engine.specs.Calls.{IsUndone, promises_of}
use Rattle.engine.specs.Entering.{came_to, given}
use Rattle.transact.specs.declared.call.Answer.TheVariants as answer
use Rattle.engine.specs.Entering.{command_done, doing_call}
use Rattle.engine.specs.Passes.{know}
use Rattle.engine.specs.Stops.{fault_of}
use Rattle.engine.proofs.Ones.{done_names, done_touches}
use Rattle.engine.proofs.Parts.{there_after}
use Rattle.engine.proofs.Stopped.{cold_in, full_in, full_then, memory_in, put_stopped}
use Rattle.engine.proofs.Entering.{WasCommitted, counted, done_by, fit_installed, fit_kept, fit_undone, given_still, heard_stop, named_held, parts_of, placed, reply_due, stands, told_stop, was_worn}
use Rattle.engine.proofs.Hearing.{lacking_then}
use Rattle.engine.proofs.one.enter_put.Goals as goal

pub reserve_freeing-requires-clause-may : goal.reserve_freeing-requires-clause-may
reserve_freeing-requires-clause-may g c = record {
  may = record {
    can_lend = c.requires.begin.may.is_open;
    there = subst (λ (l : List Bytes). AreThere (held_stripes c.args.held.now) (parts_of g.R.Shows.is_steady c.args.held.now) l) (done_names c.args.asks.now.does c.args.asks.now.key.now c.args.asks.now.value.now) c.requires.begin.may.there;
  };
  light = c.requires.light;
}

pub told_of-requires : goal.told_of-requires
told_of-requires g c = record { never_cold = cold_in c.in-Err.halt.stop _ _ _ _ c.in-Err.ensures.halted }

pub returns-in-Err-clause-entered : goal.returns-in-Err-clause-entered
returns-in-Err-clause-entered g c =
    let s : Type 0 = g.R.Shows.is_steady in
    let start : Held (Shard _) = c.args.held.now in
    let mid : Held (Shard _) = c.reserve_freeing.new.parts in
    let same = c.reserve_freeing.ensures.held.kept in
    let command : Command = command_done c.args.asks.now in
    let f0 : ℕ = g.D.Device.failures c.args.device.now in
    let f1 : ℕ = g.D.Device.failures c.reserve_freeing.new.device in
    let P : Fault → Report → Type 0 = λ f r. IsUndone (promises_of s g.R.Shows.lends (held_stripes start)) [] (asked_of (call.One command)) f (know (known_to start) f0) (know (given false r (known_to mid)) f1) in
    record {
      back =
          given_still s c.told_of.result.report start mid c.reserve_freeing.ensures.held.open_still
          (subst (λ (r : Report). IsToldOf (shard_meaning s) (held_taken mid) (held_parts mid) r) (sym c.told_of.ensures.report)
          (told_stop s (held_parts start) (held_parts mid) (held_taken mid) c.in-Err.halt.stop c.in-Err.halt.refused
          (subst (λ (l : List (ℕ × (ℕ × Shard _))). AreAsTaken l (held_parts start)) (sym same.taken) c.requires.begin.lent) (full_then c.in-Err.halt.stop _ _ (λ stripe stuck. (stuck.full, stuck.spent)) c.in-Err.ensures.full)))
          (ap (λ (g : Bor (Gates (Shard _))). g.now) same.gates) same.pass
          (fit_kept s (held_stripes start) start mid same c.requires.begin.may.fit c.reserve_freeing.ensures.became);
      answered = record {
        done = tt;
        undone =
            subst (λ (f : Fault). P f c.told_of.result.report) (sym c.told_of.ensures.fault)
            (subst (λ (r : Report). P (fault_of c.in-Err.halt.stop) r) (sym c.told_of.ensures.report)
            (put_stopped (promises_of s g.R.Shows.lends (held_stripes start)) command c.args.asks.now.key.now (option_copied c.args.value) c.args.reply.now c.in-Err.halt.stop c.in-Err.halt.refused (known_to start) (known_to mid) f0 f1
            (done_touches c.args.asks.now.does c.args.asks.now.key.now c.args.asks.now.value.now) same.known (cold_in c.in-Err.halt.stop _ _ _ _ c.in-Err.ensures.halted) (memory_in c.in-Err.halt.stop _ _ _ _ c.in-Err.ensures.halted (λ never. never))
            c.in-Err.ensures.failed (full_in c.in-Err.halt.stop _ _ _ _ c.in-Err.ensures.halted) c.requires.due));
      };
    }

pub returns-in-Err-clause-heard : goal.returns-in-Err-clause-heard
returns-in-Err-clause-heard g c =
    heard_stop c.in-Err.halt.stop c.in-Err.halt.refused (came_to c.args.reply.now (Err c.told_of.result)) _ _ (ap answer.Fault c.told_of.ensures.fault) c.told_of.ensures.report c.reserve_freeing.ensures.retires.heard (full_then c.in-Err.halt.stop _ _ (λ stripe stuck. stuck.worn) c.in-Err.ensures.full)

pub commit-requires-clause-due : goal.commit-requires-clause-due
commit-requires-clause-due g c =
    let s : Type 0 = g.R.Shows.is_steady in
    let command : Command = command_done c.args.asks.now in
    let reply : Reply = c.args.reply.now in
    reply_due s c.args.held.now c.reserve_freeing.new.parts (asked.Run command) reply ((c.args.asks.now.key.now, option_copied c.args.value) ∷ []) c.reserve_freeing.ensures.held.kept
    c.requires.due

pub commit-requires-clause-keys : goal.commit-requires-clause-keys
commit-requires-clause-keys g c =
    let s : Type 0 = g.R.Shows.is_steady in
    named_held s (held_stripes c.args.held.now) c.args.held.now c.reserve_freeing.new.parts (doing_call c.args.asks.now) c.reserve_freeing.ensures.held.kept refl (done_touches c.args.asks.now.does c.args.asks.now.key.now c.args.asks.now.value.now) c.requires.begin.ends
    (there_after (held_stripes c.args.held.now) (call_keys (doing_call c.args.asks.now)) (parts_of s c.args.held.now) (parts_of s c.reserve_freeing.new.parts) c.reserve_freeing.ensures.became.there c.requires.begin.may.there)

pub commit-requires-clause-place : goal.commit-requires-clause-place
commit-requires-clause-place g c =
    subst (λ (k : Knowledge). HasPlace (operation_of k.watched (asked_for (doing_call c.args.asks.now)))) (sym c.reserve_freeing.ensures.held.kept.known)
    (placed (doing_call c.args.asks.now) (known_to c.args.held.now).watched (done_touches c.args.asks.now.does c.args.asks.now.key.now c.args.asks.now.value.now) c.requires.begin.place)

pub install_looked_up-requires-clause-room : goal.install_looked_up-requires-clause-room
install_looked_up-requires-clause-room g c =
    let s : Type 0 = g.R.Shows.is_steady in
    let start : Held (Shard _) = c.args.held.now in
    let done : Held (Shard _) = c.commit.new.self in
    let key : Bytes = c.args.asks.now.key.now in
    let w : Write = (key, option_copied c.args.value) in
    let count = counted s start done (c.commit.ensures.gates ∙ ap (λ (g : Bor (Gates (Shard _))). g.now) c.reserve_freeing.ensures.held.kept.gates) in
    subst (λ (m : ℕ). IsRoomyAt (logs_of (parts_of s done)) (stripe_of m key) (weigh w)) (sym count) (subst (λ (l : List (ℕ × Shard _)). IsRoomyAt (logs_of (part_at l)) (stripe_of (held_stripes start) key) (weigh w)) (sym c.commit.ensures.parts) c.in_default.ensures.room)

pub returns-in-Ok-clause-entered : goal.returns-in-Ok-clause-entered
returns-in-Ok-clause-entered g c =
    let s : Type 0 = g.R.Shows.is_steady in
    let n : ℕ = (held_stripes c.args.held.now) in
    let start : Held (Shard _) = c.args.held.now in
    let mid : Held (Shard _) = c.reserve_freeing.new.parts in
    let done : Held (Shard _) = c.commit.new.self in
    let last : Held (Shard _) = c.install_looked_up.new.parts in
    let same = c.reserve_freeing.ensures.held.kept in
    let command : Command = command_done c.args.asks.now in
    let reply : Reply = c.args.reply.now in
    let w : Write = (c.args.asks.now.key.now, option_copied c.args.value) in
    let f0 : ℕ = g.D.Device.failures c.args.device.now in
    let f1 : ℕ = g.D.Device.failures c.reserve_freeing.new.device in
    let count = counted s start done (c.commit.ensures.gates ∙ ap (λ (g : Bor (Gates (Shard _))). g.now) same.gates) in
    let did : WasCommitted s c.in-Ok.field-0 (asked.Run command) reply mid done = c.in-Ok.ensures.ok in
    let installed = subst (λ (m : ℕ). Became (shard_meaning s) m (w ∷ []) (touches (w ∷ [])) (parts_of s done) (parts_of s last)) count c.install_looked_up.ensures.became in
    let reserved : Became (shard_meaning s) n [] stays (parts_of s start) (parts_of s done) =
    subst (λ (l : List (ℕ × Shard _)). Became (shard_meaning s) n [] stays (parts_of s start) (part_at l)) (sym c.commit.ensures.parts) c.reserve_freeing.ensures.became in
    record {
      back =
          given_still s Nothing start last c.install_looked_up.ensures.held.open_still tt
          (ap (λ (g : Bor (Gates (Shard _))). g.now) c.install_looked_up.ensures.held.kept.gates ∙ c.commit.ensures.gates ∙ ap (λ (g : Bor (Gates (Shard _))). g.now) same.gates)
          (c.install_looked_up.ensures.held.kept.pass ∙ c.commit.ensures.pass ∙ same.pass)
          (fit_installed s n (known_to start).number c.in-Ok.field-0 (asked.Run command) reply start mid done last refl refl
          (λ t. c.writes_install_a_command.ensures n (known_to start).number command (known_to start).seen (known_to start).watched reply (w ∷ [])
          (parts_of s start) (parts_of s done) (parts_of s last)
          (c.requires.due t)
          (stands s n (known_to start).number start refl c.requires.begin.may.fit t) reserved installed)
          c.requires.begin.may.fit same c.reserve_freeing.ensures.became.there c.commit.ensures.taken did c.install_looked_up.ensures.held.kept);
      answered = record {
        done =
            done_by (call.One command) reply _ c.in-Ok.field-0 _ (known_to start) (known_to mid) (known_to done) (known_to last) f0 f1
            (done_touches c.args.asks.now.does c.args.asks.now.key.now c.args.asks.now.value.now) same.known c.install_looked_up.ensures.held.kept.known did c.in_default.ensures.failed;
        undone = tt;
      };
    }

pub returns-in-Err-commit-clause-entered : goal.returns-in-Err-commit-clause-entered
returns-in-Err-commit-clause-entered g c =
    let s : Type 0 = g.R.Shows.is_steady in
    let n : ℕ = (held_stripes c.args.held.now) in
    let start : Held (Shard _) = c.args.held.now in
    let mid : Held (Shard _) = c.reserve_freeing.new.parts in
    let last : Held (Shard _) = c.commit.new.self in
    let same = c.reserve_freeing.ensures.held.kept in
    let command : Command = command_done c.args.asks.now in
    let f0 : ℕ = g.D.Device.failures c.args.device.now in
    let f1 : ℕ = g.D.Device.failures c.reserve_freeing.new.device in
    record {
      back =
          given_still s Nothing start last c.commit.ensures.open_still tt (c.commit.ensures.gates ∙ ap (λ (g : Bor (Gates (Shard _))). g.now) same.gates)
          (c.commit.ensures.pass ∙ same.pass)
          (fit_undone s n start mid last last same c.commit.ensures.taken c.in-Err-commit.ensures.worn (same_as_it last) c.requires.begin.may.fit
          (subst (λ (l : List (ℕ × Shard _)). Became (shard_meaning s) n [] stays (parts_of s start) (part_at l)) (sym c.commit.ensures.parts) c.reserve_freeing.ensures.became));
      answered = record {
        done = tt;
        undone =
            was_worn (promises_of s g.R.Shows.lends n) (call.One command) (known_to start) (known_to mid) (known_to last) (known_to last) (known_to last) f0 f1
            (done_touches c.args.asks.now.does c.args.asks.now.key.now c.args.asks.now.value.now) refl refl same.known c.in-Err-commit.ensures.worn c.in_default.ensures.failed;
      };
    }

pub returns-in-Err-clause-lacks : goal.returns-in-Err-clause-lacks
returns-in-Err-clause-lacks g c = lacking_then c.told_of.result.fault _ c.in-Err.ensures.lacks
