use Rattle.std.proofs.Common.{◌≡◌, ◌∙◌, ℕ, [], ◌∷◌, Option, refl, sym, ap, subst}
use Rattle.std.specs.Borrow.{Bor}
use Rattle.words.specs.declared.command.Command.TheVariants.{Get}
use Rattle.words.specs.declared.reply.Reply.{Reply}
use Rattle.words.specs.Session.{value_reply}
use Rattle.words.specs.Session as asked
use Rattle.gates.specs.declared.gates.Gates.{Gates}
use Rattle.gates.specs.declared.held.Held.{Held}
use Rattle.gates.specs.declared.report.Report.TheVariants.{Nothing}
use Rattle.gates.specs.Sets.{part_at}
use Rattle.gates.specs.Helds.{held_stripes, known_to, same_as_it}
use Rattle.shards.specs.declared.shard.Shard.{Shard}
use Rattle.shards.specs.Shards.{shard_meaning}
use Rattle.transact.specs.Tables.{AreThere}
use Rattle.words.specs.declared.reply.Fault.{Fault}
use Rattle.words.specs.History.{after}
use Rattle.transact.specs.Calls.{asked_of}
use Rattle.engine.specs.Calls.{IsUndone, promises_of}
use Rattle.engine.specs.Passes.{know}
use Rattle.engine.proofs.Memory.{asks_on}
use Rattle.engine.proofs.Stopped.{full_in, memory_in, not_wanted, stopped_quietly}
use Rattle.engine.specs.Memory.{get_call}
use Rattle.engine.specs.Stops.{TellsFull}
use Rattle.transact.specs.declared.call.Answer.TheVariants as answer
use Rattle.engine.proofs.Hearing.{never_full}
use Rattle.engine.proofs.Parts.{became_same, unwritten}
use Rattle.engine.proofs.Entering.{done_by, fit_installed, fit_kept, fit_undone, given_still, named_held, parts_of, reply_due, stands, was_worn}
use Rattle.engine.proofs.get.enter_get.Goals as goal

pub value_staged-requires : goal.value_staged-requires
value_staged-requires g c = record { may = record { can_lend = c.requires.may.is_open; there = c.requires.may.there } }

pub returns-in-Err-clause-back : goal.returns-in-Err-clause-back
returns-in-Err-clause-back g c =
    let s : Type 0 = g.R.Shows.is_steady in
    let same = c.value_staged.ensures.held.kept in
    given_still s Nothing c.args.held.now c.value_staged.new.parts c.value_staged.ensures.held.open_still tt (ap (λ (g : Bor (Gates (Shard _))). g.now) same.gates) same.pass
    (fit_kept s (held_stripes c.args.held.now) c.args.held.now c.value_staged.new.parts same c.requires.may.fit
    (became_same (held_stripes c.args.held.now) (shard_meaning s) (parts_of s c.args.held.now) (parts_of s c.value_staged.new.parts) c.value_staged.ensures.same))

pub commit-requires-clause-due : goal.commit-requires-clause-due
commit-requires-clause-due g c =
    let s : Type 0 = g.R.Shows.is_steady in
    reply_due s c.args.held.now c.value_staged.new.parts (asked.Run (Get c.args.key.now)) (value_reply c.in-Ok.value) [] c.value_staged.ensures.held.kept
    (λ t. c.in-Ok.ensures.value.due (t, c.requires.right t)
    (known_to c.args.held.now).seen (stands s (held_stripes c.args.held.now) (known_to c.args.held.now).number c.args.held.now refl c.requires.may.fit t).read)

pub commit-requires-clause-keys : goal.commit-requires-clause-keys
commit-requires-clause-keys g c =
    named_held g.R.Shows.is_steady (held_stripes c.args.held.now) c.args.held.now c.value_staged.new.parts (get_call c.args.key.now) c.value_staged.ensures.held.kept refl refl tt
    (subst (λ (p : ℕ → Option (Shard _)). AreThere (held_stripes c.args.held.now) p (c.args.key.now ∷ [])) (sym c.value_staged.ensures.same) c.requires.may.there)

pub returns-in-Ok-commit-clause-back : goal.returns-in-Ok-commit-clause-back
returns-in-Ok-commit-clause-back g c =
    let s : Type 0 = g.R.Shows.is_steady in
    let n : ℕ = (held_stripes c.args.held.now) in
    let start : Held (Shard _) = c.args.held.now in
    let mid : Held (Shard _) = c.value_staged.new.parts in
    let last : Held (Shard _) = c.commit.new.self in
    let own : ℕ = (known_to start).number in
    let said : Reply = value_reply c.in-Ok.value in
    let unchanged : parts_of s last ≡ parts_of s start = ap part_at c.commit.ensures.parts ∙ c.value_staged.ensures.same in
    given_still s Nothing start last c.commit.ensures.open_still tt (c.commit.ensures.gates ∙ ap (λ (g : Bor (Gates (Shard _))). g.now) c.value_staged.ensures.held.kept.gates)
    (c.commit.ensures.pass ∙ c.value_staged.ensures.held.kept.pass)
    (fit_installed s n own c.in-Ok-commit.field-0 (asked.Run (Get c.args.key.now)) said start mid last last refl refl
    (λ t.
    let stand = stands s n own start refl c.requires.may.fit t in
    c.writes_install_a_command.ensures n own (Get c.args.key.now) (known_to start).seen (known_to start).watched said [] (parts_of s start) (parts_of s last) (parts_of s last)
    (c.in-Ok.ensures.value.due (t, c.requires.right t)
    (known_to start).seen stand.read) stand (became_same n (shard_meaning s) (parts_of s start) (parts_of s last) unchanged) (unwritten n (shard_meaning s) (parts_of s last)))
    c.requires.may.fit c.value_staged.ensures.held.kept
    (became_same n (shard_meaning s) (parts_of s start) (parts_of s mid) c.value_staged.ensures.same).there
    c.commit.ensures.taken c.in-Ok-commit.ensures.ok (same_as_it last))

pub returns-in-Ok-commit-clause-answered : goal.returns-in-Ok-commit-clause-answered
returns-in-Ok-commit-clause-answered g c = record {
  done =
      done_by (get_call c.args.key.now) (value_reply c.in-Ok.value) _ c.in-Ok-commit.field-0 _ (known_to c.args.held.now) (known_to c.value_staged.new.parts) (known_to c.commit.new.self) (known_to c.commit.new.self)
      (g.D.Device.failures c.args.device.now) (g.D.Device.failures c.value_staged.new.device) refl c.value_staged.ensures.held.kept.known refl c.in-Ok-commit.ensures.ok c.in-Ok.ensures.failed;
  undone = tt;
}

pub returns-in-Err-commit-clause-back : goal.returns-in-Err-commit-clause-back
returns-in-Err-commit-clause-back g c =
    let s : Type 0 = g.R.Shows.is_steady in
    let n : ℕ = (held_stripes c.args.held.now) in
    let start : Held (Shard _) = c.args.held.now in
    let last : Held (Shard _) = c.commit.new.self in
    given_still s Nothing start last c.commit.ensures.open_still tt (c.commit.ensures.gates ∙ ap (λ (g : Bor (Gates (Shard _))). g.now) c.value_staged.ensures.held.kept.gates)
    (c.commit.ensures.pass ∙ c.value_staged.ensures.held.kept.pass)
    (fit_undone s n start c.value_staged.new.parts last last c.value_staged.ensures.held.kept c.commit.ensures.taken c.in-Err-commit.ensures.worn (same_as_it last) c.requires.may.fit
    (became_same n (shard_meaning s) (parts_of s start) (parts_of s last) (ap part_at c.commit.ensures.parts ∙ c.value_staged.ensures.same)))

pub returns-in-Err-commit-clause-answered : goal.returns-in-Err-commit-clause-answered
returns-in-Err-commit-clause-answered g c = record {
  done = tt;
  undone =
      was_worn (promises_of g.R.Shows.is_steady g.R.Shows.lends (held_stripes c.args.held.now)) (get_call c.args.key.now) (known_to c.args.held.now) (known_to c.value_staged.new.parts) (known_to c.commit.new.self) (known_to c.commit.new.self) (known_to c.commit.new.self)
      (g.D.Device.failures c.args.device.now) (g.D.Device.failures c.value_staged.new.device)
      refl refl refl c.value_staged.ensures.held.kept.known c.in-Err-commit.ensures.worn c.in-Ok.ensures.failed;
}

pub commit-requires-clause-place : goal.commit-requires-clause-place
commit-requires-clause-place g c = (refl, c.requires.place)

pub returns-in-Err-clause-answered : goal.returns-in-Err-clause-answered
returns-in-Err-clause-answered g c = record {
  done = tt;
  undone =
      let s : Type 0 = g.R.Shows.is_steady in
      let start : Held (Shard _) = c.args.held.now in
      let mid : Held (Shard _) = c.value_staged.new.parts in
      let f0 : ℕ = g.D.Device.failures c.args.device.now in
      let f1 : ℕ = g.D.Device.failures c.value_staged.new.device in
      subst (λ (f : Fault). IsUndone (promises_of s g.R.Shows.lends (held_stripes c.args.held.now)) [] (asked_of (get_call c.args.key.now)) f (know (known_to start) f0) (know (known_to mid) f1)) (sym c.told_of.ensures.fault)
      (stopped_quietly (promises_of s g.R.Shows.lends (held_stripes c.args.held.now)) (get_call c.args.key.now) c.in-Err.stop (known_to start) (known_to mid) f0 f1 refl refl c.value_staged.ensures.held.kept.known
      c.told_of.ensures.never_cold (full_in c.in-Err.stop _ _ _ _ c.in-Err.ensures.stopped) c.in-Err.ensures.failed
      (not_wanted (promises_of s g.R.Shows.lends (held_stripes c.args.held.now)) (get_call c.args.key.now) c.in-Err.stop (after (known_to start).seen)
      (λ asks.
      let needs = asks_on s g.R.Shows.lends (held_stripes c.args.held.now) start (get_call c.args.key.now) c.requires.may.fit c.requires.may.there (λ key value is. absurd (cc is)) asks in
      memory_in c.in-Err.stop _ _ _ _ c.in-Err.ensures.stopped (λ takes. takes (needs.0, c.requires.right needs.0) needs.1 needs.2))));
}

pub returns-in-Err-Cold-clause-back : goal.returns-in-Err-Cold-clause-back
returns-in-Err-Cold-clause-back g c =
    let s : Type 0 = g.R.Shows.is_steady in
    let same = c.value_staged.ensures.held.kept in
    given_still s Nothing c.args.held.now c.value_staged.new.parts c.value_staged.ensures.held.open_still tt (ap (λ (g : Bor (Gates (Shard _))). g.now) same.gates) same.pass
    (fit_kept s (held_stripes c.args.held.now) c.args.held.now c.value_staged.new.parts same c.requires.may.fit
    (became_same (held_stripes c.args.held.now) (shard_meaning s) (parts_of s c.args.held.now) (parts_of s c.value_staged.new.parts) c.value_staged.ensures.same))

pub returns-in-Err-Cold-clause-cold : goal.returns-in-Err-Cold-clause-cold
returns-in-Err-Cold-clause-cold g c =
    let s : Type 0 = g.R.Shows.is_steady in
    let same = c.value_staged.ensures.held.kept in
    let cold = rw c.in-Err-Cold.field-0-is at c.in-Err-Cold.ensures.stopped in
    record {
      back = given_still s Nothing c.args.held.now c.value_staged.new.parts c.value_staged.ensures.held.open_still tt (ap (λ (g : Bor (Gates (Shard _))). g.now) same.gates) same.pass
          (fit_kept s (held_stripes c.args.held.now) c.args.held.now c.value_staged.new.parts same c.requires.may.fit
          (became_same (held_stripes c.args.held.now) (shard_meaning s) (parts_of s c.args.held.now) (parts_of s c.value_staged.new.parts) c.value_staged.ensures.same));
      known = same.known;
      unlent = cold.unlent;
      planned = record { entry = refl; other = λ key value is. absurd (cc is) };
      no_fault = ap g.D.Device.failures cold.device;
    }

pub returns-in-Err-Cold-clause-outside : goal.returns-in-Err-Cold-clause-outside
returns-in-Err-Cold-clause-outside g c = (rw c.in-Err-Cold.field-0-is at c.in-Err-Cold.ensures.stopped).unread

pub returns-in-Ok-commit-clause-right : goal.returns-in-Ok-commit-clause-right
returns-in-Ok-commit-clause-right g c = λ t. c.value_staged.ensures.right t (c.requires.right t)

pub returns-in-Err-commit-clause-right : goal.returns-in-Err-commit-clause-right
returns-in-Err-commit-clause-right g c = λ t. c.value_staged.ensures.right t (c.requires.right t)

pub returns-in-Err-clause-right : goal.returns-in-Err-clause-right
returns-in-Err-clause-right g c = λ t. c.value_staged.ensures.right t (c.requires.right t)

pub returns-in-Err-Cold-clause-right : goal.returns-in-Err-Cold-clause-right
returns-in-Err-Cold-clause-right g c = λ t. c.value_staged.ensures.right t (c.requires.right t)

pub returns-in-Err-clause-full : goal.returns-in-Err-clause-full
returns-in-Err-clause-full g c =
    subst (λ (f : Fault). TellsFull (answer.Fault f) Nothing) (sym c.told_of.ensures.fault) (never_full c.in-Err.stop (full_in c.in-Err.stop _ _ _ _ c.in-Err.ensures.stopped))
