use Rattle.std.proofs.Common.{arith, ◌≡◌, ◌∙◌, ◌++◌, ℕ, List, [], Option, refl, sym, ap, subst}
use Rattle.words.specs.declared.reply.Fault.TheVariants as fault
use Rattle.words.specs.Store.{Bytes}
use Rattle.words.specs.History.{HasPlace, after}
use Rattle.words.specs.Session.{operation_of}
use Rattle.std.specs.Borrow.{Bor}
use Rattle.gates.specs.declared.gates.Gates.{Gates}
use Rattle.gates.specs.declared.held.Held.{Held}
use Rattle.gates.specs.declared.report.Report.{Report}
use Rattle.gates.specs.declared.report.Report.TheVariants.{Nothing}
use Rattle.gates.specs.declared.view.Knowledge.{Knowledge}
use Rattle.gates.specs.Background.{IsToldOf, notes_of}
use Rattle.gates.specs.Sets.{part_at}
use Rattle.gates.specs.Helds.{held_stripes, number_of, held_parts, held_taken, known_to}
use Rattle.transact.specs.declared.call.Answer.TheVariants as answer
use Rattle.shards.specs.declared.shard.Shard.{Shard}
use Rattle.shards.specs.Rooms.{AreRoomy}
use Rattle.shards.specs.Shards.{logs_of, shard_meaning}
use Rattle.transact.specs.Calls.{asked_of, call_keys}
use Rattle.transact.specs.Plans.{keys_begun, keys_ended}
use Rattle.transact.specs.Submits.{asked_for}
use Rattle.transact.specs.Tables.{AreThere, Became, HasBegun, begins, stays}
use Rattle.engine.specs.Calls.{IsDone, IsUndone, promises_of}
use Rattle.engine.specs.Entering.{given}
use Rattle.engine.specs.Passes.{know}
use Rattle.engine.specs.Stops.{IsOfCall, fault_of, report_of}
use Rattle.gates.specs.Passes.{AreAsTaken}
use Rattle.engine.proofs.Parts.{ended_there, there_after}
use Rattle.engine.proofs.Memory.{asks_on}
use Rattle.engine.proofs.Values.{all_short}
use Rattle.engine.proofs.Stopped.{full_then, is_placed, memory_in, not_wanted}
use Rattle.engine.proofs.Entering.{became_by, counted, holder_same, marks_undone, asks, done_by, fit_installed, fit_kept, fit_undone, given_behind, given_still, heard_stop, heard_worn, may_still, named_held, no_reply, parts_of, of_call, placed, reply_due, seat_is, told_stop, stands, stopped_by, this_fault, was_worn}
use Rattle.engine.proofs.enter.enter_anew.Goals as goal

pub plan_freeing-requires-clause-may : goal.plan_freeing-requires-clause-may
plan_freeing-requires-clause-may g c = record {
  may = record { can_lend = c.requires.begin.may.is_open; there = c.requires.begin.may.there };
  entry = c.requires.planned.entry;
  place = is_placed c.args.call.now (known_to c.args.held.now).watched c.requires.begin.place;
}

pub refuse-requires-clause-may : goal.refuse-requires-clause-may
refuse-requires-clause-may g c =
    let s : Type 0 = g.R.Shows.is_steady in
    let same = c.plan_freeing.ensures.held.kept in
    may_still s c.args.call.now c.args.held.now c.plan_freeing.new.parts c.requires.begin.may c.plan_freeing.ensures.held.open_still (same.committed ∙ c.requires.begin.may.fresh)
    (ap (λ (g : Bor (Gates (Shard _))). g.now) same.gates) c.in-Err.ensures.marks.there
    (fit_kept s (held_stripes c.args.held.now) c.args.held.now c.plan_freeing.new.parts same c.requires.begin.may.fit c.in-Err.ensures.marks)

pub refuse-requires-clause-told : goal.refuse-requires-clause-told
refuse-requires-clause-told g c =
    let s : Type 0 = g.R.Shows.is_steady in
    let start : Held (Shard _) = c.args.held.now in
    let mid : Held (Shard _) = c.plan_freeing.new.parts in
    subst (λ (r : Report). IsToldOf (shard_meaning s) (held_taken mid) (held_parts mid) r) (sym c.told_of-fault.ensures.report)
    (told_stop s (held_parts start) (held_parts mid) (held_taken mid) c.in-Err.field-0.stop c.in-Err.field-0.refused
    (subst (λ (l : List (ℕ × (ℕ × Shard _))). AreAsTaken l (held_parts start)) (sym c.plan_freeing.ensures.held.kept.taken) c.requires.begin.lent) (full_then c.in-Err.field-0.stop _ _ (λ stripe stuck. (stuck.stuck.full, stuck.stuck.spent)) c.in-Err.ensures.full))

pub refuse-requires-clause-of_call : goal.refuse-requires-clause-of_call
refuse-requires-clause-of_call g c = subst IsOfCall (sym c.told_of-fault.ensures.report) (of_call c.in-Err.field-0.stop c.in-Err.field-0.refused)

pub returns-in_default : goal.returns-in_default
returns-in_default g c =
    record {
      hands = record { own = c.plan_freeing.ensures.works.retires.is; right = λ t. c.plan_freeing.ensures.works.right t (c.requires.hands.right t) };
      heard =
          heard_stop c.in-Err.field-0.stop c.in-Err.field-0.refused c.refuse.result _ _ (c.refuse.ensures.answer ∙ ap answer.Fault c.told_of-fault.ensures.fault) (c.refuse.ensures.report ∙ c.told_of-fault.ensures.report)
          c.plan_freeing.ensures.works.retires.heard (full_then c.in-Err.field-0.stop _ _ (λ stripe stuck. stuck.stuck.worn) c.in-Err.ensures.full);
      entered = record {
        back = given_behind g.R.Shows.is_steady c.refuse.result.ends c.refuse.result.report c.args.held.now c.plan_freeing.new.parts c.refuse.new.held
            (ap (λ (g : Bor (Gates (Shard _))). g.now) c.plan_freeing.ensures.held.kept.gates) c.plan_freeing.ensures.held.kept.pass c.refuse.ensures.back;
        answered = record {
          done = no_reply c.refuse.result.answer c.told_of-fault.result.fault _ c.refuse.ensures.answer;
          undone =
              let s : Type 0 = g.R.Shows.is_steady in
              let start : Held (Shard _) = c.args.held.now in
              let mid : Held (Shard _) = c.plan_freeing.new.parts in
              let ends = c.refuse.result.ends in
              let held : Held (Shard _) = c.refuse.new.held in
              let f0 : ℕ = g.D.Device.failures c.args.device.now in
              let f1 : ℕ = g.D.Device.failures c.plan_freeing.new.device in
              let last : Knowledge = given ends c.refuse.result.report (known_to held) in
              let seat : (number_of c.args.held.now) ≡ (known_to start).number = seat_is s start c.requires.begin.may.is_open in
              this_fault c.refuse.result.answer (fault_of c.in-Err.field-0.stop) (λ f. IsUndone (promises_of s g.R.Shows.lends (held_stripes c.args.held.now)) [] (asked_of c.args.call.now) f (know (known_to start) f0) (know last f1))
              (c.refuse.ensures.answer ∙ ap answer.Fault c.told_of-fault.ensures.fault)
              (stopped_by (promises_of s g.R.Shows.lends (held_stripes c.args.held.now)) c.args.call.now c.in-Err.field-0.stop c.in-Err.field-0.refused (known_to start) (known_to mid) last f0 f1 c.requires.planned.entry
              (ap (λ (r : Report). given ends r (known_to held)) (c.refuse.ensures.report ∙ c.told_of-fault.ensures.report)
              ∙ ap (λ (x : Knowledge). record x { notes = notes_of (report_of c.in-Err.field-0.stop c.in-Err.field-0.refused) ++ x.notes }) c.refuse.ensures.known)
              c.plan_freeing.ensures.held.kept.known c.told_of-fault.ensures.never_cold c.in-Err.ensures.failed
              (not_wanted (promises_of s g.R.Shows.lends (held_stripes c.args.held.now)) c.args.call.now c.in-Err.field-0.stop (after (known_to start).seen)
              (λ asks.
              let needs = asks_on s g.R.Shows.lends (held_stripes c.args.held.now) start c.args.call.now c.requires.begin.may.fit c.requires.begin.may.there c.requires.planned.other asks in
              memory_in c.in-Err.field-0.stop _ _ _ _ c.in-Err.ensures.halted (λ takes. takes (needs.0, c.requires.hands.right needs.0) needs.1 needs.2)))
              (full_then c.in-Err.field-0.stop _ _
              (λ stripe stuck t. stuck.written (t, c.requires.hands.right t) (known_to start).seen (operation_of (known_to start).watched (asked_for c.args.call.now)) (record {
                asked = asked_for c.args.call.now;
                watched = (known_to start).watched;
                short = all_short s (held_stripes c.args.held.now) start c.requires.begin.may.fit t (c.values_are_bounded.ensures (known_to start).seen (c.requires.begin.may.is_open.holding.seat.legal t));
                asks = asks c.args.call.now c.requires.planned.entry;
                stand = stands s (held_stripes c.args.held.now) (number_of c.args.held.now) start seat c.requires.begin.may.fit t;
                ends = c.requires.begin.ends;
                once = c.requires.begin.may.is_open.holding.seat.each_once;
                is = refl;
              }))
              c.in-Err.ensures.full));
        };
      };
      cold = tt;
      outside = tt;
    }

pub commit-requires-clause-place : goal.commit-requires-clause-place
commit-requires-clause-place g c =
    subst (λ (k : Knowledge). HasPlace (operation_of k.watched (asked_for c.args.call.now))) (sym c.plan_freeing.ensures.held.kept.known)
    (placed c.args.call.now (known_to c.args.held.now).watched c.requires.planned.entry c.requires.begin.place)

pub commit-requires-clause-due : goal.commit-requires-clause-due
commit-requires-clause-due g c =
    let s : Type 0 = g.R.Shows.is_steady in
    let start : Held (Shard _) = c.args.held.now in
    let seat : (number_of c.args.held.now) ≡ (known_to start).number = seat_is s start c.requires.begin.may.is_open in
    reply_due s start c.plan_freeing.new.parts (asked_for c.args.call.now) c.in-Ok.planned.reply c.in-Ok.planned.writes c.plan_freeing.ensures.held.kept
    (λ t. c.in-Ok.ensures.ready.due (t, c.requires.hands.right t) (known_to start).seen (operation_of (known_to start).watched (asked_for c.args.call.now)) (record {
      asked = asked_for c.args.call.now;
      watched = (known_to start).watched;
      short = all_short s (held_stripes c.args.held.now) start c.requires.begin.may.fit t (c.values_are_bounded.ensures (known_to start).seen (c.requires.begin.may.is_open.holding.seat.legal t));
      asks = asks c.args.call.now c.requires.planned.entry;
      stand = stands s (held_stripes c.args.held.now) (number_of c.args.held.now) start seat c.requires.begin.may.fit t;
      ends = c.requires.begin.ends;
      once = c.requires.begin.may.is_open.holding.seat.each_once;
      is = refl;
    }))

pub commit-requires-clause-keys : goal.commit-requires-clause-keys
commit-requires-clause-keys g c =
    named_held g.R.Shows.is_steady (held_stripes c.args.held.now) c.args.held.now c.plan_freeing.new.parts c.args.call.now c.plan_freeing.ensures.held.kept refl c.requires.planned.entry c.requires.begin.ends
    (there_after (held_stripes c.args.held.now) (call_keys c.args.call.now) (parts_of g.R.Shows.is_steady c.args.held.now) (parts_of g.R.Shows.is_steady c.plan_freeing.new.parts) c.in-Ok.ensures.marks.became.there c.requires.begin.may.there)

pub install-reply-requires-clause-room : goal.install-reply-requires-clause-room
install-reply-requires-clause-room g c =
    let s : Type 0 = g.R.Shows.is_steady in
    let count = counted s c.args.held.now c.commit.new.self (c.commit.ensures.gates ∙ ap (λ (g : Bor (Gates (Shard _))). g.now) c.plan_freeing.ensures.held.kept.gates) in
    subst (λ (m : ℕ). AreRoomy m (logs_of (parts_of s c.commit.new.self)) c.in-Ok.planned.writes) (sym count) (subst (λ (l : List (ℕ × Shard _)). AreRoomy (held_stripes c.args.held.now) (logs_of (part_at l)) c.in-Ok.planned.writes) (sym c.commit.ensures.parts) c.in-Ok.ensures.ready.room)

pub install-reply-requires-clause-there : goal.install-reply-requires-clause-there
install-reply-requires-clause-there g c =
    let s : Type 0 = g.R.Shows.is_steady in
    let n : ℕ = (held_stripes c.args.held.now) in
    let keys : List Bytes = keys_ended c.args.call.now in
    let count = counted s c.args.held.now c.commit.new.self (c.commit.ensures.gates ∙ ap (λ (g : Bor (Gates (Shard _))). g.now) c.plan_freeing.ensures.held.kept.gates) in
    subst (λ (m : ℕ). AreThere m (parts_of s c.commit.new.self) keys) (sym count) (subst (λ (l : List (ℕ × Shard _)). AreThere n (part_at l) keys) (sym c.commit.ensures.parts)
    (there_after n keys (parts_of s c.args.held.now) (parts_of s c.plan_freeing.new.parts) c.in-Ok.ensures.marks.became.there (ended_there n (parts_of s c.args.held.now) c.args.call.now c.requires.begin.may.there)))

pub undo-requires-clause-there : goal.undo-requires-clause-there
undo-requires-clause-there g c =
    let s : Type 0 = g.R.Shows.is_steady in
    let n : ℕ = (held_stripes c.args.held.now) in
    let keys : List Bytes = c.in-Ok.planned.begun in
    let count = counted s c.args.held.now c.commit.new.self (c.commit.ensures.gates ∙ ap (λ (g : Bor (Gates (Shard _))). g.now) c.plan_freeing.ensures.held.kept.gates) in
    subst (λ (m : ℕ). AreThere m (parts_of s c.commit.new.self) keys) (sym count) (subst (λ (l : List (ℕ × Shard _)). AreThere n (part_at l) keys) (sym c.commit.ensures.parts)
    (there_after n keys (parts_of s c.args.held.now) (parts_of s c.plan_freeing.new.parts) c.in-Ok.ensures.marks.became.there c.in-Ok.ensures.marks.begun.there))

-- the marks that were begun are taken back
undone : {R : Type 0} (steady : Type 0) (n seat : ℕ) (keys : List Bytes) (before mid : ℕ → Option (Shard R)) (held done : List (ℕ × Shard R)) (last : ℕ → Option (Shard R)) → done ≡ held → mid ≡ part_at held
    → HasBegun (shard_meaning steady) n seat keys before mid
    → ((start : ℕ → Option (Shard R)) → HasBegun (shard_meaning steady) n seat keys start (part_at done) → Became (shard_meaning steady) n [] stays start last) → Became (shard_meaning steady) n [] stays before last
undone {R} steady n seat keys before mid held done last same is has taken =
    taken before (subst (λ (l : List (ℕ × Shard R)). HasBegun (shard_meaning steady) n seat keys before (part_at l)) (sym same) (subst (HasBegun (shard_meaning steady) n seat keys before) is has))

pub refuse-requires-in-Err-commit-clause-may : goal.refuse-requires-in-Err-commit-clause-may
refuse-requires-in-Err-commit-clause-may g c =
    let s : Type 0 = g.R.Shows.is_steady in
    let n : ℕ = (held_stripes c.args.held.now) in
    let start : Held (Shard _) = c.args.held.now in
    let mid : Held (Shard _) = c.plan_freeing.new.parts in
    let told : Held (Shard _) = c.commit.new.self in
    let last : Held (Shard _) = c.undo.new.parts in
    let count = counted s c.args.held.now c.commit.new.self (c.commit.ensures.gates ∙ ap (λ (g : Bor (Gates (Shard _))). g.now) c.plan_freeing.ensures.held.kept.gates) in
    let holder = holder_same s c.args.held.now told c.requires.begin.may.is_open c.commit.ensures.open_still (c.in-Err-commit.ensures.worn.number ∙ ap (λ (k : Knowledge). k.number) c.plan_freeing.ensures.held.kept.known) in
    let back = marks_undone s _ n _ (number_of start) c.in-Ok.planned.begun (parts_of s told) (parts_of s last) count holder c.undo.ensures.undone in
    let became : Became (shard_meaning s) n [] stays (parts_of s start) (parts_of s last) =
    undone s n (number_of start) c.in-Ok.planned.begun (parts_of s start) (parts_of s mid) (held_parts mid) (held_parts told) (parts_of s last) c.commit.ensures.parts refl c.in-Ok.ensures.marks.begun back in
    may_still s c.args.call.now start last c.requires.begin.may c.undo.ensures.held.open_still (c.undo.ensures.held.kept.committed ∙ c.in-Err-commit.ensures.none)
    (ap (λ (g : Bor (Gates (Shard _))). g.now) c.undo.ensures.held.kept.gates ∙ c.commit.ensures.gates ∙ ap (λ (g : Bor (Gates (Shard _))). g.now) c.plan_freeing.ensures.held.kept.gates)
    became.there (fit_undone s n start mid told last c.plan_freeing.ensures.held.kept c.commit.ensures.taken c.in-Err-commit.ensures.worn c.undo.ensures.held.kept c.requires.begin.may.fit became)

pub returns-in-Cold-clause-cold : goal.returns-in-Cold-clause-cold
returns-in-Cold-clause-cold g c =
    let s : Type 0 = g.R.Shows.is_steady in
    let same = c.plan_freeing.ensures.held.kept in
    let cold = rw c.in-Cold.is at c.in-Err.ensures.halted in
    record {
      back = given_still s Nothing c.args.held.now c.plan_freeing.new.parts c.plan_freeing.ensures.held.open_still tt (ap (λ (g : Bor (Gates (Shard _))). g.now) same.gates) same.pass
          (fit_kept s (held_stripes c.args.held.now) c.args.held.now c.plan_freeing.new.parts same c.requires.begin.may.fit c.in-Err.ensures.marks);
      known = same.known;
      unlent = cold.1;
      planned = c.requires.planned;
      no_fault = let failed = rw c.in-Cold.is at c.in-Err.ensures.failed in omega (arith, failed);
    }

pub returns-in-Cold-clause-outside : goal.returns-in-Cold-clause-outside
returns-in-Cold-clause-outside g c = (rw c.in-Cold.is at c.in-Err.ensures.halted).0

pub returns-in-Ok-commit-clause-entered : goal.returns-in-Ok-commit-clause-entered
returns-in-Ok-commit-clause-entered g c = record {
  back =
      let s : Type 0 = g.R.Shows.is_steady in
      let n : ℕ = (held_stripes c.args.held.now) in
      let start : Held (Shard _) = c.args.held.now in
      let mid : Held (Shard _) = c.plan_freeing.new.parts in
      let last : Held (Shard _) = c.install-reply.new.parts in
      let same = c.plan_freeing.ensures.held.kept in
      let seat : (number_of c.args.held.now) ≡ (known_to start).number = seat_is s start c.requires.begin.may.is_open in
      let begun : Became (shard_meaning s) n [] (begins (number_of c.args.held.now) (keys_begun c.args.call.now)) (parts_of s start) (parts_of s c.commit.new.self) =
      subst (λ (l : List (ℕ × Shard _)). Became (shard_meaning s) n [] (begins (number_of c.args.held.now) (keys_begun c.args.call.now)) (parts_of s start) (part_at l)) (sym c.commit.ensures.parts) c.in-Ok.ensures.marks.became in
      let count = counted s c.args.held.now c.commit.new.self (c.commit.ensures.gates ∙ ap (λ (g : Bor (Gates (Shard _))). g.now) c.plan_freeing.ensures.held.kept.gates) in
      let holder = holder_same s c.args.held.now c.commit.new.self c.requires.begin.may.is_open c.commit.ensures.open_still (c.in-Ok-commit.ensures.ok.number ∙ ap (λ (k : Knowledge). k.number) same.known) in
      let installed = became_by s _ n _ (number_of start) c.in-Ok.planned.writes (keys_ended c.args.call.now) (parts_of s c.commit.new.self) (parts_of s last) count holder c.install-reply.ensures.became in
      given_still s Nothing start last c.install-reply.ensures.held.open_still tt
      (ap (λ (g : Bor (Gates (Shard _))). g.now) c.install-reply.ensures.held.kept.gates ∙ c.commit.ensures.gates ∙ ap (λ (g : Bor (Gates (Shard _))). g.now) same.gates)
      (c.install-reply.ensures.held.kept.pass ∙ c.commit.ensures.pass ∙ same.pass)
      (fit_installed s n (number_of c.args.held.now) c.in-Ok-commit.field-0 (asked_for c.args.call.now) c.in-Ok.planned.reply start mid c.commit.new.self last refl seat
      (λ t.
      let stand = stands s n (number_of c.args.held.now) start seat c.requires.begin.may.fit t in
      let ask = asks c.args.call.now c.requires.planned.entry in
      c.writes_install_a_call.ensures n (number_of c.args.held.now) c.args.call.now (asked_for c.args.call.now) (known_to start).seen (known_to start).watched c.in-Ok.planned.reply c.in-Ok.planned.writes
      (parts_of s start) (parts_of s c.commit.new.self) (parts_of s last) ask c.requires.begin.ends
      (c.in-Ok.ensures.ready.due (t, c.requires.hands.right t) (known_to start).seen (operation_of (known_to start).watched (asked_for c.args.call.now)) (record {
        asked = asked_for c.args.call.now;
        watched = (known_to start).watched;
        short = all_short s (held_stripes c.args.held.now) start c.requires.begin.may.fit t (c.values_are_bounded.ensures (known_to start).seen (c.requires.begin.may.is_open.holding.seat.legal t));
        asks = asks c.args.call.now c.requires.planned.entry;
        stand = stands s (held_stripes c.args.held.now) (number_of c.args.held.now) start seat c.requires.begin.may.fit t;
        ends = c.requires.begin.ends;
        once = c.requires.begin.may.is_open.holding.seat.each_once;
        is = refl;
      }))
      stand begun installed)
      c.requires.begin.may.fit same c.in-Ok.ensures.marks.became.there c.commit.ensures.taken c.in-Ok-commit.ensures.ok c.install-reply.ensures.held.kept);
  answered = record {
    done =
        let f0 : ℕ = g.D.Device.failures c.args.device.now in
        let f1 : ℕ = g.D.Device.failures c.plan_freeing.new.device in
        subst (λ r. IsDone [] (asked_of c.args.call.now) r (know (known_to c.args.held.now) f0) (know (known_to c.install-reply.new.parts) f1)) (sym c.install-reply.ensures.reply)
        (done_by c.args.call.now c.in-Ok.planned.reply _ c.in-Ok-commit.field-0 _ (known_to c.args.held.now) (known_to c.plan_freeing.new.parts) (known_to c.commit.new.self) (known_to c.install-reply.new.parts) f0 f1
        c.requires.planned.entry c.plan_freeing.ensures.held.kept.known c.install-reply.ensures.held.kept.known c.in-Ok-commit.ensures.ok c.in-Ok.ensures.failed);
    undone =
        tt;
  };
}

pub returns-in-Ok-commit-clause-hands : goal.returns-in-Ok-commit-clause-hands
returns-in-Ok-commit-clause-hands g c = record {
  own = c.plan_freeing.ensures.works.retires.is;
  right = λ t. c.plan_freeing.ensures.works.right t (c.requires.hands.right t);
}

pub returns-in-Err-commit-clause-entered : goal.returns-in-Err-commit-clause-entered
returns-in-Err-commit-clause-entered g c = record {
  back =
      given_behind g.R.Shows.is_steady c.refuse-in-Err-commit.result.ends c.refuse-in-Err-commit.result.report c.args.held.now c.undo.new.parts c.refuse-in-Err-commit.new.held
      (ap (λ (g : Bor (Gates (Shard _))). g.now) c.undo.ensures.held.kept.gates ∙ c.commit.ensures.gates ∙ ap (λ (g : Bor (Gates (Shard _))). g.now) c.plan_freeing.ensures.held.kept.gates)
      (c.undo.ensures.held.kept.pass ∙ c.commit.ensures.pass ∙ c.plan_freeing.ensures.held.kept.pass) c.refuse-in-Err-commit.ensures.back;
  answered = record {
    done =
        no_reply c.refuse-in-Err-commit.result.answer fault.CommitsWornOut _ c.refuse-in-Err-commit.ensures.answer;
    undone =
        let s : Type 0 = g.R.Shows.is_steady in
        let start : Knowledge = known_to c.args.held.now in
        let ends = c.refuse-in-Err-commit.result.ends in
        let held : Held (Shard _) = c.refuse-in-Err-commit.new.held in
        let last : Knowledge = given ends c.refuse-in-Err-commit.result.report (known_to held) in
        let f0 : ℕ = g.D.Device.failures c.args.device.now in
        let f1 : ℕ = g.D.Device.failures c.plan_freeing.new.device in
        this_fault c.refuse-in-Err-commit.result.answer fault.CommitsWornOut (λ f. IsUndone (promises_of s g.R.Shows.lends (held_stripes c.args.held.now)) [] (asked_of c.args.call.now) f (know start f0) (know last f1))
        c.refuse-in-Err-commit.ensures.answer
        (was_worn (promises_of s g.R.Shows.lends (held_stripes c.args.held.now)) c.args.call.now start (known_to c.plan_freeing.new.parts) (known_to c.commit.new.self) (known_to c.undo.new.parts) last f0 f1 c.requires.planned.entry
        (ap (λ (r : Report). given ends r (known_to held)) c.refuse-in-Err-commit.ensures.report ∙ c.refuse-in-Err-commit.ensures.known)
        c.undo.ensures.held.kept.known c.plan_freeing.ensures.held.kept.known c.in-Err-commit.ensures.worn c.in-Ok.ensures.failed);
  };
}

pub returns-in-Err-commit-clause-hands : goal.returns-in-Err-commit-clause-hands
returns-in-Err-commit-clause-hands g c = record {
  own = c.plan_freeing.ensures.works.retires.is;
  right = λ t. c.plan_freeing.ensures.works.right t (c.requires.hands.right t);
}

pub returns-in-Cold-clause-hands : goal.returns-in-Cold-clause-hands
returns-in-Cold-clause-hands g c = record {
  own = c.plan_freeing.ensures.works.retires.is;
  right = λ t. c.plan_freeing.ensures.works.right t (c.requires.hands.right t);
}

pub returns-in-Err-commit-clause-heard : goal.returns-in-Err-commit-clause-heard
returns-in-Err-commit-clause-heard g c = heard_worn c.refuse-in-Err-commit.result _ _ c.refuse-in-Err-commit.ensures.answer c.refuse-in-Err-commit.ensures.report c.plan_freeing.ensures.works.retires.heard
