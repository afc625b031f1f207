-- What a pass told of a full stripe, and what its seat of the epochs was told.
use Rattle.std.proofs.Common.{◌≡◌, ◌∙◌, ℕ, suc, List, [], ◌∷◌, ◌++◌, length, append_assoc, Option, Some, None, refl, sym, ap, subst, arith}
use Rattle.std.proofs.lemmas.List.{length-append}
use Rattle.epoch.specs.declared.view.View.{View}
use Rattle.epoch.specs.declared.view.Note as epoch
use Rattle.epoch.specs.declared.view.Note.TheVariants as epoch_note
use Rattle.epoch.specs.declared.epochs.EpochSeat.{EpochSeat}
use Rattle.epoch.specs.Seats.{KnowsTheSame, known}
use Rattle.words.specs.declared.reply.Reply.{Reply}
use Rattle.words.specs.declared.reply.Fault.{Fault}
use Rattle.words.specs.declared.reply.Fault.TheVariants as fault
use Rattle.words.specs.Session.{Asked}
use Rattle.gates.specs.declared.view.Knowledge.{Knowledge}
use Rattle.gates.specs.declared.view.Refused.{Refused}
use Rattle.gates.specs.declared.view.Note.{Note}
use Rattle.gates.specs.declared.view.Note.TheVariants.{Busy, Worn, Full, Idle, Done, Seen}
use Rattle.gates.specs.declared.report.Report.{Report}
use Rattle.gates.specs.declared.report.Report.TheVariants as report
use Rattle.gates.specs.Background.{notes_of}
use Rattle.gates.specs.Passes.{AreBusy, Learned, ToldBusy, WasBusy}
use Rattle.transact.specs.declared.call.Answer.{Answer}
use Rattle.transact.specs.declared.call.Answer.TheVariants as answer
use Rattle.transact.specs.declared.call.Call.{Call}
use Rattle.transact.specs.Calls.{asked_of}
use Rattle.transact.specs.Submits.{IfFault, IfReply}
use Rattle.shards.specs.Heard.{HasHeard, HasHeardWorn}
use Rattle.plans.specs.declared.hands.Hands.{Hands}
use Rattle.plans.specs.declared.stop.Stop.{Stop}
use Rattle.plans.specs.declared.stop.Stop.TheVariants as stop
use Rattle.plans.specs.Stops.{IfFull}
use Rattle.engine.specs.declared.enter.Entered.{Entered}
use Rattle.engine.specs.Answers.{IsAnswered}
use Rattle.engine.specs.Calls.{IsDone, IsUndone, Promises}
use Rattle.engine.specs.Entering.{given}
use Rattle.engine.specs.Passes.{Known, OfSeats, know}
use Rattle.engine.specs.Stops.{HasHeardFor, HasHeardWith, IfLacking, IfSpent, IsWornBy, TellsFull, fault_of}
use Rattle.engine.proofs.Later.{told_both}
use Rattle.engine.proofs.Entering.{heard_nothing}

-- a list is not a part of its own tail
not_longer : {A : Type 0} (x : A) (more was : List A) → was ≡ x ∷ (more ++ was) → ⊥
not_longer x more was is =
    let lengths : length was ≡ suc (length (more ++ was)) = ap length is in
    omega (arith, lengths, length-append more was)

head_same : {A : Type 0} (x y : A) (xs ys : List A) → x ∷ xs ≡ y ∷ ys → x ≡ y
head_same x y xs ys is = cc is

-- of a pass that was told of busy stripes alone, the last note does not say that one is full
busy_not_full : (stripes : List ℕ) (busy was more : List Note) (stripe : ℕ) (refused : Refused) → AreBusy stripes busy → busy ++ was ≡ Full stripe refused ∷ (more ++ was) → ⊥
busy_not_full stripes [] was more stripe refused are is = not_longer (Full stripe refused) more was is
busy_not_full stripes (Busy other ∷ busy) was more stripe refused are is = absurd (cc is)
busy_not_full stripes (Worn ∷ busy) was more stripe refused are is = are
busy_not_full stripes (Full other told ∷ busy) was more stripe refused are is = are
busy_not_full stripes (Idle other work ∷ busy) was more stripe refused are is = are
busy_not_full stripes (Done other work ∷ busy) was more stripe refused are is = are
busy_not_full stripes (Seen other look ∷ busy) was more stripe refused are is = are

-- what a seat was told, and then
pub heard_both : (one two three : View) → HasHeard one two → HasHeard two three → HasHeard one three
heard_both one two three first second = record {
  more = second.more ++ first.more;
  notes = second.notes ∙ ap (λ (l : List epoch.Note). second.more ++ l) first.notes ∙ sym (append_assoc second.more first.more one.notes);
}

worn_behind : (one two three : View) → HasHeard one two → HasHeardWorn two three → HasHeardWorn one three
worn_behind one two three first second = record {
  more = second.more ++ first.more;
  notes = second.notes ∙ ap (λ (l : List epoch.Note). epoch_note.Worn ∷ (second.more ++ l)) first.notes ∙ ap (λ (l : List epoch.Note). epoch_note.Worn ∷ l) (sym (append_assoc second.more first.more one.notes));
}

-- a pass that was told of busy stripes alone
pub heard_waiting : (stripes : List ℕ) (was now : Knowledge) (before later : View) → ToldBusy stripes was now → HasHeard before later → HasHeardWith was now before later
heard_waiting stripes was now before later busy heard = record {
  told = (busy.0, busy.1);
  heard = heard;
  worn = λ stripe refused more notes. absurd (busy_not_full stripes busy.0 was.notes more stripe refused busy.2 (sym busy.1 ∙ notes));
}

-- where the last note says that a stripe is full, it came after those of busy stripes
full_behind : (stripes : List ℕ) (told busy now mid was more : List Note) (stripe : ℕ) (refused : Refused) → AreBusy stripes busy → mid ≡ busy ++ was → now ≡ told ++ mid → now ≡ Full stripe refused ∷ (more ++ was)
    → (rest : List Note) × (now ≡ Full stripe refused ∷ (rest ++ mid))
full_behind stripes [] busy now mid was more stripe refused are behind is full = absurd (busy_not_full stripes busy was more stripe refused are (sym behind ∙ sym is ∙ full))
full_behind stripes (note ∷ told) busy now mid was more stripe refused are behind is full =
    (told, is ∙ ap (λ (n : Note). n ∷ (told ++ mid)) (head_same note (Full stripe refused) (told ++ mid) (more ++ was) (sym is ∙ full)))

-- the same of a pass that was told of busy stripes before
pub heard_after : (stripes : List ℕ) (was mid now : Knowledge) (before between later : View) → ToldBusy stripes was mid → HasHeard before between → HasHeardWith mid now between later → HasHeardWith was now before later
heard_after stripes was mid now before between later busy heard with = record {
  told = (with.told.0 ++ busy.0, with.told.1 ∙ ap (λ (l : List Note). with.told.0 ++ l) busy.1 ∙ sym (append_assoc with.told.0 busy.0 was.notes));
  heard = heard_both before between later heard with.heard;
  worn = λ stripe refused more notes retire.
      let full = full_behind stripes with.told.0 busy.0 now.notes mid.notes was.notes more stripe refused busy.2 busy.1 with.told.1 notes in
      worn_behind before between later heard (with.worn stripe refused full.0 full.1 retire);
}

-- what a pass was told whose call was answered
told_done : (asked : Option Asked) (reply : Reply) (was now : Known) → IsDone [] asked reply was now → (more : List Note) × (now.notes ≡ more ++ was.notes) × AreBusy [] more
told_done None reply was now done = (done.told, done.notes, done.busy)
told_done (Some asked) reply was now done = (done.told, done.notes, done.busy)

told_undone : (promises : Promises) (asked : Option Asked) (f : Fault) (was now : Known) → IsUndone promises [] asked f was now → (more : List Note) × (now.notes ≡ more ++ was.notes)
told_undone promises None f was now undone = absurd undone
told_undone promises (Some asked) f was now undone = (undone.told, undone.notes)

told_answered : (promises : Promises) (a : Answer) (asked : Option Asked) (was now : Known) → IfReply a (λ reply. IsDone [] asked reply was now) → IfFault a (λ f. IsUndone promises [] asked f was now)
    → (more : List Note) × (now.notes ≡ more ++ was.notes)
told_answered promises (answer.Reply reply) asked was now done undone =
    let told = told_done asked reply was now done in
    (told.0, told.1)
told_answered promises (answer.Fault f) asked was now done undone = told_undone promises asked f was now undone

-- a call that is not answered that the store is full was told of no full stripe last
none_undone : (promises : Promises) (asked : Option Asked) (f : Fault) (was now : Known) (stripe : ℕ) (refused : Refused) (more : List Note) → IsUndone promises [] asked f was now
    → TellsFull (answer.Fault f) report.Nothing → now.notes ≡ Full stripe refused ∷ (more ++ was.notes) → ⊥
none_undone promises None f was now stripe refused more undone tells notes = absurd undone
none_undone promises (Some asked) fault.OutOfMemory was now stripe refused more undone tells notes =
    busy_not_full [] undone.told was.notes more stripe refused undone.cause.2 (sym undone.notes ∙ notes)
none_undone promises (Some asked) fault.DeviceFault was now stripe refused more undone tells notes =
    busy_not_full [] undone.told was.notes more stripe refused undone.cause.1 (sym undone.notes ∙ notes)
none_undone promises (Some asked) fault.StoreFull was now stripe refused more undone tells notes = tells
none_undone promises (Some asked) fault.CommitsWornOut was now stripe refused more undone tells notes =
    let worn : now.notes ≡ Worn ∷ (undone.cause.0 ++ was.notes) = undone.notes ∙ ap (λ (l : List Note). l ++ was.notes) undone.cause.1 in
    absurd (cc (sym worn ∙ notes))

none_told : (promises : Promises) (a : Answer) (asked : Option Asked) (was now : Known) (stripe : ℕ) (refused : Refused) (more : List Note) → IfReply a (λ reply. IsDone [] asked reply was now)
    → IfFault a (λ f. IsUndone promises [] asked f was now) → TellsFull a report.Nothing → now.notes ≡ Full stripe refused ∷ (more ++ was.notes) → ⊥
none_told promises (answer.Reply reply) asked was now stripe refused more done undone tells notes =
    let told = told_done asked reply was now done in
    busy_not_full [] told.0 was.notes more stripe refused told.2 (sym told.1 ∙ notes)
none_told promises (answer.Fault f) asked was now stripe refused more done undone tells notes = none_undone promises asked f was now stripe refused more undone tells notes

full_same : (one two : ℕ) (refused other : Refused) → Full one refused ≡ Full two other → refused ≡ other
full_same one two refused other is = cc is

-- the report of a call that was answered, and the last note of its pass
worn_given : (promises : Promises) (a : Answer) (told : Report) (asked : Option Asked) (was now : Known) (noted : List Note) (before later : View) (stripe : ℕ) (refused : Refused) (more : List Note)
    → IfReply a (λ reply. IsDone [] asked reply was now) → IfFault a (λ f. IsUndone promises [] asked f was now) → now.notes ≡ notes_of told ++ noted
    → IfSpent told (IsWornBy before later) → TellsFull a told → now.notes ≡ Full stripe refused ∷ (more ++ was.notes) → IsWornBy before later refused
worn_given promises a report.Nothing asked was now noted before later stripe refused more done undone is worn tells notes = absurd (none_told promises a asked was now stripe refused more done undone tells notes)
worn_given promises a (report.Full other said) asked was now noted before later stripe refused more done undone is worn tells notes =
    subst (IsWornBy before later) (full_same other stripe said refused (head_same (Full other said) (Full stripe refused) noted (more ++ was.notes) (sym is ∙ notes))) worn
worn_given promises a (report.Idle other work) asked was now noted before later stripe refused more done undone is worn tells notes = absurd (cc (sym is ∙ notes))
worn_given promises a (report.Done other work) asked was now noted before later stripe refused more done undone is worn tells notes = absurd (cc (sym is ∙ notes))
worn_given promises a (report.Seen other look) asked was now noted before later stripe refused more done undone is worn tells notes = absurd (cc (sym is ∙ notes))

-- A call was entered and answered, and its stripes are given back.
pub heard_given : {A : Type 0} (says : A → Answer) (entered : Entered A) (promises : Promises) (call : Call) (was last : Knowledge) (f0 f1 : ℕ) (before later : View) → HasHeardFor says entered before later
    → IsAnswered promises [] call (says entered.answer) (know was f0) (know (given entered.ends entered.report last) f1) → HasHeardWith was (given entered.ends entered.report last) before later
heard_given says entered promises call was last f0 f1 before later heard answered = record {
  told = told_answered promises (says entered.answer) (asked_of call) (know was f0) (know (given entered.ends entered.report last) f1) answered.done answered.undone;
  heard = heard.heard;
  worn = λ stripe refused more notes.
      worn_given promises (says entered.answer) entered.report (asked_of call) (know was f0) (know (given entered.ends entered.report last) f1) last.notes before later stripe refused more answered.done answered.undone refl heard.worn heard.full notes;
}

-- the seats of hands that are there
pub some_hands : {R : Type 0} (a b : Hands R EpochSeat) → Some a ≡ Some b → a ≡ b
some_hands a b e = cc e

pub seats_heard : {R : Type 0} (was now : Knowledge) (had has : Option (Hands R EpochSeat)) (own last : Hands R EpochSeat) → had ≡ Some own → has ≡ Some last → HasHeardWith was now (known own.own) (known last.own) → OfSeats (HasHeardWith was now) had has
seats_heard {R} was now had has own last is ends heard = λ before later one two.
    subst (λ (h : Hands R EpochSeat). HasHeardWith was now (known before.own) (known h.own)) (some_hands last later (sym ends ∙ two))
    (subst (λ (h : Hands R EpochSeat). HasHeardWith was now (known h.own) (known last.own)) (some_hands own before (sym is ∙ one)) heard)

-- a seat that stays as it is
pub seats_kept : {R : Type 0} (was now : Knowledge) (hands : Option (Hands R EpochSeat)) → ((view : View) → HasHeardWith was now view view) → OfSeats (HasHeardWith was now) hands hands
seats_kept {R} was now hands heard = λ before later one two.
    subst (λ (h : Hands R EpochSeat). HasHeardWith was now (known before.own) (known h.own)) (some_hands before later (sym one ∙ two)) (heard (known before.own))

-- of a pass that was told of busy stripes alone, and then so
pub seats_after : {R : Type 0} (stripes : List ℕ) (was mid now : Knowledge) (had has : Option (Hands R EpochSeat)) → ToldBusy stripes was mid → OfSeats (HasHeardWith mid now) had has → OfSeats (HasHeardWith was now) had has
seats_after stripes was mid now had has told heard = λ before later one two.
    heard_after stripes was mid now (known before.own) (known before.own) (known later.own) told (heard_nothing (known before.own)) (heard before later one two)

-- a pass that found a stripe busy, and a seat that was told nothing
pub heard_busy : (stripe : ℕ) (was now : Knowledge) (view : View) → WasBusy stripe was now → HasHeardWith was now view view
heard_busy stripe was now view busy = record {
  told = (Busy stripe ∷ [], busy.notes);
  heard = heard_nothing view;
  worn = λ full refused more notes. absurd (cc (sym busy.notes ∙ notes));
}

-- a seat that was told the same
pub heard_same : (one two three : View) → HasHeard one two → KnowsTheSame two three → HasHeard one three
heard_same one two three heard same = record { more = heard.more; notes = same.notes ∙ heard.notes }

pub with_same : (was now : Knowledge) (before between later : View) → HasHeardWith was now before between → KnowsTheSame between later → HasHeardWith was now before later
with_same was now before between later with same = record {
  told = with.told;
  heard = heard_same before between later with.heard same;
  worn = λ stripe refused more notes retire.
      let worn = with.worn stripe refused more notes retire in
      record { more = worn.more; notes = same.notes ∙ worn.notes };
}

-- a plan that met no full stripe
pub never_full : {R : Type 0} (s : Stop R) → IfFull s (λ stripe. ⊥) → TellsFull (answer.Fault (fault_of s)) report.Nothing
never_full stop.OutOfMemory never = tt
never_full stop.DeviceFault never = tt
never_full (stop.StoreFull stripe) never = never
never_full (stop.Cold receipts) never = tt

-- what a pass was told that took its stripes once more
pub told_again : (stripes : List ℕ) (before mid outside taken : Knowledge) → ToldBusy stripes before mid → Learned outside taken → ToldBusy stripes outside taken → outside ≡ mid → ToldBusy stripes before taken
told_again stripes before mid outside taken told learned again same = told_both stripes before mid taken told (subst (λ (k : Knowledge). ToldBusy stripes k taken) same again)

-- a fault that says that room was lacking
pub lacking_then : (f : Fault) (P : Type 0) → P → IfLacking f P
lacking_then fault.OutOfMemory P lacks = tt
lacking_then fault.DeviceFault P lacks = lacks
lacking_then fault.StoreFull P lacks = lacks
lacking_then fault.CommitsWornOut P lacks = tt
