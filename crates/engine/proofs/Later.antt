-- Calls that give their stripes back and take them again.
use Rattle.std.proofs.Common.{false, Option, Some, ◌≡◌, ◌∙◌, ◌+◌, ℕ, List, [], ◌∷◌, ◌++◌, append_assoc, refl, sym, ap, subst}
use Rattle.hybrid.specs.HybridLog.{Kept}
use Rattle.plans.specs.Reading.{ServesEach}
use Rattle.words.specs.History.{History, after}
use Rattle.words.specs.Store.{Bytes, Store}
use Rattle.words.specs.declared.reply.Fault.{Fault}
use Rattle.gates.specs.declared.view.Knowledge.{Knowledge}
use Rattle.gates.specs.declared.view.Note.{Note}
use Rattle.gates.specs.Passes.{Learned, ToldBusy}
use Rattle.transact.specs.declared.call.Answer.{Answer}
use Rattle.transact.specs.declared.call.Answer.TheVariants as answer
use Rattle.transact.specs.declared.call.Call.{Call}
use Rattle.transact.specs.Calls.{asked_of}
use Rattle.transact.specs.Plans.{IsEntry}
use Rattle.transact.specs.Submits.{asked_for}
use Rattle.plans.specs.declared.stop.Stop.{Stop}
use Rattle.plans.specs.declared.stop.Stop.TheVariants as stop
use Rattle.plans.specs.Stops.{IfCold, IfFull, faults}
use Rattle.engine.specs.Calls.{IsUndone, Promises}
use Rattle.engine.specs.Entering.{at_fault}
use Rattle.engine.specs.Answers.{IsAnswered}
use Rattle.engine.specs.Memory.{AsksNoMemory, set_call}
use Rattle.epoch.specs.declared.epochs.Epochs.{Epochs}
use Rattle.epoch.specs.declared.epochs.EpochSeat.{EpochSeat}
use Rattle.plans.specs.declared.hands.Hands.{Hands}
use Rattle.engine.specs.Passes.{AreFree, HasHands, Known, know}
use Rattle.engine.specs.Stops.{fault_of}
use Rattle.words.specs.History.{Pair}
use Rattle.gates.specs.declared.gates.Gates.{Gates}
use Rattle.gates.specs.declared.gates.Pass.{Pass}
use Rattle.gates.specs.Passes.{IsResting, known}
use Rattle.shards.specs.declared.shard.Shard.{Shard}
use Rattle.transact.specs.Plans.{EndsAll}
use Rattle.engine.specs.Calls.{HasItsPlace}
use Rattle.engine.specs.Entering.{HasWaited, MaySubmit}
use Rattle.engine.proofs.Behind.{answered_later, busy_both, undone_behind}
use Rattle.engine.proofs.Entering.{stopped_by}
use Rattle.engine.proofs.Memory.{needs_near}

-- what a pass learned, and then learned again
pub learned_both : (one two three : Knowledge) → Learned one two → Learned two three → Learned one three
learned_both one two three first second = record {
  number = second.number ∙ first.number;
  mine = second.mine ∙ first.mine;
  seen = (second.seen.0 ++ first.seen.0, second.seen.1 ∙ ap (λ (h : History). second.seen.0 ++ h) first.seen.1 ∙ sym (append_assoc second.seen.0 first.seen.0 one.seen));
  notes = (second.notes.0 ++ first.notes.0, second.notes.1 ∙ ap (λ (h : List Note). second.notes.0 ++ h) first.notes.1 ∙ sym (append_assoc second.notes.0 first.notes.0 one.notes));
  watched = second.watched ∙ first.watched;
}

pub learned_none : (one : Knowledge) → Learned one one
learned_none one = record { number = refl; mine = refl; seen = ([], refl); notes = ([], refl); watched = refl }

-- and what it was told of stripes that others held
pub told_both : (stripes : List ℕ) (one two three : Knowledge) → ToldBusy stripes one two → ToldBusy stripes two three → ToldBusy stripes one three
told_both stripes one two three first second = (
  second.0 ++ first.0,
  second.1 ∙ ap (λ (h : List Note). second.0 ++ h) first.1 ∙ sym (append_assoc second.0 first.0 one.notes),
  busy_both stripes second.0 first.0 second.2 first.2,
)

pub told_none : (stripes : List ℕ) (one : Knowledge) → ToldBusy stripes one one
told_none stripes one = ([], refl, tt)

-- pages that a call wanted could not be read
pub read_stopped : {R : Type 0} (promises : Promises) (call : Call) (s : Stop R) (taken last : Knowledge) (f0 f1 : ℕ) → IsEntry call → last ≡ at_fault (asked_for call) taken
    → IfCold s (λ receipts. ⊥) → IfFull s (λ stripe. ⊥) → f1 ≡ f0 + faults s → ¬ AsksNoMemory (promises.steady × promises.lends) (after taken.seen) (asked_for call)
    → IsUndone promises [] (asked_of call) (fault_of s) (know taken f0) (know last f1)
read_stopped {R} promises call stop.OutOfMemory taken last f0 f1 entry is cold full failures wants =
    stopped_by {R = R} promises call stop.OutOfMemory (record { retire = false; drain = false }) taken taken last f0 f1 entry is refl cold failures wants tt
read_stopped {R} promises call stop.DeviceFault taken last f0 f1 entry is cold full failures wants =
    stopped_by {R = R} promises call stop.DeviceFault (record { retire = false; drain = false }) taken taken last f0 f1 entry is refl cold failures tt tt
read_stopped promises call (stop.StoreFull stripe) taken last f0 f1 entry is cold full failures wants = absurd full
read_stopped promises call (stop.Cold receipts) taken last f0 f1 entry is cold full failures wants = absurd cold

-- a device that serves each receipt serves these
pub serves_all : {D R : Type 0} (serves : D → R → Type 0) (identity : R → List ℕ) (device : D) (receipts : List Kept) → ((r : R) → serves device r) → ServesEach serves identity device receipts
serves_all serves identity device [] all = tt
serves_all serves identity device (kept ∷ receipts) all = (λ r named. all r, serves_all serves identity device receipts all)

-- a call that wants pages which no receipt lends may want memory
wants_memory : (promises : Promises) (store : Store) (call : Call) → ((key value : Bytes) → call ≡ set_call key value → ⊥) → (promises.lends → ⊥)
    → ¬ AsksNoMemory (promises.steady × promises.lends) store (asked_for call)
wants_memory promises store call other unlent = λ asks. unlent (needs_near (promises.steady × promises.lends) store call other asks).0.1

-- Pages that a call wanted could not be read outside. Then its stripes were taken once more.
pub failed_outside : {R : Type 0} (promises : Promises) (call : Call) (wanted : List ℕ) (s : Stop R) (before mid outside taken last : Knowledge) (f0 f1 : ℕ) → IsEntry call
    → ((key value : Bytes) → call ≡ set_call key value → ⊥) → (promises.lends → ⊥) → Learned before mid → ToldBusy wanted before mid → outside ≡ mid
    → Learned outside taken → ToldBusy wanted outside taken → last ≡ at_fault (asked_for call) taken
    → IfCold s (λ receipts. ⊥) → IfFull s (λ stripe. ⊥) → f1 ≡ f0 + faults s → IsUndone promises wanted (asked_of call) (fault_of s) (know before f0) (know last f1)
failed_outside {R} promises call wanted s before mid outside taken last f0 f1 entry other unlent learned told same again heard is cold full failures =
    undone_behind wanted before taken f0 (know last f1)
    (learned_both before mid taken learned (subst (λ (k : Knowledge). Learned k taken) same again))
    (told_both wanted before mid taken told (subst (λ (k : Knowledge). ToldBusy wanted k taken) same heard))
    promises (asked_of call) (fault_of s)
    (read_stopped promises call s taken last f0 f1 entry is cold full failures (wants_memory promises (after taken.seen) call other unlent))

-- a call that is answered by this fault
pub this_failed : (promises : Promises) (stripes : List ℕ) (call : Call) (a : Answer) (fault : Fault) (was now : Known) → a ≡ answer.Fault fault
    → IsUndone promises stripes (asked_of call) fault was now → IsAnswered promises stripes call a was now
this_failed promises stripes call a fault was now is undone =
    subst (λ (x : Answer). IsAnswered promises stripes call x was now) (sym is) (record { done = tt; undone = undone })

-- what a pass learned while it waited twice
pub waited_both : (stripes : List ℕ) (one two three : Knowledge × ℕ) → HasWaited stripes one two → HasWaited stripes two three → HasWaited stripes one three
waited_both stripes one two three first second = record {
  learned = learned_both one.0 two.0 three.0 first.learned second.learned;
  told = told_both stripes one.0 two.0 three.0 first.told second.told;
  no_fault = second.no_fault ∙ first.no_fault;
}

pub waited_none : (stripes : List ℕ) (one : Knowledge × ℕ) → HasWaited stripes one one
waited_none stripes one = record { learned = learned_none one.0; told = told_none stripes one.0; no_fault = refl }

-- a pass that waited may submit its call still
pub may_submit_still : {R : Type 0} (steady : Type 0) (gates : Gates (Shard R)) (call : Call) (one two : Pass (Shard R)) (f0 f1 : ℕ) (stripes : List ℕ) → MaySubmit steady gates call one
    → IsResting steady gates two → HasWaited stripes (known one, f0) (known two, f1) → MaySubmit steady gates call two
may_submit_still steady gates call one two f0 f1 stripes may rests waited = record {
  rests = rests;
  place = subst (λ (w : List Pair). HasItsPlace w (asked_of call)) (sym waited.learned.watched) may.place;
  ends = subst (λ (w : List Pair). EndsAll call w) (sym waited.learned.watched) may.ends;
}

-- a call that was answered after it waited was answered so from before that
pub answered_waited : (promises : Promises) (stripes : List ℕ) (call : Call) (a : Answer) (before later : Knowledge × ℕ) (now : Known) → HasWaited stripes before later
    → IsAnswered promises stripes call a (know later.0 later.1) now → IsAnswered promises stripes call a (know before.0 before.1) now
answered_waited promises stripes call a before later now waited answered =
    answered_later stripes before.0 later.0 before.1 now waited.learned waited.told promises a call
    (subst (λ (f : ℕ). IsAnswered promises stripes call a (know later.0 f) now) waited.no_fault answered)

some_hands : {R : Type 0} (a b : Hands R EpochSeat) → Some a ≡ Some b → a ≡ b
some_hands a b e = cc e

-- the hands of a pass that has some
pub free_of : {R : Type 0} (epochs : Epochs) (hands : Option (Hands R EpochSeat)) (own : Hands R EpochSeat) → Some own ≡ hands → HasHands epochs hands → AreFree epochs own
free_of epochs hands own is has = subst (AreFree epochs) (some_hands has.0 own (sym has.1 ∙ sym is)) has.2
