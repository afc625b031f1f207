-- What calls come to, from where their stripes are taken and from before that.
use Rattle.std.proofs.Common.{◌≡◌, ◌<◌, subst, ◌∙◌, ℕ, List, [], ◌∷◌, ◌++◌, length, append_assoc, Option, Some, None, sym, ap, arith}
use Rattle.words.specs.declared.history.Entry.{Entry}
use Rattle.words.specs.declared.reply.Reply.{Reply}
use Rattle.words.specs.declared.reply.Fault.{Fault}
use Rattle.words.specs.declared.reply.Fault.TheVariants as fault
use Rattle.words.specs.History.{History, Pair}
use Rattle.words.specs.Watches.{watched_after}
use Rattle.transact.specs.Plans.{made}
use Rattle.shards.specs.Rooms.{share}
use Rattle.words.specs.Session.{Asked, operation_of, watched_at_fault}
use Rattle.gates.specs.declared.view.Knowledge.{Knowledge}
use Rattle.gates.specs.declared.view.Note.{Note}
use Rattle.gates.specs.declared.view.Note.TheVariants.{Busy, Worn, Full, Idle, Done, Seen}
use Rattle.gates.specs.Passes.{AreBusy, Learned, ToldBusy}
use Rattle.transact.specs.declared.call.Answer.{Answer}
use Rattle.transact.specs.declared.call.Answer.TheVariants as answer
use Rattle.transact.specs.declared.call.Call.{Call}
use Rattle.transact.specs.Calls.{asked_of}
use Rattle.transact.specs.Submits.{IfReply, IfFault}
use Rattle.engine.specs.Answers.{IsAnswered}
use Rattle.engine.specs.Calls.{IsCause, IsDone, IsUndone, Did, DidNot, Forgot, Promises, entry_of, promises_of}
use Rattle.engine.specs.Passes.{Known, know}

-- notes of busy stripes among none are among any
any_busy : (stripes : List ℕ) (told : List Note) → AreBusy [] told → AreBusy stripes told
any_busy stripes [] busy = tt
any_busy stripes (Busy stripe ∷ told) busy = absurd (omega (arith, busy.0))
any_busy stripes (Worn ∷ told) busy = absurd busy
any_busy stripes (Full stripe refused ∷ told) busy = absurd busy
any_busy stripes (Idle stripe work ∷ told) busy = absurd busy
any_busy stripes (Done stripe work ∷ told) busy = absurd busy
any_busy stripes (Seen stripe look ∷ told) busy = absurd busy

-- notes of busy stripes, behind others
pub busy_both : (stripes : List ℕ) (one two : List Note) → AreBusy stripes one → AreBusy stripes two → AreBusy stripes (one ++ two)
busy_both stripes [] two first second = second
busy_both stripes (Busy stripe ∷ one) two first second = (first.0, busy_both stripes one two first.1 second)
busy_both stripes (Worn ∷ one) two first second = absurd first
busy_both stripes (Full stripe refused ∷ one) two first second = absurd first
busy_both stripes (Idle stripe work ∷ one) two first second = absurd first
busy_both stripes (Done stripe work ∷ one) two first second = absurd first
busy_both stripes (Seen stripe look ∷ one) two first second = absurd first

-- the same, whichever way it is answered
pub answered_counted : (steady lends : Type 0) (n count : ℕ) → n ≡ count → (a : Answer) (call : Call) (was now : Known)
    → IsAnswered (promises_of steady lends n) [] call a was now → IsAnswered (promises_of steady lends count) [] call a was now
answered_counted steady lends n count same a call was now answered =
    subst (λ (m : ℕ). IsAnswered (promises_of steady lends m) [] call a was now) same answered

-- what a call came to that was told of no stripe that it was busy
module _ (stripes : List ℕ) where
  any_cause : (promises : Promises) (fault : Fault) (asked : Asked) (was now : Known) (told : List Note) → IsCause promises fault [] asked was now told → IsCause promises fault stripes asked was now told
  any_cause promises fault.OutOfMemory asked was now told cause = (cause.0, cause.1, any_busy stripes told cause.2)
  any_cause promises fault.DeviceFault asked was now told cause = (cause.0, any_busy stripes told cause.1)
  any_cause promises fault.StoreFull asked was now told cause = record { stripe = cause.stripe; refused = cause.refused; earlier = cause.earlier; full = cause.full; busy = any_busy stripes cause.earlier cause.busy; writes = cause.writes; failures = cause.failures }
  any_cause promises fault.CommitsWornOut asked was now told cause = (cause.0, cause.1, cause.2, any_busy stripes cause.0 cause.3)

  any_done : (asked : Option Asked) (reply : Reply) (was now : Known) → IsDone [] asked reply was now → IsDone stripes asked reply was now
  any_done None reply was now done = record { others = done.others; number = done.number; seen = done.seen; mine = done.mine; watched = done.watched; told = done.told; notes = done.notes; busy = any_busy stripes done.told done.busy; failures = done.failures }
  any_done (Some asked) reply was now done = record { others = done.others; number = done.number; seen = done.seen; mine = done.mine; watched = done.watched; told = done.told; notes = done.notes; busy = any_busy stripes done.told done.busy; failures = done.failures }

  any_undone : (promises : Promises) (asked : Option Asked) (fault : Fault) (was now : Known) → IsUndone promises [] asked fault was now → IsUndone promises stripes asked fault was now
  any_undone promises None fault was now undone = absurd undone
  any_undone promises (Some asked) fault was now undone = record { others = undone.others; number = undone.number; seen = undone.seen; mine = undone.mine; watched = undone.watched; told = undone.told; notes = undone.notes; cause = any_cause promises fault asked was now undone.told undone.cause }

module _ (stripes : List ℕ) (was mid : Knowledge) (f : ℕ) (now : Known) (learned : Learned was mid) (heard : ToldBusy stripes was mid) where
  -- what is seen after, behind what was seen before
  seen_behind : (others : History) → others ++ mid.seen ≡ (others ++ learned.seen.0) ++ was.seen
  seen_behind others = ap (λ (h : History). others ++ h) learned.seen.1 ∙ sym (append_assoc others learned.seen.0 was.seen)

  notes_behind : (told : List Note) → now.notes ≡ told ++ mid.notes → now.notes ≡ (told ++ heard.0) ++ was.notes
  notes_behind told notes = notes ∙ ap (λ (l : List Note). told ++ l) heard.1 ∙ sym (append_assoc told heard.0 was.notes)

  did_behind : (asked : Asked) (reply : Reply) → Did stripes asked reply (know mid f) now → Did stripes asked reply (know was f) now
  did_behind asked reply did =
      let entry : ℕ → List Pair → Entry = λ (s : ℕ) (w : List Pair). record { session = s; operation = operation_of w asked; reply = reply } in
      let same : entry_of (know mid f) asked reply ≡ entry_of (know was f) asked reply = ap (λ (s : ℕ). entry s mid.watched) learned.number ∙ ap (λ (w : List Pair). entry was.number w) learned.watched in
      let all : did.others ++ mid.seen ≡ (did.others ++ learned.seen.0) ++ was.seen = seen_behind did.others in
      record {
        others = did.others ++ learned.seen.0;
        number = did.number ∙ learned.number;
        seen = did.seen ∙ ap (λ (e : Entry). e ∷ (did.others ++ mid.seen)) same ∙ ap (λ (h : History). entry_of (know was f) asked reply ∷ h) all;
        mine = did.mine ∙ ap (λ (e : Entry). (length (did.others ++ mid.seen), e) ∷ mid.mine) same
            ∙ ap (λ (h : History). (length h, entry_of (know was f) asked reply) ∷ mid.mine) all
            ∙ ap (λ m. (length ((did.others ++ learned.seen.0) ++ was.seen), entry_of (know was f) asked reply) ∷ m) learned.mine;
        watched = did.watched ∙ ap (λ (w : List Pair). watched_after w (operation_of w asked) (length (did.others ++ mid.seen))) learned.watched
            ∙ ap (λ (h : History). watched_after was.watched (operation_of was.watched asked) (length h)) all;
        told = did.told ++ heard.0;
        notes = notes_behind did.told did.notes;
        busy = busy_both stripes did.told heard.0 did.busy heard.2;
        failures = did.failures;
      }

  forgot_behind : Forgot stripes (know mid f) now → Forgot stripes (know was f) now
  forgot_behind forgot = record {
    others = forgot.others ++ learned.seen.0;
    number = forgot.number ∙ learned.number;
    seen = forgot.seen ∙ seen_behind forgot.others;
    mine = forgot.mine ∙ learned.mine;
    watched = forgot.watched;
    told = forgot.told ++ heard.0;
    notes = notes_behind forgot.told forgot.notes;
    busy = busy_both stripes forgot.told heard.0 forgot.busy heard.2;
    failures = forgot.failures;
  }

  cause_behind : (promises : Promises) (fault : Fault) (asked : Asked) (told : List Note) → IsCause promises fault stripes asked (know mid f) now told → IsCause promises fault stripes asked (know was f) now (told ++ heard.0)
  cause_behind promises fault.OutOfMemory asked told cause = (cause.0, cause.1, busy_both stripes told heard.0 cause.2 heard.2)
  cause_behind promises fault.DeviceFault asked told cause = (cause.0, busy_both stripes told heard.0 cause.1 heard.2)
  cause_behind promises fault.StoreFull asked told cause = record {
    stripe = cause.stripe;
    refused = cause.refused;
    earlier = cause.earlier ++ heard.0;
    full = ap (λ (l : List Note). l ++ heard.0) cause.full;
    busy = busy_both stripes cause.earlier heard.0 cause.busy heard.2;
    writes = subst (λ (w : List Pair). promises.steady → 0 < share promises.stripes cause.stripe (made now.seen (operation_of w asked))) learned.watched cause.writes;
    failures = cause.failures;
  }
  cause_behind promises fault.CommitsWornOut asked told cause =
      (cause.0 ++ heard.0, ap (λ (l : List Note). l ++ heard.0) cause.1, cause.2, busy_both stripes cause.0 heard.0 cause.3 heard.2)

  did_not_behind : (promises : Promises) (asked : Asked) (fault : Fault) → DidNot promises stripes asked fault (know mid f) now → DidNot promises stripes asked fault (know was f) now
  did_not_behind promises asked fault not = record {
    others = not.others ++ learned.seen.0;
    number = not.number ∙ learned.number;
    seen = not.seen ∙ seen_behind not.others;
    mine = not.mine ∙ learned.mine;
    watched = not.watched ∙ ap (λ (w : List Pair). watched_at_fault w asked) learned.watched;
    told = not.told ++ heard.0;
    notes = notes_behind not.told not.notes;
    cause = cause_behind promises fault asked not.told not.cause;
  }

  -- What is asked comes to the same from before as from later, where the pass learned and was told of busy stripes meanwhile.
  pub done_later : (asked : Option Asked) (reply : Reply) → IsDone stripes asked reply (know mid f) now → IsDone stripes asked reply (know was f) now
  done_later None reply done = forgot_behind done
  done_later (Some asked) reply done = did_behind asked reply done

  pub undone_later : (promises : Promises) (asked : Option Asked) (fault : Fault) → IsUndone promises stripes asked fault (know mid f) now → IsUndone promises stripes asked fault (know was f) now
  undone_later promises None fault undone = absurd undone
  undone_later promises (Some asked) fault undone = did_not_behind promises asked fault undone

  pub undone_behind : (promises : Promises) (asked : Option Asked) (fault : Fault) → IsUndone promises [] asked fault (know mid f) now → IsUndone promises stripes asked fault (know was f) now
  undone_behind promises asked fault undone = undone_later promises asked fault (any_undone stripes promises asked fault (know mid f) now undone)

  -- What a call came to from where its stripes were taken, it came to from before that.
  pub answer_behind : (a : Answer) (asked : Option Asked) → IfReply a (λ reply. IsDone [] asked reply (know mid f) now) → IfReply a (λ reply. IsDone stripes asked reply (know was f) now)
  answer_behind (answer.Reply reply) asked done = done_later asked reply (any_done stripes asked reply (know mid f) now done)
  answer_behind (answer.Fault fault) asked done = tt

  pub fault_behind : (promises : Promises) (a : Answer) (asked : Option Asked) → IfFault a (λ fault. IsUndone promises [] asked fault (know mid f) now) → IfFault a (λ fault. IsUndone promises stripes asked fault (know was f) now)
  fault_behind promises (answer.Reply reply) asked undone = tt
  fault_behind promises (answer.Fault fault) asked undone = undone_behind promises asked fault undone

  -- A call that was told of busy stripes in between came to the same from before these.
  pub answer_later : (a : Answer) (asked : Option Asked) → IfReply a (λ reply. IsDone stripes asked reply (know mid f) now) → IfReply a (λ reply. IsDone stripes asked reply (know was f) now)
  answer_later (answer.Reply reply) asked done = done_later asked reply done
  answer_later (answer.Fault fault) asked done = tt

  pub fault_later : (promises : Promises) (a : Answer) (asked : Option Asked) → IfFault a (λ fault. IsUndone promises stripes asked fault (know mid f) now) → IfFault a (λ fault. IsUndone promises stripes asked fault (know was f) now)
  fault_later promises (answer.Reply reply) asked undone = tt
  fault_later promises (answer.Fault fault) asked undone = undone_later promises asked fault undone

  -- The same of both ways in which a call is answered.
  pub answered_behind : (promises : Promises) (a : Answer) (call : Call) → IsAnswered promises [] call a (know mid f) now → IsAnswered promises stripes call a (know was f) now
  answered_behind promises a call answered = record { done = answer_behind a (asked_of call) answered.done; undone = fault_behind promises a (asked_of call) answered.undone }

  pub answered_later : (promises : Promises) (a : Answer) (call : Call) → IsAnswered promises stripes call a (know mid f) now → IsAnswered promises stripes call a (know was f) now
  answered_later promises a call answered = record { done = answer_later a (asked_of call) answered.done; undone = fault_later promises a (asked_of call) answered.undone }
