-- The turn of a client that makes a call, and of one that does not.
use Rattle.std.proofs.Common.{◌≡◌, ◌≤◌, ℕ, List, [], ◌∷◌, ◌++◌, length, Option, Some, None, refl, sym, ap, subst, ◌∙◌, ◌⊎◌, inl, inr, arith}
use Rattle.words.specs.Spelling.{IsRequest}
use Rattle.words.specs.Commands.{command_of}
use Rattle.words.specs.Commands as commands
use Rattle.resp_read.specs.Memory.{FitInline}
use Rattle.words.specs.declared.reply.Reply.{Reply}
use Rattle.words.specs.declared.reply.Fault.{Fault}
use Rattle.words.specs.declared.reply.Fault.TheVariants as fault
use Rattle.words.specs.declared.reply.Line.TheVariants as line
use Rattle.words.specs.Store.{Bytes}
use Rattle.words.specs.History.{Pair, Placed, keys_of_pairs}
use Rattle.words.specs.Session.{Turn, Says, Forgets, Tries, Calls, Never, Asked, Run, Watch, Exec, line_reply}
use Rattle.gates.specs.declared.view.Note.{Note}
use Rattle.transact.specs.declared.call.Call.{Call}
use Rattle.transact.specs.declared.call.Call.TheVariants.{Forget}
use Rattle.transact.specs.declared.call.Answer.{Answer}
use Rattle.transact.specs.declared.call.Answer.TheVariants as answer
use Rattle.transact.specs.Calls.{asked_of, call_of}
use Rattle.transact.specs.Plans.{EndsAll}
use Rattle.session.specs.Standings.{Standing, Wait, ForAnswer, ForEnd, forget_of}
use Rattle.session.specs.Steps.{IsSaid, IsAsked, IsOutOfMemory}
use Rattle.session.specs.Steps as steps
use Rattle.session.specs.Laws.{WatchesPairsOfEntry, WatchesPairsOfFault}
use Rattle.transact.specs.Submits.{IfReply, IfFault}
use Rattle.engine.specs.Passes.{Known}
use Rattle.engine.specs.Got.{IsOfGets}
use Rattle.engine.specs.Calls.{Promises, HasItsPlace, IsDone, IsUndone, IsCause, Forgot, entry_of}
use Rattle.connection.specs.declared.client.Next.TheVariants as next
use Rattle.connection.specs.Clients.{Progress, Stage, watched_of, turn_at, TakesOff, TakesUp, Resumes, ResumesSaid, WantsMemory, before}
use Rattle.connection.specs.Conversations.{Went}
use Rattle.connection.specs.Served.{IsFaulty, Turned, Spares, Attends}
use Rattle.connection.proofs.Turns.{answers_said, answers_want, answers_done, answers_undone, answers_forgot, asked_of_call, some_is, taken_still, no_pairs}
use Rattle.connection.proofs.Conversing.{went_none}

-- what is asked has its place, whatever is watched
pub place_for : (pairs : List Pair) (asked : Option Asked) → steps.HasItsPlace asked → HasItsPlace pairs asked
place_for pairs None place = tt
place_for pairs (Some asked) place = place pairs

-- a call that ends watches ends all
ends_all_asked : (asked : Asked) (watched : List Bytes) (pairs : List Pair) → watched ≡ keys_of_pairs pairs → EndsAll (call_of watched asked) pairs
ends_all_asked (Run command) watched pairs is = tt
ends_all_asked (Watch keys) watched pairs is = tt
ends_all_asked (Exec commands) watched pairs is = is

pub ends_all : (t : Turn) (watched : List Bytes) (call : Call) (wait : Wait) (pairs : List Pair)
    → IsAsked t watched call wait → watched ≡ keys_of_pairs pairs → EndsAll call pairs
ends_all (Says said then) watched call wait pairs is watches = absurd is
ends_all (Tries said done faulty) watched call wait pairs is watches = absurd is
ends_all Never watched call wait pairs is watches = absurd is
ends_all (Forgets said then) watched call wait pairs is watches = rw is.1 watches
ends_all (Calls asked done faulty) watched call wait pairs is watches = rw is.0 (ends_all_asked asked watched pairs watches)

-- where there is nothing to forget nothing is watched
pub forget_none : (watched : List Bytes) → forget_of watched ≡ None → watched ≡ []
forget_none [] is = refl
forget_none (key ∷ keys) is = absurd (cc is)

pub watches_none : (knows : Known) (at : Progress) → Attends knows at → watched_of at.stage ≡ [] → knows.watched ≡ []
watches_none knows at attends none = no_pairs knows.watched (sym attends.watches ∙ none)

-- what forgets is the call that ends all watches
pub forget_some : (watched : List Bytes) (call : Call) → forget_of watched ≡ Some call → call ≡ Forget watched
forget_some [] call is = absurd (cc is)
forget_some (key ∷ keys) call is = cc is

-- The end of watches makes no entry, and no call of the device has failed.

went_answered : (stripes : List ℕ) (given : Answer) (was now : Known) → IfReply given (λ reply. Forgot stripes was now) → IfFault given (λ f. ⊥)
    → Went was now []
went_answered stripes (answer.Reply reply) was now done undone =
    record { number = done.number; more = done.others; seen = done.seen; mine = done.mine; told = done.told; notes = done.notes; failures = omega (arith, done.failures) }
went_answered stripes (answer.Fault f) was now done undone = absurd undone

calm_answered : (stripes : List ℕ) (given : Answer) (was now : Known) → IfReply given (λ reply. Forgot stripes was now) → IfFault given (λ f. ⊥)
    → now.failures ≡ was.failures
calm_answered stripes (answer.Reply reply) was now done undone = done.failures
calm_answered stripes (answer.Fault f) was now done undone = absurd undone

pub went_forgot : (promises : Promises) (watched : List Bytes) (call : Call) (stripes : List ℕ) (given : Answer) (was now : Known)
    → forget_of watched ≡ Some call → IfReply given (λ reply. IsDone stripes (asked_of call) reply was now)
    → IfFault given (λ f. IsUndone promises stripes (asked_of call) f was now) → Went was now []
went_forgot promises watched call stripes given was now is done undone =
    let forgets : call ≡ Forget watched = forget_some watched call is in
    went_answered stripes given was now (rw forgets at done) (rw forgets at undone)

pub calm_forgot : (promises : Promises) (watched : List Bytes) (call : Call) (stripes : List ℕ) (given : Answer) (was now : Known)
    → forget_of watched ≡ Some call → IfReply given (λ reply. IsDone stripes (asked_of call) reply was now)
    → IfFault given (λ f. IsUndone promises stripes (asked_of call) f was now) → now.failures ≡ was.failures
calm_forgot promises watched call stripes given was now is done undone =
    let forgets : call ≡ Forget watched = forget_some watched call is in
    calm_answered stripes given was now (rw forgets at done) (rw forgets at undone)

-- at a fault no call of the device has failed, or one has
failed_least : (promises : Promises) (f : Fault) (stripes : List ℕ) (asked : Asked) (was now : Known) (told : List Note)
    → IsCause promises f stripes asked was now told → was.failures ≤ now.failures
failed_least promises fault.OutOfMemory stripes asked was now told cause = omega (arith, cause.1)
failed_least promises fault.DeviceFault stripes asked was now told cause = omega (arith, cause.0)
failed_least promises fault.StoreFull stripes asked was now told cause = omega (arith, cause.failures)
failed_least promises fault.CommitsWornOut stripes asked was now told cause = omega (arith, cause.2)

-- A turn that asks the store for nothing spares it.

spares_said : (promises : Promises) (t : Turn) (watched : List Bytes) (was : Known) (reply : Reply) (then : Standing) → IsSaid t watched reply then
    → Spares promises t was was [] [] reply
spares_said promises (Says said next) watched was reply then is = refl
spares_said promises (Forgets said next) watched was reply then is = refl
spares_said promises (Tries said done faulty) watched was reply then is = refl
spares_said promises (Calls asked done faulty) watched was reply then is = absurd is
spares_said promises Never watched was reply then is = refl

-- where there is no memory to watch these keys
want_faulty : {promises : Promises} (keys : List Bytes) (was : Known) (reply : Reply) → reply ≡ line_reply (line.Faulty fault.OutOfMemory)
    → IsFaulty promises (Watch keys) was was [] reply
want_faulty keys was reply says =
    record { fault = fault.OutOfMemory; says = says; stripes = []; cause = ((λ spares. absurd spares), refl, tt) }

spares_want : (promises : Promises) (t : Turn) (watched : List Bytes) (was : Known) (reply : Reply) (then : Standing) → IsOutOfMemory t watched then
    → reply ≡ line_reply (line.Faulty fault.OutOfMemory) → Spares promises t was was [] [] reply
spares_want promises (Says said next) watched was reply then is says = refl
spares_want promises (Forgets said next) watched was reply then is says = refl
spares_want promises (Tries said done faulty) watched was reply then is says = refl
spares_want promises (Calls (Run command) done faulty) watched was reply then is says = absurd is.0
spares_want promises (Calls (Watch keys) done faulty) watched was reply then is says = (λ none. want_faulty keys was reply says, λ some. refl)
spares_want promises (Calls (Exec commands) done faulty) watched was reply then is says = absurd is.0
spares_want promises Never watched was reply then is says = refl

-- a call that was done makes an entry, and no call of the device has failed
spares_done : (promises : Promises) (t : Turn) (was now : Known) (told : List Note) (one : Placed) (reply : Reply) → now.failures ≡ was.failures
    → Spares promises t was now told (one ∷ []) reply
spares_done promises (Says said next) was now told one reply same = same
spares_done promises (Forgets said next) was now told one reply same = same
spares_done promises (Tries said done faulty) was now told one reply same = same
spares_done promises (Calls asked done faulty) was now told one reply same = (λ is. absurd (cc is), λ some. same)
spares_done promises Never was now told one reply same = same

-- a call that was not done has its cause
spares_undone : (promises : Promises) (t : Turn) (watched : List Bytes) (call : Call) (wait : Wait) (asked : Asked) (f : Fault) (stripes : List ℕ)
    (was now : Known) (told : List Note) (reply : Reply) → IsAsked t watched call wait → asked_of call ≡ Some asked
    → IsCause promises f stripes asked was now told → reply ≡ line_reply (line.Faulty f) → Spares promises t was now told [] reply
spares_undone promises (Says said then) watched call wait asked f stripes was now told reply is asks cause says = absurd is
spares_undone promises (Forgets said then) watched call wait asked f stripes was now told reply is asks cause says =
    absurd (cc (sym (ap asked_of is.1) ∙ asks))
spares_undone promises (Tries said done faulty) watched call wait asked f stripes was now told reply is asks cause says = absurd is
spares_undone promises (Calls wanted done faulty) watched call wait asked f stripes was now told reply is asks cause says =
    let same : wanted ≡ asked = some_is (sym (asked_of_call watched wanted) ∙ sym (ap asked_of is.0) ∙ asks) in (
      λ none. record {
        fault = f;
        says = says;
        stripes = stripes;
        cause = subst (λ (a : Asked). IsCause promises f stripes a was now told) (sym same) cause;
      },
      λ some. absurd (some refl),
    )
spares_undone promises Never watched call wait asked f stripes was now told reply is asks cause says = absurd is

-- the end of the watches makes no entry, and no call of the device has failed
spares_forgot : (promises : Promises) (t : Turn) (watched : List Bytes) (call : Call) (wait : Wait) (was now : Known) (told : List Note) (reply : Reply)
    → IsAsked t watched call wait → asked_of call ≡ None → now.failures ≡ was.failures → Spares promises t was now told [] reply
spares_forgot promises (Says said then) watched call wait was now told reply is asks same = same
spares_forgot promises (Forgets said then) watched call wait was now told reply is asks same = same
spares_forgot promises (Tries said done faulty) watched call wait was now told reply is asks same = same
spares_forgot promises (Calls wanted done faulty) watched call wait was now told reply is asks same =
    absurd (cc (sym (asked_of_call watched wanted) ∙ sym (ap asked_of is.0) ∙ asks))
spares_forgot promises Never watched call wait was now told reply is asks same = same

-- a turn that says a reply at once
pub turned_said : {promises : Promises} (was : Known) (old new : Progress) (reply : Reply) → Attends was old → TakesUp old (next.Says reply) new → Turned promises was was old new reply
turned_said {promises} was old new reply attends up = record {
  own = [];
  went = went_none was;
  answers = answers_said was.number was.watched old new reply attends.watches up;
  spared = (up.0, up.1, spares_said promises (turn_at old.stage up.0) (watched_of old.stage) was reply up.2.0 up.2.2);
}

-- a turn that says that there was no memory
pub turned_want : {promises : Promises} (was : Known) (old new : Progress) (reply : Reply) → Attends was old → TakesUp old next.SaysOutOfMemory new
    → reply ≡ line_reply (line.Faulty fault.OutOfMemory) → Turned promises was was old new reply
turned_want {promises} was old new reply attends up is = record {
  own = [];
  went = went_none was;
  answers = rw is (answers_want was.number was.watched old new attends.watches up);
  spared = (up.0, up.1, spares_want promises (turn_at old.stage up.0) (watched_of old.stage) was reply up.2.0 up.2.2 is);
}

-- what a session that waits says to a fault
says_fault : (stage new : Stage) (f : Fault) (asked : Asked) (call : Call) (t : Turn) (watched : List Bytes) (wait : Wait) (reply : Reply)
    → stage ≡ Stage.Called wait → IsAsked t watched call wait → asked_of call ≡ Some asked → Resumes stage (answer.Fault f) reply new
    → reply ≡ line_reply (line.Faulty f)
says_fault (Stage.Ready s) new f asked call t watched wait reply stands is asks resumes = absurd resumes
says_fault Stage.Stepping new f asked call t watched wait reply stands is asks resumes = absurd resumes
says_fault (Stage.Called w) new f asked call (Says said then) watched wait reply stands is asks resumes = absurd is
says_fault (Stage.Called w) new f asked call (Tries said done faulty) watched wait reply stands is asks resumes = absurd is
says_fault (Stage.Called w) new f asked call Never watched wait reply stands is asks resumes = absurd is
says_fault (Stage.Called w) new f asked call (Forgets said then) watched wait reply stands is asks resumes = absurd (cc (sym (ap asked_of is.1) ∙ asks))
says_fault (Stage.Called w) new f asked call (Calls wanted done faulty) watched wait reply stands is asks resumes =
    let same : w ≡ wait = cc stands in
    (rw (same, is.1) at resumes.2).0

-- a session that waits goes on in the same way, whichever reply its call is answered with
pub resumes_any : (old new : Stage) (first said : Reply) → Resumes old (answer.Reply first) said new → ResumesSaid old new
resumes_any (Stage.Ready s) new first said is = absurd is
resumes_any Stage.Stepping new first said is = absurd is
resumes_any (Stage.Called (ForAnswer done faulty)) new first said is = λ given. (given, (is.0, is.1, (refl, is.2.1)))
resumes_any (Stage.Called (ForEnd told after)) new first said is = λ given. (told, (is.0, is.1, (refl, is.2.1)))

-- a session that waits for a transaction of GETs says the reply that it is answered with
pub says_given : (stage new : Stage) (given : Reply) (call : Call) (t : Turn) (watched : List Bytes) (wait : Wait) → stage ≡ Stage.Called wait → IsAsked t watched call wait
    → IsOfGets call → ResumesSaid stage new → Resumes stage (answer.Reply given) given new
says_given (Stage.Ready s) new given call t watched wait stands is gets resumes = absurd (cc stands)
says_given Stage.Stepping new given call t watched wait stands is gets resumes = absurd (cc stands)
says_given (Stage.Called w) new given call (Says said then) watched wait stands is gets resumes = absurd is
says_given (Stage.Called w) new given call (Tries said done faulty) watched wait stands is gets resumes = absurd is
says_given (Stage.Called w) new given call Never watched wait stands is gets resumes = absurd is
says_given (Stage.Called w) new given call (Forgets said then) watched wait stands is gets resumes = absurd (subst IsOfGets is.1 gets)
says_given (Stage.Called w) new given call (Calls wanted done faulty) watched wait stands is gets resumes =
    let same : w ≡ wait = cc stands in
    let told = resumes given in
    let own : told.0 ≡ given = (rw (same, is.1) at told.1.2).0 in
    subst (λ (r : Reply). Resumes (Stage.Called w) (answer.Reply given) r new) own told.1

-- a turn whose call was answered with a reply
turned_done : {promises : Promises} (was now : Known) (stripes : List ℕ) (call : Call) (given reply : Reply) (old called new : Progress) (a : Option Asked)
    → WatchesPairsOfEntry → Attends was old → TakesUp old (next.Calls call) called → asked_of call ≡ a → IsDone stripes a given was now
    → new.unread ≡ called.unread → Resumes called.stage (answer.Reply given) reply new.stage → Turned promises was now old new reply
turned_done {promises} was now stripes call given reply old called new None law attends up asks done unread resumes = record {
  own = [];
  went = record {
    number = done.number;
    more = done.others;
    seen = done.seen;
    mine = done.mine;
    told = done.told;
    notes = done.notes;
    failures = omega (arith, done.failures);
  };
  answers = rw done.watched (answers_forgot was.number was.watched old called new call (answer.Reply given) reply attends.watches up asks unread resumes);
  spared = (
    up.0,
    taken_still _ up.0 _ _ up.1 unread,
    spares_forgot promises (turn_at old.stage up.0) (watched_of old.stage) call up.2.0 was now done.told reply up.2.2 asks done.failures,
  );
}
turned_done {promises} was now stripes call given reply old called new (Some asked) law attends up asks done unread resumes = record {
  own = (length (done.others ++ was.seen), entry_of was asked given) ∷ [];
  went = record {
    number = done.number;
    more = entry_of was asked given ∷ done.others;
    seen = done.seen;
    mine = done.mine;
    told = done.told;
    notes = done.notes;
    failures = omega (arith, done.failures);
  };
  answers =
      rw done.watched
      (answers_done was.number was.watched old called new call asked given reply (length (done.others ++ was.seen)) law attends.watches up asks unread resumes);
  spared = (up.0, taken_still _ up.0 _ _ up.1 unread, spares_done promises (turn_at old.stage up.0) was now done.told _ reply done.failures);
}

-- a turn whose call was answered with a fault
turned_undone : {promises : Promises} (was now : Known) (stripes : List ℕ) (call : Call) (f : Fault) (reply : Reply) (old called new : Progress) (a : Option Asked)
    → WatchesPairsOfFault → Attends was old → TakesUp old (next.Calls call) called → asked_of call ≡ a → IsUndone promises stripes a f was now
    → new.unread ≡ called.unread → Resumes called.stage (answer.Fault f) reply new.stage → Turned promises was now old new reply
turned_undone {promises} was now stripes call f reply old called new None law attends up asks undone unread resumes = absurd undone
turned_undone {promises} was now stripes call f reply old called new (Some asked) law attends up asks undone unread resumes = record {
  own = [];
  went = record {
    number = undone.number;
    more = undone.others;
    seen = undone.seen;
    mine = undone.mine;
    told = undone.told;
    notes = undone.notes;
    failures = failed_least promises f stripes asked was now undone.told undone.cause;
  };
  answers =
      rw undone.watched (answers_undone was.number was.watched old called new call asked f reply law attends.watches up asks unread resumes);
  spared = (
    up.0,
    taken_still _ up.0 _ _ up.1 unread,
    spares_undone promises (turn_at old.stage up.0) (watched_of old.stage) call up.2.0 asked f stripes was now undone.told reply up.2.2 asks undone.cause
        (says_fault called.stage new.stage f asked call (turn_at old.stage up.0) (watched_of old.stage) up.2.0 reply up.2.1 up.2.2 asks resumes),
  );
}

-- a turn whose call was answered
pub turned_called : {promises : Promises} (was now : Known) (stripes : List ℕ) (call : Call) (a : Answer) (reply : Reply) (old called new : Progress)
    → WatchesPairsOfEntry → WatchesPairsOfFault → Attends was old → TakesUp old (next.Calls call) called
    → IfReply a (λ given. IsDone stripes (asked_of call) given was now) → IfFault a (λ f. IsUndone promises stripes (asked_of call) f was now)
    → new.unread ≡ called.unread → Resumes called.stage a reply new.stage → Turned promises was now old new reply
turned_called was now stripes call (answer.Reply given) reply old called new entry law attends up done undone unread resumes =
    turned_done was now stripes call given reply old called new (asked_of call) entry attends up refl done unread resumes
turned_called was now stripes call (answer.Fault f) reply old called new entry law attends up done undone unread resumes =
    turned_undone was now stripes call f reply old called new (asked_of call) law attends up refl undone unread resumes

-- after a turn the client watches what its pass does
pub attends_turned : {promises : Promises} (was now : Known) (old new : Progress) (reply : Reply) → Turned promises was now old new reply → Attends now new
attends_turned was now old new reply turned = record { ready = turned.answers.ready; watches = turned.answers.watches }

-- a client that found no memory asked for some
pub wants_memory : (old new : Progress) (words : List Bytes) (rest : Bytes) → TakesOff old.unread words rest
    → ((¬ FitInline words) × (new ≡ old)) ⊎ ((¬ commands.AsksNoMemory (command_of words)) × (new ≡ record old { unread = rest }))
    → WantsMemory old.unread
wants_memory old new words rest taken (inl one) = (words, rest, taken, inl one.0)
wants_memory old new words rest taken (inr one) = (words, rest, taken, inr one.0)

-- one that found none for the command of its request asked for some
pub wants_command : (words : List Bytes) (at : Progress) → IsRequest words → ¬ commands.AsksNoMemory (command_of words) → WantsMemory (before words at).unread
wants_command words at request asks = (words, at.unread, record { request = request; taken = refl }, inr asks)
