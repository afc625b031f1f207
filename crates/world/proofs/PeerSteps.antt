-- One step of a client of the world, from what its session gives.
use Rattle.std.proofs.Common.{◌≡◌, ℕ, ◌<◌, true, false, List, [], ◌∷◌, ◌++◌, length, Some, None, refl, sym, ap, subst, ◌∙◌, append-nil}
use Rattle.std.specs.Prelude.{OnOk, Result, Ok, Err}
use Rattle.words.specs.declared.history.Operation.{Operation}
use Rattle.words.specs.declared.reply.Line.TheVariants as line
use Rattle.words.specs.declared.reply.ProtocolFault.{ProtocolFault}
use Rattle.words.specs.declared.reply.Reply.{Reply}
use Rattle.words.specs.Store.{Bytes}
use Rattle.words.specs.Encoding.{encoding}
use Rattle.words.specs.History.{Pair, keys_of_pairs}
use Rattle.words.specs.Watches.{watched_after}
use Rattle.words.specs.declared.reply.Fault.{Fault}
use Rattle.words.specs.declared.reply.Fault.TheVariants.{StoreFull}
use Rattle.words.specs.Session.{Asked, operation_of, watched_at_fault, line_reply}
use Rattle.transact.specs.declared.call.Call.{Call}
use Rattle.transact.specs.declared.call.Answer.{Answer}
use Rattle.transact.specs.declared.call.Answer.TheVariants as answer
use Rattle.transact.specs.Calls.{asked_of}
use Rattle.connection.specs.declared.client.Next.TheVariants as next
use Rattle.connection.specs.Clients.{Progress, Stage, Gives, Resumes, watched_of}
use Rattle.connection.specs.Conversations.{Answers}
use Rattle.connection.specs.Served.{fault_line}
use Rattle.world_model.specs.States.{Phase, Serving, Calling, ClientState}
use Rattle.world_model.specs.Advancing.{Advances, Pauses, Waits, Finishes, Quits, Fails, Opens, Here, Says, leaving, leave_for}
use Rattle.world.specs.Peers.{Attends, Comes, HasAnswered, HasBeenRefused, HasGivenUp, HasOperated, IsForgetting, IsServing, IsSteady, Replies, Takes, progress_of}
use Rattle.world.proofs.Peering.{fewer_unread, says_given}

-- what follows where a call succeeded
pub on_ok : {A E P Q : Type 0} (result : Result A E) → (P → Q) → OnOk result P → OnOk result Q
on_ok (Ok value) follows is = follows is
on_ok (Err error) follows is = tt

-- the laws of conversations that a client's watches rest on
abbrev pub SaysLaw : Type 0
SaysLaw =
    (session : ℕ) (pairs : List Pair) (old new : Progress) (reply : Reply)
    → watched_of old.stage ≡ keys_of_pairs pairs → Gives old (next.Says reply) new → Answers session [] pairs pairs old new reply

abbrev pub DoneLaw : Type 0
DoneLaw =
    (session : ℕ) (pairs : List Pair) (old called new : Progress) (call : Call) (asked : Asked) (given reply : Reply) (position : ℕ)
    → watched_of old.stage ≡ keys_of_pairs pairs → Gives old (next.Calls call) called → asked_of call ≡ Some asked
    → new.unread ≡ called.unread → Resumes called.stage (answer.Reply given) reply new.stage
    → Answers session ((position, record { session = session; operation = operation_of pairs asked; reply = given }) ∷ [])
    pairs (watched_after pairs (operation_of pairs asked) position) old new reply

abbrev pub UndoneLaw : Type 0
UndoneLaw =
    (session : ℕ) (pairs : List Pair) (old called new : Progress) (call : Call) (asked : Asked) (fault : Fault) (reply : Reply)
    → watched_of old.stage ≡ keys_of_pairs pairs → Gives old (next.Calls call) called → asked_of call ≡ Some asked
    → new.unread ≡ called.unread → Resumes called.stage (answer.Fault fault) reply new.stage
    → Answers session [] pairs (watched_at_fault pairs asked) old new reply

abbrev pub ForgotLaw : Type 0
ForgotLaw =
    (session : ℕ) (pairs : List Pair) (old called new : Progress) (call : Call) (given : Answer) (reply : Reply)
    → watched_of old.stage ≡ keys_of_pairs pairs → Gives old (next.Calls call) called → asked_of call ≡ None
    → new.unread ≡ called.unread → Resumes called.stage given reply new.stage → Answers session [] pairs [] old new reply

-- WHERE A CLIENT GOES NO FURTHER

-- it goes no further, from where it stands
abbrev pub Paused : ClientState → ClientState → Type 0
Paused old new = (at : Progress) × (old.phase ≡ Serving at) × Pauses old at new

-- the same of an equal client
paused : (old new other : ClientState) (at : Progress) → old.phase ≡ Serving at → new ≡ other → Pauses old at other → Paused old new
paused old new other at stands is pauses = (at, stands, subst (λ (n : ClientState). Pauses old at n) (sym is) pauses)

pub waits : (old mid : ClientState) → Comes old next.Input mid → mid.closed ≡ false → Paused old mid
waits old mid comes closed =
    let same : mid ≡ old =
    comes.else_same
    ∙ ap (λ (p : Phase). record old { phase = p }) (ap (λ (at : Progress). Serving at) comes.gives.2 ∙ sym comes.stands) in
    paused old mid old comes.at comes.stands same
    (Waits (comes.gives.0, comes.gives.1, refl) (sym (ap (λ (n : ClientState). n.closed) same) ∙ closed))

pub finishes : (old mid new : ClientState) → Comes old next.Input mid → mid.closed ≡ true → new ≡ leaving mid [] → Paused old new
finishes old mid new comes closed is =
    paused old new (leaving old []) comes.at comes.stands (is ∙ ap (λ (n : ClientState). leaving n []) comes.else_same)
    (Finishes (comes.gives.0, comes.gives.1, refl) (sym (ap (λ (n : ClientState). n.closed) comes.else_same) ∙ closed))

pub quits : (old mid new : ClientState) → Comes old next.Closed mid → new ≡ leaving mid [] → Paused old new
quits old mid new comes is =
    paused old new (leaving old []) comes.at comes.stands (is ∙ ap (λ (n : ClientState). leaving n []) comes.else_same)
    (Quits (comes.gives.0, refl))

pub fails : (old mid said new : ClientState) (fault : ProtocolFault) (reply : Reply) → Comes old (next.Malformed fault) mid
    → reply ≡ line_reply (line.Malformed fault) → said ≡ record mid { output = mid.output ++ encoding reply } → new ≡ leaving said [] → Paused old new
fails old mid said new fault reply comes says said_is is =
    paused old new (leaving old (fault_line fault)) comes.at comes.stands
    (is
    ∙ ap (λ (n : ClientState). leaving n []) said_is
    ∙ ap (λ (n : ClientState). leaving (record n { output = n.output ++ encoding reply }) []) comes.else_same
    ∙ ap (λ (t : Bytes). record old { phase = leave_for old.watches; output = t })
    (append-nil (old.output ++ encoding reply) ∙ ap (λ (r : Reply). old.output ++ encoding r) says))
    (Fails fault (comes.gives.0, comes.gives.1, refl))

pub opens : (old mid new : ClientState) (call : Call) → Comes old (next.Calls call) mid
    → new ≡ record mid { phase = Calling (progress_of mid.phase) call } → Paused old new
opens old mid new call comes is =
    paused old new (record old { phase = Calling comes.later call }) comes.at comes.stands
    (is ∙ ap (λ (n : ClientState). record n { phase = Calling (progress_of n.phase) call }) comes.else_same)
    (Opens call comes.later comes.gives)

-- WHERE IT GOES ON

-- what a client watches whose phase is this
attends : (old : ClientState) (p : Phase) → old.phase ≡ p → IsSteady old → Attends old.watches p
attends old p stands steady = subst (λ (q : Phase). Attends old.watches q) stands steady

-- a client that said a reply watches what it did
pub steady_said : (old mid new : ClientState) (reply : Reply) → SaysLaw → IsSteady old → Comes old (next.Says reply) mid
    → new ≡ record mid { output = mid.output ++ encoding reply } → IsSteady new
steady_said old mid new reply law steady comes is =
    let one = law 0 old.watches comes.at comes.later reply (attends old (Serving comes.at) comes.stands steady).1 comes.gives in
    subst (λ (n : ClientState). Attends n.watches n.phase)
    (sym (is ∙ ap (λ (n : ClientState). record n { output = n.output ++ encoding reply }) comes.else_same)) (one.ready, one.watches)

-- it advances as it does from there
pub says_on : (old mid new : ClientState) → Replies old mid → Advances mid mid.phase new → Advances old old.phase new
says_on old mid new one goes =
    let later = subst (λ (n : ClientState). Advances n n.phase new) one.else_same goes in
    subst (λ (p : Phase). Advances old p new) (sym one.stands) (Says old one.at one.reply one.later new one.gives later)

pub stops : (old new : ClientState) → Paused old new → Advances old old.phase new
stops old new one = subst (λ (p : Phase). Advances old p new) (sym one.1) (Here old one.0 new one.2)

pub still_serves : (old mid : ClientState) → Replies old mid → IsServing mid.phase
still_serves old mid one = subst (λ (p : Phase). IsServing p) (sym (ap (λ (n : ClientState). n.phase) one.else_same)) tt

pub fewer : (old mid : ClientState) → Replies old mid → length (progress_of mid.phase).unread < length (progress_of old.phase).unread
fewer old mid one =
    let after : mid.phase ≡ Serving one.later = ap (λ (n : ClientState). n.phase) one.else_same in
    subst (λ (p : Phase). length (progress_of p).unread < length (progress_of old.phase).unread) (sym after)
    (subst (λ (p : Phase). length one.later.unread < length (progress_of p).unread) (sym one.stands)
    (fewer_unread one.at one.later one.reply one.gives))

-- WHERE ITS CALL WAS ANSWERED

-- a client whose call was done took its reply
has_answered_at : (old new : ClientState) (at : Progress) (call : Call) (given said : Reply) (stage : Stage) (position : ℕ) (operation : Operation)
    → IsSteady old → old.phase ≡ Calling at call → Resumes at.stage (answer.Reply given) said stage
    → HasOperated (record old { phase = Serving (record at { stage = stage }); output = old.output ++ encoding said }) call position operation new
    → HasAnswered old (Calling at call) given position (operation, said) new
has_answered_at old new at call given said stage position operation steady stands resumes done =
    let from = attends old (Calling at call) stands steady in (
      done.asked,
      done.asks,
      done.operation_is,
      says_given from.0 at call done.asked given said stage from.2 done.asks resumes,
      record {
        said = said;
        stage = stage;
        resumes = resumes;
        else_same =
            done.else_same
            ∙ ap (λ (o : Operation). record old {
              phase = Serving (record at { stage = stage });
              watches = watched_after old.watches o position;
              output = old.output ++ encoding said;
            }) done.operation_is;
      },
    )

-- what was done by a client that took an answer, and said its reply
operated : (old mid new : ClientState) (given : Answer) (call : Call) (said : Reply) (position : ℕ) (operation : Operation)
    → (takes : Takes old given call said mid) → HasOperated (record mid { output = mid.output ++ encoding said }) call position operation new
    → HasOperated (record old { phase = Serving (record takes.at { stage = takes.stage }); output = old.output ++ encoding said }) call position operation new
operated old mid new given call said position operation takes done =
    subst (λ (n : ClientState). HasOperated (record n { output = n.output ++ encoding said }) call position operation new) takes.else_same done

pub has_answered : (old mid new : ClientState) (call : Call) (given said : Reply) (position : ℕ) (operation : Operation)
    → IsSteady old → Takes old (answer.Reply given) call said mid
    → HasOperated (record mid { output = mid.output ++ encoding said }) call position operation new
    → HasAnswered old old.phase given position (operation, said) new
has_answered old mid new call given said position operation steady takes done =
    subst (λ (p : Phase). HasAnswered old p given position (operation, said) new) (sym takes.stands)
    (has_answered_at old new takes.at call given said takes.stage position operation steady takes.stands takes.resumes
    (operated old mid new (answer.Reply given) call said position operation takes done))

-- it watches what its session does then
pub steady_answered : (old mid new : ClientState) (call : Call) (given said : Reply) (position : ℕ) (operation : Operation)
    → DoneLaw → IsSteady old → Takes old (answer.Reply given) call said mid
    → HasOperated (record mid { output = mid.output ++ encoding said }) call position operation new → IsSteady new
steady_answered old mid new call given said position operation law steady takes done =
    let from = attends old (Calling takes.at call) takes.stands steady in
    let is = operated old mid new (answer.Reply given) call said position operation takes done in
    let one =
    law 0 old.watches from.0 takes.at (record takes.at { stage = takes.stage }) call is.asked given said position from.1 from.2 is.asks refl takes.resumes in
    subst (λ (n : ClientState). Attends n.watches n.phase)
    (sym (is.else_same
    ∙ ap (λ (o : Operation). record old {
      phase = Serving (record takes.at { stage = takes.stage });
      watches = watched_after old.watches o position;
      output = old.output ++ encoding said;
    }) is.operation_is))
    (one.ready, one.watches)

-- a client that took the answer to a call which only forgets, and said its reply
forgot : (old mid none new : ClientState) (given : Answer) (call : Call) (said : Reply) → (takes : Takes old given call said mid)
    → none ≡ record mid { watches = [] } → new ≡ record none { output = none.output ++ encoding said }
    → new ≡ record old { phase = Serving (record takes.at { stage = takes.stage }); watches = []; output = old.output ++ encoding said }
forgot old mid none new given call said takes none_is is =
    is
    ∙ ap (λ (n : ClientState). record n { output = n.output ++ encoding said }) none_is
    ∙ ap (λ (n : ClientState). record n { watches = []; output = n.output ++ encoding said }) takes.else_same

pub steady_forgotten : (old mid none new : ClientState) (given : Answer) (call : Call) (said : Reply) → ForgotLaw → IsSteady old
    → IsForgetting old.phase → Takes old given call said mid
    → none ≡ record mid { watches = [] } → new ≡ record none { output = none.output ++ encoding said } → IsSteady new
steady_forgotten old mid none new given call said law steady asks takes none_is is =
    let from = attends old (Calling takes.at call) takes.stands steady in
    let forgets : asked_of call ≡ None = subst (λ (p : Phase). IsForgetting p) takes.stands asks in
    let one = law 0 old.watches from.0 takes.at (record takes.at { stage = takes.stage }) call given said from.1 from.2 forgets refl takes.resumes in
    subst (λ (n : ClientState). Attends n.watches n.phase) (sym (forgot old mid none new given call said takes none_is is)) (one.ready, one.watches)

-- WHERE ITS CALL MET A FULL STRIPE

-- a client that took the line of it, let its call go and said the line
refused_is : (old mid left new : ClientState) (call : Call) (said : Reply) → (takes : Takes old (answer.Fault StoreFull) call said mid)
    → (gave : HasGivenUp mid call left) → new ≡ record left { output = left.output ++ encoding said }
    → new ≡ record old { phase = Serving (record takes.at { stage = takes.stage }); watches = watched_at_fault old.watches gave.asked; output = old.output ++ encoding said }
refused_is old mid left new call said takes gave is =
    is
    ∙ ap (λ (n : ClientState). record n { output = n.output ++ encoding said }) gave.else_same
    ∙ ap (λ (n : ClientState). record n { watches = watched_at_fault n.watches gave.asked; output = n.output ++ encoding said }) takes.else_same

pub has_been_refused : (old mid left new : ClientState) (call : Call) (said : Reply) → Takes old (answer.Fault StoreFull) call said mid
    → HasGivenUp mid call left → new ≡ record left { output = left.output ++ encoding said } → HasBeenRefused old old.phase new
has_been_refused old mid left new call said takes gave is =
    subst (λ (p : Phase). HasBeenRefused old p new) (sym takes.stands) (
      gave.asked,
      gave.asks,
      record { said = said; stage = takes.stage; resumes = takes.resumes; else_same = refused_is old mid left new call said takes gave is },
    )

pub steady_refused : (old mid left new : ClientState) (call : Call) (said : Reply) → UndoneLaw → IsSteady old
    → Takes old (answer.Fault StoreFull) call said mid
    → HasGivenUp mid call left → new ≡ record left { output = left.output ++ encoding said } → IsSteady new
steady_refused old mid left new call said law steady takes gave is =
    let from = attends old (Calling takes.at call) takes.stands steady in
    let one =
    law 0 old.watches from.0 takes.at (record takes.at { stage = takes.stage }) call gave.asked StoreFull said from.1 from.2 gave.asks refl takes.resumes in
    subst (λ (n : ClientState). Attends n.watches n.phase) (sym (refused_is old mid left new call said takes gave is)) (one.ready, one.watches)

-- the same of two things
pub on_both : {A E P Q R : Type 0} (result : Result A E) → (P → Q → R) → OnOk result P → OnOk result Q → OnOk result R
on_both (Ok value) follows one other = follows one other
on_both (Err error) follows one other = tt
