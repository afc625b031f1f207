-- A commit of a client's open call leaves a world as it is to be.
use Rattle.std.proofs.Common.{◌≡◌, ◌∙◌, ℕ, ◌≤◌, Bool, true, false, List, [], ◌∷◌, ◌++◌, length, set, map, reverse, Option, Some, None, refl, sym, ap, subst, nat_lt, if◌then◌else◌, arith, Bor}
use Rattle.std.specs.Prelude.{slice_get}
use Rattle.std.specs.Vec.{with_item}
use Rattle.std.proofs.lemmas.List.{length-reverse, reverse-append}
use borrow.Author.Tests.{ltb-false}
use Rattle.words.specs.declared.limits.TheConstants.{WEIGHT_MAX}
use Rattle.words.specs.declared.history.Entry.{Entry}
use Rattle.words.specs.declared.history.Operation.{Operation}
use Rattle.words.specs.declared.reply.Reply.{Reply}
use Rattle.words.specs.declared.reply.Reply.TheVariants.{NullArray}
use Rattle.words.specs.Store.{Bytes, Write, weight}
use Rattle.words.specs.History.{History, due, outcome, after, is_dirty, pairs_of, too_much, was_not_done}
use Rattle.words.specs.Session.{Asked, operation_of}
use Rattle.transact.specs.declared.call.Call.{Call}
use Rattle.transact.specs.declared.call.Call.TheVariants.{One, Watch, Exec, Forget}
use Rattle.transact.specs.declared.call.Watching.{Watching}
use Rattle.transact.specs.Calls.{asked_of}
use Rattle.transact.specs.Plans.{IsPlan, keys_ended, made}
use Rattle.transact.specs.Submits.{stripes_asked}
use Rattle.transact.specs.Tables.{AreThere, Change, clears}
use Rattle.hybrid.specs.HybridLog.{HybridLog}
use Rattle.hybrid.specs.Staging.{AreRight}
use Rattle.plans.specs.declared.planned.Planned.{Planned}
use Rattle.shards.specs.Rooms.{AreRoomy, HaveGrown}
use Rattle.connection.specs.Clients.{Progress}
use Rattle.world_model.specs.declared.event.Event.TheVariants as event
use Rattle.world_log.specs.Places.{Receipt, Shelves}
use Rattle.world_log.specs.Given.{IsGiven, StaysGiven}
use Rattle.world_log.specs.PlanLaws.{logs_lent, with_parts}
use Rattle.world_log.specs.Stripes.{KeepsOthers, acts_for, lent}
use Rattle.world_log.specs.WorldLogs.{IsWorldLog}
use Rattle.world_log.specs.WorldLogs as logs
use Rattle.world_log.specs.Types.{Stripes}
use Rattle.world_log.specs.declared.logs.WorldLog.{WorldLog}
use Rattle.world_model.specs.States.{Phase, Serving, Calling, Leaving, Left, Ended, ClientState, State, client, open_call}
use Rattle.world_model.specs.Enabled.{are_none, first_missing, is_enabled_for, next_stripe}
use Rattle.world_model.specs.Places.{Each}
use Rattle.world_model.specs.Commits.{Commits, Installs, OpensPages, marks_changed}
use Rattle.world_model.specs.Planned.{IsPlanned}
use Rattle.world.specs.Desks.{IsDone, IsRight, IsStage, beside, client_of, is_full_plan}
use Rattle.world.specs.Laws.{HistoryLaws, PlanLaws}
use Rattle.world.specs.Peers.{Attends, HasAnswered, HasBeenRefused, HasForgotten, IsForgetting, IsSteady, OnCall}
use Rattle.world.specs.declared.peer.Open.TheVariants as opens
use Rattle.world.specs.declared.desk.Stage.TheVariants as stage
use Rattle.world.specs.Planning.{AreShort, HasCleared, HasPut, HasRun, IsDue, count_of}
use Rattle.world.specs.Stripes.{HasInstalled}
use Rattle.world.specs.Tables.{HasAnsweredAt, HasCommitted, IsKept, IsMade, IsReadyFor, IsWorld, New, Tended, rest_of, state_of}
use Rattle.world.specs.declared.desk.Desk.{Desk}
use Rattle.world.specs.declared.desk.Plan.{Plan}
use Rattle.world.specs.declared.desk.Plan.TheVariants as plan
use Rattle.world.specs.declared.member.Member.{Member}
use Rattle.world.specs.declared.world.World.{World}
use Rattle.world.proofs.Beginning.{none_right}
use Rattle.world.proofs.Coming.{StandIn, acting_right, apart_roomy, plan_is}
use Rattle.world.proofs.Installing.{calls_there, clears_only, even_acts}
use Rattle.world.proofs.Members.{clients_with}
use Rattle.world.proofs.Handling.{steady_here}
use Rattle.world.proofs.Moving.{commit_parts, set-set_at, tended_by}
use Rattle.world.proofs.Settling.{forgotten, refused, settled}
use Rattle.world.proofs.Worlds.{here, set_here, some_same}

-- WHAT IS WRITTEN IS LIGHT

light_by : (dirty heavy : Bool) (reply : Reply) (writes : List Write) → nat_lt WEIGHT_MAX (weight writes) ≡ heavy
    → weight (if was_not_done (if dirty then NullArray else (if heavy then too_much else reply)) then [] else writes) ≤ WEIGHT_MAX
light_by true heavy reply writes is = omega arith
light_by false true reply writes is = omega arith
light_by false false reply writes is = either (was_not_done reply)
  where
    either : (t : Bool) → weight (if t then [] else writes) ≤ WEIGHT_MAX
    either true = omega arith
    either false = omega (arith, ltb-false WEIGHT_MAX (weight writes) is)

made_light : (seen : History) (operation : Operation) → weight (made seen operation) ≤ WEIGHT_MAX
made_light seen operation =
    let all = outcome (after seen) operation in
    light_by (is_dirty seen (pairs_of operation)) (nat_lt WEIGHT_MAX (weight all.1)) all.0 all.1 refl

pub plan_light : (seen : History) (operation : Operation) (reply : Reply) (writes : List Write) → IsPlan seen operation reply writes → weight writes ≤ WEIGHT_MAX
plan_light seen operation reply writes plan = subst (λ (ws : List Write). weight ws ≤ WEIGHT_MAX) (sym plan.writes_due) (made_light seen operation)

-- THE STRIPES

installs_is : (old new : World) (writes : List Write) (change : Change) → HasInstalled old.log.stripes writes change new.log.stripes
    → Installs (state_of old) writes change (state_of new)
unfolding state_of
installs_is old new writes change is = record {
  holders = ap (λ v. v.items) is.holders;
  stores = is.stores;
  marks = is.marks;
}

opens_is : PlanLaws → (old new : World) (c : ℕ) (writes : List Write) → IsWorldLog old.log → KeepsOthers (acts_for old.log.stripes c) new.log.stripes
    → weight writes ≤ WEIGHT_MAX → HaveGrown (count_of old.log.stripes) writes (logs_lent (acts_for old.log.stripes c)) (logs_lent new.log.stripes)
    → new.log ≡ with_parts old.log new.log.stripes old.log.device
    → OpensPages (state_of old) writes (state_of new) × IsWorldLog new.log
unfolding state_of
opens_is laws old new c writes is keeps light grown same =
    let both = laws.opening (rest_of old) (rest_of new) (with_parts old.log (acts_for old.log.stripes c) old.log.device) new.log.stripes writes
    (acting_right old.log c is) keeps light grown in (
      subst (λ (l : WorldLog). OpensPages (logs.state_of (rest_of old) old.log) writes (logs.state_of (rest_of new) l)) (sym same) both.0,
      subst IsWorldLog (sym same) both.1,
    )

-- logs that are the same have grown by nothing
none_grown : PlanLaws → (n : ℕ) (old new : ℕ → Option HybridLog) → ((i : ℕ) → new i ≡ old i) → HaveGrown n [] old new
none_grown laws n old new same = record {
  was = λ i log at. (log, sym (same i) ∙ at, laws.growth.none log);
  unwritten = λ i none. same i;
}

reverse_more : (items : List Entry) (entry : Entry) → reverse (items ++ entry ∷ []) ≡ entry ∷ reverse items
reverse_more items entry = reverse-append items (entry ∷ [])

-- THE CLIENTS

-- the client of a world that has changed, and the others
clients_are : (old new : World) (c : ℕ) (one : Member) → new.members.items ≡ set old.members.items c one
    → (state_of new).clients ≡ set (state_of old).clients c (client_of one)
unfolding state_of
clients_are old new c one is = ap (map client_of) is ∙ clients_with old.members.items c one

-- what a commit leaves beside the plain state
committed_tended : (old new : World) (c : ℕ) (one : Member) → IsWorld old → slice_get old.members.items c ≡ Some one → (later : Member)
    → new.members.items ≡ set old.members.items c later → IsWorldLog new.log → new.log.device ≡ old.log.device
    → KeepsOthers (acts_for old.log.stripes c) new.log.stripes → IsRight old.log.device later.desk → later.desk.plan ≡ plan.Nothing
    → Tended old (event.Commit c) new
committed_tended old new c one is there later members log device keeps right nothing =
    tended_by old new c later (event.Commit c) members log is
    (subst (StaysGiven old.log.device) (sym device) (λ receipt given. given))
    (subst (λ (d : Shelves). IsRight d later.desk) (sym device) right)
    (New refl (subst (IsKept (state_of new) new.log.stripes c) (sym nothing) tt))
    (λ d differ. apart_roomy old.log.stripes new.log.stripes c d differ keeps)
    (λ d differ same. differ (sym same))

ready_at : (old new : World) (c : ℕ) (one later : Member) → slice_get old.members.items c ≡ Some one → new.members.items ≡ set old.members.items c later
    → IsSteady later.peer → IsReadyFor c new
ready_at old new c one later there members steady other at =
    subst (λ (m : Member). IsSteady m.peer)
    (some_same (sym (set_here old.members.items c one later there) ∙ ap (λ (l : List Member). slice_get l c) (sym members) ∙ at)) steady

-- the pages that were read for a call go, and nothing is to be read
right_done : (old : World) (was now : Desk) → IsRight old.log.device was → IsDone was now → now.staged ≡ [] → was.due.items ≡ [] → IsRight old.log.device now
right_done old was now right done staged none =
    let due : now.due.items ≡ [] = ap (λ v. v.items) done.due ∙ none in
    record {
      given = subst (Each (λ (read : ℕ × Receipt). IsGiven old.log.device read.1)) (sym due) tt;
      right = subst AreRight (sym staged) none_right;
      few = λ some. absurd (cc (ap are_none (sym due) ∙ some));
    }

-- THE CALL

calling_same : {at other : Progress} {call again : Call} → Calling at call ≡ Calling other again → call ≡ again
calling_same is = cc is

asked_same : {a b : Asked} → Option.Some a ≡ Some b → a ≡ b
asked_same is = cc is

-- the plan that is kept is of the open call
kept_plan : (state : State) (c : ℕ) (desk : Desk) (peer : ClientState) (at : Progress) (call planned_call : Call) (asked wanted : Asked) (reply : Reply) (writes : List Write)
    → client state c ≡ beside desk peer → peer.phase ≡ Calling at call → IsPlanned state c planned_call asked reply writes → asked_of call ≡ Some wanted
    → IsPlan state.history (operation_of peer.watches wanted) reply writes
kept_plan state c desk peer at call planned_call asked wanted reply writes is calls planned asks =
    let phase : Calling planned.calling.0 planned_call ≡ Calling at call = sym planned.calling.1 ∙ ap (λ (k : ClientState). k.phase) is ∙ calls in
    let same : planned_call ≡ call = calling_same phase in
    let again : asked ≡ wanted = asked_same (sym planned.asks ∙ ap asked_of same ∙ asks) in
    subst (λ (a : Asked). IsPlan state.history (operation_of peer.watches a) reply writes) again
    (subst (λ (k : ClientState). IsPlan state.history (operation_of k.watches asked) reply writes) is planned.plan)

-- no plan is kept of a client whose phase is another
kept_calls : (state : State) (stripes : Stripes) (c : ℕ) (p : Plan) → IsKept state stripes c p
    → ((at : Progress) (call : Call) (asked : Asked) → (client state c).phase ≡ Calling at call → asked_of call ≡ Some asked → ⊥) → p ≡ plan.Nothing
kept_calls state stripes c plan.Nothing kept none = refl
kept_calls state stripes c (plan.Made planned) kept none = absurd (none kept.due.calling.0 kept.call kept.asked kept.due.calling.1 kept.due.asks)
kept_calls state stripes c plan.Full kept none = absurd (none kept.due.calling.0 kept.call kept.asked kept.due.calling.1 kept.due.asks)

-- COMMITS

-- an entry came to the history
answered_state : (old new : World) (entry : Entry) → new.history.items ≡ old.history.items ++ entry ∷ [] → (state_of new).history ≡ entry ∷ (state_of old).history
unfolding state_of
answered_state old new entry is = ap reverse is ∙ reverse_more old.history.items entry

-- a call that was planned right was answered so, and its writes were installed
pub commits_by : PlanLaws → (old new : World) (c : ℕ) (one : Member) (desk : Desk) (peer : ClientState) (at : Progress) (call : Call) (reply : Reply) (writes : List Write)
    (done : Operation × Reply)
    → IsWorld old → slice_get old.members.items c ≡ Some one → one.peer.phase ≡ Calling at call → one.desk.due.items ≡ []
    → is_full_plan one.desk.plan ≡ false
    → ((wanted : Asked) → asked_of call ≡ Some wanted → IsPlan (state_of old).history (operation_of one.peer.watches wanted) reply writes)
    → HasAnswered one.peer one.peer.phase reply (length old.history.items) done peer → IsSteady peer
    → IsDone one.desk desk → desk.plan ≡ plan.Nothing → desk.staged ≡ []
    → new.members.items ≡ set old.members.items c (record one { peer = peer; desk = desk })
    → new.history.items ≡ old.history.items ++ record { session = c; operation = done.0; reply = done.1 } ∷ []
    → HasInstalled old.log.stripes writes (marks_changed c call writes) new.log.stripes
    → KeepsOthers (acts_for old.log.stripes c) new.log.stripes
    → HaveGrown (count_of old.log.stripes) writes (logs_lent (acts_for old.log.stripes c)) (logs_lent new.log.stripes)
    → new.log ≡ with_parts old.log new.log.stripes old.log.device
    → HasCommitted old c new
unfolding state_of
commits_by laws old new c one desk peer at call reply writes done is there calls none unmet plans answered steady ended nothing staged members history installed keeps grown same =
    let here_is = here (state_of old) old.members.items c one refl there in
    let answer : HasAnswered one.peer (Calling at call) reply (length (state_of old).history) done peer =
    subst (λ (n : ℕ). HasAnswered one.peer (Calling at call) reply n done peer) (sym (length-reverse old.history.items))
    (subst (λ (p : Phase). HasAnswered one.peer p reply (length old.history.items) done peer) calls answered) in
    let opens = opens_is laws old new c writes is.log keeps (plan_light (state_of old).history (operation_of one.peer.watches answer.0) reply writes (plans answer.0 answer.1)) grown same in
    let phase : (client (state_of old) c).phase ≡ Calling at call = ap (λ (k : ClientState). k.phase) here_is.0 ∙ calls in
    let later : Member = record one { peer = peer; desk = desk } in
    record {
      commits = subst (λ (p : Phase). Commits (state_of old) c (client (state_of old) c) p (state_of new)) (sym phase)
          (settled (state_of old) (state_of new) c at call reply done.0 done.1 one.desk desk one.peer peer writes is.sound here_is.1 here_is.0 unmet plans answer ended
          (clients_are old new c later members)
          (answered_state old new (record { session = c; operation = done.0; reply = done.1 }) history)
          (installs_is old new writes (marks_changed c call writes) installed) opens.0);
      ready = ready_at old new c one later there members steady;
      tended = committed_tended old new c one is there later members opens.1 (ap (λ (l : WorldLog). l.device) same) keeps
          (right_done old one.desk desk (is.desks c one there) ended staged none) nothing;
    }

-- a call whose plan met a full stripe was refused
pub refuses_by : PlanLaws → (old new : World) (c : ℕ) (one : Member) (desk : Desk) (peer : ClientState) (at : Progress) (call : Call)
    → IsWorld old → slice_get old.members.items c ≡ Some one → one.peer.phase ≡ Calling at call → one.desk.due.items ≡ []
    → one.desk.plan ≡ plan.Full → HasBeenRefused one.peer one.peer.phase peer → IsSteady peer
    → IsDone one.desk desk → desk.plan ≡ plan.Nothing → desk.staged ≡ []
    → new.members.items ≡ set old.members.items c (record one { peer = peer; desk = desk })
    → new.history ≡ old.history → HasCleared old.log c (keys_ended call) new.log
    → HasCommitted old c new
unfolding state_of
refuses_by laws old new c one desk peer at call is there calls none full was steady ended nothing staged members history cleared =
    let here_is = here (state_of old) old.members.items c one refl there in
    let refuse : HasBeenRefused one.peer (Calling at call) peer = subst (λ (p : Phase). HasBeenRefused one.peer p peer) calls was in
    let opens = opens_is laws old new c [] is.log cleared.keeps (omega arith)
    (none_grown laws (count_of old.log.stripes) (logs_lent (acts_for old.log.stripes c)) (logs_lent new.log.stripes) cleared.logs) cleared.else_same in
    let phase : (client (state_of old) c).phase ≡ Calling at call = ap (λ (k : ClientState). k.phase) here_is.0 ∙ calls in
    let later : Member = record one { peer = peer; desk = desk } in
    record {
      commits = subst (λ (p : Phase). Commits (state_of old) c (client (state_of old) c) p (state_of new)) (sym phase)
          (refused (state_of old) (state_of new) c at call one.desk desk one.peer peer here_is.0 (ap is_full_plan full) refuse ended
          (clients_are old new c later members) (ap (λ v. reverse v.items) history)
          (installs_is old new [] (clears c (keys_ended call)) cleared.installed) opens.0);
      ready = ready_at old new c one later there members steady;
      tended = committed_tended old new c one is there later members opens.1 (ap (λ (l : WorldLog). l.device) cleared.else_same) cleared.keeps
          (right_done old one.desk desk (is.desks c one there) ended staged none) nothing;
    }

-- a call that only forgets
forget_is : (call : Call) → asked_of call ≡ None → (keys : List Bytes) × (call ≡ Forget keys)
forget_is (One command) is = absurd (cc is)
forget_is (Watch keys) is = absurd (cc is)
forget_is (Exec commands watching) is = absurd (cc is)
forget_is (Forget watching) is = (watching, refl)

forget_installed : (old new : Stripes) (c : ℕ) (call : Call) → asked_of call ≡ None → HasInstalled old [] (clears c (keys_ended call)) new
    → HasInstalled old [] (marks_changed c call []) new
forget_installed old new c call none is =
    let forgets = forget_is call none in
    subst (λ (k : Call). HasInstalled old [] (marks_changed c k []) new) (sym forgets.1)
    (clears_only old new c forgets.0 (subst (λ (k : Call). HasInstalled old [] (clears c (keys_ended k)) new) forgets.1 is))

pub forgets_by : PlanLaws → (old new : World) (c : ℕ) (one : Member) (desk : Desk) (peer : ClientState) (at : Progress) (call : Call)
    → IsWorld old → slice_get old.members.items c ≡ Some one → one.peer.phase ≡ Calling at call → one.desk.due.items ≡ []
    → asked_of call ≡ None → HasForgotten one.peer one.peer.phase peer → IsSteady peer
    → IsDone one.desk desk → desk.plan ≡ plan.Nothing → desk.staged ≡ []
    → new.members.items ≡ set old.members.items c (record one { peer = peer; desk = desk })
    → new.history ≡ old.history → HasCleared old.log c (keys_ended call) new.log
    → HasCommitted old c new
unfolding state_of
forgets_by laws old new c one desk peer at call is there calls none asks was steady ended nothing staged members history cleared =
    let here_is = here (state_of old) old.members.items c one refl there in
    let forget : HasForgotten one.peer (Calling at call) peer = subst (λ (p : Phase). HasForgotten one.peer p peer) calls was in
    let opens = opens_is laws old new c [] is.log cleared.keeps (omega arith)
    (none_grown laws (count_of old.log.stripes) (logs_lent (acts_for old.log.stripes c)) (logs_lent new.log.stripes) cleared.logs) cleared.else_same in
    let phase : (client (state_of old) c).phase ≡ Calling at call = ap (λ (k : ClientState). k.phase) here_is.0 ∙ calls in
    let no_plan : one.desk.plan ≡ plan.Nothing =
    kept_calls (state_of old) old.log.stripes c one.desk.plan (is.plans c one there)
    (λ other again asked stands has. absurd (cc (sym asks ∙ ap asked_of (calling_same (sym phase ∙ stands)) ∙ has))) in
    let later : Member = record one { peer = peer; desk = desk } in
    record {
      commits = subst (λ (p : Phase). Commits (state_of old) c (client (state_of old) c) p (state_of new)) (sym phase)
          (forgotten (state_of old) (state_of new) c at call one.desk desk one.peer peer here_is.0 (ap is_full_plan no_plan) asks forget ended
          (clients_are old new c later members) (ap (λ v. reverse v.items) history)
          (installs_is old new [] (marks_changed c call []) (forget_installed old.log.stripes new.log.stripes c call asks cleared.installed)) opens.0);
      ready = ready_at old new c one later there members steady;
      tended = committed_tended old new c one is there later members opens.1 (ap (λ (l : WorldLog). l.device) cleared.else_same) cleared.keeps
          (right_done old one.desk desk (is.desks c one there) ended staged none) nothing;
    }

-- a session that is over forgot what it watched
pub leaves_by : PlanLaws → (old new : World) (c : ℕ) (one : Member) (peer : ClientState) (keys : List Bytes)
    → IsWorld old → slice_get old.members.items c ≡ Some one → one.peer.phase ≡ Leaving keys
    → peer ≡ record one.peer { phase = Left; watches = [] }
    → new.members.items ≡ set old.members.items c (record one { peer = peer })
    → new.history ≡ old.history → HasCleared old.log c keys new.log
    → HasCommitted old c new
unfolding state_of
leaves_by laws old new c one peer keys is there leaves left members history cleared =
    let here_is = here (state_of old) old.members.items c one refl there in
    let opens = opens_is laws old new c [] is.log cleared.keeps (omega arith)
    (none_grown laws (count_of old.log.stripes) (logs_lent (acts_for old.log.stripes c)) (logs_lent new.log.stripes) cleared.logs) cleared.else_same in
    let phase : (client (state_of old) c).phase ≡ Leaving keys = ap (λ (k : ClientState). k.phase) here_is.0 ∙ leaves in
    let no_plan : one.desk.plan ≡ plan.Nothing =
    kept_calls (state_of old) old.log.stripes c one.desk.plan (is.plans c one there)
    (λ other again asked stands has. no_leaving (sym phase ∙ stands)) in
    let later : Member = record one { peer = peer } in
    record {
      commits = subst (λ (p : Phase). Commits (state_of old) c (client (state_of old) c) p (state_of new)) (sym phase) (
        clients_are old new c later members
            ∙ ap (λ (p : ClientState). set (state_of old).clients c (beside one.desk p)) left
            ∙ ap (λ (k : ClientState). set (state_of old).clients c (record k { phase = Left; watches = [] })) (sym here_is.0),
        ap (λ v. reverse v.items) history,
        installs_is old new [] (clears c keys) cleared.installed,
        opens.0,
      );
      ready = ready_at old new c one later there members (subst IsSteady (sym left) tt);
      tended = committed_tended old new c one is there later members opens.1 (ap (λ (l : WorldLog). l.device) cleared.else_same) cleared.keeps
          (is.desks c one there) no_plan;
    }
  where
    no_leaving : {keys : List Bytes} {at : Progress} {call : Call} → Leaving keys ≡ Calling at call → ⊥
    no_leaving e = cc e

-- A CALL THAT IS PLANNED AT ITS COMMIT

-- the stripes of a sound world hold what its state has
stands_itself : (world : World) → StandIn (state_of world) world.log.stripes
unfolding state_of
stands_itself world = record { count = refl; stores = refl; marks = refl }

pub run_plan : HistoryLaws → (old : World) (c : ℕ) (one : Member) (at : Progress) (call : Call) (reply : Reply) (writes : List Write) (wanted : Asked)
    → IsWorld old → slice_get old.members.items c ≡ Some one → one.peer.phase ≡ Calling at call → IsSteady one.peer → asked_of call ≡ Some wanted
    → (AreShort old.log.stripes c → IsDue old.log.stripes c call reply writes)
    → IsPlan (state_of old).history (operation_of one.peer.watches wanted) reply writes
unfolding state_of
run_plan laws old c one at call reply writes wanted is there calls steady asks due =
    let here_is = here (state_of old) old.members.items c one refl there in
    plan_is laws (state_of old) old.log.stripes c one.peer.watches at call wanted reply writes is.sound here_is.1 (stands_itself old)
    (ap (λ (k : ClientState). k.watches) here_is.0) (subst (Attends one.peer.watches) calls steady) asks due

-- IN THE WORDS OF THE CODE

-- a client's open call lacks no stripe
pub call_all : (old : World) (c : ℕ) (one : Member) (call : Call) → slice_get old.members.items c ≡ Some one
    → is_enabled_for (state_of old) c (client (state_of old) c) (event.Commit c) ≡ true → open_call one.peer.phase ≡ Some call
    → first_missing old.log.stripes.holders.items c (stripes_asked (length old.log.stripes.holders.items) call) ≡ None
unfolding state_of
call_all old c one call there enabled opens =
    subst (λ (o : Option Call). next_stripe (state_of old) c o ≡ None)
    (ap (λ (k : ClientState). open_call k.phase) (here (state_of old) old.members.items c one refl there).0 ∙ opens)
    (commit_parts old c one there enabled).all

-- what a client's phase is
pub phase_here : (old : World) (c : ℕ) (one : Member) (P : Phase → Type 0) → slice_get old.members.items c ≡ Some one → P (client (state_of old) c).phase
    → P one.peer.phase
unfolding state_of
phase_here old c one P there is = subst P (ap (λ (k : ClientState). k.phase) (here (state_of old) old.members.items c one refl there).0) is

-- a plan that was made is kept right
pub made_kept : (old : World) (c : ℕ) (one : Member) (planned : Planned) → IsWorld old → slice_get old.members.items c ≡ Some one
    → plan.Made planned ≡ one.desk.plan → IsMade (state_of old) old.log.stripes c planned
made_kept old c one planned is there made = subst (IsKept (state_of old) old.log.stripes c) (sym made) (is.plans c one there)

pub made_call : (old : World) (c : ℕ) (one : Member) (at : Progress) (call : Call) (planned : Planned) → slice_get old.members.items c ≡ Some one
    → one.peer.phase ≡ Calling at call → (kept : IsMade (state_of old) old.log.stripes c planned) → kept.call ≡ call
unfolding state_of
made_call old c one at call planned there calls kept =
    calling_same (sym kept.due.calling.1 ∙ ap (λ (k : ClientState). k.phase) (here (state_of old) old.members.items c one refl there).0 ∙ calls)

pub made_roomy : (old : World) (c : ℕ) (planned : Planned) → IsMade (state_of old) old.log.stripes c planned
    → AreRoomy (length old.log.stripes.holders.items) (logs_lent (acts_for old.log.stripes c)) planned.writes
unfolding state_of
made_roomy old c planned kept = kept.roomy

-- a client whose call was answered
pub answers_by : PlanLaws → (old new : World) (c : ℕ) (one : Member) (desk : Desk) (at : Progress) (call : Call) (reply : Reply) (writes : List Write) (log : WorldLog)
    → IsWorld old → slice_get old.members.items c ≡ Some one
    → is_enabled_for (state_of old) c (client (state_of old) c) (event.Commit c) ≡ true
    → one.peer.phase ≡ Calling at call → is_full_plan one.desk.plan ≡ false
    → ((wanted : Asked) → asked_of call ≡ Some wanted → IsPlan (state_of old).history (operation_of one.peer.watches wanted) reply writes)
    → IsDone one.desk desk → desk.plan ≡ plan.Nothing → desk.staged ≡ []
    → HasInstalled old.log.stripes writes (marks_changed c call writes) log.stripes
    → KeepsOthers (acts_for old.log.stripes c) log.stripes
    → HaveGrown (count_of old.log.stripes) writes (logs_lent (acts_for old.log.stripes c)) (logs_lent log.stripes)
    → log ≡ with_parts old.log log.stripes old.log.device
    → HasAnsweredAt (let w : World = record old { members = with_item old.members c (record one { desk = desk }); log = log } in w) c reply new
    → HasCommitted old c new
answers_by laws old new c one desk at call reply writes log is there enabled calls unmet plans ended nothing staged installed keeps grown same a =
    let mid : Member = record one { desk = desk } in
    let at_mid : a.one ≡ mid = some_same (sym a.there ∙ set_here old.members.items c one mid there) in
    let log_is : new.log ≡ log = ap (λ (w : World). w.log) a.else_same in
    let members : new.members.items ≡ set old.members.items c (record one { peer = a.peer; desk = desk }) =
    ap (λ (w : World). w.members.items) a.else_same
    ∙ ap (λ (m : Member). set (set old.members.items c mid) c (record m { peer = a.peer })) at_mid
    ∙ set-set_at old.members.items c mid (record one { peer = a.peer; desk = desk }) in
    commits_by laws old new c one desk a.peer at call reply writes a.done is there calls (commit_parts old c one there enabled).none unmet plans
    (subst (λ (m : Member). HasAnswered m.peer m.peer.phase reply (length old.history.items) a.done a.peer) at_mid a.answered)
    a.steady ended nothing staged members a.history
    (subst (λ (l : WorldLog). HasInstalled old.log.stripes writes (marks_changed c call writes) l.stripes) (sym log_is) installed)
    (subst (λ (l : WorldLog). KeepsOthers (acts_for old.log.stripes c) l.stripes) (sym log_is) keeps)
    (subst (λ (l : WorldLog). HaveGrown (count_of old.log.stripes) writes (logs_lent (acts_for old.log.stripes c)) (logs_lent l.stripes)) (sym log_is) grown)
    (subst (λ (l : WorldLog). l ≡ with_parts old.log l.stripes old.log.device) (sym log_is) same)

pub installs_by : PlanLaws → (old new : World) (c : ℕ) (one : Member) (desk : Desk) (at : Progress) (call : Call) (reply : Reply) (planned : Planned) (log : WorldLog)
    → IsWorld old → slice_get old.members.items c ≡ Some one
    → is_enabled_for (state_of old) c (client (state_of old) c) (event.Commit c) ≡ true
    → one.peer.phase ≡ Calling at call → plan.Made planned ≡ one.desk.plan → reply ≡ planned.reply
    → IsDone one.desk desk → desk.plan ≡ plan.Nothing → desk.staged ≡ []
    → HasPut old.log c call planned log
    → HasAnsweredAt (let w : World = record old { members = with_item old.members c (record one { desk = desk }); log = log } in w) c reply new
    → HasCommitted old c new
unfolding state_of
installs_by laws old new c one desk at call reply planned log is there enabled calls made replies ended nothing staged put a =
    let kept = made_kept old c one planned is there made in
    let same : kept.call ≡ call = made_call old c one at call planned there calls kept in
    answers_by laws old new c one desk at call reply planned.writes log is there enabled calls (ap is_full_plan (sym made))
    (λ wanted asks. subst (λ (r : Reply). IsPlan (state_of old).history (operation_of one.peer.watches wanted) r planned.writes) (sym replies)
    (kept_plan (state_of old) c one.desk one.peer at call kept.call kept.asked wanted planned.reply planned.writes
    (here (state_of old) old.members.items c one refl there).0 calls kept.due asks))
    ended nothing staged put.installed put.keeps put.grown put.else_same a

stage_nothing : (p : Plan) → IsStage stage.Nothing p → p ≡ plan.Nothing
stage_nothing plan.Nothing is = refl
stage_nothing (plan.Made planned) is = absurd is
stage_nothing plan.Full is = absurd is

pub stage_full : (p : Plan) → IsStage stage.Full p → p ≡ plan.Full
stage_full plan.Nothing is = absurd is
stage_full (plan.Made planned) is = absurd is
stage_full plan.Full is = refl

pub runs_by : HistoryLaws → PlanLaws → (old new : World) (c : ℕ) (one : Member) (desk : Desk) (at : Progress) (call : Call) (reply : Reply) (log : WorldLog)
    → IsWorld old → slice_get old.members.items c ≡ Some one
    → is_enabled_for (state_of old) c (client (state_of old) c) (event.Commit c) ≡ true
    → one.peer.phase ≡ Calling at call → IsStage stage.Nothing one.desk.plan
    → IsDone one.desk desk → desk.plan ≡ plan.Nothing → desk.staged ≡ []
    → HasRun old.log c call reply log
    → HasAnsweredAt (let w : World = record old { members = with_item old.members c (record one { desk = desk }); log = log } in w) c reply new
    → HasCommitted old c new
runs_by history laws old new c one desk at call reply log is there enabled calls none ended nothing staged ran a =
    answers_by laws old new c one desk at call reply [] log is there enabled calls (ap is_full_plan (stage_nothing one.desk.plan none))
    (λ wanted asks. run_plan history old c one at call reply [] wanted is there calls (steady_here old c one is there) asks ran.due)
    ended nothing staged ran.installed ran.keeps ran.grown ran.else_same a

-- the session of a client that forgets what it watched
pub on_forget : (phase : Phase) (keys : Bor Watching) → OnCall (opens.Forget keys) phase → phase ≡ Leaving keys.now
on_forget (Serving at) keys is = absurd is
on_forget (Calling at call) keys is = absurd is
on_forget (Leaving others) keys is = ap (λ (k : List Bytes). Leaving k) is
on_forget Left keys is = absurd is
on_forget Ended keys is = absurd is

-- it is lent all stripes of what it watched
pub leaving_there : (old : World) (c : ℕ) (one : Member) (keys : List Bytes) → IsWorldLog old.log → slice_get old.members.items c ≡ Some one
    → is_enabled_for (state_of old) c (client (state_of old) c) (event.Commit c) ≡ true → one.peer.phase ≡ Leaving keys
    → AreThere (length old.log.stripes.holders.items) (lent (acts_for old.log.stripes c)) keys
leaving_there old c one keys is there enabled leaves =
    calls_there (acts_for old.log.stripes c) keys (even_acts old.log.stripes c is.even) (call_all old c one (Forget keys) there enabled (ap open_call leaves))

-- a call that only forgets asks for nothing
pub forgets_nothing : (phase : Phase) (at : Progress) (call : Call) → phase ≡ Calling at call → IsForgetting phase → asked_of call ≡ None
forgets_nothing phase at call calls is = subst IsForgetting calls is
