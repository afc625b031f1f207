-- A call that was answered is committed as the world's definitions say.
use Rattle.std.proofs.Common.{◌≡◌, ◌∙◌, ℕ, ◌<◌, Bool, true, false, List, [], ◌∷◌, length, set, Option, Some, None, refl, ap₂, subst}
use Rattle.words.specs.declared.history.Entry.{Entry}
use Rattle.words.specs.declared.history.Operation.{Operation}
use Rattle.words.specs.declared.reply.Reply.{Reply}
use Rattle.words.specs.declared.reply.Fault.TheVariants.{StoreFull}
use Rattle.words.specs.Store.{Write}
use Rattle.words.specs.History.{HasPlace, Pair, keys_of_pairs}
use Rattle.words.specs.Watches.{watched_after}
use Rattle.words.specs.Session.{Asked, operation_of, watched_at_fault}
use Rattle.words.specs.Session as asked
use Rattle.transact.specs.declared.call.Call.{Call}
use Rattle.transact.specs.declared.call.Call.TheVariants.{One, Watch, Exec, Forget}
use Rattle.transact.specs.declared.call.Answer.TheVariants as answer
use Rattle.transact.specs.Calls.{asked_of, call_of}
use Rattle.transact.specs.Plans.{EndsAll, IsEntry, IsPlan, keys_ended}
use Rattle.transact.specs.Tables.{clears}
use Rattle.connection.specs.Clients.{Progress}
use Rattle.plans.specs.Sizes.{IsPlaced}
use Rattle.world_model.specs.States.{Phase, Calling, ClientState, State, client}
use Rattle.world_model.specs.Advancing.{When}
use Rattle.world_model.specs.Planning.{reply_now, writes_now}
use Rattle.world_model.specs.Commits.{Commits, Installs, OpensPages, Resumed, marks_changed}
use Rattle.world_model.specs.Soundness.{IsSound}
use Rattle.world.specs.Peers.{Attends, HasAnswered, HasBeenRefused, HasForgotten, IsAsking}
use Rattle.world.specs.Desks.{IsDone, beside, is_full_plan}
use Rattle.world.specs.declared.desk.Desk.{Desk}
use Rattle.world.proofs.Givings.{place_given}
use Rattle.world.proofs.Members.{resumed_beside}
use Rattle.world.proofs.Standing.{due_now}

pub when_true : (t : Bool) (P Q : Type 0) → t ≡ true → P → When t P Q
when_true true P Q is p = p
when_true false P Q is p = absurd (cc is)

pub when_false : (t : Bool) (P Q : Type 0) → t ≡ false → Q → When t P Q
when_false true P Q is q = absurd (cc is)
when_false false P Q is q = q

-- a call that asks for something comes to an entry, and is within the limits
entry_of : (call : Call) (wanted : Asked) → asked_of call ≡ Some wanted → ((pairs : List Pair) → HasPlace (operation_of pairs wanted))
    → IsEntry call × IsPlaced call
entry_of (One command) wanted asks place = let placed = rw (← asked_same asks) at (place []) in (placed.0, placed)
  where
    asked_same : {a b : Asked} → Option.Some a ≡ Some b → a ≡ b
    asked_same is = cc is
entry_of (Watch keys) wanted asks place = (tt, tt)
entry_of (Exec commands watching) wanted asks place = (tt, rw (← asked_same asks) at (place []))
  where
    asked_same : {a b : Asked} → Option.Some a ≡ Some b → a ≡ b
    asked_same is = cc is
entry_of (Forget watching) wanted asks place = absurd (cc asks)

pub entry_at : (watches : List Pair) (phase : Phase) (at : Progress) (call : Call) → phase ≡ Calling at call → Attends watches phase → IsAsking phase
    → IsEntry call × IsPlaced call
entry_at watches phase at call is steady asking =
    let gives = rw is at steady in
    let asks = rw is at asking in
    entry_of call asks.0 asks.1 (λ pairs. place_given gives.0 at call asks.0 pairs gives.2 asks.1)

-- a transaction goes by all that its client watches
pub ends_all : (call : Call) (wanted : Asked) (watches : List Pair) → call ≡ call_of (keys_of_pairs watches) wanted → EndsAll call watches
ends_all call (asked.Run command) watches is = rw is tt
ends_all call (asked.Watch keys) watches is = rw is tt
ends_all call (asked.Exec commands) watches is = rw is refl

-- a call that was planned right, and answered so
pub settled : (before after : State) (c : ℕ) (at : Progress) (call : Call) (reply : Reply) (operation : Operation) (said : Reply) (old new : Desk)
    (peer later : ClientState) (writes : List Write)
    → IsSound before → c < length before.clients → client before c ≡ beside old peer → is_full_plan old.plan ≡ false
    → ((wanted : Asked) → asked_of call ≡ Some wanted → IsPlan before.history (operation_of peer.watches wanted) reply writes)
    → HasAnswered peer (Calling at call) reply (length before.history) (operation, said) later → IsDone old new
    → after.clients ≡ set before.clients c (beside new later)
    → after.history ≡ record { session = c; operation = operation; reply = said } ∷ before.history
    → Installs before writes (marks_changed c call writes) after → OpensPages before writes after
    → Commits before c (client before c) (Calling at call) after
settled before after c at call reply operation said old new peer later writes sound below is unmet plans answered done clients history installs opens =
    let wanted : Asked = answered.0 in
    let asks : asked_of call ≡ Some wanted = answered.1 in
    let made : Operation = operation_of peer.watches wanted in
    let plan : IsPlan before.history made reply writes = plans wanted asks in
    let now = rw is at (due_now before c wanted below sound) in
    let replies : reply ≡ reply_now before c made = plan.reply_due ∙ now.0 in
    let all : writes ≡ writes_now before c made = plan.writes_due ∙ now.1 in
    rw is
    (when_false (is_full_plan old.plan) _ _ unmet
    (rw asks (
      (
        beside new later,
        subst (λ (r : Reply). Resumed (beside old peer) at (answer.Reply r) (watched_after peer.watches made (length before.history)) (beside new later)) replies
            (resumed_beside old new peer at (answer.Reply reply) (watched_after peer.watches made (length before.history)) later done answered.4),
        clients,
        history
            ∙ ap₂ (λ (o : Operation) (r : Reply). (let entry : Entry = record { session = c; operation = o; reply = r } in entry) ∷ before.history) answered.2
            (answered.3 ∙ replies),
      ),
      subst (λ (ws : List Write). Installs before ws (marks_changed c call ws) after) all installs,
      subst (λ (ws : List Write). OpensPages before ws after) all opens,
    )))

-- one whose plan met a full stripe
pub refused : (before after : State) (c : ℕ) (at : Progress) (call : Call) (old new : Desk) (peer later : ClientState)
    → client before c ≡ beside old peer → is_full_plan old.plan ≡ true
    → HasBeenRefused peer (Calling at call) later → IsDone old new
    → after.clients ≡ set before.clients c (beside new later) → after.history ≡ before.history
    → Installs before [] (clears c (keys_ended call)) after → OpensPages before [] after
    → Commits before c (client before c) (Calling at call) after
refused before after c at call old new peer later is full was done clients history installs opens =
    rw is
    (when_true (is_full_plan old.plan) _ _ full (
      rw was.1 (
        beside new later,
        resumed_beside old new peer at (answer.Fault StoreFull) (watched_at_fault peer.watches was.0) later done was.2,
        clients,
        history,
      ),
      installs,
      opens,
    ))

-- one that only forgets
pub forgotten : (before after : State) (c : ℕ) (at : Progress) (call : Call) (old new : Desk) (peer later : ClientState)
    → client before c ≡ beside old peer → is_full_plan old.plan ≡ false → asked_of call ≡ None
    → HasForgotten peer (Calling at call) later → IsDone old new
    → after.clients ≡ set before.clients c (beside new later) → after.history ≡ before.history
    → Installs before [] (marks_changed c call []) after → OpensPages before [] after
    → Commits before c (client before c) (Calling at call) after
forgotten before after c at call old new peer later is unmet none was done clients history installs opens =
    rw is
    (when_false (is_full_plan old.plan) _ _ unmet
    (rw none (
      (beside new later, was.0, resumed_beside old new peer at was.0 [] later done was.1, clients, history),
      installs,
      opens,
    )))
