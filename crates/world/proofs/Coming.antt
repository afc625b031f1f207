-- A client that took the last of its stripes: what its call comes to is what the world's definitions plan.
use Rattle.std.proofs.Common.{◌≡◌, ◌≢◌, ◌∙◌, ℕ, zero, suc, ◌<◌, Bool, true, false, List, [], ◌∷◌, ◌++◌, length, get_or, set, map, replicate, Option, Some, None, refl, sym, ap, ap₂, subst, inl, length-set, nat_eq, if◌then◌else◌}
use Rattle.std.specs.Prelude.{slice_get, option_map}
use Rattle.std.specs.Vec.{with_item}
use Rattle.std.proofs.lemmas.List.{get_or-set_same}
use Rattle.std.proofs.lemmas.Bool.Decides.{Decides-eqb}
use Rattle.words.specs.declared.history.Operation.{Operation}
use Rattle.words.specs.declared.reply.Reply.{Reply}
use Rattle.words.specs.Store.{Bytes, Store, Write}
use Rattle.words.specs.Watches.{Marks}
use Rattle.words.specs.Stripes.{stripe_of}
use Rattle.words.specs.History.{History, Pair, after, due, keys_named}
use Rattle.words.specs.Session.{Asked, operation_of}
use Rattle.gates.specs.Passes.{AreWatched}
use Rattle.hybrid.specs.HybridLog.{HybridLog, HasRoom, Kept}
use Rattle.hybrid.specs.Staging.{AreRight}
use Rattle.transact.specs.declared.call.Call.{Call}
use Rattle.transact.specs.Calls.{asked_of, call_keys}
use Rattle.transact.specs.Plans.{IsEntry, IsPlan, keys_begun, made}
use Rattle.transact.specs.Submits.{stripes_asked}
use Rattle.transact.specs.Tables.{Became, Stand, begins, stays}
use Rattle.plans.specs.declared.planned.Planned.{Planned}
use Rattle.shards.specs.declared.shard.Shard.{Shard}
use Rattle.shards.specs.Rooms.{AreRoomy, MakesRoom}
use Rattle.shards.specs.Rooms as rooms
use Rattle.plans.specs.Sizes.{IsPlaced}
use Rattle.shards.specs.Shards.{logs_of, shard_log, shard_meaning, shard_store, shard_marks}
use Rattle.connection.specs.Clients.{Progress}
use Rattle.world_log.specs.Places.{Receipt, Shelves, Wrote, SamePlaces, view}
use Rattle.world_log.specs.Freeing.{HasFreed, HasStepped}
use Rattle.world_log.specs.Given.{IsGiven, StaysGiven}
use Rattle.world_log.specs.PlanLaws.{IsMade as RoomIsMade, IsStill, ReadLaws, SameValues, logs_lent, with_parts}
use Rattle.world_log.specs.Stripes.{KeepsOthers, acts_for, lane_log, lent, part_in, states_of, stores_of, marks_of}
use Rattle.world_log.specs.WorldLogs.{IsWorldLog, KeepsHeld, NoneReleasedAt, stays_of}
use Rattle.world_log.specs.WorldLogs as logs
use Rattle.world_log.specs.Types.{Lane, Stripes}
use Rattle.world_log.specs.declared.logs.WorldLog.{WorldLog}
use Rattle.world_model.specs.States.{Phase, Calling, ClientState, State, client, fresh, log_at, open_call, stripe_count, with_client}
use Rattle.world_model.specs.Enabled.{are_none, first_missing, holds, is_number, next_stripe}
use Rattle.world_model.specs.Places.{Each}
use Rattle.world_model.specs.Planned.{IsPlanned}
use Rattle.world_model.specs.Planning.{AreCold, Plans, Names, MakesRoom as MakesRoomFor, MeetsFull as MeetsFullAt, PlansFor, ROUNDS, asked_by, writes_now}
use Rattle.world_model.specs.Rooms.{AreWritten, HasNoPlace, Leaves, Frees as FreesPlace, Retires, Drains, Releases, Steps, ByPage, ByPlace, StepsAll, is_spent, is_written_in}
use Rattle.world_model.specs.Soundness.{IsSound}
use Rattle.world.specs.Laws.{HistoryLaws, PlanLaws, TurnLaws}
use Rattle.world.specs.Desks.{IsRight, beside, client_of, due_of, is_full_plan}
use Rattle.world.specs.Peers.{Attends, IsAsking}
use Rattle.world.specs.Members.{HasPlannedFor, IsReadyToPlan, Plans as PlansCall, Waits as WaitsCall}
use Rattle.world.specs.Planning.{AreShort, HasArranged, HasEnded, HasMet, HasNamed, HasPlanned, IsDue, IsReadFor, KeepsDesk, count_of, looks_up, Again, Frees, Makes, Names as NamesPages, Meets, Stays}
use Rattle.world.specs.Tables.{HasComeTo, IsKept, IsMade, IsTaken, StaysRoomy, rest_of, state_of}
use Rattle.world.specs.declared.desk.Desk.{Desk}
use Rattle.world.specs.declared.desk.Plan.{Plan}
use Rattle.world.specs.declared.desk.Plan.TheVariants as plan
use Rattle.world.specs.declared.member.Member.{Member}
use Rattle.world.specs.declared.world.World.{World}
use Rattle.world.proofs.Givings.{call_given}
use Rattle.world.proofs.Installing.{even_acts}
use Rattle.world.proofs.Members.{client_there, clients_with}
use Rattle.world.proofs.Settling.{ends_all, entry_at}
use Rattle.world.proofs.Standing.{due_now, stand_held, whole_is}
use Rattle.world.proofs.Taking.{are_short, asked_some, begins_nothing, calling_of, held_parts, keys_same, writes_same}
use Rattle.world.proofs.Worlds.{here, set_here}

-- WHAT THE STRIPES HOLD

-- stripes hold what a state has in its own
pub record StandIn (state : State) (stripes : Stripes) : Type 0 where
  pub count : stripe_count state ≡ count_of stripes
  pub stores : stores_of stripes ≡ state.stores
  pub marks : marks_of stripes ≡ state.marks

-- values are short there
pub short_in : HistoryLaws → (state : State) (stripes : Stripes) (c : ℕ) → IsSound state → StandIn state stripes → AreShort stripes c
short_in laws state stripes c sound stands = are_short stripes c (after state.history) (laws.short state.history sound.legal) same
  where
    same : (key : Bytes) → stores_of stripes (stripe_of (length stripes.holders.items) key) key ≡ after state.history key
    same key =
        ap (λ (f : ℕ → Store). f (stripe_of (length stripes.holders.items) key) key) stands.stores
        ∙ ap (λ (n : ℕ). state.stores (stripe_of n key) key) (sym stands.count)
        ∙ ap (λ (s : Store). s key) (whole_is state sound)

-- and the history stands before them
pub stand_in : (state : State) (stripes : Stripes) (c : ℕ) → IsSound state → c < length state.clients → StandIn state stripes
    → Stand (shard_meaning ⊥) (count_of stripes) (lent (acts_for stripes c)) state.history c (client state c).watches
stand_in state stripes c sound below stands =
    subst (λ (n : ℕ). Stand (shard_meaning ⊥) n (lent (acts_for stripes c)) state.history c (client state c).watches) stands.count
    (stand_held (shard_meaning ⊥) (lent (acts_for stripes c)) state c held below sound)
  where
    held : (i : ℕ) (part : Shard Receipt) → lent (acts_for stripes c) i ≡ Some part
        → ((key : Bytes) → shard_store part key ≡ state.stores i key)
        × ((key : Bytes) (session : ℕ) → stripe_of (stripe_count state) key ≡ i → shard_marks part key session ≡ state.marks key session)
    held i part at =
        let has = held_parts stripes c i part at in (
          λ key. has.0 key ∙ ap (λ (f : ℕ → Store). f i key) stands.stores,
          λ key session on.
              has.1 key session (subst (λ (n : ℕ). stripe_of n key ≡ i) stands.count on) ∙ ap (λ (m : Marks). m key session) stands.marks,
        )

-- WHAT IS DUE

-- what is due of a call to a client whose session gave it
pub plan_is : HistoryLaws → (state : State) (stripes : Stripes) (c : ℕ) (watches : List Pair) (at : Progress) (call : Call) (wanted : Asked) (reply : Reply) (writes : List Write)
    → IsSound state → c < length state.clients → StandIn state stripes → (client state c).watches ≡ watches
    → Attends watches (Calling at call) → asked_of call ≡ Some wanted
    → (AreShort stripes c → IsDue stripes c call reply writes)
    → IsPlan state.history (operation_of watches wanted) reply writes
plan_is laws state stripes c watches at call wanted reply writes sound below stands same steady asks due =
    due (short_in laws state stripes c sound stands) wanted state.history watches asks
    (subst (λ (ws : List Pair). Stand (shard_meaning ⊥) (count_of stripes) (lent (acts_for stripes c)) state.history c ws) same (stand_in state stripes c sound below stands))
    (ends_all call wanted watches (call_given steady.0 at call wanted watches steady.1 steady.2 asks))
    (subst (λ (ws : List Pair). AreWatched ws ws) same (sound.clients c below).once)

-- and what it writes is what is written now
pub writes_are : (state now : State) (c : ℕ) (watches : List Pair) (wanted : Asked) (writes : List Write)
    → IsSound state → c < length state.clients → (client state c).watches ≡ watches
    → stripe_count state ≡ stripe_count now → state.stores ≡ now.stores → state.marks ≡ now.marks
    → writes ≡ made state.history (operation_of watches wanted) → writes ≡ writes_now now c (operation_of watches wanted)
writes_are state now c watches wanted writes sound below same count stores marks is =
    is
    ∙ subst (λ (ws : List Pair). made state.history (operation_of ws wanted) ≡ writes_now state c (operation_of ws wanted)) same
    (due_now state c wanted below sound).1
    ∙ writes_same state now c (operation_of watches wanted) count stores marks

-- WHERE A CLIENT ACTS

-- a world's log where a client acts is as right
pub acting : WorldLog → ℕ → WorldLog
acting log c = with_parts log (acts_for log.stripes c) log.device

pub acting_right : (log : WorldLog) (c : ℕ) → IsWorldLog log → IsWorldLog (with_parts log (acts_for log.stripes c) log.device)
acting_right log c is = record { even = even_acts log.stripes c is.even; lanes = is.lanes }

-- with the same places on the device too
read_right : ReadLaws → (log : WorldLog) (c : ℕ) (read : Shelves) → IsWorldLog log → SamePlaces log.device read
    → IsWorldLog (with_parts log (acts_for log.stripes c) read)
read_right laws log c read is same = laws.log (with_parts log (acts_for log.stripes c) log.device) read same (acting_right log c is)

-- Pages left their frames for writes, over a device whose places are those of the log.
pub made_room : PlanLaws → (rest : State) (log : WorldLog) (c : ℕ) (stripes : Stripes) (read device : Shelves) (writes : List Write)
    → IsWorldLog log → SamePlaces log.device read → KeepsOthers (acts_for log.stripes c) stripes → SameValues (acts_for log.stripes c) stripes
    → MakesRoom Wrote view (count_of log.stripes) (count_of log.stripes) writes (logs_lent (acts_for log.stripes c)) read (logs_lent stripes) device
    → RoomIsMade rest log (with_parts log stripes device) writes
made_room laws rest log c stripes read device writes is same keeps values makes =
    let made = laws.rooms.made rest (with_parts log (acts_for log.stripes c) read) stripes device writes
    (read_right laws.reads log c read is same) keeps values makes in
    record {
      stripes = made.stripes;
      written = made.written;
      sheds = subst (λ (s : State). StepsAll s made.stripes (logs.state_of rest (with_parts log stripes device)))
          (laws.reads.state rest (with_parts log (acts_for log.stripes c) log.device) read same) made.sheds;
      log = made.log;
      given = λ receipt given. made.given receipt (laws.reads.given log.device read same receipt given);
    }

pub met_full : PlanLaws → (rest : State) (log : WorldLog) (c : ℕ) (stripes : Stripes) (read device : Shelves) (writes : List Write) (i : ℕ)
    → IsWorldLog log → SamePlaces log.device read → KeepsOthers (acts_for log.stripes c) stripes → SameValues (acts_for log.stripes c) stripes
    → 0 < rooms.share (count_of log.stripes) i writes → i < count_of log.stripes
    → MakesRoom Wrote view (count_of log.stripes) (suc i) writes (logs_lent (acts_for log.stripes c)) read (logs_lent stripes) device
    → rooms.IsFullAt (logs_lent stripes) i
    → RoomIsMade rest log (with_parts log stripes device) writes × (is_written_in (count_of log.stripes) writes i ≡ true)
    × HasNoPlace (logs.state_of rest (with_parts log stripes device)) i
met_full laws rest log c stripes read device writes i is same keeps values some below makes full =
    let met = laws.rooms.full rest (with_parts log (acts_for log.stripes c) read) stripes device writes i
    (read_right laws.reads log c read is same) keeps values some below makes full in
    let made = met.0 in (
      record {
        stripes = made.stripes;
        written = made.written;
        sheds = subst (λ (s : State). StepsAll s made.stripes (logs.state_of rest (with_parts log stripes device)))
            (laws.reads.state rest (with_parts log (acts_for log.stripes c) log.device) read same) made.sheds;
        log = made.log;
        given = λ receipt given. made.given receipt (laws.reads.given log.device read same receipt given);
      },
      met.1,
      met.2,
    )

-- no room is made for no writes
room_for_none : (n k : ℕ) (old new : ℕ → Option HybridLog) (device : Shelves) → ((i : ℕ) → new i ≡ old i)
    → MakesRoom Wrote view n k [] old device new device
room_for_none n zero old new device same = (same, refl)
room_for_none n (suc k) old new device same = (old, device, room_for_none n k old old device (λ i. refl), inl (refl, same, refl))

none_written : (n : ℕ) (stripes : List ℕ) (before after : State) → AreWritten n [] stripes → StepsAll before stripes after → after ≡ before
none_written n [] before after written sheds = sheds
none_written n (i ∷ more) before after written sheds = absurd (no written.0)
  where
    no : false ≡ true → ⊥
    no is = cc is

-- parts that are the same became nothing else
same_became : (n : ℕ) (old new : ℕ → Option (Shard Receipt)) → new ≡ old → Became (shard_meaning ⊥) n [] stays old new
same_became n old new same =
    subst (λ (parts : ℕ → Option (Shard Receipt)). Became (shard_meaning ⊥) n [] stays old parts) (sym same) (record {
      there = λ i some. some;
      was = λ i part at. (
        part,
        at,
        record {
          here = λ key on. refl;
          away = λ key off. refl;
          marks = λ key session on. refl;
          aside = λ key session off. refl;
        },
      );
    })

pub still : IsStill stays
still key number mark = refl

-- where the parts are the same, all is
pub same_parts : PlanLaws → (rest : State) (log : WorldLog) (c : ℕ) (stripes : Stripes) → IsWorldLog log → KeepsOthers (acts_for log.stripes c) stripes
    → lent stripes ≡ lent (acts_for log.stripes c)
    → (logs.state_of rest (with_parts log stripes log.device) ≡ logs.state_of rest log) × IsWorldLog (with_parts log stripes log.device)
same_parts laws rest log c stripes is keeps parts =
    let values = laws.values_same (acts_for log.stripes c) stripes stays (even_acts log.stripes c is.even) keeps still
    (same_became (count_of log.stripes) (lent (acts_for log.stripes c)) (lent stripes) parts) in
    let made = made_room laws rest log c stripes log.device log.device [] is refl keeps values
    (room_for_none (count_of log.stripes) (count_of log.stripes) (logs_lent (acts_for log.stripes c)) (logs_lent stripes) log.device
    (λ i. ap (λ (p : ℕ → Option (Shard Receipt)). logs_of p i) parts)) in
    (none_written (count_of log.stripes) made.stripes _ _ made.written made.sheds, made.log)

-- THE STRIPES OF OTHERS

-- the log of a lane that is lent or not
abbrev pub logs_in : Bool → Option Lane → Option HybridLog
logs_in t o = option_map shard_log (if t then part_in o else None)

pub held_apart : (c d : ℕ) (holder : Option ℕ) → d ≢ c → is_number d holder ≡ true → is_number c holder ≡ false
held_apart c d None differ is = refl
held_apart c d (Some m) differ is =
    elim (nat_eq m c) as (λ t. nat_eq m c ≡ t → t ≡ false) [
      | true ↦ λ at. absurd (differ (sym ((Decides-eqb m d).0 is) ∙ (Decides-eqb m c).0 at))
      | false ↦ λ at. refl
    ] refl

pub some_held : (t : Bool) (o : Option Lane) (log : HybridLog) → logs_in t o ≡ Some log → t ≡ true
some_held true o log is = refl
some_held false o log is = cc is

-- a stripe that another client holds is as it was
pub apart_roomy : (old new : Stripes) (c d : ℕ) → d ≢ c → KeepsOthers (acts_for old c) new → StaysRoomy d old new
apart_roomy old new c d differ keeps = record {
  count = ap (λ v. length v.items) keeps.holders;
  rooms = λ i log there.
      let held : holds old.holders.items d i ≡ true = some_held (holds old.holders.items d i) (slice_get old.lanes.items i) log there in
      let lane = keeps.others i (held_apart c d (get_or old.holders.items i None) differ held) in
      (log, same i lane ∙ there, λ weight room. room);
}
  where
    same : (i : ℕ) → slice_get new.lanes.items i ≡ slice_get old.lanes.items i → logs_of (lent (acts_for new d)) i ≡ logs_of (lent (acts_for old d)) i
    same i lane =
        ap₂ (λ (holders : List (Option ℕ)) (o : Option Lane). logs_in (holds holders d i) o) (ap (λ v. v.items) keeps.holders) lane

-- A CLIENT THAT TOOK THE LAST STRIPE OF ITS CALL

pub taken_stands : (world : World) (c : ℕ) (t : IsTaken c world) → StandIn t.before world.log.stripes
unfolding state_of
taken_stands world c t = record {
  count = sym (ap (λ (s : State). length s.holders) t.state ∙ length-set t.before.holders t.stripe (Some c));
  stores = ap (λ (s : State). s.stores) t.state;
  marks = ap (λ (s : State). s.marks) t.state;
}

-- the client, by what it has
taken_here : (world : World) (c : ℕ) (t : IsTaken c world) → client (state_of world) c ≡ client_of t.one
unfolding state_of
taken_here world c t = (here (state_of world) world.members.items c t.one refl t.there).0

taken_watches : (world : World) (c : ℕ) (t : IsTaken c world) → (client t.before c).watches ≡ t.one.peer.watches
taken_watches world c t =
    ap (λ (k : ClientState). k.watches)
    (sym (get_or-set_same t.before.clients c _ fresh t.below) ∙ ap (λ (s : State). client s c) (sym t.state) ∙ taken_here world c t)

taken_history : (world : World) (c : ℕ) (t : IsTaken c world) → (state_of world).history ≡ t.before.history
taken_history world c t = ap (λ (s : State). s.history) t.state

-- where room was made, no receipt that a log keeps is of a place that was released
taken_none : TurnLaws → (world : World) (c : ℕ) (t : IsTaken c world) (mid : WorldLog) → HasStepped (stays_of (rest_of world)) world.log mid
    → (i : ℕ) → NoneReleasedAt mid i
unfolding state_of
taken_none laws world c t mid stepped i number place at =
    let steps = stepped.steps (rest_of world) refl in
    (laws.taken t.before c t.stripe steps.0 (logs.state_of (rest_of world) mid) t.sound t.below t.free t.reads
    (subst (λ (s : State). StepsAll s steps.0 (logs.state_of (rest_of world) mid)) t.state steps.1)).kept i number place at

-- it lacks no stripe of its call
taken_all : (world : World) (c : ℕ) (t : IsTaken c world) (call : Call)
    → next_stripe (state_of world) c (open_call (client (state_of world) c).phase) ≡ None → open_call t.one.peer.phase ≡ Some call
    → next_stripe (state_of world) c (Some call) ≡ None
taken_all world c t call none is =
    subst (λ (o : Option Call). next_stripe (state_of world) c o ≡ None) (ap (λ (k : ClientState). open_call k.phase) (taken_here world c t) ∙ is) none

pub ready_is : TurnLaws → PlanLaws → (world : World) (c : ℕ) (t : IsTaken c world)
    → next_stripe (state_of world) c (open_call (client (state_of world) c).phase) ≡ None → IsReadyToPlan world.log c (stays_of (rest_of world)) t.one
unfolding state_of
ready_is turns laws world c t none = record {
  entry = λ call is looks. (entry call is looks).0;
  place = λ call is looks. (entry call is looks).1;
  all = λ call is. taken_all world c t call none is;
  right = t.right.right;
  served = λ mid stepped.
      laws.reads.served (with_parts mid (acts_for mid.stripes c) mid.device) (acting_right mid c stepped.log)
      (λ i number place at. taken_none turns world c t mid stepped i number place at);
}
  where
    entry : (call : Call) → open_call t.one.peer.phase ≡ Some call → looks_up call ≡ true → IsEntry call × IsPlaced call
    entry call is looks =
        let at = calling_of t.one.peer.phase call is looks in
        entry_at t.one.peer.watches t.one.peer.phase at.0 call at.1 t.steady (subst IsAsking (sym at.1) (asked_some call looks))

-- WHAT IT COMES TO

-- the world with what a plan made of it
abbrev pub with_plan : World → ℕ → Member → WorldLog → Desk → World
with_plan world c one log desk = record world { members = with_item world.members c (record one { desk = desk }); log = log }

-- the plain state beside another log
abbrev pub beside_log : World → WorldLog → State
beside_log world log = logs.state_of (rest_of world) log

planned_state : (world : World) (c : ℕ) (one : Member) (log : WorldLog) (desk : Desk)
    → state_of (with_plan world c one log desk) ≡ with_client (beside_log world log) c (beside desk one.peer)
unfolding state_of
planned_state world c one log desk =
    ap (λ (l : List ClientState). (let s : State = record (beside_log world log) { clients = l } in s))
    (clients_with world.members.items c (record one { desk = desk }))

set_there : (clients : List ClientState) (c : ℕ) (k : ClientState) → get_or clients c fresh ≡ k → set clients c k ≡ clients
set_there [] c k is = refl
set_there (first ∷ clients) zero k is = ap (λ (x : ClientState). x ∷ clients) (sym is)
set_there (first ∷ clients) (suc c) k is = ap (λ (l : List ClientState). first ∷ l) (set_there clients c k is)

-- where the client is the same, all clients are
same_state : (world : World) (c : ℕ) (one : Member) (log : WorldLog) (desk : Desk) → slice_get world.members.items c ≡ Some one
    → beside desk one.peer ≡ client_of one → state_of (with_plan world c one log desk) ≡ beside_log world log
same_state world c one log desk there same =
    planned_state world c one log desk
    ∙ ap (λ (k : ClientState). with_client (beside_log world log) c k) same
    ∙ ap (λ (l : List ClientState). (let s : State = record (beside_log world log) { clients = l } in s))
    (set_there (map client_of world.members.items) c (client_of one) (client_there world.members.items c one there))

-- the call is planned, in a state in which its client is this
planned_at : (state : State) (c : ℕ) (peer : ClientState) (at : Progress) (call : Call) (wanted : Asked) (reply : Reply) (writes : List Write)
    → client state c ≡ peer → peer.phase ≡ Calling at call → asked_of call ≡ Some wanted → keys_named (operation_of peer.watches wanted) ≡ call_keys call
    → next_stripe state c (Some call) ≡ None → peer.due ≡ [] → IsPlan state.history (operation_of peer.watches wanted) reply writes
    → IsPlanned state c call wanted reply writes
planned_at state c peer at call wanted reply writes is calls asks keys held none plan = record {
  calling = (at, ap (λ (k : ClientState). k.phase) is ∙ calls);
  asks = asks;
  keys = ap (λ (k : ClientState). keys_named (operation_of k.watches wanted)) is ∙ keys;
  held = held;
  none = ap (λ (k : ClientState). k.due) is ∙ none;
  plan = subst (λ (k : ClientState). IsPlan state.history (operation_of k.watches wanted) reply writes) (sym is) plan;
}

-- a plan for what is asked
planned_for : (before after : State) (c : ℕ) (watches : List Pair) (phase : Phase) (call : Call) (wanted : Asked) → open_call phase ≡ Some call
    → asked_of call ≡ Some wanted → Plans before c (writes_now before c (operation_of watches wanted)) after
    → PlansFor before c watches (asked_by (open_call phase)) after
planned_for before after c watches phase call wanted is asks plans =
    subst (λ (o : Option Asked). PlansFor before c watches o after) (sym (ap asked_by is ∙ asks)) plans

acts_same : (stripes : Stripes) (c : ℕ) → stripes.acting ≡ c → acts_for stripes c ≡ stripes
acts_same stripes c is = ap (λ (a : ℕ). (let s : Stripes = record stripes { acting = a } in s)) (sym is)

-- nothing is to be read for it
none_due : (P : ℕ × Receipt → Type 0) (items : List (ℕ × Receipt)) → items ≡ [] → Each P items
none_due P items is = subst (Each P) (sym is) tt

pub no_due : (items : List (ℕ × Receipt)) → items ≡ [] → {A : Type 0} → are_none items ≡ false → A
no_due items is some = absurd (no (ap are_none (sym is) ∙ some))
  where
    no : true ≡ false → ⊥
    no e = cc e

right_with : (device : Shelves) (was desk : Desk) → KeepsDesk was desk → was.due.items ≡ [] → IsRight device desk
right_with device was desk keeps none =
    let due : desk.due.items ≡ [] = ap (λ v. v.items) keeps.due ∙ none in
    record {
      given = none_due (λ (read : ℕ × Receipt). IsGiven device read.1) desk.due.items due;
      right = keeps.right;
      few = λ some. no_due desk.due.items due some;
    }

-- what is known of the call
record Scene (world : World) (c : ℕ) (t : IsTaken c world) (call : Call) : Type 0 where
  opens : open_call t.one.peer.phase ≡ Some call
  looks : looks_up call ≡ true
  all : next_stripe (state_of world) c (Some call) ≡ None

scene_at : (world : World) (c : ℕ) (t : IsTaken c world) (call : Call) → Scene world c t call → (at : Progress) × (t.one.peer.phase ≡ Calling at call)
scene_at world c t call scene = calling_of t.one.peer.phase call scene.opens scene.looks

scene_plan : HistoryLaws → (world : World) (c : ℕ) (t : IsTaken c world) (call : Call) (stripes : Stripes) (reply : Reply) (writes : List Write) (s : Scene world c t call)
    → StandIn t.before stripes → (AreShort stripes c → IsDue stripes c call reply writes)
    → let wanted : Asked = (asked_some call s.looks).0 in
    IsPlan t.before.history (operation_of t.one.peer.watches wanted) reply writes
scene_plan laws world c t call stripes reply writes s stands due =
    let at = scene_at world c t call s in
    plan_is laws t.before stripes c t.one.peer.watches at.0 call (asked_some call s.looks).0 reply writes t.sound t.below
    stands (taken_watches world c t) (subst (Attends t.one.peer.watches) at.1 t.steady) (asked_some call s.looks).1 due

scene_writes : (world : World) (c : ℕ) (t : IsTaken c world) (wanted : Asked) (writes : List Write)
    → writes ≡ made t.before.history (operation_of t.one.peer.watches wanted) → writes ≡ writes_now (state_of world) c (operation_of t.one.peer.watches wanted)
scene_writes world c t wanted writes is =
    writes_are t.before (state_of world) c t.one.peer.watches wanted writes t.sound t.below (taken_watches world c t)
    (sym (ap (λ (s : State). length s.holders) t.state ∙ length-set t.before.holders t.stripe (Some c)))
    (sym (ap (λ (s : State). s.stores) t.state)) (sym (ap (λ (s : State). s.marks) t.state)) is

-- the keys of its operation are those of the call
scene_keys : (world : World) (c : ℕ) (t : IsTaken c world) (call : Call) (s : Scene world c t call)
    → keys_named (operation_of t.one.peer.watches (asked_some call s.looks).0) ≡ call_keys call
scene_keys world c t call s =
    let at = scene_at world c t call s in
    let steady = subst (Attends t.one.peer.watches) at.1 t.steady in
    keys_same t.one.peer.watches (asked_some call s.looks).0 call
    (call_given steady.0 at.0 call (asked_some call s.looks).0 t.one.peer.watches steady.1 steady.2 (asked_some call s.looks).1)

-- IT IS PLANNED, OR A FULL STRIPE WAS MET

scene_planned : (world : World) (c : ℕ) (t : IsTaken c world) (call : Call) (s : Scene world c t call) (log : WorldLog) (reply : Reply) (writes : List Write)
    → log.stripes.holders ≡ world.log.stripes.holders
    → IsPlan t.before.history (operation_of t.one.peer.watches (asked_some call s.looks).0) reply writes
    → IsPlanned (beside_log world log) c call (asked_some call s.looks).0 reply writes
unfolding state_of
scene_planned world c t call s log reply writes holders plan =
    let at = scene_at world c t call s in
    planned_at (beside_log world log) c (client_of t.one) at.0 call (asked_some call s.looks).0 reply writes
    (taken_here world c t) at.1 (asked_some call s.looks).1 (scene_keys world c t call s)
    (subst (λ v. first_missing v.items c (stripes_asked (length v.items) call) ≡ None) (sym holders) s.all)
    (ap (map due_of) t.none)
    (subst (λ (h : History). IsPlan h (operation_of t.one.peer.watches (asked_some call s.looks).0) reply writes) (sym (taken_history world c t)) plan)

made_beside : (desk : Desk) (one : Member) (p : Plan) → KeepsDesk one.desk desk → one.desk.plan ≡ plan.Nothing → desk.plan ≡ p → is_full_plan p ≡ false
    → beside desk one.peer ≡ client_of one
made_beside desk one p keeps nothing is unmet =
    let full : is_full_plan desk.plan ≡ is_full_plan one.desk.plan = ap is_full_plan is ∙ unmet ∙ sym (ap is_full_plan nothing) in
    λ j. let k : ClientState = record one.peer {
      due = map due_of (keeps.due j).items;
      fetched = keeps.fetched j;
      full = full j;
      stay = keeps.stay j;
    } in k

met_beside : (desk : Desk) (one : Member) → KeepsDesk one.desk desk → desk.plan ≡ plan.Full → beside desk one.peer ≡ (let k : ClientState = record (client_of one) { full = true } in k)
met_beside desk one keeps is =
    let full : is_full_plan desk.plan ≡ true = ap is_full_plan is in
    λ j. let k : ClientState = record one.peer {
      due = map due_of (keeps.due j).items;
      fetched = keeps.fetched j;
      full = full j;
      stay = keeps.stay j;
    } in k

-- ROOM IS MADE, STEP BY STEP

-- What steps that make room leave of the state.
record SameBut (old new : State) : Type 0 where
  clients : new.clients ≡ old.clients
  holders : new.holders ≡ old.holders
  stores : new.stores ≡ old.stores
  marks : new.marks ≡ old.marks

leaves_same : (before : State) (i : ℕ) (o : Option ℕ) (after : State) → Leaves before i o after → SameBut before after
leaves_same before i (Some place) after leaves = rw leaves (record { clients = refl; holders = refl; stores = refl; marks = refl })
leaves_same before i None after leaves = rw leaves.1 (record { clients = refl; holders = refl; stores = refl; marks = refl })

frees_same : (before : State) (i : ℕ) (after : State) → FreesPlace before i after → SameBut before after
frees_same before i _ (Retires some) = record { clients = refl; holders = refl; stores = refl; marks = refl }
frees_same before i _ (Drains some) = record { clients = refl; holders = refl; stores = refl; marks = refl }
frees_same before i _ (Releases page some) = record { clients = refl; holders = refl; stores = refl; marks = refl }

step_same : (before : State) (i : ℕ) (after : State) → Steps before i after → SameBut before after
step_same before i after (ByPage sheds) = leaves_same before i _ after sheds.leaves
step_same before i after (ByPlace within frees) = frees_same before i after frees

steps_same : (before : State) (stripes : List ℕ) (after : State) → StepsAll before stripes after → SameBut before after
steps_same before [] after steps = rw steps (record { clients = refl; holders = refl; stores = refl; marks = refl })
steps_same before (i ∷ stripes) after steps =
    let one = step_same before i steps.0 steps.1 in
    let more = steps_same steps.0 stripes after steps.2 in
    record {
      clients = more.clients ∙ one.clients;
      holders = more.holders ∙ one.holders;
      stores = more.stores ∙ one.stores;
      marks = more.marks ∙ one.marks;
    }

pub steps_both : (a : State) (one : List ℕ) (b : State) (other : List ℕ) (c : State) → StepsAll a one b → StepsAll b other c → StepsAll a (one ++ other) c
steps_both a [] b other c first second = subst (λ (s : State). StepsAll s other c) first second
steps_both a (i ∷ one) b other c first second = (first.0, first.1, steps_both first.0 one b other c first.2 second)

written_both : (n : ℕ) (writes : List Write) (one other : List ℕ) → AreWritten n writes one → AreWritten n writes other → AreWritten n writes (one ++ other)
written_both n writes [] other first second = second
written_both n writes (i ∷ one) other first second = (first.0, written_both n writes one other first.1 second)

written_all : (n : ℕ) (writes : List Write) (count i : ℕ) → is_written_in n writes i ≡ true → AreWritten n writes (replicate count i)
written_all n writes zero i is = tt
written_all n writes (suc count) i is = (is, written_all n writes count i is)

pub roomy_both : (d : ℕ) (old mid new : Stripes) → StaysRoomy d old mid → StaysRoomy d mid new → StaysRoomy d old new
roomy_both d old mid new first second = record {
  count = second.count ∙ first.count;
  rooms = λ i log there.
      let one = first.rooms i log there in
      let two = second.rooms i one.0 one.1 in
      (two.0, two.1, λ weight room. two.2 weight (one.2 weight room));
}

-- a stripe that is held keeps its rooms
holder_is : (d : ℕ) (o : Option ℕ) → is_number d o ≡ true → o ≡ Some d
holder_is d None is = cc is
holder_is d (Some m) is = ap (λ (n : ℕ). Option.Some n) ((Decides-eqb m d).0 is)

lane_of : (t : Bool) (o : Option Lane) (log : HybridLog) → logs_in t o ≡ Some log → (lane : Lane) × (o ≡ Some lane) × (lane_log lane ≡ log)
lane_of true (Some lane) log is = (lane, refl, cc is)
lane_of true None log is = absurd (cc is)
lane_of false o log is = absurd (cc is)

pub held_roomy : (old new : Stripes) (d : ℕ) → KeepsHeld old new → StaysRoomy d old new
held_roomy old new d keeps = record {
  count = ap (λ v. length v.items) keeps.holders;
  rooms = λ i log there.
      let held : holds old.holders.items d i ≡ true = some_held (holds old.holders.items d i) (slice_get old.lanes.items i) log there in
      let lane = lane_of (holds old.holders.items d i) (slice_get old.lanes.items i) log there in
      let later = keeps.rooms i d lane.0 (holder_is d (get_or old.holders.items i None) held) lane.1 in (
        lane_log later.0,
        ap₂ (λ (t : Bool) (o : Option Lane). logs_in t o) (ap (λ v. holds v.items d i) keeps.holders ∙ held) later.1,
        λ weight room. later.2 weight (subst (λ (l : HybridLog). HasRoom l weight) (sym lane.2) room),
      );
}

-- How far room was made for a client's call that took the last of its stripes, and is to write this.
record Reached (world : World) (c : ℕ) (writes : List Write) (late : WorldLog) : Type 0 where
  stripes : List ℕ
  written : AreWritten (count_of world.log.stripes) writes stripes
  steps : StepsAll (state_of world) stripes (beside_log world late)
  log : IsWorldLog late
  given : StaysGiven world.log.device late.device
  holders : late.stripes.holders ≡ world.log.stripes.holders
  rooms : (d : ℕ) → d ≢ c → StaysRoomy d world.log.stripes late.stripes

same_roomy : (stripes : Stripes) (d : ℕ) → StaysRoomy d stripes stripes
same_roomy stripes d = record { count = refl; rooms = λ i log there. (log, there, λ weight room. room) }

reached_none : (world : World) (c : ℕ) (writes : List Write) → IsWorldLog world.log → Reached world c writes world.log
unfolding state_of
reached_none world c writes is = record {
  stripes = [];
  written = tt;
  steps = refl;
  log = is;
  given = λ receipt given. given;
  holders = refl;
  rooms = λ d differ. same_roomy world.log.stripes d;
}

count_same : (world : World) (c : ℕ) (writes : List Write) (late : WorldLog) → Reached world c writes late → count_of late.stripes ≡ count_of world.log.stripes
count_same world c writes late reached = ap (λ v. length v.items) reached.holders

-- a plan made room, or met a full stripe
reached_room : (world : World) (c : ℕ) (writes : List Write) (late new : WorldLog) → Reached world c writes late → new.stripes.holders ≡ late.stripes.holders
    → RoomIsMade (rest_of world) late new writes → ((d : ℕ) → d ≢ c → StaysRoomy d late.stripes new.stripes) → Reached world c writes new
unfolding state_of
reached_room world c writes late new reached holders room rooms = record {
  stripes = reached.stripes ++ room.stripes;
  written = written_both (count_of world.log.stripes) writes reached.stripes room.stripes reached.written
      (subst (λ (n : ℕ). AreWritten n writes room.stripes) (count_same world c writes late reached) room.written);
  steps = steps_both (state_of world) reached.stripes (beside_log world late) room.stripes (beside_log world new) reached.steps room.sheds;
  log = room.log;
  given = λ receipt given. room.given receipt (reached.given receipt given);
  holders = holders ∙ reached.holders;
  rooms = λ d differ. roomy_both d world.log.stripes late.stripes new.stripes (reached.rooms d differ) (rooms d differ);
}

-- places were released in a stripe that is written
reached_freed : (world : World) (c : ℕ) (writes : List Write) (late new : WorldLog) (i : ℕ) → Reached world c writes late
    → is_written_in (count_of world.log.stripes) writes i ≡ true → HasFreed (stays_of (rest_of world)) i late new → Reached world c writes new
unfolding state_of
reached_freed world c writes late new i reached is freed = record {
  stripes = reached.stripes ++ replicate freed.count i;
  written = written_both (count_of world.log.stripes) writes reached.stripes (replicate freed.count i) reached.written
      (written_all (count_of world.log.stripes) writes freed.count i is);
  steps = steps_both (state_of world) reached.stripes (beside_log world late) (replicate freed.count i) (beside_log world new) reached.steps (freed.steps (rest_of world) refl);
  log = freed.log;
  given = λ receipt given. freed.given receipt (reached.given receipt given);
  holders = freed.held.holders ∙ reached.holders;
  rooms = λ d differ.
      roomy_both d world.log.stripes late.stripes new.stripes (reached.rooms d differ) (held_roomy late.stripes new.stripes d freed.held);
}

-- the stripes hold still what the state had in its own
reached_stands : (world : World) (c : ℕ) (t : IsTaken c world) (writes : List Write) (late : WorldLog) → Reached world c writes late → StandIn t.before late.stripes
unfolding state_of
reached_stands world c t writes late reached =
    let same = steps_same (state_of world) reached.stripes (beside_log world late) reached.steps in
    let stands = taken_stands world c t in
    record {
      count = stands.count ∙ sym (count_same world c writes late reached);
      stores = same.stores ∙ stands.stores;
      marks = same.marks ∙ stands.marks;
    }

comes_made : HistoryLaws → PlanLaws → (world : World) (c : ℕ) (t : IsTaken c world) (call : Call) (s : Scene world c t call) (planned : Planned)
    (writes : List Write) (late : WorldLog) (stripes : Stripes) (device : Shelves) (desk : Desk)
    → writes ≡ writes_now (state_of world) c (operation_of t.one.peer.watches (asked_some call s.looks).0) → Reached world c writes late
    → desk.plan ≡ plan.Made planned → HasPlanned late c call planned (with_parts late stripes device) → KeepsDesk t.one.desk desk
    → HasComeTo world c (with_plan world c t.one (with_parts late stripes device) desk)
unfolding state_of
comes_made history laws world c t call s planned writes late stripes device desk now reached is has keeps =
    let log : WorldLog = with_parts late stripes device in
    let wanted : Asked = (asked_some call s.looks).0 in
    let same : state_of (with_plan world c t.one log desk) ≡ beside_log world log =
    same_state world c t.one log desk t.there (made_beside desk t.one (plan.Made planned) keeps t.plan is refl) in
    let due : IsPlan t.before.history (operation_of t.one.peer.watches wanted) planned.reply planned.writes =
    scene_plan history world c t call late.stripes planned.reply planned.writes s (reached_stands world c t writes late reached) has.due in
    let values = laws.values_same (acts_for late.stripes c) stripes (begins c (keys_begun call)) (even_acts late.stripes c reached.log.even) has.keeps
    (begins_nothing call c s.looks) has.became in
    let room = made_room laws (rest_of world) late c stripes has.read device planned.writes reached.log has.reads has.keeps values has.makes in
    let made_now : planned.writes ≡ writes_now (state_of world) c (operation_of t.one.peer.watches wanted) = scene_writes world c t wanted planned.writes due.writes_due in
    let made_is : planned.writes ≡ writes = made_now ∙ sym now in
    let last : Reached world c writes log =
    reached_room world c writes late log reached has.keeps.holders (subst (RoomIsMade (rest_of world) late log) made_is room)
    (λ d differ. apart_roomy late.stripes stripes c d differ has.keeps) in
    let plans : Plans (state_of world) c writes (beside_log world log) = MakesRoomFor last.stripes (beside_log world log) last.written last.steps in
    let holders : stripes.holders ≡ world.log.stripes.holders = last.holders in
    let kept : IsMade (beside_log world log) stripes c planned =
    record {
      call = call;
      looks = s.looks;
      asked = wanted;
      due = scene_planned world c t call s log planned.reply planned.writes holders due;
      roomy = subst (λ (n : ℕ). AreRoomy n (logs_of (lent (acts_for stripes c))) planned.writes) (sym (ap (λ v. length v.items) has.keeps.holders))
          (subst (λ (x : Stripes). AreRoomy (count_of late.stripes) (logs_lent x) planned.writes) (sym (acts_same stripes c has.keeps.acting)) has.roomy);
      fits = has.fits;
    } in
    record {
      one = t.one;
      there = t.there;
      desk = desk;
      else_same = refl;
      plans = subst (PlansFor (state_of world) c t.one.peer.watches (asked_by (open_call t.one.peer.phase))) (sym same)
          (planned_for (state_of world) (beside_log world log) c t.one.peer.watches t.one.peer.phase call wanted s.opens (asked_some call s.looks).1
          (subst (λ (ws : List Write). Plans (state_of world) c ws (beside_log world log)) now plans));
      log = last.log;
      given = last.given;
      right = right_with device t.one.desk desk keeps t.none;
      kept = subst (λ (p : Plan). IsKept (state_of (with_plan world c t.one log desk)) stripes c p) (sym is)
          (subst (λ (x : State). IsMade x stripes c planned) (sym same) kept);
      rooms = last.rooms;
    }

met_planned : (world : World) (c : ℕ) (t : IsTaken c world) (call : Call) (s : Scene world c t call) (log : WorldLog) (desk : Desk)
    → log.stripes.holders ≡ world.log.stripes.holders → KeepsDesk t.one.desk desk
    → let operation : Operation = operation_of t.one.peer.watches (asked_some call s.looks).0 in
    IsPlanned (state_of (with_plan world c t.one log desk)) c call (asked_some call s.looks).0 (due t.before.history operation) (made t.before.history operation)
unfolding state_of
met_planned world c t call s log desk holders keeps =
    let at = scene_at world c t call s in
    let wanted : Asked = (asked_some call s.looks).0 in
    let operation : Operation = operation_of t.one.peer.watches wanted in
    let next : World = with_plan world c t.one log desk in
    let plan_due : IsPlan t.before.history operation (due t.before.history operation) (made t.before.history operation) = record { reply_due = refl; writes_due = refl } in
    planned_at (state_of next) c (beside desk t.one.peer) at.0 call wanted (due t.before.history operation) (made t.before.history operation)
    (here (state_of next) next.members.items c (record t.one { desk = desk }) refl (set_here world.members.items c t.one (record t.one { desk = desk }) t.there)).0
    at.1 (asked_some call s.looks).1 (scene_keys world c t call s)
    (subst (λ v. first_missing v.items c (stripes_asked (length v.items) call) ≡ None) (sym holders) s.all)
    (ap (λ v. map due_of v.items) keeps.due ∙ ap (map due_of) t.none)
    (subst (λ (h : History). IsPlan h operation (due t.before.history operation) (made t.before.history operation)) (sym (taken_history world c t)) plan_due)

-- what it would have written is what is written now
met_writes : HistoryLaws → (world : World) (c : ℕ) (t : IsTaken c world) (call : Call) (s : Scene world c t call) (i : ℕ) (writes : List Write)
    (late new : WorldLog) → Reached world c writes late → (has : HasMet late c call i new)
    → has.meets.writes ≡ writes_now (state_of world) c (operation_of t.one.peer.watches (asked_some call s.looks).0)
unfolding state_of
met_writes history world c t call s i writes late new reached has =
    let wanted : Asked = (asked_some call s.looks).0 in
    let at = scene_at world c t call s in
    let steady = subst (Attends t.one.peer.watches) at.1 t.steady in
    let stands = reached_stands world c t writes late reached in
    scene_writes world c t wanted has.meets.writes
    (has.meets.due (short_in history t.before late.stripes c t.sound stands) wanted t.before.history t.one.peer.watches (asked_some call s.looks).1
    (subst (λ (ws : List Pair). Stand (shard_meaning ⊥) (count_of late.stripes) (lent (acts_for late.stripes c)) t.before.history c ws) (taken_watches world c t)
    (stand_in t.before late.stripes c t.sound t.below stands))
    (ends_all call wanted t.one.peer.watches (call_given steady.0 at.0 call wanted t.one.peer.watches steady.1 steady.2 (asked_some call s.looks).1))
    (subst (λ (ws : List Pair). AreWatched ws ws) (taken_watches world c t) (t.sound.clients c t.below).once))

-- a plan met a full stripe, which it would write
record MetAt (world : World) (c : ℕ) (writes : List Write) (i : ℕ) (new : WorldLog) : Type 0 where
  reached : Reached world c writes new
  written : is_written_in (count_of world.log.stripes) writes i ≡ true
  full : (rest : State) → HasNoPlace (logs.state_of rest new) i

reached_met : HistoryLaws → PlanLaws → (world : World) (c : ℕ) (t : IsTaken c world) (call : Call) (s : Scene world c t call) (i : ℕ)
    (writes : List Write) (late new : WorldLog)
    → writes ≡ writes_now (state_of world) c (operation_of t.one.peer.watches (asked_some call s.looks).0)
    → Reached world c writes late → HasMet late c call i new → MetAt world c writes i new
unfolding state_of
reached_met history laws world c t call s i writes late new now reached has =
    let parts : WorldLog = with_parts late new.stripes new.device in
    let same : has.meets.writes ≡ writes = met_writes history world c t call s i writes late new reached has ∙ sym now in
    let values = laws.values_same (acts_for late.stripes c) new.stripes stays (even_acts late.stripes c reached.log.even) has.keeps still has.became in
    let met = λ (rest : State). met_full laws rest late c new.stripes has.read new.device has.meets.writes i reached.log has.reads has.keeps values
    has.meets.written has.meets.below has.meets.made has.meets.full in
    let is_new : parts ≡ new = sym has.else_same in
    record {
      reached =
          subst (Reached world c writes) is_new
          (reached_room world c writes late parts reached has.keeps.holders (subst (RoomIsMade (rest_of world) late parts) same (met (rest_of world)).0)
          (λ d differ. apart_roomy late.stripes new.stripes c d differ has.keeps));
      written =
          subst (λ (n : ℕ). is_written_in n writes i ≡ true) (count_same world c writes late reached)
          (subst (λ (ws : List Write). is_written_in (count_of late.stripes) ws i ≡ true) same (met (rest_of world)).1);
      full = λ rest. subst (λ (l : WorldLog). HasNoPlace (logs.state_of rest l) i) is_new (met rest).2;
    }

-- the stripe is full, and stays so
comes_full : (world : World) (c : ℕ) (t : IsTaken c world) (call : Call) (s : Scene world c t call) (i : ℕ) (writes : List Write) (late : WorldLog) (desk : Desk)
    → writes ≡ writes_now (state_of world) c (operation_of t.one.peer.watches (asked_some call s.looks).0)
    → Reached world c writes late → is_written_in (count_of world.log.stripes) writes i ≡ true
    → HasNoPlace (logs.state_of (rest_of world) late) i → is_spent (rest_of world).clients (log_at (states_of late.stripes) i) ≡ true
    → desk.plan ≡ plan.Full → KeepsDesk t.one.desk desk
    → HasComeTo world c (with_plan world c t.one late desk)
unfolding state_of
comes_full world c t call s i writes late desk now reached written full spent is keeps =
    let wanted : Asked = (asked_some call s.looks).0 in
    let operation : Operation = operation_of t.one.peer.watches wanted in
    let same : state_of (with_plan world c t.one late desk) ≡ with_client (beside_log world late) c (record (client_of t.one) { full = true }) =
    planned_state world c t.one late desk ∙ ap (λ (k : ClientState). with_client (beside_log world late) c k) (met_beside desk t.one keeps is) in
    let client_is : client (beside_log world late) c ≡ client_of t.one = taken_here world c t in
    let after : State = with_client (beside_log world late) c (record (client (beside_log world late) c) { full = true }) in
    let plans : Plans (state_of world) c writes after =
    MeetsFullAt reached.stripes (beside_log world late) i reached.written reached.steps written (record { no_place = full; spent = spent }) in
    let last : state_of (with_plan world c t.one late desk) ≡ after =
    same ∙ ap (λ (k : ClientState). with_client (beside_log world late) c (record k { full = true })) (sym client_is) in
    record {
      one = t.one;
      there = t.there;
      desk = desk;
      else_same = refl;
      plans = subst (PlansFor (state_of world) c t.one.peer.watches (asked_by (open_call t.one.peer.phase))) (sym last)
          (planned_for (state_of world) after c t.one.peer.watches t.one.peer.phase call wanted s.opens (asked_some call s.looks).1
          (subst (λ (ws : List Write). Plans (state_of world) c ws after) now plans));
      log = reached.log;
      given = reached.given;
      right = right_with late.device t.one.desk desk keeps t.none;
      kept = subst (λ (p : Plan). IsKept (state_of (with_plan world c t.one late desk)) late.stripes c p) (sym is)
          (record {
            call = call;
            asked = wanted;
            reply = due t.before.history operation;
            writes = made t.before.history operation;
            due = met_planned world c t call s late desk reached.holders keeps;
          });
      rooms = reached.rooms;
    }

desk_both : (was mid new : Desk) → KeepsDesk was mid → KeepsDesk mid new → KeepsDesk was new
desk_both was mid new one two = record {
  due = two.due ∙ one.due;
  fetched = two.fetched ∙ one.fetched;
  stay = two.stay ∙ one.stay;
  right = two.right;
}

-- however often it was planned again
comes_ended : HistoryLaws → PlanLaws → (world : World) (c : ℕ) (t : IsTaken c world) (call : Call) (s : Scene world c t call) (writes : List Write)
    (new : WorldLog) (desk : Desk) (late : WorldLog) (i : ℕ) (was : Desk)
    → writes ≡ writes_now (state_of world) c (operation_of t.one.peer.watches (asked_some call s.looks).0)
    → MetAt world c writes i late → KeepsDesk t.one.desk was → HasEnded c call (stays_of (rest_of world)) new desk late i was
    → HasComeTo world c (with_plan world c t.one new desk)
comes_ended history laws world c t call s writes new desk _ _ _ now met kept (Stays late i was is freed full spent keeps) =
    comes_full world c t call s i writes new desk now
    (reached_freed world c writes late new i met.reached met.written freed) met.written
    (full (rest_of world) (met.full (rest_of world))) (spent (rest_of world) refl) is (desk_both t.one.desk was desk kept keeps)
comes_ended history laws world c t call s writes new desk _ _ _ now met kept (Frees late i was mid planned freed is has keeps) =
    subst (λ (l : WorldLog). HasComeTo world c (with_plan world c t.one l desk)) (sym has.else_same)
    (comes_made history laws world c t call s planned writes mid new.stripes new.device desk now
    (reached_freed world c writes late mid i met.reached met.written freed) is (subst (HasPlanned mid c call planned) has.else_same has)
    (desk_both t.one.desk was desk kept keeps))
comes_ended history laws world c t call s writes new desk _ _ _ now met kept (Again late i was mid later next between freed has keeps ended) =
    comes_ended history laws world c t call s writes new desk later next between now
    (reached_met history laws world c t call s next writes mid later now (reached_freed world c writes late mid i met.reached met.written freed) has)
    (desk_both t.one.desk was between kept keeps) ended

-- PAGES ARE TO BE READ

-- they are of pages that are not resident, in stripes that the client holds
cold_due : (rest : State) (log : WorldLog) (c : ℕ) (items : List (ℕ × Receipt)) → Each (IsReadFor log c) items
    → AreCold (logs.state_of rest log) c (map due_of items)
cold_due rest log c [] each = tt
cold_due rest log c (read ∷ items) each = ((each.0.held, each.0.number, each.0.away, each.0.place), cold_due rest log c items each.1)

given_due : (log : WorldLog) (c : ℕ) (items : List (ℕ × Receipt)) → Each (IsReadFor log c) items → Each (λ (read : ℕ × Receipt). IsGiven log.device read.1) items
given_due log c [] each = tt
given_due log c (read ∷ items) each = (each.0.given, given_due log c items each.1)

some_due : (items : List (ℕ × Receipt)) → are_none items ≡ false → are_none (map due_of items) ≡ false
some_due [] is = is
some_due (read ∷ items) is = refl

named_beside : (desk : Desk) (one : Member) → desk ≡ (let d : Desk = record one.desk { due = desk.due; staged = desk.staged } in d)
    → beside desk one.peer ≡ (let k : ClientState = record (client_of one) { due = map due_of desk.due.items } in k)
named_beside desk one is =
    λ j. let k : ClientState = record one.peer {
      due = map due_of desk.due.items;
      fetched = (is j).fetched;
      full = is_full_plan (is j).plan;
      stay = (is j).stay;
    } in k

comes_named : PlanLaws → (world : World) (c : ℕ) (t : IsTaken c world) (call : Call) (s : Scene world c t call) (receipts : List Kept)
    (stripes : Stripes) (desk : Desk)
    → HasNamed world.log c call t.one.desk.staged receipts (with_parts world.log stripes world.log.device) → t.one.desk.fetched < ROUNDS
    → are_none desk.due.items ≡ false → Each (IsReadFor (with_parts world.log stripes world.log.device) c) desk.due.items
    → desk ≡ (let d : Desk = record t.one.desk { due = desk.due; staged = desk.staged } in d) → AreRight desk.staged
    → HasComeTo world c (with_plan world c t.one (with_parts world.log stripes world.log.device) desk)
unfolding state_of
comes_named laws world c t call s receipts stripes desk has few some each is right =
    let log : WorldLog = with_parts world.log stripes world.log.device in
    let wanted : Asked = (asked_some call s.looks).0 in
    let both = same_parts laws (rest_of world) world.log c stripes t.log has.keeps has.parts in
    let client_is : client (state_of world) c ≡ client_of t.one = taken_here world c t in
    let after : State = with_client (state_of world) c (record (client (state_of world) c) { due = map due_of desk.due.items }) in
    let last : state_of (with_plan world c t.one log desk) ≡ after =
    planned_state world c t.one log desk
    ∙ ap (λ (x : State). with_client x c (beside desk t.one.peer)) both.0
    ∙ ap (λ (k : ClientState). with_client (state_of world) c k) (named_beside desk t.one is)
    ∙ ap (λ (k : ClientState). with_client (state_of world) c (record k { due = map due_of desk.due.items })) (sym client_is) in
    let fetched : (client (state_of world) c).fetched < ROUNDS = subst (λ (k : ClientState). k.fetched < ROUNDS) (sym client_is) few in
    let cold : AreCold (state_of world) c (map due_of desk.due.items) =
    subst (λ (x : State). AreCold x c (map due_of desk.due.items)) both.0 (cold_due (rest_of world) log c desk.due.items each) in
    let nothing : desk.plan ≡ plan.Nothing = ap (λ (d : Desk). d.plan) is ∙ t.plan in
    let plans : Plans (state_of world) c (writes_now (state_of world) c (operation_of t.one.peer.watches wanted)) after =
    Names (map due_of desk.due.items) (some_due desk.due.items some) fetched cold in
    record {
      one = t.one;
      there = t.there;
      desk = desk;
      else_same = refl;
      plans = subst (PlansFor (state_of world) c t.one.peer.watches (asked_by (open_call t.one.peer.phase))) (sym last)
          (planned_for (state_of world) after c t.one.peer.watches t.one.peer.phase call wanted s.opens (asked_some call s.looks).1 plans);
      log = both.1;
      given = λ receipt given. given;
      right = record {
        given = given_due log c desk.due.items each;
        right = right;
        few = λ some. subst (λ (n : ℕ). n < ROUNDS) (sym (ap (λ (d : Desk). d.fetched) is)) few;
      };
      kept = subst (λ (p : Plan). IsKept (state_of (with_plan world c t.one log desk)) stripes c p) (sym nothing) tt;
      rooms = λ d differ. apart_roomy world.log.stripes stripes c d differ has.keeps;
    }

-- IT LOOKS NO KEY UP

-- a call that looks no key up is planned by doing nothing
plans_nothing : (state : State) (c : ℕ) (watches : List Pair) (wanted : Option Asked) → PlansFor state c watches wanted state
plans_nothing state c watches None = refl
plans_nothing state c watches (Some asked) = MakesRoomFor [] state tt refl

comes_waiting : (world : World) (c : ℕ) (t : IsTaken c world) → HasComeTo world c (with_plan world c t.one world.log t.one.desk)
unfolding state_of
comes_waiting world c t =
    let same : state_of (with_plan world c t.one world.log t.one.desk) ≡ state_of world = same_state world c t.one world.log t.one.desk t.there refl in
    record {
      one = t.one;
      there = t.there;
      desk = t.one.desk;
      else_same = refl;
      plans = subst (PlansFor (state_of world) c t.one.peer.watches (asked_by (open_call t.one.peer.phase))) (sym same)
          (plans_nothing (state_of world) c t.one.peer.watches (asked_by (open_call t.one.peer.phase)));
      log = t.log;
      given = λ receipt given. given;
      right = t.right;
      kept = subst (λ (p : Plan). IsKept (state_of (with_plan world c t.one world.log t.one.desk)) world.log.stripes c p) (sym t.plan) tt;
      rooms = λ d differ. same_roomy world.log.stripes d;
    }

-- ALL CASES

comes_by : HistoryLaws → PlanLaws → (world : World) (c : ℕ) (t : IsTaken c world) (call : Call) (s : Scene world c t call) (log : WorldLog) (desk : Desk)
    → HasArranged world.log c call (stays_of (rest_of world)) t.one.desk log desk → HasComeTo world c (with_plan world c t.one log desk)
comes_by history laws world c t call s log desk (Makes planned is has keeps) =
    let writes : List Write = writes_now (state_of world) c (operation_of t.one.peer.watches (asked_some call s.looks).0) in
    subst (λ (l : WorldLog). HasComeTo world c (with_plan world c t.one l desk)) (sym has.else_same)
    (comes_made history laws world c t call s planned writes world.log log.stripes log.device desk refl (reached_none world c writes t.log) is
    (subst (HasPlanned world.log c call planned) has.else_same has) keeps)
comes_by history laws world c t call s log desk (NamesPages receipts has few some each is right) =
    subst (λ (l : WorldLog). HasComeTo world c (with_plan world c t.one l desk)) (sym has.else_same)
    (comes_named laws world c t call s receipts log.stripes desk (subst (HasNamed world.log c call t.one.desk.staged receipts) has.else_same has) few some
    (subst (λ (l : WorldLog). Each (IsReadFor l c) desk.due.items) has.else_same each) is right)
comes_by history laws world c t call s log desk (Meets i mid between has keeps ended) =
    let writes : List Write = writes_now (state_of world) c (operation_of t.one.peer.watches (asked_some call s.looks).0) in
    comes_ended history laws world c t call s writes log desk mid i between refl
    (reached_met history laws world c t call s i writes world.log mid refl (reached_none world c writes t.log) has) keeps ended

pub comes_to : HistoryLaws → PlanLaws → (world : World) (c : ℕ) (t : IsTaken c world) (log : WorldLog) (desk : Desk)
    → next_stripe (state_of world) c (open_call (client (state_of world) c).phase) ≡ None
    → HasPlannedFor world.log c (stays_of (rest_of world)) t.one log desk → HasComeTo world c (with_plan world c t.one log desk)
comes_to history laws world c t log desk none (PlansCall call opens looks arranged) =
    comes_by history laws world c t call (record { opens = opens; looks = looks; all = taken_all world c t call none opens }) log desk arranged
comes_to history laws world c t log desk none (WaitsCall waits same kept) =
    subst (λ (l : WorldLog). HasComeTo world c (with_plan world c t.one l desk)) (sym same)
    (subst (λ (d : Desk). HasComeTo world c (with_plan world c t.one world.log d)) (sym kept) (comes_waiting world c t))
