-- Each event keeps the world sound.
use Rattle.std.proofs.Common.{◌≡◌, ◌⊎◌, ℕ, ◌<◌, Bool, true, false, ◌&&◌, List, [], ◌∷◌, length, get_or, set, replicate, Option, Some, None, is_none, refl, sym, ap, ◌∙◌, inl, inr, arith, if◌then◌else◌, length-set}
use Rattle.std.proofs.lemmas.Bool.{ltb-true}
use Rattle.std.proofs.lemmas.List.{get_or-set_same}
use Rattle.words.specs.Store.{Bytes, Write}
use Rattle.words.specs.History.{Pair}
use Rattle.words.specs.Session.{Asked}
use Rattle.world_model.specs.declared.event.Event.{Event}
use Rattle.world_model.specs.declared.event.Event.TheVariants.{Piece, Close, Take, Commit, Give, Fetch, Copy, Write as WriteIt, Install, Drop, Unlink, Retire, Drain, Release}
use Rattle.world_model.specs.Logs.{LogState, place_at}
use Rattle.world_model.specs.States.{Phase, Serving, Calling, Leaving, Left, Ended, Due, ClientState, State, fresh, client, log_of, stripe_count, open_call}
use Rattle.world_model.specs.Actors.{actor}
use Rattle.world_model.specs.Enabled.{is_number, holds, holds_none, are_none, is_enabled_for, is_enabled_in, is_enabled_of, next_stripe}
use Rattle.world_model.specs.Advancing.{When}
use Rattle.world_model.specs.Rooms.{Leaves, Sheds, Frees, Retires, Drains, Releases, Steps, ByPage, ByPlace, StepsAll}
use Rattle.world_model.specs.Planning.{AreCold, Plans, Names, MakesRoom, MeetsFull, PlansFor, asked_by, stay_begun, taken, Takes}
use Rattle.world_model.specs.Effects.{Does, Works, fed, heard, fetched, Unlinks, StopsFull, Cleans}
use Rattle.world_model.specs.Turns.{DoesAndGoes, Turn, Turns}
use Rattle.world_model.specs.Told.{mine}
use Rattle.world_model.specs.Places.{Each, IsReadable, ArePlaced, NoneReleased, standing, stay_of, due_of}
use Rattle.world_model.specs.Soundness.{ReadsFor, IsSound}
use Rattle.world_model.specs.Laws.{TalkLaws, WatchLaws}
use Rattle.world_model.proofs.Holding.{when_cases, both, not_true, none_is, apart_eqb, held_by_one}
use Rattle.world_model.proofs.Talking.{talks_heard, talks_closed}
use Rattle.world_model.proofs.Counting.{count, part_le, kept_at, place_some, readable_le, standing_le, count_readable}
use Rattle.world_model.proofs.Placing.{each_map, placed_copy, placed_write, placed_install, placed_drop, placed_flush, placed_clean, placed_retire, placed_drain, placed_release, placed_client}
use Rattle.world_model.proofs.Keeping.{IsKept, kept_of, set_kept, set_kept_as, hold_kept, logs_kept, logs_sound, goes_sound}
use Rattle.world_model.proofs.Committing.{commit_kept}

-- PAGES LEAVE THEIR FRAMES

leaves_kept : (c : ℕ) (before : State) (i : ℕ) (o : Option ℕ) (after : State) → place_at (log_of before i) (log_of before i).first ≡ o
    → Sheds before i after → Leaves before i o after → IsKept c before → IsKept c after
leaves_kept c before i (Some place) after is sheds leaves kept =
    let below : i < length before.logs = rw kept.logs sheds.within in
    rw leaves (logs_kept c before _ before.places before.epoch (length-set before.logs i _)
    (placed_drop before.logs i before.places before.epoch (stay_of before) (due_of before) below kept.placed) kept)
leaves_kept c before i None after is sheds leaves kept =
    let below : i < length before.logs = rw kept.logs sheds.within in
    rw leaves.1 (logs_kept c before _ _ before.epoch (length-set before.logs i _)
    (placed_flush before.frames before.logs i before.places before.epoch (stay_of before) (due_of before) below sheds.read_only is kept.placed) kept)

shed_kept : (c : ℕ) (before : State) (i : ℕ) (after : State) → Sheds before i after → IsKept c before → IsKept c after
shed_kept c before i after sheds kept = leaves_kept c before i _ after refl sheds sheds.leaves kept

frees_kept : (c : ℕ) (before : State) (i : ℕ) (after : State) → i < stripe_count before → Frees before i after → IsKept c before → IsKept c after
frees_kept c before i _ within (Retires some) kept =
    let below : i < length before.logs = rw kept.logs within in
    logs_kept c before _ before.places _ (length-set before.logs i _)
    (placed_retire before.logs i before.places before.epoch (stay_of before) (due_of before) some below kept.placed) kept
frees_kept c before i _ within (Drains some) kept =
    let below : i < length before.logs = rw kept.logs within in
    logs_kept c before _ before.places before.epoch (length-set before.logs i _)
    (placed_drain before.logs i before.places before.epoch before.clients (due_of before) some below kept.placed) kept
frees_kept c before i _ within (Releases page some) kept =
    let below : i < length before.logs = rw kept.logs within in
    logs_kept c before _ _ before.epoch (length-set before.logs i _)
    (placed_release before.logs i before.places page before.epoch (stay_of before) (due_of before) some below kept.placed) kept

step_kept : (c : ℕ) (before : State) (i : ℕ) (after : State) → Steps before i after → IsKept c before → IsKept c after
step_kept c before i after (ByPage sheds) kept = shed_kept c before i after sheds kept
step_kept c before i after (ByPlace within frees) kept = frees_kept c before i after within frees kept

pub steps_kept : (c : ℕ) (before : State) (stripes : List ℕ) (after : State) → StepsAll before stripes after → IsKept c before → IsKept c after
steps_kept c before [] after steps kept = rw steps kept
steps_kept c before (i ∷ stripes) after steps kept =
    steps_kept c steps.0 stripes after steps.2 (step_kept c before i steps.0 steps.1 kept)

-- the same of a sound world
leaves_sound : (before : State) (i : ℕ) (o : Option ℕ) (after : State) → place_at (log_of before i) (log_of before i).first ≡ o
    → Sheds before i after → Leaves before i o after → IsSound before → IsSound after
leaves_sound before i (Some place) after is sheds leaves sound =
    let below : i < length before.logs = rw sound.logs sheds.within in
    rw leaves (logs_sound before _ before.places before.epoch (length-set before.logs i _)
    (placed_drop before.logs i before.places before.epoch (stay_of before) (due_of before) below sound.placed) sound)
leaves_sound before i None after is sheds leaves sound =
    let below : i < length before.logs = rw sound.logs sheds.within in
    rw leaves.1 (logs_sound before _ _ before.epoch (length-set before.logs i _)
    (placed_flush before.frames before.logs i before.places before.epoch (stay_of before) (due_of before) below sheds.read_only is sound.placed) sound)

shed_sound : (before : State) (i : ℕ) (after : State) → Sheds before i after → IsSound before → IsSound after
shed_sound before i after sheds sound = leaves_sound before i _ after refl sheds sheds.leaves sound

frees_sound : (before : State) (i : ℕ) (after : State) → i < stripe_count before → Frees before i after → IsSound before → IsSound after
frees_sound before i _ within (Retires some) sound =
    let below : i < length before.logs = rw sound.logs within in
    logs_sound before _ before.places _ (length-set before.logs i _)
    (placed_retire before.logs i before.places before.epoch (stay_of before) (due_of before) some below sound.placed) sound
frees_sound before i _ within (Drains some) sound =
    let below : i < length before.logs = rw sound.logs within in
    logs_sound before _ before.places before.epoch (length-set before.logs i _)
    (placed_drain before.logs i before.places before.epoch before.clients (due_of before) some below sound.placed) sound
frees_sound before i _ within (Releases page some) sound =
    let below : i < length before.logs = rw sound.logs within in
    logs_sound before _ _ before.epoch (length-set before.logs i _)
    (placed_release before.logs i before.places page before.epoch (stay_of before) (due_of before) some below sound.placed) sound

step_sound : (before : State) (i : ℕ) (after : State) → Steps before i after → IsSound before → IsSound after
step_sound before i after (ByPage sheds) sound = shed_sound before i after sheds sound
step_sound before i after (ByPlace within frees) sound = frees_sound before i after within frees sound

pub steps_sound : (before : State) (stripes : List ℕ) (after : State) → StepsAll before stripes after → IsSound before → IsSound after
steps_sound before [] after steps sound = rw steps sound
steps_sound before (i ∷ stripes) after steps sound = steps_sound steps.0 stripes after steps.2 (step_sound before i steps.0 steps.1 sound)

-- there are as many stripes as there were
leaves_count : (before : State) (i : ℕ) (o : Option ℕ) (after : State) → Leaves before i o after → stripe_count after ≡ stripe_count before
leaves_count before i (Some place) after leaves = rw leaves refl
leaves_count before i None after leaves = rw leaves.1 refl

shed_count : (before : State) (i : ℕ) (after : State) → Sheds before i after → stripe_count after ≡ stripe_count before
shed_count before i after sheds = leaves_count before i (place_at (log_of before i) (log_of before i).first) after sheds.leaves

frees_count : (before : State) (i : ℕ) (after : State) → Frees before i after → stripe_count after ≡ stripe_count before
frees_count before i _ (Retires some) = refl
frees_count before i _ (Drains some) = refl
frees_count before i _ (Releases page some) = refl

step_count : (before : State) (i : ℕ) (after : State) → Steps before i after → stripe_count after ≡ stripe_count before
step_count before i after (ByPage sheds) = shed_count before i after sheds
step_count before i after (ByPlace within frees) = frees_count before i after frees

steps_count : (before : State) (stripes : List ℕ) (after : State) → StepsAll before stripes after → stripe_count after ≡ stripe_count before
steps_count before [] after steps = rw steps refl
steps_count before (i ∷ stripes) after steps = steps_count steps.0 stripes after steps.2 ∙ step_count before i steps.0 steps.1

-- THE PLAN

begun_some : (o : Option ℕ) (epoch : ℕ) → (x : ℕ) × (stay_begun o epoch ≡ Some x) × ((o ≡ Some x) ⊎ (x ≡ epoch))
begun_some None epoch = (epoch, refl, inr refl)
begun_some (Some x) epoch = (x, refl, inl refl)

-- receipts that a plan names are readable
cold_readable : (state : State) (c : ℕ) (x : ℕ) (due : List Due) → AreCold state c due
    → Each (λ (one : Due). IsReadable (Some x) (log_of state one.stripe) one.place) due
cold_readable state c x [] cold = tt
cold_readable state c x (one ∷ due) cold =
    let log : LogState = log_of state one.stripe in
    let there = kept_at log.kept _ one.place (place_some log cold.0.1 one.place cold.0.3) in
    (omega (arith, there, count_readable one.place x log), cold_readable state c x due cold.1)

reads_any : (phase : Phase) (due : List Due) (asked : Asked) → asked_by (open_call phase) ≡ Some asked → ReadsFor phase due
reads_any (Calling here call) due asked is = tt
reads_any (Serving here) due asked is = absurd (cc is)
reads_any (Leaving keys) due asked is = absurd (cc is)
reads_any Left due asked is = absurd (cc is)
reads_any Ended due asked is = absurd (cc is)

plans_kept : (c : ℕ) (before : State) (writes : List Write) (after : State) (asked : Asked) (x : ℕ) → (client before c).stay ≡ Some x
    → asked_by (open_call (client before c).phase) ≡ Some asked → Plans before c writes after → IsKept c before → IsKept c after
plans_kept c before writes after asked x stays asks (Names due some few cold) kept =
    let peer : ClientState = client before c in
    set_kept c before (record peer { due = due }) kept (kept.clients c kept.below).talks refl (reads_any peer.phase due asked asks)
    (placed_client before.logs before.places before.epoch before.clients c (record peer { due = due }) kept.below (λ y is. inl is)
    (rw stays (cold_readable before c x due cold)) kept.placed)
plans_kept c before writes after asked x stays asks (MakesRoom stripes _ written steps) kept = steps_kept c before stripes after steps kept
plans_kept c before writes after asked x stays asks (MeetsFull stripes mid i written steps is full) kept =
    let more : IsKept c mid = steps_kept c before stripes mid steps kept in
    let one = more.clients c more.below in
    set_kept_as c mid (record (client mid c) { full = true }) more one.talks refl one.reads refl refl

plan_kept : (c : ℕ) (before : State) (watches : List Pair) (asks : Option Asked) (after : State) (x : ℕ) → (client before c).stay ≡ Some x
    → asked_by (open_call (client before c).phase) ≡ asks → PlansFor before c watches asks after → IsKept c before → IsKept c after
plan_kept c before watches None after x stays asks plans kept = rw plans kept
plan_kept c before watches (Some asked) after x stays asks plans kept = plans_kept c before _ after asked x stays asks plans kept

-- TAKE AND GIVE

taken_kept : (c i : ℕ) (before : State) → c < length before.clients → get_or before.holders i None ≡ None → (client before c).due ≡ []
    → IsSound before → IsKept c (taken before c (client before c) i)
taken_kept c i before below free none sound =
    let peer : ClientState = client before c in
    let new : ClientState = record peer { stay = stay_begun peer.stay before.epoch } in
    let held = hold_kept c i (Some c) before (kept_of c before below sound) (λ d differ. ap (is_number d) free)
    (λ d differ. apart_eqb c d (λ e. differ (sym e))) in
    let begun = begun_some peer.stay before.epoch in
    let one = sound.clients c below in
    set_kept c (record before { holders = set before.holders i (Some c) }) new held one.talks refl one.reads
    (placed_client before.logs before.places before.epoch before.clients c new below
    (λ x is. begins peer.stay x is) (rw none tt) sound.placed)
  where
    begins : (o : Option ℕ) (x : ℕ) → stay_begun o before.epoch ≡ Some x → (o ≡ Some x) ⊎ (x ≡ before.epoch)
    begins None x is = inr (cc is)
    begins (Some y) x is = inl is

takes_kept : (c i : ℕ) (before after : State) → c < length before.clients → get_or before.holders i None ≡ None → (client before c).due ≡ []
    → Takes before c (client before c) i after → IsSound before → IsKept c after
takes_kept c i before after below free none takes sound =
    let peer : ClientState = client before c in
    let mid : State = taken before c peer i in
    let new : ClientState = record peer { stay = stay_begun peer.stay before.epoch } in
    let kept : IsKept c mid = taken_kept c i before below free none sound in
    let is : client mid c ≡ new = get_or-set_same before.clients c new fresh below in
    let begun = begun_some peer.stay before.epoch in
    elim (when_cases (is_none (next_stripe mid c (open_call peer.phase))) _ _ takes) as (λ _. IsKept c after) [
      | inl held ↦
          plan_kept c mid peer.watches (asked_by (open_call peer.phase)) after begun.0 (ap (λ (one : ClientState). one.stay) is ∙ begun.1)
          (ap (λ (one : ClientState). asked_by (open_call one.phase)) is) held.1 kept
      | inr fails ↦ rw fails.1 kept
    ]

gives_kept : (c i : ℕ) (before : State) (ends : Bool) → c < length before.clients → holds before.holders c i ≡ true
    → (ends ≡ true → (client before c).due ≡ [])
    → IsSound before
    → IsKept c (record before {
      holders = set before.holders i None;
      clients = if ends then set before.clients c (record (client before c) { stay = None }) else before.clients;
    })
gives_kept c i before false below is none sound =
    hold_kept c i None before (kept_of c before below sound) (λ d differ. held_by_one c d (get_or before.holders i None) is differ) (λ d differ. refl)
gives_kept c i before true below is none sound =
    let peer : ClientState = client before c in
    let new : ClientState = record peer { stay = None } in
    let held = hold_kept c i None before (kept_of c before below sound)
    (λ d differ. held_by_one c d (get_or before.holders i None) is differ) (λ d differ. refl) in
    let one = sound.clients c below in
    set_kept c (record before { holders = set before.holders i None }) new held one.talks refl one.reads
    (placed_client before.logs before.places before.epoch before.clients c new below (λ x never. absurd (cc never)) (rw (none refl) tt) sound.placed)

-- EVENTS OF CLIENTS

none_read : (due : List Due) → are_none due ≡ true → due ≡ []
none_read [] is = refl
none_read (one ∷ due) is = cc is

-- where no call is open, nothing is to be read
not_calling : (phase : Phase) (due : List Due) → is_none (open_call phase) ≡ true → ReadsFor phase due → due ≡ []
not_calling (Serving here) due is reads = reads
not_calling (Calling here call) due is reads = cc is
not_calling (Leaving keys) due is reads = reads
not_calling Left due is reads = reads
not_calling Ended due is reads = reads

heard_reads : (phase : Phase) (due : List Due) (bytes : Bytes) → ReadsFor phase due → ReadsFor (fed phase bytes) due
heard_reads (Serving here) due bytes reads = reads
heard_reads (Calling here call) due bytes reads = tt
heard_reads (Leaving keys) due bytes reads = reads
heard_reads Left due bytes reads = reads
heard_reads Ended due bytes reads = reads

no_reads : (phase : Phase) → ReadsFor phase []
no_reads (Serving here) = refl
no_reads (Calling here call) = tt
no_reads (Leaving keys) = refl
no_reads Left = refl
no_reads Ended = refl

-- an enabled event of a client, before it advances
does_kept : TalkLaws → WatchLaws → (before : State) (c : ℕ) (e : Event) (mid : State) → c < length before.clients
    → is_enabled_for before c (client before c) e ≡ true → Does before c (client before c) e mid → IsSound before → IsKept c mid
does_kept talks marks before c (Piece _ bytes) mid below is does sound =
    let on : (client before c).closed ≡ false = not_true _ (both _ _ is).0 in
    let one = sound.clients c below in
    rw does (set_kept_as c before (heard (client before c) bytes) (kept_of c before below sound)
    (talks_heard talks c (mine before.history c) (client before c) bytes on one.talks) refl
    (heard_reads (client before c).phase (client before c).due bytes one.reads) refl refl)
does_kept talks marks before c (Close _) mid below is does sound =
    let one = sound.clients c below in
    rw does (set_kept_as c before _ (kept_of c before below sound)
    (talks_closed c (mine before.history c) (client before c) one.talks) refl one.reads refl refl)
does_kept talks marks before c (Take _ i) mid below is does sound =
    let test = both _ _ (both _ _ is).1 in
    takes_kept c i before mid below (none_is _ test.0) (none_read _ test.1) does sound
does_kept talks marks before c (Fetch _) mid below is does sound =
    let one = sound.clients c below in
    rw does (set_kept c before (fetched (client before c)) (kept_of c before below sound) one.talks refl (no_reads (client before c).phase)
    (placed_client before.logs before.places before.epoch before.clients c (fetched (client before c)) below (λ x at. inl at) tt sound.placed))
does_kept talks marks before c (Commit _) mid below is does sound =
    commit_kept talks marks c before mid (client before c).phase below refl sound (none_read _ (both _ _ (both _ _ is).1).1) does
does_kept talks marks before c (Give _ i) mid below is does sound =
    let peer : ClientState = client before c in
    let one = sound.clients c below in
    rw does (gives_kept c i before (is_none (open_call peer.phase) && holds_none c (set before.holders i None)) below (both _ _ is).0
    (λ ends. not_calling peer.phase peer.due (both _ _ ends).0 one.reads) sound)
does_kept talks marks before c _ mid below is does sound = absurd does

-- an enabled event of a client
acts_sound : TalkLaws → WatchLaws → (before : State) (c : ℕ) (e : Event) (new : State) → is_enabled_of before e (Some c) ≡ true
    → DoesAndGoes before e (Some c) new → IsSound before → IsSound new
acts_sound talks marks before c e new is does sound =
    let test = both _ _ is in
    let below : c < length before.clients = ltb-true _ _ test.0 in
    goes_sound talks c does.0 new (does_kept talks marks before c e does.0 below test.1 does.1 sound) does.2

-- EVENTS OF STRIPES

unlinks_sound : (before : State) (i : ℕ) (after : State) → i < stripe_count before → Unlinks before i after → IsSound before → IsSound after
unlinks_sound before i after below (StopsFull count _ steps full) sound = steps_sound before (replicate count i) after steps sound
unlinks_sound before i after below (Cleans count mid place opened steps cold there few) sound =
    let more : IsSound mid = steps_sound before (replicate count i) mid steps sound in
    let within : i < length mid.logs = rw (more.logs, steps_count before (replicate count i) mid steps) below in
    logs_sound mid _ mid.places mid.epoch (length-set mid.logs i _)
    (placed_clean mid.logs i place opened mid.places mid.epoch (stay_of mid) (due_of mid) within cold there more.placed) more

works_sound : (before : State) (e : Event) (after : State) → is_enabled_in before e ≡ true → Works before e after → IsSound before → IsSound after
works_sound before (Copy i) after is works sound =
    let test = both _ _ is in
    let below : i < length before.logs = rw sound.logs (ltb-true _ _ test.0) in
    let none = (both _ _ (both _ _ test.1).1).0 in
    rw works (logs_sound before _ before.places before.epoch (length-set before.logs i _)
    (placed_copy before.frames before.logs i before.places before.epoch (stay_of before) (due_of before) below none sound.placed) sound)
works_sound before (WriteIt i) after is works sound =
    let test = both _ _ is in
    let below : i < length before.logs = rw sound.logs (ltb-true _ _ test.0) in
    rw works (logs_sound before _ _ before.epoch (length-set before.logs i _)
    (placed_write before.logs i before.places before.epoch (stay_of before) (due_of before) below test.1 sound.placed) sound)
works_sound before (Install i) after is works sound =
    let test = both _ _ is in
    let below : i < length before.logs = rw sound.logs (ltb-true _ _ test.0) in
    rw works (logs_sound before _ before.places before.epoch (length-set before.logs i _)
    (placed_install before.frames before.logs i before.places before.epoch (stay_of before) (due_of before) below (both _ _ test.1).1 sound.placed) sound)
works_sound before (Drop i) after is works sound =
    let below : i < length before.logs = rw sound.logs (ltb-true _ _ (both _ _ is).0) in
    rw works (logs_sound before _ before.places before.epoch (length-set before.logs i _)
    (placed_drop before.logs i before.places before.epoch (stay_of before) (due_of before) below sound.placed) sound)
works_sound before (Unlink i) after is works sound = unlinks_sound before i after (ltb-true _ _ (both _ _ is).0) works sound
works_sound before (Retire i) after is works sound =
    let test = both _ _ is in
    let below : i < length before.logs = rw sound.logs (ltb-true _ _ test.0) in
    rw works (logs_sound before _ before.places _ (length-set before.logs i _)
    (placed_retire before.logs i before.places before.epoch (stay_of before) (due_of before) test.1 below sound.placed) sound)
works_sound before (Drain i) after is works sound =
    let test = both _ _ is in
    let below : i < length before.logs = rw sound.logs (ltb-true _ _ test.0) in
    rw works (logs_sound before _ before.places before.epoch (length-set before.logs i _)
    (placed_drain before.logs i before.places before.epoch before.clients (due_of before) test.1 below sound.placed) sound)
works_sound before (Release i page) after is works sound =
    let test = both _ _ is in
    let below : i < length before.logs = rw sound.logs (ltb-true _ _ test.0) in
    rw works (logs_sound before _ _ before.epoch (length-set before.logs i _)
    (placed_release before.logs i before.places page before.epoch (stay_of before) (due_of before) test.1 below sound.placed) sound)
works_sound before _ after is works sound = absurd works

-- EACH EVENT

turns_by : TalkLaws → WatchLaws → (before : State) (e : Event) (one : Option ℕ) (new : State)
    → When (is_enabled_of before e one) (DoesAndGoes before e one new) (new ≡ before) → IsSound before → IsSound new
turns_by talks marks before e None new turns sound =
    elim (when_cases (is_enabled_of before e None) _ _ turns) as (λ _. IsSound new) [
      | inl held ↦ works_sound before e new held.0 held.1 sound
      | inr fails ↦ rw fails.1 sound
    ]
turns_by talks marks before e (Some c) new turns sound =
    elim (when_cases (is_enabled_of before e (Some c)) _ _ turns) as (λ _. IsSound new) [
      | inl held ↦ acts_sound talks marks before c e new held.0 held.1 sound
      | inr fails ↦ rw fails.1 sound
    ]

-- Each event keeps the world sound.
pub turn_sound : (talks : TalkLaws) (marks : WatchLaws) (before : State) (e : Event) (new : State) → Turn before e new → IsSound before
    → IsSound new
turn_sound talks marks before e new turns sound = turns_by talks marks before e (actor e) new turns sound

pub turns_sound : (talks : TalkLaws) (marks : WatchLaws) (before : State) (events : List Event) (new : State) → Turns before events new
    → IsSound before → IsSound new
turns_sound talks marks before [] new is sound = rw is sound
turns_sound talks marks before (e ∷ events) new turns sound =
    turns_sound talks marks turns.0 events new turns.2 (turn_sound talks marks before e turns.0 turns.1 sound)

-- NO READ SEES A RELEASED PLACE

readable_stands : (state : State) (o : Option ℕ) (i place : ℕ) → ArePlaced state.logs state.places state.epoch (stay_of state) (due_of state)
    → IsReadable o (log_of state i) place → standing state.places place ≡ 1
readable_stands state None i place placed reads = absurd reads
readable_stands state (Some x) i place placed reads =
    omega (arith, reads, readable_le place x (log_of state i), part_le place state.logs i, placed.once place, standing_le state.places place)

none_placed : (state : State) → ArePlaced state.logs state.places state.epoch (stay_of state) (due_of state) → NoneReleased state
none_placed state placed = record {
  kept = λ i number place is.
      let log : LogState = log_of state i in
      omega (
        arith,
        kept_at log.kept _ place (place_some log number place is),
        count place log,
        part_le place state.logs i,
        placed.once place,
        standing_le state.places place,
      );
  due = λ c.
      each_map (λ (one : Due). IsReadable (client state c).stay (log_of state one.stripe) one.place)
      (λ (one : Due). standing state.places one.place ≡ 1) (client state c).due
      (λ one reads. readable_stands state (client state c).stay one.stripe one.place placed reads) (placed.reads c);
}

pub none_released : (state : State) → IsSound state → NoneReleased state
none_released state sound = none_placed state sound.placed

-- nor where a client took a stripe, and room was made then
pub none_taken : (before : State) (c i : ℕ) (stripes : List ℕ) (after : State) → IsSound before → c < length before.clients
    → get_or before.holders i None ≡ None → (client before c).due ≡ []
    → StepsAll (taken before c (client before c) i) stripes after → NoneReleased after
none_taken before c i stripes after sound below free none steps =
    none_placed after (steps_kept c (taken before c (client before c) i) stripes after steps (taken_kept c i before below free none sound)).placed
