-- A call is committed, and the world is kept.
use Rattle.std.proofs.Common.{◌≡◌, ◌≢◌, ℕ, ◌<◌, Bool, true, false, cond, List, [], ◌∷◌, length, get_or, set, subst, Option, Some, None, refl, sym, ap, ◌∙◌, inl, inr, nat_eq, if◌then◌else◌, bytes_eq, length-set}
use Rattle.std.specs.Map.{update}
use Rattle.words.specs.declared.history.Operation.{Operation}
use Rattle.words.specs.declared.history.Entry.{Entry}
use Rattle.words.specs.Store.{Bytes, Store, Write, written, writes_key}
use Rattle.words.specs.History.{History, Legal, Extends, Pair, after, writes_of, pairs_of, keys_of_pairs, AreWatches}
use Rattle.words.specs.Watches.{mark_at, mark_after, touched}
use Rattle.words.specs.Stripes.{stripe_of, IsPart}
use Rattle.words.specs.declared.reply.Fault.TheVariants.{StoreFull}
use Rattle.words.specs.Session.{Asked, Run, Watch, Exec, operation_of, watched_at_fault}
use Rattle.gates.specs.Passes.{AreWatched}
use Rattle.transact.specs.declared.call.Call.{Call}
use Rattle.transact.specs.Calls.{asked_of}
use Rattle.transact.specs.Tables.{Change, clears}
use Rattle.transact.specs.Plans.{keys_ended}
use Rattle.connection.specs.Clients.{Progress}
use Rattle.world_model.specs.States.{Phase, Serving, Calling, Leaving, Left, Ended, ClientState, State, fresh, client, stripe_count}
use Rattle.world_model.specs.Enabled.{holds_none}
use Rattle.world_model.specs.Planning.{reply_now, writes_now}
use Rattle.world_model.specs.Commits.{Told, Refused, Commits, Installs, OpensPages, marks_changed, writes_of_call}
use Rattle.world_model.specs.Told.{mine}
use Rattle.world_model.specs.Places.{ArePlaced, stay_of, due_of}
use Rattle.world_model.specs.Soundness.{Opened, Over, HasAdvanced, IsSoundClient, IsSound}
use Rattle.world_model.specs.Laws.{TalkLaws, WatchLaws}
use Rattle.world_model.proofs.Standing.{whole_is, due_now, writes_answered}
use Rattle.world_model.proofs.Talking.{talks_entered, talks_refused, talks_forgot}
use Rattle.world_model.proofs.Marking.{call_given, forget_given, place_given, touched_not, changed_other, marked_own, forgotten_own, refused_own, cleared_own, cleared_other}
use Rattle.world_model.proofs.Holding.{when_cases}
use Rattle.world_model.proofs.Placing.{placed_as, placed_opened}
use Rattle.world_model.proofs.Keeping.{IsKept, set_clients, client_as, mine_own, mine_other}

-- WHAT STRIPES STORE

-- what is written to a key depends on what is stored there alone
written_at : (one other : Store) (writes : List Write) (key : Bytes) → one key ≡ other key
    → written one writes key ≡ written other writes key
written_at one other [] key same = same
written_at one other (write ∷ writes) key same =
    written_at (update bytes_eq one write.0 write.1) (update bytes_eq other write.0 write.1) writes key
    (ap (λ (stored : Option Bytes). cond (bytes_eq write.0 key) write.1 stored) same)

-- each stripe reads as its part of the store that the writes leave
parts_written : (before mid : State) (writes : List Write) (change : Change) (now : Store) → IsSound before
    → Installs before writes change mid
    → ((key : Bytes) → written (after before.history) writes key ≡ now key)
    → (i : ℕ) → IsPart (stripe_count mid) i (mid.stores i) now
parts_written before mid writes change now sound installs all i =
    let n : ℕ = stripe_count before in
    rw installs.holders (λ key. installs.stores i key ∙
    elim (nat_eq (stripe_of n key) i)
    as (λ t. before.stores i key ≡ (if t then after before.history key else None)
    → (if t then written (before.stores i) writes key else before.stores i key) ≡ (if t then now key else None)) [
      | true ↦ λ is. written_at (before.stores i) (after before.history) writes key is ∙ all key
      | false ↦ λ is. is
    ] (sound.parts i key))

-- OTHER CLIENTS

rest_kept : (c : ℕ) (before mid : State) (peer : ClientState) → c < length before.clients → IsSound before
    → mid.clients ≡ set before.clients c peer
    → mid.holders ≡ before.holders
    → (d : ℕ) → d < length mid.clients → d ≢ c → HasAdvanced (client mid d).phase (holds_none d mid.holders)
rest_kept c before mid peer below sound clients holders =
    rw (clients, holders)
    (set_clients (λ d p. d ≢ c → HasAdvanced p.phase (holds_none d before.holders)) before.clients c peer below
    (λ differ. absurd (differ refl)) (λ d lt differ _. sound.rest d lt))

clients_kept : (c : ℕ) (before mid : State) (peer : ClientState) → c < length before.clients → mid.clients ≡ set before.clients c peer
    → IsSoundClient c mid peer → ((d : ℕ) → d < length before.clients → d ≢ c → IsSoundClient d mid (client before d))
    → (d : ℕ) → d < length mid.clients → IsSoundClient d mid (client mid d)
clients_kept c before mid peer below clients one others =
    subst (λ (all : List ClientState). (d : ℕ) → d < length all → IsSoundClient d mid (get_or all d fresh)) (sym clients)
    (set_clients (λ d p. IsSoundClient d mid p) before.clients c peer below one others)

-- PLACES

-- a client is set whose stay is as it was, and pages are opened
commit_placed : (c : ℕ) (before mid : State) (peer : ClientState) (writes : List Write) → c < length before.clients → IsSound before
    → mid.clients ≡ set before.clients c peer → peer.stay ≡ (client before c).stay → peer.due ≡ (client before c).due
    → OpensPages before writes mid → ArePlaced mid.logs mid.places mid.epoch (stay_of mid) (due_of mid)
commit_placed c before mid peer writes below sound clients stay due opens =
    rw (clients, opens.places, opens.epoch)
    (placed_as mid.logs before.places before.epoch before.clients c peer below stay due
    (placed_opened before.logs mid.logs before.places before.epoch (stay_of before) (due_of before) opens.count
    (λ i. ((opens.logs i).0, (opens.logs i).2)) sound.placed))

logs_count : (before mid : State) (writes : List Write) (change : Change) (made : List Write) → IsSound before → Installs before made change mid
    → OpensPages before writes mid → length mid.logs ≡ stripe_count mid
logs_count before mid writes change made sound installs opens =
    opens.count ∙ sound.logs ∙ sym (ap (λ (holders : List (Option ℕ)). length holders) installs.holders)

count_set : (before mid : State) (c : ℕ) (peer : ClientState) → c < length before.clients → mid.clients ≡ set before.clients c peer
    → c < length mid.clients
count_set before mid c peer below clients = rw (clients, length-set before.clients c peer) below

-- A CALL OF ONE ENTRY

-- what a transaction goes by is watched
goes_by : (history : History) (c : ℕ) (watches : List Pair) (asked : Asked) → AreWatches history c watches
    → AreWatches history c (pairs_of (operation_of watches asked))
goes_by history c watches (Run command) are = tt
goes_by history c watches (Watch keys) are = tt
goes_by history c watches (Exec commands) are = are

-- the entry of a client that asks this
abbrev entry_now : State → ℕ → Asked → Entry
entry_now before c asked =
    let operation : Operation = operation_of (client before c).watches asked in
    record { session = c; operation = operation; reply = reply_now before c operation }

-- what it writes
abbrev made_now : State → ℕ → Asked → List Write
made_now before c asked = writes_now before c (operation_of (client before c).watches asked)

writes_are : (before : State) (c : ℕ) (asked : Asked) → IsSound before
    → writes_of (after before.history) (entry_now before c asked) ≡ made_now before c asked
writes_are before c asked sound =
    let operation : Operation = operation_of (client before c).watches asked in
    ap (λ (store : Store). writes_answered (reply_now before c operation) store operation) (sym (whole_is before sound))

entry_extends : (c : ℕ) (before : State) (asked : Asked) (here : Progress) (call : Call) → c < length before.clients → IsSound before
    → asked_of call ≡ Some asked
    → Opened c (mine before.history c) (client before c).watches (client before c).input here call (client before c).output
    → Extends before.history (entry_now before c asked)
entry_extends c before asked here call below sound is talk = record {
  place = place_given talk.before here call asked (client before c).watches talk.gives is;
  reply_due = sym (due_now before c asked below sound).0;
  watches = goes_by before.history c (client before c).watches asked (sound.clients c below).watches;
}

-- its client
entry_own : TalkLaws → WatchLaws → (c : ℕ) (before mid : State) (here : Progress) (call : Call) (asked : Asked) → c < length before.clients
    → asked_of call ≡ Some asked → IsSound before → (client before c).due ≡ []
    → Opened c (mine before.history c) (client before c).watches (client before c).input here call (client before c).output
    → (told : Told before c (client before c) here call (Some asked) mid)
    → Installs before (made_now before c asked) (marks_changed c call (made_now before c asked)) mid
    → IsSoundClient c mid told.0
entry_own talks marks c before mid here call asked below is sound none talk told installs =
    let peer : ClientState = client before c in
    let one = sound.clients c below in
    let history : History = before.history in
    let entry : Entry = entry_now before c asked in
    let made : List Write = made_now before c asked in
    let call_is = call_given talk.before here call asked peer.watches talk.conversation.watches talk.gives is in
    rw told.1.else_same (record {
      talks = rw (told.3, mine_own c history entry.operation entry.reply)
          (talks_entered talks c (mine history c) peer here call asked entry.reply told.1.said told.1.stage
          (length history) is talk told.1.resumes);
      watches = rw told.3 (marks.own_watches entry history peer.watches one.watches);
      once = marks.once peer.watches entry.operation (length history) one.once;
      marks = λ key.
          rw told.3
          (installs.marks key c
          ∙ ap (marks_changed c call made key c) (one.marks key)
          ∙ marked_own before c history peer.watches asked call key call_is
          ∙ ap (λ (writes : List Write). mark_after entry.operation (writes_key writes key) key (mark_at history peer.watches key))
          (sym (writes_are before c asked sound))
          ∙ sym (marks.own_marks entry history peer.watches key one.watches));
      reads = none;
    })

-- another client
entry_other : WatchLaws → (c d : ℕ) (before mid : State) (call : Call) (asked : Asked) → IsSound before → d ≢ c
    → mid.history ≡ entry_now before c asked ∷ before.history
    → Installs before (made_now before c asked) (marks_changed c call (made_now before c asked)) mid
    → IsSoundClient d before (client before d) → IsSoundClient d mid (client before d)
entry_other marks c d before mid call asked sound differ grown installs one =
    let peer : ClientState = client before d in
    let history : History = before.history in
    let entry : Entry = entry_now before c asked in
    record {
      talks = rw (grown, mine_other c d history entry.operation entry.reply differ) one.talks;
      watches = rw grown (marks.watches d peer.watches (entry ∷ []) history one.watches);
      once = one.once;
      marks = λ key.
          rw grown
          (installs.marks key d
          ∙ changed_other c d call (made_now before c asked) key (before.marks key d) differ
          ∙ ap (λ (mark : Option Bool). touched (writes_key (made_now before c asked) key) mark) (one.marks key)
          ∙ ap (λ (writes : List Write). touched (writes_key writes key) (mark_at history peer.watches key))
          (sym (writes_are before c asked sound))
          ∙ sym (marks.marks entry history d peer.watches key one.watches));
      reads = one.reads;
    }

entry_kept : TalkLaws → WatchLaws → (c : ℕ) (before mid : State) (here : Progress) (call : Call) (asked : Asked) → c < length before.clients
    → asked_of call ≡ Some asked → IsSound before → (client before c).due ≡ []
    → Opened c (mine before.history c) (client before c).watches (client before c).input here call (client before c).output
    → Told before c (client before c) here call (Some asked) mid
    → Installs before (made_now before c asked) (marks_changed c call (made_now before c asked)) mid
    → OpensPages before (made_now before c asked) mid
    → IsKept c mid
entry_kept talks marks c before mid here call asked below is sound none talk told installs opens =
    let history : History = before.history in
    let entry : Entry = entry_now before c asked in
    let made : List Write = made_now before c asked in
    record {
      below = count_set before mid c told.0 below told.2;
      legal = rw told.3 (let legal : Legal (entry ∷ history) =
          (sound.legal, entry_extends c before asked here call below sound is talk) in legal);
      parts = rw told.3
          (parts_written before mid made (marks_changed c call made) (after (entry ∷ history)) sound installs
          (λ key. ap (λ (writes : List Write). written (after history) writes key) (sym (writes_are before c asked sound))));
      clients = clients_kept c before mid told.0 below told.2
          (entry_own talks marks c before mid here call asked below is sound none talk told installs)
          (λ d lt differ. entry_other marks c d before mid call asked sound differ told.3 installs (sound.clients d lt));
      rest = rest_kept c before mid told.0 below sound told.2 installs.holders;
      logs = logs_count before mid made (marks_changed c call made) made sound installs opens;
      placed = commit_placed c before mid told.0 made below sound told.2 (rw told.1.else_same refl) (rw told.1.else_same refl) opens;
    }

-- A CALL THAT ONLY FORGETS

-- the history and the stores are the same, and marks of other clients
forget_kept : (c : ℕ) (before mid : State) (peer : ClientState) (change : Change) → c < length before.clients → IsSound before
    → mid.clients ≡ set before.clients c peer → mid.history ≡ before.history → Installs before [] change mid
    → ((d : ℕ) (key : Bytes) → d ≢ c → change key d (before.marks key d) ≡ before.marks key d)
    → peer.stay ≡ (client before c).stay → peer.due ≡ (client before c).due → OpensPages before [] mid
    → IsSoundClient c mid peer → IsKept c mid
forget_kept c before mid peer change below sound clients same installs others stay due opens one = record {
  below = count_set before mid c peer below clients;
  legal = rw same sound.legal;
  parts = rw same (parts_written before mid [] change (after before.history) sound installs (λ key. refl));
  clients = clients_kept c before mid peer below clients one
      (λ d lt differ. client_as d before mid (client before d) (sym same) (λ key. installs.marks key d ∙ others d key differ)
      (sound.clients d lt));
  rest = rest_kept c before mid peer below sound clients installs.holders;
  logs = logs_count before mid [] change [] sound installs opens;
  placed = commit_placed c before mid peer [] below sound clients stay due opens;
}

forgot_own : TalkLaws → (c : ℕ) (before mid : State) (here : Progress) (call : Call) → c < length before.clients
    → asked_of call ≡ None → IsSound before → (client before c).due ≡ []
    → Opened c (mine before.history c) (client before c).watches (client before c).input here call (client before c).output
    → (told : Told before c (client before c) here call None mid) → Installs before [] (marks_changed c call []) mid
    → IsSoundClient c mid told.0
forgot_own talks c before mid here call below is sound none talk told installs =
    let peer : ClientState = client before c in
    let one = sound.clients c below in
    let call_is = forget_given talk.before here call peer.watches talk.conversation.watches talk.gives is in
    rw told.2.else_same (record {
      talks = rw told.4
          (talks_forgot talks c (mine before.history c) peer here call told.1 told.2.said told.2.stage is talk told.2.resumes);
      watches = tt;
      once = tt;
      marks = λ key.
          installs.marks key c ∙ ap (marks_changed c call [] key c) (one.marks key)
          ∙ forgotten_own c before.history peer.watches call key call_is;
      reads = none;
    })

forgot_kept : TalkLaws → (c : ℕ) (before mid : State) (here : Progress) (call : Call) → c < length before.clients
    → asked_of call ≡ None → IsSound before → (client before c).due ≡ []
    → Opened c (mine before.history c) (client before c).watches (client before c).input here call (client before c).output
    → Told before c (client before c) here call None mid → Installs before [] (marks_changed c call []) mid → OpensPages before [] mid → IsKept c mid
forgot_kept talks c before mid here call below is sound none talk told installs opens =
    forget_kept c before mid told.0 (marks_changed c call []) below sound told.3 told.4 installs
    (λ d key differ. changed_other c d call [] key (before.marks key d) differ ∙ touched_not (before.marks key d))
    (rw told.2.else_same refl) (rw told.2.else_same refl) opens
    (forgot_own talks c before mid here call below is sound none talk told installs)

-- A CALL WHOSE PLAN MET A FULL STORE

faulty_watches : (history : History) (c : ℕ) (watches : List Pair) (asked : Asked) → AreWatches history c watches
    → AreWatches history c (watched_at_fault watches asked)
faulty_watches history c watches (Run command) are = are
faulty_watches history c watches (Watch keys) are = are
faulty_watches history c watches (Exec commands) are = tt

faulty_once : (watches : List Pair) (asked : Asked) → AreWatched watches watches
    → AreWatched (watched_at_fault watches asked) (watched_at_fault watches asked)
faulty_once watches (Run command) are = are
faulty_once watches (Watch keys) are = are
faulty_once watches (Exec commands) are = tt

refused_sound : TalkLaws → (c : ℕ) (before mid : State) (here : Progress) (call : Call) (asked : Asked) → c < length before.clients
    → asked_of call ≡ Some asked → IsSound before → (client before c).due ≡ []
    → Opened c (mine before.history c) (client before c).watches (client before c).input here call (client before c).output
    → (told : Refused before c (client before c) here (Some asked) mid) → Installs before [] (clears c (keys_ended call)) mid
    → IsSoundClient c mid told.0
refused_sound talks c before mid here call asked below is sound none talk told installs =
    let peer : ClientState = client before c in
    let one = sound.clients c below in
    let call_is = call_given talk.before here call asked peer.watches talk.conversation.watches talk.gives is in
    rw told.1.else_same (record {
      talks = rw told.3
          (talks_refused talks c (mine before.history c) peer here call asked StoreFull told.1.said told.1.stage is talk told.1.resumes);
      watches = rw told.3 (faulty_watches before.history c peer.watches asked one.watches);
      once = faulty_once peer.watches asked one.once;
      marks = λ key.
          rw told.3
          (installs.marks key c ∙ ap (clears c (keys_ended call) key c) (one.marks key)
          ∙ refused_own c before.history peer.watches asked call key call_is);
      reads = none;
    })

refused_kept : TalkLaws → (c : ℕ) (before mid : State) (here : Progress) (call : Call) (asks : Option Asked) → c < length before.clients
    → asked_of call ≡ asks → IsSound before → (client before c).due ≡ []
    → Opened c (mine before.history c) (client before c).watches (client before c).input here call (client before c).output
    → Refused before c (client before c) here asks mid → Installs before [] (clears c (keys_ended call)) mid → OpensPages before [] mid → IsKept c mid
refused_kept talks c before mid here call None below is sound none talk told installs opens = absurd told
refused_kept talks c before mid here call (Some asked) below is sound none talk told installs opens =
    forget_kept c before mid told.0 (clears c (keys_ended call)) below sound told.2 told.3 installs
    (λ d key differ. cleared_other c d (keys_ended call) key (before.marks key d) differ)
    (rw told.1.else_same refl) (rw told.1.else_same refl) opens
    (refused_sound talks c before mid here call asked below is sound none talk told installs)

-- a client whose session is over
left_kept : (c : ℕ) (before mid : State) (keys : List Bytes) → c < length before.clients → IsSound before → (client before c).due ≡ []
    → Over c (mine before.history c) (client before c).input (client before c).closed (client before c).output
    → keys ≡ keys_of_pairs (client before c).watches
    → mid.clients ≡ set before.clients c (record (client before c) { phase = Left; watches = [] }) → mid.history ≡ before.history
    → Installs before [] (clears c keys) mid → OpensPages before [] mid → IsKept c mid
left_kept c before mid keys below sound none over is clients same installs opens =
    let peer : ClientState = client before c in
    forget_kept c before mid (record peer { phase = Left; watches = [] }) (clears c keys) below sound clients same installs
    (λ d key differ. cleared_other c d keys key (before.marks key d) differ) refl refl opens
    (record {
      talks = rw same (over, refl);
      watches = tt;
      once = tt;
      marks = λ key.
          installs.marks key c ∙ ap (clears c keys key c) ((sound.clients c below).marks key)
          ∙ cleared_own c before.history peer.watches keys key is;
      reads = none;
    })

-- A COMMIT

-- a call that asks for this, or only forgets
called_kept : TalkLaws → WatchLaws → (c : ℕ) (before mid : State) (here : Progress) (call : Call) (asks : Option Asked)
    → c < length before.clients
    → asked_of call ≡ asks → IsSound before → (client before c).due ≡ []
    → Opened c (mine before.history c) (client before c).watches (client before c).input here call (client before c).output
    → Told before c (client before c) here call asks mid
    → (let writes : List Write = writes_of_call before c (client before c).watches asks in Installs before writes
    (marks_changed c call writes) mid × OpensPages before writes mid)
    → IsKept c mid
called_kept talks marks c before mid here call None below is sound none talk told installs =
    forgot_kept talks c before mid here call below is sound none talk told installs.0 installs.1
called_kept talks marks c before mid here call (Some asked) below is sound none talk told installs =
    entry_kept talks marks c before mid here call asked below is sound none talk told installs.0 installs.1

pub commit_kept : TalkLaws → WatchLaws → (c : ℕ) (before mid : State) (phase : Phase) → c < length before.clients
    → (client before c).phase ≡ phase → IsSound before → (client before c).due ≡ [] → Commits before c (client before c) phase mid → IsKept c mid
commit_kept talks marks c before mid (Calling here call) below is sound none does =
    let talk = rw is at (sound.clients c below).talks in
    elim (when_cases (client before c).full _ _ does) as (λ _. IsKept c mid) [
      | inl held ↦ refused_kept talks c before mid here call (asked_of call) below refl sound none talk held.1.0 held.1.1 held.1.2
      | inr held ↦ called_kept talks marks c before mid here call (asked_of call) below refl sound none talk held.1.0 (held.1.1, held.1.2)
    ]
commit_kept talks marks c before mid (Leaving keys) below is sound none does =
    let talk = rw is at (sound.clients c below).talks in
    left_kept c before mid keys below sound none talk.0 talk.1 does.0 does.1 does.2 does.3
commit_kept talks marks c before mid (Serving here) below is sound none does = absurd does
commit_kept talks marks c before mid Left below is sound none does = absurd does
commit_kept talks marks c before mid Ended below is sound none does = absurd does
