-- A sound world, but that one client may still have to advance; and the world once it has.
use Rattle.std.proofs.Common.{◌≡◌, ◌≢◌, ℕ, ◌<◌, Bool, true, false, ◌&&◌, List, [], ◌∷◌, ◌++◌, length, get_or, set, reverse, Option, None, refl, sym, ap, ◌∙◌, inl, inr, nat_eq, if◌then◌else◌, length-set, eq-eqb, Decides}
use Rattle.std.proofs.lemmas.Bool.Decides.{Decides-eqb}
use Rattle.std.proofs.lemmas.List.{reverse-append, get_or-set_same, get_or-set_other}
use Rattle.words.specs.declared.reply.Reply.{Reply}
use Rattle.words.specs.declared.history.Operation.{Operation}
use Rattle.words.specs.declared.history.Entry.{Entry}
use Rattle.words.specs.Store.{Bytes}
use Rattle.words.specs.History.{History, Legal, Pair, Placed, after, subhistory}
use Rattle.words.specs.Watches.{mark_at}
use Rattle.words.specs.Stripes.{IsPart}
use Rattle.world_model.specs.Logs.{LogState}
use Rattle.world_model.specs.States.{Phase, Serving, Calling, Leaving, Left, Ended, Due, ClientState, State, fresh, client, stripe_count, with_client}
use Rattle.world_model.specs.Enabled.{is_number, holds_none}
use Rattle.world_model.specs.Advancing.{is_idle, Goes}
use Rattle.world_model.specs.Told.{mine}
use Rattle.world_model.specs.Places.{ArePlaced, stay_of, due_of}
use Rattle.world_model.specs.Soundness.{HasAdvanced, ReadsFor, IsSoundClient, IsSound}
use Rattle.world_model.specs.Laws.{TalkLaws}
use Rattle.world_model.proofs.Talking.{TalksOf, talks_advanced}
use Rattle.world_model.proofs.Holding.{when_cases, both, apart_eqb, holds_none_set}
use Rattle.world_model.proofs.Placing.{placed_as}

-- A sound world, but that a client may still have to advance.
pub record IsKept (c : ℕ) (state : State) : Type 0 where
  pub below : c < length state.clients
  pub legal : Legal state.history
  pub parts : (i : ℕ) → IsPart (stripe_count state) i (state.stores i) (after state.history)
  pub clients : (d : ℕ) → d < length state.clients → IsSoundClient d state (client state d)
  pub rest : (d : ℕ) → d < length state.clients → d ≢ c → HasAdvanced (client state d).phase (holds_none d state.holders)
  pub logs : length state.logs ≡ stripe_count state
  pub placed : ArePlaced state.logs state.places state.epoch (stay_of state) (due_of state)

pub kept_of : (c : ℕ) (state : State) → c < length state.clients → IsSound state → IsKept c state
kept_of c state below sound = record {
  below = below;
  legal = sound.legal;
  parts = sound.parts;
  clients = sound.clients;
  rest = λ d lt differ. sound.rest d lt;
  logs = sound.logs;
  placed = sound.placed;
}

-- P of each client, from one and the others
by_client : (P : ℕ → Type 0) (c : ℕ) → P c → ((d : ℕ) → d ≢ c → P d) → (d : ℕ) → P d
by_client P c one others d =
    elim (nat_eq d c) as (λ t. Decides t (d ≡ c) → P d) [
      | true ↦ λ test. rw (test.0 refl) one
      | false ↦ λ test. others d (λ same. cc (test.1 same))
    ] (Decides-eqb d c)

-- P of each client, where one is set
pub set_clients : (P : ℕ → ClientState → Type 0) (clients : List ClientState) (c : ℕ) (peer : ClientState) → c < length clients → P c peer
    → ((d : ℕ) → d < length clients → d ≢ c → P d (get_or clients d fresh))
    → (d : ℕ) → d < length (set clients c peer) → P d (get_or (set clients c peer) d fresh)
set_clients P clients c peer below one others =
    by_client (λ d. d < length (set clients c peer) → P d (get_or (set clients c peer) d fresh)) c
    (λ _. rw (get_or-set_same clients c peer fresh below) one)
    (λ d differ lt. rw (get_or-set_other clients c d peer fresh differ) (others d (rw (length-set clients c peer) at lt) differ))

-- a client is sound still, where the history and its own marks are the same
pub client_as : (d : ℕ) (old new : State) (peer : ClientState) → old.history ≡ new.history
    → ((key : Bytes) → new.marks key d ≡ old.marks key d) → IsSoundClient d old peer → IsSoundClient d new peer
client_as d old new peer same marks one = record {
  talks = rw same at one.talks;
  watches = rw same at one.watches;
  once = one.once;
  marks = λ key. marks key ∙ one.marks key ∙ ap (λ (history : History). mark_at history peer.watches key) same;
  reads = one.reads;
}

-- HISTORIES WITH ONE ENTRY MORE

pub mine_own : (c : ℕ) (history : History) (operation : Operation) (reply : Reply)
    → mine (record { session = c; operation = operation; reply = reply } ∷ history) c
    ≡ mine history c ++ (length history, record { session = c; operation = operation; reply = reply }) ∷ []
mine_own c history operation reply =
    let entry : Entry = record { session = c; operation = operation; reply = reply } in
    let placed : Placed = (length history, entry) in
    ap (λ (t : Bool). reverse (if t then placed ∷ subhistory history c else subhistory history c)) (eq-eqb c c refl)
    ∙ reverse-append (placed ∷ []) (subhistory history c)

pub mine_other : (c d : ℕ) (history : History) (operation : Operation) (reply : Reply) → d ≢ c
    → mine (record { session = c; operation = operation; reply = reply } ∷ history) d ≡ mine history d
mine_other c d history operation reply differ =
    let entry : Entry = record { session = c; operation = operation; reply = reply } in
    let placed : Placed = (length history, entry) in
    ap (λ (t : Bool). reverse (if t then placed ∷ subhistory history d else subhistory history d)) (apart_eqb c d (λ e. differ (sym e)))

-- A CLIENT OR A HOLDER IS SET

-- a client is set that watches what it watched, and whose talk is as due
pub peer_sound : (c : ℕ) (state : State) (old new : ClientState) (clients : List ClientState) → IsSoundClient c state old
    → TalksOf c (mine state.history c) new → new.watches ≡ old.watches → ReadsFor new.phase new.due
    → IsSoundClient c (record state { clients = clients }) new
peer_sound c state old new clients one talk same reads = record {
  talks = talk;
  watches = rw same one.watches;
  once = rw same one.once;
  marks = λ key. one.marks key ∙ ap (λ (pairs : List Pair). mark_at state.history pairs key) (sym same);
  reads = reads;
}

pub set_kept : (c : ℕ) (before : State) (peer : ClientState) → IsKept c before
    → TalksOf c (mine before.history c) peer → peer.watches ≡ (client before c).watches → ReadsFor peer.phase peer.due
    → ArePlaced before.logs before.places before.epoch (stay_of (with_client before c peer)) (due_of (with_client before c peer))
    → IsKept c (with_client before c peer)
set_kept c before peer kept talk same reads placed =
    let new : State = with_client before c peer in
    record {
      below = rw (length-set before.clients c peer) kept.below;
      legal = kept.legal;
      parts = kept.parts;
      clients = set_clients (λ d p. IsSoundClient d new p) before.clients c peer kept.below
          (peer_sound c before (client before c) peer (set before.clients c peer) (kept.clients c kept.below) talk same reads)
          (λ d lt differ. client_as d before new (client before d) refl (λ key. refl) (kept.clients d lt));
      rest = set_clients (λ d p. d ≢ c → HasAdvanced p.phase (holds_none d before.holders)) before.clients c peer kept.below
          (λ differ. absurd (differ refl)) (λ d lt differ _. kept.rest d lt differ);
      logs = kept.logs;
      placed = placed;
    }

-- the same of one whose stay and due receipts stay as they are
pub set_kept_as : (c : ℕ) (before : State) (peer : ClientState) → IsKept c before
    → TalksOf c (mine before.history c) peer → peer.watches ≡ (client before c).watches → ReadsFor peer.phase peer.due
    → peer.stay ≡ (client before c).stay → peer.due ≡ (client before c).due
    → IsKept c (with_client before c peer)
set_kept_as c before peer kept talk same reads stay due =
    set_kept c before peer kept talk same reads
    (placed_as before.logs before.places before.epoch before.clients c peer kept.below stay due kept.placed)

-- a holder is set, and no other client held that stripe or holds it
pub hold_kept : (c i : ℕ) (holder : Option ℕ) (before : State) → IsKept c before
    → ((d : ℕ) → d ≢ c → is_number d (get_or before.holders i None) ≡ false) → ((d : ℕ) → d ≢ c → is_number d holder ≡ false)
    → IsKept c (record before { holders = set before.holders i holder })
hold_kept c i holder before kept was is =
    let new : State = record before { holders = set before.holders i holder } in
    record {
      below = kept.below;
      legal = kept.legal;
      parts = rw (length-set before.holders i holder) kept.parts;
      clients = λ d lt. client_as d before new (client before d) refl (λ key. refl) (kept.clients d lt);
      rest = λ d lt differ. rw (holds_none_set d before.holders i holder (was d differ) (is d differ)) (kept.rest d lt differ);
      logs = rw (length-set before.holders i holder) kept.logs;
      placed = kept.placed;
    }

-- logs, places and the epoch change
pub logs_kept : (c : ℕ) (before : State) (logs : List LogState) (places : List (Option Bytes)) (epoch : ℕ) → length logs ≡ length before.logs
    → ArePlaced logs places epoch (stay_of before) (due_of before) → IsKept c before
    → IsKept c (record before { logs = logs; places = places; epoch = epoch })
logs_kept c before logs places epoch same placed kept =
    let new : State = record before { logs = logs; places = places; epoch = epoch } in
    record {
      below = kept.below;
      legal = kept.legal;
      parts = kept.parts;
      clients = λ d lt. client_as d before new (client before d) refl (λ key. refl) (kept.clients d lt);
      rest = kept.rest;
      logs = same ∙ kept.logs;
      placed = placed;
    }

pub logs_sound : (before : State) (logs : List LogState) (places : List (Option Bytes)) (epoch : ℕ) → length logs ≡ length before.logs
    → ArePlaced logs places epoch (stay_of before) (due_of before) → IsSound before
    → IsSound (record before { logs = logs; places = places; epoch = epoch })
logs_sound before logs places epoch same placed sound =
    let new : State = record before { logs = logs; places = places; epoch = epoch } in
    record {
      legal = sound.legal;
      parts = sound.parts;
      clients = λ d lt. client_as d before new (client before d) refl (λ key. refl) (sound.clients d lt);
      rest = sound.rest;
      logs = same ∙ sound.logs;
      placed = placed;
    }

-- THE CLIENT ADVANCES

-- one that may not has nothing to show
at_rest : (phase : Phase) (none : Bool) → (is_idle phase && none) ≡ false → HasAdvanced phase none
at_rest (Serving here) true is = cc
at_rest (Serving here) false is = tt
at_rest Left true is = cc
at_rest Left false is = tt
at_rest (Calling here call) none is = tt
at_rest (Leaving keys) none is = tt
at_rest Ended none is = tt

-- one that may reads nothing more
idle_reads : (phase : Phase) (due : List Due) → is_idle phase ≡ true → ReadsFor phase due → due ≡ []
idle_reads (Serving here) due is reads = reads
idle_reads Left due is reads = reads
idle_reads (Calling here call) due is reads = cc is
idle_reads (Leaving keys) due is reads = cc is
idle_reads Ended due is reads = cc is

are_none : (phase : Phase) (due : List Due) → due ≡ [] → ReadsFor phase due
are_none (Serving here) due none = none
are_none (Calling here call) due none = tt
are_none (Leaving keys) due none = none
are_none Left due none = none
are_none Ended due none = none

pub goes_sound : TalkLaws → (c : ℕ) (mid new : State) → IsKept c mid → Goes mid c new → IsSound new
goes_sound talks c mid new kept goes =
    let below : c < length mid.clients = kept.below in
    elim (when_cases (is_idle (client mid c).phase && holds_none c mid.holders) _ _ goes) as (λ _. IsSound new) [
      | inl held ↦
          let went = held.1 in
          let peer : ClientState = went.0 in
          let one = kept.clients c below in
          let done = talks_advanced talks c (mine mid.history c) (holds_none c mid.holders) (client mid c)
          (client mid c).phase peer went.1 refl one.talks in
          let later : State = with_client mid c peer in
          rw went.2 (record {
            legal = kept.legal;
            parts = kept.parts;
            clients = set_clients (λ d p. IsSoundClient d later p) mid.clients c peer below
                (peer_sound c mid (client mid c) peer (set mid.clients c peer) one done.talks done.watches
                (are_none peer.phase peer.due
                (done.due ∙ idle_reads (client mid c).phase (client mid c).due (both _ _ held.0).0 one.reads)))
                (λ d lt differ. client_as d mid later (client mid d) refl (λ key. refl) (kept.clients d lt));
            rest = set_clients (λ d p. HasAdvanced p.phase (holds_none d mid.holders)) mid.clients c peer below done.rests
                (λ d lt differ. kept.rest d lt differ);
            logs = kept.logs;
            placed = placed_as mid.logs mid.places mid.epoch mid.clients c peer below done.stay done.due kept.placed;
          })
      | inr fails ↦ rw fails.1 (record {
        legal = kept.legal;
        parts = kept.parts;
        clients = kept.clients;
        rest = by_client (λ d. d < length mid.clients → HasAdvanced (client mid d).phase (holds_none d mid.holders)) c
            (λ _. at_rest (client mid c).phase (holds_none c mid.holders) fails.0)
            (λ d differ lt. kept.rest d lt differ);
        logs = kept.logs;
        placed = kept.placed;
      })
    ]
