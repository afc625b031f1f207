-- What an event of a client leaves of a world, where one client alone has changed.
use Rattle.std.proofs.Common.{◌≡◌, ◌∙◌, ℕ, zero, suc, Bool, true, false, ◌&&◌, List, [], ◌∷◌, set, Some, refl, sym, ap, ap₂, subst, length-set}
use Rattle.std.specs.Prelude.{slice_get}
use Rattle.std.specs.Vec.{with_item}
use Rattle.words.specs.Store.{Bytes}
use Rattle.world_model.specs.declared.event.Event.{Event}
use Rattle.world_model.specs.declared.event.Event.TheVariants as event
use Rattle.world_log.specs.Types.{Stripes}
use Rattle.world_model.specs.States.{ClientState, State, client, with_client}
use Rattle.world_model.specs.Enabled.{hears, holds_none}
use Rattle.world_model.specs.Advancing.{Advances, Goes, is_idle}
use Rattle.world_model.specs.Effects.{heard}
use Rattle.world_model.specs.Planned.{IsNoCommitOf}
use Rattle.world.specs.Desks.{IsRight, beside, client_of}
use Rattle.world.specs.Peers.{IsSteady}
use Rattle.world.specs.Tables.{Handled, HasGoneOn, IsReadyFor, IsWorld, Same, StaysRoomy, Tended, state_of}
use Rattle.world.specs.declared.desk.Desk.{Desk}
use Rattle.world.specs.declared.member.Member.{Member}
use Rattle.world.specs.declared.world.World.{World}
use Rattle.world.proofs.Members.{advances_beside, clients_with}
use Rattle.world.proofs.Settling.{when_true}
use Rattle.world.proofs.Worlds.{here, set_cases, set_here, some_same, steady_at, steady_heard}

-- the world with another client in a place
abbrev pub with_member : World → ℕ → Member → World
with_member world c one = record world { members = with_item world.members c one }

pub state_with : (world : World) (c : ℕ) (one : Member) → state_of (with_member world c one) ≡ with_client (state_of world) c (client_of one)
unfolding state_of
state_with world c one =
    ap (λ (l : List ClientState). (let s : State = record (state_of world) { clients = l } in s)) (clients_with world.members.items c one)

pub roomy_same : (c : ℕ) (stripes : Stripes) → StaysRoomy c stripes stripes
roomy_same c stripes = record { count = refl; rooms = λ i log there. (log, there, λ weight room. room) }

find : (members : List Member) (c d : ℕ) (one new other : Member) → slice_get members c ≡ Some one → new.desk ≡ one.desk
    → slice_get (set members c new) d ≡ Some other
    → (was : Member) × (slice_get members d ≡ Some was) × (other.desk ≡ was.desk)
find [] c d one new other there same at = absurd (cc at)
find (first ∷ members) zero zero one new other there same at = (one, there, ap (λ (m : Member). m.desk) (some_same (sym at)) ∙ same)
find (first ∷ members) zero (suc d) one new other there same at = (other, at, refl)
find (first ∷ members) (suc c) zero one new other there same at = (other, at, refl)
find (first ∷ members) (suc c) (suc d) one new other there same at = find members c d one new other there same at

-- what clients have beside their sessions is the same
pub tended_same : (old : World) (c : ℕ) (one new : Member) (e : Event) → IsWorld old → slice_get old.members.items c ≡ Some one → new.desk ≡ one.desk
    → ((d : ℕ) → IsNoCommitOf d e) → Tended old e (with_member old c new)
tended_same old c one new e is there same none = record {
  count = length-set old.members.items c new;
  log = is.log;
  desks = λ d other at. set_cases old.members.items c d new other at (λ (m : Member). IsRight old.log.device m.desk)
      (subst (IsRight old.log.device) (sym same) (is.desks c one there)) (λ was. is.desks d other was);
  plans = λ d other at.
      let was = find old.members.items c d one new other there same at in
      Same was.0 was.1 (ap (λ (k : Desk). k.plan) was.2) (none d) (roomy_same d old.log.stripes);
}

-- a client is fed, or its input is at its end
pub heard_state : (old : World) (c : ℕ) (one : Member) (peer : ClientState) (bytes : Bytes) → slice_get old.members.items c ≡ Some one
    → peer ≡ heard one.peer bytes
    → state_of (with_member old c (record one { peer = peer })) ≡ with_client (state_of old) c (heard (client (state_of old) c) bytes)
unfolding state_of
heard_state old c one peer bytes there is =
    let at = here (state_of old) old.members.items c one refl there in
    state_with old c (record one { peer = peer })
    ∙ ap (λ (p : ClientState). with_client (state_of old) c (beside one.desk p)) is
    ∙ ap (λ (k : ClientState). with_client (state_of old) c (heard k bytes)) (sym at.0)

pub closed_state : (old : World) (c : ℕ) (one : Member) (peer : ClientState) → slice_get old.members.items c ≡ Some one
    → peer ≡ record one.peer { closed = true }
    → state_of (with_member old c (record one { peer = peer })) ≡ with_client (state_of old) c (record (client (state_of old) c) { closed = true })
unfolding state_of
closed_state old c one peer there is =
    let at = here (state_of old) old.members.items c one refl there in
    state_with old c (record one { peer = peer })
    ∙ ap (λ (p : ClientState). with_client (state_of old) c (beside one.desk p)) is
    ∙ ap (λ (k : ClientState). with_client (state_of old) c (record k { closed = true })) (sym at.0)

-- a client goes on
pub goes_by : (old : World) (c : ℕ) (one : Member) (peer : ClientState) → slice_get old.members.items c ≡ Some one
    → is_idle one.peer.phase ≡ true → holds_none c old.log.stripes.holders.items ≡ true → Advances one.peer one.peer.phase peer
    → Goes (state_of old) c (state_of (with_member old c (record one { peer = peer })))
unfolding state_of
goes_by old c one peer there idle none goes =
    let at = here (state_of old) old.members.items c one refl there in
    let advances = subst (λ (k : ClientState). Advances k k.phase (beside one.desk peer)) (sym at.0) (advances_beside one.desk one.peer one.peer.phase peer goes) in
    when_true (is_idle (client (state_of old) c).phase && holds_none c old.log.stripes.holders.items) _ _
    (ap₂ (λ (a b : Bool). a && b) (ap (λ (k : ClientState). is_idle k.phase) at.0 ∙ idle) none)
    (beside one.desk peer, advances, state_with old c (record one { peer = peer }))

-- a client that may go on
pub ready_with : (old : World) (c : ℕ) (one new : Member) → slice_get old.members.items c ≡ Some one → IsSteady new.peer → IsReadyFor c (with_member old c new)
ready_with old c one new there is other at =
    subst (λ (m : Member). IsSteady m.peer) (some_same (sym (set_here old.members.items c one new there) ∙ at)) is

pub steady_here : (old : World) (c : ℕ) (one : Member) → IsWorld old → slice_get old.members.items c ≡ Some one → IsSteady one.peer
unfolding state_of
steady_here old c one is there = steady_at (state_of old) old.members.items c one refl is.sound there

pub handled_close : (old : World) (c : ℕ) (one : Member) (peer : ClientState) → IsWorld old → slice_get old.members.items c ≡ Some one
    → hears (client (state_of old) c) ≡ true → peer ≡ record one.peer { closed = true }
    → Handled old c (event.Close c) (with_member old c (record one { peer = peer }))
handled_close old c one peer is there heard same = record {
  enabled = heard;
  does = closed_state old c one peer there same;
  ready = ready_with old c one (record one { peer = peer }) there (subst IsSteady (sym same) (steady_here old c one is there));
  tended = tended_same old c one (record one { peer = peer }) (event.Close c) is there refl (λ d. tt);
}

pub handled_piece : (old : World) (c : ℕ) (one : Member) (peer : ClientState) (bytes : Bytes) → IsWorld old → slice_get old.members.items c ≡ Some one
    → hears (client (state_of old) c) ≡ true → peer ≡ heard one.peer bytes
    → Handled old c (event.Piece c bytes) (with_member old c (record one { peer = peer }))
handled_piece old c one peer bytes is there hears same = record {
  enabled = hears;
  does = heard_state old c one peer bytes there same;
  ready = ready_with old c one (record one { peer = peer }) there
      (subst IsSteady (sym same) (steady_heard one.peer.watches one.peer.phase bytes (steady_here old c one is there)));
  tended = tended_same old c one (record one { peer = peer }) (event.Piece c bytes) is there refl (λ d. tt);
}

-- a client with the same beside it
pub gone_on : (old : World) (c : ℕ) (one : Member) (peer : ClientState) → slice_get old.members.items c ≡ Some one
    → HasGoneOn old (with_member old c (record one { peer = peer }))
gone_on old c one peer there = record {
  desks = λ d other at. find old.members.items c d one (record one { peer = peer }) other there refl at;
  else_same = refl;
}

both_parts : (a b : Bool) → (a && b) ≡ true → (a ≡ true) × (b ≡ true)
both_parts true b is = (refl, is)
both_parts false b is = cc is

-- a client that may advance is idle, and holds nothing
pub ready_parts : (old : World) (c : ℕ) (one : Member) (t : Bool) → slice_get old.members.items c ≡ Some one
    → t ≡ (is_idle (client (state_of old) c).phase && holds_none c old.log.stripes.holders.items) → t ≡ true
    → (is_idle one.peer.phase ≡ true) × (holds_none c old.log.stripes.holders.items ≡ true)
unfolding state_of
ready_parts old c one t there is test =
    let parts = both_parts (is_idle (client (state_of old) c).phase) (holds_none c old.log.stripes.holders.items) (sym is ∙ test) in
    (ap (λ (k : ClientState). is_idle k.phase) (sym (here (state_of old) old.members.items c one refl there).0) ∙ parts.0, parts.1)
