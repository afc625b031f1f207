-- The world is sound at the beginning.
use Rattle.std.proofs.Common.{◌≡◌, ◌∙◌, ℕ, zero, suc, ◌<◌, Bool, true, false, get_or, replicate, Option, None, Some, refl, sym, ap, arith, nat_eq, if◌then◌else◌}
use Rattle.std.proofs.lemmas.List.{get_or-replicate, length-replicate}
use Rattle.words.specs.Store.{Bytes}
use Rattle.words.specs.Stream.{front}
use Rattle.words.specs.Stripes.{stripe_of}
use Rattle.connection.specs.Clients.{beginning}
use Rattle.world_model.specs.Logs.{new_log}
use Rattle.world_model.specs.States.{Serving, ClientState, State, fresh, start, stripe_count, log_at}
use Rattle.world_model.specs.Enabled.{holds_none}
use Rattle.world_model.specs.Places.{times, all_places, ArePlaced, stay_of, due_of}
use Rattle.world_model.specs.Soundness.{HasAdvanced, IsSoundClient, IsSound}
use Rattle.world_model.specs.Laws.{TalkLaws}

no_part : (t : Bool) → (let none : Option Bytes = None in none) ≡ (if t then None else None)
no_part true = refl
no_part false = refl

fresh_rests : (none : Bool) → HasAdvanced (Serving beginning) none
unfolding front
fresh_rests true = (refl, tt)
fresh_rests false = tt

fresh_sound : TalkLaws → (stripes clients frames limit c : ℕ) → IsSoundClient c (start stripes clients frames limit) fresh
fresh_sound talks stripes clients frames limit c = record {
  talks = talks.begins c;
  watches = tt;
  once = tt;
  marks = λ key. refl;
  reads = refl;
}

-- each client is fresh, and each log is new
each_fresh : (clients c : ℕ) → get_or (replicate clients fresh) c fresh ≡ fresh
each_fresh zero c = refl
each_fresh (suc clients) zero = refl
each_fresh (suc clients) (suc c) = each_fresh clients c

each_new : (stripes i : ℕ) → log_at (replicate stripes new_log) i ≡ new_log
each_new zero i = refl
each_new (suc stripes) zero = refl
each_new (suc stripes) (suc i) = each_new stripes i

none_placed : (place stripes : ℕ) → times place (all_places (replicate stripes new_log)) ≡ 0
none_placed place zero = refl
none_placed place (suc stripes) = none_placed place stripes

fresh_stay : (clients c x : ℕ) → (get_or (replicate clients fresh) c fresh).stay ≡ Some x → ⊥
fresh_stay clients c x is = cc (sym (ap (λ (one : ClientState). one.stay) (each_fresh clients c)) ∙ is)

start_placed : (stripes clients frames limit : ℕ) → (let state : State = start stripes clients frames limit in
    ArePlaced state.logs state.places state.epoch (stay_of state) (due_of state))
start_placed stripes clients frames limit = record {
  live = λ i. rw (each_new stripes i) (omega arith);
  once = λ place. none_placed place stripes;
  past = λ i. rw (each_new stripes i) tt;
  clear = λ i. rw (each_new stripes i) tt;
  come = λ x at. absurd (fresh_stay clients at.0 x at.1);
  reads = λ c. rw (due_of, each_fresh clients c) tt;
}

pub start_sound : TalkLaws → (stripes clients frames limit : ℕ) → IsSound (start stripes clients frames limit)
start_sound talks stripes clients frames limit = record {
  legal = tt;
  parts = λ i key. no_part (nat_eq (stripe_of (stripe_count (start stripes clients frames limit)) key) i);
  clients = λ c below.
      let lt : c < clients = rw (length-replicate clients fresh) at below in
      rw (get_or-replicate clients c fresh fresh lt) (fresh_sound talks stripes clients frames limit c);
  rest = λ c below.
      let lt : c < clients = rw (length-replicate clients fresh) at below in
      rw (get_or-replicate clients c fresh fresh lt) (fresh_rests (holds_none c (replicate stripes None)));
  logs = length-replicate stripes new_log ∙ sym (length-replicate stripes None);
  placed = start_placed stripes clients frames limit;
}
