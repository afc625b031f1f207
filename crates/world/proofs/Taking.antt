-- A call that is planned when its client takes the last of its stripes.
use Rattle.std.proofs.Common.{◌≡◌, ◌∙◌, ℕ, ◌≤◌, Bool, true, false, List, [], length, Option, Some, None, refl, sym, ap, nat_eq, nat_lt, if◌then◌else◌, arith}
use Rattle.std.specs.Prelude.{slice_get}
use Rattle.words.specs.declared.limits.TheConstants.{VALUE_BYTES_MAX, WEIGHT_MAX}
use Rattle.words.specs.declared.history.Operation.{Operation}
use Rattle.words.specs.declared.reply.Reply.{Reply}
use Rattle.words.specs.declared.reply.Reply.TheVariants.{NullArray}
use Rattle.words.specs.Store.{Bytes, Store, Write, weight}
use Rattle.words.specs.Bounds.{IsStoreBounded}
use Rattle.words.specs.Watches.{Marks}
use Rattle.words.specs.Stripes.{stripe_of}
use Rattle.words.specs.History.{Pair, keys_named, keys_of_pairs, outcome, pairs_of, too_much, was_not_done}
use Rattle.words.specs.Session.{Asked, operation_of}
use Rattle.words.specs.Session as asked
use Rattle.transact.specs.declared.call.Call.{Call}
use Rattle.transact.specs.declared.call.Call.TheVariants.{One, Watch, Exec, Forget}
use Rattle.transact.specs.Calls.{asked_of, call_keys, call_of}
use Rattle.transact.specs.Plans.{keys_begun}
use Rattle.transact.specs.Tables.{any_marked, begins, value_in}
use Rattle.shards.specs.declared.shard.Shard.{Shard}
use Rattle.shards.specs.Shards.{shard_meaning, shard_store, shard_marks}
use Rattle.plans.specs.Sizes.{IsShort}
use Rattle.connection.specs.Clients.{Progress}
use Rattle.world_log.specs.Places.{Receipt}
use Rattle.world_log.specs.PlanLaws.{IsStill}
use Rattle.world_log.specs.Stripes.{acts_for, lent, part_in, stores_of, marks_of}
use Rattle.world_log.specs.Stripes as lanes
use Rattle.world_log.specs.Types.{Lane, Stripes}
use Rattle.world_model.specs.States.{Phase, Serving, Calling, Leaving, Left, Ended, State, open_call, stripe_count}
use Rattle.world_model.specs.Enabled.{holds}
use Rattle.world_model.specs.Planning.{writes_now}
use Rattle.world.specs.Planning.{AreShort, looks_up}

-- A CALL THAT LOOKS KEYS UP

pub asked_some : (call : Call) → looks_up call ≡ true → (wanted : Asked) × (asked_of call ≡ Some wanted)
asked_some (One command) is = (asked.Run command, refl)
asked_some (Watch keys) is = absurd (cc is)
asked_some (Exec commands watching) is = (asked.Exec commands, refl)
asked_some (Forget watching) is = absurd (cc is)

-- it begins no watch
pub begins_nothing : (call : Call) (c : ℕ) → looks_up call ≡ true → IsStill (begins c (keys_begun call))
begins_nothing (One command) c is = still c
  where
    same : (t : Bool) (m : Option Bool) → (if t then m else m) ≡ m
    same true m = refl
    same false m = refl

    still : (c : ℕ) → IsStill (begins c [])
    still c key number mark = same (nat_eq c number) mark
begins_nothing (Watch keys) c is = absurd (cc is)
begins_nothing (Exec commands watching) c is = still c
  where
    same : (t : Bool) (m : Option Bool) → (if t then m else m) ≡ m
    same true m = refl
    same false m = refl

    still : (c : ℕ) → IsStill (begins c [])
    still c key number mark = same (nat_eq c number) mark
begins_nothing (Forget watching) c is = absurd (cc is)

pub calling_of : (phase : Phase) (call : Call) → open_call phase ≡ Some call → looks_up call ≡ true → (at : Progress) × (phase ≡ Calling at call)
calling_of (Serving at) call is looks = absurd (cc is)
calling_of (Calling at other) call is looks = (at, ap (λ (o : Call). Calling at o) (call_same is))
  where
    call_same : {a b : Call} → Option.Some a ≡ Some b → a ≡ b
    call_same is = cc is
calling_of (Leaving keys) call is looks = absurd (none (call_same is) looks)
  where
    call_same : {a b : Call} → Option.Some a ≡ Some b → a ≡ b
    call_same is = cc is

    none : Forget keys ≡ call → looks_up call ≡ true → ⊥
    none same looks = cc (ap looks_up same ∙ looks)
calling_of Left call is looks = absurd (cc is)
calling_of Ended call is looks = absurd (cc is)

-- the keys that its operation names are those of the call
pub keys_same : (pairs : List Pair) (wanted : Asked) (call : Call) → call ≡ call_of (keys_of_pairs pairs) wanted
    → keys_named (operation_of pairs wanted) ≡ call_keys call
keys_same pairs (asked.Run command) call is = rw is refl
keys_same pairs (asked.Watch keys) call is = rw is refl
keys_same pairs (asked.Exec commands) call is = rw is refl

-- WHAT IS WRITTEN NOW

-- what an operation writes on this store, where these are the marks
abbrev writes_on : Store → Marks → ℕ → Operation → List Write
writes_on store marks c operation =
    let all = outcome store operation in
    let reply : Reply = if any_marked marks c (keys_of_pairs (pairs_of operation)) then NullArray else (if nat_lt WEIGHT_MAX (weight all.1) then too_much else all.0) in
    if was_not_done reply then [] else all.1

-- it is the same in a state with the same stripes, stores and marks
pub writes_same : (one other : State) (c : ℕ) (operation : Operation) → stripe_count one ≡ stripe_count other → one.stores ≡ other.stores
    → one.marks ≡ other.marks → writes_now one c operation ≡ writes_now other c operation
writes_same one other c operation count stores marks =
    λ j. writes_on (λ key. stores j (stripe_of (count j) key) key) (marks j) c operation

-- THE STRIPES THAT IT HOLDS

-- what a held part has is what the state has
some_part : (t : Bool) (o : Option Lane) (part : Shard Receipt) → (if t then part_in o else None) ≡ Some part → (lane : Lane) × (o ≡ Some lane) × (lane.shard ≡ part)
some_part true (Some lane) part is = (lane, refl, cc is)
some_part true None part is = absurd (cc is)
some_part false o part is = absurd (cc is)

pub held_parts : (stripes : Stripes) (c i : ℕ) (part : Shard Receipt) → lent (acts_for stripes c) i ≡ Some part
    → ((key : Bytes) → shard_store part key ≡ stores_of stripes i key)
    × ((key : Bytes) (session : ℕ) → stripe_of (length stripes.holders.items) key ≡ i → shard_marks part key session ≡ marks_of stripes key session)
held_parts stripes c i part is =
    let there = some_part (holds stripes.holders.items c i) (slice_get stripes.lanes.items i) part is in (
      λ key. ap (λ (p : Shard Receipt). shard_store p key) (sym there.2) ∙ ap (λ (o : Option Lane). lanes.store_in o key) (sym there.1),
      λ key session at.
          ap (λ (p : Shard Receipt). shard_marks p key session) (sym there.2)
          ∙ ap (λ (o : Option Lane). lanes.marks_in o key session) (sym there.1)
          ∙ ap (λ (k : ℕ). lanes.marks_in (slice_get stripes.lanes.items k) key session) (sym at),
    )

-- values are short, where the store that the history leaves has short ones
short_value : (value : Option Bytes) → ((v : Bytes) → value ≡ Some v → length v ≤ VALUE_BYTES_MAX) → IsShort value
short_value None is = omega arith
short_value (Some v) is = is v refl

pub are_short : (stripes : Stripes) (c : ℕ) (whole_store : Store) → IsStoreBounded whole_store
    → ((key : Bytes) → stores_of stripes (stripe_of (length stripes.holders.items) key) key ≡ whole_store key) → AreShort stripes c
are_short stripes c whole_store bounded same key =
    by (holds stripes.holders.items c (stripe_of (length stripes.holders.items) key))
    (slice_get stripes.lanes.items (stripe_of (length stripes.holders.items) key)) refl
  where
    by : (t : Bool) (o : Option Lane) → slice_get stripes.lanes.items (stripe_of (length stripes.holders.items) key) ≡ o
        → IsShort (value_in (shard_meaning ⊥) key (if t then part_in o else None))
    by true (Some lane) is =
        short_value (shard_store lane.shard key)
        (λ v has. bounded key v (sym (same key) ∙ ap (λ (o : Option Lane). lanes.store_in o key) is ∙ has))
    by true None is = omega arith
    by false o is = omega arith
