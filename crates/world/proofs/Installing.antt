-- A call that was planned and installed in the stripes that its client holds.
use Rattle.std.proofs.Common.{◌≡◌, ◌≢◌, ◌∙◌, ◌||◌, ℕ, ◌<◌, Bool, true, false, cond, List, [], ◌∷◌, ◌++◌, length, get_or, Option, Some, None, IsSome, refl, sym, ap, ap₂, subst, nat_eq, if◌then◌else◌, arith, bytes_eq, zero, suc, nat_lt, ⊎_elim}
use Rattle.std.specs.Prelude.{slice_get, option_map}
use Rattle.std.specs.Bool.{Decides}
use Rattle.std.specs.Map.{update}
use Rattle.std.proofs.lemmas.Bool.{cases_lt, false≢true}
use Rattle.std.proofs.lemmas.Bool.Decides.{Decides-eqb}
use Rattle.std.proofs.lemmas.List.{get_or_past}
use Rattle.std.proofs.lemmas.Slice.Eq.{bytes_eq-Decides}
use Rattle.words.specs.Store.{Bytes, Store, Write, empty, written, writes_key}
use Rattle.words.specs.History.{is_among}
use Rattle.words.specs.Watches.{Marks, touched, begun}
use Rattle.words.specs.Commands.{keys_of_all}
use Rattle.words.specs.Stripes.{stripe_of}
use Rattle.transact.specs.declared.call.Call.{Call}
use Rattle.transact.specs.declared.call.Call.TheVariants.{One, Watch, Exec, Forget}
use Rattle.transact.specs.Calls.{call_keys}
use Rattle.gates.specs.Sets.{inserted}
use Rattle.transact.specs.Plans.{keys_begun, keys_ended, stripes_with}
use Rattle.transact.specs.Tables.{AreThere, Became, PartBecame, begins, clears, touches, touches_and_clears}
use Rattle.hybrid.specs.HybridLog.{HybridLog}
use Rattle.shards.specs.declared.shard.Shard.{Shard}
use Rattle.shards.specs.Rooms.{AreRoomy}
use Rattle.shards.specs.Shards.{SameWaits, logs_of, shard_log, shard_store, shard_marks, shard_meaning}
use Rattle.world_log.specs.Places.{Receipt}
use Rattle.world_log.specs.Types.{Lane, Stripes}
use Rattle.world_log.specs.Stripes.{IsEven, KeepsLanes, KeepsOthers, acts_for, lent, part_in, marks_of, stores_of}
use Rattle.world_log.specs.Stripes as lanes
use Rattle.world_model.specs.Enabled.{first_missing, holds, is_number}
use Rattle.world_model.specs.Commits.{marks_changed}
use Rattle.world.specs.Stripes.{HasInstalled}
use Rattle.world.proofs.Shares.{or_none, share_some}

-- the part of a stripe, what a part that may be missing stores, and its marks
abbrev part_at : Stripes → ℕ → Option (Shard Receipt)
part_at stripes i = part_in (slice_get stripes.lanes.items i)

abbrev store_in : Option (Shard Receipt) → Store
store_in None = empty
store_in (Some part) = shard_store part

abbrev marks_in : Option (Shard Receipt) → Marks
marks_in None key session = None
marks_in (Some part) key session = shard_marks part key session

store_same : (o : Option Lane) (key : Bytes) → lanes.store_in o key ≡ store_in (part_in o) key
store_same None key = refl
store_same (Some lane) key = refl

marks_same : (o : Option Lane) (key : Bytes) (session : ℕ) → lanes.marks_in o key session ≡ marks_in (part_in o) key session
marks_same None key session = refl
marks_same (Some lane) key session = refl

-- writes leave two stores the same at a key at which they were
written_same : (writes : List Write) (one other : Store) (key : Bytes) → one key ≡ other key → written one writes key ≡ written other writes key
written_same [] one other key same = same
written_same (write ∷ writes) one other key same =
    written_same writes (update bytes_eq one write.0 write.1) (update bytes_eq other write.0 write.1) key
    (ap (λ value. cond (bytes_eq write.0 key) write.1 value) same)

-- and leave it as it was where none is to it
written_leaves : (writes : List Write) (store : Store) (key : Bytes) → writes_key writes key ≡ false → written store writes key ≡ store key
written_leaves [] store key none = refl
written_leaves (write ∷ writes) store key none =
    let parts = or_none _ _ none in
    written_leaves writes (update bytes_eq store write.0 write.1) key parts.1
    ∙ ap (λ (t : Bool). cond t write.1 (store key)) parts.0

touched_false : (mark : Option Bool) → touched false mark ≡ mark
touched_false None = refl
touched_false (Some mark) = refl

none_some : {A : Type 0} (o : Option A) → o ≡ None → IsSome o → ⊥
none_some None is some = cc some
none_some (Some a) is some = cc is

some_of : {A : Type 0} (o : Option A) → IsSome o → (a : A) × (o ≡ Some a)
some_of (Some a) s = (a, refl)
some_of None s = absurd cc

-- a key whose stripe is not lent is none of those whose stripes are
apart_from : {T : Type 0} (n : ℕ) (parts : ℕ → Option T) (first key : Bytes) → IsSome (parts (stripe_of n first)) → parts (stripe_of n key) ≡ None
    → bytes_eq first key ≡ false
apart_from n parts first key there away =
    elim (bytes_eq first key) as (λ test. Decides test (first ≡ key) → test ≡ false) [
      | true ↦ λ decides. absurd (none_some (parts (stripe_of n key)) away (subst (λ (k : Bytes). IsSome (parts (stripe_of n k))) (decides.0 refl) there))
      | false ↦ λ decides. refl
    ] (bytes_eq-Decides first key)

not_among : {T : Type 0} (n : ℕ) (parts : ℕ → Option T) (keys : List Bytes) (key : Bytes) → AreThere n parts keys → parts (stripe_of n key) ≡ None
    → is_among keys key ≡ false
not_among n parts [] key there away = refl
not_among n parts (first ∷ keys) key there away =
    ap (λ (t : Bool). t || is_among keys key) (apart_from n parts first key there.0 away) ∙ not_among n parts keys key there.1 away

none_kept : {T : Type 0} (f : T → HybridLog) (o : Option T) → o ≡ None → option_map f o ≡ None
none_kept f o is = ap (option_map f) is

not_written : (n : ℕ) (parts : ℕ → Option (Shard Receipt)) (writes : List Write) (key : Bytes) → AreRoomy n (logs_of parts) writes
    → parts (stripe_of n key) ≡ None → writes_key writes key ≡ false
not_written n parts writes key roomy away =
    elim (writes_key writes key) as (λ t. writes_key writes key ≡ t → t ≡ false) [
      | true ↦ λ is.
          let room = roomy (stripe_of n key) (share_some n writes key is) in
          absurd (cc (sym (none_kept shard_log (parts (stripe_of n key)) away) ∙ room.there))
      | false ↦ λ is. refl
    ] refl

there_second : {T : Type 0} (n : ℕ) (parts : ℕ → Option T) (keys more : List Bytes) → AreThere n parts (keys ++ more) → AreThere n parts more
there_second n parts [] more there = there
there_second n parts (key ∷ keys) more there = there_second n parts keys more there.1

begun_there : {T : Type 0} (n : ℕ) (parts : ℕ → Option T) (call : Call) → AreThere n parts (call_keys call) → AreThere n parts (keys_begun call)
begun_there n parts (One command) there = tt
begun_there n parts (Watch keys) there = there
begun_there n parts (Exec commands watching) there = tt
begun_there n parts (Forget watching) there = tt

pub ended_there : {T : Type 0} (n : ℕ) (parts : ℕ → Option T) (call : Call) → AreThere n parts (call_keys call) → AreThere n parts (keys_ended call)
ended_there n parts (One command) there = tt
ended_there n parts (Watch keys) there = tt
ended_there n parts (Exec commands watching) there = there_second n parts (keys_of_all commands) watching there
ended_there n parts (Forget watching) there = there

-- what is there, is there still
pub there_after : {T : Type 0} (n : ℕ) (before later : ℕ → Option T) (keys : List Bytes) → ((i : ℕ) → IsSome (before i) → IsSome (later i))
    → AreThere n before keys → AreThere n later keys
there_after n before later [] still there = tt
there_after n before later (key ∷ keys) still there = (still (stripe_of n key) there.0, there_after n before later keys still there.1)

-- a change leaves the marks of a key that it does not name
pub begins_none : (c : ℕ) (keys : List Bytes) (key : Bytes) (session : ℕ) (mark : Option Bool) → is_among keys key ≡ false → begins c keys key session mark ≡ mark
begins_none c keys key session mark none =
    ap (λ (t : Bool). if nat_eq c session then (if t then begun mark else mark) else mark) none ∙ same (nat_eq c session) mark
  where
    same : (t : Bool) (m : Option Bool) → (if t then m else m) ≡ m
    same true m = refl
    same false m = refl

pub clears_none : (c : ℕ) (keys : List Bytes) (key : Bytes) (session : ℕ) (mark : Option Bool) → is_among keys key ≡ false → clears c keys key session mark ≡ mark
clears_none c keys key session mark none =
    ap (λ (t : Bool). if nat_eq c session then (if t then None else mark) else mark) none ∙ same (nat_eq c session) mark
  where
    same : (t : Bool) (m : Option Bool) → (if t then m else m) ≡ m
    same true m = refl
    same false m = refl

-- a call leaves the marks of a key whose stripe its client does not hold
marks_away : (n c : ℕ) (parts later : ℕ → Option (Shard Receipt)) (call : Call) (writes : List Write) (key : Bytes) (session : ℕ) (mark : Option Bool)
    → AreThere n parts (call_keys call) → AreRoomy n (logs_of later) writes → parts (stripe_of n key) ≡ None → later (stripe_of n key) ≡ None
    → marks_changed c call writes key session mark ≡ mark
marks_away n c parts later call writes key session mark there ready away still =
    ap (λ (m : Option Bool). clears c (keys_ended call) key session (touches writes key session m))
    (begins_none c (keys_begun call) key session mark (not_among n parts (keys_begun call) key (begun_there n parts call there) away))
    ∙ ap (λ (m : Option Bool). clears c (keys_ended call) key session m)
    (ap (λ (t : Bool). touched t mark) (not_written n later writes key ready still) ∙ touched_false mark)
    ∙ clears_none c (keys_ended call) key session mark (not_among n parts (keys_ended call) key (ended_there n parts call there) away)

-- the stripes of a client that acts
abbrev pub acts : Stripes → ℕ → Stripes
acts stripes c = acts_for stripes c

pub even_acts : (stripes : Stripes) (c : ℕ) → IsEven stripes → IsEven (acts stripes c)
even_acts stripes c even = record { lanes = even.lanes; some = even.some; most = even.most }

-- a stripe that is held is lent to the client that acts, and another is not
pub lent_held : (stripes : Stripes) (i : ℕ) → holds stripes.holders.items stripes.acting i ≡ true → lent stripes i ≡ part_at stripes i
lent_held stripes i is = ap (λ (t : Bool). if t then part_at stripes i else None) is

pub lent_away : (stripes : Stripes) (i : ℕ) → holds stripes.holders.items stripes.acting i ≡ false → lent stripes i ≡ None
lent_away stripes i is = ap (λ (t : Bool). if t then part_at stripes i else None) is

-- there is a part for a stripe that is held
part_within : (lanes : List Lane) (i : ℕ) → i < length lanes → IsSome (part_in (slice_get lanes i))
part_within [] i below = absurd (omega arith)
part_within (first ∷ lanes) zero below = refl
part_within (first ∷ lanes) (suc i) below = part_within lanes i (omega arith)

number_none : (c : ℕ) (o : Option ℕ) → o ≡ None → is_number c o ≡ true → ⊥
number_none c None is test = cc
number_none c (Some n) is test = cc

pub held_within : (holders : List (Option ℕ)) (c i : ℕ) → holds holders c i ≡ true → i < length holders
held_within holders c i is =
    ⊎_elim (λ below. below) (λ past. absurd (number_none c (get_or holders i None) (get_or_past holders i None past) is)) (cases_lt i (length holders))

held_some : (stripes : Stripes) → IsEven stripes → (i : ℕ) → holds stripes.holders.items stripes.acting i ≡ true → IsSome (part_at stripes i)
held_some stripes even i is = part_within stripes.lanes.items i (rw even.lanes (held_within stripes.holders.items stripes.acting i is))

-- where no stripe is missing, each is held
cons_held : (holders : List (Option ℕ)) (c first : ℕ) (stripes : List ℕ) → first_missing holders c (first ∷ stripes) ≡ None
    → (holds holders c first ≡ true) × (first_missing holders c stripes ≡ None)
cons_held holders c first stripes is =
    elim (holds holders c first) as (λ t. (if t then first_missing holders c stripes else Some first) ≡ None → (t ≡ true) × (first_missing holders c stripes ≡ None)) [
      | true ↦ λ none. (refl, none)
      | false ↦ λ none. cc none
    ] is

held_cons : (holders : List (Option ℕ)) (c first : ℕ) (stripes : List ℕ) → holds holders c first ≡ true → first_missing holders c stripes ≡ None
    → first_missing holders c (first ∷ stripes) ≡ None
held_cons holders c first stripes is none = ap (λ (t : Bool). if t then first_missing holders c stripes else Some first) is ∙ none

inserted_held : (holders : List (Option ℕ)) (c stripe : ℕ) (stripes : List ℕ) → first_missing holders c (inserted stripe stripes) ≡ None
    → (holds holders c stripe ≡ true) × (first_missing holders c stripes ≡ None)
inserted_held holders c stripe [] is = cons_held holders c stripe [] is
inserted_held holders c stripe (first ∷ stripes) is =
    elim (nat_lt stripe first) as (λ t. first_missing holders c (if t then stripe ∷ first ∷ stripes else (if nat_eq stripe first then first ∷ stripes else first ∷ inserted stripe stripes)) ≡ None
    → (holds holders c stripe ≡ true) × (first_missing holders c (first ∷ stripes) ≡ None)) [
      | true ↦ λ none. cons_held holders c stripe (first ∷ stripes) none
      | false ↦ λ none.
          elim (nat_eq stripe first) as (λ t. Decides t (stripe ≡ first) → first_missing holders c (if t then first ∷ stripes else first ∷ inserted stripe stripes) ≡ None
          → (holds holders c stripe ≡ true) × (first_missing holders c (first ∷ stripes) ≡ None)) [
            | true ↦ λ decides missing. (rw (decides.0 refl) (cons_held holders c first stripes missing).0, missing)
            | false ↦ λ decides missing.
                let both = cons_held holders c first (inserted stripe stripes) missing in
                let more = inserted_held holders c stripe stripes both.1 in
                (more.0, held_cons holders c first stripes both.0 more.1)
          ] (Decides-eqb stripe first) none
    ] is

-- the stripe of each key is held
abbrev AllHeld : List (Option ℕ) → (c n : ℕ) → List Bytes → Type 0
AllHeld holders c n [] = Unit {0}
AllHeld holders c n (key ∷ keys) = (holds holders c (stripe_of n key) ≡ true) × AllHeld holders c n keys

with_held : (holders : List (Option ℕ)) (c n : ℕ) (stripes : List ℕ) (keys : List Bytes) → first_missing holders c (stripes_with n stripes keys) ≡ None
    → (first_missing holders c stripes ≡ None) × AllHeld holders c n keys
with_held holders c n stripes [] is = (is, tt)
with_held holders c n stripes (key ∷ keys) is =
    let more = with_held holders c n (inserted (stripe_of n key) stripes) keys is in
    let one = inserted_held holders c (stripe_of n key) stripes more.0 in
    (one.1, (one.0, more.1))

held_there : (stripes : Stripes) (keys : List Bytes) → IsEven stripes → AllHeld stripes.holders.items stripes.acting (length stripes.holders.items) keys
    → AreThere (length stripes.holders.items) (lent stripes) keys
held_there stripes [] even held = tt
held_there stripes (key ∷ keys) even held = (
  subst IsSome (sym (lent_held stripes (stripe_of (length stripes.holders.items) key) held.0))
      (held_some stripes even (stripe_of (length stripes.holders.items) key) held.0),
  held_there stripes keys even held.1,
)

-- where a client lacks no stripe of these keys, the parts of all are lent to it
pub calls_there : (stripes : Stripes) (keys : List Bytes) → IsEven stripes
    → first_missing stripes.holders.items stripes.acting (stripes_with (length stripes.holders.items) [] keys) ≡ None
    → AreThere (length stripes.holders.items) (lent stripes) keys
calls_there stripes keys even none =
    held_there stripes keys even (with_held stripes.holders.items stripes.acting (length stripes.holders.items) [] keys none).1

-- what became of a stripe that the client holds
record StripeBecame (n i c : ℕ) (call : Call) (writes : List Write) (old new : Option (Shard Receipt)) : Type 0 where
  here : (key : Bytes) → stripe_of n key ≡ i → store_in new key ≡ written (store_in old) writes key
  away : (key : Bytes) → stripe_of n key ≢ i → store_in new key ≡ store_in old key
  marks : (key : Bytes) (session : ℕ) → stripe_of n key ≡ i
      → marks_in new key session ≡ marks_changed c call writes key session (marks_in old key session)

held_became : (n c i : ℕ) (call : Call) (writes : List Write) (a b d : ℕ → Option (Shard Receipt))
    → Became (shard_meaning ⊥) n [] (begins c (keys_begun call)) a b
    → Became (shard_meaning ⊥) n writes (touches_and_clears writes c (keys_ended call)) b d
    → IsSome (a i) → StripeBecame n i c call writes (a i) (d i)
held_became n c i call writes a b d planned installed some =
    let q = some_of (d i) (installed.there i (planned.there i some)) in
    let r = installed.was i q.0 q.1 in
    let p = planned.was i r.0 r.1 in
    let two : PartBecame (shard_meaning ⊥) n i writes (touches_and_clears writes c (keys_ended call)) r.0 q.0 = r.2 in
    let one : PartBecame (shard_meaning ⊥) n i [] (begins c (keys_begun call)) p.0 r.0 = p.2 in
    rw (q.1, p.1) (record {
      here = λ key at. two.here key at ∙ written_same writes (shard_store r.0) (shard_store p.0) key (one.here key at);
      away = λ key apart. two.away key apart ∙ one.away key apart;
      marks = λ key session at. two.marks key session at ∙ ap (touches_and_clears writes c (keys_ended call) key session) (one.marks key session at);
    })

-- the stores and marks after it
pub has_installed : (before mid later : Stripes) (c : ℕ) (call : Call) (writes : List Write)
    → let n : ℕ = length before.holders.items in
    IsEven before → KeepsOthers before mid → KeepsOthers mid later
    → Became (shard_meaning ⊥) n [] (begins c (keys_begun call)) (lent before) (lent mid)
    → Became (shard_meaning ⊥) n writes (touches_and_clears writes c (keys_ended call)) (lent mid) (lent later)
    → AreThere n (lent before) (call_keys call) → AreRoomy n (logs_of (lent mid)) writes
    → HasInstalled before writes (marks_changed c call writes) later
has_installed before mid later c call writes even one two planned installed there ready =
    let n : ℕ = length before.holders.items in
    record {
      holders = two.holders ∙ one.holders;
      stores = λ i key. stores i key;
      marks = λ key session. rw (two.holders ∙ one.holders) (marks key session);
    }
  where
    held_later : (i : ℕ) → holds before.holders.items before.acting i ≡ true → lent later i ≡ part_at later i
    held_later i is = lent_held later i (rw (two.holders ∙ one.holders, two.acting ∙ one.acting) is)

    same_later : (i : ℕ) → holds before.holders.items before.acting i ≡ false → part_at later i ≡ part_at before i
    same_later i is = ap part_in (two.others i (rw (one.holders, one.acting) is) ∙ one.others i is)

    away_mid : (i : ℕ) → holds before.holders.items before.acting i ≡ false → lent mid i ≡ None
    away_mid i is = lent_away mid i (rw (one.holders, one.acting) is)

    became : (i : ℕ) → holds before.holders.items before.acting i ≡ true → IsSome (part_at before i)
        → StripeBecame (length before.holders.items) i c call writes (part_at before i) (part_at later i)
    became i is some =
        rw (lent_held before i is, held_later i is) at
        (held_became (length before.holders.items) c i call writes (lent before) (lent mid) (lent later) planned installed (rw (lent_held before i is) some))

    none_is : (i : ℕ) → holds before.holders.items before.acting i ≡ false
        → (key : Bytes) → stripe_of (length before.holders.items) key ≡ i → writes_key writes key ≡ false
    none_is i away key at = not_written (length before.holders.items) (lent mid) writes key ready (rw at (away_mid i away))

    store_at : (i : ℕ) (key : Bytes) (t : Bool) → Decides t (stripe_of (length before.holders.items) key ≡ i) → (h : Bool)
        → holds before.holders.items before.acting i ≡ h
        → store_in (part_at later i) key ≡ (if t then written (store_in (part_at before i)) writes key else store_in (part_at before i) key)
    store_at i key true at true is = (became i is (held_some before even i is)).here key (at.0 refl)
    store_at i key false at true is = (became i is (held_some before even i is)).away key (λ same. false≢true (at.1 same))
    store_at i key true at false is =
        ap (λ (o : Option (Shard Receipt)). store_in o key) (same_later i is)
        ∙ sym (written_leaves writes (store_in (part_at before i)) key (none_is i is key (at.0 refl)))
    store_at i key false at false is = ap (λ (o : Option (Shard Receipt)). store_in o key) (same_later i is)

    stores : (i : ℕ) (key : Bytes)
        → stores_of later i key
        ≡ (if nat_eq (stripe_of (length before.holders.items) key) i then written (stores_of before i) writes key else stores_of before i key)
    stores i key =
        let stripe : ℕ = stripe_of (length before.holders.items) key in
        store_same (slice_get later.lanes.items i) key
        ∙ store_at i key (nat_eq stripe i) (Decides-eqb stripe i) (holds before.holders.items before.acting i) refl
        ∙ sym (ap₂ (λ (w u : Option Bytes). if nat_eq stripe i then w else u)
        (written_same writes (stores_of before i) (store_in (part_at before i)) key (store_same (slice_get before.lanes.items i) key))
        (store_same (slice_get before.lanes.items i) key))

    mark_at : (key : Bytes) (session : ℕ) (i : ℕ) → stripe_of (length before.holders.items) key ≡ i → (h : Bool)
        → holds before.holders.items before.acting i ≡ h
        → marks_in (part_at later i) key session ≡ marks_changed c call writes key session (marks_in (part_at before i) key session)
    mark_at key session i at true is = (became i is (held_some before even i is)).marks key session at
    mark_at key session i at false is =
        ap (λ (o : Option (Shard Receipt)). marks_in o key session) (same_later i is)
        ∙ sym (marks_away (length before.holders.items) c (lent before) (lent mid) call writes key session (marks_in (part_at before i) key session)
        there ready (rw at (lent_away before i is)) (rw at (away_mid i is)))

    marks : (key : Bytes) (session : ℕ)
        → lanes.marks_in (slice_get later.lanes.items (stripe_of (length before.holders.items) key)) key session
        ≡ marks_changed c call writes key session (marks_of before key session)
    marks key session =
        let stripe : ℕ = stripe_of (length before.holders.items) key in
        marks_same (slice_get later.lanes.items stripe) key session
        ∙ mark_at key session stripe refl (holds before.holders.items before.acting stripe) refl
        ∙ sym (ap (marks_changed c call writes key session) (marks_same (slice_get before.lanes.items stripe) key session))

pub keeps_same : (stripes : Stripes) → KeepsOthers stripes stripes
keeps_same stripes = record { holders = refl; acting = refl; count = refl; queues = λ i. refl; others = λ i away. refl; waits = λ i. refl }

-- what a plan keeps, with what it leaves beside the logs
pub keeps_with : (before later : Stripes) → KeepsLanes before later → SameWaits (lent before) (lent later) → KeepsOthers before later
keeps_with before later keeps waits = record {
  holders = keeps.holders;
  acting = keeps.acting;
  count = keeps.count;
  queues = keeps.queues;
  others = keeps.others;
  waits = waits;
}

-- the same of watches that end
pub has_forgotten : (before later : Stripes) (c : ℕ) (keys : List Bytes)
    → let n : ℕ = length before.holders.items in
    (watching : Call) → watching ≡ Forget keys → IsEven before → KeepsOthers before later
    → Became (shard_meaning ⊥) n [] (clears c keys) (lent before) (lent later) → AreThere n (lent before) keys
    → HasInstalled before [] (marks_changed c watching []) later
has_forgotten before later c keys watching is even keeps became there =
    rw is (has_installed before before later c (Forget keys) [] even (keeps_same before) keeps
    (record {
      there = λ i some. some;
      was = λ i part at. (part, at, record { here = λ key on. refl; away = λ key off. refl; marks = λ key session on. sym (begins_none c [] key session (shard_marks part key session) refl); aside = λ key session off. refl });
    })
    (record {
      there = became.there;
      was = λ i part at.
          let was = became.was i part at in (
            was.0,
            was.1,
            record {
              here = was.2.here;
              away = was.2.away;
              marks = λ key session on.
                  was.2.marks key session on
                  ∙ ap (λ (m : Option Bool). clears c keys key session m) (sym (touched_false (shard_marks was.0 key session)));
              aside = was.2.aside;
            },
          );
    })
    there (λ i some. absurd (omega (arith, some))))

-- of a call that forgets, only the named marks are cleared
pub only_clears : (before later : Stripes) (c : ℕ) (keys : List Bytes) → HasInstalled before [] (marks_changed c (Forget keys) []) later
    → HasInstalled before [] (clears c keys) later
only_clears before later c keys one = record {
  holders = one.holders;
  stores = one.stores;
  marks = λ key session.
      one.marks key session
      ∙ ap (λ (m : Option Bool). clears c keys key session m)
      (touched_false _ ∙ begins_none c [] key session (marks_of before key session) refl);
}

-- and the other way round
pub clears_only : (before later : Stripes) (c : ℕ) (keys : List Bytes) → HasInstalled before [] (clears c keys) later
    → HasInstalled before [] (marks_changed c (Forget keys) []) later
clears_only before later c keys one = record {
  holders = one.holders;
  stores = one.stores;
  marks = λ key session.
      one.marks key session
      ∙ ap (λ (m : Option Bool). clears c keys key session m)
      (sym (touched_false _ ∙ begins_none c [] key session (marks_of before key session) refl));
}
