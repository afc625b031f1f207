-- Where writes go, and that others still go where they do once one was made.
use Rattle.std.proofs.Common.{◌≡◌, ◌≢◌, ◌∙◌, ◌==◌, ◌||◌, ⊎_elim, ℕ, zero, suc, ◌+◌, ◌-◌, ◌/◌, ◌<◌, ◌≤◌, ◌++◌, Bool, List, [], ◌∷◌, length, map, max, true, false, cond, bytes_eq, if◌then◌else◌, Option, Some, None, IsSome, IfSome, option_map, refl, sym, ap, subst, arith}
use Rattle.std.specs.Prelude.{IfNone, slice_index_or}
use Rattle.std.proofs.lemmas.Bool.{cases_eq}
use Rattle.records.specs.declared.pages.TheConstants.{HEADER_SIZE, PAGE_SIZE}
use Rattle.records.specs.Records.{Stored, value_bytes, with_value}
use Rattle.frames.specs.Resident.{first_mutable, next_number}
use Rattle.words.specs.Store.{Bytes, Write, weight, writes_key}
use Rattle.words.specs.Stripes.{hash_of, stripe_of}
use Rattle.hybrid.specs.HybridLog.{HybridLog, IsGrown, IsHybridLog, Tail, log_of, tail_bytes, tail_of}
use Rattle.hybrid.specs.Log.{Log, begin_of, newest}
use Rattle.hybrid.specs.Lookups.{IsInPlace}
use Rattle.hybrid.specs.Writing.{IsAdded, IsWritten}
use Rattle.hybrid.specs.declared.stripe.find.Spot.{Spot}
use Rattle.transact.specs.Tables.{AreThere, keys_written}
use Rattle.words.specs.declared.reply.Reply.{Reply}
use Rattle.shards.specs.Rooms.{GrowsAt}
use Rattle.shards.specs.Shards.{weigh}
use Rattle.shards.specs.declared.shard.Shard.{Shard}
use Rattle.plans.specs.declared.placing.Placed.{Placed}
use Rattle.plans.specs.declared.placing.Target.{Target}
use Rattle.plans.specs.declared.running.Looked.{Looked}
use Rattle.plans.specs.Placing.{AllGoThere, GoThere, GoesThere, HasTail, HaveTails, IsPlace, IsPlacedFor, WasLookedUp, WereLookedUp, writes_of}
use Rattle.plans.specs.Settling.{IsSpot}
use Rattle.plans.proofs.Run.{some_then}
use Rattle.plans.proofs.Stores.{apart, same_key, some_is}

-- IN ONE LOG

-- a record that gets another value keeps its key, its address and its capacity
keeps_key : (a : ℕ) (v : Option (List ℕ)) (e : ℕ × Stored) → (with_value a v e).1.key ≡ e.1.key
keeps_key a v e = elim (e.0 == a) as (λ b. (if b then (e.0, record e.1 { value = v }) else e).1.key ≡ e.1.key) [ true ↦ refl | false ↦ refl ]

keeps_address : (a : ℕ) (v : Option (List ℕ)) (e : ℕ × Stored) → (with_value a v e).0 ≡ e.0
keeps_address a v e = elim (e.0 == a) as (λ b. (if b then (e.0, record e.1 { value = v }) else e).0 ≡ e.0) [ true ↦ refl | false ↦ refl ]

keeps_capacity : (a : ℕ) (v : Option (List ℕ)) (e : ℕ × Stored) → (with_value a v e).1.capacity ≡ e.1.capacity
keeps_capacity a v e = elim (e.0 == a) as (λ b. (if b then (e.0, record e.1 { value = v }) else e).1.capacity ≡ e.1.capacity) [ true ↦ refl | false ↦ refl ]

-- the newest record of each key is the one that it was
newest_changed : (a : ℕ) (v : Option (List ℕ)) (log : Log) (key : List ℕ) → newest (map (with_value a v) log) key ≡ option_map (with_value a v) (newest log key)
unfolding newest
newest_changed a v [] key = refl
newest_changed a v (e ∷ log) key =
    ap (λ (k : List ℕ). cond (bytes_eq k key) (Some (with_value a v e)) (newest (map (with_value a v) log) key)) (keeps_key a v e)
    ∙ ap (λ (r : Option (ℕ × Stored)). cond (bytes_eq e.1.key key) (Some (with_value a v e)) r) (newest_changed a v log key)
    ∙ elim (bytes_eq e.1.key key) as (λ b. cond b (Some (with_value a v e)) (option_map (with_value a v) (newest log key)) ≡ option_map (with_value a v) (cond b (Some e) (newest log key))) [ true ↦ refl | false ↦ refl ]

-- no page was opened where the log ends where it did, so the mutable part begins where it did
same_mutable : (old new : HybridLog) (weight : ℕ) → IsHybridLog old → IsGrown old new weight → tail_of new ≡ tail_of old → first_mutable new.resident ≡ first_mutable old.resident
same_mutable old new weight is grown tail =
    let page : next_number new.resident - 1 ≡ next_number old.resident - 1 = ap (λ (t : Tail). t.page) tail in
    let next : next_number new.resident ≡ next_number old.resident = omega (arith, page, grown.next, is.tail) in
    λ i. max (grown.first i) (next i - grown.frames i / 3)

-- where another key was written in place, or the same one, each place stays one
pub place_stays : (old new : HybridLog) (key : Bytes) (value : Option Bytes) (address weight : ℕ) → IsHybridLog old → IsInPlace old key (length (value_bytes value)) address → IsWritten old key value new → IsGrown old new weight
    → (other : Bytes) (size at : ℕ) → IsInPlace old other size at → IsInPlace new other size at
place_stays old new key value address weight is place written grown other size at has =
    let entry : ℕ × Stored = (at, has.stored) in
    let first : first_mutable new.resident ≡ first_mutable old.resident = same_mutable old new weight is grown (written.stays address place) in
    record {
      stored = (with_value address value entry).1;
      newest = ap (λ (l : Log). newest l other) (written.in_place address place) ∙ newest_changed address value (log_of old) other ∙ ap (option_map (with_value address value)) has.newest
          ∙ (λ i. Some (keeps_address address value entry i, (with_value address value entry).1));
      mutable = subst (λ (n : ℕ). begin_of n ≤ at) (sym first) has.mutable;
      fits = subst (λ (n : ℕ). size ≤ n) (sym (keeps_capacity address value entry)) has.fits;
    }

-- so it does where a record of another key was added to the tail page
newest_beside : (e : ℕ × Stored) (log : Log) (key other : Bytes) → e.1.key ≡ key → other ≢ key → newest (e ∷ log) other ≡ newest log other
unfolding newest
newest_beside e log key other is ne =
    ap (λ (b : Bool). cond b (Some e) (newest log other)) (ap (λ (k : Bytes). bytes_eq k other) is ∙ apart key other (λ same. ne (sym same)))

pub place_beside : (old new : HybridLog) (key : Bytes) (value : Option Bytes) (address weighs : ℕ) → IsAdded old new address key value → IsGrown old new weighs → tail_bytes old + weighs ≤ PAGE_SIZE - HEADER_SIZE
    → (other : Bytes) (size at : ℕ) → other ≢ key → IsInPlace old other size at → IsInPlace new other size at
place_beside old new key value address weighs added grown room other size at ne has =
    let none : grown.opened ≡ 0 = grown.none (omega (arith, room)) in
    let next : next_number new.resident ≡ next_number old.resident = omega (arith, grown.next, none) in
    let first : first_mutable new.resident ≡ first_mutable old.resident = λ i. max (grown.first i) (next i - grown.frames i / 3) in
    record {
      stored = has.stored;
      newest = ap (λ (l : Log). newest l other) added.log.log ∙ newest_beside (address, added.log.put) (log_of old) key other added.log.key_is ne ∙ has.newest;
      mutable = subst (λ (n : ℕ). begin_of n ≤ at) (sym first) has.mutable;
      fits = has.fits;
    }

-- a place of a value is one of a shorter one
place_less : (log : HybridLog) (key : Bytes) (one other at : ℕ) → one ≤ other → IsInPlace log key other at → IsInPlace log key one at
place_less log key one other at less has = record { stored = has.stored; newest = has.newest; mutable = has.mutable; fits = omega (arith, less, has.fits) }

-- IN THE LOGS OF ALL STRIPES

-- what is left of the room of a tail page once a write was made
pub tail_left : (i weighs : ℕ) (before later : ℕ → Option HybridLog) → GrowsAt i weighs before later → (stripe more : ℕ) → HasTail before stripe (weighs + more) → HasTail later stripe more
tail_left i weighs before later grows stripe more has = λ log there. ⊎_elim
    (λ (at : stripe ≡ i).
    let room : tail_bytes grows.old + (weighs + more) ≤ PAGE_SIZE - HEADER_SIZE = has grows.old (ap before at ∙ grows.was) in
    subst (λ (l : HybridLog). tail_bytes l + more ≤ PAGE_SIZE - HEADER_SIZE) (some_is grows.new log (later i) grows.is (sym (ap later at) ∙ there)) (omega (arith, room, grows.grown.bytes)))
    (λ (ne : stripe ≢ i). let room = has log (sym (grows.others stripe ne) ∙ there) in omega (arith, room))
    (cases_eq stripe i)

-- there is room for less
pub tail_less : (logs : ℕ → Option HybridLog) (stripe more less : ℕ) → less ≤ more → HasTail logs stripe more → HasTail logs stripe less
tail_less logs stripe more less few has = λ log there. let room = has log there in omega (arith, few, room)

pub none_then : (o : Option Spot) (P Q : Type 0) → (P → Q) → IfNone o P → IfNone o Q
none_then None P Q turn has = turn has
none_then (Some spot) P Q turn has = tt

neither : (a b : Bool) → (a || b) ≡ false → (a ≡ false) × (b ≡ false)
neither true b e = absurd (cc e)
neither false b e = (refl, e)

differ : (a b : Bytes) → bytes_eq a b ≡ false → a ≢ b
differ a b e = λ same. let bad : true ≡ false = sym (same_key a) ∙ ap (λ (k : Bytes). bytes_eq a k) same ∙ e in absurd (cc bad)

-- the last write of a key adds what it weighs
pub weight_last : (w : Write) (ws : List Write) → writes_key ws w.0 ≡ false → weight (w ∷ ws) ≡ weigh w + weight ws
weight_last w ws last = ap (λ (b : Bool). (if b then 0 else weigh w) + weight ws) last

module _ (n : ℕ) where
  -- one log changed, in which the places of a key stay
  pub spot_stays : (before later : ℕ → Option HybridLog) (i : ℕ) (old new : HybridLog) → before i ≡ Some old → later i ≡ Some new → ((j : ℕ) → j ≢ i → later j ≡ before j)
      → (key text : Bytes) (spot : Spot) → ((size at : ℕ) → IsInPlace old key size at → IsInPlace new key size at) → IsSpot n before key text spot → IsSpot n later key text spot
  spot_stays before later i old new was is others key text spot stays has = λ log there. ⊎_elim
      (λ (at : stripe_of n key ≡ i). subst (λ (l : HybridLog). IsInPlace l key (length text) spot.address) (some_is new log (later i) is (sym (ap later at) ∙ there)) (stays (length text) spot.address (has old (ap before at ∙ was))))
      (λ (ne : stripe_of n key ≢ i). has log (sym (others (stripe_of n key) ne) ∙ there))
      (cases_eq (stripe_of n key) i)

  -- a place with room for this text
  spot_from : (logs : ℕ → Option HybridLog) (key text : Bytes) (spot : Spot) → length text ≤ spot.capacity → IsPlace n logs key spot → IsSpot n logs key text spot
  spot_from logs key text spot less has = λ log there. place_less log key (length text) spot.capacity spot.address less (has log there)

  -- where a write goes whose key was looked up
  pub aimed : (logs : ℕ → Option HybridLog) (write : Write) (looked : Looked) (target : Target) (size : ℕ) → looked.key.now ≡ write.0 → size ≡ length (value_bytes write.1) → target.stripe ≡ looked.stripe → target.hash ≡ looked.hash
      → IfSome target.spot (λ spot. (looked.spot ≡ Some spot) × (size ≤ spot.capacity)) → WasLookedUp n logs looked → GoesThere n logs write target
  aimed logs write looked target size key is stripe hash spot was = record {
    stripe = stripe ∙ was.stripe ∙ ap (λ (k : Bytes). stripe_of n k) key;
    hash = hash ∙ was.hash ∙ ap (λ (k : Bytes). hash_of k) key;
    spot = some_then (λ (found : Spot). (looked.spot ≡ Some found) × (size ≤ found.capacity)) (IsSpot n logs write.0 (value_bytes write.1)) target.spot
        (λ found has.
        let place : IsPlace n logs looked.key.now found = subst (λ (o : Option Spot). IfSome o (IsPlace n logs looked.key.now)) has.0 was.place in
        spot_from logs write.0 (value_bytes write.1) found (omega (arith, is, has.1)) (subst (λ (k : Bytes). IsPlace n logs k found) key place))
        spot;
  }

  -- each of the keys that were looked up was
  pub were_get : (logs : ℕ → Option HybridLog) (looked : List Looked) (i : ℕ) (one other : Looked) → i < length looked → one ≡ slice_index_or looked i other → WereLookedUp n logs looked → WasLookedUp n logs one
  were_get logs [] i one other less at were = absurd (omega (arith, less))
  were_get logs (l ∷ looked) zero one other less at were = subst (λ (x : Looked). WasLookedUp n logs x) (sym at) were.0
  were_get logs (l ∷ looked) (suc i) one other less at were = were_get logs looked i one other (omega (arith, less)) at were.1

  -- and one more
  pub were_push : (logs : ℕ → Option HybridLog) (looked : List Looked) (one : Looked) → WereLookedUp n logs looked → WasLookedUp n logs one → WereLookedUp n logs (looked ++ one ∷ [])
  were_push logs [] one were was = (was, tt)
  were_push logs (l ∷ looked) one were was = (were.0, were_push logs looked one were.1 was)

  pub go_none : (logs : ℕ → Option HybridLog) (writes : List Write) → GoThere n logs writes []
  go_none logs [] = tt
  go_none logs (write ∷ writes) = tt

  -- more writes, and one target more
  go_more : (logs : ℕ → Option HybridLog) (writes more : List Write) (targets : List Target) → GoThere n logs writes targets → GoThere n logs (writes ++ more) targets
  go_more logs [] more [] has = go_none logs more
  go_more logs [] more (target ∷ targets) has = absurd has
  go_more logs (write ∷ writes) more [] has = tt
  go_more logs (write ∷ writes) more (target ∷ targets) has = (has.0, go_more logs writes more targets has.1)

  go_push : (logs : ℕ → Option HybridLog) (writes : List Write) (targets : List Target) (write other : Write) (target : Target) → GoThere n logs writes targets → length targets < length writes → write ≡ slice_index_or writes (length targets) other
      → GoesThere n logs write target → GoThere n logs writes (targets ++ target ∷ [])
  go_push logs [] [] write other target has less at is = absurd (omega (arith, less))
  go_push logs [] (t ∷ targets) write other target has less at is = absurd has
  go_push logs (w ∷ writes) [] write other target has less at is = (subst (λ (x : Write). GoesThere n logs x target) at is, go_none logs writes)
  go_push logs (w ∷ writes) (t ∷ targets) write other target has less at is = (has.0, go_push logs writes targets write other target has.1 (omega (arith, less)) at is)

  -- the same where the place in the list is said otherwise
  pub go_next : (logs : ℕ → Option HybridLog) (writes : List Write) (targets : List Target) (i : ℕ) (write other : Write) (target : Target) → GoThere n logs writes targets → i ≡ length targets → i < length writes → write ≡ slice_index_or writes i other
      → GoesThere n logs write target → GoThere n logs writes (targets ++ target ∷ [])
  go_next logs writes targets i write other target has same less at is =
      go_push logs writes targets write other target has (omega (arith, same, less)) (subst (λ (k : ℕ). write ≡ slice_index_or writes k other) same at) is

  -- there is a part for the key of each write
  pub there_get : {T : Type 0} (parts : ℕ → Option T) (writes : List Write) (i : ℕ) (write other : Write) → i < length writes → write ≡ slice_index_or writes i other → AreThere n parts (keys_written writes) → IsSome (parts (stripe_of n write.0))
  there_get parts [] i write other less at there = absurd (omega (arith, less))
  there_get parts (w ∷ writes) zero write other less at there = subst (λ (x : Write). IsSome (parts (stripe_of n x.0))) (sym at) there.0
  there_get parts (w ∷ writes) (suc i) write other less at there = there_get parts writes i write other (omega (arith, less)) at there.1

  -- more writes, all of those before going there
  pub go_all : (logs : ℕ → Option HybridLog) (writes more all : List Write) (targets : List Target) → all ≡ writes ++ more → GoThere n logs writes targets → GoThere n logs all targets
  go_all logs writes more all targets is has = subst (λ (l : List Write). GoThere n logs l targets) (sym is) (go_more logs writes more targets has)

  -- one was made: those to other keys go where they do
  go_after : (before later : ℕ → Option HybridLog) (key : Bytes) → ((other text : Bytes) (at : Spot) → other ≢ key → IsSpot n before other text at → IsSpot n later other text at) → (writes : List Write) (targets : List Target)
      → writes_key writes key ≡ false → GoThere n before writes targets → GoThere n later writes targets
  go_after before later key still [] [] last has = tt
  go_after before later key still [] (target ∷ targets) last has = has
  go_after before later key still (write ∷ writes) [] last has = tt
  go_after before later key still (write ∷ writes) (target ∷ targets) last has =
      let other = neither (bytes_eq write.0 key) (writes_key writes key) last in (
        record {
          stripe = has.0.stripe;
          hash = has.0.hash;
          spot = some_then (IsSpot n before write.0 (value_bytes write.1)) (IsSpot n later write.0 (value_bytes write.1)) target.spot (λ at spot. still write.0 (value_bytes write.1) at (differ write.0 key other.0) spot) has.0.spot;
        },
        go_after before later key still writes targets other.1 has.1,
      )

  tails_less : (logs : ℕ → Option HybridLog) (more less : ℕ) → less ≤ more → (writes : List Write) (targets : List Target) → HaveTails n logs more writes targets → HaveTails n logs less writes targets
  tails_less logs more less few [] targets has = tt
  tails_less logs more less few (write ∷ writes) [] has = tt
  tails_less logs more less few (write ∷ writes) (target ∷ targets) has = (
    none_then target.spot (HasTail logs (stripe_of n write.0) more) (HasTail logs (stripe_of n write.0) less) (tail_less logs (stripe_of n write.0) more less few) has.0,
    tails_less logs more less few writes targets has.1,
  )

  tails_after : (before later : ℕ → Option HybridLog) (more less : ℕ) → ((stripe : ℕ) → HasTail before stripe more → HasTail later stripe less) → (writes : List Write) (targets : List Target) → HaveTails n before more writes targets → HaveTails n later less writes targets
  tails_after before later more less still [] targets has = tt
  tails_after before later more less still (write ∷ writes) [] has = tt
  tails_after before later more less still (write ∷ writes) (target ∷ targets) has = (
    none_then target.spot (HasTail before (stripe_of n write.0) more) (HasTail later (stripe_of n write.0) less) (still (stripe_of n write.0)) has.0,
    tails_after before later more less still writes targets has.1,
  )

  -- a write that a later one hides need not be made
  pub go_hidden : (logs : ℕ → Option HybridLog) (w : Write) (ws : List Write) (t : Target) (ts : List Target) → AllGoThere n logs (w ∷ ws) (t ∷ ts) → AllGoThere n logs ws ts
  go_hidden logs w ws t ts has = record {
    goes = record { first = has.goes.first.1; all = omega (arith, has.goes.all) };
    tails = tails_less logs (weight (w ∷ ws)) (weight ws) (omega arith) ws ts has.tails.1;
  }

  -- and the others go where they do once one was made
  pub go_last : (before later : ℕ → Option HybridLog) (w : Write) (ws : List Write) (t : Target) (ts : List Target) → writes_key ws w.0 ≡ false
      → ((other text : Bytes) (at : Spot) → other ≢ w.0 → IsSpot n before other text at → IsSpot n later other text at)
      → ((stripe more : ℕ) → HasTail before stripe (weigh w + more) → HasTail later stripe more) → AllGoThere n before (w ∷ ws) (t ∷ ts) → AllGoThere n later ws ts
  go_last before later w ws t ts last spots tails has = record {
    goes = record { first = go_after before later w.0 spots ws ts last has.goes.first.1; all = omega (arith, has.goes.all) };
    tails = tails_after before later (weigh w + weight ws) (weight ws) (λ stripe. tails stripe (weight ws)) ws ts (subst (λ (m : ℕ). HaveTails n before m ws ts) (weight_last w ws last) has.tails.1);
  }

  -- room for one of them in the tail page, where it goes there
  pub tail_first : (logs : ℕ → Option HybridLog) (w : Write) (ws : List Write) (t : Target) (ts : List Target) → writes_key ws w.0 ≡ false → AllGoThere n logs (w ∷ ws) (t ∷ ts) → IfNone t.spot (HasTail logs (stripe_of n w.0) (weigh w))
  tail_first logs w ws t ts last has =
      let sum : weight (w ∷ ws) ≡ weigh w + weight ws = weight_last w ws last in
      none_then t.spot (HasTail logs (stripe_of n w.0) (weight (w ∷ ws))) (HasTail logs (stripe_of n w.0) (weigh w)) (tail_less logs (stripe_of n w.0) (weight (w ∷ ws)) (weigh w) (omega (arith, sum))) has.tails.0

-- what is due, said otherwise
pub placed_as : {R : Type 0} (One Other : Reply → List Write → Type 0) (n : ℕ) (parts : ℕ → Option (Shard R)) → ((said : Reply) (writes : List Write) → One said writes → Other said writes) → (placed : Placed)
    → IsPlacedFor One n parts placed → IsPlacedFor Other n parts placed
placed_as One Other n parts turn placed has = record { due = turn placed.reply (writes_of placed.placing) has.due; fits = has.fits; there = has.there; targets = has.targets; left = has.left }
