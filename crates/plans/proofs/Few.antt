-- No more pages leave their frames than are wanted, and what the device served it serves still.
use Rattle.std.proofs.Common.{◌≡◌, ◌≢◌, ◌∙◌, ℕ, ◌+◌, ◌<◌, ◌≤◌, List, [], ◌++◌, append-nil, append_assoc, Option, Some, Result, Ok, Err, IfErr, sym, ap, subst, refl, arith, ⊎_elim}
use Rattle.std.specs.Prelude.{OnErr, OnOk}
use Rattle.std.proofs.lemmas.Bool.{cases_eq}
use Rattle.words.specs.Store.{Write}
use Rattle.frames.specs.Resident.{Resident}
use Rattle.hybrid.specs.HybridLog.{HybridLog}
use Rattle.hybrid.specs.declared.stripe.room.Purpose.{Purpose}
use Rattle.hybrid.specs.Staging.{StagedPage}
use Rattle.shards.specs.declared.shard.Shard.{Shard}
use Rattle.plans.specs.declared.stop.Stop.{Stop}
use Rattle.plans.specs.declared.stop.Stop.TheVariants as stop
use Rattle.plans.specs.Reading.{HasMore}
use Rattle.shards.specs.Devices.{IsReadAlone, StillServes}
use Rattle.shards.specs.Rooms.{LacksRoom, LacksRoomAt, LeaveFrames, LeavesFrames, LeavesFramesAt, ShedFew, ShedsFew, ShedsFewAt, purpose_of, share}
use Rattle.shards.specs.Shards.{logs_of, shard_log}
use Rattle.plans.specs.Stops.{IfNoMemory}
use Rattle.plans.proofs.Logs.{log_at}
use Rattle.plans.proofs.Stores.{some_is}

all_pages : (r : Resident) (oldest : ℕ) → oldest ≡ r.oldest → r ≡ record { oldest = oldest; pages = r.pages; frames = r.frames }
all_pages r oldest is = ap (λ (k : ℕ). record { oldest = k; pages = r.pages; frames = r.frames }) (sym is)

-- no page has left its frame
pub shed_none : (weight : ℕ) (purpose : Purpose) (p : HybridLog) → ShedsFew weight purpose p p
shed_none weight purpose p = record {
  count = 0;
  reserved = record {
    oldest = refl;
    resident = all_pages p.resident (p.resident.oldest + 0) (omega arith);
    heads = refl;
    stripes = refl;
    places = refl;
    size = refl;
    still = λ number k e. e;
    others = λ number above. refl;
    counted = refl;
  };
  few = omega arith;
}

pub few_same : (stripe weight : ℕ) (purpose : Purpose) (before later : ℕ → Option HybridLog) → later stripe ≡ before stripe → ShedsFewAt stripe weight purpose before later
few_same stripe weight purpose before later same old new was is = subst (ShedsFew weight purpose old) (some_is old new (before stripe) was (sym same ∙ is)) (shed_none weight purpose old)

pub few_none : (n : ℕ) (ws : List Write) (before later : ℕ → Option HybridLog) → ((i : ℕ) → later i ≡ before i) → ShedFew n ws before later
few_none n ws before later same i = few_same i (share n i ws) (purpose_of ws) before later (same i)

-- from logs that are the same
pub few_from : (n : ℕ) (ws : List Write) (old other new : ℕ → Option HybridLog) → ((i : ℕ) → other i ≡ old i) → ShedFew n ws other new → ShedFew n ws old new
few_from n ws old other new same few i was is at there = few i was is (same i ∙ at) there

-- one stripe more has shed
pub few_more : (n i share_is : ℕ) (purpose : Purpose) (ws : List Write) (start before later : ℕ → Option HybridLog) → share_is ≡ share n i ws → purpose ≡ purpose_of ws → ((j : ℕ) → i ≤ j → before j ≡ start j)
    → ((j : ℕ) → j ≢ i → later j ≡ before j) → ShedFew n ws start before → ShedsFewAt i share_is purpose before later → ShedFew n ws start later
few_more n i share_is purpose ws start before later is left ahead others few one j was now at stands = ⊎_elim
    (λ same.
    let here : before j ≡ start j = ahead j (omega (arith, same)) in
    subst (λ (k : Purpose). ShedsFew (share n j ws) k was now) left
    (subst (λ (k : ℕ). ShedsFew k purpose was now) (is ∙ ap (λ (k : ℕ). share n k ws) (sym same))
    (one was now (sym (ap before same) ∙ here ∙ at) (sym (ap later same) ∙ stands))))
    (λ ne. few j was now at (sym (others j ne) ∙ stands))
    (cases_eq j i)

-- the log of one part
pub few_at : {R : Type 0} (weight : ℕ) (purpose : Purpose) (stripe : ℕ) (parts later : ℕ → Option (Shard R)) (old new : Shard R) → parts stripe ≡ Some old → later stripe ≡ Some new → ShedsFew weight purpose (shard_log old) (shard_log new)
    → ShedsFewAt stripe weight purpose (logs_of parts) (logs_of later)
few_at {R} weight purpose stripe parts later old new there is few was now at stands =
    subst (ShedsFew weight purpose was) (some_is (shard_log new) now (logs_of later stripe) (log_at later stripe new is) stands)
    (subst (λ (p : HybridLog). ShedsFew weight purpose p (shard_log new)) (some_is (shard_log old) was (logs_of parts stripe) (log_at parts stripe old there) at) few)

pub lacks_at : {R : Type 0} (weight : ℕ) (purpose : Purpose) (stripe : ℕ) (parts later : ℕ → Option (Shard R)) (old new : Shard R) → parts stripe ≡ Some old → later stripe ≡ Some new → LacksRoom weight purpose (shard_log old) (shard_log new)
    → LacksRoomAt stripe weight purpose (logs_of parts) (logs_of later)
lacks_at {R} weight purpose stripe parts later old new there is lacks was now at stands =
    subst (LacksRoom weight purpose was) (some_is (shard_log new) now (logs_of later stripe) (log_at later stripe new is) stands)
    (subst (λ (p : HybridLog). LacksRoom weight purpose p (shard_log new)) (some_is (shard_log old) was (logs_of parts stripe) (log_at parts stripe old there) at) lacks)

pub lacks_as : (i j u w : ℕ) (purpose : Purpose) (before later : ℕ → Option HybridLog) → i ≡ j → u ≡ w → LacksRoomAt i u purpose before later → LacksRoomAt j w purpose before later
lacks_as i j u w purpose before later same is lacks =
    subst (λ (k : ℕ). LacksRoomAt j k purpose before later) is (subst (λ (k : ℕ). LacksRoomAt k u purpose before later) same lacks)

-- the same of the frames that are left purpose
pub left_at : {R : Type 0} (weight : ℕ) (purpose : Purpose) (stripe : ℕ) (parts later : ℕ → Option (Shard R)) (old new : Shard R) → parts stripe ≡ Some old → later stripe ≡ Some new → LeavesFrames weight purpose (shard_log old) (shard_log new)
    → LeavesFramesAt stripe weight purpose (logs_of parts) (logs_of later)
left_at {R} weight purpose stripe parts later old new there is left was now at stands =
    subst (LeavesFrames weight purpose was) (some_is (shard_log new) now (logs_of later stripe) (log_at later stripe new is) stands)
    (subst (λ (p : HybridLog). LeavesFrames weight purpose p (shard_log new)) (some_is (shard_log old) was (logs_of parts stripe) (log_at parts stripe old there) at) left)

pub left_as : (i j u w : ℕ) (purpose : Purpose) (before later : ℕ → Option HybridLog) → i ≡ j → u ≡ w → LeavesFramesAt i u purpose before later → LeavesFramesAt j w purpose before later
left_as i j u w purpose before later same is left =
    subst (λ (k : ℕ). LeavesFramesAt j k purpose before later) is (subst (λ (k : ℕ). LeavesFramesAt k u purpose before later) same left)

-- no writes leave any
pub left_none : (n : ℕ) (ws : List Write) (before later : ℕ → Option HybridLog) → ws ≡ [] → LeaveFrames n ws before later
left_none n ws before later none i some = absurd (omega (arith, some, ap (λ (l : List Write). share n i l) none))

-- from logs that are the same
pub left_from : (n : ℕ) (ws : List Write) (old other new : ℕ → Option HybridLog) → ((i : ℕ) → other i ≡ old i) → LeaveFrames n ws other new → LeaveFrames n ws old new
left_from n ws old other new same left i some was is at there = left i some was is (same i ∙ at) there

-- of so many stripes
abbrev pub LeftBelow : (n count : ℕ) → List Write → (before later : ℕ → Option HybridLog) → Type 0
LeftBelow n count ws before later = (i : ℕ) → i < count → 0 < share n i ws → LeavesFramesAt i (share n i ws) (purpose_of ws) before later

-- one stripe more has room
pub left_more : (n i share_is : ℕ) (purpose : Purpose) (ws : List Write) (start before later : ℕ → Option HybridLog) → share_is ≡ share n i ws → purpose ≡ purpose_of ws → ((j : ℕ) → i ≤ j → before j ≡ start j)
    → ((j : ℕ) → j ≢ i → later j ≡ before j) → LeftBelow n i ws start before → (0 < share_is → LeavesFramesAt i share_is purpose before later) → LeftBelow n (i + 1) ws start later
left_more n i share_is purpose ws start before later is kept ahead others left one j below some was now at stands = ⊎_elim
    (λ same.
    let here : before j ≡ start j = ahead j (omega (arith, same)) in
    let mine : share_is ≡ share n j ws = is ∙ ap (λ (k : ℕ). share n k ws) (sym same) in
    subst (λ (k : Purpose). LeavesFrames (share n j ws) k was now) kept
    (subst (λ (k : ℕ). LeavesFrames k purpose was now) mine
    (one (omega (arith, some, mine)) was now (sym (ap before same) ∙ here ∙ at) (sym (ap later same) ∙ stands))))
    (λ ne. left j (omega (arith, below, ne)) some was now at (sym (others j ne) ∙ stands))
    (cases_eq j i)

pub err_then : {A E P Q : Type 0} (r : Result A E) → (P → Q) → OnErr r P → OnErr r Q
err_then (Ok x) f p = tt
err_then (Err e) f p = f p

pub ok_then : {A E P Q : Type 0} (r : Result A E) → (P → Q) → OnOk r P → OnOk r Q
ok_then (Ok x) f p = f p
ok_then (Err e) f p = tt

pub ok_two : {A E P Q S : Type 0} (r : Result A E) → (P → Q → S) → OnOk r P → OnOk r Q → OnOk r S
ok_two (Ok x) f p q = f p q
ok_two (Err e) f p q = tt

-- memory was not refused
pub never_refused : {A R : Type 0} (r : Result A (Stop R)) (P : Type 0) → IfErr r (λ s. IfNoMemory s ⊥) → IfErr r (λ s. IfNoMemory s P)
never_refused (Ok x) P never = tt
never_refused (Err stop.OutOfMemory) P never = absurd never
never_refused (Err stop.DeviceFault) P never = tt
never_refused (Err (stop.Cold receipts)) P never = tt
never_refused (Err (stop.StoreFull i)) P never = tt

pub refused_as : {A R : Type 0} (r : Result A (Stop R)) (P Q : Type 0) → (P → Q) → IfErr r (λ s. IfNoMemory s P) → IfErr r (λ s. IfNoMemory s Q)
refused_as (Ok x) P Q f is = tt
refused_as (Err stop.OutOfMemory) P Q f is = f is
refused_as (Err stop.DeviceFault) P Q f is = tt
refused_as (Err (stop.Cold receipts)) P Q f is = tt
refused_as (Err (stop.StoreFull i)) P Q f is = tt

pub stop_spared : {R : Type 0} (s : Stop R) (P Q : Type 0) → (P → Q) → IfNoMemory s P → IfNoMemory s Q
stop_spared stop.OutOfMemory P Q f is = f is
stop_spared stop.DeviceFault P Q f is = tt
stop_spared (stop.Cold receipts) P Q f is = tt
stop_spared (stop.StoreFull i) P Q f is = tt

pub stop_any : {R : Type 0} (s : Stop R) (P : Type 0) → P → IfNoMemory s P
stop_any stop.OutOfMemory P is = is
stop_any stop.DeviceFault P is = tt
stop_any (stop.Cold receipts) P is = tt
stop_any (stop.StoreFull i) P is = tt

pub refused_any : {A R : Type 0} (r : Result A (Stop R)) (P : Type 0) → P → IfErr r (λ s. IfNoMemory s P)
refused_any (Ok x) P is = tt
refused_any (Err s) P is = stop_any s P is

pub more_none : (staged : List StagedPage) → HasMore staged staged
more_none staged = ([], sym (append-nil staged))

pub more_both : (a b c : List StagedPage) → HasMore a b → HasMore b c → HasMore a c
more_both a b c one two = (one.0 ++ two.0, two.1 ∙ ap (λ (l : List StagedPage). l ++ two.0) one.1 ∙ append_assoc a one.0 two.0)

module _ {D R : Type 0} (serves : D → R → Type 0) (releases writes : D → ℕ) where
  pub still_same : (d : D) → StillServes serves releases d d
  still_same d = record { still = λ r is. is; no_release = refl }

  pub still_both : (a b c : D) → StillServes serves releases a b → StillServes serves releases b c → StillServes serves releases a c
  still_both a b c one two = record { still = λ r is. two.still r (one.still r is); no_release = two.no_release ∙ one.no_release }

  pub read_same : (d : D) → IsReadAlone serves releases writes d d
  read_same d = record { serves_still = still_same d; no_write = refl }

  pub read_both : (a b c : D) → IsReadAlone serves releases writes a b → IsReadAlone serves releases writes b c → IsReadAlone serves releases writes a c
  read_both a b c one two = record { serves_still = still_both a b c one.serves_still two.serves_still; no_write = two.no_write ∙ one.no_write }
