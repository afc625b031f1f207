-- What plans over the stripes say of a client that acts.
use Rattle.std.proofs.Common.{◌≡◌, ◌∙◌, ℕ, zero, suc, ◌+◌, List, [], Option, Some, refl, sym, ap, subst, ⊎_elim, arith}
use Rattle.words.specs.Store.{Write}
use Rattle.words.specs.History.{History, Pair}
use Rattle.words.specs.Session.{Asked, operation_of}
use Rattle.gates.specs.Passes.{AreWatched}
use Rattle.hybrid.specs.HybridLog.{HybridLog, Kept}
use Rattle.hybrid.specs.Shedding.{IsFlushedBy, ShedsAll}
use Rattle.hybrid.specs.Staging.{StagedPage}
use Rattle.hybrid.specs.Writing.{AreFit}
use Rattle.transact.specs.declared.call.Call.{Call}
use Rattle.transact.specs.Calls.{asked_of}
use Rattle.transact.specs.Plans.{EndsAll, IsPlan, keys_begun, made}
use Rattle.transact.specs.Tables.{Became, Stand, begins, joined, stays}
use Rattle.plans.specs.declared.planned.Planned.{Planned}
use Rattle.plans.specs.declared.stop.Stop.{Stop}
use Rattle.plans.specs.declared.stop.Stop.TheVariants as stop
use Rattle.shards.specs.Devices.{IsReadAlone}
use Rattle.shards.specs.Rooms.{AreRoomy, MakesRoom, MeetsFull}
use Rattle.shards.specs.Shards.{shard_meaning}
use Rattle.plans.specs.Sizes.{AllShort}
use Rattle.plans.specs.Reading.{AreServed}
use Rattle.plans.specs.Planning.{MatchStop}
use Rattle.plans.specs.Stops.{AreCold, IfCold, IfFull, faults, keys_looked_up}
use Rattle.world_log.specs.Places.{Receipt, Shelves, Serves, Wrote, SamePlaces, identity, view, writes_of}
use Rattle.world_log.specs.PlanLaws.{ReadLaws, logs_lent, with_parts}
use Rattle.world_log.specs.Stripes.{KeepsOthers, acts_for, lent}
use Rattle.world_log.specs.Types.{Stripes}
use Rattle.world_log.specs.declared.logs.WorldLog.{WorldLog}
use Rattle.world.specs.Planning.{HasMet, HasNamed, HasPlanned, count_of}

-- what is said of a stop that names pages, or a full stripe, in other words
pub cold_as : (s : Stop Receipt) (P Q : List Kept → Type 0) → ((receipts : List Kept) → P receipts → Q receipts) → IfCold s P → IfCold s Q
cold_as stop.OutOfMemory P Q turn is = tt
cold_as stop.DeviceFault P Q turn is = tt
cold_as (stop.StoreFull i) P Q turn is = tt
cold_as (stop.Cold receipts) P Q turn is = turn receipts is

pub cold_both : (s : Stop Receipt) (P Q : List Kept → Type 0) → IfCold s P → IfCold s Q → IfCold s (λ receipts. P receipts × Q receipts)
cold_both stop.OutOfMemory P Q one other = tt
cold_both stop.DeviceFault P Q one other = tt
cold_both (stop.StoreFull i) P Q one other = tt
cold_both (stop.Cold receipts) P Q one other = (one, other)

pub never_cold : (s : Stop Receipt) (P : List Kept → Type 0) → IfCold s (λ receipts. ⊥) → IfCold s P
never_cold s P is = cold_as s (λ receipts. ⊥) P (λ receipts none. absurd none) is

pub full_as : (s : Stop Receipt) (P Q : ℕ → Type 0) → ((i : ℕ) → P i → Q i) → IfFull s P → IfFull s Q
full_as stop.OutOfMemory P Q turn is = tt
full_as stop.DeviceFault P Q turn is = tt
full_as (stop.StoreFull i) P Q turn is = turn i is
full_as (stop.Cold receipts) P Q turn is = tt

-- where a stripe is full, by what is said of a stop
pub full_of : (s : Stop Receipt) (Cold : List Kept → Type 0) (Memory Fault : Type 0) (Full : ℕ → Type 0) → MatchStop s Cold Memory Fault Full → IfFull s Full
full_of stop.OutOfMemory Cold Memory Fault Full is = tt
full_of stop.DeviceFault Cold Memory Fault Full is = tt
full_of (stop.StoreFull i) Cold Memory Fault Full is = is
full_of (stop.Cold receipts) Cold Memory Fault Full is = tt

-- READS

-- a page that was written counts as no failure
flushed_failures : (old new : HybridLog) (before after : Shelves) → IsFlushedBy Wrote view old before new after → after.failures ≡ before.failures
flushed_failures old new before after flushed = ⊎_elim
    (λ had. ap (λ (d : Shelves). d.failures) had.2)
    (λ wrote. ap (λ (d : Shelves). d.failures) wrote.3.1)
    flushed.how

shed_failures : (n : ℕ) (old new : HybridLog) (before after : Shelves) → ShedsAll Wrote view n old before new after → after.failures ≡ before.failures
shed_failures zero old new before after sheds = ap (λ (d : Shelves). d.failures) sheds.1
shed_failures (suc n) old new before after sheds =
    flushed_failures sheds.0 sheds.3.mid sheds.1 after sheds.3.flushed ∙ shed_failures n old sheds.0 before sheds.1 sheds.2

-- nor do those that make room
pub room_failures : (n k : ℕ) (writes : List Write) (old new : ℕ → Option HybridLog) (before after : Shelves)
    → MakesRoom Wrote view n k writes old before new after → after.failures ≡ before.failures
room_failures n zero writes old new before after makes = ap (λ (d : Shelves). d.failures) makes.1
room_failures n (suc k) writes old new before after makes =
    ⊎_elim
    (λ none. ap (λ (d : Shelves). d.failures) none.2)
    (λ some. shed_failures some.1.shed.count some.1.was some.1.is makes.1 after some.1.shed.all)
    makes.3
    ∙ room_failures n k writes old makes.0 before makes.1 makes.2

-- Pages were read before room was made, and no call failed: all places were then as they had been.
pub read_places : ReadLaws → (n k : ℕ) (writes : List Write) (old new : ℕ → Option HybridLog) (before read after : Shelves)
    → IsReadAlone Serves (λ (d : Shelves). d.releases) writes_of before read → MakesRoom Wrote view n k writes old read new after
    → after.failures ≡ before.failures → SamePlaces before read
read_places laws n k writes old new before read after alone makes fails =
    laws.places before read alone.serves_still.still (sym (room_failures n k writes old new read after makes) ∙ fails) alone.no_write

-- WHERE A CLIENT ACTS

-- what is due of a call over these parts
abbrev pub IsDueOn : ℕ → Stripes → (c : ℕ) → Call → (Asked → History → List Pair → Type 0) → Type 0
IsDueOn n acting c call P =
    (asked : Asked) (seen : History) (watched : List Pair) → asked_of call ≡ Some asked
    → Stand (shard_meaning ⊥) n (lent acting) seen c watched → EndsAll call watched → AreWatched watched watched → P asked seen watched

pub record Came (n : ℕ) (acting : Stripes) (before : Shelves) (c : ℕ) (call : Call) (planned : Planned) (stripes : Stripes) (device : Shelves) : Type 0 where
  pub due : AllShort (joined (shard_meaning ⊥) n (lent acting))
      → IsDueOn n acting c call (λ asked seen watched. IsPlan seen (operation_of watched asked) planned.reply planned.writes)
  pub roomy : AreRoomy n (logs_lent stripes) planned.writes
  pub fits : AreFit planned.writes
  pub keeps : KeepsOthers acting stripes
  pub became : Became (shard_meaning ⊥) n [] (begins c (keys_begun call)) (lent acting) (lent stripes)
  pub read : Shelves
  pub reads : SamePlaces before read
  pub makes : MakesRoom Wrote view n n planned.writes (logs_lent acting) read (logs_lent stripes) device

pub came_is : (old : WorldLog) (n : ℕ) (acting : Stripes) (c : ℕ) (call : Call) (planned : Planned) (stripes : Stripes) (device : Shelves)
    → acting ≡ acts_for old.stripes c → n ≡ count_of old.stripes → Came n acting old.device c call planned stripes device
    → HasPlanned old c call planned (with_parts old stripes device)
came_is old n acting c call planned stripes device acts count came =
    let one = subst (λ (s : Stripes). Came n s old.device c call planned stripes device) acts came in
    let is : Came (count_of old.stripes) (acts_for old.stripes c) old.device c call planned stripes device =
    subst (λ (k : ℕ). Came k (acts_for old.stripes c) old.device c call planned stripes device) count one in
    record {
      due = is.due;
      roomy = is.roomy;
      fits = is.fits;
      keeps = is.keeps;
      became = is.became;
      read = is.read;
      reads = is.reads;
      makes = is.makes;
      else_same = refl;
    }

pub record Named (n : ℕ) (acting : Stripes) (call : Call) (staged : List StagedPage) (receipts : List Kept) (stripes : Stripes) : Type 0 where
  pub cold : AreCold n (logs_lent acting) (keys_looked_up call) staged receipts
  pub keeps : KeepsOthers acting stripes
  pub parts : lent stripes ≡ lent acting

pub named_is : (old : WorldLog) (n : ℕ) (acting : Stripes) (c : ℕ) (call : Call) (staged : List StagedPage) (receipts : List Kept) (stripes : Stripes)
    (device : Shelves)
    → acting ≡ acts_for old.stripes c → n ≡ count_of old.stripes → device ≡ old.device → Named n acting call staged receipts stripes
    → HasNamed old c call staged receipts (with_parts old stripes device)
named_is old n acting c call staged receipts stripes device acts count same named =
    let one = subst (λ (s : Stripes). Named n s call staged receipts stripes) acts named in
    let is : Named (count_of old.stripes) (acts_for old.stripes c) call staged receipts stripes =
    subst (λ (k : ℕ). Named k (acts_for old.stripes c) call staged receipts stripes) count one in
    record { cold = is.cold; keeps = is.keeps; parts = is.parts; else_same = ap (with_parts old stripes) same }

pub record Met (n : ℕ) (acting : Stripes) (before : Shelves) (c : ℕ) (call : Call) (i : ℕ) (stripes : Stripes) (device : Shelves) : Type 0 where
  pub keeps : KeepsOthers acting stripes
  pub became : Became (shard_meaning ⊥) n [] stays (lent acting) (lent stripes)
  pub read : Shelves
  pub reads : SamePlaces before read
  pub meets : MeetsFull Wrote view n i (λ writes. AllShort (joined (shard_meaning ⊥) n (lent acting))
      → IsDueOn n acting c call (λ asked seen watched. writes ≡ made seen (operation_of watched asked)))
      (logs_lent acting) read (logs_lent stripes) device

pub met_is : (old : WorldLog) (n : ℕ) (acting : Stripes) (c : ℕ) (call : Call) (i : ℕ) (stripes : Stripes) (device : Shelves)
    → acting ≡ acts_for old.stripes c → n ≡ count_of old.stripes → Met n acting old.device c call i stripes device
    → HasMet old c call i (with_parts old stripes device)
met_is old n acting c call i stripes device acts count met =
    let one = subst (λ (s : Stripes). Met n s old.device c call i stripes device) acts met in
    let is : Met (count_of old.stripes) (acts_for old.stripes c) old.device c call i stripes device =
    subst (λ (k : ℕ). Met k (acts_for old.stripes c) old.device c call i stripes device) count one in
    record { keeps = is.keeps; became = is.became; read = is.read; reads = is.reads; meets = is.meets; else_same = refl }

-- what is due of the writes for which a full stripe was met, in other words
pub met_so : (n i : ℕ) (One Other : List Write → Type 0) (old new : ℕ → Option HybridLog) (before after : Shelves)
    → ((writes : List Write) → One writes → Other writes) → MeetsFull Wrote view n i One old before new after → MeetsFull Wrote view n i Other old before new after
met_so n i One Other old new before after turn met = record {
  writes = met.writes;
  due = turn met.writes met.due;
  light = met.light;
  written = met.written;
  below = met.below;
  made = met.made;
  full = met.full;
  few = met.few;
  lacks = met.lacks;
}

-- where pages were read before a full stripe was met, and no call failed, all places were then as they had been
pub full_read : ReadLaws → (s : Stop Receipt) (n : ℕ) (old new : ℕ → Option HybridLog) (before after : Shelves) (Due : List Write → Type 0)
    → after.failures ≡ before.failures + faults s
    → IfFull s (λ i. (read : Shelves) × IsReadAlone Serves (λ (d : Shelves). d.releases) writes_of before read × MeetsFull Wrote view n i Due old read new after)
    → IfFull s (λ i. (read : Shelves) × SamePlaces before read × MeetsFull Wrote view n i Due old read new after)
full_read laws stop.OutOfMemory n old new before after Due fails met = tt
full_read laws stop.DeviceFault n old new before after Due fails met = tt
full_read laws (stop.Cold receipts) n old new before after Due fails met = tt
full_read laws (stop.StoreFull i) n old new before after Due fails met =
    let none : after.failures ≡ before.failures = omega (arith, fails) in
    (met.0, read_places laws n (suc i) met.2.writes old new before met.0 after met.1 met.2.made none, met.2)

-- receipts that are served to the client that acts
pub served_as : (log : WorldLog) (acting : Stripes) (c : ℕ) → acting ≡ acts_for log.stripes c
    → AreServed Serves identity log.device (logs_lent (acts_for log.stripes c)) → AreServed Serves identity log.device (logs_lent acting)
served_as log acting c acts served = subst (λ (s : Stripes). AreServed Serves identity log.device (logs_lent s)) (sym acts) served
