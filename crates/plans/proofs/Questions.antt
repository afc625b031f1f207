-- Plans that are asked otherwise, and plans over parts that are the same.
use Rattle.std.proofs.Common.{◌≡◌, ◌∙◌, ◌≤◌, ◌+◌, ap, ℕ, List, Option, [], sym, subst, refl, arith, Result, Ok, Err, IfErr, IfOk, nat_eq, nat_lt, cond, Bool, ◌<◌, Some, None, ⊎_elim, length, true, false}
use Rattle.std.proofs.lemmas.Bool.{cases_lt, le-ltb, lt-ltb}
use Rattle.std.specs.Option.{IsNone, is_some}
use Rattle.words.specs.declared.limits.TheConstants.{WEIGHT_MAX}
use Rattle.words.specs.Store.{Bytes, Store, Write, weight}
use Rattle.words.specs.declared.history.Operation.{Operation}
use Rattle.words.specs.declared.reply.Reply.{Reply}
use Rattle.words.specs.declared.command.Command.{Command}
use Rattle.words.specs.declared.history.Operation.TheVariants.{Watch}
use Rattle.words.specs.History.{History, too_much}
use Rattle.words.specs.Session.{operation_of}
use Rattle.words.specs.Session as asking
use Rattle.gates.specs.Rule.{Meaning}
use Rattle.transact.specs.declared.call.Call.TheVariants as call
use Rattle.transact.specs.Calls.{asked_of}
use Rattle.hybrid.specs.HybridLog.{HybridLog, Kept}
use Rattle.hybrid.specs.Staging.{StagedPage}
use Rattle.hybrid.specs.Writing.{AreFit}
use Rattle.shards.specs.declared.shard.Shard.{Shard}
use Rattle.shards.specs.Devices.{StillServes}
use Rattle.shards.specs.Rooms.{share}
use Rattle.shards.specs.Shards.{SameLogs, logs_of}
use Rattle.plans.specs.declared.planned.Planned.{Planned}
use Rattle.plans.specs.declared.reading.WhenCold.{WhenCold}
use Rattle.plans.specs.declared.reading.WhenCold.TheVariants.{Reads}
use Rattle.plans.specs.Reserving.{LacksRoomToPlan, StopsMaking}
use Rattle.plans.specs.declared.stop.Stop.{Stop}
use Rattle.plans.specs.declared.stop.Stop.TheVariants as stop
use Rattle.plans.specs.Lacking.{FoundLacking}
use Rattle.plans.specs.Memory.{AreAtHand}
use Rattle.plans.specs.Planning.{AreMade, AreMarks, AreSettled, AreWanted, AsksOn, ExecsWatching, FoundFull, HasPlanned, HasStopped, HaveFailed, IsFullFor, IsReady, IsUnmarked, LacksMemory, MatchStop, Question, RunsOn, StillStands, TakesMemory}
use Rattle.plans.specs.Stops.{AreCold, Each, HasFound, IfCold, IfFull, IfNoMemory, IsNeeded, IsNotEmpty, faults}
use Rattle.transact.specs.Plans.{made}
use Rattle.plans.proofs.Begun.{begins_none, has_begun_of}
use Rattle.plans.proofs.Few.{few_none, left_none, still_same}
use Rattle.plans.proofs.Found.{all_wanted, cold_needed, some_wanted}
use Rattle.plans.proofs.Logs.{logs_same}
use Rattle.plans.proofs.Making.{lacking_as, lacking_at, lacking_full, made_nothing, met_as, no_room}
use Rattle.plans.proofs.Spared.{spare_same}
use Rattle.plans.proofs.Stores.{some_is}
use Rattle.plans.proofs.Waits.{waits_same}

-- what a command asks as a call, it asks by itself
pub runs_of : {R : Type 0} (contents : Meaning (Shard R)) (n : ℕ) (parts : ℕ → Option (Shard R)) (seat : ℕ) (command : Command) (seen : History) (operation : Operation) → AsksOn contents n parts seat (call.One command) seen operation
    → RunsOn contents n parts command seen operation
runs_of contents n parts seat command seen operation asks = record {
  read = asks.stand.read;
  is = asks.is ∙ sym (ap (operation_of asks.watched) (some_is (asking.Run command) asks.asked (asked_of (call.One command)) refl asks.asks));
}

-- the same of a transaction
pub execs_of : {R : Type 0} (contents : Meaning (Shard R)) (n : ℕ) (parts : ℕ → Option (Shard R)) (seat : ℕ) (watching : List Bytes) (commands : List Command) (seen : History) (operation : Operation)
    → AsksOn contents n parts seat (call.Exec commands watching) seen operation → ExecsWatching contents n parts seat watching commands seen operation
execs_of contents n parts seat watching commands seen operation asks = record {
  watched = asks.watched;
  stand = asks.stand;
  ends = asks.ends;
  once = asks.once;
  is = asks.is ∙ sym (ap (operation_of asks.watched) (some_is (asking.Exec commands) asks.asked (asked_of (call.Exec commands watching)) refl asks.asks));
}

-- and of a watch
pub watches_of : {R : Type 0} (contents : Meaning (Shard R)) (n : ℕ) (parts : ℕ → Option (Shard R)) (seat : ℕ) (keys : List Bytes) (seen : History) (operation : Operation) → AsksOn contents n parts seat (call.Watch keys) seen operation
    → operation ≡ Watch keys
watches_of contents n parts seat keys seen operation asks = asks.is ∙ sym (ap (operation_of asks.watched) (some_is (asking.Watch keys) asks.asked (asked_of (call.Watch keys)) refl asks.asks))

-- what lookups came to that want pages
pub are_wanted : (lends Right : Type 0) (n : ℕ) (keys : List Bytes) (staged : List StagedPage) (logs : ℕ → Option HybridLog) (store : Store) (start cold : List Kept) (found_before found : List Write)
    → HasFound (IsNeeded Right n logs keys staged) Right store keys start cold found_before found → start ≡ [] → nat_eq (length cold) 0 ≡ false → (lends → cold ≡ start) → AreWanted lends Right n keys staged logs cold
are_wanted lends Right n keys staged logs store start cold found_before found has none some lent =
    let needed = all_wanted (IsNeeded Right n logs keys staged) Right store keys start cold found_before found has none in
    let one = some_wanted cold some in record {
      cold = (one, cold_needed Right n logs keys staged cold needed);
      needed = needed;
      unlent = λ lends. subst IsNotEmpty (lent lends ∙ none) one;
    }

no_weight : (o : Option ℕ) → IsNone o → is_some o ≡ true → ⊥
no_weight None none some = absurd (cc some)
no_weight (Some x) none some = absurd (cc none)

-- writes whose weight was found are light
pub light_of : (o : Option ℕ) (weighs : ℕ) → (WEIGHT_MAX < weighs → IsNone o) → is_some o ≡ true → weighs ≤ WEIGHT_MAX
light_of o weighs heavy some = ⊎_elim (λ (more : WEIGHT_MAX < weighs). absurd (no_weight o (heavy more) some)) (λ few. omega (arith, few)) (cases_lt WEIGHT_MAX weighs)

-- writes that are light are made, and those that are not, are not
pub light_settled : (reply : Reply) (writes : List Write) → weight writes ≤ WEIGHT_MAX → AreSettled reply writes reply writes
light_settled reply writes few =
    let light : nat_lt WEIGHT_MAX (weight writes) ≡ false = le-ltb WEIGHT_MAX (weight writes) few in
    record { reply_is = sym (ap (λ (b : Bool). cond b too_much reply) light); writes_are = sym (ap (λ (b : Bool). cond b [] writes) light) }

pub heavy_settled : (reply : Reply) (writes : List Write) (said : Reply) (written : List Write) → WEIGHT_MAX < weight writes → said ≡ too_much → written ≡ [] → AreSettled reply writes said written
heavy_settled reply writes said written much is none =
    let heavy : nat_lt WEIGHT_MAX (weight writes) ≡ true = lt-ltb WEIGHT_MAX (weight writes) much in
    record { reply_is = is ∙ sym (ap (λ (b : Bool). cond b too_much reply) heavy); writes_are = none ∙ sym (ap (λ (b : Bool). cond b [] writes) heavy) }

module _ {D R : Type 0} (wrote : D → List ℕ → R → D → Type 0) (kept : R → Kept) where
  -- what is due, said otherwise
  pub planned_as : (One Other : Reply → List Write → Type 0) (n : ℕ) (before later : (ℕ → Option (Shard R)) × D) (planned : Planned) → (One planned.reply planned.writes → Other planned.reply planned.writes)
      → HasPlanned wrote kept One n before later planned → HasPlanned wrote kept Other n before later planned
  planned_as One Other n before later planned turn has = record { due = turn has.due; fits = has.fits; room = has.room; made = has.made; few = has.few; left = has.left }

  pub all_planned_as : {E : Type 0} (r : Result Planned E) (One Other : Reply → List Write → Type 0) (n : ℕ) (before later : (ℕ → Option (Shard R)) × D) → ((reply : Reply) (writes : List Write) → One reply writes → Other reply writes)
      → IfOk r (HasPlanned wrote kept One n before later) → IfOk r (HasPlanned wrote kept Other n before later)
  all_planned_as (Ok planned) One Other n before later turn has = planned_as One Other n before later planned (turn planned.reply planned.writes) has
  all_planned_as (Err e) One Other n before later turn has = tt

  -- the same, made over parts that are the same
  pub planned_from : {E : Type 0} (r : Result Planned E) (One Other : Reply → List Write → Type 0) (n : ℕ) (parts mid : ℕ → Option (Shard R)) (device : D) (later : (ℕ → Option (Shard R)) × D) → mid ≡ parts
      → ((reply : Reply) (writes : List Write) → One reply writes → Other reply writes) → IfOk r (HasPlanned wrote kept One n (mid, device) later) → IfOk r (HasPlanned wrote kept Other n (parts, device) later)
  planned_from r One Other n parts mid device later same turn has =
      all_planned_as r One Other n (parts, device) later turn (subst (λ (p : ℕ → Option (Shard R)). IfOk r (HasPlanned wrote kept One n (p, device) later)) same has)

  -- the same of one plan
  pub planned_at : (One Other : Reply → List Write → Type 0) (n : ℕ) (parts mid : ℕ → Option (Shard R)) (device : D) (later : (ℕ → Option (Shard R)) × D) (planned : Planned) → mid ≡ parts
      → (One planned.reply planned.writes → Other planned.reply planned.writes) → HasPlanned wrote kept One n (mid, device) later planned → HasPlanned wrote kept Other n (parts, device) later planned
  planned_at One Other n parts mid device later planned same turn has =
      planned_as One Other n (parts, device) later planned turn (subst (λ (p : ℕ → Option (Shard R)). HasPlanned wrote kept One n (p, device) later planned) same has)

  -- a plan that writes nothing, over logs and a device that are the same
  pub planned_nothing : (Due : Reply → List Write → Type 0) (n : ℕ) (before later : (ℕ → Option (Shard R)) × D) (planned : Planned) → Due planned.reply planned.writes → planned.writes ≡ []
      → SameLogs before.0 later.0 → later.1 ≡ before.1 → HasPlanned wrote kept Due n before later planned
  planned_nothing Due n before later planned due none same device = record {
    due = due;
    fits = subst AreFit (sym none) tt;
    room = no_room n (logs_of later.0) planned.writes none;
    made = made_nothing wrote kept n n planned.writes (logs_of before.0) (logs_of later.0) before.1 later.1 none same device;
    few = few_none n planned.writes (logs_of before.0) (logs_of later.0) same;
    left = left_none n planned.writes (logs_of before.0) (logs_of later.0) none;
  }

  -- keys were looked up alone, and nothing changed
  pub stop_of_read : {A : Type 0} (r : Result A (Stop R)) (lends Right : Type 0) (question : Question) (n : ℕ) (staged : List StagedPage) (before later : (ℕ → Option (Shard R)) × D) → later.0 ≡ before.0 → later.1 ≡ before.1
      → IfErr r (λ s. MatchStop s (AreWanted lends Right n question.keys staged (logs_of before.0)) (TakesMemory lends Right n question staged (logs_of before.0)) ⊥ (λ stripe. ⊥))
      → IfErr r (HasStopped wrote kept lends Right question n staged before later)
  stop_of_read (Ok x) lends Right question n staged before later same device has = tt
  stop_of_read (Err stop.OutOfMemory) lends Right question n staged before later same device has = record { takes = has; logs = logs_same before.0 later.0 same; device = device }
  stop_of_read (Err stop.DeviceFault) lends Right question n staged before later same device has = absurd has
  stop_of_read (Err (stop.Cold receipts)) lends Right question n staged before later same device has = record { wanted = has; untouched = same; device = device }
  stop_of_read (Err (stop.StoreFull stripe)) lends Right question n staged before later same device has = absurd has

  -- memory was refused, and nothing else
  pub stopped_memory : {A : Type 0} (r : Result A (Stop R)) (lends Right : Type 0) (question : Question) (n : ℕ) (staged : List StagedPage) (before later : (ℕ → Option (Shard R)) × D) → LacksMemory lends Right n question staged before later
      → IfErr r (λ s. s ≡ stop.OutOfMemory) → IfErr r (HasStopped wrote kept lends Right question n staged before later)
  stopped_memory (Ok x) lends Right question n staged before later lacks is = tt
  stopped_memory (Err s) lends Right question n staged before later lacks is = subst (HasStopped wrote kept lends Right question n staged before later) (sym is) lacks

  -- a stop at a full stripe, where what is due to it is said otherwise
  pub full_is : (One Other : List Write → Type 0) (n : ℕ) (before later : (ℕ → Option (Shard R)) × D) (stripe : ℕ) → ((writes : List Write) → weight writes ≤ WEIGHT_MAX → One writes → Other writes)
      → FoundFull wrote kept One n before later stripe → FoundFull wrote kept Other n before later stripe
  full_is One Other n before later stripe turn met = met_as wrote kept n stripe One Other (logs_of before.0) (logs_of later.0) before.1 later.1 turn met

  -- a plan was not made, and more is asked than was
  pub stopped_as : {A : Type 0} (r : Result A (Stop R)) (lends Right : Type 0) (One Other : History → Operation → Type 0) (keys : List Bytes) (Brief : Type 0) (n : ℕ) (staged : List StagedPage)
      (before later : (ℕ → Option (Shard R)) × D) → ((seen : History) (operation : Operation) → Other seen operation → One seen operation)
      → IfErr r (HasStopped wrote kept lends Right (record { Asks = One; keys = keys; Brief = Brief }) n staged before later)
      → IfErr r (HasStopped wrote kept lends Right (record { Asks = Other; keys = keys; Brief = Brief }) n staged before later)
  stopped_as (Ok x) lends Right One Other keys Brief n staged before later turn has = tt
  stopped_as (Err stop.OutOfMemory) lends Right One Other keys Brief n staged before later turn has = record { takes = has.takes; logs = has.logs; device = has.device }
  stopped_as (Err stop.DeviceFault) lends Right One Other keys Brief n staged before later turn has =
      lacking_as n (λ writes. Right → (seen : History) (operation : Operation) → One seen operation → writes ≡ made seen operation) (λ writes. Right → (seen : History) (operation : Operation) → Other seen operation → writes ≡ made seen operation)
      (logs_of before.0) (logs_of later.0) (λ writes light due right seen operation asks. due right seen operation (turn seen operation asks)) has
  stopped_as (Err (stop.Cold receipts)) lends Right One Other keys Brief n staged before later turn has = has
  stopped_as (Err (stop.StoreFull stripe)) lends Right One Other keys Brief n staged before later turn has =
      full_is (λ writes. Right → (seen : History) (operation : Operation) → One seen operation → writes ≡ made seen operation) (λ writes. Right → (seen : History) (operation : Operation) → Other seen operation → writes ≡ made seen operation)
      n before later stripe (λ writes light due right seen operation asks. due right seen operation (turn seen operation asks)) has

  -- the same of a stop over parts that are the same
  pub stopped_from : {A : Type 0} (r : Result A (Stop R)) (lends Right : Type 0) (One Other : History → Operation → Type 0) (keys : List Bytes) (Brief : Type 0) (n : ℕ) (staged : List StagedPage)
      (parts mid : ℕ → Option (Shard R)) (device : D) (later : (ℕ → Option (Shard R)) × D) → mid ≡ parts → ((seen : History) (operation : Operation) → Other seen operation → One seen operation)
      → IfErr r (HasStopped wrote kept lends Right (record { Asks = One; keys = keys; Brief = Brief }) n staged (mid, device) later)
      → IfErr r (HasStopped wrote kept lends Right (record { Asks = Other; keys = keys; Brief = Brief }) n staged (parts, device) later)
  stopped_from r lends Right One Other keys Brief n staged parts mid device later same turn has =
      stopped_as r lends Right One Other keys Brief n staged (parts, device) later turn
      (subst (λ (p : ℕ → Option (Shard R)). IfErr r (HasStopped wrote kept lends Right (record { Asks = One; keys = keys; Brief = Brief }) n staged (p, device) later)) same has)

  -- room alone was lacking
  pub stopped_full : {A : Type 0} (r : Result A (Stop R)) (lends Right : Type 0) (question : Question) (writes : List Write) (n : ℕ) (staged : List StagedPage) (parts mid : ℕ → Option (Shard R)) (device : D)
      (later : (ℕ → Option (Shard R)) × D) → mid ≡ parts → ((ws : List Write) → weight ws ≤ WEIGHT_MAX → ws ≡ writes → AreMade Right question ws)
      → IfErr r (StopsMaking wrote kept n writes (mid, device) later)
      → IfErr r (HasStopped wrote kept lends Right question n staged (parts, device) later)
  stopped_full (Ok x) lends Right question writes n staged parts mid device later same turn has = tt
  stopped_full (Err stop.OutOfMemory) lends Right question writes n staged parts mid device later same turn has = absurd has
  stopped_full (Err stop.DeviceFault) lends Right question writes n staged parts mid device later same turn has =
      lacking_as n (λ due. due ≡ writes) (AreMade Right question) (logs_of parts) (logs_of later.0) turn
      (subst (λ (p : ℕ → Option (Shard R)). FoundLacking (λ due. due ≡ writes) n (logs_of p) (logs_of later.0)) same has)
  stopped_full (Err (stop.Cold receipts)) lends Right question writes n staged parts mid device later same turn has = absurd has
  stopped_full (Err (stop.StoreFull stripe)) lends Right question writes n staged parts mid device later same turn has =
      full_is (λ due. due ≡ writes) (AreMade Right question) n (parts, device) later stripe turn
      (subst (λ (p : ℕ → Option (Shard R)). FoundFull wrote kept (λ due. due ≡ writes) n (p, device) later stripe) same has)

  -- a plan for which pages were read before did not come to be
  pub stopped_reading : (s : Stop R) (lends Right Other : Type 0) (One Two : History → Operation → Type 0) (keys : List Bytes) (Brief : Type 0) (Memory : Type 0) (Read : D → Type 0) (n : ℕ) (staged : List StagedPage)
      (parts mid : ℕ → Option (Shard R)) (device : D) (later : (ℕ → Option (Shard R)) × D) → mid ≡ parts → Read device → (Other → Right) → ((seen : History) (operation : Operation) → Two seen operation → One seen operation)
      → (LacksMemory lends Right n (record { Asks = One; keys = keys; Brief = Brief }) staged (mid, device) later → Memory)
      → HasStopped wrote kept lends Right (record { Asks = One; keys = keys; Brief = Brief }) n staged (mid, device) later s
      → MatchStop s (λ receipts. Unit {0}) Memory (Unit {0}) (λ stripe. (read : D) × Read read × FoundFull wrote kept (λ ws. Other → (seen : History) (operation : Operation) → Two seen operation → ws ≡ made seen operation) n (parts, read) later stripe)
  stopped_reading stop.OutOfMemory lends Right Other One Two keys Brief Memory Read n staged parts mid device later same reads right turn memory has = memory has
  stopped_reading stop.DeviceFault lends Right Other One Two keys Brief Memory Read n staged parts mid device later same reads right turn memory has = tt
  stopped_reading (stop.Cold receipts) lends Right Other One Two keys Brief Memory Read n staged parts mid device later same reads right turn memory has = tt
  stopped_reading (stop.StoreFull stripe) lends Right Other One Two keys Brief Memory Read n staged parts mid device later same reads right turn memory has = (
    device,
    reads,
    full_is (λ ws. Right → (seen : History) (operation : Operation) → One seen operation → ws ≡ made seen operation) (λ ws. Other → (seen : History) (operation : Operation) → Two seen operation → ws ≡ made seen operation)
        n (parts, device) later stripe (λ ws light due is seen operation asks. due (right is) seen operation (turn seen operation asks))
        (subst (λ (p : ℕ → Option (Shard R)). FoundFull wrote kept (λ ws. Right → (seen : History) (operation : Operation) → One seen operation → ws ≡ made seen operation) n (p, device) later stripe) same has),
  )

  -- what a plan that was made is ready for
  pub ready_of : (One Other : Reply → List Write → Type 0) (n : ℕ) (before later : (ℕ → Option (Shard R)) × D) (planned : Planned) → (One planned.reply planned.writes → Other planned.reply planned.writes)
      → HasPlanned wrote kept One n before later planned → IsReady Other n later.0 planned
  ready_of One Other n before later planned turn has = record { due = turn has.due; fits = has.fits; room = has.room }

  -- a full stripe that was met is one that the call writes
  pub full_for : (Right Other : Type 0) (question : Question) (n : ℕ) (before later : (ℕ → Option (Shard R)) × D) (stripe : ℕ) → (Other → Right) → FoundFull wrote kept (AreMade Right question) n before later stripe
      → IsFullFor Other question n later.0 stripe
  full_for Right Other question n before later stripe right met = record {
    full = met.full;
    below = met.below;
    written = λ is seen operation asks. subst (λ (ws : List Write). 0 < share n stripe ws) (met.due (right is) seen operation asks) met.written;
  }

  -- a plan over pages that are at hand did not come to be
  pub staged_stop : {A : Type 0} (r : Result A (Stop R)) (lends Right Steady : Type 0) (question : Question) (Memory : Type 0) (Cold : Type 0) (n : ℕ) (staged : List StagedPage) (before later : (ℕ → Option (Shard R)) × D) → (Steady → Right)
      → ((lends → ⊥) → later.0 ≡ before.0 → later.1 ≡ before.1 → Cold) → (TakesMemory lends Right n question staged (logs_of before.0) → Memory) → IfErr r (HasStopped wrote kept lends Right question n staged before later)
      → IfErr r (λ s. MatchStop s (λ receipts. Cold) Memory (Unit {0}) (IsFullFor Steady question n later.0))
  staged_stop (Ok x) lends Right Steady question Memory Cold n staged before later right cold memory has = tt
  staged_stop (Err stop.OutOfMemory) lends Right Steady question Memory Cold n staged before later right cold memory has = memory has.takes
  staged_stop (Err stop.DeviceFault) lends Right Steady question Memory Cold n staged before later right cold memory has = tt
  staged_stop (Err (stop.Cold receipts)) lends Right Steady question Memory Cold n staged before later right cold memory has = cold has.wanted.unlent has.untouched has.device
  staged_stop (Err (stop.StoreFull stripe)) lends Right Steady question Memory Cold n staged before later right cold memory has = full_for Right Steady question n before later stripe right has

  -- the same where pages were read meanwhile
  pub reading_stop : {A : Type 0} (r : Result A (Stop R)) (Right Steady : Type 0) (question : Question) (One Memory Cold : Type 0) (Read : D → Type 0) (n : ℕ) (parts : ℕ → Option (Shard R)) (later : (ℕ → Option (Shard R)) × D) → (Steady → Right)
      → (One → Memory) → IfErr r (λ s. IfCold s (λ receipts. ⊥)) → IfErr r (λ s. MatchStop s (λ receipts. Unit {0}) One (Unit {0}) (λ stripe. (read : D) × Read read × FoundFull wrote kept (AreMade Right question) n (parts, read) later stripe))
      → IfErr r (λ s. MatchStop s (λ receipts. Cold) Memory (Unit {0}) (IsFullFor Steady question n later.0))
  reading_stop (Ok x) Right Steady question One Memory Cold Read n parts later right memory never has = tt
  reading_stop (Err stop.OutOfMemory) Right Steady question One Memory Cold Read n parts later right memory never has = memory has
  reading_stop (Err stop.DeviceFault) Right Steady question One Memory Cold Read n parts later right memory never has = tt
  reading_stop (Err (stop.Cold receipts)) Right Steady question One Memory Cold Read n parts later right memory never has = absurd never
  reading_stop (Err (stop.StoreFull stripe)) Right Steady question One Memory Cold Read n parts later right memory never has = full_for Right Steady question n (parts, has.0) later stripe right has.2

  -- a plan over pages that are at hand was not made for want of room
  pub staged_lacks : {A : Type 0} (r : Result A (Stop R)) (cold : WhenCold) (lends Right Steady : Type 0) (question : Question) (n : ℕ) (staged : List StagedPage) (before later : (ℕ → Option (Shard R)) × D) → (Steady → Right)
      → IfErr r (HasStopped wrote kept lends Right question n staged before later) → IfErr r (LacksRoomToPlan cold (AreMade Steady question) n before.0 later.0)
  staged_lacks (Ok x) cold lends Right Steady question n staged before later right has = tt
  staged_lacks (Err stop.OutOfMemory) cold lends Right Steady question n staged before later right has = tt
  staged_lacks (Err stop.DeviceFault) cold lends Right Steady question n staged before later right has = λ stops.
      lacking_as n (AreMade Right question) (AreMade Steady question) (logs_of before.0) (logs_of later.0) (λ writes light due is. due (right is)) has
  staged_lacks (Err (stop.Cold receipts)) cold lends Right Steady question n staged before later right has = tt
  staged_lacks (Err (stop.StoreFull stripe)) cold lends Right Steady question n staged before later right has =
      lacking_at n stripe (AreMade Right question) (AreMade Steady question) (logs_of before.0) (logs_of later.0) (λ writes light due is. due (right is))
      (lacking_full wrote kept n stripe (AreMade Right question) (logs_of before.0) (logs_of later.0) before.1 later.1 has)

  -- the same where pages were read meanwhile
  pub reading_lacks : {A : Type 0} (r : Result A (Stop R)) (cold : WhenCold) (Right Steady : Type 0) (question : Question) (One : Type 0) (Read : D → Type 0) (n : ℕ) (parts : ℕ → Option (Shard R)) (later : (ℕ → Option (Shard R)) × D) → cold ≡ Reads → (Steady → Right)
      → IfErr r (λ s. MatchStop s (λ receipts. Unit {0}) One (Unit {0}) (λ stripe. (read : D) × Read read × FoundFull wrote kept (AreMade Right question) n (parts, read) later stripe))
      → IfErr r (LacksRoomToPlan cold (AreMade Steady question) n parts later.0)
  reading_lacks (Ok x) cold Right Steady question One Read n parts later reads right has = tt
  reading_lacks (Err stop.OutOfMemory) cold Right Steady question One Read n parts later reads right has = tt
  reading_lacks (Err stop.DeviceFault) cold Right Steady question One Read n parts later reads right has = λ stops. absurd (cc (sym reads ∙ stops))
  reading_lacks (Err (stop.Cold receipts)) cold Right Steady question One Read n parts later reads right has = tt
  reading_lacks (Err (stop.StoreFull stripe)) cold Right Steady question One Read n parts later reads right has =
      lacking_at n stripe (AreMade Right question) (AreMade Steady question) (logs_of parts) (logs_of later.0) (λ writes light due is. due (right is))
      (lacking_full wrote kept n stripe (AreMade Right question) (logs_of parts) (logs_of later.0) has.0 later.1 has.2)

-- a page could not be read
pub unread : {R : Type 0} (s : Stop R) (Memory : Type 0) (Full : ℕ → Type 0) → IfCold s (λ receipts. ⊥) → IfFull s (λ stripe. ⊥) → Memory → MatchStop s (λ receipts. ⊥) Memory (Unit {0}) Full
unread stop.OutOfMemory Memory Full cold full memory = memory
unread stop.DeviceFault Memory Full cold full memory = tt
unread (stop.Cold receipts) Memory Full cold full memory = absurd cold
unread (stop.StoreFull stripe) Memory Full cold full memory = absurd full

-- the same of a plan
pub reads_stopped : {R : Type 0} (s : Stop R) (Memory : Type 0) (Full : ℕ → Type 0) → IfCold s (λ receipts. ⊥) → IfFull s (λ stripe. ⊥) → Memory → MatchStop s (λ receipts. Unit {0}) Memory (Unit {0}) Full
reads_stopped stop.OutOfMemory Memory Full cold full memory = memory
reads_stopped stop.DeviceFault Memory Full cold full memory = tt
reads_stopped (stop.Cold receipts) Memory Full cold full memory = tt
reads_stopped (stop.StoreFull stripe) Memory Full cold full memory = absurd full

-- by why a plan was not made, said otherwise
pub stop_then : {R : Type 0} (s : Stop R) (C D : List Kept → Type 0) (M N F G : Type 0) (U V : ℕ → Type 0) → ((receipts : List Kept) → C receipts → D receipts) → (M → N) → (F → G) → ((i : ℕ) → U i → V i)
    → MatchStop s C M F U → MatchStop s D N G V
stop_then stop.OutOfMemory C D M N F G U V cold memory fault full has = memory has
stop_then stop.DeviceFault C D M N F G U V cold memory fault full has = fault has
stop_then (stop.Cold receipts) C D M N F G U V cold memory fault full has = cold receipts has
stop_then (stop.StoreFull i) C D M N F G U V cold memory fault full has = full i has

pub err_stop_then : {A R : Type 0} (r : Result A (Stop R)) (C D : List Kept → Type 0) (M N F G : Type 0) (U V : ℕ → Type 0) → ((receipts : List Kept) → C receipts → D receipts) → (M → N) → (F → G) → ((i : ℕ) → U i → V i)
    → IfErr r (λ s. MatchStop s C M F U) → IfErr r (λ s. MatchStop s D N G V)
err_stop_then (Ok x) C D M N F G U V cold memory fault full has = tt
err_stop_then (Err s) C D M N F G U V cold memory fault full has = stop_then s C D M N F G U V cold memory fault full has

-- the same where no page is wanted
pub err_stop_warm : {A R : Type 0} (r : Result A (Stop R)) (C D : List Kept → Type 0) (M N F G : Type 0) (U V : ℕ → Type 0) → (M → N) → (F → G) → ((i : ℕ) → U i → V i)
    → IfErr r (λ s. IfCold s (λ receipts. ⊥)) → IfErr r (λ s. MatchStop s C M F U) → IfErr r (λ s. MatchStop s D N G V)
err_stop_warm (Ok x) C D M N F G U V memory fault full never has = tt
err_stop_warm (Err stop.OutOfMemory) C D M N F G U V memory fault full never has = memory has
err_stop_warm (Err stop.DeviceFault) C D M N F G U V memory fault full never has = fault has
err_stop_warm (Err (stop.Cold receipts)) C D M N F G U V memory fault full never has = absurd never
err_stop_warm (Err (stop.StoreFull i)) C D M N F G U V memory fault full never has = full i has

-- no call of a device failed
pub no_faults : {R : Type 0} (s : Stop R) (C : List Kept → Type 0) (M : Type 0) (U : ℕ → Type 0) → MatchStop s C M ⊥ U → faults s ≡ 0
no_faults stop.OutOfMemory C M U has = refl
no_faults stop.DeviceFault C M U has = absurd has
no_faults (stop.Cold receipts) C M U has = refl
no_faults (stop.StoreFull i) C M U has = refl

-- by one of its cases
pub staged_memory : {R : Type 0} (s : Stop R) (Cold : List Kept → Type 0) (Fault Steady Lends Brief : Type 0) (Full : ℕ → Type 0) → MatchStop s Cold (Steady → Lends → Brief → ⊥) Fault Full → Steady → Lends → Brief → IfNoMemory s ⊥
staged_memory stop.OutOfMemory Cold Fault Steady Lends Brief Full has = has
staged_memory stop.DeviceFault Cold Fault Steady Lends Brief Full has = λ steady lends brief. tt
staged_memory (stop.Cold receipts) Cold Fault Steady Lends Brief Full has = λ steady lends brief. tt
staged_memory (stop.StoreFull stripe) Cold Fault Steady Lends Brief Full has = λ steady lends brief. tt

-- by its cases
pub read_stopped : {R : Type 0} (s : Stop R) (lends Right : Type 0) (n : ℕ) (question : Question) (staged : List StagedPage) (logs : ℕ → Option HybridLog) → IfCold s (AreCold n logs question.keys staged)
    → IfCold s (Each (IsNeeded Right n logs question.keys staged)) → (lends → IfCold s (λ receipts. ⊥)) → IfFull s (λ stripe. ⊥) → (Right → AreAtHand lends n logs question.keys staged → question.Brief → IfNoMemory s ⊥) → faults s ≡ 0
    → MatchStop s (AreWanted lends Right n question.keys staged logs) (TakesMemory lends Right n question staged logs) ⊥ (λ stripe. ⊥)
read_stopped stop.OutOfMemory lends Right n question staged logs cold needed lent full memory counted = memory
read_stopped stop.DeviceFault lends Right n question staged logs cold needed lent full memory counted = absurd (omega (arith, counted))
read_stopped (stop.Cold receipts) lends Right n question staged logs cold needed lent full memory counted = record { cold = cold; needed = needed; unlent = lent }
read_stopped (stop.StoreFull stripe) lends Right n question staged logs cold needed lent full memory counted = absurd full

-- the same of one that lacked room alone
pub full_stopped : {R : Type 0} (s : Stop R) (Full : ℕ → Type 0) → IfCold s (λ receipts. ⊥) → IfNoMemory s ⊥ → IfFull s Full → MatchStop s (λ receipts. ⊥) ⊥ (Unit {0}) Full
full_stopped stop.OutOfMemory Full cold memory full = memory
full_stopped stop.DeviceFault Full cold memory full = tt
full_stopped (stop.Cold receipts) Full cold memory full = cold
full_stopped (stop.StoreFull stripe) Full cold memory full = full

-- where no call of a device failed
pub failed_none : {A R : Type 0} (r : Result A (Stop R)) (Cold : List Kept → Type 0) (Memory : Type 0) (Full : ℕ → Type 0) (count : ℕ) → IfErr r (λ s. MatchStop s Cold Memory ⊥ Full) → HaveFailed r count count
failed_none (Ok x) Cold Memory Full count has = refl
failed_none (Err stop.OutOfMemory) Cold Memory Full count has = omega arith
failed_none (Err stop.DeviceFault) Cold Memory Full count has = absurd has
failed_none (Err (stop.Cold receipts)) Cold Memory Full count has = omega arith
failed_none (Err (stop.StoreFull stripe)) Cold Memory Full count has = omega arith

pub failed_memory : {A R : Type 0} (r : Result A (Stop R)) (count : ℕ) → IfErr r (λ s. s ≡ stop.OutOfMemory) → HaveFailed r count count
failed_memory (Ok x) count is = refl
failed_memory {R = R} (Err s) count is = subst (λ (x : Stop R). count ≡ count + faults x) (sym is) (omega arith)

-- nothing changed
pub stands_same : {D R : Type 0} (serves : D → R → Type 0) (releases : D → ℕ) (parts later : ℕ → Option (Shard R)) (device : D) → later ≡ parts → StillStands (StillServes serves releases) (parts, device) (later, device)
stands_same serves releases parts later device same = record { serves = still_same serves releases (λ d. 0) device; waits = waits_same parts later same; rooms = spare_same (logs_of parts) (logs_of later) (logs_same parts later same) }

-- after parts that are the same
pub stands_from : {D R : Type 0} (serves : D → R → Type 0) (releases : D → ℕ) (parts mid : ℕ → Option (Shard R)) (device : D) (later : (ℕ → Option (Shard R)) × D) → mid ≡ parts
    → StillStands (StillServes serves releases) (mid, device) later → StillStands (StillServes serves releases) (parts, device) later
stands_from {R = R} serves releases parts mid device later same has = subst (λ (p : ℕ → Option (Shard R)). StillStands (StillServes serves releases) (p, device) later) same has

-- a call that begins no watch
pub marks_none : {R : Type 0} (contents : Meaning (Shard R)) (n seat : ℕ) (before later : ℕ → Option (Shard R)) (r : Result Planned (Stop R)) → IsUnmarked contents n before later r → AreMarks contents n seat [] before later r
marks_none contents n seat before later (Ok planned) is = record { became = begins_none contents n seat before later is.became; begun = has_begun_of contents n seat planned.begun before later is.begun is.became }
marks_none contents n seat before later (Err s) is = is.became
