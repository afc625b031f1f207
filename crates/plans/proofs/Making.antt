-- Room that is made, stripe by stripe.
use Rattle.std.proofs.Common.{◌≡◌, ◌∙◌, inl, inr, ℕ, zero, suc, add-one, ◌+◌, ◌<◌, ◌≤◌, List, [], Option, sym, subst, refl, arith}
use Rattle.std.specs.Prelude.{Result, Ok, Err, IfErr}
use Rattle.words.specs.declared.limits.TheConstants.{WEIGHT_MAX}
use Rattle.words.specs.Store.{Write, weight}
use Rattle.hybrid.specs.declared.stripe.room.Purpose.{Purpose}
use Rattle.hybrid.specs.HybridLog.{HybridLog, Kept}
use Rattle.plans.specs.Lacking.{FoundLacking, LacksShareAt}
use Rattle.plans.specs.Planning.{MatchStop}
use Rattle.plans.specs.declared.stop.Stop.{Stop}
use Rattle.plans.specs.declared.stop.Stop.TheVariants as stop
use Rattle.shards.specs.Rooms.{AreRoomy, IsFullAt, LacksRoom, LacksRoomAt, MakesRoom, MeetsFull, RoomAt, ShedFew, ShedsAt, purpose_of, share}
use Rattle.plans.specs.Stops.{IfCold, IfFull, faults}
use Rattle.plans.proofs.Few.{few_from}

-- the room that a stripe lacked for its share of writes, which was told
lacks_of_share : (n i share_is : ℕ) (purpose : Purpose) (ws : List Write) (a b c : ℕ → Option HybridLog) → share_is ≡ share n i ws → purpose ≡ purpose_of ws → b i ≡ a i → LacksRoomAt i share_is purpose b c
    → LacksRoomAt i (share n i ws) (purpose_of ws) a c
lacks_of_share n i share_is purpose ws a b c is left same lacks was now at there =
    subst (λ (k : Purpose). LacksRoom (share n i ws) k was now) left (subst (λ (k : ℕ). LacksRoom k purpose was now) is (lacks was now (same ∙ at) there))

module _ {D R : Type 0} (wrote : D → List ℕ → R → D → Type 0) (view : R → Kept) (n : ℕ) where
  -- where nothing is written, no room is made
  pub made_none : (count : ℕ) (old new : ℕ → Option HybridLog) (device after : D) → ((i : ℕ) → new i ≡ old i) → after ≡ device → MakesRoom wrote view n count [] old device new after
  made_none zero old new device after same still = (same, still)
  made_none (suc count) old new device after same still = (new, after, made_none count old new device after same still, inl (refl, λ i. refl, refl))

  pub made_nothing : (count : ℕ) (ws : List Write) (old new : ℕ → Option HybridLog) (device after : D) → ws ≡ [] → ((i : ℕ) → new i ≡ old i) → after ≡ device → MakesRoom wrote view n count ws old device new after
  made_nothing count ws old new device after none same still = subst (λ (l : List Write). MakesRoom wrote view n count l old device new after) (sym none) (made_none count old new device after same still)

  -- room was made in one stripe more
  pub made_more : (i : ℕ) (ws : List Write) (a b c : ℕ → Option HybridLog) (d e f : D) → MakesRoom wrote view n i ws a d b e → RoomAt wrote view n i ws b e c f → MakesRoom wrote view n (i + 1) ws a d c f
  made_more i ws a b c d e f made room = subst (λ (k : ℕ). MakesRoom wrote view n k ws a d c f) (sym (add-one i)) (b, e, made, room)

  -- from logs and a device that are the same
  pub made_from : (count : ℕ) (ws : List Write) (old other new : ℕ → Option HybridLog) (device after : D) → ((i : ℕ) → other i ≡ old i) → MakesRoom wrote view n count ws other device new after
      → MakesRoom wrote view n count ws old device new after
  made_from zero ws old other new device after same made = (λ i. made.0 i ∙ same i, made.1)
  made_from (suc count) ws old other new device after same made = (made.0, made.1, made_from count ws old other made.0 device made.1 same made.2, made.3)

  -- the room of one stripe, by its share
  pub room_at : (i share_is : ℕ) (ws : List Write) (b c : ℕ → Option HybridLog) (e f : D) → share_is ≡ share n i ws → (share_is ≡ 0 → ((j : ℕ) → c j ≡ b j) × (f ≡ e)) → (0 < share_is → ShedsAt wrote view i b e c f)
      → RoomAt wrote view n i ws b e c f
  room_at i zero ws b c e f is none some = let same = none refl in inl (sym is, same.0, same.1)
  room_at i (suc k) ws b c e f is none some = inr (omega (arith, is), some (omega arith))

  -- a stripe was met that is full
  pub met_full : (i : ℕ) (ws : List Write) (a b c : ℕ → Option HybridLog) (d e f : D) → weight ws ≤ WEIGHT_MAX → 0 < share n i ws → i < n → MakesRoom wrote view n i ws a d b e
      → ShedsAt wrote view i b e c f → IsFullAt c i → ShedFew n ws a c → LacksRoomAt i (share n i ws) (purpose_of ws) a c → MeetsFull wrote view n i (λ due. due ≡ ws) a d c f
  met_full i ws a b c d e f light some below made shed full few lacks =
      record { writes = ws; due = refl; light = light; written = some; below = below; made = (b, e, made, inr (some, shed)); full = full; few = few; lacks = lacks }

  -- the same of a stop at that stripe
  pub met_stop : (s : Stop R) (failures : D → ℕ) (i share_is : ℕ) (purpose : Purpose) (ws : List Write) (a b c : ℕ → Option HybridLog) (d e f : D) → share_is ≡ share n i ws → purpose ≡ purpose_of ws → weight ws ≤ WEIGHT_MAX → i < n
      → MakesRoom wrote view n i ws a d b e → b i ≡ a i → ShedFew n ws a c → LacksRoomAt i share_is purpose b c → failures f ≡ failures e + faults s
      → (0 < share_is → failures f ≡ failures e → ShedsAt wrote view i b e c f) → MatchStop s (λ receipts. ⊥) ⊥ (0 < share_is) (λ full. (full ≡ i) × (0 < share_is) × IsFullAt c full)
      → MatchStop s (λ receipts. ⊥) ⊥ (FoundLacking (λ due. due ≡ ws) n a c) (λ stripe. MeetsFull wrote view n stripe (λ due. due ≡ ws) a d c f)
  met_stop stop.OutOfMemory failures i share_is purpose ws a b c d e f is left light below made same few lacks counted shed full = full
  met_stop stop.DeviceFault failures i share_is purpose ws a b c d e f is left light below made same few lacks counted shed some =
      (i, record { writes = ws; made = refl; light = light; below = below; written = omega (arith, some, is); lacks = lacks_of_share n i share_is purpose ws a b c is left same lacks })
  met_stop (stop.Cold receipts) failures i share_is purpose ws a b c d e f is left light below made same few lacks counted shed full = full
  met_stop (stop.StoreFull j) failures i share_is purpose ws a b c d e f is left light below made same few lacks counted shed full =
      subst (λ (k : ℕ). MeetsFull wrote view n k (λ due. due ≡ ws) a d c f) (sym full.0)
      (met_full i ws a b c d e f light (omega (arith, full.1, is)) below made (shed full.1 (omega (arith, counted))) (subst (IsFullAt c) full.0 full.2) few
      (lacks_of_share n i share_is purpose ws a b c is left same lacks))

  -- what is due, said otherwise
  pub met_as : (i : ℕ) (One Other : List Write → Type 0) (a c : ℕ → Option HybridLog) (d f : D) → ((ws : List Write) → weight ws ≤ WEIGHT_MAX → One ws → Other ws) → MeetsFull wrote view n i One a d c f
      → MeetsFull wrote view n i Other a d c f
  met_as i One Other a c d f turn met =
      record { writes = met.writes; due = turn met.writes met.light met.due; light = met.light; written = met.written; below = met.below; made = met.made; full = met.full; few = met.few; lacks = met.lacks }

  pub met_from : (i : ℕ) (Due : List Write → Type 0) (a b c : ℕ → Option HybridLog) (d f : D) → ((j : ℕ) → b j ≡ a j) → MeetsFull wrote view n i Due b d c f → MeetsFull wrote view n i Due a d c f
  met_from i Due a b c d f same met =
      record { writes = met.writes; due = met.due; light = met.light; written = met.written; below = met.below; made = made_from (suc i) met.writes a b c d f same met.made; full = met.full; few = few_from n met.writes a b c same met.few; lacks = λ was is at there. met.lacks was is (same i ∙ at) there }

  -- the same of a stop
  pub full_as : {A : Type 0} (r : Result A (Stop R)) (One Other : List Write → Type 0) (a b c : ℕ → Option HybridLog) (d f : D) → ((j : ℕ) → b j ≡ a j)
      → ((ws : List Write) → weight ws ≤ WEIGHT_MAX → One ws → Other ws) → IfErr r (λ s. IfFull s (λ i. MeetsFull wrote view n i One b d c f)) → IfErr r (λ s. IfFull s (λ i. MeetsFull wrote view n i Other a d c f))
  full_as (Ok x) One Other a b c d f same turn met = tt
  full_as (Err stop.OutOfMemory) One Other a b c d f same turn met = tt
  full_as (Err stop.DeviceFault) One Other a b c d f same turn met = tt
  full_as (Err (stop.Cold receipts)) One Other a b c d f same turn met = tt
  full_as (Err (stop.StoreFull i)) One Other a b c d f same turn met = met_from i Other a b c d f same (met_as i One Other b c d f turn met)

  -- the same, where pages were read before
  pub full_read : (s : Stop R) (Still : D → Type 0) (One Other : List Write → Type 0) (a b c : ℕ → Option HybridLog) (d f : D) → Still d → ((j : ℕ) → b j ≡ a j)
      → ((ws : List Write) → weight ws ≤ WEIGHT_MAX → One ws → Other ws) → IfFull s (λ i. MeetsFull wrote view n i One b d c f)
      → IfFull s (λ i. (read : D) × Still read × MeetsFull wrote view n i Other a read c f)
  full_read stop.OutOfMemory Still One Other a b c d f still same turn met = tt
  full_read stop.DeviceFault Still One Other a b c d f still same turn met = tt
  full_read (stop.Cold receipts) Still One Other a b c d f still same turn met = tt
  full_read (stop.StoreFull i) Still One Other a b c d f still same turn met = (d, still, met_from i Other a b c d f same (met_as i One Other b c d f turn met))

-- what is due, said otherwise, where a stripe was met that lacked room
pub lacking_at : (n i : ℕ) (One Other : List Write → Type 0) (a c : ℕ → Option HybridLog) → ((ws : List Write) → weight ws ≤ WEIGHT_MAX → One ws → Other ws) → LacksShareAt One n a c i → LacksShareAt Other n a c i
lacking_at n i One Other a c turn met =
    record { writes = met.writes; made = turn met.writes met.light met.made; light = met.light; below = met.below; written = met.written; lacks = met.lacks }

pub lacking_as : (n : ℕ) (One Other : List Write → Type 0) (a c : ℕ → Option HybridLog) → ((ws : List Write) → weight ws ≤ WEIGHT_MAX → One ws → Other ws) → FoundLacking One n a c → FoundLacking Other n a c
lacking_as n One Other a c turn met = (met.0, lacking_at n met.0 One Other a c turn met.1)

-- a full stripe that was met lacked room
pub lacking_full : {D R : Type 0} (wrote : D → List ℕ → R → D → Type 0) (view : R → Kept) (n i : ℕ) (Due : List Write → Type 0) (a c : ℕ → Option HybridLog) (d f : D) → MeetsFull wrote view n i Due a d c f → LacksShareAt Due n a c i
lacking_full wrote view n i Due a c d f met =
    record { writes = met.writes; made = met.due; light = met.light; below = met.below; written = met.written; lacks = met.lacks }

-- no stripe is met that is full
pub never_met : {A R : Type 0} (r : Result A (Stop R)) (P : ℕ → Type 0) → IfErr r (λ s. IfFull s (λ i. ⊥)) → IfErr r (λ s. IfFull s P)
never_met (Ok x) P never = tt
never_met (Err stop.OutOfMemory) P never = tt
never_met (Err stop.DeviceFault) P never = tt
never_met (Err (stop.Cold receipts)) P never = tt
never_met (Err (stop.StoreFull i)) P never = absurd never

-- the same where memory was refused
pub refused_full : {A R : Type 0} (r : Result A (Stop R)) (P : ℕ → Type 0) → IfErr r (λ s. s ≡ stop.OutOfMemory) → IfErr r (λ s. IfFull s P)
refused_full (Ok x) P is = tt
refused_full {R = R} (Err s) P is = subst (λ (x : Stop R). IfFull x P) (sym is) tt

pub refused_cold : {A R : Type 0} (r : Result A (Stop R)) (P : List Kept → Type 0) → IfErr r (λ s. s ≡ stop.OutOfMemory) → IfErr r (λ s. IfCold s P)
refused_cold (Ok x) P is = tt
refused_cold {R = R} (Err s) P is = subst (λ (x : Stop R). IfCold x P) (sym is) tt

-- there is room for no writes
pub no_room : (n : ℕ) (logs : ℕ → Option HybridLog) (ws : List Write) → ws ≡ [] → AreRoomy n logs ws
no_room n logs ws none = subst (AreRoomy n logs) (sym none) (λ i some. absurd (omega (arith, some)))
