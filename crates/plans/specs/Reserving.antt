-- What making room for writes leaves, at one stripe and at all that are written.
use Rattle.std.specs.Prelude.{ℕ, ◌≡◌, ◌≢◌, ◌+◌, ◌-◌, ◌<◌, ◌≤◌, ◌∷◌, [], true, List, Option, Result, IfErr, OnErr, OnOk, slice_index}
use Rattle.epoch.specs.declared.view.View.{View}
use Rattle.words.specs.History.{History}
use Rattle.words.specs.declared.history.Operation.{Operation}
use Rattle.words.specs.declared.limits.TheConstants.{WEIGHT_MAX}
use Rattle.words.specs.Store.{Write, weight}
use Rattle.words.specs.Stripes.{stripe_of}
use Rattle.gates.specs.Rule.{Meaning}
use Rattle.gates.specs.declared.view.Refused.{Refused}
use Rattle.hybrid.specs.HybridLog.{Kept}
use Rattle.hybrid.specs.Reserving.{MatchFault}
use Rattle.hybrid.specs.Staging.{AreRight, StagedPage}
use Rattle.hybrid.specs.declared.stripe.room.Fault.{Fault}
use Rattle.hybrid.specs.declared.stripe.room.Purpose.{Purpose}
use Rattle.transact.specs.Plans.{made}
use Rattle.transact.specs.Tables.{Became, stays}
use Rattle.shards.specs.declared.shard.Shard.{Shard}
use Rattle.shards.specs.Freeing.{IsSpentAt}
use Rattle.shards.specs.Heard.{HasHeard, HasHeardWorn}
use Rattle.shards.specs.Rooms.{AreRoomy, GrowsAt, IsFullAt, IsRoomyAt, LacksRoomAt, LeaveFrames, LeavesFramesAt, MakesRoom, ShedFew, ShedsAt, ShedsFewAt, purpose_of, share}
use Rattle.shards.specs.Shards.{logs_of, shard_meaning, weigh}
use Rattle.plans.specs.declared.reading.WhenCold.{WhenCold}
use Rattle.plans.specs.declared.reading.WhenCold.TheVariants.{Stops}
use Rattle.plans.specs.declared.stop.Stop.{Stop}
use Rattle.plans.specs.Lacking.{FoundLacking, LacksShareAt}
use Rattle.plans.specs.Planning.{FoundFull, MatchStop, Question, StillStands}

module _ {R : Type 0} where
  -- there is room for a write at the stripe of its key, of so many
  abbrev pub IsRoomyFor : (n : ℕ) → (ℕ → Option (Shard R)) → Write → Type 0
  IsRoomyFor n parts write = IsRoomyAt (logs_of parts) (stripe_of n write.0) (weigh write)

  -- a write takes no more of the room at the stripe of its key than it weighs
  abbrev pub LeavesRoom : (n : ℕ) → Write → (before later : ℕ → Option (Shard R)) → Type 0
  LeavesRoom n write before later =
      (weight : ℕ) → weigh write ≤ weight → IsRoomyAt (logs_of before) (stripe_of n write.0) weight
      → IsRoomyAt (logs_of later) (stripe_of n write.0) (weight - weigh write)

  -- the log of the stripe of its key has grown by a write, and no other log changed
  abbrev pub GrowsBy : (n : ℕ) → Write → (before later : ℕ → Option (Shard R)) → Type 0
  GrowsBy n write before later = GrowsAt (stripe_of n write.0) (weigh write) (logs_of before) (logs_of later)

  -- There is room at a stripe, and the frames stay that are left for others.
  pub record HasRoomAt (stripe weight : ℕ) (purpose : Purpose) (before later : ℕ → Option (Shard R)) : Type 0 where
    pub room : IsRoomyAt (logs_of later) stripe weight
    pub left : LeavesFramesAt stripe weight purpose (logs_of before) (logs_of later)

  -- No room was made at a stripe, which lacked it: a call of the device failed, or the stripe is full.
  pub record HasNoRoomAt (stripe weight : ℕ) (purpose : Purpose) (before later : ℕ → Option (Shard R)) (stop : Stop R) : Type 0 where
    pub lacks : LacksRoomAt stripe weight purpose (logs_of before) (logs_of later)
    pub why : MatchStop stop (λ receipts. ⊥) ⊥ (0 < weight) (λ full. (full ≡ stripe) × (0 < weight) × IsFullAt (logs_of later) full)

  -- Where no room was made at a stripe, it lacked it: a call of the device failed, which is counted, or the stripe is full.
  pub record FailsToReserveAt {A : Type 0} (result : Result A Fault) (stripe weight : ℕ) (purpose : Purpose) (before later : ℕ → Option (Shard R)) (failed_before failed : ℕ) : Type 0 where
    pub fault : IfErr result (λ fault. MatchFault fault (failed ≡ failed_before + 1) (IsFullAt (logs_of later) stripe × (failed ≡ failed_before)))
    pub lacks : OnErr result (LacksRoomAt stripe weight purpose (logs_of before) (logs_of later))
    pub no_fault : OnOk result (failed ≡ failed_before)

  -- there is room for a write at the stripe of its key
  abbrev pub HasRoomToPut : (n : ℕ) → Write → (before later : ℕ → Option (Shard R)) → Type 0
  HasRoomToPut n write before later = HasRoomAt (stripe_of n write.0) (weigh write) (purpose_of (write ∷ [])) before later

  -- no room was made for it
  abbrev pub HasNoRoomToPut : (n : ℕ) → Write → (before later : ℕ → Option (Shard R)) → Stop R → Type 0
  HasNoRoomToPut n write before later stop = HasNoRoomAt (stripe_of n write.0) (weigh write) (purpose_of (write ∷ [])) before later stop

  -- the frames stay that are left for others, where there is room for a write
  abbrev pub LeavesFramesToPut : (n : ℕ) → Write → (before later : ℕ → Option (Shard R)) → Type 0
  LeavesFramesToPut n write before later =
      LeavesFramesAt (stripe_of n write.0) (weigh write) (purpose_of (write ∷ [])) (logs_of before) (logs_of later)

  -- there may be no room for it
  abbrev pub LacksRoomToPut : (n : ℕ) → Write → (before later : ℕ → Option (Shard R)) → Type 0
  LacksRoomToPut n write before later = LacksRoomAt (stripe_of n write.0) (weigh write) (purpose_of (write ∷ [])) (logs_of before) (logs_of later)

  -- No room was made for writes, for which a stripe lacked it: a call of the device failed there, or that stripe is full.
  abbrev pub LacksRoomToSet : (n : ℕ) → List Write → (before later : ℕ → Option (Shard R)) → Stop R → Type 0
  LacksRoomToSet n writes before later stop =
      MatchStop stop (λ receipts. ⊥) ⊥ (FoundLacking (λ due. due ≡ writes) n (logs_of before) (logs_of later))
      (LacksShareAt (λ due. due ≡ writes) n (logs_of before) (logs_of later))

  -- No plan was made: a stripe is full that lacked room for what is written, or a call of the device failed, which was at such a stripe where no
  -- page was read.
  abbrev pub LacksRoomToPlan : WhenCold → (Made : List Write → Type 0) (n : ℕ) (before later : ℕ → Option (Shard R)) → Stop R → Type 0
  LacksRoomToPlan cold Made n before later stop =
      MatchStop stop (λ receipts. Unit {0}) (Unit {0}) (cold ≡ Stops → FoundLacking Made n (logs_of before) (logs_of later))
      (LacksShareAt Made n (logs_of before) (logs_of later))

  -- A stripe is full, and none of its places can be released, but for what the epochs refused. Parts and what the pass was told by the epochs are
  -- taken together, as they were and as they are.
  pub record IsStuck (refused : Refused) (before later : (ℕ → Option (Shard R)) × View) (stripe : ℕ) : Type 0 where
    pub full : IsFullAt (logs_of later.0) stripe
    pub spent : IsSpentAt refused stripe before.0 later.0
    pub worn : refused.retire ≡ true → HasHeardWorn before.1 later.1

  -- The same of a stripe that a call writes, whatever history it is asked on.
  pub record IsStuckFor (Right : Type 0) (question : Question) (n : ℕ) (refused : Refused) (before later : (ℕ → Option (Shard R)) × View) (stripe : ℕ) : Type 0 where
    pub stuck : IsStuck refused before later stripe
    pub written : Right → (seen : History) (operation : Operation) → question.Asks seen operation → 0 < share n stripe (made seen operation)

  -- Parts and their device are taken together, as they were and as they are.
  module _ {D : Type 0} where
    -- What making room at a stripe leaves in any case: what keys have and all marks stay, and so do the logs of other stripes; pages leave their
    -- frames only where the stripe lacks room; the device serves what it served, parts have beside their logs what they had, and no log has less
    -- room.
    pub record HasReserved (contents : Meaning (Shard R)) (Serves : D → D → Type 0) (n stripe weight : ℕ) (purpose : Purpose) (before later : (ℕ → Option (Shard R)) × D) : Type 0 where
      pub became : Became contents n [] stays before.0 later.0
      pub others : (other : ℕ) → other ≢ stripe → logs_of later.0 other ≡ logs_of before.0 other
      pub few : ShedsFewAt stripe weight purpose (logs_of before.0) (logs_of later.0)
      pub stands : StillStands Serves before later

    -- The same of parts that are held, in words of what lends them.
    module _ {P : Type 0} (steady : Type 0) (stripes_of : P → ℕ) (part_of : P → ℕ → Option (Shard R)) (Serves : D → D → Type 0) where
      -- what making room at a stripe leaves
      abbrev pub ReservesAt : (stripe weight : ℕ) → Purpose → (before later : P × D) → Type 0
      ReservesAt stripe weight purpose before later =
          HasReserved (shard_meaning steady) Serves (stripes_of before.0) stripe weight purpose
          (part_of before.0, before.1) (part_of later.0, later.1)

      -- the same of the stripe of the key of a write
      abbrev pub ReservesToPut : Write → (before later : P × D) → Type 0
      ReservesToPut write before later =
          ReservesAt (stripe_of (stripes_of before.0) write.0) (weigh write) (purpose_of (write ∷ [])) before later

    -- `wrote` is the device's, and `kept` shows a receipt.
    module _ (wrote : D → List ℕ → R → D → Type 0) (kept : R → Kept) where
      -- pages of a stripe left their frames, each once it was written
      abbrev pub HasShedAt : (stripe : ℕ) (before later : (ℕ → Option (Shard R)) × D) → Type 0
      HasShedAt stripe before later = ShedsAt wrote kept stripe (logs_of before.0) before.1 (logs_of later.0) later.1

      -- The same of a stripe's share of writes, where no call of the device failed; for no share nothing has changed at all.
      pub record HasShedShare (quiet : Type 0) (stripe share : ℕ) (before later : (ℕ → Option (Shard R)) × D) : Type 0 where
        pub needless : share ≡ 0 → (later.0 ≡ before.0) × (later.1 ≡ before.1)
        pub shed : 0 < share → quiet → HasShedAt stripe before later

      -- There is room for writes in each stripe that they write, for which no more pages left their frames than that wants, and the frames stay that are
      -- left for others.
      pub record HasRoom (n : ℕ) (writes : List Write) (before later : (ℕ → Option (Shard R)) × D) : Type 0 where
        pub room : AreRoomy n (logs_of later.0) writes
        pub made : MakesRoom wrote kept n n writes (logs_of before.0) before.1 (logs_of later.0) later.1
        pub left : LeaveFrames n writes (logs_of before.0) (logs_of later.0)

      -- Room was not made for writes: a call of the device failed at a stripe that lacked it, or a stripe is full that lacked it.
      abbrev pub StopsMaking : (n : ℕ) → List Write → (before later : (ℕ → Option (Shard R)) × D) → Stop R → Type 0
      StopsMaking n writes before later stop =
          MatchStop stop (λ receipts. ⊥) ⊥ (FoundLacking (λ due. due ≡ writes) n (logs_of before.0) (logs_of later.0))
          (FoundFull wrote kept (λ due. due ≡ writes) n before later)

      -- What making room for writes leaves: there is room, or a stripe was met that lacked it; and no more pages left their frames than that wants.
      pub record ReservesAll {A : Type 0} (n : ℕ) (writes : List Write) (result : Result A (Stop R)) (before later : (ℕ → Option (Shard R)) × D) : Type 0 where
        pub room : OnOk result (HasRoom n writes before later)
        pub stopped : IfErr result (StopsMaking n writes before later)
        pub few : ShedFew n writes (logs_of before.0) (logs_of later.0)

-- What writes weigh at each stripe, and for what room is made for them.
pub record AreSharesOf (n : ℕ) (writes : List Write) (shares : List ℕ) (purpose : Purpose) : Type 0 where
  pub light : weight writes ≤ WEIGHT_MAX
  pub are : (i : ℕ) → i < 64 → slice_index shares i ≡ share n i writes
  pub for_what : purpose ≡ purpose_of writes

-- Who retires is one of these epochs still, and was told what it was told before.
pub record StillRetires (Is : Type 0) (before now : View) : Type 0 where
  pub is : Is
  pub heard : HasHeard before now

-- The same, and what is staged is right, where it was and the device is steady.
pub record StillWorks (steady Is : Type 0) (before now : View × List StagedPage) : Type 0 where
  pub retires : StillRetires Is before.0 now.0
  pub right : steady → AreRight before.1 → AreRight now.1
