-- Writes that wait for nothing: each goes over what is there, or into a tail page that has room. Where each goes, and what came of a call that writes so.
use Rattle.std.specs.Prelude.{ℕ, ◌≡◌, ◌+◌, ◌-◌, ◌≤◌, List, [], ◌∷◌, length, IfNone, IfSome, Option, Some}
use Rattle.records.specs.Records.{value_bytes}
use Rattle.records.specs.declared.pages.TheConstants.{HEADER_SIZE, PAGE_SIZE}
use Rattle.words.specs.declared.reply.Reply.{Reply}
use Rattle.words.specs.Store.{Bytes, Write, weight}
use Rattle.words.specs.Stripes.{hash_of, stripe_of}
use Rattle.hybrid.specs.HybridLog.{HybridLog, expected, tail_bytes}
use Rattle.hybrid.specs.Lookups.{IsInPlace}
use Rattle.hybrid.specs.Reserving.{spare}
use Rattle.hybrid.specs.Writing.{AreFit}
use Rattle.hybrid.specs.declared.stripe.find.Spot.{Spot}
use Rattle.hybrid.specs.declared.stripe.room.Purpose.TheVariants as purpose
use Rattle.transact.specs.Tables.{AreThere, keys_written}
use Rattle.shards.specs.declared.shard.Shard.{Shard}
use Rattle.shards.specs.Shards.{logs_of}
use Rattle.plans.specs.declared.placing.Placed.{Placed}
use Rattle.plans.specs.declared.placing.Placing.{Placing}
use Rattle.plans.specs.declared.placing.Target.{Target}
use Rattle.plans.specs.declared.running.Looked.{Looked}
use Rattle.plans.specs.Settling.{IsSpot}

-- The newest record of the key stands there, in the log of its stripe, and has the room that is told.
abbrev pub IsPlace : (n : ℕ) (logs : ℕ → Option HybridLog) (key : Bytes) → Spot → Type 0
IsPlace n logs key spot = (log : HybridLog) → logs (stripe_of n key) ≡ Some log → IsInPlace log key spot.capacity spot.address

-- A key was looked up: its stripe and its hash are these, and where a spot is told, its newest record stands there.
pub record WasLookedUp (n : ℕ) (logs : ℕ → Option HybridLog) (looked : Looked) : Type 0 where
  pub stripe : looked.stripe ≡ stripe_of n looked.key.now
  pub hash : looked.hash ≡ hash_of looked.key.now
  pub place : IfSome looked.spot (IsPlace n logs looked.key.now)

-- each of these was
abbrev pub WereLookedUp : (n : ℕ) (logs : ℕ → Option HybridLog) → List Looked → Type 0
WereLookedUp n logs [] = Unit {0}
WereLookedUp n logs (looked ∷ others) = WasLookedUp n logs looked × WereLookedUp n logs others

-- A write goes there: the stripe and the hash of its key are these. Where a spot is told, the newest record of the key stands there, and has room for
-- what is written.
pub record GoesThere (n : ℕ) (logs : ℕ → Option HybridLog) (write : Write) (target : Target) : Type 0 where
  pub stripe : target.stripe ≡ stripe_of n write.0
  pub hash : target.hash ≡ hash_of write.0
  pub spot : IfSome target.spot (IsSpot n logs write.0 (value_bytes write.1))

-- the first of these writes go there, each so
abbrev pub GoThere : (n : ℕ) (logs : ℕ → Option HybridLog) → List Write → List Target → Type 0
GoThere n logs [] [] = Unit {0}
GoThere n logs [] (target ∷ targets) = ⊥
GoThere n logs (write ∷ writes) [] = Unit {0}
GoThere n logs (write ∷ writes) (target ∷ targets) = GoesThere n logs write target × GoThere n logs writes targets

-- all of them do
pub record HaveTargets (n : ℕ) (logs : ℕ → Option HybridLog) (writes : List Write) (targets : List Target) : Type 0 where
  pub first : GoThere n logs writes targets
  pub all : length writes ≤ length targets

-- what weighs so much goes into the tail page of the stripe
abbrev pub HasTail : (logs : ℕ → Option HybridLog) (stripe weight : ℕ) → Type 0
HasTail logs stripe weight = (log : HybridLog) → logs stripe ≡ Some log → tail_bytes log + weight ≤ PAGE_SIZE - HEADER_SIZE

-- so it is at the stripe of each of these writes that goes to the tail
abbrev pub HaveTails : (n : ℕ) (logs : ℕ → Option HybridLog) (weight : ℕ) → List Write → List Target → Type 0
HaveTails n logs weight [] targets = Unit {0}
HaveTails n logs weight (write ∷ writes) [] = Unit {0}
HaveTails n logs weight (write ∷ writes) (target ∷ targets) =
    IfNone target.spot (HasTail logs (stripe_of n write.0) weight) × HaveTails n logs weight writes targets

-- as many frames are expected at the stripe as a call keeps back that gives a value which fits into the tail page
abbrev pub HasSpare : (logs : ℕ → Option HybridLog) (stripe : ℕ) → Type 0
HasSpare logs stripe = (log : HybridLog) → logs stripe ≡ Some log → spare purpose.Write ≤ expected log

-- so it is at the stripe of each of these writes that goes to the tail
abbrev pub LeaveSpare : (n : ℕ) (logs : ℕ → Option HybridLog) → List Write → List Target → Type 0
LeaveSpare n logs [] targets = Unit {0}
LeaveSpare n logs (write ∷ writes) [] = Unit {0}
LeaveSpare n logs (write ∷ writes) (target ∷ targets) = IfNone target.spot (HasSpare logs (stripe_of n write.0)) × LeaveSpare n logs writes targets

-- All of these writes go there, and what they weigh together has room in the tail page wherever one goes to the tail.
pub record AllGoThere (n : ℕ) (logs : ℕ → Option HybridLog) (writes : List Write) (targets : List Target) : Type 0 where
  pub goes : HaveTargets n logs writes targets
  pub tails : HaveTails n logs (weight writes) writes targets

-- what is written, by what is placed
abbrev pub writes_of : Placing → List Write
writes_of placing = placing.writes

-- where it goes
abbrev pub targets_of : Placing → List Target
targets_of placing = placing.targets.items

module _ {R : Type 0} where
  -- What a call comes to whose writes wait for nothing: what it answers and writes is due, what it writes fits, there is a part for each key that it
  -- writes, and the frames are left that a call keeps back.
  pub record IsPlacedFor (Due : Reply → List Write → Type 0) (n : ℕ) (parts : ℕ → Option (Shard R)) (placed : Placed) : Type 0 where
    pub due : Due placed.reply (writes_of placed.placing)
    pub fits : AreFit (writes_of placed.placing)
    pub there : AreThere n parts (keys_written (writes_of placed.placing))
    pub targets : AllGoThere n (logs_of parts) (writes_of placed.placing) (targets_of placed.placing)
    pub left : LeaveSpare n (logs_of parts) (writes_of placed.placing) (targets_of placed.placing)

  -- The same of parts that are held, in words of what lends them.
  module _ {P : Type 0} (stripes_of : P → ℕ) (part_of : P → ℕ → Option (Shard R)) (parts : P) where
    -- a place in a log
    abbrev pub IsPlaceIn : (key : Bytes) → Spot → Type 0
    IsPlaceIn key spot = IsPlace (stripes_of parts) (logs_of (part_of parts)) key spot

    -- a key that was looked up
    abbrev pub WasLookedUpIn : Looked → Type 0
    WasLookedUpIn looked = WasLookedUp (stripes_of parts) (logs_of (part_of parts)) looked

    -- some that were
    abbrev pub WereLookedUpIn : List Looked → Type 0
    WereLookedUpIn looked = WereLookedUp (stripes_of parts) (logs_of (part_of parts)) looked

    -- where a write goes
    abbrev pub GoesThereIn : Write → Target → Type 0
    GoesThereIn write target = GoesThere (stripes_of parts) (logs_of (part_of parts)) write target

    -- where some go
    abbrev pub GoThereIn : List Write → List Target → Type 0
    GoThereIn writes targets = GoThere (stripes_of parts) (logs_of (part_of parts)) writes targets

    -- where all go
    abbrev pub HaveTargetsIn : List Write → List Target → Type 0
    HaveTargetsIn writes targets = HaveTargets (stripes_of parts) (logs_of (part_of parts)) writes targets

    -- those that go to the tail
    abbrev pub HaveTailsIn : (weight : ℕ) → List Write → List Target → Type 0
    HaveTailsIn weight writes targets = HaveTails (stripes_of parts) (logs_of (part_of parts)) weight writes targets

    -- what they leave
    abbrev pub LeaveSpareIn : List Write → List Target → Type 0
    LeaveSpareIn writes targets = LeaveSpare (stripes_of parts) (logs_of (part_of parts)) writes targets

    -- and that they may
    abbrev pub AllGoThereIn : List Write → List Target → Type 0
    AllGoThereIn writes targets = AllGoThere (stripes_of parts) (logs_of (part_of parts)) writes targets

    -- what a call comes to
    abbrev pub IsPlacedIn : (Due : Reply → List Write → Type 0) → Placed → Type 0
    IsPlacedIn Due placed = IsPlacedFor Due (stripes_of parts) (part_of parts) placed
