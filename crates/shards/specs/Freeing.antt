-- What a call releases itself, before it is answered that a stripe is full.
use Rattle.std.specs.Prelude.{ℕ, ◌≡◌, ◌≢◌, ◌⊎◌, ◌+◌, ◌<◌, Bool, true, false, List, [], ◌∷◌, ◌++◌, length, Option, Some, None, zero, suc, if◌then◌else◌}
use Rattle.std.specs.List.{Contains}
use Rattle.epoch.specs.declared.view.View.{View}
use Rattle.epoch.specs.declared.view.Note.TheVariants.{Worn}
use Rattle.gates.specs.Background.{AreRaised, IsEachRefused, IsSpent}
use Rattle.gates.specs.Pages.{Place}
use Rattle.gates.specs.declared.view.Refused.{Refused}
use Rattle.shards.specs.Counted.{Counted, Waiting, places_of, places_waiting, waiting_of}
use Rattle.shards.specs.declared.freeing.Freed.{Freed}
use Rattle.shards.specs.declared.shard.Shard.{Shard}
use Rattle.shards.specs.Shards.{shard_counted, shard_pages}

-- The seat advanced past some epochs, and where `worn` it was told last that the epoch word is worn out; and nothing else.
pub record HasTriedAll (worn : Bool) (before later : View) : Type 0 where
  pub advanced : (more : List ℕ) × (later.advanced ≡ more ++ before.advanced)
  pub notes : later.notes ≡ (if worn then Worn ∷ before.notes else before.notes)

-- What waited for its release waits, or is further on: each place that is unlinked was; each that is retired was unlinked, or was retired with a
-- count that is not greater.
pub record HasWaited (old new : Waiting) : Type 0 where
  pub unlinked : (place : Place) → Contains (places_of new.unlinked) place → Contains (places_of old.unlinked) place
  pub retired : AreRaised 0 (places_of old.unlinked) old.refused new.refused

-- unlinked receipts were retired, and that was refused of one where `refused`
pub record HasRetiredAll (refused : Bool) (old new : Counted) : Type 0 where
  pub log : new.log ≡ old.log
  pub in_flight : new.in_flight ≡ old.in_flight
  pub drained : new.drained ≡ old.drained
  pub places : length new.unlinked + length new.retired ≡ length old.unlinked + length old.retired
  pub waited : HasWaited (waiting_of old) (waiting_of new)
  pub worn : new.worn ≡ (if refused then true else old.worn)

-- retired receipts were drained
pub record HasDrainedAll (old new : Counted) : Type 0 where
  pub log : new.log ≡ old.log
  pub in_flight : new.in_flight ≡ old.in_flight
  pub unlinked : new.unlinked ≡ old.unlinked
  pub worn : new.worn ≡ old.worn
  pub places : length new.retired + length new.drained ≡ length old.retired + length old.drained
  pub each : IsEachRefused [] old.refused new.refused

-- drained receipts, so many, went back to their device
pub record HasReleasedAll (old : Counted) (count : ℕ) (new : Counted) : Type 0 where
  pub log : new.log ≡ record old.log { unreleased = new.log.unreleased }
  pub fewer : new.log.unreleased + count ≡ old.log.unreleased
  pub in_flight : new.in_flight ≡ old.in_flight
  pub unlinked : new.unlinked ≡ old.unlinked
  pub retired : new.retired ≡ old.retired
  pub refused : new.refused ≡ old.refused
  pub worn : new.worn ≡ old.worn
  pub places : length new.drained + count ≡ length old.drained

-- Drained receipts went back to the device, and were counted off; where there was one, at least one did.
pub record ReleasesAll {D : Type 0} (releases : D → ℕ) (some : Bool) (before later : Counted × D) : Type 0 where
  pub count : ℕ
  pub released : HasReleasedAll before.0 count later.0
  pub any : some ≡ true → 0 < count
  pub none : some ≡ false → count ≡ 0
  pub given : releases later.1 ≡ releases before.1 + count

-- So many places were released, and counted off. None that waits can be released now, but for what the epochs refused: none is drained, each is
-- retired, or a retirement was refused; and a word that was read blocked the drain of each one that is retired.
pub record HasFreed (old : Counted) (freed : Freed) (new : Counted) : Type 0 where
  pub count : ℕ
  pub some : freed.released ≡ true → 0 < count
  pub none : freed.released ≡ false → count ≡ 0
  pub log : new.log ≡ record old.log { unreleased = new.log.unreleased }
  pub fewer : new.log.unreleased + count ≡ old.log.unreleased
  pub in_flight : new.in_flight ≡ old.in_flight
  pub places : places_waiting (waiting_of new) + count ≡ places_waiting (waiting_of old)
  pub drained : new.drained ≡ []
  pub unlinked : (new.unlinked ≡ []) ⊎ (freed.refused.retire ≡ true)
  pub worn : new.worn ≡ (if freed.refused.retire then true else old.worn)
  pub retired : (new.retired ≡ []) ⊎ (freed.refused.drain ≡ true)
  pub left : (place : Place) → Contains (places_of new.unlinked) place → Contains (places_of old.unlinked) place
  pub each : IsEachRefused (places_of old.unlinked) old.refused new.refused

module _ {R : Type 0} where
  -- places of one stripe were released, and no other part changed
  pub record FreesAt (stripe : ℕ) (freed : Freed) (before later : ℕ → Option (Shard R)) : Type 0 where
    pub old : Shard R
    pub new : Shard R
    pub was : before stripe ≡ Some old
    pub is : later stripe ≡ Some new
    pub others : (other : ℕ) → other ≢ stripe → later other ≡ before other
    pub how : HasFreed (shard_counted old) freed (shard_counted new)

  -- No place of this stripe can be released, but for what the epochs refused: that was tried since.
  pub record IsSpentAt (refused : Refused) (stripe : ℕ) (before later : ℕ → Option (Shard R)) : Type 0 where
    pub old : Shard R
    pub new : Shard R
    pub was : before stripe ≡ Some old
    pub is : later stripe ≡ Some new
    pub spent : IsSpent refused (shard_pages old) (shard_pages new)

-- how many places wait for their release, in so many stripes
abbrev pub waiting_at : Option Waiting → ℕ
waiting_at None = 0
waiting_at (Some waiting) = places_waiting waiting

abbrev pub all_waiting : ℕ → (ℕ → Option Waiting) → ℕ
all_waiting zero waits = 0
all_waiting (suc n) waits = all_waiting n waits + waiting_at (waits n)
