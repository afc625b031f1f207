-- The way of a lookup: the records that it goes over, and which of them want no read.
use Rattle.std.specs.Prelude.{◌≡◌, ◌⊎◌, ℕ, ◌/◌, ◌%◌, List, ◌∷◌, ◌++◌, Some}
use Rattle.std.specs.List.{All}
use Rattle.records.specs.Records.{Stored, size_of}
use Rattle.records.specs.declared.pages.TheConstants.{PAGE_SIZE}
use Rattle.frames.specs.Resident.{IsResident}
use Rattle.hybrid.specs.Log.{Log, chain}
use Rattle.hybrid.specs.HybridLog.{HybridLog, Kept, bucket_of, log_of, receipt_of}
use Rattle.hybrid.specs.Lookups.{MatchLookup}
use Rattle.hybrid.specs.declared.stripe.find.Lookup.{Lookup}
use Rattle.hybrid.specs.Staging.{StagedPage, IsStaged, AreBytesRead}

-- the records that a lookup of the key goes over
abbrev pub way_of : HybridLog → List ℕ → Log
way_of p key = chain (bucket_of p) (log_of p) key

-- the receipts lend their pages, or a page was read whole by one of this identity
abbrev pub IsAtHand : Type 0 → List StagedPage → List ℕ → Type 0
IsAtHand lends staged identity = lends ⊎ IsStaged staged identity

-- the receipts lend their pages, or these bytes were read by one of this identity
abbrev pub AreInReach : Type 0 → List StagedPage → List ℕ → (from size : ℕ) → Type 0
AreInReach lends staged identity from size = lends ⊎ AreBytesRead staged identity from size

-- a record of the log is near: its page is resident, or its bytes are lent by the receipt of the page, or staged
abbrev pub IsNear : Type 0 → HybridLog → List StagedPage → ℕ × Stored → Type 0
IsNear lends p staged entry =
    IsResident p.resident (entry.0 / PAGE_SIZE)
    ⊎ ((k : Kept) × (receipt_of p (entry.0 / PAGE_SIZE) ≡ Some k) × AreInReach lends staged k.identity (entry.0 % PAGE_SIZE) (size_of entry.1))

-- each of these records is near
abbrev pub AreNear : Type 0 → HybridLog → List StagedPage → Log → Type 0
AreNear lends p staged records = All (IsNear lends p staged) records

-- the first record on the way of the key that is not near stands in the page of this number
pub record IsFirstFar (lends : Type 0) (p : HybridLog) (staged : List StagedPage) (key : List ℕ) (number : ℕ) : Type 0 where
  pub passed : Log
  pub entry : ℕ × Stored
  pub more : Log
  pub way : way_of p key ≡ passed ++ entry ∷ more
  pub near : AreNear lends p staged passed
  pub there : entry.0 / PAGE_SIZE ≡ number
  pub far : IsNear lends p staged entry → ⊥

-- a lookup that is not cold has gone over near records alone, and one that is cold has come to the first that is not near
abbrev pub GoesNear : Lookup → (lends : Type 0) → HybridLog → List StagedPage → (key : List ℕ) → Type 0
GoesNear lookup lends p staged key =
    MatchLookup lookup (λ value. AreNear lends p staged (way_of p key)) (AreNear lends p staged (way_of p key)) (λ number. IsFirstFar lends p staged key number)
