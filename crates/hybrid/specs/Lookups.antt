-- What a lookup of a key gives (FASTER, "The FASTER hash index": a walk down the records of the key's bucket).
use Rattle.std.specs.Prelude.{◌≡◌, ℕ, ◌/◌, ◌%◌, ◌≤◌, List, Option, Some, None}
use Rattle.std.specs.List.{Contains}
use Rattle.records.specs.declared.pages.TheConstants.{PAGE_SIZE}
use Rattle.records.specs.Records.{IsLaidOut, Stored, records_of}
use Rattle.frames.specs.Resident.{first_mutable}
use Rattle.hybrid.specs.declared.stripe.find.Lookup.{Lookup}
use Rattle.hybrid.specs.declared.stripe.find.Lookup.TheVariants as answer
use Rattle.hybrid.specs.Log.{newest, chain, begin_of, contents}
use Rattle.hybrid.specs.HybridLog.{HybridLog, log_of, bucket_of, page_at}

abbrev pub MatchLookup : Lookup → (List ℕ → Type 0) → Type 0 → (ℕ → Type 0) → Type 0
MatchLookup (answer.Found value) P Q S = P value.now
MatchLookup answer.Absent P Q S = Q
MatchLookup (answer.Cold number offset) P Q S = S number

-- the lookup of the key comes to a record in the page of this number
pub record Leads (p : HybridLog) (key : List ℕ) (number : ℕ) : Type 0 where
  pub entry : ℕ × Stored
  pub listed : Contains (chain (bucket_of p) (log_of p) key) entry
  pub there : entry.0 / PAGE_SIZE ≡ number

-- what a lookup says of a key, where it may be cold
abbrev pub Finds : Lookup → HybridLog → (key : List ℕ) → Type 0
Finds lookup p key = MatchLookup lookup (λ value. contents (log_of p) key ≡ Some value) (contents (log_of p) key ≡ None) (λ number. Leads p key number)

-- and where it is not: a key has this
abbrev pub Tells : Lookup → Option (List ℕ) → Type 0
Tells lookup has = MatchLookup lookup (λ value. has ≡ Some value) (has ≡ None) (λ number. ⊥)

-- the newest record of the key stands at this address in the mutable part, and has room for a value of this length
pub record IsInPlace (p : HybridLog) (key : List ℕ) (size address : ℕ) : Type 0 where
  pub stored : Stored
  pub newest : newest (log_of p) key ≡ Some (address, stored)
  pub mutable : begin_of (first_mutable p.resident) ≤ address
  pub fits : size ≤ stored.capacity

-- this record is the newest of the key, if its address is in the mutable part
abbrev pub IsNewestIfMutable : (p : HybridLog) (key : List ℕ) (address : ℕ) → Stored → Type 0
IsNewestIfMutable p key address r = begin_of (first_mutable p.resident) ≤ address → newest (log_of p) key ≡ Some (address, r)

-- a record stands at this address in the mutable part, and has room for a value of this length
pub record IsRoomy (p : HybridLog) (address size : ℕ) : Type 0 where
  pub stored : Stored
  pub listed : Contains (log_of p) (address, stored)
  pub mutable : begin_of (first_mutable p.resident) ≤ address
  pub fits : size ≤ stored.capacity

-- the record stands at this address, in a resident page
pub record IsResidentAt (p : HybridLog) (address : ℕ) (r : Stored) : Type 0 where
  pub listed : Contains (log_of p) (address, r)
  pub resident : begin_of p.resident.oldest ≤ address

-- the page of this address is laid out, and has this record there
pub record IsLaidAt (p : HybridLog) (address : ℕ) (r : Stored) : Type 0 where
  pub laid : IsLaidOut (page_at p (address / PAGE_SIZE))
  pub listed : Contains (records_of (page_at p (address / PAGE_SIZE))) (address % PAGE_SIZE, r)
