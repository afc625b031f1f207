-- The loop that looks for a place in the mutable part.
use Rattle.std.proofs.Common.{◌≡◌, ◌∙◌, ℕ, ◌/◌, ◌%◌, ◌<◌, ◌≤◌, inl, inr, List, Some, ap, sym, subst, arith}
use Rattle.std.proofs.lemmas.Bool.{cases_lt}
use Rattle.std.specs.Prelude.{⊤}
use Rattle.std.specs.List.{Contains}
use Rattle.records.specs.declared.pages.TheConstants.{PAGE_SIZE}
use Rattle.records.specs.Records.{Stored, records_of, IsLaidOut}
use Rattle.frames.specs.Resident.{page_of, first_mutable, IsResident}
use Rattle.hybrid.specs.Log.{begin_of, newest}
use Rattle.hybrid.specs.HybridLog.{HybridLog, IsHybridLog, bucket_of, log_of, page_at}
use Rattle.hybrid.specs.Lookups.{IsInPlace, IsRoomy, IsResidentAt}
use Rattle.hybrid.specs.declared.stripe.find.Spot.{Spot}
use Rattle.hybrid.proofs.Logs.{newest-listed, some_is}
use Rattle.hybrid.proofs.Walk.{IsWalk, IsHere, here-found, here-link, walk-here, walk-low, link-falls}
use Rattle.hybrid.proofs.Overwriting.{at-page}
use Rattle.hybrid.proofs.Replacing.{page-resident}

-- what stands in a resident page
pub record IsThere (p : HybridLog) (address : ℕ) (r : Stored) : Type 0 where
  pub resident : IsResident p.resident (address / PAGE_SIZE)
  pub laid : IsLaidOut (page_of p.resident (address / PAGE_SIZE))
  pub listed : Contains (records_of (page_of p.resident (address / PAGE_SIZE))) (address % PAGE_SIZE, r)

pub resident-there : (p : HybridLog) (address : ℕ) (r : Stored) → IsHybridLog p → IsResidentAt p address r → IsThere p address r
resident-there p address r is at =
    let f = at-page p (address, r) is at.listed in
    let low : p.resident.oldest ≤ address / PAGE_SIZE = omega (arith, at.resident) in
    let page : page_at p (address / PAGE_SIZE) ≡ page_of p.resident (address / PAGE_SIZE) = page-resident p (address / PAGE_SIZE) is low in
    record {
      resident = (low, f.high);
      laid = subst IsLaidOut page f.laid;
      listed = subst (λ (q : List ℕ). Contains (records_of q) (address % PAGE_SIZE, r)) page f.listed;
    }

-- the record that the walk has come to
pub record IsReached (p : HybridLog) (key : List ℕ) (address : ℕ) : Type 0 where
  pub found : IsHere (bucket_of p) (begin_of p.oldest) (log_of p) key (λ _. ⊤) address
  pub there : IsResidentAt p address found.stored
  pub falls : found.stored.link < address

pub reached : (p : HybridLog) (key : List ℕ) (address : ℕ) → IsHybridLog p → begin_of (first_mutable p.resident) ≤ address → IsWalk (bucket_of p) (begin_of p.oldest) (log_of p) key (λ _. ⊤) address → IsReached p key address
reached p key address is low walk =
    let begin : begin_of p.oldest ≤ address = omega (arith, low, is.live) in
    let h = walk-here (bucket_of p) (begin_of p.oldest) (log_of p) key (λ _. ⊤) address begin walk in
    record {
      found = h;
      there = record { listed = h.listed; resident = omega (arith, low) };
      falls = link-falls (bucket_of p) (begin_of p.oldest) (log_of p) key (λ _. ⊤) address begin h;
    }

-- the newest record, if any, is older than the mutable part
pub place-below : (p : HybridLog) (key : List ℕ) (size address : ℕ) → address < begin_of (first_mutable p.resident) → IsWalk (bucket_of p) (begin_of p.oldest) (log_of p) key (λ _. ⊤) address → (other : ℕ) → IsInPlace p key size other → ⊥
place-below p key size address low walk other there =
    let e = walk-low (bucket_of p) (begin_of p.oldest) (log_of p) key (λ _. ⊤) address (other, there.stored) walk there.newest in
    omega (arith, e.1, low, there.mutable)

pub roomy : (p : HybridLog) (key : List ℕ) (size address : ℕ) → IsInPlace p key size address → IsRoomy p address size
roomy p key size address there = record { stored = there.stored; listed = newest-listed (log_of p) key (address, there.stored) there.newest; mutable = there.mutable; fits = there.fits }

-- A walk over any device: in the mutable part it has read what was written, and below it no place is left.
pub record IsPlacing (p : HybridLog) (key : List ℕ) (address : ℕ) : Type 0 where
  pub walk : begin_of (first_mutable p.resident) ≤ address → IsWalk (bucket_of p) (begin_of p.oldest) (log_of p) key (λ _. ⊤) address
  pub none : address < begin_of (first_mutable p.resident) → (size other : ℕ) → IsInPlace p key size other → ⊥

pub placing-from : (p : HybridLog) (key : List ℕ) (address : ℕ) → IsWalk (bucket_of p) (begin_of p.oldest) (log_of p) key (λ _. ⊤) address → IsPlacing p key address
placing-from p key address walk = record { walk = λ _. walk; none = λ low size other there. place-below p key size address low walk other there }

module _ (p : HybridLog) (key : List ℕ) (address : ℕ) (is : IsHybridLog p) (placing : IsPlacing p key address) where
  -- where the walk reads nothing, it is below the mutable part
  pub placing-none : (IsReached p key address → ⊥) → (size other : ℕ) → IsInPlace p key size other → ⊥
  placing-none never = elim (cases_lt address (begin_of (first_mutable p.resident))) [
    | inl below ↦ placing.none below
    | inr low ↦ absurd (never (reached p key address is low (placing.walk low)))
  ]

  -- it goes on at the link of a record of another key
  pub placing-link : (read : Stored) → ((r : Stored) → IsResidentAt p address r → read ≡ r) → (read.key ≡ key → ⊥) → read.link < address → IsPlacing p key read.link
  placing-link read is_read other falls = elim (cases_lt address (begin_of (first_mutable p.resident))) [
    | inl below ↦ record { walk = λ low. absurd (omega (arith, below, low, falls)); none = λ _. placing.none below }
    | inr low ↦
        let r = reached p key address is low (placing.walk low) in
        let same : read ≡ r.found.stored = is_read r.found.stored r.there in
        let linked = here-link (bucket_of p) (begin_of p.oldest) (log_of p) key (λ _. ⊤) address r.found (λ keyed. other (ap (λ (x : Stored). x.key) same ∙ keyed)) tt in
        placing-from p key read.link
        (subst (λ (a : ℕ). IsWalk (bucket_of p) (begin_of p.oldest) (log_of p) key (λ _. ⊤) a) (sym (ap (λ (x : Stored). x.link) same)) linked)
  ]

  -- and ends at one of this key
  pub placing-found : (read : Stored) → ((r : Stored) → IsResidentAt p address r → read ≡ r) → read.key ≡ key → begin_of (first_mutable p.resident) ≤ address → newest (log_of p) key ≡ Some (address, read)
  placing-found read is_read keyed low =
      let r = reached p key address is low (placing.walk low) in
      let same : read ≡ r.found.stored = is_read r.found.stored r.there in
      here-found (bucket_of p) (begin_of p.oldest) (log_of p) key (λ _. ⊤) address r.found (ap (λ (x : Stored). x.key) (sym same) ∙ keyed) ∙ ap (λ (x : Stored). Some (address, x)) (sym same)

  pub placing-here : (read : Stored) → ((r : Stored) → IsResidentAt p address r → read ≡ r) → read.key ≡ key → (size other : ℕ) → IsInPlace p key size other → address ≡ other
  placing-here read is_read keyed size other there = elim (cases_lt address (begin_of (first_mutable p.resident))) [
    | inl below ↦ absurd (placing.none below size other there)
    | inr low ↦ ap (λ (e : ℕ × Stored). e.0) (some_is (address, read) (other, there.stored) (sym (placing-found read is_read keyed low) ∙ there.newest))
  ]

-- the spot of the newest record of the key
pub spot-in-place : (p : HybridLog) (key : List ℕ) (address : ℕ) (r : Stored) (spot : Spot) → spot ≡ record { address = address; capacity = r.capacity } → begin_of (first_mutable p.resident) ≤ address
    → newest (log_of p) key ≡ Some (address, r) → IsInPlace p key spot.capacity spot.address
spot-in-place p key address r spot same low is =
    subst (λ (s : Spot). IsInPlace p key s.capacity s.address) (sym same) (record { stored = r; newest = is; mutable = low; fits = omega arith })
