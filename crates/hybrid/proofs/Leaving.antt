-- The oldest resident page is written and leaves its frame, whose memory may then hold any bytes.
use Rattle.std.proofs.Common.{◌≡◌, ℕ, ◌+◌, ◌-◌, ◌/◌, ◌<◌, ◌≤◌, max, List, map, set, Some, sym, ap, ◌∙◌, subst, arith, length-set}
use Rattle.std.specs.Prelude.{Bool, IsTrue, IsSome, Option, option_map}
use Rattle.std.specs.Bool.{OnTrue}
use Rattle.frames.specs.Resident.{Resident, first_mutable, page_of, with_page, without_oldest}
use Rattle.hybrid.specs.HybridLog.{HybridLog, Kept, IsHybridLog, count_kept, log_of, receipt_of, with_dropped}
use Rattle.hybrid.proofs.Dropping.{dropped, on-true}
use Rattle.hybrid.proofs.Keeping.{keeps-from}

-- what was written to a frame does not move the mutable part
pub first_mutable-written : (r : Resident) (number : ℕ) (bytes : List ℕ) → first_mutable (with_page r number bytes) ≡ first_mutable r
first_mutable-written r number bytes = ap (λ (n : ℕ). max r.oldest (r.oldest + n - r.frames / 3)) (length-set r.pages (number - r.oldest) bytes)

-- the log after the receipt is kept, and after the page has left its frame
pub record IsLeft (v mid new : HybridLog) : Type 0 where
  pub part : IsHybridLog new
  pub kept : log_of mid ≡ log_of v
  pub dropped : new ≡ with_dropped mid
  pub log : log_of new ≡ log_of mid

-- other memory in the frame of a page that was not written
pub unwritten : (v : HybridLog) (frames : Resident) → frames ≡ v.resident → IsHybridLog v → IsHybridLog (record v { resident = frames })
unwritten v frames same is = subst (λ (r : Resident). IsHybridLog (record v { resident = r })) (sym same) is

pub left-from : {X : Type 0} (f : X → Kept) (items : List (Option X)) (v now : HybridLog) (frames : Resident) (b : Bool) (number u : ℕ) (x : X) (bytes : List ℕ) → v ≡ now → IsHybridLog v → v.kept ≡ map (option_map f) items → number ≡ v.resident.oldest
    → now.resident.oldest < first_mutable now.resident → (f x).shown ≡ page_of v.resident v.resident.oldest → count_kept v.kept + 1 ≤ u → u ≤ v.places
    → (v.resident.oldest < first_mutable (with_page v.resident v.resident.oldest bytes) → IsTrue b)
    → OnTrue b (frames ≡ without_oldest (with_page v.resident v.resident.oldest bytes)) → without_oldest (with_page v.resident v.resident.oldest bytes) ≡ without_oldest v.resident
    → IsLeft v (record v { kept = map (option_map f) (set items (number - v.oldest) (Some x)); unreleased = u })
    (record v { kept = map (option_map f) (set items (number - v.oldest) (Some x)); unreleased = u; resident = frames })
left-from f items v now frames b number u x bytes same is e at low shown counts limit out gone without =
    let low_v : v.resident.oldest < first_mutable v.resident = subst (λ (q : HybridLog). q.resident.oldest < first_mutable q.resident) (sym same) low in
    let below : number < first_mutable now.resident = omega (arith, at, low, ap (λ (q : HybridLog). q.resident.oldest) same) in
    let h = keeps-from f items v now number u x same is e (omega (arith, at)) below (shown ∙ ap (page_of v.resident) (sym at)) counts limit in
    let mid : HybridLog = record v { kept = map (option_map f) (set items (number - v.oldest) (Some x)); unreleased = u } in
    let some : IsSome (receipt_of mid v.resident.oldest) = subst (λ (n : ℕ). IsSome (receipt_of mid n)) at h.some in
    let d = dropped mid h.part some in
    let is_gone : frames ≡ without_oldest v.resident =
    on-true b (frames ≡ without_oldest (with_page v.resident v.resident.oldest bytes)) (out (subst (λ (m : ℕ). v.resident.oldest < m) (sym (first_mutable-written v.resident v.resident.oldest bytes)) low_v)) gone ∙ without in
    record {
      part = subst (λ (r : Resident). IsHybridLog (record mid { resident = r })) (sym is_gone) d.part;
      kept = h.log;
      dropped = ap (λ (r : Resident). record mid { resident = r }) is_gone;
      log = ap (λ (r : Resident). log_of (record mid { resident = r })) is_gone ∙ d.log;
    }
