-- How a stripe's value changes when its oldest resident page leaves its frame.
use Rattle.std.proofs.Common.{◌≡◌, ℕ, zero, suc, ◌+◌, ◌-◌, ◌<◌, ◌≤◌, inl, inr, List, [], ◌∷◌, ◌++◌, length, take, drop, map, slice_index, Option, Some, None, refl, sym, ap, ◌∙◌, subst, arith}
use Rattle.std.specs.Prelude.{slice_index_or, IsSome}
use Rattle.std.specs.Bool.{OnTrue}
use Rattle.std.specs.Prelude.{IsTrue}
use Rattle.std.proofs.Common.{Bool, true, false}
use Rattle.frames.specs.Resident.{Resident}
use Rattle.std.specs.List.{All}
use Rattle.std.proofs.lemmas.List.{length-drop}
use Rattle.std.proofs.lemmas.Grind.{get_or_after_one}
use Rattle.std.proofs.lemmas.Bool.{cases_lt}
use Rattle.records.specs.Records.{Stored}
use Rattle.frames.specs.Resident.{first_mutable, without_oldest}
use Rattle.hybrid.specs.Log.{Log, log_from, AllLaid, IsLinked, Joins, begin_of, IsShort}
use Rattle.hybrid.specs.HybridLog.{HybridLog, Kept, IsHybridLog, pages_of, log_of, shown_page, receipt_of, with_dropped, bucket_of}

dropped-pages : (kept : List (Option Kept)) (c : ℕ) (pages : List (List ℕ)) (k : Kept) → slice_index_or kept c None ≡ Some k → k.shown ≡ slice_index_or pages 0 [] → 0 < length pages
    → map shown_page (take (suc c) kept) ++ drop 1 pages ≡ map shown_page (take c kept) ++ pages
dropped-pages [] c pages k e shown some = absurd cc
dropped-pages (x ∷ kept) c [] k e shown some = absurd (omega arith)
dropped-pages (x ∷ kept) zero (p ∷ pages) k e shown some = ap (λ (y : List ℕ). y ∷ pages) (ap shown_page e ∙ shown)
dropped-pages (x ∷ kept) (suc c) (p ∷ pages) k e shown some = ap (λ (l : List (List ℕ)). shown_page x ∷ l) (dropped-pages kept c (p ∷ pages) k e shown some)

pub is-some : {X : Type 0} (o : Option X) → IsSome o → (x : X) × (o ≡ Some x)
is-some None h = absurd cc
is-some (Some x) h = (x, refl)

pub record IsDropped (p : HybridLog) : Type 0 where
  pub part : IsHybridLog (with_dropped p)
  pub log : log_of (with_dropped p) ≡ log_of p
  pub outside : p.resident.oldest < first_mutable p.resident

pub dropped : (p : HybridLog) → IsHybridLog p → IsSome (receipt_of p p.resident.oldest) → IsDropped p
dropped p is some =
    let k = is-some (receipt_of p p.resident.oldest) some in
    let c : ℕ = p.resident.oldest - p.oldest in
    let s = is.shows c k.0 (omega arith) k.1 in
    let at : p.oldest + c ≡ p.resident.oldest = omega (arith, is.live) in
    let outside : p.resident.oldest < first_mutable p.resident = omega (arith, s.1, at) in
    let many : 4 ≤ length p.resident.pages - 1 = omega (arith, outside, is.enough) in
    let first : p.oldest + c - p.resident.oldest ≡ 0 = omega (arith, is.live) in
    let shown : k.0.shown ≡ slice_index_or p.resident.pages 0 [] = s.0 ∙ ap (λ (n : ℕ). slice_index_or p.resident.pages n []) first in
    let size : p.resident.oldest + 1 - p.oldest ≡ suc c = omega (arith, is.live) in
    let pages : pages_of (with_dropped p) ≡ pages_of p = ap (λ (n : ℕ). map shown_page (take n p.kept) ++ drop 1 p.resident.pages) size ∙ dropped-pages p.kept c p.resident.pages k.0 k.1 shown is.tail in
    let log : log_of (with_dropped p) ≡ log_of p = ap (log_from p.oldest) pages in
    record {
      part = record {
        numbered = omega (arith, is.numbered, length-drop 1 p.resident.pages, many);
        live = omega (arith, is.live);
        tail = omega (arith, length-drop 1 p.resident.pages, many);
        enough = is.enough;
        fits = omega (arith, is.fits, length-drop 1 p.resident.pages);
        shared = is.shared;
        buckets = is.buckets;
        laid = subst (AllLaid p.oldest) (sym pages) is.laid;
        linked = subst (IsLinked (bucket_of p) (begin_of p.oldest)) (sym log) is.linked;
        joined = λ b within. subst (λ (l : Log). Joins (bucket_of p) (begin_of p.oldest) (slice_index p.heads b) l b) (sym log) (is.joined b within);
        cold_kept = λ i below. elim (cases_lt i c) [
          | inl low ↦ is.cold_kept i low
          | inr high ↦ let here : i ≡ c = omega arith in subst (λ (n : ℕ). IsSome (slice_index_or p.kept n None)) (sym here) some
        ];
        shows = λ i x from h.
            let t = is.shows i x (omega arith) h in
            let shift : p.oldest + i - p.resident.oldest ≡ 1 + (p.oldest + i - (p.resident.oldest + 1)) = omega (arith, from, is.live) in (
              t.0 ∙ ap (λ (n : ℕ). slice_index_or p.resident.pages n []) shift ∙ sym (get_or_after_one p.resident.pages (p.oldest + i - (p.resident.oldest + 1)) []),
              omega (arith, t.1, length-drop 1 p.resident.pages, many),
            );
        counted = is.counted;
        few = omega (arith, is.few, length-drop 1 p.resident.pages, many);
        short = subst (All (λ (e : ℕ × Stored). IsShort e.1)) (sym log) is.short;
        limited = is.limited;
      };
      log = log;
      outside = outside;
    }

pub on-true : (b : Bool) (P : Type 0) → IsTrue b → OnTrue b P → P
on-true true P t p = p
on-true false P t p = absurd cc

-- the same from the stripe's fields
pub dropped-from : (v now : HybridLog) (frames : Resident) (b : Bool) → v ≡ now → IsHybridLog v → IsSome (receipt_of now now.resident.oldest) → (v.resident.oldest < first_mutable v.resident → IsTrue b) → OnTrue b (frames ≡ without_oldest v.resident)
    → IsHybridLog (record v { resident = frames }) × (frames.frames ≡ v.resident.frames) × (record v { resident = frames } ≡ with_dropped v) × (log_of (record v { resident = frames }) ≡ log_of v)
dropped-from v now frames b same is some out new =
    let there : IsSome (receipt_of v v.resident.oldest) = subst (λ (q : HybridLog). IsSome (receipt_of q q.resident.oldest)) (sym same) some in
    let d = dropped v is there in
    let e : frames ≡ without_oldest v.resident = on-true b (frames ≡ without_oldest v.resident) (out d.outside) new in
    (subst (λ (f : Resident). IsHybridLog (record v { resident = f })) (sym e) d.part, ap (λ (f : Resident). f.frames) e, ap (λ (f : Resident). record v { resident = f }) e, ap (λ (f : Resident). log_of (record v { resident = f })) e ∙ d.log)
