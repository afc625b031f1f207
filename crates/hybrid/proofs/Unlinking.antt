-- The cleaner's step as a whole.
use Rattle.std.proofs.Common.{◌≡◌, ℕ, zero, suc, refl, ◌+◌, ◌-◌, ◌*◌, List, [], ◌∷◌, ◌++◌, replicate, Option, Some, None, sym, ap, ◌∙◌, subst, arith}
use Rattle.std.specs.Prelude.{slice_index_or}
use Rattle.std.specs.List.{Contains}
use Rattle.records.specs.declared.pages.TheConstants.{PAGE_SIZE}
use Rattle.records.specs.Records.{Stored, records_of}
use Rattle.hybrid.specs.Log.{Log, contents, newest, page_log}
use Rattle.hybrid.specs.HybridLog.{HybridLog, Kept, IsGrown, IsCut, count_kept, page_at, receipt_of, log_of, without_oldest_page, SameContents}
use Rattle.hybrid.specs.Staging.{AreAdded, IsCleaned, IsCopied}
use Rattle.hybrid.proofs.Logs.{some_is, contents-without}
use Rattle.hybrid.proofs.Parts.{from-page_log, IsIn}

same-front : (kept : List (Option Kept)) (opened : ℕ) (k : Kept) → slice_index_or kept 0 None ≡ Some k → slice_index_or (kept ++ replicate opened None) 0 None ≡ Some k
same-front [] opened k e = absurd cc
same-front (x ∷ kept) opened k e = e

same-receipt : (old mid : HybridLog) (k r : Kept) (w : ℕ) → IsGrown old mid w → receipt_of old old.oldest ≡ Some k → receipt_of mid mid.oldest ≡ Some r → r ≡ k
same-receipt old mid k r w grown e f =
    let z : old.oldest - old.oldest ≡ 0 = omega arith in
    let y : mid.oldest - mid.oldest ≡ 0 = omega arith in
    let e0 : slice_index_or old.kept 0 None ≡ Some k = rw z at e in
    let f0 : slice_index_or mid.kept 0 None ≡ Some r = rw y at f in
    let m0 : slice_index_or mid.kept 0 None ≡ Some k = ap (λ (l : List (Option Kept)). slice_index_or l 0 None) grown.kept ∙ same-front old.kept grown.opened k e0 in
    some_is r k (sym f0 ∙ m0)

pub cleaned-same : (old mid new : HybridLog) (page : List ℕ) (k r : Kept) (w : ℕ) → IsGrown old mid w → IsCopied old mid page → IsCut (log_of mid) (log_of new) mid.oldest r.shown → receipt_of old old.oldest ≡ Some k → receipt_of mid mid.oldest ≡ Some r → page ≡ k.shown
    → SameContents old new
cleaned-same old mid new page k r w grown copied cut e f same q =
    let shown : r.shown ≡ page = ap (λ (x : Kept). x.shown) (same-receipt old mid k r w grown e f) ∙ sym same in
    let dead : (x : ℕ × Stored) → Contains (page_log mid.oldest r.shown) x → newest (log_of new ++ page_log mid.oldest r.shown) x.1.key ≡ Some x → x.1.value ≡ None = λ x c h.
    let i : IsIn mid.oldest (records_of r.shown) x = from-page_log mid.oldest r.shown x c in
    let listed : Contains (records_of page) (i.offset, x.1) = subst (λ (p : List ℕ). Contains (records_of p) (i.offset, x.1)) shown i.listed in
    let at : x.0 ≡ old.oldest * PAGE_SIZE + i.offset = i.address ∙ ap (λ (n : ℕ). n * PAGE_SIZE + i.offset) grown.oldest in
    let whole : newest (log_of mid) x.1.key ≡ Some x = subst (λ (l : Log). newest l x.1.key ≡ Some x) (sym cut.log) h in
    copied.dead i.offset x.1 listed (whole ∙ ap (λ (n : ℕ). Some (n, x.1)) at) in
    sym (contents-without (log_of new) (page_log mid.oldest r.shown) q dead) ∙ ap (λ (l : Log). contents l q) (sym cut.log) ∙ copied.same q

count-none : (kept : List (Option Kept)) (n : ℕ) → count_kept (kept ++ replicate n None) ≡ count_kept kept
count-none [] zero = refl
count-none [] (suc n) = count-none [] n
count-none (None ∷ kept) n = count-none kept n
count-none (Some k ∷ kept) n = ap suc (count-none kept n)

-- writes keep no receipt
pub grown-count : (old mid : HybridLog) (w : ℕ) → IsGrown old mid w → count_kept old.kept ≡ count_kept mid.kept
grown-count old mid w grown = sym (ap count_kept grown.kept ∙ count-none old.kept grown.opened)

-- which records were added
pub cleaned-added : (old mid new : HybridLog) (page : List ℕ) → IsCopied old mid page → page ≡ page_at old old.oldest → new ≡ without_oldest_page mid → IsCleaned old new
cleaned-added old mid new page copied same left = record {
  mid = mid;
  added = subst (λ (p : List ℕ). AreAdded (log_of old) old.oldest (records_of p) old mid) same copied.added;
  left = left;
}
