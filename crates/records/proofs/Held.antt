-- What the memory of a page holds.
use Rattle.std.proofs.Common.{◌≡◌, ℕ, ◌-◌, ◌≤◌, ◌<◌, List, [], ◌++◌, length, replicate, ap, ◌∙◌, sym, inl, inr, refl, arith}
use Rattle.records.specs.declared.pages.TheConstants.{PAGE_SIZE, HEADER_SIZE, USED_END_AT}
use Rattle.records.specs.Fields.{u32_at, u64_at}
use Rattle.records.specs.Page.{header, empty_page, number_of, used_end, zero_page}
use Rattle.records.specs.Memory.{bytes_of, IsPageMemory}
use Rattle.records.proofs.Headers.{length-header, used_end-header}
use Rattle.records.proofs.Memory.{bytes_of-none, same-in_memory}
use Rattle.records.proofs.Numbers.{same-u32_at, same-u64_at}

-- the end of the used part that a blank page names
zero-end : used_end zero_page ≡ 0
unfolding used_end u32_at
zero-end = refl

-- the number and the end of the used part, by what lies in memory
pub held-number : (items page : List ℕ) → HEADER_SIZE ≤ length items → page ≡ bytes_of items → u64_at items 0 ≡ number_of page
unfolding number_of
held-number items page held is =
    same-u64_at items (bytes_of items) 0 (same-in_memory items 0 8 (omega (arith, held))) ∙ ap (λ (p : List ℕ). u64_at p 0) (sym is)

pub held-end : (items page : List ℕ) → HEADER_SIZE ≤ length items → page ≡ bytes_of items → u32_at items USED_END_AT ≡ used_end page
unfolding used_end
held-end items page held is =
    same-u32_at items (bytes_of items) USED_END_AT (same-in_memory items 8 12 (omega (arith, held))) ∙ ap (λ (p : List ℕ). u32_at p USED_END_AT) (sym is)

pub blank-number : (zeros items page : List ℕ) → zeros ≡ zero_page → items ≡ [] → page ≡ bytes_of items → u64_at zeros 0 ≡ number_of page
unfolding number_of
blank-number zeros items page is_zeros none is = ap (λ (p : List ℕ). u64_at p 0) (is_zeros ∙ sym (is ∙ bytes_of-none items none))

pub blank-end : (zeros items page : List ℕ) → zeros ≡ zero_page → items ≡ [] → page ≡ bytes_of items → u32_at zeros USED_END_AT ≡ used_end page
unfolding used_end
blank-end zeros items page is_zeros none is = ap (λ (p : List ℕ). u32_at p USED_END_AT) (is_zeros ∙ sym (is ∙ bytes_of-none items none))

module _ (items : List ℕ) (capacity : ℕ) (is : IsPageMemory items capacity) where
  -- the header lies in memory that holds anything
  pub held-header : (length items ≡ 0 → ⊥) → HEADER_SIZE ≤ length items
  held-header some = elim is.used [
    | inl full ↦ omega (arith, full)
    | inr (inl part) ↦ part.1
    | inr (inr none) ↦ absurd (some (ap (λ (i : List ℕ). length i) none))
  ]

  -- and so does the used part, if it ends in the page
  pub held-used : used_end (bytes_of items) ≤ PAGE_SIZE → used_end (bytes_of items) ≤ length items
  held-used within = elim is.used [
    | inl full ↦ omega (arith, full, within)
    | inr (inl part) ↦ omega (arith, part.0)
    | inr (inr none) ↦ omega (arith, ap (λ (p : List ℕ). used_end p) (bytes_of-none items none) ∙ zero-end)
  ]

  -- where the used part ends before the memory does, all of the page lies there
  pub held-all : HEADER_SIZE ≤ used_end (bytes_of items) → used_end (bytes_of items) < length items → length items ≡ PAGE_SIZE
  held-all some past = elim is.used [
    | inl full ↦ full
    | inr (inl part) ↦ absurd (omega (arith, part.0, past))
    | inr (inr none) ↦ absurd (omega (arith, some, ap (λ (p : List ℕ). used_end p) (bytes_of-none items none) ∙ zero-end))
  ]

-- memory that holds a header alone
pub header-bytes : (items : List ℕ) (number : ℕ) → items ≡ header number HEADER_SIZE → bytes_of items ≡ empty_page number
unfolding empty_page
header-bytes items number is = ap (λ (i : List ℕ). bytes_of i) is ∙ ap (λ (n : ℕ). header number HEADER_SIZE ++ replicate (PAGE_SIZE - n) 0) (length-header number HEADER_SIZE)

pub header-IsPageMemory : (items : List ℕ) (number capacity : ℕ) → items ≡ header number HEADER_SIZE → PAGE_SIZE ≤ capacity → IsPageMemory items capacity
header-IsPageMemory items number capacity is room =
    let long : length items ≡ HEADER_SIZE = ap (λ (i : List ℕ). length i) is ∙ length-header number HEADER_SIZE in
    let end : used_end (bytes_of items) ≡ HEADER_SIZE =
    ap (λ (i : List ℕ). used_end (i ++ replicate (PAGE_SIZE - length items) 0)) is ∙ used_end-header number HEADER_SIZE (replicate (PAGE_SIZE - length items) 0) (omega arith) in
    record { room = room; bound = omega (arith, long); used = inr (inl (end ∙ sym long, omega (arith, long))) }
