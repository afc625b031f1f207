-- A page with these records is laid out, and its records are read back.
use Rattle.std.proofs.Common.{◌≡◌, ℕ, zero, suc, ◌+◌, ◌-◌, ◌<◌, ◌≤◌, ◌^◌, List, [], ◌∷◌, ◌++◌, length, drop, take, replicate, Option, refl, sym, ap, ◌∙◌, arith, length-append, append_assoc, append-nil, lit≤, subst, ltb, true, false}
use Rattle.std.specs.List.{AllByRecursion, flat_map}
use Rattle.std.proofs.lemmas.Bool.Decides.{nat_tests}
use Rattle.std.proofs.lemmas.List.{take_at, drop_at, drop-drop, length-replicate, drop-replicate, take-replicate}
use borrow.Rule.Slice.PartMut.{put_mid}
use Rattle.records.specs.declared.pages.TheConstants.{PAGE_SIZE, HEADER_SIZE, USED_END_AT}
use Rattle.records.specs.Fields.{u32_bytes}
use Rattle.records.specs.Page.{header, empty_page, number_of, used_end}
use Rattle.records.specs.Records.{Stored, IsStored, value_bytes, size_of, spelling, end_from, placed, IsPage, fields_at, records_from, records_of, IsLaidOut}
use Rattle.records.proofs.Headers.{length-header, drop-header, number_of-header, used_end-header, header-with_end}
use Rattle.records.proofs.Spelling.{length-spelling, fields_at-is}
use Rattle.records.proofs.Lists.{end_from-le, end_from-append, spellings-append, each-append, each-left, each-right, length-spellings, length-le-spellings, placed-each, placed-in_order}

pub records_from-is : (rs : List Stored) (n : ℕ) (page : List ℕ) (offset : ℕ) (spare : List ℕ)
    → AllByRecursion IsStored rs → drop offset page ≡ flat_map spelling rs ++ spare → used_end page ≡ end_from offset rs → length rs ≤ n
    → records_from n page offset ≡ placed offset rs
unfolding records_from
records_from-is [] zero page offset spare each here used fuel = refl
records_from-is [] (suc n) page offset spare each here used fuel =
    let done : ltb offset (used_end page) ≡ false = grind (arith, nat_tests) in
    rw done refl
records_from-is (r ∷ rs) zero page offset spare each here used fuel = absurd (omega (arith, fuel))
records_from-is (r ∷ rs) (suc n) page offset spare each here used fuel =
    let at : drop offset page ≡ spelling r ++ (flat_map spelling rs ++ spare) = here ∙ append_assoc (spelling r) (flat_map spelling rs) spare in
    let fields : fields_at page offset ≡ r = fields_at-is page offset r (flat_map spelling rs ++ spare) at each.0 in
    let past : drop (offset + size_of r) page ≡ flat_map spelling rs ++ spare =
    sym (drop-drop (size_of r) offset page) ∙ (ap (λ s. drop (size_of r) s) at ∙ drop_at (spelling r) (flat_map spelling rs ++ spare) (size_of r) (length-spelling r each.0.value_fits)) in
    let more : records_from n page (offset + size_of r) ≡ placed (offset + size_of r) rs = records_from-is rs n page (offset + size_of r) spare each.1 past used (omega (arith, fuel)) in
    let beyond : offset + size_of r ≤ end_from (offset + size_of r) rs = end_from-le (offset + size_of r) rs in
    let on : ltb offset (used_end page) ≡ true = grind (arith, nat_tests) in
    rw (on, fields) (ap (λ xs. (offset, r) ∷ xs) more)

-- a page that has this number and these records
module _ (number : ℕ) (rs : List Stored) (page : List ℕ) (is : IsPage number rs page) where
  pub page-number : number_of page ≡ number
  page-number = ap number_of is.bytes ∙ number_of-header number (end_from HEADER_SIZE rs) (flat_map spelling rs ++ replicate (PAGE_SIZE - end_from HEADER_SIZE rs) 0) is.number_fits

  pub page-end : used_end page ≡ end_from HEADER_SIZE rs
  page-end = ap used_end is.bytes ∙ used_end-header number (end_from HEADER_SIZE rs) (flat_map spelling rs ++ replicate (PAGE_SIZE - end_from HEADER_SIZE rs) 0) (omega (arith, is.within))

  pub page-drop : drop HEADER_SIZE page ≡ flat_map spelling rs ++ replicate (PAGE_SIZE - end_from HEADER_SIZE rs) 0
  page-drop = ap (λ s. drop HEADER_SIZE s) is.bytes ∙ drop-header number (end_from HEADER_SIZE rs) (flat_map spelling rs ++ replicate (PAGE_SIZE - end_from HEADER_SIZE rs) 0)

  pub page-length : length page ≡ PAGE_SIZE
  page-length =
      let spare : ℕ = PAGE_SIZE - end_from HEADER_SIZE rs in
      let whole : length page ≡ length (header number (end_from HEADER_SIZE rs) ++ (flat_map spelling rs ++ replicate spare 0)) = ap length is.bytes in
      let front = length-append (header number (end_from HEADER_SIZE rs)) (flat_map spelling rs ++ replicate spare 0) in
      let back = length-append (flat_map spelling rs) (replicate spare 0) in
      omega (arith, whole, front, back, length-header number (end_from HEADER_SIZE rs), length-replicate {A = ℕ} spare 0, length-spellings HEADER_SIZE rs is.each, is.within)

  pub page-records : records_of page ≡ placed HEADER_SIZE rs
  unfolding records_of
  page-records =
      records_from-is rs (length page) page HEADER_SIZE (replicate (PAGE_SIZE - end_from HEADER_SIZE rs) 0) is.each page-drop page-end
      (omega (arith, page-length, length-le-spellings rs is.each, length-spellings HEADER_SIZE rs is.each, is.within))

  pub page-laid_out : IsLaidOut page
  page-laid_out =
      let P : ℕ → Type 0 = λ n. IsPage n rs page in
      let used : used_end page ≡ end_from HEADER_SIZE rs = page-end in
      record {
        stored = rs;
        is_page = subst P (sym page-number) is;
        used = used;
        records = page-records;
        in_page = omega (arith, used, is.within);
        each = rw page-records (placed-each (used_end page) HEADER_SIZE rs is.each (omega arith) refl (omega (arith, used)));
        in_order = rw page-records (placed-in_order HEADER_SIZE rs);
      }

pub laid_out-length : (page : List ℕ) → IsLaidOut page → length page ≡ PAGE_SIZE
laid_out-length page laid = page-length (number_of page) laid.stored page laid.is_page

pub empty-page : (number : ℕ) → number < 2 ^ 64 → IsPage number [] (empty_page number)
unfolding empty_page
empty-page number h = record { number_fits = h; each = tt; within = lit≤ tt; bytes = refl }

-- another end of the used part, in a page with these records
pub headed-page : (number : ℕ) (rs : List Stored) (page : List ℕ) (next : ℕ) → IsPage number rs page
    → put_mid USED_END_AT 4 page (u32_bytes next) ≡ (header number next ++ flat_map spelling rs) ++ replicate (PAGE_SIZE - end_from HEADER_SIZE rs) 0
headed-page number rs page next is =
    let end : ℕ = end_from HEADER_SIZE rs in
    let F : List ℕ = flat_map spelling rs in
    let Z : List ℕ = replicate (PAGE_SIZE - end) 0 in
    ap (λ (s : List ℕ). put_mid USED_END_AT 4 s (u32_bytes next)) is.bytes ∙ (header-with_end number end next (F ++ Z) ∙ sym (append_assoc (header number next) F Z))

pub length-headed : (number : ℕ) (rs : List Stored) (next : ℕ) → AllByRecursion IsStored rs → length (header number next ++ flat_map spelling rs) ≡ end_from HEADER_SIZE rs
length-headed number rs next each = omega (arith, length-append (header number next) (flat_map spelling rs), length-header number next, length-spellings HEADER_SIZE rs each)

-- the bytes behind the records are zero
pub blank-behind : (number : ℕ) (rs : List Stored) (page : List ℕ) (next n : ℕ) → IsPage number rs page → n ≤ PAGE_SIZE - end_from HEADER_SIZE rs
    → take n (drop (end_from HEADER_SIZE rs) (put_mid USED_END_AT 4 page (u32_bytes next))) ≡ replicate n 0
blank-behind number rs page next n is h =
    let end : ℕ = end_from HEADER_SIZE rs in
    let A : List ℕ = header number next ++ flat_map spelling rs in
    let Z : List ℕ = replicate (PAGE_SIZE - end) 0 in
    ap (λ (s : List ℕ). take n (drop end s)) (headed-page number rs page next is)
    ∙ (ap (λ (s : List ℕ). take n s) (drop_at A Z end (length-headed number rs next is.each)) ∙ take-replicate n (PAGE_SIZE - end) 0 h)

-- one more record behind the others
pub appended-page : (number : ℕ) (rs : List Stored) (page : List ℕ) (r : Stored)
    → IsPage number rs page → IsStored r → end_from HEADER_SIZE rs + size_of r ≤ PAGE_SIZE
    → IsPage number (rs ++ r ∷ []) (put_mid (end_from HEADER_SIZE rs) (size_of r) (put_mid USED_END_AT 4 page (u32_bytes (end_from HEADER_SIZE rs + size_of r))) (spelling r))
appended-page number rs page r is ok room =
    let end : ℕ = end_from HEADER_SIZE rs in
    let next : ℕ = end + size_of r in
    let F : List ℕ = flat_map spelling rs in
    let Z : List ℕ = replicate (PAGE_SIZE - end) 0 in
    let S : List ℕ = spelling r in
    let A : List ℕ = header number next ++ F in
    let front : length A ≡ end = length-headed number rs next is.each in
    let zeros : drop (size_of r) Z ≡ replicate (PAGE_SIZE - next) 0 =
    drop-replicate (size_of r) (PAGE_SIZE - end) 0 ∙ ap (λ n. replicate n 0) (omega arith) in
    let put : put_mid end (size_of r) (A ++ Z) S ≡ A ++ (S ++ replicate (PAGE_SIZE - next) 0) =
    ap (λ (s : List ℕ). s ++ (S ++ drop (size_of r) (drop end (A ++ Z)))) (take_at A Z end front)
    ∙ (ap (λ (s : List ℕ). A ++ (S ++ drop (size_of r) s)) (drop_at A Z end front) ∙ ap (λ (s : List ℕ). A ++ (S ++ s)) zeros) in
    let spelled : flat_map spelling (rs ++ r ∷ []) ≡ F ++ (S ++ []) = spellings-append rs (r ∷ []) in
    let ends : end_from HEADER_SIZE (rs ++ r ∷ []) ≡ next = end_from-append HEADER_SIZE rs (r ∷ []) in
    record {
      number_fits = is.number_fits;
      each = each-append rs (r ∷ []) is.each (ok, tt);
      within = omega (arith, ends, room);
      bytes = ap (λ (s : List ℕ). put_mid end (size_of r) s S) (headed-page number rs page next is) ∙ (put ∙ rw (ends, spelled) (simp (append_assoc, append-nil)));
    }

-- a page that has this record between others
module _ (number : ℕ) (before : List Stored) (r : Stored) (after : List Stored) (page : List ℕ) (is : IsPage number (before ++ r ∷ after) page) where
  pub listed-ok : IsStored r
  listed-ok = (each-right before (r ∷ after) is.each).0

  -- where the record stands, and the bytes from there
  pub listed-end : end_from HEADER_SIZE (before ++ r ∷ after) ≡ end_from (end_from HEADER_SIZE before + size_of r) after
  listed-end = end_from-append HEADER_SIZE before (r ∷ after)

  pub listed-within : end_from HEADER_SIZE before + size_of r ≤ end_from HEADER_SIZE (before ++ r ∷ after)
  listed-within = omega (arith, listed-end, end_from-le (end_from HEADER_SIZE before + size_of r) after)

  pub listed_front : List ℕ
  listed_front = header number (end_from HEADER_SIZE (before ++ r ∷ after)) ++ flat_map spelling before

  pub listed_back : List ℕ
  listed_back = flat_map spelling after ++ replicate (PAGE_SIZE - end_from HEADER_SIZE (before ++ r ∷ after)) 0

  length-listed_front : length listed_front ≡ end_from HEADER_SIZE before
  unfolding listed_front
  length-listed_front =
      omega (
        arith,
        length-append (header number (end_from HEADER_SIZE (before ++ r ∷ after))) (flat_map spelling before),
        length-header number (end_from HEADER_SIZE (before ++ r ∷ after)),
        length-spellings HEADER_SIZE before (each-left before (r ∷ after) is.each),
      )

  listed-bytes : page ≡ listed_front ++ (spelling r ++ listed_back)
  unfolding listed_front listed_back
  listed-bytes = is.bytes ∙ rw (spellings-append before (r ∷ after)) (simp append_assoc)

  pub listed-here : drop (end_from HEADER_SIZE before) page ≡ spelling r ++ listed_back
  listed-here = ap (λ (s : List ℕ). drop (end_from HEADER_SIZE before) s) listed-bytes ∙ drop_at listed_front (spelling r ++ listed_back) (end_from HEADER_SIZE before) length-listed_front

  pub overwritten-page : (value : Option (List ℕ)) → length (value_bytes value) ≤ r.capacity
      → IsPage number (before ++ (record r { value = value }) ∷ after) (put_mid (end_from HEADER_SIZE before) (size_of r) page (spelling (record r { value = value })))
  unfolding listed_front listed_back
  overwritten-page value fits =
      let at : ℕ = end_from HEADER_SIZE before in
      let new : Stored = record r { value = value } in
      let old_ok : IsStored r = listed-ok in
      let ok : IsStored new = record { link_fits = old_ok.link_fits; hash_fits = old_ok.hash_fits; key_fits = old_ok.key_fits; value_fits = fits; capacity_fits = old_ok.capacity_fits; aligned = old_ok.aligned } in
      let ends : end_from HEADER_SIZE (before ++ new ∷ after) ≡ end_from HEADER_SIZE (before ++ r ∷ after) = end_from-append HEADER_SIZE before (new ∷ after) ∙ sym listed-end in
      let kept : take at page ≡ listed_front = ap (λ (s : List ℕ). take at s) listed-bytes ∙ take_at listed_front (spelling r ++ listed_back) at length-listed_front in
      let rest : drop (size_of r) (drop at page) ≡ listed_back = ap (λ (s : List ℕ). drop (size_of r) s) listed-here ∙ drop_at (spelling r) listed_back (size_of r) (length-spelling r old_ok.value_fits) in
      let put : put_mid at (size_of r) page (spelling new) ≡ listed_front ++ (spelling new ++ listed_back) =
      ap (λ (s : List ℕ). s ++ (spelling new ++ drop (size_of r) (drop at page))) kept ∙ ap (λ (s : List ℕ). listed_front ++ (spelling new ++ s)) rest in
      record {
        number_fits = is.number_fits;
        each = each-append before (new ∷ after) (each-left before (r ∷ after) is.each) (ok, (each-right before (r ∷ after) is.each).1);
        within = omega (arith, ends, is.within);
        bytes = put ∙ rw (ends, spellings-append before (new ∷ after)) (simp append_assoc);
      }
