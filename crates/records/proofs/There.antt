-- A record that is listed among the records of a page that is laid out: what stands at its offset, and the page after
-- it takes another value.
use Rattle.std.proofs.Common.{◌≡◌, ℕ, ◌+◌, ◌-◌, ◌%◌, ◌≤◌, List, [], ◌∷◌, ◌++◌, length, map, take, drop, slice_index, Option, None, Some, Result, Ok, Err, IsOk, IsOkAnd, IfOk, MatchResult, ◌↔◌, refl, sym, ap, ◌∙◌, arith, subst, inl, inr, length-take, length-drop}
use Rattle.std.specs.List.{AllByRecursion, Contains}
use Rattle.std.proofs.lemmas.List.{take_at}
use borrow.Rule.Slice.PartMut.{put_mid}
use Rattle.records.specs.declared.pages.TheConstants.{PAGE_SIZE, HEADER_SIZE}
use Rattle.records.specs.declared.entries.TheConstants.{RECORD_HEADER, HASH_AT, KEY_LENGTH_AT, VALUE_LENGTH_AT, CAPACITY_AT, KIND_AT, RECORD_FORM_AT, RECORD_FORM}
use Rattle.records.specs.Fields.{u16_at, u32_at, u64_at}
use Rattle.records.specs.Page.{number_of, used_end}
use Rattle.records.specs.Read.{shown}
use Rattle.records.specs.declared.entries.Record.{Record}
use Rattle.records.specs.Records.{Stored, IsStored, IsKindFor, value_of_kind, value_bytes, kind_of, size_of, spelling, end_from, placed, IsPage, fields_at, records_of, IsLaidOut, with_value, HasRoomAt, IsRecordAt}
use Rattle.records.proofs.Spelling.{length-spelling, key_length_at, value_length_at, capacity_at, kind_at, form_at, fields_at-is}
use Rattle.records.proofs.Lists.{end_from-le, end_from-append, Split, split_at, with_value-placed, each-left}
use Rattle.records.proofs.Laid.{page-number, page-end, page-records, page-laid_out, page-length, listed-ok, listed-within, listed-here, listed_back, overwritten-page}

-- records stand at multiples of 8
end_from-aligned : (offset : ℕ) (rs : List Stored) → offset % 8 ≡ 0 → AllByRecursion IsStored rs → end_from offset rs % 8 ≡ 0
end_from-aligned offset [] h each = h
end_from-aligned offset (r ∷ rs) h each =
    let aligned : size_of r % 8 ≡ 0 = each.0.aligned in
    end_from-aligned (offset + size_of r) rs (omega (arith, h, aligned)) each.1

-- this record stands at this offset
pub record IsThere (page : List ℕ) (offset : ℕ) (r : Stored) : Type 0 where
  pub ok : IsStored r
  pub past_header : HEADER_SIZE ≤ offset
  pub aligned : offset % 8 ≡ 0
  pub within : offset + size_of r ≤ used_end page
  pub ends_in_page : used_end page ≤ PAGE_SIZE
  pub size : length page ≡ PAGE_SIZE
  pub key_length : u16_at page (offset + KEY_LENGTH_AT) ≡ length r.key
  pub value_length : u32_at page (offset + VALUE_LENGTH_AT) ≡ length (value_bytes r.value)
  pub capacity : u32_at page (offset + CAPACITY_AT) ≡ r.capacity
  pub kind : slice_index page (offset + KIND_AT) ≡ kind_of r.value
  pub form : slice_index page (offset + RECORD_FORM_AT) ≡ RECORD_FORM
  pub fields : fields_at page offset ≡ r
  pub bytes : take (size_of r) (drop offset page) ≡ spelling r

-- a page after one of its records took another value
pub record HasChanged (old new : List ℕ) (offset : ℕ) (value : Option (List ℕ)) : Type 0 where
  pub number_is : number_of new ≡ number_of old
  pub end_is : used_end new ≡ used_end old
  pub records_are : records_of new ≡ map (with_value offset value) (records_of old)
  pub laid_out : IsLaidOut new

module _ (number : ℕ) (before : List Stored) (r : Stored) (after : List Stored) (page : List ℕ) (is : IsPage number (before ++ r ∷ after) page) where
  between-IsThere : IsThere page (end_from HEADER_SIZE before) r
  between-IsThere =
      let at : ℕ = end_from HEADER_SIZE before in
      let rest : List ℕ = listed_back number before r after page is in
      let ok : IsStored r = listed-ok number before r after page is in
      let here : drop at page ≡ spelling r ++ rest = listed-here number before r after page is in
      let end : used_end page ≡ end_from HEADER_SIZE (before ++ r ∷ after) = page-end number (before ++ r ∷ after) page is in
      record {
        ok = ok;
        past_header = end_from-le HEADER_SIZE before;
        aligned = end_from-aligned HEADER_SIZE before refl (each-left before (r ∷ after) is.each);
        within = omega (arith, end, listed-within number before r after page is);
        ends_in_page = omega (arith, end, is.within);
        size = page-length number (before ++ r ∷ after) page is;
        key_length = key_length_at page at r rest here ok;
        value_length = value_length_at page at r rest here ok;
        capacity = capacity_at page at r rest here ok;
        kind = kind_at page at r rest here ok;
        form = form_at page at r rest here ok;
        fields = fields_at-is page at r rest here ok;
        bytes = ap (λ (s : List ℕ). take (size_of r) s) here ∙ take_at (spelling r) rest (size_of r) (length-spelling r ok.value_fits);
      }

  between-HasChanged : (value : Option (List ℕ)) → length (value_bytes value) ≤ r.capacity
      → HasChanged page (put_mid (end_from HEADER_SIZE before) (size_of r) page (spelling (record r { value = value }))) (end_from HEADER_SIZE before) value
  between-HasChanged value fits =
      let at : ℕ = end_from HEADER_SIZE before in
      let other : Stored = record r { value = value } in
      let new : List ℕ = put_mid at (size_of r) page (spelling other) in
      let now : IsPage number (before ++ other ∷ after) new = overwritten-page number before r after page is value fits in
      record {
        number_is = page-number number (before ++ other ∷ after) new now ∙ sym (page-number number (before ++ r ∷ after) page is);
        end_is = page-end number (before ++ other ∷ after) new now ∙ (end_from-other value ∙ sym (page-end number (before ++ r ∷ after) page is));
        records_are = page-records number (before ++ other ∷ after) new now ∙ (sym (with_value-placed value HEADER_SIZE before r after) ∙ ap (λ (ps : List (ℕ × Stored)). map (with_value at value) ps) (sym (page-records number (before ++ r ∷ after) page is)));
        laid_out = page-laid_out number (before ++ other ∷ after) new now;
      }
    where
      end_from-other : (v : Option (List ℕ)) → end_from HEADER_SIZE (before ++ (record r { value = v }) ∷ after) ≡ end_from HEADER_SIZE (before ++ r ∷ after)
      end_from-other v = end_from-append HEADER_SIZE before ((record r { value = v }) ∷ after) ∙ sym (end_from-append HEADER_SIZE before (r ∷ after))

module _ (page : List ℕ) (offset : ℕ) (r : Stored) (was : IsLaidOut page) (there : Contains (records_of page) (offset, r)) where
  split : Split HEADER_SIZE was.stored offset r
  split =
      let in_list : Contains (placed HEADER_SIZE was.stored) (offset, r) = subst (λ (ps : List (ℕ × Stored)). Contains ps (offset, r)) was.records there in
      split_at HEADER_SIZE was.stored offset r in_list.0 in_list.1 in_list.2

  pub listed-IsThere : IsThere page offset r
  listed-IsThere =
      let s : Split HEADER_SIZE was.stored offset r = split in
      let is : IsPage (number_of page) (s.before ++ r ∷ s.after) page = subst (λ (rs : List Stored). IsPage (number_of page) rs page) s.whole was.is_page in
      subst (λ (at : ℕ). IsThere page at r) (sym s.at) (between-IsThere (number_of page) s.before r s.after page is)

  pub listed-HasChanged : (value : Option (List ℕ)) → length (value_bytes value) ≤ r.capacity
      → HasChanged page (put_mid offset (size_of r) page (spelling (record r { value = value }))) offset value
  listed-HasChanged value fits =
      let s : Split HEADER_SIZE was.stored offset r = split in
      let is : IsPage (number_of page) (s.before ++ r ∷ s.after) page = subst (λ (rs : List Stored). IsPage (number_of page) rs page) s.whole was.is_page in
      subst (λ (at : ℕ). HasChanged page (put_mid at (size_of r) page (spelling (record r { value = value }))) at value) (sym s.at)
      (between-HasChanged (number_of page) s.before r s.after page is value fits)

-- such a record may be read
pub kind-is-for : (value : Option (List ℕ)) (kind n : ℕ) → kind ≡ kind_of value → n ≡ length (value_bytes value) → IsKindFor kind n
kind-is-for None kind n e l = (inr e, λ two. l)
kind-is-for (Some bytes) kind n e l = (inl e, λ two. absurd (omega (arith, e, two)))

pub IsThere-IsRecordAt : (page : List ℕ) (offset : ℕ) (r : Stored) → IsThere page offset r → IsRecordAt page offset
IsThere-IsRecordAt page offset r t =
    let ok : IsStored r = t.ok in
    let value_fits : length (value_bytes r.value) ≤ r.capacity = ok.value_fits in
    let sizes : RECORD_HEADER + u16_at page (offset + KEY_LENGTH_AT) + u32_at page (offset + CAPACITY_AT) ≡ size_of r = omega (arith, t.key_length, t.capacity) in
    record {
      ends_in_page = t.ends_in_page;
      past_header = t.past_header;
      used = omega (arith, t.within);
      aligned = t.aligned;
      form = t.form;
      kind = kind-is-for r.value (slice_index page (offset + KIND_AT)) (u32_at page (offset + VALUE_LENGTH_AT)) t.kind t.value_length;
      key_length = omega (arith, t.key_length, ok.key_fits);
      value_length = omega (arith, t.value_length, t.capacity, value_fits);
      size = ap (λ n. n % 8) sizes ∙ ok.aligned;
      within = omega (arith, sizes, t.within);
    }

-- what `record_at` answers, by whether it does
module _ {E : Type 0} (page : List ℕ) (offset : ℕ) where
  pub answer-exact : (read : Result Record E) → IsOk read ↔ IsRecordAt page offset → IfOk read (λ r. shown r ≡ fields_at page offset)
      → MatchResult read (λ r. IsRecordAt page offset × (shown r ≡ fields_at page offset)) (λ _. ¬ IsRecordAt page offset)
  answer-exact (Ok r) exact fields = (exact.0 refl, fields)
  answer-exact (Err e) exact fields = λ at. let none : IsOk {T = Record} {E = E} (Err e) = exact.1 at in cc

  pub answer-found : (read : Result Record E) → IsOk read ↔ IsRecordAt page offset → IfOk read (λ r. shown r ≡ fields_at page offset)
      → IsLaidOut page → (r : Stored) → Contains (records_of page) (offset, r) → IsOkAnd read (λ x. shown x ≡ r)
  answer-found (Ok x) exact fields was r there = let is : IsThere page offset r = listed-IsThere page offset r was there in fields ∙ is.fields
  answer-found (Err e) exact fields was r there =
      let none : IsOk {T = Record} {E = E} (Err e) = exact.1 (IsThere-IsRecordAt page offset r (listed-IsThere page offset r was there)) in cc

-- what `record_in` reads
pub read-fields : (page bytes key : List ℕ) (offset link hash k n capacity kind : ℕ) (value : Option (List ℕ))
    → bytes ≡ page → link ≡ u64_at bytes offset → hash ≡ u64_at bytes (offset + HASH_AT)
    → k ≡ u16_at bytes (offset + KEY_LENGTH_AT) → n ≡ u32_at bytes (offset + VALUE_LENGTH_AT) → capacity ≡ u32_at bytes (offset + CAPACITY_AT) → kind ≡ slice_index bytes (offset + KIND_AT)
    → key ≡ take (offset + RECORD_HEADER + k - (offset + RECORD_HEADER)) (drop (offset + RECORD_HEADER) bytes)
    → value ≡ value_of_kind kind (take (offset + RECORD_HEADER + k + n - (offset + RECORD_HEADER + k)) (drop (offset + RECORD_HEADER + k) bytes))
    → let read : Stored = record { link = link; hash = hash; key = key; value = value; capacity = capacity } in read ≡ fields_at page offset
unfolding fields_at
read-fields page bytes key offset link hash k n capacity kind value is_page is_link is_hash is_k is_n is_capacity is_kind is_key is_value =
    let key_cut : offset + RECORD_HEADER + k - (offset + RECORD_HEADER) ≡ k = omega arith in
    let value_cut : offset + RECORD_HEADER + k + n - (offset + RECORD_HEADER + k) ≡ n = omega arith in
    rw (is_key, is_value, key_cut, value_cut, is_link, is_hash, is_capacity, is_kind, is_k, is_n, is_page) refl

-- the part of the page that holds the value which `record_in` reads
module _ (page bytes : List ℕ) (offset k n : ℕ) (is_page : bytes ≡ page) (within : offset + RECORD_HEADER + k + n ≤ length bytes) (is_n : n ≡ u32_at bytes (offset + VALUE_LENGTH_AT)) where
  value-length : length (take (offset + RECORD_HEADER + k + n - (offset + RECORD_HEADER + k)) (drop (offset + RECORD_HEADER + k) bytes)) ≡ u32_at page (offset + VALUE_LENGTH_AT)
  value-length =
      let cut = length-take (offset + RECORD_HEADER + k + n - (offset + RECORD_HEADER + k)) (drop (offset + RECORD_HEADER + k) bytes) in
      let rest = length-drop (offset + RECORD_HEADER + k) bytes in
      let same : u32_at bytes (offset + VALUE_LENGTH_AT) ≡ u32_at page (offset + VALUE_LENGTH_AT) = ap (λ (s : List ℕ). u32_at s (offset + VALUE_LENGTH_AT)) is_page in
      omega (arith, cut, rest, same, is_n, within)

  same_kind : slice_index bytes (offset + KIND_AT) ≡ slice_index page (offset + KIND_AT)
  same_kind = ap (λ (s : List ℕ). slice_index s (offset + KIND_AT)) is_page

  pub kind-in_page : IsKindFor (slice_index bytes (offset + KIND_AT)) (length (take (offset + RECORD_HEADER + k + n - (offset + RECORD_HEADER + k)) (drop (offset + RECORD_HEADER + k) bytes)))
      → IsKindFor (slice_index page (offset + KIND_AT)) (u32_at page (offset + VALUE_LENGTH_AT))
  kind-in_page h =
      let P : ℕ → Type 0 = λ kind. IsKindFor kind (u32_at page (offset + VALUE_LENGTH_AT)) in
      let Q : ℕ → Type 0 = λ m. IsKindFor (slice_index bytes (offset + KIND_AT)) m in
      subst P same_kind (subst Q value-length h)

  pub kind-in_part : IsKindFor (slice_index page (offset + KIND_AT)) (u32_at page (offset + VALUE_LENGTH_AT))
      → IsKindFor (slice_index bytes (offset + KIND_AT)) (length (take (offset + RECORD_HEADER + k + n - (offset + RECORD_HEADER + k)) (drop (offset + RECORD_HEADER + k) bytes)))
  kind-in_part h =
      let P : ℕ → Type 0 = λ kind. IsKindFor kind (u32_at page (offset + VALUE_LENGTH_AT)) in
      let Q : ℕ → Type 0 = λ m. IsKindFor (slice_index bytes (offset + KIND_AT)) m in
      subst Q (sym value-length) (subst P (sym same_kind) h)

-- what `overwrite` reads of the record
pub read-key_length : (page bytes : List ℕ) (offset k : ℕ) (r : Stored) → IsThere page offset r → bytes ≡ page → k ≡ u16_at bytes (offset + KEY_LENGTH_AT) → k ≡ length r.key
read-key_length page bytes offset k r t is_page is_k = is_k ∙ (ap (λ (s : List ℕ). u16_at s (offset + KEY_LENGTH_AT)) is_page ∙ t.key_length)

pub read-capacity : (page bytes : List ℕ) (offset c : ℕ) (r : Stored) → IsThere page offset r → bytes ≡ page → c ≡ u32_at bytes (offset + CAPACITY_AT) → c ≡ r.capacity
read-capacity page bytes offset c r t is_page is_c = is_c ∙ (ap (λ (s : List ℕ). u32_at s (offset + CAPACITY_AT)) is_page ∙ t.capacity)

pub read-value_length : (page bytes : List ℕ) (offset n : ℕ) (r : Stored) → IsThere page offset r → bytes ≡ page → n ≡ u32_at bytes (offset + VALUE_LENGTH_AT) → n ≡ length (value_bytes r.value)
read-value_length page bytes offset n r t is_page is_n = is_n ∙ (ap (λ (s : List ℕ). u32_at s (offset + VALUE_LENGTH_AT)) is_page ∙ t.value_length)

-- the page after the steps of `overwrite`
pub changed-by_steps : (page bytes slot : List ℕ) (offset k n c : ℕ) (r : Stored) (value : Option (List ℕ))
    → IsLaidOut page → Contains (records_of page) (offset, r) → length (value_bytes value) ≤ r.capacity
    → bytes ≡ page → k ≡ length r.key → n ≡ length (value_bytes r.value) → c ≡ r.capacity
    → ((s : Stored) → take (offset + RECORD_HEADER + k + c - offset) (drop offset bytes) ≡ spelling s → length (take (offset + RECORD_HEADER + k + c - offset) (drop offset bytes)) ≡ size_of s → k ≡ length s.key → n ≡ length (value_bytes s.value) → slot ≡ spelling (record s { value = value }))
    → HasChanged page (put_mid offset (offset + RECORD_HEADER + k + c - offset) bytes slot) offset value
changed-by_steps page bytes slot offset k n c r value was there fits is_page is_k is_n is_c rewrites =
    let t : IsThere page offset r = listed-IsThere page offset r was there in
    let ok : IsStored r = t.ok in
    let size : offset + RECORD_HEADER + k + c - offset ≡ size_of r = omega arith in
    let spelled : take (offset + RECORD_HEADER + k + c - offset) (drop offset bytes) ≡ spelling r = rw (size, is_page) t.bytes in
    let sized : length (take (offset + RECORD_HEADER + k + c - offset) (drop offset bytes)) ≡ size_of r = ap (λ (s : List ℕ). length s) spelled ∙ length-spelling r ok.value_fits in
    let new : slot ≡ spelling (record r { value = value }) = rewrites r spelled sized is_k is_n in
    let goal : HasChanged page (put_mid offset (size_of r) page (spelling (record r { value = value }))) offset value = listed-HasChanged page offset r was there value fits in
    let F : ℕ → List ℕ → List ℕ → Type 0 = λ m b s. HasChanged page (put_mid offset m b s) offset value in
    subst (λ (m : ℕ). F m bytes slot) (sym size) (subst (λ (b : List ℕ). F (size_of r) b slot) (sym is_page) (subst (λ (s : List ℕ). F (size_of r) page s) (sym new) goal))

-- the header of such a record lies in the page
pub room_within : (page : List ℕ) (offset n : ℕ) → IsLaidOut page → HasRoomAt (records_of page) offset n → offset + RECORD_HEADER ≤ PAGE_SIZE
room_within page offset n was room =
    let t : IsThere page offset room.stored = listed-IsThere page offset room.stored was room.listed in
    omega (arith, t.within, t.ends_in_page)
