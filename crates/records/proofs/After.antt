-- What a page that is laid out holds after a record is put into it, or takes another value.
use Rattle.std.proofs.Common.{◌≡◌, ℕ, ◌+◌, ◌-◌, ◌<◌, ◌≤◌, ◌^◌, List, [], ◌∷◌, ◌++◌, length, Option, refl, sym, ap, ◌∙◌, arith, subst, drop, take, replicate, length-append, length-take, length-drop}
use borrow.Rule.Slice.PartMut.{put_mid}
use Rattle.records.specs.declared.pages.TheConstants.{PAGE_SIZE, HEADER_SIZE, USED_END_AT}
use Rattle.records.specs.declared.entries.TheConstants.{RECORD_HEADER, KEY_BYTES_MAX}
use Rattle.records.specs.Fields.{u32_bytes}
use Rattle.records.specs.Page.{empty_page, number_of, used_end}
use Rattle.records.specs.Records.{Stored, IsStored, value_bytes, size_of, size_for, new_record, spelling, end_from, IsPage, records_of, IsLaidOut}
use Rattle.records.proofs.Lists.{end_from-append, placed-append}
use Rattle.records.proofs.Laid.{page-number, page-end, page-records, page-laid_out, empty-page, appended-page, blank-behind}

-- the size of a new record
pub size_of-new_record : (link hash : ℕ) (key : List ℕ) (value : Option (List ℕ)) → size_of (new_record link hash key value) ≡ size_for (length key) (length (value_bytes value))
size_of-new_record link hash key value = omega arith

pub IsStored-new_record : (link hash : ℕ) (key : List ℕ) (value : Option (List ℕ))
    → link < 2 ^ 64 → hash < 2 ^ 64 → length key ≤ KEY_BYTES_MAX → size_for (length key) (length (value_bytes value)) ≤ PAGE_SIZE → IsStored (new_record link hash key value)
IsStored-new_record link hash key value hl hh hk hs =
    record { link_fits = hl; hash_fits = hh; key_fits = hk; value_fits = omega arith; capacity_fits = omega arith; aligned = omega arith }

-- a page with no record
pub record IsEmpty (number : ℕ) (page : List ℕ) : Type 0 where
  pub number_is : number_of page ≡ number
  pub end_is : used_end page ≡ HEADER_SIZE
  pub records_are : records_of page ≡ []
  pub laid_out : IsLaidOut page

pub empty_page-IsEmpty : (number : ℕ) → number < 2 ^ 64 → IsEmpty number (empty_page number)
empty_page-IsEmpty number h =
    let is : IsPage number [] (empty_page number) = empty-page number h in
    record {
      number_is = page-number number [] (empty_page number) is;
      end_is = page-end number [] (empty_page number) is;
      records_are = page-records number [] (empty_page number) is;
      laid_out = page-laid_out number [] (empty_page number) is;
    }

-- a page with one more record
pub record HasGained (old new : List ℕ) (r : Stored) : Type 0 where
  pub number_is : number_of new ≡ number_of old
  pub end_is : used_end new ≡ used_end old + size_of r
  pub records_are : records_of new ≡ records_of old ++ (used_end old, r) ∷ []
  pub laid_out : IsLaidOut new

pub put-HasGained : (old : List ℕ) (r : Stored) → IsLaidOut old → IsStored r → used_end old + size_of r ≤ PAGE_SIZE
    → HasGained old (put_mid (used_end old) (size_of r) (put_mid USED_END_AT 4 old (u32_bytes (used_end old + size_of r))) (spelling r)) r
put-HasGained old r was ok room =
    let rs : List Stored = was.stored in
    let new_at : ℕ → List ℕ = λ end. put_mid end (size_of r) (put_mid USED_END_AT 4 old (u32_bytes (end + size_of r))) (spelling r) in
    let P : ℕ → Type 0 = λ end. IsPage (number_of old) (rs ++ r ∷ []) (new_at end) in
    let is : IsPage (number_of old) (rs ++ r ∷ []) (new_at (used_end old)) =
    subst P (sym was.used) (appended-page (number_of old) rs old r was.is_page ok (omega (arith, was.used, room))) in
    let new : List ℕ = new_at (used_end old) in
    record {
      number_is = page-number (number_of old) (rs ++ r ∷ []) new is;
      end_is = page-end (number_of old) (rs ++ r ∷ []) new is ∙ (end_from-append HEADER_SIZE rs (r ∷ []) ∙ ap (λ end. end + size_of r) (sym was.used));
      records_are =
          page-records (number_of old) (rs ++ r ∷ []) new is
          ∙ (placed-append HEADER_SIZE rs (r ∷ []) ∙ rw (← was.records, ← was.used) refl);
      laid_out = page-laid_out (number_of old) (rs ++ r ∷ []) new is;
    }

-- the same, by the steps of `put_record`
pub put-by_steps : (old bytes field slot key : List ℕ) (link hash end size room : ℕ) (value : Option (List ℕ))
    → IsLaidOut old → link < 2 ^ 64 → hash < 2 ^ 64 → length key ≤ KEY_BYTES_MAX
    → bytes ≡ old → end ≡ used_end old → size ≡ size_for (length key) (length (value_bytes value)) → size ≤ PAGE_SIZE - end
    → field ≡ u32_bytes (end + size)
    → room ≡ size → slot ≡ spelling (record { link = link; hash = hash; key = key; value = value; capacity = room - RECORD_HEADER - length key })
    → HasGained old (put_mid end (end + size - end) (put_mid USED_END_AT 4 bytes field) slot) (new_record link hash key value)
put-by_steps old bytes field slot key link hash end size room value was hl hh hk is_bytes is_end is_size fits is_field is_room is_slot =
    let r : Stored = new_record link hash key value in
    let total : size_of r ≡ size_for (length key) (length (value_bytes value)) = size_of-new_record link hash key value in
    let ok : IsStored r = IsStored-new_record link hash key value hl hh hk (omega arith) in
    let positive : RECORD_HEADER ≤ size = omega arith in
    let within : used_end old + size_of r ≤ PAGE_SIZE = omega (arith, positive) in
    let goal : HasGained old (put_mid (used_end old) (size_of r) (put_mid USED_END_AT 4 old (u32_bytes (used_end old + size_of r))) (spelling r)) r = put-HasGained old r was ok within in
    let at_slot : slot ≡ spelling r = is_slot ∙ ap (λ (n : ℕ). spelling (record { link = link; hash = hash; key = key; value = value; capacity = n - RECORD_HEADER - length key })) (is_room ∙ is_size) in
    let at_size : end + size - end ≡ size_of r = omega arith in
    let at_field : field ≡ u32_bytes (used_end old + size_of r) = is_field ∙ ap (λ (n : ℕ). u32_bytes n) (omega arith) in
    let F : ℕ → ℕ → List ℕ → List ℕ → List ℕ → Type 0 = λ e n b u s. HasGained old (put_mid e n (put_mid USED_END_AT 4 b u) s) r in
    let a : F (used_end old) (size_of r) old (u32_bytes (used_end old + size_of r)) slot = subst (λ (s : List ℕ). F (used_end old) (size_of r) old (u32_bytes (used_end old + size_of r)) s) (sym at_slot) goal in
    let b : F (used_end old) (size_of r) old field slot = subst (λ (u : List ℕ). F (used_end old) (size_of r) old u slot) (sym at_field) a in
    let c : F (used_end old) (size_of r) bytes field slot = subst (λ (x : List ℕ). F (used_end old) (size_of r) x field slot) (sym is_bytes) b in
    let d : F (used_end old) (end + size - end) bytes field slot = subst (λ (n : ℕ). F (used_end old) n bytes field slot) (sym at_size) c in
    subst (λ (e : ℕ). F e (end + size - end) bytes field slot) (sym is_end) d

-- the length of the part of the page that a new record takes
pub slot-length : (bytes field : List ℕ) (end size : ℕ) → length bytes ≡ PAGE_SIZE → length field ≡ 4 → size ≤ PAGE_SIZE - end
    → length (take (end + size - end) (drop end (put_mid USED_END_AT 4 bytes field))) ≡ size
slot-length bytes field end size is_bytes is_field fits =
    let whole : length (put_mid USED_END_AT 4 bytes field) ≡ PAGE_SIZE =
    omega (
      arith,
      length-append (take 8 bytes) (field ++ drop 4 (drop 8 bytes)),
      length-append field (drop 4 (drop 8 bytes)),
      length-take 8 bytes,
      length-drop 4 (drop 8 bytes),
      length-drop 8 bytes,
    ) in
    omega (arith, whole, length-take (end + size - end) (drop end (put_mid USED_END_AT 4 bytes field)), length-drop end (put_mid USED_END_AT 4 bytes field))

-- that part is zero before the record is written
pub slot-blank : (old bytes field : List ℕ) (end size : ℕ) → IsLaidOut old → bytes ≡ old → end ≡ used_end old → field ≡ u32_bytes (end + size) → length bytes ≡ PAGE_SIZE → length field ≡ 4 → size ≤ PAGE_SIZE - end
    → take (end + size - end) (drop end (put_mid USED_END_AT 4 bytes field)) ≡ replicate (length (take (end + size - end) (drop end (put_mid USED_END_AT 4 bytes field)))) 0
slot-blank old bytes field end size was is_bytes is_end is_field length_bytes length_field fits =
    let all : ℕ = end + size - end in
    let is_size : all ≡ size = omega arith in
    let is_used : end ≡ end_from HEADER_SIZE was.stored = is_end ∙ was.used in
    let blank : take all (drop (end_from HEADER_SIZE was.stored) (put_mid USED_END_AT 4 old (u32_bytes (end + size)))) ≡ replicate all 0 =
    blank-behind (number_of old) was.stored old (end + size) all was.is_page (omega (arith, is_size, is_used, fits)) in
    let here : take all (drop end (put_mid USED_END_AT 4 bytes field)) ≡ replicate all 0 =
    subst (λ (e : ℕ). take all (drop e (put_mid USED_END_AT 4 bytes field)) ≡ replicate all 0) (sym is_used)
    (subst (λ (b : List ℕ). take all (drop (end_from HEADER_SIZE was.stored) (put_mid USED_END_AT 4 b field)) ≡ replicate all 0) (sym is_bytes)
    (subst (λ (u : List ℕ). take all (drop (end_from HEADER_SIZE was.stored) (put_mid USED_END_AT 4 old u)) ≡ replicate all 0) (sym is_field) blank)) in
    here ∙ ap (λ (n : ℕ). replicate n 0) (sym (slot-length bytes field end size length_bytes length_field fits ∙ sym is_size))
