-- A piece of a page that is laid out: what it says of the records there.
use Rattle.std.proofs.Common.{◌≡◌, ℕ, ◌+◌, ◌-◌, ◌%◌, ◌<◌, ◌≤◌, List, ◌++◌, length, take, drop, slice_index, refl, sym, ap, ◌∙◌, arith, ⊎_elim, add-zero, lit<, subst}
use Rattle.std.proofs.lemmas.Bool.{cases_lt}
use Rattle.std.proofs.lemmas.List.{take-take, drop-take, drop-drop, take-append-drop, get_or-drop, get_or-take}
use Rattle.records.specs.declared.entries.TheConstants.{RECORD_HEADER, KEY_BYTES_MAX, HASH_AT, KEY_LENGTH_AT, VALUE_LENGTH_AT, CAPACITY_AT, KIND_AT, RECORD_FORM_AT}
use Rattle.records.specs.Fields.{u16_at, u32_at, u64_at}
use Rattle.records.specs.Page.{SameWithin}
use Rattle.records.specs.Records.{Stored, IsStored, size_of, spelling, fields_at, value_bytes, IsKindFor, IsRecordBefore, HasPiece}
use Rattle.records.proofs.Spelling.{key_length_at, value_length_at, capacity_at, kind_at, form_at, fields_at-is}
use Rattle.records.proofs.Numbers.{same-u16_at, same-u32_at, same-u64_at}
use Rattle.records.proofs.There.{IsThere, listed-IsThere, kind-is-for}

-- a part of a part is a part
part-part : (from to inner last : ℕ) (xs : List ℕ) → from ≤ inner → inner ≤ last → last ≤ to
    → take (last - inner) (drop (inner - from) (take (to - from) (drop from xs))) ≡ take (last - inner) (drop inner xs)
part-part from to inner last xs after in_order before =
    let n : ℕ = inner - from in
    let m : ℕ = to - inner in
    let k : ℕ = last - inner in
    let whole : to - from ≡ n + m = omega arith in
    let front : from + n ≡ inner = omega arith in
    let fits : k ≤ m = omega arith in
    ap (λ (w : ℕ). take k (drop n (take w (drop from xs)))) whole
    ∙ (ap (λ (s : List ℕ). take k s) (drop-take n m (drop from xs) ∙ (ap (λ (s : List ℕ). take m s) (drop-drop n from xs) ∙ ap (λ (w : ℕ). take m (drop w xs)) front))
    ∙ take-take k m (drop inner xs) fits)

-- of what two lists have in common from one place up to another, they have each part in common
pub same-part : (from to inner last : ℕ) (page other : List ℕ) → from ≤ inner → last ≤ to → SameWithin from to page other → SameWithin inner last page other
same-part from to inner last page other after before same =
    let some : inner < last → SameWithin inner last page other = λ in_order.
    sym (part-part from to inner last page after (omega (arith, in_order)) before)
    ∙ (ap (λ (s : List ℕ). take (last - inner) (drop (inner - from) s)) same ∙ part-part from to inner last other after (omega (arith, in_order)) before) in
    let none : last ≤ inner → SameWithin inner last page other = λ h.
    let nothing : last - inner ≡ 0 = omega (arith, h) in
    rw nothing refl in
    ⊎_elim some none (cases_lt inner last)

-- the byte at a place
same-byte : (page other : List ℕ) (at : ℕ) → take 1 (drop at page) ≡ take 1 (drop at other) → slice_index page at ≡ slice_index other at
same-byte page other at same =
    let here : (xs : List ℕ) → slice_index xs at ≡ slice_index (take 1 (drop at xs)) 0 = λ xs.
    ap (λ (n : ℕ). slice_index xs n) (sym (add-zero at)) ∙ (sym (get_or-drop at xs 0 0) ∙ sym (get_or-take 1 (drop at xs) 0 0 (lit< tt))) in
    here page ∙ (ap (λ (s : List ℕ). slice_index s 0) same ∙ sym (here other))

-- what two pages have in common from a place on says the same record there
module _ (offset end : ℕ) (page other : List ℕ) (same : SameWithin offset end page other) (at : IsRecordBefore end page offset) where
  within : offset + (RECORD_HEADER + u16_at page (offset + KEY_LENGTH_AT) + u32_at page (offset + CAPACITY_AT)) ≤ end
  within = at.within

  value_fits : u32_at page (offset + VALUE_LENGTH_AT) ≤ u32_at page (offset + CAPACITY_AT)
  value_fits = at.value_length

  -- the bytes of the record from one place up to another
  part : (from n : ℕ) → offset ≤ from → from + n ≤ end → take n (drop from page) ≡ take n (drop from other)
  part from n after before =
      let cut : from + n - from ≡ n = omega arith in
      rw cut at (same-part offset end from (from + n) page other after before same)

  same-link : u64_at page offset ≡ u64_at other offset
  same-link = same-u64_at page other offset (part offset 8 (omega arith) (omega (arith, within)))

  same-hash : u64_at page (offset + HASH_AT) ≡ u64_at other (offset + HASH_AT)
  same-hash = same-u64_at page other (offset + HASH_AT) (part (offset + HASH_AT) 8 (omega arith) (omega (arith, within)))

  same-key_length : u16_at page (offset + KEY_LENGTH_AT) ≡ u16_at other (offset + KEY_LENGTH_AT)
  same-key_length = same-u16_at page other (offset + KEY_LENGTH_AT) (part (offset + KEY_LENGTH_AT) 2 (omega arith) (omega (arith, within)))

  same-value_length : u32_at page (offset + VALUE_LENGTH_AT) ≡ u32_at other (offset + VALUE_LENGTH_AT)
  same-value_length = same-u32_at page other (offset + VALUE_LENGTH_AT) (part (offset + VALUE_LENGTH_AT) 4 (omega arith) (omega (arith, within)))

  same-capacity : u32_at page (offset + CAPACITY_AT) ≡ u32_at other (offset + CAPACITY_AT)
  same-capacity = same-u32_at page other (offset + CAPACITY_AT) (part (offset + CAPACITY_AT) 4 (omega arith) (omega (arith, within)))

  same-kind : slice_index page (offset + KIND_AT) ≡ slice_index other (offset + KIND_AT)
  same-kind = same-byte page other (offset + KIND_AT) (part (offset + KIND_AT) 1 (omega arith) (omega (arith, within)))

  same-form : slice_index page (offset + RECORD_FORM_AT) ≡ slice_index other (offset + RECORD_FORM_AT)
  same-form = same-byte page other (offset + RECORD_FORM_AT) (part (offset + RECORD_FORM_AT) 1 (omega arith) (omega (arith, within)))

  same-key : take (u16_at page (offset + KEY_LENGTH_AT)) (drop (offset + RECORD_HEADER) page) ≡ take (u16_at other (offset + KEY_LENGTH_AT)) (drop (offset + RECORD_HEADER) other)
  same-key =
      part (offset + RECORD_HEADER) (u16_at page (offset + KEY_LENGTH_AT)) (omega arith) (omega (arith, within))
      ∙ ap (λ (n : ℕ). take n (drop (offset + RECORD_HEADER) other)) same-key_length

  same-value : take (u32_at page (offset + VALUE_LENGTH_AT)) (drop (offset + RECORD_HEADER + u16_at page (offset + KEY_LENGTH_AT)) page)
      ≡ take (u32_at other (offset + VALUE_LENGTH_AT)) (drop (offset + RECORD_HEADER + u16_at other (offset + KEY_LENGTH_AT)) other)
  same-value =
      part (offset + RECORD_HEADER + u16_at page (offset + KEY_LENGTH_AT)) (u32_at page (offset + VALUE_LENGTH_AT)) (omega arith) (omega (arith, within, value_fits))
      ∙ (ap (λ (n : ℕ). take n (drop (offset + RECORD_HEADER + u16_at page (offset + KEY_LENGTH_AT)) other)) same-value_length
      ∙ ap (λ (k : ℕ). take (u32_at other (offset + VALUE_LENGTH_AT)) (drop (offset + RECORD_HEADER + k) other)) same-key_length)

  pub same-IsRecordBefore : IsRecordBefore end other offset
  same-IsRecordBefore =
      record {
        ends_in_page = at.ends_in_page;
        past_header = at.past_header;
        used = at.used;
        aligned = at.aligned;
        form = sym same-form ∙ at.form;
        kind = subst (λ (k : ℕ). IsKindFor k (u32_at other (offset + VALUE_LENGTH_AT))) same-kind (subst (λ (n : ℕ). IsKindFor (slice_index page (offset + KIND_AT)) n) same-value_length at.kind);
        key_length = subst (λ (n : ℕ). n ≤ KEY_BYTES_MAX) same-key_length at.key_length;
        value_length = omega (arith, value_fits, same-value_length, same-capacity);
        size = rw (← same-key_length, ← same-capacity) at.size;
        within = omega (arith, within, same-key_length, same-capacity);
      }

  pub same-fields : fields_at page offset ≡ fields_at other offset
  unfolding fields_at
  same-fields = rw (same-link, same-hash, same-capacity, same-kind, same-key, same-value) refl

-- a record that ends in the piece
pub record IsInPiece (offset end : ℕ) (page : List ℕ) (r : Stored) : Type 0 where
  pub is_record : IsRecordBefore end page offset
  pub fields : fields_at page offset ≡ r

pub whole-IsInPiece : (offset end : ℕ) (page : List ℕ) (r : Stored) → HasPiece offset end page r → offset + size_of r ≤ end → IsInPiece offset end page r
whole-IsInPiece offset end page r piece fits =
    let t : IsThere piece.whole offset r = listed-IsThere piece.whole offset r piece.laid_out piece.listed in
    let ok : IsStored r = t.ok in
    let value_fits : length (value_bytes r.value) ≤ r.capacity = ok.value_fits in
    let rest : List ℕ = drop (size_of r) (drop offset page) in
    let cut : offset + size_of r - offset ≡ size_of r = omega arith in
    let same : SameWithin offset (offset + size_of r) page piece.whole = same-part offset end offset (offset + size_of r) page piece.whole (omega arith) fits piece.same in
    let front : take (size_of r) (drop offset page) ≡ spelling r = rw cut at same ∙ t.bytes in
    let here : drop offset page ≡ spelling r ++ rest = sym (take-append-drop (size_of r) (drop offset page)) ∙ ap (λ (s : List ℕ). s ++ rest) front in
    let key_length : u16_at page (offset + KEY_LENGTH_AT) ≡ length r.key = key_length_at page offset r rest here ok in
    let value_length : u32_at page (offset + VALUE_LENGTH_AT) ≡ length (value_bytes r.value) = value_length_at page offset r rest here ok in
    let capacity : u32_at page (offset + CAPACITY_AT) ≡ r.capacity = capacity_at page offset r rest here ok in
    let sizes : RECORD_HEADER + u16_at page (offset + KEY_LENGTH_AT) + u32_at page (offset + CAPACITY_AT) ≡ size_of r = omega (arith, key_length, capacity) in
    record {
      is_record =
          record {
            ends_in_page = piece.in_page;
            past_header = t.past_header;
            used = omega (arith, fits);
            aligned = t.aligned;
            form = form_at page offset r rest here ok;
            kind = kind-is-for r.value (slice_index page (offset + KIND_AT)) (u32_at page (offset + VALUE_LENGTH_AT)) (kind_at page offset r rest here ok) value_length;
            key_length = omega (arith, key_length, ok.key_fits);
            value_length = omega (arith, value_length, capacity, value_fits);
            size = ap (λ n. n % 8) sizes ∙ ok.aligned;
            within = omega (arith, sizes, fits);
          };
      fields = fields_at-is page offset r rest here ok;
    }

-- a record that may be read in the piece ends there
pub piece-within : (offset end : ℕ) (page : List ℕ) (r : Stored) → HasPiece offset end page r → IsRecordBefore end page offset → offset + size_of r ≤ end
piece-within offset end page r piece at =
    let t : IsThere piece.whole offset r = listed-IsThere piece.whole offset r piece.laid_out piece.listed in
    let within : offset + (RECORD_HEADER + u16_at page (offset + KEY_LENGTH_AT) + u32_at page (offset + CAPACITY_AT)) ≤ end = at.within in
    let key_cut : offset + KEY_LENGTH_AT + 2 - (offset + KEY_LENGTH_AT) ≡ 2 = omega arith in
    let capacity_cut : offset + CAPACITY_AT + 4 - (offset + CAPACITY_AT) ≡ 4 = omega arith in
    let key_bytes : SameWithin (offset + KEY_LENGTH_AT) (offset + KEY_LENGTH_AT + 2) page piece.whole =
    same-part offset end (offset + KEY_LENGTH_AT) (offset + KEY_LENGTH_AT + 2) page piece.whole (omega arith) (omega (arith, within)) piece.same in
    let capacity_bytes : SameWithin (offset + CAPACITY_AT) (offset + CAPACITY_AT + 4) page piece.whole =
    same-part offset end (offset + CAPACITY_AT) (offset + CAPACITY_AT + 4) page piece.whole (omega arith) (omega (arith, within)) piece.same in
    let key_length : u16_at page (offset + KEY_LENGTH_AT) ≡ length r.key = same-u16_at page piece.whole (offset + KEY_LENGTH_AT) (rw key_cut at key_bytes) ∙ t.key_length in
    let capacity : u32_at page (offset + CAPACITY_AT) ≡ r.capacity = same-u32_at page piece.whole (offset + CAPACITY_AT) (rw capacity_cut at capacity_bytes) ∙ t.capacity in
    omega (arith, key_length, capacity, within)

-- no record that ends in the piece stands where none may be read
pub unread : (offset end : ℕ) (page : List ℕ) → (IsRecordBefore end page offset → ⊥) → (r : Stored) → HasPiece offset end page r → offset + size_of r ≤ end → ⊥
unread offset end page none r piece fits =
    let is : IsInPiece offset end page r = whole-IsInPiece offset end page r piece fits in
    none is.is_record

-- what is read in the piece is the record that stands there
pub read-found : (offset end : ℕ) (page : List ℕ) (read : Stored) → read ≡ fields_at page offset → (r : Stored) → HasPiece offset end page r → offset + size_of r ≤ end → read ≡ r
read-found offset end page read e r piece fits =
    let is : IsInPiece offset end page r = whole-IsInPiece offset end page r piece fits in
    e ∙ is.fields

-- no record is read that ends past the piece
pub past-piece : (offset end : ℕ) (page : List ℕ) → IsRecordBefore end page offset → (r : Stored) → HasPiece offset end page r → end < offset + size_of r → ⊥
past-piece offset end page at r piece past = omega (arith, piece-within offset end page r piece at, past)
