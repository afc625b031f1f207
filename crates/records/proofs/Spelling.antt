-- The bytes of a record: their number, and what they say.
use Rattle.std.proofs.Common.{◌≡◌, ℕ, ◌+◌, ◌-◌, ◌<◌, ◌≤◌, ◌^◌, List, [], ◌++◌, length, take, drop, replicate, Option, None, Some, refl, sym, ap, ◌∙◌, arith, length-append, append_assoc, slice_index, cond, eqb}
use Rattle.std.proofs.lemmas.List.{take_at, drop_at, drop-drop, get_or-drop, length-replicate}
use Rattle.records.specs.declared.entries.TheConstants.{RECORD_HEADER, HASH_AT, KEY_LENGTH_AT, VALUE_LENGTH_AT, CAPACITY_AT, KIND_AT, RECORD_FORM_AT, LENGTH_BITS, RECORD_FORM, TOMBSTONE}
use Rattle.records.specs.Fields.{u16_bytes, u32_bytes, u64_bytes, u16_at, u32_at, u64_at}
use Rattle.records.specs.Records.{Stored, IsStored, value_bytes, kind_of, size_of, head, filled, spelling, fields_at}
use Rattle.records.proofs.Numbers.{u16_at-front, u32_at-front, u64_at-front, u16_at-add, u32_at-add, u64_at-add}

pub length-head : (link hash k kind v c : ℕ) → length (head link hash k kind v c) ≡ RECORD_HEADER
unfolding head u16_bytes u32_bytes u64_bytes
length-head link hash k kind v c = refl

pub length-filled : (value : Option (List ℕ)) (capacity : ℕ) → length (value_bytes value) ≤ capacity → length (filled value capacity) ≡ capacity
length-filled value capacity fits =
    omega (arith, length-append (value_bytes value) (replicate (capacity - length (value_bytes value)) 0), length-replicate {A = ℕ} (capacity - length (value_bytes value)) 0)

pub length-spelling : (r : Stored) → length (value_bytes r.value) ≤ r.capacity → length (spelling r) ≡ size_of r
unfolding spelling
length-spelling r fits =
    let front = length-append (head r.link r.hash (length r.key) (kind_of r.value) (length (value_bytes r.value)) r.capacity) (r.key ++ filled r.value r.capacity) in
    let back = length-append r.key (filled r.value r.capacity) in
    omega (arith, front, back, length-head r.link r.hash (length r.key) (kind_of r.value) (length (value_bytes r.value)) r.capacity, length-filled r.value r.capacity fits)

-- the fields of a record's bytes, whatever follows them
pub link-is : (r : Stored) (rest : List ℕ) → r.link < 2 ^ 64 → u64_at (spelling r ++ rest) 0 ≡ r.link
unfolding u64_at u64_bytes spelling head
link-is r rest h = u64_at-front r.link [] h

pub hash-is : (r : Stored) (rest : List ℕ) → r.hash < 2 ^ 64 → u64_at (spelling r ++ rest) HASH_AT ≡ r.hash
unfolding u64_at u64_bytes spelling head
hash-is r rest h = u64_at-front r.hash [] h

pub key_length-is : (r : Stored) (rest : List ℕ) → length r.key < 2 ^ 16 → u16_at (spelling r ++ rest) KEY_LENGTH_AT ≡ length r.key
unfolding u16_at u16_bytes u64_bytes spelling head
key_length-is r rest h = u16_at-front (length r.key) [] h

pub value_length-is : (r : Stored) (rest : List ℕ) → length (value_bytes r.value) < 2 ^ LENGTH_BITS → u32_at (spelling r ++ rest) VALUE_LENGTH_AT ≡ length (value_bytes r.value)
unfolding u32_at u16_bytes u32_bytes u64_bytes spelling head
value_length-is r rest h = u32_at-front (length (value_bytes r.value)) [] h

pub capacity-is : (r : Stored) (rest : List ℕ) → r.capacity < 2 ^ LENGTH_BITS → u32_at (spelling r ++ rest) CAPACITY_AT ≡ r.capacity
unfolding u32_at u16_bytes u32_bytes u64_bytes spelling head
capacity-is r rest h = u32_at-front r.capacity [] h

pub kind-is : (r : Stored) (rest : List ℕ) → slice_index (spelling r ++ rest) KIND_AT ≡ kind_of r.value
unfolding u16_bytes u64_bytes spelling head
kind-is r rest = refl

pub form-is : (r : Stored) (rest : List ℕ) → slice_index (spelling r ++ rest) RECORD_FORM_AT ≡ RECORD_FORM
unfolding u16_bytes u64_bytes spelling head
form-is r rest = refl

pub behind_head : (r : Stored) (rest : List ℕ) → drop RECORD_HEADER (spelling r ++ rest) ≡ r.key ++ (filled r.value r.capacity ++ rest)
unfolding u16_bytes u32_bytes u64_bytes spelling head
behind_head r rest = append_assoc r.key (filled r.value r.capacity) rest

-- a place behind a part of the bytes
slice_index-add : (bytes : List ℕ) (a b : ℕ) → slice_index bytes (a + b) ≡ slice_index (drop a bytes) b
slice_index-add bytes a b = sym (get_or-drop a bytes b 0)

-- two records with the same fields
same_stored : (a b : Stored) → a.link ≡ b.link → a.hash ≡ b.hash → a.key ≡ b.key → a.value ≡ b.value → a.capacity ≡ b.capacity → a ≡ b
same_stored a b el eh ek ev ec =
    let with_link : ℕ → Stored = λ x. record { link = x; hash = a.hash; key = a.key; value = a.value; capacity = a.capacity } in
    let with_hash : ℕ → Stored = λ x. record { link = b.link; hash = x; key = a.key; value = a.value; capacity = a.capacity } in
    let with_key : List ℕ → Stored = λ x. record { link = b.link; hash = b.hash; key = x; value = a.value; capacity = a.capacity } in
    let with_value : Option (List ℕ) → Stored = λ x. record { link = b.link; hash = b.hash; key = b.key; value = x; capacity = a.capacity } in
    let with_capacity : ℕ → Stored = λ x. record { link = b.link; hash = b.hash; key = b.key; value = b.value; capacity = x } in
    ap with_link el ∙ (ap with_hash eh ∙ (ap with_key ek ∙ (ap with_value ev ∙ ap with_capacity ec)))

-- the value that the kind, the length and the bytes say
value_from : (value : Option (List ℕ)) (kind n : ℕ) (bytes : List ℕ) → kind ≡ kind_of value → take n bytes ≡ value_bytes value → cond (eqb kind TOMBSTONE) None (Some (take n bytes)) ≡ value
value_from None kind n bytes ek eb = ap (λ k. cond (eqb k TOMBSTONE) None (Some (take n bytes))) ek
value_from (Some xs) kind n bytes ek eb = ap (λ k. cond (eqb k TOMBSTONE) None (Some (take n bytes))) ek ∙ ap (λ ys. Some ys) eb

-- where the bytes of a record stand at an offset, the fields there say that record
module _ (page : List ℕ) (offset : ℕ) (r : Stored) (rest : List ℕ) (here : drop offset page ≡ spelling r ++ rest) (ok : IsStored r) where
  pub link_at : u64_at page offset ≡ r.link
  unfolding u64_at
  link_at = ap (λ s. u64_at s 0) here ∙ link-is r rest ok.link_fits

  pub hash_at : u64_at page (offset + HASH_AT) ≡ r.hash
  hash_at = u64_at-add page offset HASH_AT ∙ (ap (λ s. u64_at s HASH_AT) here ∙ hash-is r rest ok.hash_fits)

  pub key_length_at : u16_at page (offset + KEY_LENGTH_AT) ≡ length r.key
  key_length_at = u16_at-add page offset KEY_LENGTH_AT ∙ (ap (λ s. u16_at s KEY_LENGTH_AT) here ∙ key_length-is r rest (omega (arith, ok.key_fits)))

  pub value_length_at : u32_at page (offset + VALUE_LENGTH_AT) ≡ length (value_bytes r.value)
  value_length_at = u32_at-add page offset VALUE_LENGTH_AT ∙ (ap (λ s. u32_at s VALUE_LENGTH_AT) here ∙ value_length-is r rest (omega (arith, ok.value_fits, ok.capacity_fits)))

  pub capacity_at : u32_at page (offset + CAPACITY_AT) ≡ r.capacity
  capacity_at = u32_at-add page offset CAPACITY_AT ∙ (ap (λ s. u32_at s CAPACITY_AT) here ∙ capacity-is r rest ok.capacity_fits)

  pub kind_at : slice_index page (offset + KIND_AT) ≡ kind_of r.value
  kind_at = slice_index-add page offset KIND_AT ∙ (ap (λ s. slice_index s KIND_AT) here ∙ kind-is r rest)

  pub form_at : slice_index page (offset + RECORD_FORM_AT) ≡ RECORD_FORM
  form_at = slice_index-add page offset RECORD_FORM_AT ∙ (ap (λ s. slice_index s RECORD_FORM_AT) here ∙ form-is r rest)

  -- the key and what follows it
  behind : drop (offset + RECORD_HEADER) page ≡ r.key ++ (filled r.value r.capacity ++ rest)
  behind = sym (drop-drop RECORD_HEADER offset page) ∙ (ap (λ s. drop RECORD_HEADER s) here ∙ behind_head r rest)

  key_at : take (u16_at page (offset + KEY_LENGTH_AT)) (drop (offset + RECORD_HEADER) page) ≡ r.key
  key_at = ap (λ s. take (u16_at page (offset + KEY_LENGTH_AT)) s) behind ∙ take_at r.key (filled r.value r.capacity ++ rest) (u16_at page (offset + KEY_LENGTH_AT)) (sym key_length_at)

  value_at : take (u32_at page (offset + VALUE_LENGTH_AT)) (drop (offset + RECORD_HEADER + u16_at page (offset + KEY_LENGTH_AT)) page) ≡ value_bytes r.value
  value_at =
      let k : ℕ = u16_at page (offset + KEY_LENGTH_AT) in
      let n : ℕ = u32_at page (offset + VALUE_LENGTH_AT) in
      let spare : List ℕ = replicate (r.capacity - length (value_bytes r.value)) 0 ++ rest in
      let past_key : drop (offset + RECORD_HEADER + k) page ≡ filled r.value r.capacity ++ rest =
      sym (drop-drop k (offset + RECORD_HEADER) page) ∙ (ap (λ s. drop k s) behind ∙ drop_at r.key (filled r.value r.capacity ++ rest) k (sym key_length_at)) in
      ap (λ s. take n s) (past_key ∙ append_assoc (value_bytes r.value) (replicate (r.capacity - length (value_bytes r.value)) 0) rest) ∙ take_at (value_bytes r.value) spare n (sym value_length_at)

  pub fields_at-is : fields_at page offset ≡ r
  unfolding fields_at
  fields_at-is =
      same_stored (fields_at page offset) r link_at hash_at key_at
      (value_from r.value (slice_index page (offset + KIND_AT)) (u32_at page (offset + VALUE_LENGTH_AT)) (drop (offset + RECORD_HEADER + u16_at page (offset + KEY_LENGTH_AT)) page) kind_at value_at)
      capacity_at
