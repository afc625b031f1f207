-- The records of a page, as in the log of FASTER (Chandramouli and others, 2018): each links to the next older one of its
-- hash bucket. The bytes are this project's own. A record has a header of 28 bytes (link, 8; hash of the key, 8; key length, 2; kind, 1;
-- form, 1; value length, 4; value capacity, 4), then the key, then as many bytes as its capacity: the value, then
-- zero bytes. Numbers are little-endian, the kind is 1 for a value and 2 for a tombstone, the form is 2, and a
-- record's size is a multiple of 8.
use Rattle.std.specs.Prelude.{◌≡◌, ◌<◌, ◌≤◌, ◌⊎◌, ℕ, zero, suc, ◌+◌, ◌-◌, ◌*◌, ◌/◌, ◌%◌, ◌^◌, List, [], ◌∷◌, ◌++◌, length, take, drop, replicate, slice_index, Option, None, Some, unwrap_or, nat_lt, ◌==◌, if◌then◌else◌}
use Rattle.std.specs.List.{All, AllByRecursion, AllPairs, Contains, flat_map}
use Rattle.records.specs.declared.pages.TheConstants.{PAGE_SIZE, HEADER_SIZE}
use Rattle.records.specs.declared.entries.TheConstants.{RECORD_HEADER, KEY_BYTES_MAX, HASH_AT, KEY_LENGTH_AT, VALUE_LENGTH_AT, CAPACITY_AT, KIND_AT, RECORD_FORM_AT, LENGTH_BITS, RECORD_FORM, VALUE, TOMBSTONE}
use Rattle.records.specs.Fields.{u16_bytes, u32_bytes, u64_bytes, u16_at, u32_at, u64_at}
use Rattle.records.specs.Page.{header, number_of, used_end, SameWithin}

-- what a record says. The link is the address of the next older record of its bucket, or 0; a record with no value is
-- a tombstone; a value of at most `capacity` bytes fits in place
pub record Stored : Type 0 where
  pub link : ℕ
  pub hash : ℕ
  pub key : List ℕ
  pub value : Option (List ℕ)
  pub capacity : ℕ

-- the bytes of a value, and none of a tombstone
abbrev pub value_bytes : Option (List ℕ) → List ℕ
value_bytes value = unwrap_or value []

-- the kind of a record with this value
abbrev pub kind_of : Option (List ℕ) → ℕ
kind_of None = TOMBSTONE
kind_of (Some bytes) = VALUE

-- a record of this kind may have a value of this length
abbrev pub IsKindFor : ℕ → ℕ → Type 0
IsKindFor kind value_length = ((kind ≡ VALUE) ⊎ (kind ≡ TOMBSTONE)) × (kind ≡ TOMBSTONE → value_length ≡ 0)

-- what a record of this kind holds whose value has these bytes
abbrev pub value_of_kind : ℕ → List ℕ → Option (List ℕ)
value_of_kind kind bytes = if kind == TOMBSTONE then None else Some bytes

-- how many bytes a record takes
abbrev pub size_of : Stored → ℕ
size_of r = RECORD_HEADER + length r.key + r.capacity

-- how many bytes a new record takes, by the lengths of its key and its value: the header and both, rounded up to a multiple of 8
abbrev pub size_for : ℕ → ℕ → ℕ
size_for key_length value_length = (RECORD_HEADER + key_length + value_length + 7) / 8 * 8

-- a new record, whose capacity is all that its size leaves
abbrev pub new_record : ℕ → ℕ → List ℕ → Option (List ℕ) → Stored
new_record link hash key value =
    record { link = link; hash = hash; key = key; value = value; capacity = size_for (length key) (length (value_bytes value)) - RECORD_HEADER - length key }

-- a record that can be spelled
pub record IsStored (r : Stored) : Type 0 where
  pub link_fits : r.link < 2 ^ 64
  pub hash_fits : r.hash < 2 ^ 64
  pub key_fits : length r.key ≤ KEY_BYTES_MAX
  pub value_fits : length (value_bytes r.value) ≤ r.capacity
  pub capacity_fits : r.capacity < 2 ^ LENGTH_BITS
  pub aligned : size_of r % 8 ≡ 0

-- the bytes of a record's header
unfoldable pub head : ℕ → ℕ → ℕ → ℕ → ℕ → ℕ → List ℕ
head link hash key_length kind value_length capacity =
    u64_bytes link ++ (u64_bytes hash ++ (u16_bytes key_length ++ (kind ∷ RECORD_FORM ∷ (u32_bytes value_length ++ u32_bytes capacity))))

-- the bytes of a value and of the zeros after it, up to a capacity
abbrev pub filled : Option (List ℕ) → ℕ → List ℕ
filled value capacity = value_bytes value ++ replicate (capacity - length (value_bytes value)) 0

-- the bytes of a record
unfoldable pub spelling : Stored → List ℕ
spelling r =
    head r.link r.hash (length r.key) (kind_of r.value) (length (value_bytes r.value)) r.capacity ++ (r.key ++ filled r.value r.capacity)

-- the offset at which records end that stand one after the other from an offset on
abbrev pub end_from : ℕ → List Stored → ℕ
end_from offset [] = offset
end_from offset (r ∷ rs) = end_from (offset + size_of r) rs

-- those records, each with its offset
abbrev pub placed : ℕ → List Stored → List (ℕ × Stored)
placed offset [] = []
placed offset (r ∷ rs) = (offset, r) ∷ placed (offset + size_of r) rs

-- the page with this number and these records
pub record IsPage (number : ℕ) (records : List Stored) (page : List ℕ) : Type 0 where
  pub number_fits : number < 2 ^ 64
  pub each : AllByRecursion IsStored records
  pub within : end_from HEADER_SIZE records ≤ PAGE_SIZE
  pub bytes : page ≡ header number (end_from HEADER_SIZE records) ++ (flat_map spelling records ++ replicate (PAGE_SIZE - end_from HEADER_SIZE records) 0)

-- what the bytes at an offset say as a record, whatever they are
unfoldable pub fields_at : List ℕ → ℕ → Stored
fields_at page offset =
    let key_length : ℕ = u16_at page (offset + KEY_LENGTH_AT) in
    let value_length : ℕ = u32_at page (offset + VALUE_LENGTH_AT) in
    record {
      link = u64_at page offset;
      hash = u64_at page (offset + HASH_AT);
      key = take key_length (drop (offset + RECORD_HEADER) page);
      value = value_of_kind (slice_index page (offset + KIND_AT)) (take value_length (drop (offset + RECORD_HEADER + key_length) page));
      capacity = u32_at page (offset + CAPACITY_AT);
    }

-- the records from an offset to the end of the used part, each with its offset, and at most n of them
unfoldable pub records_from : ℕ → List ℕ → ℕ → List (ℕ × Stored)
records_from zero page offset = []
records_from (suc n) page offset =
    if nat_lt offset (used_end page) then (offset, fields_at page offset) ∷ records_from n page (offset + size_of (fields_at page offset)) else []

-- the records of a page, oldest first, each with its offset
unfoldable pub records_of : List ℕ → List (ℕ × Stored)
records_of page = records_from (length page) page HEADER_SIZE

-- a record stands at this offset of a page whose used part has this end
pub record IsPlaced (end : ℕ) (entry : ℕ × Stored) : Type 0 where
  pub stored : IsStored entry.1
  pub past_header : HEADER_SIZE ≤ entry.0
  pub aligned : entry.0 % 8 ≡ 0
  pub within : entry.0 + size_of entry.1 ≤ end

-- the page is as this crate writes it: its header, records without gaps from the header to the end of the used part,
-- and zero bytes after it. What the last three fields say follows from the others, and speaks of no byte.
pub record IsLaidOut (page : List ℕ) : Type 0 where
  pub stored : List Stored
  pub is_page : IsPage (number_of page) stored page
  pub used : used_end page ≡ end_from HEADER_SIZE stored
  pub records : records_of page ≡ placed HEADER_SIZE stored
  pub in_page : used_end page ≤ PAGE_SIZE
  pub each : All (IsPlaced (used_end page)) (records_of page)
  pub in_order : AllPairs (λ a b. a.0 + size_of a.1 ≤ b.0) (records_of page)

-- one of the records stands at this offset, and has room for a value of n bytes
pub record HasRoomAt (records : List (ℕ × Stored)) (offset n : ℕ) : Type 0 where
  pub stored : Stored
  pub listed : Contains records (offset, stored)
  pub fits : n ≤ stored.capacity

-- a record with its offset, where the record at this offset takes another value, or none, in place
abbrev pub with_value : ℕ → Option (List ℕ) → ℕ × Stored → ℕ × Stored
with_value offset value entry = if entry.0 == offset then (entry.0, record entry.1 { value = value }) else entry

-- a record that ends by this end may be read at this offset, whatever the bytes of the page are
pub record IsRecordBefore (end : ℕ) (page : List ℕ) (offset : ℕ) : Type 0 where
  pub ends_in_page : end ≤ PAGE_SIZE
  pub past_header : HEADER_SIZE ≤ offset
  pub used : offset < end
  pub aligned : offset % 8 ≡ 0
  pub form : slice_index page (offset + RECORD_FORM_AT) ≡ RECORD_FORM
  pub kind : IsKindFor (slice_index page (offset + KIND_AT)) (u32_at page (offset + VALUE_LENGTH_AT))
  pub key_length : u16_at page (offset + KEY_LENGTH_AT) ≤ KEY_BYTES_MAX
  pub value_length : u32_at page (offset + VALUE_LENGTH_AT) ≤ u32_at page (offset + CAPACITY_AT)
  pub size : (RECORD_HEADER + u16_at page (offset + KEY_LENGTH_AT) + u32_at page (offset + CAPACITY_AT)) % 8 ≡ 0
  pub within : offset + (RECORD_HEADER + u16_at page (offset + KEY_LENGTH_AT) + u32_at page (offset + CAPACITY_AT)) ≤ end

-- a record may be read at this offset of the page's used part, whatever the bytes of the page are
abbrev pub IsRecordAt : (page : List ℕ) (offset : ℕ) → Type 0
IsRecordAt page offset = IsRecordBefore (used_end page) page offset

-- the page has the bytes from this offset up to this end of a whole page, which is laid out and has this record at the offset
pub record HasPiece (offset end : ℕ) (page : List ℕ) (r : Stored) : Type 0 where
  pub whole : List ℕ
  pub laid_out : IsLaidOut whole
  pub listed : Contains (records_of whole) (offset, r)
  pub same : SameWithin offset end page whole
  pub in_page : end ≤ PAGE_SIZE
