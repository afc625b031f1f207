-- The bytes of a record after another value was written into them.
use Rattle.std.proofs.Common.{◌≡◌, ℕ, ◌-◌, List, [], ◌++◌, length, take, drop, Option, refl, sym, ap, ◌∙◌, arith, length-take, length-drop, append-nil}
use Rattle.std.proofs.Math.ListN.{set}
use Rattle.std.proofs.lemmas.List.{take_at, drop_at, drop_all, take_rest}
use Rattle.records.specs.declared.entries.TheConstants.{RECORD_HEADER, VALUE_LENGTH_AT, KIND_AT}
use Rattle.records.specs.Fields.{u16_bytes, u32_bytes, u64_bytes}
use Rattle.records.specs.Records.{Stored, value_bytes, kind_of, size_of, head, filled, spelling}

-- the header and the rest of a record's bytes
head-of : (link hash k kind v c : ℕ) (rest : List ℕ) → take RECORD_HEADER (head link hash k kind v c ++ rest) ≡ head link hash k kind v c
unfolding head u16_bytes u32_bytes u64_bytes
head-of link hash k kind v c rest = refl

rest-of : (link hash k kind v c : ℕ) (rest : List ℕ) → drop RECORD_HEADER (head link hash k kind v c ++ rest) ≡ rest
unfolding head u16_bytes u32_bytes u64_bytes
rest-of link hash k kind v c rest = refl

-- another value length and kind
head-set : (link hash k kind v c w other : ℕ)
    → set (take VALUE_LENGTH_AT (head link hash k kind v c) ++ (u32_bytes w ++ drop 4 (drop VALUE_LENGTH_AT (head link hash k kind v c)))) KIND_AT other ≡ head link hash k other w c
unfolding head u16_bytes u32_bytes u64_bytes
head-set link hash k kind v c w other = refl

-- after the steps of `rewrite_value`: the slot is cut into `top` and `rest`, the new value length is `field`, and the
-- bytes behind the key are `room`
pub rewritten : (r : Stored) (value : Option (List ℕ)) (slot top rest field room : List ℕ) (k kind : ℕ)
    → slot ≡ spelling r → length slot ≡ size_of r → k ≡ length r.key
    → top ≡ take RECORD_HEADER slot → rest ≡ drop RECORD_HEADER slot
    → field ≡ u32_bytes (length (value_bytes value)) → kind ≡ kind_of value
    → (take (length rest - k) (drop k rest) ≡ filled r.value (length (take (length rest - k) (drop k rest))) → room ≡ filled value (length (take (length rest - k) (drop k rest))))
    → set (take VALUE_LENGTH_AT top ++ (field ++ drop 4 (drop VALUE_LENGTH_AT top))) KIND_AT kind ++ (take k rest ++ (room ++ drop (length rest - k) (drop k rest)))
    ≡ spelling (record r { value = value })
unfolding spelling
rewritten r value slot top rest field room k kind is_slot is_size is_key is_top is_rest is_field is_kind is_room =
    let H : List ℕ = head r.link r.hash (length r.key) (kind_of r.value) (length (value_bytes r.value)) r.capacity in
    let G : List ℕ = filled r.value r.capacity in
    let T : List ℕ = r.key ++ G in
    let header : top ≡ H = is_top ∙ (ap (λ (s : List ℕ). take RECORD_HEADER s) is_slot ∙ head-of r.link r.hash (length r.key) (kind_of r.value) (length (value_bytes r.value)) r.capacity T) in
    let behind : rest ≡ T = is_rest ∙ (ap (λ (s : List ℕ). drop RECORD_HEADER s) is_slot ∙ rest-of r.link r.hash (length r.key) (kind_of r.value) (length (value_bytes r.value)) r.capacity T) in
    let key : take k rest ≡ r.key = ap (λ (s : List ℕ). take k s) behind ∙ take_at r.key G k (sym is_key) in
    let sizes : length rest ≡ length slot - RECORD_HEADER = ap (λ (s : List ℕ). length s) is_rest ∙ length-drop RECORD_HEADER slot in
    let after : drop k rest ≡ G = ap (λ (s : List ℕ). drop k s) behind ∙ drop_at r.key G k (sym is_key) in
    let part : List ℕ = take (length rest - k) (drop k rest) in
    let room_is : length part ≡ r.capacity = omega (arith, length-take (length rest - k) (drop k rest), length-drop k rest, sizes, is_size, is_key) in
    let part_is : part ≡ filled r.value (length part) = take_rest rest k ∙ (after ∙ ap (λ (m : ℕ). filled r.value m) (sym room_is)) in
    let nothing : drop (length rest - k) (drop k rest) ≡ [] =
    drop_all (length rest - k) (drop k rest) (omega (arith, length-drop k rest)) in
    let new_head : set (take VALUE_LENGTH_AT top ++ (field ++ drop 4 (drop VALUE_LENGTH_AT top))) KIND_AT kind ≡ head r.link r.hash (length r.key) (kind_of value) (length (value_bytes value)) r.capacity =
    rw (header, is_field, is_kind) (head-set r.link r.hash (length r.key) (kind_of r.value) (length (value_bytes r.value)) r.capacity (length (value_bytes value)) (kind_of value)) in
    let new_room : room ≡ filled value r.capacity = is_room part_is ∙ ap (λ (m : ℕ). filled value m) room_is in
    rw (new_head, key, nothing, append-nil, new_room) refl
