-- Records one after the other: where they end, and the list of them with their offsets.
use Rattle.std.proofs.Common.{◌≡◌, ℕ, zero, suc, ◌+◌, ◌%◌, ◌<◌, ◌≤◌, List, [], ◌∷◌, ◌++◌, length, map, Option, refl, sym, ap, ◌∙◌, arith, length-append, append_assoc, add-zero, eqb, true, false}
use Rattle.std.specs.List.{All, AllByRecursion, AllPairs, flat_map, slice_index_or}
use Rattle.std.proofs.lemmas.Bool.Decides.{nat_tests}
use Rattle.records.specs.declared.pages.TheConstants.{HEADER_SIZE}
use Rattle.records.specs.Records.{Stored, IsStored, IsPlaced, size_of, spelling, end_from, placed, with_value}
use Rattle.records.proofs.Spelling.{length-spelling}

pub end_from-le : (offset : ℕ) (rs : List Stored) → offset ≤ end_from offset rs
end_from-le offset [] = omega arith
end_from-le offset (r ∷ rs) = omega (arith, end_from-le (offset + size_of r) rs)

pub end_from-append : (offset : ℕ) (rs ss : List Stored) → end_from offset (rs ++ ss) ≡ end_from (end_from offset rs) ss
end_from-append offset [] ss = refl
end_from-append offset (r ∷ rs) ss = end_from-append (offset + size_of r) rs ss

pub placed-append : (offset : ℕ) (rs ss : List Stored) → placed offset (rs ++ ss) ≡ placed offset rs ++ placed (end_from offset rs) ss
placed-append offset [] ss = refl
placed-append offset (r ∷ rs) ss = ap (λ xs. (offset, r) ∷ xs) (placed-append (offset + size_of r) rs ss)

pub spellings-append : (rs ss : List Stored) → flat_map spelling (rs ++ ss) ≡ flat_map spelling rs ++ flat_map spelling ss
spellings-append [] ss = refl
spellings-append (r ∷ rs) ss =
    ap (λ xs. spelling r ++ xs) (spellings-append rs ss) ∙ sym (append_assoc (spelling r) (flat_map spelling rs) (flat_map spelling ss))

pub each-append : (rs ss : List Stored) → AllByRecursion IsStored rs → AllByRecursion IsStored ss → AllByRecursion IsStored (rs ++ ss)
each-append [] ss p q = q
each-append (r ∷ rs) ss p q = (p.0, each-append rs ss p.1 q)

pub each-left : (rs ss : List Stored) → AllByRecursion IsStored (rs ++ ss) → AllByRecursion IsStored rs
each-left [] ss p = tt
each-left (r ∷ rs) ss p = (p.0, each-left rs ss p.1)

pub each-right : (rs ss : List Stored) → AllByRecursion IsStored (rs ++ ss) → AllByRecursion IsStored ss
each-right [] ss p = p
each-right (r ∷ rs) ss p = each-right rs ss p.1

pub length-spellings : (offset : ℕ) (rs : List Stored) → AllByRecursion IsStored rs → offset + length (flat_map spelling rs) ≡ end_from offset rs
length-spellings offset [] p = add-zero offset
length-spellings offset (r ∷ rs) p =
    let front : length (spelling r) ≡ size_of r = length-spelling r p.0.value_fits in
    let both : length (spelling r ++ flat_map spelling rs) ≡ length (spelling r) + length (flat_map spelling rs) = length-append (spelling r) (flat_map spelling rs) in
    let more : offset + size_of r + length (flat_map spelling rs) ≡ end_from (offset + size_of r) rs = length-spellings (offset + size_of r) rs p.1 in
    omega (arith, front, both, more)

-- each record takes bytes, so a page has at least as many bytes as records
pub length-le-spellings : (rs : List Stored) → AllByRecursion IsStored rs → length rs ≤ length (flat_map spelling rs)
length-le-spellings [] p = omega arith
length-le-spellings (r ∷ rs) p =
    let front : length (spelling r) ≡ size_of r = length-spelling r p.0.value_fits in
    let both : length (spelling r ++ flat_map spelling rs) ≡ length (spelling r) + length (flat_map spelling rs) = length-append (spelling r) (flat_map spelling rs) in
    let more : length rs ≤ length (flat_map spelling rs) = length-le-spellings rs p.1 in
    omega (arith, front, both, more)

-- a record that is listed at an offset, and the records before and after it
pub record Split (start : ℕ) (rs : List Stored) (offset : ℕ) (r : Stored) : Type 0 where
  pub before : List Stored
  pub after : List Stored
  pub whole : rs ≡ before ++ r ∷ after
  pub at : offset ≡ end_from start before

pub split_at : (start : ℕ) (rs : List Stored) (offset : ℕ) (r : Stored) (k : ℕ) → k < length (placed start rs) → slice_index_or (placed start rs) k (offset, r) ≡ (offset, r) → Split start rs offset r
split_at start [] offset r k h e = absurd (omega (arith, h))
split_at start (s ∷ rs) offset r zero h e =
    record { before = []; after = rs; whole = ap (λ x. x ∷ rs) (ap (λ p. p.1) e); at = sym (ap (λ p. p.0) e) }
split_at start (s ∷ rs) offset r (suc k) h e =
    let more = split_at (start + size_of s) rs offset r k (omega (arith, h)) e in
    record { before = s ∷ more.before; after = more.after; whole = ap (λ xs. s ∷ xs) more.whole; at = more.at }

-- records past an offset stay where the record at that offset takes another value
pub with_value-past : (at : ℕ) (value : Option (List ℕ)) (offset : ℕ) (rs : List Stored) → at < offset → map (with_value at value) (placed offset rs) ≡ placed offset rs
with_value-past at value offset [] h = refl
with_value-past at value offset (r ∷ rs) h =
    let apart : eqb offset at ≡ false = grind (arith, nat_tests) in
    let tail : map (with_value at value) (placed (offset + size_of r) rs) ≡ placed (offset + size_of r) rs = with_value-past at value (offset + size_of r) rs (omega (arith, h)) in
    rw apart (ap (λ xs. (offset, r) ∷ xs) tail)

pub with_value-placed : (value : Option (List ℕ)) (start : ℕ) (before : List Stored) (r : Stored) (after : List Stored)
    → map (with_value (end_from start before) value) (placed start (before ++ r ∷ after)) ≡ placed start (before ++ (record r { value = value }) ∷ after)
with_value-placed value start [] r after =
    let same : eqb start start ≡ true = grind (arith, nat_tests) in
    let tail : map (with_value start value) (placed (start + size_of r) after) ≡ placed (start + size_of r) after = with_value-past start value (start + size_of r) after (omega arith) in
    rw same (ap (λ xs. (start, record r { value = value }) ∷ xs) tail)
with_value-placed value start (b ∷ before) r after =
    let at : ℕ = end_from (start + size_of b) before in
    let past : start + size_of b ≤ at = end_from-le (start + size_of b) before in
    let apart : eqb start at ≡ false = grind (arith, nat_tests) in
    rw apart (ap (λ xs. (start, b) ∷ xs) (with_value-placed value (start + size_of b) before r after))

-- each record stands where it may, and before the next one
pub placed-each : (end start : ℕ) (rs : List Stored) → AllByRecursion IsStored rs → HEADER_SIZE ≤ start → start % 8 ≡ 0 → end_from start rs ≤ end → All (IsPlaced end) (placed start rs)
placed-each end start [] each low aligned within k d h = absurd (omega (arith, h))
placed-each end start (r ∷ rs) each low aligned within zero d h =
    record { stored = each.0; past_header = low; aligned = aligned; within = omega (arith, within, end_from-le (start + size_of r) rs) }
placed-each end start (r ∷ rs) each low aligned within (suc k) d h =
    let size : size_of r % 8 ≡ 0 = each.0.aligned in
    placed-each end (start + size_of r) rs each.1 (omega (arith, low)) (omega (arith, size, aligned)) within k d (omega (arith, h))

placed-ge : (start : ℕ) (rs : List Stored) (k : ℕ) (d : ℕ × Stored) → k < length (placed start rs) → let at : ℕ = (slice_index_or (placed start rs) k d).0 in start ≤ at
placed-ge start [] k d h = absurd (omega (arith, h))
placed-ge start (r ∷ rs) zero d h = omega arith
placed-ge start (r ∷ rs) (suc k) d h = omega (arith, placed-ge (start + size_of r) rs k d (omega (arith, h)))

pub placed-in_order : (start : ℕ) (rs : List Stored) → AllPairs (λ a b. a.0 + size_of a.1 ≤ b.0) (placed start rs)
placed-in_order start [] i j d before h = absurd (omega (arith, h))
placed-in_order start (r ∷ rs) i zero d before h = absurd (omega (arith, before))
placed-in_order start (r ∷ rs) zero (suc j) d before h = placed-ge (start + size_of r) rs j d (omega (arith, h))
placed-in_order start (r ∷ rs) (suc i) (suc j) d before h = placed-in_order (start + size_of r) rs i j d (omega (arith, before)) (omega (arith, h))
