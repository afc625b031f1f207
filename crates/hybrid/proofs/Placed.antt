-- Records one after the other: where they end, and the records before and after one of them.
use Rattle.std.proofs.Common.{◌≡◌, ℕ, zero, suc, ◌+◌, ◌<◌, ◌≤◌, List, [], ◌∷◌, ◌++◌, length, refl, sym, ap, arith}
use Rattle.std.specs.List.{slice_index_or}
use Rattle.records.specs.Records.{Stored, size_of, end_from, placed}

pub end_from-le : (offset : ℕ) (rs : List Stored) → offset ≤ end_from offset rs
end_from-le offset [] = omega arith
end_from-le offset (r ∷ rs) = omega (arith, end_from-le (offset + size_of r) rs)

pub end_from-append : (offset : ℕ) (rs ss : List Stored) → end_from offset (rs ++ ss) ≡ end_from (end_from offset rs) ss
end_from-append offset [] ss = refl
end_from-append offset (r ∷ rs) ss = end_from-append (offset + size_of r) rs ss

pub placed-append : (offset : ℕ) (rs ss : List Stored) → placed offset (rs ++ ss) ≡ placed offset rs ++ placed (end_from offset rs) ss
placed-append offset [] ss = refl
placed-append offset (r ∷ rs) ss = ap (λ xs. (offset, r) ∷ xs) (placed-append (offset + size_of r) rs ss)

-- a record that is listed at an offset, and the records before and after it
pub record Split (start : ℕ) (rs : List Stored) (offset : ℕ) (r : Stored) : Type 0 where
  pub before : List Stored
  pub after : List Stored
  pub whole : rs ≡ before ++ r ∷ after
  pub at : offset ≡ end_from start before

pub split_at : (start : ℕ) (rs : List Stored) (offset : ℕ) (r : Stored) (k : ℕ) → k < length (placed start rs) → slice_index_or (placed start rs) k (offset, r) ≡ (offset, r) → Split start rs offset r
split_at start [] offset r k h e = absurd (omega (arith, h))
split_at start (s ∷ rs) offset r zero h e =
    record { before = []; after = rs; whole = ap (λ x. x ∷ rs) (ap (λ p. p.1) e); at = sym (ap (λ p. p.0) e) }
split_at start (s ∷ rs) offset r (suc k) h e =
    let more = split_at (start + size_of s) rs offset r k (omega (arith, h)) e in
    record { before = s ∷ more.before; after = more.after; whole = ap (λ xs. s ∷ xs) more.whole; at = more.at }
