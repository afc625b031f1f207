-- Numbers in bytes: what was written is read back, and a place in a part of the bytes is a place in the bytes.
use Rattle.std.proofs.Common.{◌≡◌, ℕ, ◌+◌, ◌<◌, ◌^◌, ◌∙◌, List, [], ◌∷◌, ◌++◌, take, drop, sym, ap, refl}
use Rattle.std.specs.Int.{w16, w32, w64, from_le_bytes}
use Rattle.std.proofs.lemmas.Nat.{from_le_bytes-to_le_bytes_2, from_le_bytes-to_le_bytes_4, from_le_bytes-to_le_bytes_8}
use Rattle.std.proofs.lemmas.List.{drop-drop}
use Rattle.records.specs.Fields.{u16_bytes, u32_bytes, u64_bytes, u16_at, u32_at, u64_at}

pub u16_at-front : (n : ℕ) (rest : List ℕ) → n < 2 ^ 16 → u16_at (u16_bytes n ++ rest) 0 ≡ n
unfolding u16_at u16_bytes
u16_at-front n rest h = from_le_bytes-to_le_bytes_2 n h

pub u32_at-front : (n : ℕ) (rest : List ℕ) → n < 2 ^ 32 → u32_at (u32_bytes n ++ rest) 0 ≡ n
unfolding u32_at u32_bytes
u32_at-front n rest h = from_le_bytes-to_le_bytes_4 n h

pub u64_at-front : (n : ℕ) (rest : List ℕ) → n < 2 ^ 64 → u64_at (u64_bytes n ++ rest) 0 ≡ n
unfolding u64_at u64_bytes
u64_at-front n rest h = from_le_bytes-to_le_bytes_8 n h

pub u16_at-add : (bytes : List ℕ) (a b : ℕ) → u16_at bytes (a + b) ≡ u16_at (drop a bytes) b
unfolding u16_at
u16_at-add bytes a b = ap (λ xs. from_le_bytes w16 xs) (sym (drop-drop b a bytes))

pub u32_at-add : (bytes : List ℕ) (a b : ℕ) → u32_at bytes (a + b) ≡ u32_at (drop a bytes) b
unfolding u32_at
u32_at-add bytes a b = ap (λ xs. from_le_bytes w32 xs) (sym (drop-drop b a bytes))

pub u64_at-add : (bytes : List ℕ) (a b : ℕ) → u64_at bytes (a + b) ≡ u64_at (drop a bytes) b
unfolding u64_at
u64_at-add bytes a b = ap (λ xs. from_le_bytes w64 xs) (sym (drop-drop b a bytes))

-- a number is one of the bytes that it takes
first_two : (xs : List ℕ) → from_le_bytes w16 (take 2 xs) ≡ from_le_bytes w16 xs
first_two [] = refl
first_two (a ∷ []) = refl
first_two (a ∷ b ∷ rest) = refl

first_four : (xs : List ℕ) → from_le_bytes w32 (take 4 xs) ≡ from_le_bytes w32 xs
first_four [] = refl
first_four (a ∷ []) = refl
first_four (a ∷ b ∷ []) = refl
first_four (a ∷ b ∷ c ∷ []) = refl
first_four (a ∷ b ∷ c ∷ d ∷ rest) = refl

pub same-u16_at : (page other : List ℕ) (at : ℕ) → take 2 (drop at page) ≡ take 2 (drop at other) → u16_at page at ≡ u16_at other at
unfolding u16_at
same-u16_at page other at same = sym (first_two (drop at page)) ∙ (ap (λ (s : List ℕ). from_le_bytes w16 s) same ∙ first_two (drop at other))

pub same-u32_at : (page other : List ℕ) (at : ℕ) → take 4 (drop at page) ≡ take 4 (drop at other) → u32_at page at ≡ u32_at other at
unfolding u32_at
same-u32_at page other at same = sym (first_four (drop at page)) ∙ (ap (λ (s : List ℕ). from_le_bytes w32 s) same ∙ first_four (drop at other))

pub first_eight : (xs : List ℕ) → from_le_bytes w64 (take 8 xs) ≡ from_le_bytes w64 xs
first_eight [] = refl
first_eight (a ∷ []) = refl
first_eight (a ∷ b ∷ []) = refl
first_eight (a ∷ b ∷ c ∷ []) = refl
first_eight (a ∷ b ∷ c ∷ d ∷ []) = refl
first_eight (a ∷ b ∷ c ∷ d ∷ e ∷ []) = refl
first_eight (a ∷ b ∷ c ∷ d ∷ e ∷ f ∷ []) = refl
first_eight (a ∷ b ∷ c ∷ d ∷ e ∷ f ∷ g ∷ []) = refl
first_eight (a ∷ b ∷ c ∷ d ∷ e ∷ f ∷ g ∷ h ∷ rest) = refl

pub same-u64_at : (page other : List ℕ) (at : ℕ) → take 8 (drop at page) ≡ take 8 (drop at other) → u64_at page at ≡ u64_at other at
unfolding u64_at
same-u64_at page other at same = sym (first_eight (drop at page)) ∙ (ap (λ (s : List ℕ). from_le_bytes w64 s) same ∙ first_eight (drop at other))
