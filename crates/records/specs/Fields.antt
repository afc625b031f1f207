-- Numbers as bytes, the lowest byte first, as `to_le_bytes` and `from_le_bytes` of Rust's integers have it.
use Rattle.std.specs.Prelude.{ℕ, List, drop}
use Rattle.std.specs.Int.{w16, w32, w64, to_le_bytes, from_le_bytes}

-- the two, four or eight bytes of a number
unfoldable pub u16_bytes : ℕ → List ℕ
u16_bytes n = to_le_bytes w16 n

unfoldable pub u32_bytes : ℕ → List ℕ
u32_bytes n = to_le_bytes w32 n

unfoldable pub u64_bytes : ℕ → List ℕ
u64_bytes n = to_le_bytes w64 n

-- the number that stands at a place
unfoldable pub u16_at : List ℕ → ℕ → ℕ
u16_at bytes place = from_le_bytes w16 (drop place bytes)

unfoldable pub u32_at : List ℕ → ℕ → ℕ
u32_at bytes place = from_le_bytes w32 (drop place bytes)

unfoldable pub u64_at : List ℕ → ℕ → ℕ
u64_at bytes place = from_le_bytes w64 (drop place bytes)
