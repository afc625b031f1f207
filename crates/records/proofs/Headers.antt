-- The header of a page.
use Rattle.std.proofs.Common.{◌≡◌, ℕ, ◌<◌, ◌^◌, List, [], ◌++◌, length, drop, refl}
use borrow.Rule.Slice.PartMut.{put_mid}
use Rattle.records.specs.declared.pages.TheConstants.{HEADER_SIZE, USED_END_AT}
use Rattle.records.specs.Fields.{u32_bytes, u64_bytes, u32_at, u64_at}
use Rattle.records.specs.Page.{header, number_of, used_end}
use Rattle.records.proofs.Numbers.{u32_at-front, u64_at-front}

pub length-header : (number used : ℕ) → length (header number used) ≡ HEADER_SIZE
unfolding header u32_bytes u64_bytes
length-header number used = refl

pub drop-header : (number used : ℕ) (rest : List ℕ) → drop HEADER_SIZE (header number used ++ rest) ≡ rest
unfolding header u32_bytes u64_bytes
drop-header number used rest = refl

pub number_of-header : (number used : ℕ) (rest : List ℕ) → number < 2 ^ 64 → number_of (header number used ++ rest) ≡ number
unfolding number_of u64_at header u64_bytes
number_of-header number used rest h = u64_at-front number [] h

pub used_end-header : (number used : ℕ) (rest : List ℕ) → used < 2 ^ 32 → used_end (header number used ++ rest) ≡ used
unfolding used_end u32_at header u32_bytes u64_bytes
used_end-header number used rest h = u32_at-front used [] h

-- another end of the used part, written into a page
pub header-with_end : (number used next : ℕ) (rest : List ℕ) → put_mid USED_END_AT 4 (header number used ++ rest) (u32_bytes next) ≡ header number next ++ rest
unfolding header u32_bytes u64_bytes
header-with_end number used next rest = refl

pub length-u32 : (n : ℕ) → length (u32_bytes n) ≡ 4
unfolding u32_bytes
length-u32 n = refl
