-- A page, as its bytes. It has 65,536 of them: a header of 16 bytes (page number, 8; end of the used part, 4;
-- form, 4, which is 2), records without gaps up to the end of the used part, and zero bytes after it.
use Rattle.std.specs.Prelude.{◌≡◌, ℕ, List, ◌++◌, ◌-◌, take, drop, replicate, slice_range}
use Rattle.records.specs.declared.pages.TheConstants.{PAGE_SIZE, HEADER_SIZE, USED_END_AT, PAGE_FORM}
use Rattle.records.specs.Fields.{u32_bytes, u64_bytes, u32_at, u64_at}

-- the header of the page with this number whose used part ends here
unfoldable pub header : ℕ → ℕ → List ℕ
header number used = u64_bytes number ++ (u32_bytes used ++ u32_bytes PAGE_FORM)

-- the page with this number and no record
unfoldable pub empty_page : ℕ → List ℕ
empty_page number = header number HEADER_SIZE ++ replicate (PAGE_SIZE - HEADER_SIZE) 0

-- the page whose bytes are all zero: no record can be read in it
abbrev pub zero_page : List ℕ
zero_page = replicate PAGE_SIZE 0

-- the number in a page's header
unfoldable pub number_of : List ℕ → ℕ
number_of page = u64_at page 0

-- the end of the used part in a page's header
unfoldable pub used_end : List ℕ → ℕ
used_end page = u32_at page USED_END_AT

-- the page, or what lies of it in memory, with another end of the used part in its header
abbrev pub with_end : List ℕ → ℕ → List ℕ
with_end page end = take USED_END_AT page ++ (u32_bytes end ++ drop 4 (drop USED_END_AT page))

-- two pages have the same bytes from one place up to another
abbrev pub SameWithin : (from to : ℕ) (page other : List ℕ) → Type 0
SameWithin from to page other = slice_range page from to ≡ slice_range other from to
