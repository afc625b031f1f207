-- The memory of a page: all of its bytes, or those up to the end of its used part, or none. Those that follow are zero.
use Rattle.std.specs.Prelude.{◌≡◌, ℕ, ◌-◌, ◌≤◌, ◌⊎◌, List, [], ◌++◌, length, replicate}
use Rattle.records.specs.declared.pages.TheConstants.{PAGE_SIZE, HEADER_SIZE}
use Rattle.records.specs.Page.{used_end}

-- the bytes of the page whose memory holds these: those that it does not hold are zero
abbrev pub bytes_of : List ℕ → List ℕ
bytes_of items = items ++ replicate (PAGE_SIZE - length items) 0

-- it has room for all bytes of a page, and holds all, or those up to the end of the used part, or none
pub record IsPageMemory (items : List ℕ) (capacity : ℕ) : Type 0 where
  pub room : PAGE_SIZE ≤ capacity
  pub bound : length items ≤ PAGE_SIZE
  pub used : (length items ≡ PAGE_SIZE) ⊎ ((used_end (bytes_of items) ≡ length items) × (HEADER_SIZE ≤ length items)) ⊎ (items ≡ [])
