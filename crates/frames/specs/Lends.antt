-- What the frames end as, where a `&mut` to one of their pages is returned.
use Rattle.std.specs.Prelude.{ℕ, List, Option}
use Rattle.std.specs.Borrow.{Lends, LendsIf, Fml, MutBor}
use Rattle.records.specs.contracts.pages.Page.{the_row as page_row}
use Rattle.frames.specs.Resident.{Resident, with_page}
use Rattle.frames.specs.contracts.Frames.{the_row}

-- once the borrow ends, the page of this number has the bytes that were written last
abbrev pub LendsPage : MutBor Resident → ℕ → MutBor (List ℕ) → Fml
LendsPage frames number page = Lends the_row page_row frames page (with_page frames.now number)

-- the same where a page is lent, and without one the frames stay as they are
abbrev pub LendsPageIf : MutBor Resident → ℕ → Option (MutBor (List ℕ)) → Fml
LendsPageIf frames number page = LendsIf the_row page_row frames page (with_page frames.now number) frames.now
