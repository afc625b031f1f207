-- What a page ends as, where a `&mut` to its bytes is returned.
use Rattle.std.specs.Prelude.{ℕ, List, ◌++◌, length, take, drop}
use Rattle.std.specs.Borrow.{Lends, Fml, MutBor, Array, u8}
use Rattle.records.specs.declared.pages.TheConstants.{PAGE_SIZE}
use Rattle.records.specs.contracts.pages.Page.{the_row}

-- a page with these bytes. Where they are fewer or more, it keeps its size: they are filled up from it, or cut
abbrev pub with_bytes : List ℕ → List ℕ → List ℕ
with_bytes page bytes = take PAGE_SIZE (bytes ++ drop (length bytes) page)

-- once the borrow r ends, the page has the bytes that r shows last
abbrev pub LendsBytes : MutBor (List ℕ) → MutBor (List ℕ) → Fml
LendsBytes page r = Lends the_row (Array u8 0) page r (with_bytes page.now)
