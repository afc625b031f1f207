-- A page whose bytes were lent and come back as many.
use Rattle.std.proofs.Common.{◌≡◌, ℕ, ◌<◌, ◌^◌, List, [], length, drop, ap, ◌∙◌, sym, subst}
use Rattle.std.proofs.lemmas.List.{take_at}
use Rattle.records.specs.declared.pages.TheConstants.{PAGE_SIZE}
use Rattle.records.specs.Page.{empty_page}
use Rattle.records.specs.Lends.{with_bytes}
use Rattle.records.proofs.Laid.{empty-page, page-length}
use Rattle.records.proofs.After.{IsEmpty, empty_page-IsEmpty}

pub with_bytes-is : (page bytes : List ℕ) → length bytes ≡ PAGE_SIZE → with_bytes page bytes ≡ bytes
with_bytes-is page bytes h = take_at bytes (drop (length bytes) page) PAGE_SIZE h

pub empty_page-length : (number : ℕ) (page : List ℕ) → number < 2 ^ 64 → page ≡ empty_page number → length page ≡ PAGE_SIZE
empty_page-length number page h is = ap (λ (p : List ℕ). length p) is ∙ page-length number [] (empty_page number) (empty-page number h)

-- what a page is that has the bytes of the page with this number and no record
pub emptied-IsEmpty : (number : ℕ) (page : List ℕ) → number < 2 ^ 64 → page ≡ empty_page number → IsEmpty number page
emptied-IsEmpty number page h is = subst (λ (p : List ℕ). IsEmpty number p) (sym is) (empty_page-IsEmpty number h)
