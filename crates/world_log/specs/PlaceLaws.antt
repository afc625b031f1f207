-- What follows for receipts of one identity.
use Rattle.std.proofs.Common.{ℕ, ◌≡◌, List, Bool, true, false, ap, refl, subst}
use Rattle.std.specs.Prelude.{get_or, drop}
use Rattle.world_log.specs.Places.{Receipt, Shelves, Serves, flag, identity}

-- they show one page
pub same_page : (one other : Receipt) → identity one ≡ identity other → one.page ≡ other.page
same_page one other same = ap (λ (l : List ℕ). drop 2 l) same

pub same_flag : (a b : Bool) → flag a ≡ flag b → a ≡ b
same_flag true true is = refl
same_flag true false is = absurd (cc is)
same_flag false true is = absurd (cc is)
same_flag false false is = refl

-- and are one receipt, since the numbers of truth values differ
pub same_receipt : (one other : Receipt) → identity one ≡ identity other → one ≡ other
same_receipt one other same =
    let places : one.place ≡ other.place = ap (λ (l : List ℕ). get_or l 0 0) same in
    let flags : one.released ≡ other.released = same_flag one.released other.released (ap (λ (l : List ℕ). get_or l 1 0) same) in
    let pages : one.page ≡ other.page = same_page one other same in
    λ i. record { place = places i; page = pages i; released = flags i }

pub served_copy : (device : Shelves) (one other : Receipt) → identity one ≡ identity other → Serves device one → Serves device other
served_copy device one other same served = subst (Serves device) (same_receipt one other same) served
