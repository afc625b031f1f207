-- What is read in the memory of a page is what the page says.
use Rattle.std.proofs.Common.{◌≡◌, ℕ, ◌+◌, ◌≤◌, ◌<◌, List, length, Result, Ok, Err, IsOk, IsErr, IfOk, IsOkAnd, ◌↔◌, refl, sym, ◌∙◌, arith, subst}
use Rattle.std.specs.List.{Contains}
use Rattle.records.specs.declared.pages.TheConstants.{PAGE_SIZE}
use Rattle.records.specs.declared.entries.Record.{Record}
use Rattle.records.specs.Memory.{bytes_of}
use Rattle.records.specs.Page.{SameWithin, used_end}
use Rattle.records.specs.Read.{shown}
use Rattle.records.specs.Records.{Stored, size_of, fields_at, records_of, IsLaidOut, IsRecordAt, IsRecordBefore, HasPiece}
use Rattle.records.proofs.Memory.{same-in_memory}
use Rattle.records.proofs.Piece.{same-IsRecordBefore, same-fields, unread, read-found, past-piece}
use Rattle.records.proofs.There.{IsThere, listed-IsThere, IsThere-IsRecordAt}

-- a record that ends by this end may be read in the memory, which has bytes up to there
module _ {E : Type 0} (page memory : List ℕ) (end offset : ℕ) (is_page : page ≡ bytes_of memory) (held : end ≤ length memory) (read : Result Record E) (exact : IsOk read ↔ IsRecordBefore end memory offset) where
  same : SameWithin offset end memory page
  same = subst (λ (p : List ℕ). SameWithin offset end memory p) (sym is_page) (same-in_memory memory offset end held)

  pub held-exact : IsOk read ↔ IsRecordBefore end page offset
  held-exact = (λ ok. same-IsRecordBefore offset end memory page same (exact.0 ok), λ at. exact.1 (same-IsRecordBefore offset end page memory (sym same) at))

  pub held-fields : IfOk read (λ r. shown r ≡ fields_at memory offset) → IfOk read (λ r. shown r ≡ fields_at page offset)
  held-fields = fields-of read exact
    where
      fields-of : (read : Result Record E) → IsOk read ↔ IsRecordBefore end memory offset → IfOk read (λ r. shown r ≡ fields_at memory offset) → IfOk read (λ r. shown r ≡ fields_at page offset)
      fields-of (Ok r) exact fields = fields ∙ same-fields offset end memory page same (exact.0 refl)
      fields-of (Err e) exact fields = tt

-- a record of the used part may be read before any later end in the page
pub used-before : (page : List ℕ) (end offset : ℕ) → used_end page ≤ end → end ≤ PAGE_SIZE → IsRecordAt page offset → IsRecordBefore end page offset
used-before page end offset past within at =
    record {
      ends_in_page = within;
      past_header = at.past_header;
      used = omega (arith, at.used, past);
      aligned = at.aligned;
      form = at.form;
      kind = at.kind;
      key_length = at.key_length;
      value_length = at.value_length;
      size = at.size;
      within = omega (arith, at.within, past);
    }

-- a record that may be read before an end may be read before any later end in the page
pub later-end : (page : List ℕ) (end later offset : ℕ) → end ≤ later → later ≤ PAGE_SIZE → IsRecordBefore end page offset → IsRecordBefore later page offset
later-end page end later offset past within at =
    record {
      ends_in_page = within;
      past_header = at.past_header;
      used = omega (arith, at.used, past);
      aligned = at.aligned;
      form = at.form;
      kind = at.kind;
      key_length = at.key_length;
      value_length = at.value_length;
      size = at.size;
      within = omega (arith, at.within, past);
    }

-- no record may be read where the used part passes what lies in memory
pub none-past : (page : List ℕ) (held offset : ℕ) → (used_end page ≤ PAGE_SIZE → used_end page ≤ held) → held < used_end page → IsRecordAt page offset → ⊥
none-past page held offset used past at = omega (arith, used at.ends_in_page, past)

pub none-listed : (page : List ℕ) (held offset : ℕ) → (used_end page ≤ PAGE_SIZE → used_end page ≤ held) → held < used_end page → IsLaidOut page → (r : Stored) → Contains (records_of page) (offset, r) → ⊥
none-listed page held offset used past was r there = none-past page held offset used past (IsThere-IsRecordAt page offset r (listed-IsThere page offset r was there))

-- a record that is listed is found, where what may be read is
pub there-found : {E : Type 0} (page : List ℕ) (offset : ℕ) (read : Result Record E) → (IsRecordAt page offset → IsOk read) → IfOk read (λ r. shown r ≡ fields_at page offset)
    → IsLaidOut page → (r : Stored) → Contains (records_of page) (offset, r) → IsOkAnd read (λ x. shown x ≡ r)
there-found page offset (Ok x) ok fields was r there = let is : IsThere page offset r = listed-IsThere page offset r was there in fields ∙ is.fields
there-found {E} page offset (Err e) ok fields was r there =
    let none : IsOk {T = Record} {E = E} (Err e) = ok (IsThere-IsRecordAt page offset r (listed-IsThere page offset r was there)) in cc

-- such an end that is the used part's
pub at-end : {E : Type 0} (page : List ℕ) (end offset : ℕ) (read : Result Record E) → end ≡ used_end page → IsOk read ↔ IsRecordBefore end page offset → IsOk read ↔ IsRecordAt page offset
at-end page end offset read is exact = subst (λ (n : ℕ). IsOk read ↔ IsRecordBefore n page offset) is exact

-- what the read of a whole page finds in a piece of it, and what it refuses
module _ {E : Type 0} (page : List ℕ) (end offset : ℕ) (read : Result Record E) (exact : IsOk read ↔ IsRecordBefore end page offset) (fields : IfOk read (λ r. shown r ≡ fields_at page offset)) where
  pub piece-found : (r : Stored) → HasPiece offset end page r → offset + size_of r ≤ end → IsOkAnd read (λ x. shown x ≡ r)
  piece-found = found-in read exact fields
    where
      found-in : (read : Result Record E) → IsOk read ↔ IsRecordBefore end page offset → IfOk read (λ r. shown r ≡ fields_at page offset)
          → (r : Stored) → HasPiece offset end page r → offset + size_of r ≤ end → IsOkAnd read (λ x. shown x ≡ r)
      found-in (Ok x) exact fields r piece fits = read-found offset end page (shown x) fields r piece fits
      found-in (Err e) exact fields r piece fits = absurd (unread offset end page (λ at. let none : IsOk {T = Record} {E = E} (Err e) = exact.1 at in cc) r piece fits)

  pub piece-refused : (r : Stored) → HasPiece offset end page r → end < offset + size_of r → IsErr read
  piece-refused = refused-in read exact
    where
      refused-in : (read : Result Record E) → IsOk read ↔ IsRecordBefore end page offset → (r : Stored) → HasPiece offset end page r → end < offset + size_of r → IsErr read
      refused-in (Ok x) exact r piece past = absurd (past-piece offset end page (exact.0 refl) r piece past)
      refused-in (Err e) exact r piece past = refl
