use Rattle.std.proofs.Common.{◌≡◌, ◌↔◌, ℕ, List, IsOk, IfOk, subst}
use Rattle.records.specs.Read.{shown}
use Rattle.records.specs.Records.{fields_at, IsRecordBefore}
use Rattle.records.proofs.InMemory.{piece-found, piece-refused}
use Rattle.records.proofs.entries.record_before.Goals as goal

pub returns-clause-found : goal.returns-clause-found
returns-clause-found c =
    let exact = subst (λ (p : List ℕ). IsOk c.record_in.result ↔ IsRecordBefore c.args.end p c.args.offset) c.bytes.ensures.bytes c.record_in.ensures.exact in
    let fields = subst (λ (p : List ℕ). IfOk c.record_in.result (λ r. shown r ≡ fields_at p c.args.offset)) c.bytes.ensures.bytes c.record_in.ensures.fields in
    piece-found c.args.page.now c.args.end c.args.offset c.record_in.result exact fields

pub returns-clause-refused : goal.returns-clause-refused
returns-clause-refused c =
    let exact = subst (λ (p : List ℕ). IsOk c.record_in.result ↔ IsRecordBefore c.args.end p c.args.offset) c.bytes.ensures.bytes c.record_in.ensures.exact in
    let fields = subst (λ (p : List ℕ). IfOk c.record_in.result (λ r. shown r ≡ fields_at p c.args.offset)) c.bytes.ensures.bytes c.record_in.ensures.fields in
    piece-refused c.args.page.now c.args.end c.args.offset c.record_in.result exact fields
