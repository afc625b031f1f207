use Rattle.std.proofs.Common.{◌≡◌, ◌∙◌, ap, arith}
use Rattle.std.proofs.lemmas.Grind.{common_steps}
use Rattle.records.specs.Fields.{u64_at, u64_bytes}
use Rattle.records.proofs.Words.{u64_bytes-u64_at}
use Rattle.records.proofs.fields.u64_at.Goals as goal

pub returns-clause-bytes : goal.returns-clause-bytes
unfolding u64_at
returns-clause-bytes c =
    let value : c.from_le_bytes.result ≡ u64_at c.args.bytes.now c.args.at = grind (arith, common_steps) in
    ap (λ n. u64_bytes n) value ∙ u64_bytes-u64_at c.args.bytes.now c.args.at (omega (arith, c.requires)) (λ i. omega (arith, c.type_inv.bytes i))
