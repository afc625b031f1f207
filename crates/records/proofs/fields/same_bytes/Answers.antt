use Rattle.std.proofs.Common.{◌≡◌, ◌-◌, ◌∙◌, List, ℕ, length, sym, ap, arith, eq-eqb}
use Rattle.std.proofs.lemmas.Bool.Decides.{nat_tests}
use Rattle.records.specs.Fields.{u64_at}
use Rattle.records.proofs.Words.{take-eight_more, same-from_last}
use Rattle.records.proofs.fields.same_bytes.Goals as goal

pub loop-at-preserved : goal.loop-at-preserved
loop-at-preserved c =
    (omega arith, take-eight_more c.args.a.now c.args.b.now c.loop-at.at _ _ c.u64_at.ensures.bytes c.u64_at-in-loop-at.ensures.bytes c.if-u64_at.false c.loop-at.invariant.1)

pub returns : goal.returns
returns c = (
  λ e.
      let last : c.u64_at-2.result ≡ c.u64_at-3.result = grind (arith, nat_tests) in
      same-from_last c.args.a.now c.args.b.now c.loop-at.at (length c.args.a.now - 8) _ _ (omega arith) (omega arith) c.u64_at-2.ensures.bytes c.u64_at-3.ensures.bytes last (omega arith) c.loop-at.invariant.1,
  λ e. eq-eqb c.u64_at-2.result c.u64_at-3.result (c.u64_at-2.ensures.value ∙ (ap (λ (s : List ℕ). u64_at s (length c.args.a.now - 8)) e ∙ sym c.u64_at-3.ensures.value)),
)
