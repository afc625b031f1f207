use Rattle.std.proofs.Common.{rules, ◌≡◌, length, arith, sym, ◌∙◌}
use Rattle.std.proofs.lemmas.Bool.{eqb-false}
use Rattle.resp_read.proofs.PieceLemmas.{pieces_push}
use Rattle.resp_read.proofs.pieces.Pieces.push.Goals as goal

pub invariant_of-self-in-Ok : goal.invariant_of-self-in-Ok
invariant_of-self-in-Ok c =
    let some : length c.args.piece ≡ 0 → ⊥ = eqb-false (length c.args.piece) 0 (sym c.is_empty.ensures ∙ c.if-is_empty.false) in
    let first : length c.self.inside.oldest ≡ 0 → ⊥ = eqb-false (length c.self.inside.oldest) 0 (sym c.is_none.ensures ∙ c.if-is_none.false) in
    rw c.in-Ok.ensures.items (pieces_push c.self.inside.oldest c.args.piece c.self.inside.later.items c.self.inside.held c.in-Some.held c.self.invariant first (omega (arith, some)) (omega (arith, c.in-Some.ensures)))

pub returns-in-Ok-clause-ok : goal.returns-in-Ok-clause-ok
returns-in-Ok-clause-ok c = search rules
