use Rattle.std.proofs.Common.{◌≡◌, ◌+◌, ◌-◌, ◌++◌, List, ℕ, arith, take, drop, refl, sym, ap, ◌∙◌, append_assoc}
use Rattle.std.proofs.lemmas.List.{take-append-drop}
use Rattle.resp_read.specs.Pieces.{joined}
use Rattle.resp_read.proofs.LookLemmas.{line_in_front, front_at}
use Rattle.resp_read.proofs.look.word_across.Goals as goal

pub end_across-requires-clause-line : goal.end_across-requires-clause-line
end_across-requires-clause-line c =
    let oldest : List ℕ = c.oldest-oldest.result.now in
    let more : List ℕ = c.oldest-oldest.ensures.first.0 in
    let rest : List ℕ = drop c.args.at oldest in
    let few : ℕ = c.args.at + c.in-Some.end + 1 - c.args.at in
    let stands : drop c.args.at (joined c.args.pieces.now) ≡ rest ++ more =
    front_at c.args.at (joined c.args.pieces.now) oldest more rest c.oldest-oldest.ensures.first.1 (omega arith) refl in
    let parts : rest ++ more ≡ take few rest ++ (drop few rest ++ more) =
    ap (λ (t : List ℕ). t ++ more) (sym (take-append-drop few rest)) ∙ append_assoc (take few rest) (drop few rest) more in
    line_in_front 36 c.in-Number.value c.in-Number.width (drop c.args.at (joined c.args.pieces.now)) (take few rest) (drop few rest ++ more) (stands ∙ parts) c.in-Number.ensures.0
