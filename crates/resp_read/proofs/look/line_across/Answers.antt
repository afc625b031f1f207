use Rattle.std.proofs.Common.{◌-◌, ◌∙◌, List, ℕ, ap, sym, arith, drop, length, length-drop}
use Rattle.resp_read.specs.declared.lines.Line.TheVariants.{Number, Faulty}
use Rattle.resp_read.specs.Pieces.{joined}
use Rattle.resp_read.proofs.LookLemmas.{length_in_front, all_or}
use Rattle.resp_read.proofs.look.line_across.Goals as goal

pub end_across-requires-clause-line : goal.end_across-requires-clause-line
end_across-requires-clause-line c =
    let bytes : List ℕ = joined c.args.pieces.now in
    (length_in_front c.args.size (drop c.args.at bytes) c.as_slice.result.now c.least.result (Number c.in-Number.value c.in-Number.width) (c.as_slice.ensures ∙ c.in-Ok.ensures.bytes) (omega (arith, length-drop c.args.at bytes)) (all_or (length (drop c.args.at bytes)) c.least.ensures.one (ap (λ (k : ℕ). k - c.args.at) c.held.ensures ∙ sym (length-drop c.args.at bytes))) c.in-Number.ensures).0

pub returns : goal.returns
returns c =
    let bytes : List ℕ = joined c.args.pieces.now in
    length_in_front c.args.size (drop c.args.at bytes) c.as_slice.result.now c.least.result (Faulty c.in-Faulty.fault) (c.as_slice.ensures ∙ c.in-Ok.ensures.bytes) (omega (arith, length-drop c.args.at bytes)) (all_or (length (drop c.args.at bytes)) c.least.ensures.one (ap (λ (k : ℕ). k - c.args.at) c.held.ensures ∙ sym (length-drop c.args.at bytes))) c.in-Faulty.ensures
