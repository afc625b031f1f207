use Rattle.std.proofs.Common.{rules, arith, length, ◌≡◌, ◌-◌, ◌+◌, ◌∷◌, ◌++◌, ◌∙◌, List, ℕ, [], ap, take, drop}
use Rattle.std.proofs.lemmas.List.{take_rest, length_push}
use Rattle.resp_read.specs.Looks.{BeginsWithWords}
use Rattle.resp_read.proofs.WholeLemmas.{one_more, all_taken}
use Rattle.resp_read.proofs.whole.more_in.Goals as goal

pub loop-preserved : goal.loop-preserved
loop-preserved c =
    let bytes : List ℕ = c.args.bytes.now in
    let start : ℕ = c.in-Whole.start in
    let long : ℕ = c.in-Whole.long in
    let rest : List ℕ = take (length bytes - c.loop.at) (drop c.loop.at bytes) in
    let same : (start + long) - start ≡ long = omega arith in
    let word_is : c.in-Ok.word ≡ take long (drop start rest) = c.in-Ok.ensures.bytes ∙ ap (λ (k : ℕ). take k (drop start rest)) same in
    let more : BeginsWithWords bytes c.args.count (c.loop.words ++ c.in-Ok.word ∷ []) (c.loop.at + (start + long + 2)) (c.loop.size + long) =
    one_more bytes rest c.in-Ok.word c.args.count c.loop.at c.loop.size start long c.loop.words c.loop.invariant.0 (take_rest bytes c.loop.at) c.in-Whole.ensures word_is in
    rw c.in_default-push.ensures.ok (more, length_push c.loop.words c.in-Ok.word ∙ ap (λ (k : ℕ). k + 1) c.loop.invariant.1)

pub returns : goal.returns
returns c =
    λ _. all_taken c.args.bytes.now c.args.count c.loop.at c.loop.size c.loop.words c.loop.invariant.0 (omega (arith, c.requires.count, c.loop.invariant.1, c.loop-test.false)) c.requires.count.0 c.requires.count.1

pub loop-init : goal.loop-init
loop-init c = search rules
