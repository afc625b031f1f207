use Rattle.std.proofs.Common.{◌-◌, ◌∙◌, List, ℕ, ap, arith, take, drop, length}
use Rattle.std.proofs.lemmas.List.{take_rest}
use Rattle.words.specs.Stream.{front_from, Word}
use Rattle.resp_read.specs.Pieces.{joined}
use Rattle.resp_read.proofs.LookLemmas.{fault_stays, front_at}
use Rattle.resp_read.proofs.look.look_at_word.Goals as goal

pub returns-in-Faulty-clause-tells : goal.returns-in-Faulty-clause-tells
returns-in-Faulty-clause-tells c =
    let oldest : List ℕ = c.oldest-oldest.result.now in
    λ left. ap (front_from (Word left c.args.size)) (front_at c.args.at (joined c.args.pieces.now) oldest c.oldest-oldest.ensures.first.0 (take (length oldest - c.args.at) (drop c.args.at oldest)) c.oldest-oldest.ensures.first.1 (omega arith) (take_rest oldest c.args.at))
    ∙ fault_stays (Word left c.args.size) (take (length oldest - c.args.at) (drop c.args.at oldest)) c.oldest-oldest.ensures.first.0 c.in-Faulty.fault (c.in-Faulty.ensures left)
