use Rattle.std.proofs.Common.{◌-◌, ◌∙◌, ◌++◌, ap, take, drop, length, List, ℕ}
use Rattle.std.proofs.lemmas.List.{take_rest}
use Rattle.resp_read.proofs.PieceLemmas.{part_gathered}
use Rattle.resp_read.proofs.pieces.Wanted.gather.Goals as goal

pub returns-clause-goes_on : goal.returns-clause-goes_on
returns-clause-goes_on c =
    let bytes : List ℕ = c.args.bytes.now in
    λ more. ap (λ (l : List ℕ). l ++ take (c.args.self.now.count - c.least-count.result) (drop (c.args.self.now.from - c.least-start.result) more)) c.in-Ok.ensures.ok
    ∙ part_gathered c.args.gathered.now.items bytes (take (length bytes - c.least-start.result) (drop c.least-start.result bytes)) more c.args.self.now.from c.args.self.now.count c.least-start.result c.least-count.result (take_rest bytes c.least-start.result) c.least-start.ensures.first c.least-start.ensures.second c.least-start.ensures.one c.least-count.ensures.first c.least-count.ensures.second c.least-count.ensures.one
