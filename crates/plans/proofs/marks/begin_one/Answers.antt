use Rattle.std.proofs.Common.{◌≡◌, ◌∙◌, ℕ, List, [], ◌∷◌, ◌++◌, sym, ap, subst}
use Rattle.words.specs.Store.{Bytes}
use Rattle.shards.specs.Shards.{shard_meaning}
use Rattle.transact.specs.Tables.{HasBegun}
use Rattle.plans.proofs.Begun.{begun_again, begun_last, still_begun}
use Rattle.plans.proofs.marks.begin_one.Goals as goal

pub returns-then-branch-clause-begun : goal.returns-then-branch-clause-begun
returns-then-branch-clause-begun g c = λ before has.
    let n : ℕ = (g.P.Parts.stripes_of c.args.parts.now) in
    let own : ℕ = (g.P.Parts.holder_of c.args.parts.now) in
    let b = g.P.Parts.part_of c.args.parts.now in
    let d = g.P.Parts.part_of c.begin.new.parts in
    let items : c.push_reserved.new.self.items ≡ c.args.begun.now.items ++ c.args.key.now ∷ [] =
    (c.push_reserved.ensures.items ∙ ap (λ (l : List Bytes). l ++ c.in_ok-copy.copy ∷ []) c.reserve.ensures.items ∙ ap (λ (k : Bytes). c.args.begun.now.items ++ k ∷ []) c.in_ok-copy.ensures.cases) in
    subst (λ (l : List Bytes). HasBegun (shard_meaning g.R.Shows.is_steady) n own l before d) (sym items)
    (begun_last (shard_meaning g.R.Shows.is_steady) n own c.args.begun.now.items c.args.key.now before b d has c.requires.there (sym c.in_ok-begin.ensures.begun ∙ c.if-branch.true) c.in_ok-begin.ensures.ok)

pub returns-else-branch-clause-begun : goal.returns-else-branch-clause-begun
returns-else-branch-clause-begun g c = λ before has.
    let n : ℕ = (g.P.Parts.stripes_of c.args.parts.now) in
    let own : ℕ = (g.P.Parts.holder_of c.args.parts.now) in
    let b = g.P.Parts.part_of c.args.parts.now in
    let d = g.P.Parts.part_of c.begin.new.parts in
    subst (λ (l : List Bytes). HasBegun (shard_meaning g.R.Shows.is_steady) n own l before d) (sym c.reserve.ensures.items)
    (still_begun (shard_meaning g.R.Shows.is_steady) n own c.args.begun.now.items before b d has
    (begun_again (shard_meaning g.R.Shows.is_steady) n own c.args.key.now b d (sym c.in_ok-begin.ensures.begun ∙ c.if-branch.false) c.in_ok-begin.ensures.ok))
