use Rattle.std.proofs.Common.{rules, ℕ, List, [], subst}
use Rattle.words.specs.Store.{Bytes}
use Rattle.shards.specs.Shards.{shard_meaning}
use Rattle.transact.specs.Tables.{Became, clears}
use Rattle.plans.proofs.Begun.{taken_back}
use Rattle.plans.proofs.planned.Planned.undo.Goals as goal

pub returns-clause-undone : goal.returns-clause-undone
returns-clause-undone g c = λ before has.
    let n : ℕ = (g.P.Parts.stripes_of c.args.parts.now) in
    let own : ℕ = (g.P.Parts.holder_of c.args.parts.now) in
    let b = g.P.Parts.part_of c.args.parts.now in
    let d = g.P.Parts.part_of c.clear_all.new.parts in
    taken_back (shard_meaning g.R.Shows.is_steady) n own c.args.self.begun before b d has
    (subst (λ (l : List Bytes). Became (shard_meaning g.R.Shows.is_steady) n [] (clears own l) b d) c.as_slice.ensures c.clear_all.ensures.became)

pub returns-clause-became : goal.returns-clause-became
returns-clause-became g c = search rules
