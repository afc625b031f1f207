use Rattle.std.proofs.Common.{ap}
use Rattle.words.specs.Store.{Store}
use Rattle.words.specs.Watches.{Marks}
use Rattle.shards.specs.Shards.{shard_meaning}
use Rattle.plans.proofs.Become.{same_one}
use Rattle.plans.proofs.freeing.free_at.Goals as goal

pub returns-clause-became : goal.returns-clause-became
returns-clause-became g c =
    let new = c.free_places.new.self in
    same_one (shard_meaning g.R.Shows.is_steady) (g.P.Parts.stripes_of c.args.parts.now) c.args.stripe (g.P.Parts.part_of c.args.parts.now) (g.P.Parts.part_of (g.P.Parts.with_part c.args.parts.now c.args.stripe new)) c.part.result.now new
    c.part.ensures.value (c.part.ensures.written new) (c.part.ensures.others new) (λ k. ap (λ (s : Store). s k) c.free_places.ensures.store) (λ k number. ap (λ (m : Marks). m k number) c.free_places.ensures.marks)

pub returns-clause-freed : goal.returns-clause-freed
returns-clause-freed g c =
    let new = c.free_places.new.self in
    record { old = c.part.result.now; new = new; was = c.part.ensures.value; is = c.part.ensures.written new; others = c.part.ensures.others new; how = c.free_places.ensures.freed }
