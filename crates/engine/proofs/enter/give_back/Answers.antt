use Rattle.std.proofs.Common.{Bool, [], subst}
use Rattle.gates.specs.Passes.{AllFit, stripes_of}
use Rattle.gates.specs.Plays.{kept}
use Rattle.gates.specs.Helds.{gates_of, held_parts, held_taken, known_to}
use Rattle.shards.specs.Shards.{shard_meaning}
use Rattle.engine.proofs.enter.give_back.Goals as goal

pub forget-requires-clause-fit : goal.forget-requires-clause-fit
forget-requires-clause-fit g c =
    let held = c.args.held in
    subst (λ (e : Bool). AllFit (shard_meaning g.R.Shows.is_steady) (stripes_of (gates_of held)) (kept e [] (known_to held)) (held_taken held) (held_parts held)) c.if-ends.true c.requires.may.fit

pub give-requires-clause-fit : goal.give-requires-clause-fit
give-requires-clause-fit g c =
    let held = c.args.held in
    subst (λ (e : Bool). AllFit (shard_meaning g.R.Shows.is_steady) (stripes_of (gates_of held)) (kept e [] (known_to held)) (held_taken held) (held_parts held)) c.if-ends.false c.requires.may.fit
