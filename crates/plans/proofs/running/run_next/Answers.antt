use Rattle.std.proofs.Common.{[], ◌∷◌, sym, subst}
use Rattle.words.specs.Commands.{keys_of}
use Rattle.words.specs.Store.{Bytes}
use Rattle.transact.specs.Tables.{AreThere}
use Rattle.shards.specs.Shards.{shard_meaning}
use Rattle.plans.proofs.Keys.{there_at}
use Rattle.plans.proofs.running.run_next.Goals as goal

pub run_key-requires-clause-may : goal.run_key-requires-clause-may
run_key-requires-clause-may g c = record {
  can_lend = c.requires.may.can_lend;
  there = subst (λ (k : Bytes). AreThere (g.P.Parts.stripes_of c.args.parts.now) (g.P.Parts.part_of c.args.parts.now) (k ∷ [])) (sym c.new-key.ensures)
      (there_at (shard_meaning g.R.Shows.is_steady) (g.P.Parts.stripes_of c.args.parts.now) (g.P.Parts.part_of c.args.parts.now) (keys_of c.args.command.now) 0 c.in-AtValue.key.now c.in-AtValue.ensures.1 c.requires.may.there);
}
