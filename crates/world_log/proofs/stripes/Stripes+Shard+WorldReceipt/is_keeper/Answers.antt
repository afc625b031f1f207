use Rattle.std.proofs.Common.{length, refl, sym}
use Rattle.std.proofs.lemmas.Option.{slice_get_read}
use Rattle.world_log.proofs.Held.{keeper_here}
use Rattle.world_log.proofs.stripes.Stripes+Shard+WorldReceipt.is_keeper.Goals as goal

pub returns-then-is_held_by-clause-kept : goal.returns-then-is_held_by-clause-kept
returns-then-is_held_by-clause-kept c kept =
    let there = slice_get_read c.args.self.now.lanes.items (length c.args.self.now.lanes.items) c.args.stripe c.index.result.now refl c.requires.within c.index.ensures in
    keeper_here c.args.self.now c.args.client c.args.place c.args.stripe c.index.result.now there (sym c.if-is_held_by.ensures) (c.keeps_away.ensures.kept kept)
