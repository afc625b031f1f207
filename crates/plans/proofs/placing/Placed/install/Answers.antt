use Rattle.std.proofs.Common.{List, subst, sym}
use Rattle.words.specs.Store.{Write}
use Rattle.transact.specs.declared.call.Call.{Call}
use Rattle.transact.specs.Tables.{AreThere, Became, touches}
use Rattle.shards.specs.Rooms.{HaveGrown}
use Rattle.shards.specs.Shards.{logs_of, shard_meaning}
use Rattle.transact.specs.Plans.{keys_ended}
use Rattle.plans.proofs.Become.{there_after}
use Rattle.plans.proofs.Begun.{touched_cleared}
use Rattle.plans.proofs.Grown.{grown_as}
use Rattle.plans.proofs.Waits.{waits_both}
use Rattle.plans.proofs.placing.Placed.install.Goals as goal

pub end_watches-requires-clause-there : goal.end_watches-requires-clause-there
end_watches-requires-clause-there g c =
    let count = g.met.P.Parts.same_stripes c.args.parts.now c.place_writes.new.parts c.place_writes.ensures.held.kept in
    subst (λ (x : Call). AreThere (g.P.Parts.stripes_of c.place_writes.new.parts) (g.P.Parts.part_of c.place_writes.new.parts) (keys_ended x)) (sym c.call-asked.ensures)
    (rw count (there_after (shard_meaning g.R.Shows.is_steady) (g.P.Parts.stripes_of c.args.parts.now) (keys_ended c.args.call.now) (g.P.Parts.part_of c.args.parts.now) (g.P.Parts.part_of c.place_writes.new.parts) c.place_writes.ensures.became.there c.requires.there))

pub returns-clause-became : goal.returns-clause-became
returns-clause-became g c =
    let count = g.met.P.Parts.same_stripes c.args.parts.now c.place_writes.new.parts c.place_writes.ensures.held.kept in
    let holder = g.met.P.Parts.same_holder c.args.parts.now c.place_writes.new.parts c.place_writes.ensures.held.kept in
    let ended = rw (count, holder, c.call-asked.ensures) at c.end_watches.ensures.became in
    touched_cleared (shard_meaning g.R.Shows.is_steady) (g.P.Parts.stripes_of c.args.parts.now) (g.P.Parts.holder_of c.args.parts.now) c.args.self.placing.writes (keys_ended c.args.call.now)
    (g.P.Parts.part_of c.args.parts.now) (g.P.Parts.part_of c.place_writes.new.parts) (g.P.Parts.part_of c.end_watches.new.parts) (subst (λ (ws : List Write). Became (shard_meaning g.R.Shows.is_steady) (g.P.Parts.stripes_of c.args.parts.now) ws (touches ws) (g.P.Parts.part_of c.args.parts.now) (g.P.Parts.part_of c.place_writes.new.parts)) c.as_slice.ensures c.place_writes.ensures.became) ended

pub returns-clause-grown : goal.returns-clause-grown
returns-clause-grown g c =
    grown_as (g.P.Parts.stripes_of c.args.parts.now) c.args.self.placing.writes (logs_of (g.P.Parts.part_of c.args.parts.now)) (logs_of (g.P.Parts.part_of c.place_writes.new.parts)) (logs_of (g.P.Parts.part_of c.end_watches.new.parts))
    (subst (λ (ws : List Write). HaveGrown (g.P.Parts.stripes_of c.args.parts.now) ws (logs_of (g.P.Parts.part_of c.args.parts.now)) (logs_of (g.P.Parts.part_of c.place_writes.new.parts))) c.as_slice.ensures c.place_writes.ensures.grown) c.end_watches.ensures.logs

pub returns-clause-waits : goal.returns-clause-waits
returns-clause-waits g c =
    waits_both (g.P.Parts.part_of c.args.parts.now) (g.P.Parts.part_of c.place_writes.new.parts) (g.P.Parts.part_of c.end_watches.new.parts) c.place_writes.ensures.waits c.end_watches.ensures.waits
