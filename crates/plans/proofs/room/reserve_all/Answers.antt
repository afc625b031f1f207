use Rattle.std.proofs.Common.{◌≡◌, ℕ, List, [], refl, sym, subst, arith}
use Rattle.std.specs.Prelude.{IfErr}
use Rattle.words.specs.Store.{Write}
use Rattle.shards.specs.Receipts.{kept_by}
use Rattle.shards.specs.Shards.{logs_of}
use Rattle.plans.specs.Reserving.{StopsMaking}
use Rattle.plans.proofs.Few.{left_none}
use Rattle.plans.proofs.Making.{made_nothing, no_room}
use Rattle.plans.proofs.One.{one_item}
use Rattle.plans.proofs.Rooms.{no_share}
use Rattle.plans.proofs.room.reserve_all.Goals as goal

pub returns-in-empty-clause-room : goal.returns-in-empty-clause-room
returns-in-empty-clause-room g c =
    let n : ℕ = g.P.Parts.stripes_of c.args.parts.now in
    let logs = logs_of (g.P.Parts.part_of c.args.parts.now) in
    let none : c.args.writes.now ≡ [] = no_share c.args.writes.now (omega (arith, c.in-empty.len_below)) in
    record {
      room = no_room n logs c.args.writes.now none;
      made = made_nothing g.D.Device.wrote (kept_by g.R.Shows.identity g.R.Shows.shown) n n c.args.writes.now logs logs c.args.device.now c.args.device.now none (λ i. refl) refl;
      left = left_none n c.args.writes.now logs logs none;
    }

pub returns-in-len1-clause-stopped : goal.returns-in-len1-clause-stopped
returns-in-len1-clause-stopped g c =
    let kept = kept_by g.R.Shows.identity g.R.Shows.shown in
    subst (λ (ws : List Write). IfErr c.reserve_one.result (StopsMaking g.D.Device.wrote kept (g.P.Parts.stripes_of c.args.parts.now) ws (g.P.Parts.part_of c.args.parts.now, c.args.device.now)
    (g.P.Parts.part_of c.reserve_one.new.parts, c.reserve_one.new.device)))
    (sym (one_item c.args.writes.now c.write-item.result c.in-len1.len_at_least c.in-len1.len_below c.write-item.is)) c.reserve_one.ensures.stopped
