use Rattle.std.proofs.Common.{ℕ, List, arith}
use Rattle.words.specs.Store.{Write}
use Rattle.plans.proofs.Rooms.{share_light, share_there, shares_are}
use Rattle.plans.proofs.Shares.{are_shares}
use Rattle.plans.proofs.room.reserve_each.Goals as goal

pub reserve_shares-requires-clause-there : goal.reserve_shares-requires-clause-there
reserve_shares-requires-clause-there g c = λ i below some.
    let n : ℕ = g.P.Parts.stripes_of c.args.parts.now in
    let ws : List Write = c.args.writes.now in
    share_there n i ws (g.P.Parts.part_of c.args.parts.now) c.requires.may.there
    (omega (arith, some, shares_are n c.stripes.result ws c.shares_of-shares.result c.stripes.ensures.count c.shares_of-shares.ensures i below))

pub reserve_shares-requires-clause-light : goal.reserve_shares-requires-clause-light
reserve_shares-requires-clause-light g c = λ i below.
    let n : ℕ = g.P.Parts.stripes_of c.args.parts.now in
    let ws : List Write = c.args.writes.now in
    omega (arith, shares_are n c.stripes.result ws c.shares_of-shares.result c.stripes.ensures.count c.shares_of-shares.ensures i below, share_light n i ws, c.requires.light)

pub returns-clause-room : goal.returns-clause-room
returns-clause-room g c =
    let n : ℕ = g.P.Parts.stripes_of c.args.parts.now in
    (c.reserve_shares.ensures.reserved c.args.writes.now (are_shares n c.stripes.result c.args.writes.now c.shares_of-shares.result c.purpose_of.result c.stripes.ensures.count c.shares_of-shares.ensures c.requires.light c.purpose_of.ensures)).room

pub returns-clause-stopped : goal.returns-clause-stopped
returns-clause-stopped g c =
    let n : ℕ = g.P.Parts.stripes_of c.args.parts.now in
    (c.reserve_shares.ensures.reserved c.args.writes.now (are_shares n c.stripes.result c.args.writes.now c.shares_of-shares.result c.purpose_of.result c.stripes.ensures.count c.shares_of-shares.ensures c.requires.light c.purpose_of.ensures)).stopped

pub returns-clause-few : goal.returns-clause-few
returns-clause-few g c =
    let n : ℕ = g.P.Parts.stripes_of c.args.parts.now in
    (c.reserve_shares.ensures.reserved c.args.writes.now (are_shares n c.stripes.result c.args.writes.now c.shares_of-shares.result c.purpose_of.result c.stripes.ensures.count c.shares_of-shares.ensures c.requires.light c.purpose_of.ensures)).few
