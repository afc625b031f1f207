use Rattle.std.proofs.Common.{ℕ, List, arith, subst, sym}
use Rattle.words.specs.Answers.{writes_set}
use Rattle.words.specs.Briefs.{pairs_of}
use Rattle.words.specs.Store.{Bytes, Write}
use Rattle.transact.specs.Tables.{AreThere}
use Rattle.plans.proofs.Rooms.{share_light, share_there, shares_are}
use Rattle.plans.proofs.Shares.{are_shares}
use Rattle.plans.proofs.Assigned.{keys_of_settings}
use Rattle.plans.proofs.settings.reserve_settings.Goals as goal

pub reserve_shares-requires-clause-there : goal.reserve_shares-requires-clause-there
reserve_shares-requires-clause-there g c = λ i below some.
    let n : ℕ = g.P.Parts.stripes_of c.args.parts.now in
    let ws : List Write = writes_set (pairs_of c.args.words.now) in
    let parts = g.P.Parts.part_of c.args.parts.now in
    share_there n i ws parts (subst (λ (keys : List Bytes). AreThere n parts keys) (sym (keys_of_settings (pairs_of c.args.words.now))) c.requires.may.there)
    (omega (arith, some, shares_are n c.stripes.result ws c.shares_of-shares.result c.stripes.ensures.count c.shares_of-shares.ensures i below))

pub reserve_shares-requires-clause-light : goal.reserve_shares-requires-clause-light
reserve_shares-requires-clause-light g c = λ i below.
    let n : ℕ = g.P.Parts.stripes_of c.args.parts.now in
    let ws : List Write = writes_set (pairs_of c.args.words.now) in
    omega (arith, shares_are n c.stripes.result ws c.shares_of-shares.result c.stripes.ensures.count c.shares_of-shares.ensures i below, share_light n i ws, c.requires.light)

pub returns-clause-room : goal.returns-clause-room
returns-clause-room g c =
    let n : ℕ = g.P.Parts.stripes_of c.args.parts.now in
    (c.reserve_shares.ensures.reserved (writes_set (pairs_of c.args.words.now)) (are_shares n c.stripes.result (writes_set (pairs_of c.args.words.now)) c.shares_of-shares.result c.purpose_for.result c.stripes.ensures.count c.shares_of-shares.ensures c.requires.light c.purpose_for.ensures)).room

pub returns-clause-stopped : goal.returns-clause-stopped
returns-clause-stopped g c =
    let n : ℕ = g.P.Parts.stripes_of c.args.parts.now in
    (c.reserve_shares.ensures.reserved (writes_set (pairs_of c.args.words.now)) (are_shares n c.stripes.result (writes_set (pairs_of c.args.words.now)) c.shares_of-shares.result c.purpose_for.result c.stripes.ensures.count c.shares_of-shares.ensures c.requires.light c.purpose_for.ensures)).stopped

pub returns-clause-few : goal.returns-clause-few
returns-clause-few g c =
    let n : ℕ = g.P.Parts.stripes_of c.args.parts.now in
    (c.reserve_shares.ensures.reserved (writes_set (pairs_of c.args.words.now)) (are_shares n c.stripes.result (writes_set (pairs_of c.args.words.now)) c.shares_of-shares.result c.purpose_for.result c.stripes.ensures.count c.shares_of-shares.ensures c.requires.light c.purpose_for.ensures)).few
