use Rattle.std.proofs.Common.{◌≡◌, ◌∙◌, ◌<◌, ℕ, [], ◌∷◌, ap, refl}
use Rattle.words.specs.Store.{Write}
use Rattle.words.specs.Stripes.{stripe_of}
use Rattle.shards.specs.Receipts.{kept_by}
use Rattle.shards.specs.Rooms.{purpose_of}
use Rattle.shards.specs.Shards.{logs_of, weigh}
use Rattle.plans.proofs.Few.{few_more, few_none}
use Rattle.plans.proofs.One.{all_of_one, has_room_one, stopped_one}
use Rattle.plans.proofs.Rooms.{stripe_below}
use Rattle.plans.proofs.room.reserve_one.Goals as goal

pub returns-clause-room : goal.returns-clause-room
returns-clause-room g c =
    let n : ℕ = g.P.Parts.stripes_of c.args.parts.now in
    let w : Write = c.args.write.now in
    let at : c.stripe_in-stripe.result ≡ stripe_of n w.0 = c.stripe_in-stripe.ensures ∙ ap (stripe_of n) c.key.ensures in
    let below : stripe_of n w.0 < n = stripe_below n w.0 (g.met.P.Parts.are_few c.args.parts.now c.requires.may.can_lend).0 in
    let e = rw (at, c.weigh.ensures, c.purpose_for.ensures) at c.reserve_share.ensures in
    has_room_one g.D.Device.wrote (kept_by g.R.Shows.identity g.R.Shows.shown) n w g.D.Device.failures
    (g.P.Parts.part_of c.args.parts.now, c.args.device.now) (g.P.Parts.part_of c.reserve_share.new.parts, c.reserve_share.new.device) below
    e.shed c.reserve_share.result e.room e.failed

pub returns-clause-few : goal.returns-clause-few
returns-clause-few g c =
    let n : ℕ = g.P.Parts.stripes_of c.args.parts.now in
    let w : Write = c.args.write.now in
    let at : c.stripe_in-stripe.result ≡ stripe_of n w.0 = c.stripe_in-stripe.ensures ∙ ap (stripe_of n) c.key.ensures in
    let before = logs_of (g.P.Parts.part_of c.args.parts.now) in
    let e = rw (at, c.weigh.ensures, c.purpose_for.ensures) at c.reserve_share.ensures.reserved in
    few_more n (stripe_of n w.0) (weigh w) (purpose_of (w ∷ [])) (w ∷ []) before before (logs_of (g.P.Parts.part_of c.reserve_share.new.parts))
    (all_of_one n w) refl (λ j above. refl) e.others (few_none n (w ∷ []) before before (λ i. refl)) e.few

pub returns-clause-stopped : goal.returns-clause-stopped
returns-clause-stopped g c =
    let n : ℕ = g.P.Parts.stripes_of c.args.parts.now in
    let w : Write = c.args.write.now in
    let at : c.stripe_in-stripe.result ≡ stripe_of n w.0 = c.stripe_in-stripe.ensures ∙ ap (stripe_of n) c.key.ensures in
    let below : stripe_of n w.0 < n = stripe_below n w.0 (g.met.P.Parts.are_few c.args.parts.now c.requires.may.can_lend).0 in
    let before = logs_of (g.P.Parts.part_of c.args.parts.now) in
    let e = rw (at, c.weigh.ensures, c.purpose_for.ensures) at c.reserve_share.ensures in
    stopped_one g.D.Device.wrote (kept_by g.R.Shows.identity g.R.Shows.shown) n w g.D.Device.failures
    (g.P.Parts.part_of c.args.parts.now, c.args.device.now) (g.P.Parts.part_of c.reserve_share.new.parts, c.reserve_share.new.device) below
    e.shed c.reserve_share.result c.requires.light
    (few_more n (stripe_of n w.0) (weigh w) (purpose_of (w ∷ [])) (w ∷ []) before before (logs_of (g.P.Parts.part_of c.reserve_share.new.parts))
    (all_of_one n w) refl (λ j above. refl) e.reserved.others (few_none n (w ∷ []) before before (λ i. refl)) e.reserved.few)
    e.stopped e.failed
