use Rattle.std.proofs.Common.{◌≡◌, ◌∙◌, [], ℕ, Some, refl, sym, ap}
use Rattle.words.specs.Session.{value_reply}
use Rattle.words.specs.Stripes.{stripe_of}
use Rattle.hybrid.specs.Staging.{AreRight}
use Rattle.transact.specs.Tables.{joined, value_in}
use Rattle.shards.specs.Shards.{shard_meaning, shard_store}
use Rattle.plans.proofs.Found.{missed_of}
use Rattle.plans.proofs.Plans.{plan_of_get}
use Rattle.plans.proofs.Stores.{ok_then_all}
use Rattle.plans.proofs.short.value_of.Goals as goal

pub returns-clause-value : goal.returns-clause-value
returns-clause-value g c =
    let n : ℕ = g.P.Parts.stripes_of c.args.parts.now in
    let part = c.part.result.now in
    let parts = g.P.Parts.part_of c.args.parts.now in
    let contents = shard_meaning g.R.Shows.is_steady in
    let there : parts (stripe_of n c.args.key.now) ≡ Some part = sym (ap parts c.stripe_at-stripe.ensures) ∙ c.part.ensures.value in
    let same : shard_store part c.args.key.now ≡ joined contents n parts c.args.key.now = ap (value_in contents c.args.key.now) (sym there) in
    ok_then_all c.copy_of.result
    (λ value is. record {
      is = λ right. is right ∙ same;
      due = λ right seen reads. plan_of_get contents n parts seen c.args.key.now value (value_reply value) [] (is right ∙ same) reads c.requires.may.there.0 refl refl;
    })
    c.copy_of.ensures.value

pub returns-clause-stopped : goal.returns-clause-stopped
returns-clause-stopped g c =
    let n : ℕ = g.P.Parts.stripes_of c.args.parts.now in
    let part = c.part.result.now in
    let parts = g.P.Parts.part_of c.args.parts.now in
    let contents = shard_meaning g.R.Shows.is_steady in
    let there : parts (stripe_of n c.args.key.now) ≡ Some part = sym (ap parts c.stripe_at-stripe.ensures) ∙ c.part.ensures.value in
    let same : shard_store part c.args.key.now ≡ joined contents n parts c.args.key.now = ap (value_in contents c.args.key.now) (sym there) in
    missed_of c.copy_of.result g.R.Shows.lends (g.R.Shows.is_honest × AreRight c.args.staged.now) contents n parts c.args.key.now part c.args.staged.now there same c.copy_of.ensures.stopped
