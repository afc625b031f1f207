use Rattle.std.proofs.Common.{◌≡◌, ◌∙◌, ℕ, Some, sym, ap}
use Rattle.words.specs.Store.{Bytes}
use Rattle.words.specs.Stripes.{stripe_of}
use Rattle.hybrid.specs.Staging.{AreRight}
use Rattle.transact.specs.Tables.{joined, value_in}
use Rattle.shards.specs.Shards.{shard_meaning, shard_store}
use Rattle.plans.proofs.Found.{missed_for}
use Rattle.plans.proofs.find.answer_key.Goals as goal

pub returns-clause-stopped : goal.returns-clause-stopped
returns-clause-stopped g c =
    let n : ℕ = g.P.Parts.stripes_of c.args.parts.now in
    let part = c.part.result.now in
    let parts = g.P.Parts.part_of c.args.parts.now in
    let contents = shard_meaning g.R.Shows.is_steady in
    let key : Bytes = c.args.key.now in
    let there : parts (stripe_of n key) ≡ Some part = sym (ap parts c.stripe_at-stripe.ensures) ∙ c.part.ensures.value in
    let same : shard_store part key ≡ joined contents n parts key = ap (value_in contents key) (sym there) in
    missed_for c.answer_at.result g.R.Shows.lends (g.R.Shows.is_honest × AreRight c.args.staged.now) contents n parts key c.args.command.now part c.args.staged.now c.requires.one there same c.answer_at.ensures.stopped
