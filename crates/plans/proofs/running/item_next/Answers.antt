use Rattle.std.proofs.Common.{◌≡◌, ◌∙◌, ℕ, Some, sym, ap}
use Rattle.words.specs.Store.{Bytes}
use Rattle.words.specs.Stripes.{stripe_of}
use Rattle.transact.specs.Tables.{joined, value_in}
use Rattle.shards.specs.Shards.{shard_meaning, shard_store}
use Rattle.plans.proofs.running.item_next.Goals as goal

pub returns-clause-item : goal.returns-clause-item
returns-clause-item g c =
    let n : ℕ = g.P.Parts.stripes_of c.args.parts.now in
    let part = c.part.result.now in
    let parts = g.P.Parts.part_of c.args.parts.now in
    let contents = shard_meaning g.R.Shows.is_steady in
    let key : Bytes = c.args.key.now in
    let there : parts (stripe_of n key) ≡ Some part = sym (ap parts (c.stripe_at-stripe.ensures ∙ ap (stripe_of n) c.new-key.ensures)) ∙ c.part.ensures.value in
    let same : joined contents n parts key ≡ shard_store part key = sym (ap (value_in contents key) (sym there)) in
    rw c.new-key.ensures at c.item_at.ensures.item (joined contents n parts) same
