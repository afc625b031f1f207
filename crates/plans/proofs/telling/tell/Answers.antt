use Rattle.std.proofs.Common.{◌≡◌, ◌∙◌, ◌++◌, ◌∷◌, [], ℕ, Some, sym, ap, subst}
use Rattle.std.specs.Bool.{OnTrue}
use Rattle.words.specs.declared.reply.Item.{Item}
use Rattle.words.specs.Answers.{item_of}
use Rattle.words.specs.Store.{Bytes}
use Rattle.words.specs.Stripes.{stripe_of}
use Rattle.hybrid.specs.Staging.{AreRight}
use Rattle.transact.specs.Tables.{joined, value_in}
use Rattle.shards.specs.Shards.{shard_meaning, shard_store}
use Rattle.plans.proofs.telling.tell.Goals as goal

pub returns-clause-told : goal.returns-clause-told
returns-clause-told g c =
    let n : ℕ = g.P.Parts.stripes_of c.args.parts.now in
    let part = c.part.result.now in
    let parts = g.P.Parts.part_of c.args.parts.now in
    let contents = shard_meaning g.R.Shows.is_steady in
    let key : Bytes = c.args.key.now in
    let at : c.stripe_at-stripe.result ≡ stripe_of n key = c.stripe_at-stripe.ensures ∙ ap (stripe_of n) c.new-key.ensures in
    let there : parts (stripe_of n key) ≡ Some part = sym (ap parts at) ∙ c.part.ensures.value in
    let same : joined contents n parts key ≡ shard_store part c.new-key.result = sym (ap (value_in contents key) (sym there)) ∙ ap (shard_store part) (sym c.new-key.ensures) in
    subst (λ (i : Item). OnTrue c.tell_at.result (g.R.Shows.is_honest × AreRight c.args.staged.now → c.tell_at.new.told ≡ c.args.told.now ++ i ∷ [])) (sym (ap item_of same)) c.tell_at.ensures
