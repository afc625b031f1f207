use Rattle.std.proofs.Common.{◌≡◌, ◌∙◌, ℕ, Option, Some, sym, subst, ap}
use Rattle.words.specs.declared.command.Command.{Command}
use Rattle.words.specs.Briefs.{commanded}
use Rattle.words.specs.Store.{Bytes}
use Rattle.words.specs.Stripes.{stripe_of}
use Rattle.hybrid.specs.Staging.{AreRight}
use Rattle.transact.specs.Tables.{joined, value_in}
use Rattle.shards.specs.Shards.{shard_meaning, shard_store}
use Rattle.std.specs.Prelude.{IfSome}
use Rattle.plans.specs.Settling.{SettlesAs}
use Rattle.plans.proofs.Settled.{brief_inline, one_names, one_touches, some_settled}
use Rattle.plans.proofs.settling.settle.Goals as goal

pub returns-clause-settled : goal.returns-clause-settled
returns-clause-settled g c =
    let n : ℕ = g.P.Parts.stripes_of c.args.parts.now in
    let part = c.part.result.now in
    let parts = g.P.Parts.part_of c.args.parts.now in
    let contents = shard_meaning g.R.Shows.is_steady in
    let key : Bytes = c.args.key.now in
    let there : parts (stripe_of n key) ≡ Some part = sym (ap parts c.stripe_at-stripe.ensures) ∙ c.part.ensures.value in
    let same : joined contents n parts key ≡ shard_store part key = sym (ap (value_in contents key) (sym there)) in
    let command : Command = commanded c.args.verb key c.args.value.now in
    some_settled n parts key part there c.depends_on_named_keys.ensures contents command c.args.value.now (g.R.Shows.is_honest × AreRight c.args.staged.now) (one_touches c.args.verb key c.args.value.now) (one_names c.args.verb key c.args.value.now) c.settle_at.result c.requires.may.there c.requires.bounded
    (subst (λ (has : Option Bytes). IfSome c.settle_at.result (SettlesAs (g.R.Shows.is_honest × AreRight c.args.staged.now) has command key c.args.value.now)) (sym same) c.settle_at.ensures.answer) (c.settle_at.ensures.short c.requires.bounded) c.settle_at.ensures.spot

pub returns-clause-inline : goal.returns-clause-inline
returns-clause-inline g c = λ lends right inline.
    let n : ℕ = g.P.Parts.stripes_of c.args.parts.now in
    let part = c.part.result.now in
    let parts = g.P.Parts.part_of c.args.parts.now in
    let contents = shard_meaning g.R.Shows.is_steady in
    let key : Bytes = c.args.key.now in
    let there : parts (stripe_of n key) ≡ Some part = sym (ap parts c.stripe_at-stripe.ensures) ∙ c.part.ensures.value in
    let same : joined contents n parts key ≡ shard_store part key = sym (ap (value_in contents key) (sym there)) in
    c.settle_at.ensures.memory (joined contents n parts) same lends right inline

pub returns-clause-memory : goal.returns-clause-memory
returns-clause-memory g c = λ lends right brief.
    let n : ℕ = g.P.Parts.stripes_of c.args.parts.now in
    let part = c.part.result.now in
    let parts = g.P.Parts.part_of c.args.parts.now in
    let contents = shard_meaning g.R.Shows.is_steady in
    let key : Bytes = c.args.key.now in
    let there : parts (stripe_of n key) ≡ Some part = sym (ap parts c.stripe_at-stripe.ensures) ∙ c.part.ensures.value in
    let same : joined contents n parts key ≡ shard_store part key = sym (ap (value_in contents key) (sym there)) in
    c.settle_at.ensures.memory (joined contents n parts) same lends right (brief_inline c.depends_on_named_keys.ensures c.args.verb key c.args.value.now (joined contents n parts) brief)
