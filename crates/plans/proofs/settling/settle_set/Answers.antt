use Rattle.std.proofs.Common.{◌≡◌, ◌∙◌, ℕ, Option, Some, sym, subst, ap}
use Rattle.words.specs.declared.command.Command.{Command}
use Rattle.words.specs.Commands.{set_with}
use Rattle.words.specs.Store.{Bytes}
use Rattle.words.specs.Stripes.{stripe_of}
use Rattle.hybrid.specs.Staging.{AreRight}
use Rattle.transact.specs.Tables.{joined, value_in}
use Rattle.shards.specs.Shards.{shard_meaning, shard_store}
use Rattle.std.specs.Prelude.{IfSome}
use Rattle.plans.specs.Settling.{SettlesAs}
use Rattle.plans.proofs.Settled.{set_names, set_short, set_touches, some_settled}
use Rattle.plans.proofs.settling.settle_set.Goals as goal

pub returns-clause-settled : goal.returns-clause-settled
returns-clause-settled g c =
    let n : ℕ = g.P.Parts.stripes_of c.args.parts.now in
    let part = c.part.result.now in
    let parts = g.P.Parts.part_of c.args.parts.now in
    let contents = shard_meaning g.R.Shows.is_steady in
    let key : Bytes = c.args.key.now in
    let value : Bytes = c.args.value.now in
    let command : Command = set_with key value (Some (c.args.when, c.args.gets)) in
    let there : parts (stripe_of n key) ≡ Some part = sym (ap parts c.stripe_at-stripe.ensures) ∙ c.part.ensures.value in
    let same : joined contents n parts key ≡ shard_store part key = sym (ap (value_in contents key) (sym there)) in
    some_settled n parts key part there c.depends_on_named_keys.ensures contents command value (g.R.Shows.is_honest × AreRight c.args.staged.now) (set_touches key value c.args.when c.args.gets) (set_names key value c.args.when c.args.gets) c.settle_set_at.result c.requires.may.there c.requires.bounded
    (subst (λ (has : Option Bytes). IfSome c.settle_set_at.result (SettlesAs (g.R.Shows.is_honest × AreRight c.args.staged.now) has command key value)) (sym same) c.settle_set_at.ensures.answer) (c.settle_set_at.ensures.short (set_short key value c.args.when c.args.gets c.requires.bounded)) c.settle_set_at.ensures.spot
