use Rattle.std.proofs.Common.{ap, ◌∙◌, ◌%◌, ℕ}
use Rattle.words.specs.Stripes.{stripe_of}
use Rattle.words.proofs.hash.stripe_of.Goals as goal

pub returns-clause-stripe : goal.returns-clause-stripe
unfolding stripe_of
returns-clause-stripe c = c.stripe_at.ensures.stripe ∙ ap (λ (h : ℕ). h % c.args.count) c.hash_of.ensures
