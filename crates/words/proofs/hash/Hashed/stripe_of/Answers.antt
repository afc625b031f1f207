use Rattle.std.proofs.Common.{ap, ◌∙◌, ◌%◌, ℕ, List}
use Rattle.words.specs.Stripes.{stripe_of, hash_of}
use Rattle.words.proofs.hash.Hashed.stripe_of.Goals as goal

pub returns-clause-stripe : goal.returns-clause-stripe
unfolding stripe_of
returns-clause-stripe c = c.stripe_at.ensures.stripe ∙ ap (λ (h : ℕ). h % c.args.count) c.self.invariant
    ∙ ap (λ (key : List ℕ). hash_of key % c.args.count) c.self.view_is
