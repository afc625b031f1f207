use Rattle.std.proofs.Common.{◌≡◌, ◌∙◌, ◌+◌, ◌≤◌, [], ℕ, length, Option, Some, None, IfSome, vec_len, refl, sym, ap, subst}
use Rattle.words.specs.Encoding.{encoding}
use Rattle.words.specs.Session.{value_reply}
use Rattle.words.specs.Store.{Bytes}
use Rattle.words.specs.Stripes.{stripe_of}
use Rattle.transact.specs.Tables.{joined, value_in}
use Rattle.shards.specs.Shards.{shard_meaning, shard_store}
use Rattle.plans.proofs.Plans.{plan_of_get}
use Rattle.plans.proofs.telling.say_up_to_limit.Goals as goal

some_then : {A : Type 0} (result : Option A) (P Q : A → Type 0) → ((a : A) → P a → Q a) → IfSome result P → IfSome result Q
some_then (Some a) P Q turn has = turn a has
some_then None P Q turn has = tt

pub returns-clause-value : goal.returns-clause-value
returns-clause-value g c =
    let n : ℕ = g.P.Parts.stripes_of c.args.parts.now in
    let part = c.part.result.now in
    let parts = g.P.Parts.part_of c.args.parts.now in
    let contents = shard_meaning g.R.Shows.is_steady in
    let there : parts (stripe_of n c.args.key.now) ≡ Some part = sym (ap parts c.stripe_at-stripe.ensures) ∙ c.part.ensures.value in
    let same : shard_store part c.args.key.now ≡ joined contents n parts c.args.key.now = ap (value_in contents c.args.key.now) (sym there) in
    some_then c.say_at.result _ _
    (λ value is. record {
      is = λ right. is right ∙ same;
      due = λ right seen reads. plan_of_get contents n parts seen c.args.key.now value (value_reply value) [] (is right ∙ same) reads c.requires.may.there.0 refl refl;
    })
    c.say_at.ensures.value

pub returns-clause-room : goal.returns-clause-room
returns-clause-room g c = λ lends right fits.
    let n : ℕ = g.P.Parts.stripes_of c.args.parts.now in
    let part = c.part.result.now in
    let parts = g.P.Parts.part_of c.args.parts.now in
    let contents = shard_meaning g.R.Shows.is_steady in
    let there : parts (stripe_of n c.args.key.now) ≡ Some part = sym (ap parts c.stripe_at-stripe.ensures) ∙ c.part.ensures.value in
    let same : joined contents n parts c.args.key.now ≡ shard_store part c.args.key.now = sym (ap (value_in contents c.args.key.now) (sym there)) in
    c.say_at.ensures.room lends right
    (subst (λ (v : Option Bytes). vec_len c.args.out.now + length (encoding (value_reply v)) ≤ c.args.limit) same fits)
