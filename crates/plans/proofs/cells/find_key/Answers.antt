use Rattle.std.proofs.Common.{◌≡◌, ◌∙◌, ◌∷◌, [], ℕ, Option, Some, sym, ap, subst}
use Rattle.words.specs.Answers.{value_of}
use Rattle.words.specs.Commands.{IsInline}
use Rattle.words.specs.Store.{Bytes}
use Rattle.words.specs.Stripes.{stripe_of}
use Rattle.hybrid.specs.Staging.{AreRight}
use Rattle.transact.specs.Tables.{joined, value_in}
use Rattle.shards.specs.Shards.{logs_of, shard_log, shard_meaning, shard_store}
use Rattle.plans.specs.Stops.{IsNeeded, IsWantedFor}
use Rattle.plans.proofs.Stores.{ok_then}
use Rattle.plans.proofs.Found.{found_as, needed_of}
use Rattle.plans.proofs.Hand.{hand_of}
use Rattle.plans.proofs.cells.find_key.Goals as goal

pub returns-clause-found : goal.returns-clause-found
returns-clause-found g c =
    let n : ℕ = (g.P.Parts.stripes_of c.args.parts.now) in
    let part = c.part.result.now in
    let parts = g.P.Parts.part_of c.args.parts.now in
    let there : parts (stripe_of n c.args.key.now) ≡ Some part = sym (ap parts (c.stripe_at-stripe.ensures ∙ ap (stripe_of n) c.new-key.ensures)) ∙ c.part.ensures.value in
    let same : shard_store part c.args.key.now ≡ joined (shard_meaning g.R.Shows.is_steady) n parts c.args.key.now =
    ap (value_in (shard_meaning g.R.Shows.is_steady) c.args.key.now) (sym there) in
    ok_then c.look_up.result
    (λ found. found_as (IsWantedFor (g.R.Shows.is_honest × AreRight c.args.staged.now) (shard_log part) c.args.key.now c.args.staged.now) (IsNeeded (g.R.Shows.is_honest × AreRight c.args.staged.now) n (logs_of parts) (c.args.key.now ∷ []) c.args.staged.now) (g.R.Shows.is_honest × AreRight c.args.staged.now) (g.R.Shows.is_honest × AreRight c.args.staged.now) (shard_store part) (joined (shard_meaning g.R.Shows.is_steady) n parts) c.args.key.now
    c.args.cold.now c.look_up.new.cold c.args.found.now c.look_up.new.found (needed_of (g.R.Shows.is_honest × AreRight c.args.staged.now) n parts c.args.key.now part c.args.staged.now there)
    (λ right. right) same found)
    (rw c.new-key.ensures at c.look_up.ensures.found)

pub returns-clause-memory : goal.returns-clause-memory
returns-clause-memory g c = λ at.
    let n : ℕ = (g.P.Parts.stripes_of c.args.parts.now) in
    let part = c.part.result.now in
    let parts = g.P.Parts.part_of c.args.parts.now in
    let there : parts (stripe_of n c.args.key.now) ≡ Some part = sym (ap parts (c.stripe_at-stripe.ensures ∙ ap (stripe_of n) c.new-key.ensures)) ∙ c.part.ensures.value in
    let same : shard_store part c.args.key.now ≡ joined (shard_meaning g.R.Shows.is_steady) n parts c.args.key.now =
    ap (value_in (shard_meaning g.R.Shows.is_steady) c.args.key.now) (sym there) in
    (rw c.new-key.ensures at c.look_up.ensures.memory) (record {
      is_right = at.is_right;
      hand = hand_of g.R.Shows.lends n parts c.args.key.now part c.args.staged.now there at.hand;
      few = at.few;
      key_inline = at.key_inline;
      value_inline = subst (λ (v : Option Bytes). IsInline (value_of v)) (sym same) at.value_inline;
    })
