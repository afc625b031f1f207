use Rattle.std.proofs.Common.{◌≡◌, ◌∙◌, ◌+◌, ◌<◌, ◌≤◌, ⊎_elim, ℕ, List, ◌∷◌, Some, length, sym, ap, subst, refl, arith, slice_index, slice_set}
use Rattle.std.proofs.lemmas.Bool.{cases_eq}
use Rattle.std.proofs.lemmas.List.{get_or-set_other, get_or-set_same, length-set}
use Rattle.words.specs.declared.limits.TheConstants.{WEIGHT_MAX}
use Rattle.words.specs.Answers.{writes_set}
use Rattle.words.specs.Briefs.{pairs_of}
use Rattle.words.specs.Store.{Bytes, Write, weight}
use Rattle.words.specs.Stripes.{stripe_of}
use Rattle.shards.specs.Rooms.{share}
use Rattle.plans.proofs.Rooms.{rest_light, share_away, share_here, share_light, zero_at}
use Rattle.plans.proofs.settings.shares_of.Goals as goal

pub loop-first-init : goal.loop-first-init
loop-first-init c = record { size = refl; light = c.requires.light; sum = λ i below. omega (arith, zero_at i below) }

pub weigh_before-requires : goal.weigh_before-requires
weigh_before-requires c = subst (λ (words : List Bytes). weight (writes_set (pairs_of words)) ≤ WEIGHT_MAX) c.in-Some.ensures.some c.loop-first.invariant.light

pub overflow_add-shares : goal.overflow_add-shares
overflow_add-shares c =
    let n : ℕ = c.args.stripes in
    let first : Write = (c.in-Some.first.key.now, Some c.in-Some.first.value.now) in
    let others : List Write = writes_set (pairs_of c.in-Some.first.others.now) in
    let s : ℕ = c.stripe_of-stripe.result in
    let at : stripe_of n first.0 ≡ s = ap (stripe_of n) (sym c.as_slice.ensures) ∙ sym c.stripe_of-stripe.ensures.stripe in
    let sum = c.loop-first.invariant.sum s (omega (arith, c.stripe_of-stripe.ensures.below, c.requires.most)) in
    let split : share n s (writes_set (pairs_of c.loop-first.left.now)) ≡ c.weigh_before.result + share n s others =
    ap (λ (words : List Bytes). share n s (writes_set (pairs_of words))) c.in-Some.ensures.some ∙ share_here n s first others at ∙ ap (λ (k : ℕ). k + share n s others) (sym c.weigh_before.ensures) in
    omega (arith, sum, split, share_light n s (writes_set (pairs_of c.args.words.now)), c.requires.light)

pub loop-first-preserved : goal.loop-first-preserved
loop-first-preserved c =
    let n : ℕ = c.args.stripes in
    let inv = c.loop-first.invariant in
    let first : Write = (c.in-Some.first.key.now, Some c.in-Some.first.value.now) in
    let others : List Write = writes_set (pairs_of c.in-Some.first.others.now) in
    let is : writes_set (pairs_of c.loop-first.left.now) ≡ first ∷ others = ap (λ (words : List Bytes). writes_set (pairs_of words)) c.in-Some.ensures.some in
    let s : ℕ = c.stripe_of-stripe.result in
    let at : stripe_of n first.0 ≡ s = ap (stripe_of n) (sym c.as_slice.ensures) ∙ sym c.stripe_of-stripe.ensures.stripe in
    let light : weight (first ∷ others) ≤ WEIGHT_MAX = subst (λ (ws : List Write). weight ws ≤ WEIGHT_MAX) is inv.light in
    let w : ℕ = c.weigh_before.result in
    let old : ℕ = slice_index c.loop-first.shares s + w in
    let here : s < length c.loop-first.shares = omega (arith, c.stripe_of-stripe.ensures.below, c.requires.most, inv.size) in
    record {
      size = length-set c.loop-first.shares s old ∙ inv.size;
      light = omega (arith, rest_light first others, light);
      sum = λ i below. ⊎_elim
          (λ same.
          let now : slice_index (slice_set c.loop-first.shares s old) i ≡ old = ap (slice_index (slice_set c.loop-first.shares s old)) same ∙ get_or-set_same c.loop-first.shares s old 0 here in
          let before : slice_index c.loop-first.shares i ≡ slice_index c.loop-first.shares s = ap (slice_index c.loop-first.shares) same in
          let split : share n i (writes_set (pairs_of c.loop-first.left.now)) ≡ w + share n i others =
          ap (share n i) is ∙ share_here n i first others (at ∙ sym same) ∙ ap (λ (k : ℕ). k + share n i others) (sym c.weigh_before.ensures) in
          omega (arith, now, before, split, inv.sum i below))
          (λ ne.
          let now : slice_index (slice_set c.loop-first.shares s old) i ≡ slice_index c.loop-first.shares i = get_or-set_other c.loop-first.shares s i old 0 ne in
          let split : share n i (writes_set (pairs_of c.loop-first.left.now)) ≡ share n i others = ap (share n i) is ∙ share_away n i first others (λ e. ne (sym e ∙ at)) in
          omega (arith, now, split, inv.sum i below))
          (cases_eq i s);
    }

pub returns : goal.returns
returns c = λ i below.
    omega (arith, c.loop-first.invariant.sum i below, ap (λ (settings : List (Bytes × Bytes)). share c.args.stripes i (writes_set settings)) c.in_default.ensures.none)
