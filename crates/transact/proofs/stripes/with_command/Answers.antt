use Rattle.std.proofs.Common.{◌∙◌, ℕ, List, [], ◌∷◌, take, sym, ap}
use Rattle.words.specs.Store.{Bytes}
use Rattle.words.specs.Commands.{keys_of}
use Rattle.transact.specs.Plans.{stripes_with}
use Rattle.transact.proofs.Keys.{with_append, take_more}
use Rattle.transact.proofs.stripes.with_command.Goals as goal

pub loop-place-preserved : goal.loop-place-preserved
loop-place-preserved c =
    let n : ℕ = c.args.stripes in
    let keys : List Bytes = keys_of c.args.command.now in
    let key : Bytes = c.key_at.result.now in (
      c.with_key-all.ensures.below,
      c.with_key-all.ensures.exact
          ∙ ap (λ (s : List ℕ). stripes_with n s (key ∷ [])) c.loop-place.invariant.1
          ∙ sym (with_append n c.args.set (take c.loop-place.place keys) (key ∷ []))
          ∙ ap (λ (ks : List Bytes). stripes_with n c.args.set ks) (sym (take_more keys c.loop-place.place key c.key_at.ensures)),
    )
