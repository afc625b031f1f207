use Rattle.std.proofs.Common.{◌≡◌, ◌∙◌, ◌++◌, ◌∷◌, [], ℕ, Bool, if◌then◌else◌, List, Option, Some, None, take, sym, ap, subst}
use Rattle.std.specs.Option.{option_copied}
use Rattle.words.specs.Answers.{is_some}
use Rattle.words.specs.Commands.{keys_of}
use Rattle.words.specs.Store.{Bytes, Store}
use Rattle.hybrid.specs.Staging.{AreRight}
use Rattle.transact.specs.Tables.{AreThere, joined}
use Rattle.shards.specs.Shards.{logs_of, shard_meaning}
use Rattle.plans.specs.Running.{HasShown}
use Rattle.plans.specs.Sizes.{IsShort}
use Rattle.plans.proofs.Keys.{take_more, there_at}
use Rattle.plans.proofs.Run.{shown_more, stand_short, stands_in}
use Rattle.plans.proofs.running.show_present.Goals as goal

pub look_up-requires : goal.look_up-requires
look_up-requires g c =
    let n : ℕ = g.P.Parts.stripes_of c.args.parts.now in
    let inv = c.loop-place.invariant in
    let count = g.met.P.Parts.same_stripes c.args.parts.now c.loop-place.parts inv.keeps in
    record {
      may = record {
        can_lend = inv.is_open;
        there = rw count (subst (λ p. AreThere n p (c.key_at-key.result.now ∷ [])) (sym inv.same)
            (there_at (shard_meaning g.R.Shows.is_steady) n (g.P.Parts.part_of c.args.parts.now) (keys_of c.args.command.now) c.loop-place.place c.key_at-key.result.now c.key_at-key.ensures c.requires.may.there));
      };
    }

pub loop-place-preserved : goal.loop-place-preserved
loop-place-preserved g c =
    let n : ℕ = g.P.Parts.stripes_of c.args.parts.now in
    let inv = c.loop-place.invariant in
    let parts = g.P.Parts.part_of c.args.parts.now in
    let right = g.R.Shows.is_honest × AreRight c.args.staged.now in
    let contents = shard_meaning g.R.Shows.is_steady in
    let store : Store = joined contents n parts in
    let keys : List Bytes = keys_of c.args.command.now in
    let key : Bytes = c.key_at-key.result.now in
    let value : Option Bytes = option_copied c.stand_in.result in
    let count = g.met.P.Parts.same_stripes c.args.parts.now c.loop-place.parts inv.keeps in
    let here = rw count at c.in_ok-there.ensures.there in
    let there : right → c.in_ok-there.there ≡ is_some (store key) = λ is_right. here is_right ∙ ap (λ p. is_some (joined contents n p key)) inv.same in
    record {
      is_open = c.look_up.ensures.held.open_still;
      keeps = g.met.P.Parts.keeps_both c.args.parts.now c.loop-place.parts c.look_up.new.parts inv.keeps c.look_up.ensures.held.kept;
      same = c.look_up.ensures.same ∙ inv.same;
      looked = c.is_kept.ensures n (logs_of parts) inv.looked (rw (count, inv.same) at c.in_ok-there.ensures.looked);
      shown = subst (λ (l : List Bytes). HasShown right store l c.args.shown.now c.push.new.self) (sym (take_more keys c.loop-place.place key c.key_at-key.ensures))
          (shown_more right store (take c.loop-place.place keys) key value c.args.shown.now c.loop-place.shown c.push.new.self inv.shown
          (c.in-Ok.ensures.ok ∙ ap (λ k. c.loop-place.shown ++ (k, value) ∷ []) c.as_slice.ensures)
          (subst IsShort (sym c.stand_in.ensures) (stand_short c.in_ok-there.there))
          (λ is_right. c.stand_in.ensures ∙ ap (λ (b : Bool). if b then Some [] else None) (there is_right) ∙ stands_in (store key)));
    }
