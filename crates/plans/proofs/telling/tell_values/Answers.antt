use Rattle.std.proofs.Common.{◌≡◌, ◌∙◌, ◌++◌, ◌∷◌, [], ℕ, List, append_assoc, append-nil, refl, sym, ap, subst}
use Rattle.words.specs.declared.command.Command.TheVariants.{MGet}
use Rattle.words.specs.declared.reply.Item.{Item}
use Rattle.words.specs.Answers.{item_of, items_of}
use Rattle.words.specs.Session.{values_reply}
use Rattle.words.specs.Store.{Bytes, Store}
use Rattle.transact.specs.Tables.{AreThere, joined}
use Rattle.shards.specs.Shards.{shard_meaning}
use Rattle.plans.proofs.Plans.{plan_of_items}
use Rattle.plans.proofs.Rooms.{no_share}
use Rattle.plans.proofs.telling.tell_values.Goals as goal

pub loop-first-init : goal.loop-first-init
loop-first-init g c = record {
  is_open = c.requires.may.can_lend;
  keeps = g.met.P.Parts.keeps_same c.args.parts.now;
  same = refl;
  there = c.requires.may.there;
  told = λ right. ap (λ (l : List Item). l ++ items_of (joined (shard_meaning g.R.Shows.is_steady) (g.P.Parts.stripes_of c.args.parts.now) (g.P.Parts.part_of c.args.parts.now)) c.args.keys.now) c.with_room-told.ensures;
}

pub tell-requires : goal.tell-requires
tell-requires g c =
    let n : ℕ = g.P.Parts.stripes_of c.args.parts.now in
    let inv = c.loop-first.invariant in
    let parts = g.P.Parts.part_of c.args.parts.now in
    let first : Bytes = c.in-Some.first.now in
    let is : c.loop-first.left.now ≡ first ∷ c.in-Some.others.now = c.in-Some.ensures.cases.0 in
    let there : AreThere n parts (first ∷ c.in-Some.others.now) = subst (AreThere n parts) is inv.there in
    let count = g.met.P.Parts.same_stripes c.args.parts.now c.loop-first.parts inv.keeps in
    record {
      may = record {
        can_lend = inv.is_open;
        there = rw count (subst (λ p. AreThere n p (first ∷ [])) (sym inv.same) (there.0, tt));
      };
    }

pub loop-first-preserved : goal.loop-first-preserved
loop-first-preserved g c =
    let n : ℕ = g.P.Parts.stripes_of c.args.parts.now in
    let inv = c.loop-first.invariant in
    let parts = g.P.Parts.part_of c.args.parts.now in
    let store : Store = joined (shard_meaning g.R.Shows.is_steady) n parts in
    let first : Bytes = c.in-Some.first.now in
    let others : List Bytes = c.in-Some.others.now in
    let is : c.loop-first.left.now ≡ first ∷ others = c.in-Some.ensures.cases.0 in
    let there : AreThere n parts (first ∷ others) = subst (AreThere n parts) is inv.there in
    let count = g.met.P.Parts.same_stripes c.args.parts.now c.loop-first.parts inv.keeps in
    record {
      is_open = c.tell.ensures.held.open_still;
      keeps = g.met.P.Parts.keeps_both c.args.parts.now c.loop-first.parts c.tell.new.parts inv.keeps c.tell.ensures.held.kept;
      same = c.tell.ensures.same ∙ inv.same;
      there = there.1;
      told = λ right.
          let more : c.tell.new.told ≡ c.loop-first.told ++ item_of (joined (shard_meaning g.R.Shows.is_steady) n (g.P.Parts.part_of c.loop-first.parts) first) ∷ [] = (rw count at c.if-not-tell.ensures.told) right in
          let item : item_of (joined (shard_meaning g.R.Shows.is_steady) n (g.P.Parts.part_of c.loop-first.parts) first) ≡ item_of (store first) =
          ap (λ p. item_of (joined (shard_meaning g.R.Shows.is_steady) n p first)) inv.same in
          ap (λ (l : List Item). l ++ items_of store others) (more ∙ ap (λ (i : Item). c.loop-first.told ++ i ∷ []) item)
          ∙ append_assoc c.loop-first.told (item_of (store first) ∷ []) (items_of store others)
          ∙ ap (λ (l : List Bytes). c.loop-first.told ++ items_of store l) (sym is) ∙ inv.told right;
    }

pub returns-clause-values : goal.returns-clause-values
returns-clause-values g c = record {
  due = λ right seen reads.
      let n : ℕ = g.P.Parts.stripes_of c.args.parts.now in
      let parts = g.P.Parts.part_of c.args.parts.now in
      let contents = shard_meaning g.R.Shows.is_steady in
      let store : Store = joined contents n parts in
      let none : c.loop-first.left.now ≡ [] = no_share c.loop-first.left.now c.in_default.ensures.cases in
      let items : c.loop-first.told ≡ items_of store c.args.keys.now =
      sym (append-nil c.loop-first.told) ∙ ap (λ (l : List Bytes). c.loop-first.told ++ items_of store l) (sym none) ∙ c.loop-first.invariant.told right in
      plan_of_items contents n parts seen (MGet c.args.keys.now) c.args.keys.now c.loop-first.told [] (values_reply c.loop-first.told) [] refl refl items reads c.requires.may.there refl refl;
}
