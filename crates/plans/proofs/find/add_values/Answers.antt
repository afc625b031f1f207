use Rattle.std.proofs.Common.{◌≡◌, ◌∙◌, ◌++◌, ◌∷◌, [], ℕ, List, append_assoc, append-nil, refl, sym, ap, subst}
use Rattle.words.specs.declared.reply.Item.{Item}
use Rattle.words.specs.Answers.{item_of, items_of}
use Rattle.words.specs.Store.{Bytes, Store}
use Rattle.transact.specs.Tables.{AreThere, joined}
use Rattle.shards.specs.Shards.{shard_meaning}
use Rattle.plans.proofs.Rooms.{no_share}
use Rattle.plans.proofs.find.add_values.Goals as goal

pub loop-first-init : goal.loop-first-init
loop-first-init g c = record {
  is_open = c.requires.may.can_lend;
  keeps = g.met.P.Parts.keeps_same c.args.parts.now;
  same = refl;
  there = c.requires.may.there;
  items = λ right. refl;
}

pub value_of-requires : goal.value_of-requires
value_of-requires g c =
    let n : ℕ = g.P.Parts.stripes_of c.args.parts.now in
    let inv = c.loop-first.invariant in
    let parts = g.P.Parts.part_of c.args.parts.now in
    let first : Bytes = c.in-Some.first.now in
    let is : c.loop-first.left.now ≡ first ∷ c.in-Some.others.now = c.in-Some.ensures.cases.0 in
    let there : AreThere n parts (first ∷ c.in-Some.others.now) = subst (AreThere n parts) is inv.there in
    let count = g.met.P.Parts.same_stripes c.args.parts.now c.loop-first.parts inv.keeps in
    record {
      may = record {
        can_lend = inv.is_open;
        there = rw count (subst (λ p. AreThere n p (c.new.result ∷ [])) (sym inv.same) (subst (λ (k : Bytes). AreThere n parts (k ∷ [])) (sym c.new.ensures) (there.0, tt)));
      };
    }

pub loop-first-preserved : goal.loop-first-preserved
loop-first-preserved g c =
    let n : ℕ = g.P.Parts.stripes_of c.args.parts.now in
    let inv = c.loop-first.invariant in
    let parts = g.P.Parts.part_of c.args.parts.now in
    let store : Store = joined (shard_meaning g.R.Shows.is_steady) n parts in
    let first : Bytes = c.in-Some.first.now in
    let others : List Bytes = c.in-Some.others.now in
    let is : c.loop-first.left.now ≡ first ∷ others = c.in-Some.ensures.cases.0 in
    let there : AreThere n parts (first ∷ others) = subst (AreThere n parts) is inv.there in
    let count = g.met.P.Parts.same_stripes c.args.parts.now c.loop-first.parts inv.keeps in
    let value = rw count at c.in-Ok.ensures.value in
    record {
      is_open = c.value_of.ensures.held.open_still;
      keeps = g.met.P.Parts.keeps_both c.args.parts.now c.loop-first.parts c.value_of.new.parts inv.keeps c.value_of.ensures.held.kept;
      same = c.value_of.ensures.same ∙ inv.same;
      there = there.1;
      items = λ right.
          let found : c.in-Ok.value ≡ store first =
          value.is right ∙ ap (λ p. joined (shard_meaning g.R.Shows.is_steady) n p c.new.result) inv.same ∙ ap store c.new.ensures in
          let item : c.of.result ≡ item_of (store first) = c.of.ensures ∙ ap item_of found in
          ap (λ (l : List Item). l ++ items_of store others) (c.in-Ok-push.ensures.items ∙ ap (λ (i : Item). c.loop-first.items.items ++ i ∷ []) item)
          ∙ append_assoc c.loop-first.items.items (item_of (store first) ∷ []) (items_of store others)
          ∙ ap (λ (l : List Bytes). c.loop-first.items.items ++ items_of store l) (sym is) ∙ inv.items right;
    }

pub returns-clause-items : goal.returns-clause-items
returns-clause-items g c = λ right.
    let n : ℕ = g.P.Parts.stripes_of c.args.parts.now in
    let store : Store = joined (shard_meaning g.R.Shows.is_steady) n (g.P.Parts.part_of c.args.parts.now) in
    let none : c.loop-first.left.now ≡ [] = no_share c.loop-first.left.now c.in_default.ensures.cases in
    sym (append-nil c.loop-first.items.items) ∙ ap (λ (l : List Bytes). c.loop-first.items.items ++ items_of store l) (sym none) ∙ c.loop-first.invariant.items right
