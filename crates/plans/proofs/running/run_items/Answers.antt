use Rattle.std.proofs.Common.{◌≡◌, ◌∙◌, ◌++◌, ◌∷◌, [], ℕ, List, append_assoc, append-nil, refl, sym, ap, subst}
use Rattle.words.specs.Store.{Bytes, Store, written}
use Rattle.words.specs.declared.command.Command.TheVariants.{MGet}
use Rattle.words.specs.declared.reply.Item.{Item}
use Rattle.words.specs.Answers.{item_of, items_of}
use Rattle.hybrid.specs.Staging.{AreRight}
use Rattle.transact.specs.Tables.{AreThere, joined}
use Rattle.shards.specs.Shards.{shard_meaning}
use Rattle.plans.proofs.Rooms.{no_share}
use Rattle.plans.proofs.Run.{runs_items}
use Rattle.plans.proofs.running.run_items.Goals as goal

pub item_next-requires : goal.item_next-requires
item_next-requires g c =
    let n : ℕ = g.P.Parts.stripes_of c.args.parts.now in
    let inv = c.loop-first.invariant in
    let first : Bytes = c.in-Some.first.now in
    let there : AreThere n (g.P.Parts.part_of c.args.parts.now) (first ∷ c.in-Some.others.now) = subst (AreThere n (g.P.Parts.part_of c.args.parts.now)) c.in-Some.ensures.cases.0 inv.there in
    let count = g.met.P.Parts.same_stripes c.args.parts.now c.loop-first.parts inv.keeps in
    record {
      may = record {
        can_lend = inv.is_open;
        there = rw count (subst (λ p. AreThere n p (first ∷ [])) (sym inv.same) (there.0, tt));
      };
    }

pub loop-first-preserved : goal.loop-first-preserved
loop-first-preserved g c =
    let n : ℕ = g.P.Parts.stripes_of c.args.parts.now in
    let inv = c.loop-first.invariant in
    let parts = g.P.Parts.part_of c.args.parts.now in
    let right = g.R.Shows.is_honest × AreRight c.args.staged.now in
    let contents = shard_meaning g.R.Shows.is_steady in
    let store : Store = written (joined contents n parts) c.args.writes.now in
    let first : Bytes = c.in-Some.first.now in
    let others : List Bytes = c.in-Some.others.now in
    let is : c.loop-first.left.now ≡ first ∷ others = c.in-Some.ensures.cases.0 in
    let there : AreThere n parts (first ∷ others) = subst (AreThere n parts) is inv.there in
    let count = g.met.P.Parts.same_stripes c.args.parts.now c.loop-first.parts inv.keeps in
    let here = rw count at c.in_ok-item.ensures.item in
    record {
      is_open = c.item_next.ensures.held.open_still;
      keeps = g.met.P.Parts.keeps_both c.args.parts.now c.loop-first.parts c.item_next.new.parts inv.keeps c.item_next.ensures.held.kept;
      same = c.item_next.ensures.same ∙ inv.same;
      there = there.1;
      writes = c.item_next.ensures.writes ∙ inv.writes;
      items = λ is_right.
          let item : c.in_ok-item.item ≡ item_of (store first) =
          here is_right ∙ ap (λ p. item_of (written (joined contents n p) c.loop-first.writes first)) inv.same ∙ ap (λ w. item_of (written (joined contents n parts) w first)) inv.writes in
          ap (λ (l : List Item). l ++ items_of store others) (c.in-Ok.ensures.items ∙ ap (λ (i : Item). c.loop-first.items.items ++ i ∷ []) item)
          ∙ append_assoc c.loop-first.items.items (item_of (store first) ∷ []) (items_of store others)
          ∙ ap (λ (l : List Bytes). c.loop-first.items.items ++ items_of store l) (sym is) ∙ inv.items is_right;
    }

pub returns-clause-ran : goal.returns-clause-ran
returns-clause-ran g c =
    let n : ℕ = g.P.Parts.stripes_of c.args.parts.now in
    let right = g.R.Shows.is_honest × AreRight c.args.staged.now in
    let store : Store = joined (shard_meaning g.R.Shows.is_steady) n (g.P.Parts.part_of c.args.parts.now) in
    let none : c.loop-first.left.now ≡ [] = no_share c.loop-first.left.now c.in_default.ensures.cases in
    runs_items right store c.args.keys.now (MGet c.args.keys.now) c.args.writes.now c.loop-first.writes _ refl c.loop-first.invariant.writes
    (λ is_right. c.from_vec.ensures ∙ sym (append-nil c.loop-first.items.items) ∙ ap (λ (l : List Bytes). c.loop-first.items.items ++ items_of (written store c.args.writes.now) l) (sym none) ∙ c.loop-first.invariant.items is_right)
