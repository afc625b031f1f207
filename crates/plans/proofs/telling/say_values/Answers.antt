use Rattle.std.proofs.Common.{◌≡◌, ◌∙◌, ◌+◌, ◌++◌, ◌∷◌, [], ℕ, List, length, vec_len, append_assoc, append-nil, arith, length-append, refl, sym, ap, subst}
use Rattle.std.specs.List.{flat_map}
use Rattle.words.specs.declared.command.Command.TheVariants.{MGet}
use Rattle.words.specs.declared.reply.Item.{Item}
use Rattle.words.specs.Answers.{item_of, items_of}
use Rattle.words.specs.Encoding.{item_encoding}
use Rattle.words.specs.Session.{values_reply}
use Rattle.words.specs.Spelling.{header}
use Rattle.words.specs.Store.{Bytes, Store}
use Rattle.transact.specs.Tables.{AreThere, joined}
use Rattle.shards.specs.Shards.{shard_meaning}
use Rattle.plans.proofs.Plans.{plan_of_items}
use Rattle.plans.proofs.Rooms.{no_share}
use Rattle.plans.proofs.Saying.{header_fits, next_fits, text_more, values_text}
use Rattle.plans.proofs.telling.say_values.Goals as goal

pub returns-in_default-clause-room : goal.returns-in_default-clause-room
returns-in_default-clause-room g c = λ lends right fits.
    let store : Store = joined (shard_meaning g.R.Shows.is_steady) (g.P.Parts.stripes_of c.args.parts.now) (g.P.Parts.part_of c.args.parts.now) in
    c.in_default.ensures.fits.1 (header_fits store c.args.keys.now (vec_len c.args.out.now) c.capacity-limit.result (rw c.capacity-limit.ensures fits))

pub returns-in_default-say_up_to_limit-clause-room : goal.returns-in_default-say_up_to_limit-clause-room
returns-in_default-say_up_to_limit-clause-room g c = λ lends right fits.
    let n : ℕ = g.P.Parts.stripes_of c.args.parts.now in
    let inv = c.loop-first.invariant in
    let parts = g.P.Parts.part_of c.args.parts.now in
    let store : Store = joined (shard_meaning g.R.Shows.is_steady) n parts in
    let first : Bytes = c.in-Some-split_first.first.now in
    let others : List Bytes = c.in-Some-split_first.others.now in
    let is : c.loop-first.left.now ≡ first ∷ others = c.in-Some-split_first.ensures.cases.0 in
    let count = g.met.P.Parts.same_stripes c.args.parts.now c.loop-first.parts inv.keeps in
    let all : c.loop-first.said ++ items_of store (first ∷ others) ≡ items_of store c.args.keys.now =
    ap (λ (l : List Bytes). c.loop-first.said ++ items_of store l) (sym is) ∙ inv.told right in
    let behind = ap length inv.text ∙ length-append c.args.out.now.items (header 42 (length c.args.keys.now) ++ flat_map item_encoding c.loop-first.said) in
    let held : vec_len c.loop-first.out ≡ vec_len c.args.out.now + length (header 42 (length c.args.keys.now) ++ flat_map item_encoding c.loop-first.said) =
    omega (arith, behind, c.loop-first.out.ok, c.args.out.now.ok) in
    c.in_default-say_up_to_limit.ensures.room lends right
    (rw (count, inv.same, c.new.ensures)
    (next_fits store c.args.keys.now others first c.loop-first.said (vec_len c.loop-first.out) (vec_len c.args.out.now) c.capacity-limit.result all
    held (rw c.capacity-limit.ensures fits)))

pub loop-first-preserved : goal.loop-first-preserved
loop-first-preserved g c =
    let n : ℕ = g.P.Parts.stripes_of c.args.parts.now in
    let inv = c.loop-first.invariant in
    let parts = g.P.Parts.part_of c.args.parts.now in
    let store : Store = joined (shard_meaning g.R.Shows.is_steady) n parts in
    let value = c.in-Some-say_up_to_limit.value in
    let said : List Item = c.loop-first.said in
    let first : Bytes = c.in-Some-split_first.first.now in
    let others : List Bytes = c.in-Some-split_first.others.now in
    let is : c.loop-first.left.now ≡ first ∷ others = c.in-Some-split_first.ensures.cases.0 in
    let there : AreThere n parts (first ∷ others) = subst (AreThere n parts) is inv.there in
    let count = g.met.P.Parts.same_stripes c.args.parts.now c.loop-first.parts inv.keeps in
    let pushed : c.push.new.self ≡ said ++ item_of value ∷ [] = c.push.ensures in
    record {
      is_open = c.say_up_to_limit.ensures.held.open_still;
      keeps = g.met.P.Parts.keeps_both c.args.parts.now c.loop-first.parts c.say_up_to_limit.new.parts inv.keeps c.say_up_to_limit.ensures.held.kept;
      same = c.say_up_to_limit.ensures.same ∙ inv.same;
      there = there.1;
      room = omega (arith, inv.room, c.say_up_to_limit.ensures.capacity);
      within = c.in-Some-say_up_to_limit.ensures.within refl;
      text =
          text_more (length c.args.keys.now) said value c.args.out.now.items c.loop-first.out.items c.say_up_to_limit.new.out.items inv.text c.in-Some-say_up_to_limit.ensures.said
          ∙ ap (λ (l : List Item). c.args.out.now.items ++ (header 42 (length c.args.keys.now) ++ flat_map item_encoding l)) (sym pushed);
      count = omega (arith, ap length pushed, length-append said (item_of value ∷ []), inv.count, ap length is);
      told = λ right.
          let same : value ≡ store first = (rw (count, inv.same, c.new.ensures) at c.in-Some-say_up_to_limit.ensures.value.is) right in
          ap (λ (l : List Item). l ++ items_of store others) (pushed ∙ ap (λ v. said ++ item_of v ∷ []) same)
          ∙ append_assoc said (item_of (store first) ∷ []) (items_of store others)
          ∙ ap (λ (l : List Bytes). said ++ items_of store l) (sym is) ∙ inv.told right;
    }

pub returns-clause-values : goal.returns-clause-values
returns-clause-values g c = record {
  due = λ right seen reads.
      let n : ℕ = g.P.Parts.stripes_of c.args.parts.now in
      let parts = g.P.Parts.part_of c.args.parts.now in
      let contents = shard_meaning g.R.Shows.is_steady in
      let store : Store = joined contents n parts in
      let none : c.loop-first.left.now ≡ [] = no_share c.loop-first.left.now c.in_default-split_first.ensures.cases in
      let items : c.loop-first.said ≡ items_of store c.args.keys.now =
      sym (append-nil c.loop-first.said) ∙ ap (λ (l : List Bytes). c.loop-first.said ++ items_of store l) (sym none) ∙ c.loop-first.invariant.told right in
      plan_of_items contents n parts seen (MGet c.args.keys.now) c.args.keys.now c.loop-first.said [] (values_reply c.loop-first.said) [] refl refl items reads c.requires.may.there refl refl;
}

pub returns-clause-said : goal.returns-clause-said
returns-clause-said g c =
    let inv = c.loop-first.invariant in
    let none : c.loop-first.left.now ≡ [] = no_share c.loop-first.left.now c.in_default-split_first.ensures.cases in
    let count : length c.args.keys.now ≡ length c.loop-first.said = omega (arith, inv.count, ap length none) in
    inv.text ∙ ap (λ (k : ℕ). c.args.out.now.items ++ (header 42 k ++ flat_map item_encoding c.loop-first.said)) count
    ∙ ap (λ (l : Bytes). c.args.out.now.items ++ l) (sym (values_text c.loop-first.said))
