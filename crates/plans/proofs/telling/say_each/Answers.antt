use Rattle.std.proofs.Common.{◌≡◌, ◌∙◌, ◌+◌, ◌++◌, ◌∷◌, [], ℕ, List, length, vec_len, append_assoc, append-nil, arith, length-append, refl, sym, ap, subst}
use Rattle.std.specs.List.{flat_map}
use Rattle.words.specs.declared.command.Command.{Command}
use Rattle.words.specs.declared.command.Command.TheVariants.{Get}
use Rattle.words.specs.declared.reply.Item.{Item}
use Rattle.words.specs.Answers.{item_of, items_of}
use Rattle.words.specs.Commands.{keys_of_all}
use Rattle.words.specs.Encoding.{item_encoding}
use Rattle.words.specs.Spelling.{header}
use Rattle.words.specs.Store.{Bytes, Store}
use Rattle.transact.specs.Tables.{AreThere, joined}
use Rattle.shards.specs.Shards.{shard_meaning}
use Rattle.plans.specs.Telling.{AreGets}
use Rattle.plans.proofs.Rooms.{no_share}
use Rattle.plans.proofs.Saying.{gets_count, header_fits, next_fits, text_more, values_text}
use Rattle.plans.proofs.telling.say_each.Goals as goal

pub returns-in_default-clause-room : goal.returns-in_default-clause-room
returns-in_default-clause-room g c = λ lends right fits.
    let store : Store = joined (shard_meaning g.R.Shows.is_steady) (g.P.Parts.stripes_of c.args.parts.now) (g.P.Parts.part_of c.args.parts.now) in
    let keys : List Bytes = keys_of_all c.args.commands.now in
    let count = gets_count c.args.commands.now c.requires.gets in
    c.in_default.ensures.fits.1 (rw count at (header_fits store keys (vec_len c.args.out.now) c.capacity-limit.result (rw c.capacity-limit.ensures fits)))

pub say_up_to_limit-requires-clause-may : goal.say_up_to_limit-requires-clause-may
say_up_to_limit-requires-clause-may g c =
    let n : ℕ = g.P.Parts.stripes_of c.args.parts.now in
    let inv = c.loop-first.invariant in
    let parts = g.P.Parts.part_of c.args.parts.now in
    let key : Bytes = c.in-Get.key in
    let others : List Command = c.in-Some-split_first.others.now in
    let is : c.loop-first.left.now ≡ Get key ∷ others = c.in-Some-split_first.ensures.cases.0 ∙ ap (λ (x : Command). x ∷ others) c.in-Get.is in
    let there : AreThere n parts (key ∷ keys_of_all others) = subst (λ (l : List Command). AreThere n parts (keys_of_all l)) is inv.there in
    let count = g.met.P.Parts.same_stripes c.args.parts.now c.loop-first.parts inv.keeps in
    record {
      can_lend = inv.is_open;
      there = rw (count, c.new.ensures) (subst (λ p. AreThere n p (key ∷ [])) (sym inv.same) (there.0, tt));
    }

pub returns-in_default-say_up_to_limit-clause-room : goal.returns-in_default-say_up_to_limit-clause-room
returns-in_default-say_up_to_limit-clause-room g c = λ lends right fits.
    let n : ℕ = g.P.Parts.stripes_of c.args.parts.now in
    let inv = c.loop-first.invariant in
    let parts = g.P.Parts.part_of c.args.parts.now in
    let store : Store = joined (shard_meaning g.R.Shows.is_steady) n parts in
    let key : Bytes = c.in-Get.key in
    let others : List Command = c.in-Some-split_first.others.now in
    let keys : List Bytes = keys_of_all c.args.commands.now in
    let is : c.loop-first.left.now ≡ Get key ∷ others = c.in-Some-split_first.ensures.cases.0 ∙ ap (λ (x : Command). x ∷ others) c.in-Get.is in
    let count = g.met.P.Parts.same_stripes c.args.parts.now c.loop-first.parts inv.keeps in
    let all : c.loop-first.said ++ items_of store (key ∷ keys_of_all others) ≡ items_of store keys =
    ap (λ (l : List Command). c.loop-first.said ++ items_of store (keys_of_all l)) (sym is) ∙ inv.told right in
    let many = gets_count c.args.commands.now c.requires.gets in
    let behind = ap length inv.text ∙ length-append c.args.out.now.items (header 42 (length c.args.commands.now) ++ flat_map item_encoding c.loop-first.said) in
    let held : vec_len c.loop-first.out ≡ vec_len c.args.out.now + length (header 42 (length c.args.commands.now) ++ flat_map item_encoding c.loop-first.said) =
    omega (arith, behind, c.loop-first.out.ok, c.args.out.now.ok) in
    c.in_default-say_up_to_limit.ensures.room lends right
    (rw (count, inv.same, c.new.ensures)
    (next_fits store keys (keys_of_all others) key c.loop-first.said (vec_len c.loop-first.out) (vec_len c.args.out.now) c.capacity-limit.result all
    (held ∙ ap (λ (k : ℕ). vec_len c.args.out.now + length (header 42 k ++ flat_map item_encoding c.loop-first.said)) (sym many)) (rw c.capacity-limit.ensures fits)))

pub loop-first-preserved : goal.loop-first-preserved
loop-first-preserved g c =
    let n : ℕ = g.P.Parts.stripes_of c.args.parts.now in
    let inv = c.loop-first.invariant in
    let parts = g.P.Parts.part_of c.args.parts.now in
    let store : Store = joined (shard_meaning g.R.Shows.is_steady) n parts in
    let value = c.in-Some-say_up_to_limit.value in
    let said : List Item = c.loop-first.said in
    let key : Bytes = c.in-Get.key in
    let others : List Command = c.in-Some-split_first.others.now in
    let is : c.loop-first.left.now ≡ Get key ∷ others = c.in-Some-split_first.ensures.cases.0 ∙ ap (λ (x : Command). x ∷ others) c.in-Get.is in
    let there : AreThere n parts (key ∷ keys_of_all others) = subst (λ (l : List Command). AreThere n parts (keys_of_all l)) is inv.there in
    let gets : AreGets (Get key ∷ others) = subst AreGets is inv.gets in
    let count = g.met.P.Parts.same_stripes c.args.parts.now c.loop-first.parts inv.keeps in
    let pushed : c.push.new.self ≡ said ++ item_of value ∷ [] = c.push.ensures in
    record {
      is_open = c.say_up_to_limit.ensures.held.open_still;
      keeps = g.met.P.Parts.keeps_both c.args.parts.now c.loop-first.parts c.say_up_to_limit.new.parts inv.keeps c.say_up_to_limit.ensures.held.kept;
      same = c.say_up_to_limit.ensures.same ∙ inv.same;
      there = there.1;
      gets = gets.1;
      room = omega (arith, inv.room, c.say_up_to_limit.ensures.capacity);
      within = c.in-Some-say_up_to_limit.ensures.within refl;
      text =
          text_more (length c.args.commands.now) said value c.args.out.now.items c.loop-first.out.items c.say_up_to_limit.new.out.items inv.text c.in-Some-say_up_to_limit.ensures.said
          ∙ ap (λ (l : List Item). c.args.out.now.items ++ (header 42 (length c.args.commands.now) ++ flat_map item_encoding l)) (sym pushed);
      count = omega (arith, ap length pushed, length-append said (item_of value ∷ []), inv.count, ap length is);
      told = λ right.
          let same : value ≡ store key = (rw (count, inv.same, c.new.ensures) at c.in-Some-say_up_to_limit.ensures.value.is) right in
          ap (λ (l : List Item). l ++ items_of store (keys_of_all others)) (pushed ∙ ap (λ v. said ++ item_of v ∷ []) same)
          ∙ append_assoc said (item_of (store key) ∷ []) (items_of store (keys_of_all others))
          ∙ ap (λ (l : List Command). said ++ items_of store (keys_of_all l)) (sym is) ∙ inv.told right;
    }

pub returns-clause-values : goal.returns-clause-values
returns-clause-values g c = λ right.
    let n : ℕ = g.P.Parts.stripes_of c.args.parts.now in
    let parts = g.P.Parts.part_of c.args.parts.now in
    let store : Store = joined (shard_meaning g.R.Shows.is_steady) n parts in
    let none : c.loop-first.left.now ≡ [] = no_share c.loop-first.left.now c.in_default-split_first.ensures.cases in
    sym (append-nil c.loop-first.said) ∙ ap (λ (l : List Command). c.loop-first.said ++ items_of store (keys_of_all l)) (sym none) ∙ c.loop-first.invariant.told right

pub returns-clause-said : goal.returns-clause-said
returns-clause-said g c =
    let inv = c.loop-first.invariant in
    let none : c.loop-first.left.now ≡ [] = no_share c.loop-first.left.now c.in_default-split_first.ensures.cases in
    let count : length c.args.commands.now ≡ length c.loop-first.said = omega (arith, inv.count, ap length none) in
    inv.text ∙ ap (λ (k : ℕ). c.args.out.now.items ++ (header 42 k ++ flat_map item_encoding c.loop-first.said)) count
    ∙ ap (λ (l : Bytes). c.args.out.now.items ++ l) (sym (values_text c.loop-first.said))
