use Rattle.std.proofs.Common.{◌≡◌, ◌∙◌, ◌+◌, ◌≤◌, ◌++◌, [], ℕ, List, length, map, vec_len, vec_capacity, refl, sym, ap, subst}
use Rattle.words.specs.declared.command.Command.{Command}
use Rattle.words.specs.declared.history.Operation.{Operation}
use Rattle.words.specs.declared.reply.CommandReply.TheVariants.{One}
use Rattle.words.specs.declared.reply.Item.{Item}
use Rattle.words.specs.Answers.{items_of}
use Rattle.words.specs.Commands.{keys_of_all}
use Rattle.words.specs.Store.{Bytes, Store}
use Rattle.transact.specs.Plans.{IsPlan}
use Rattle.transact.specs.Tables.{joined}
use Rattle.shards.specs.Shards.{shard_meaning}
use Rattle.plans.specs.Telling.{gets_reply}
use Rattle.plans.proofs.Plans.{dirty_is, plan_of_run}
use Rattle.plans.proofs.Run.{some_then}
use Rattle.plans.proofs.Saying.{gets_answers, gets_text}
use Rattle.plans.proofs.telling.say_gets.Goals as goal

pub returns-clause-due : goal.returns-clause-due
returns-clause-due g c =
    let n : ℕ = g.P.Parts.stripes_of c.args.parts.now in
    let parts = g.P.Parts.part_of c.args.parts.now in
    let contents = shard_meaning g.R.Shows.is_steady in
    let store : Store = joined contents n parts in
    let commands : List Command = c.args.commands.now in
    let count = g.met.P.Parts.same_stripes c.args.parts.now c.any_marked.new.parts c.any_marked.ensures.held.kept in
    some_then _ _ c.say_each.result
    (λ items values is_right seen operation asks.
    let are : items ≡ items_of store (keys_of_all commands) = (rw (count, c.any_marked.ensures.same) at values) is_right in
    subst (λ (o : Operation). IsPlan seen o (gets_reply items) []) (sym asks.is)
    (plan_of_run contents n parts c.depends_on_named_keys.ensures seen commands asks.watched (map One items, []) (gets_reply items) []
    (dirty_is contents n parts seen (g.P.Parts.holder_of c.args.parts.now) asks.watched c.args.watching.now c.any_marked.result asks.ends c.any_marked.ensures.marks asks.stand.marked c.requires.watching asks.once ∙ c.if-any_marked.false)
    (ap (λ (l : List Item). (map One l, [])) are ∙ sym (gets_answers store commands c.requires.gets)) asks.stand.read c.requires.may.there refl refl))
    c.say_each.ensures.values

pub returns-clause-said : goal.returns-clause-said
returns-clause-said g c =
    some_then _ _ c.say_each.result (λ items said. said ∙ ap (λ (l : Bytes). c.args.out.now.items ++ l) (sym (gets_text items))) c.say_each.ensures.said

pub returns-clause-room : goal.returns-clause-room
returns-clause-room g c = λ clean lends right fits.
    let n : ℕ = g.P.Parts.stripes_of c.args.parts.now in
    let parts = g.P.Parts.part_of c.args.parts.now in
    let store : Store = joined (shard_meaning g.R.Shows.is_steady) n parts in
    let count = g.met.P.Parts.same_stripes c.args.parts.now c.any_marked.new.parts c.any_marked.ensures.held.kept in
    c.say_each.ensures.room lends right
    (rw (count, c.any_marked.ensures.same)
    (subst (λ (l : Bytes). vec_len c.args.out.now + length l ≤ vec_capacity c.args.out.now) (gets_text (items_of store (keys_of_all c.args.commands.now))) fits))
