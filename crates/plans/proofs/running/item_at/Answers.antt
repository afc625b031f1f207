use Rattle.std.proofs.Common.{◌≡◌, ◌∙◌, ◌++◌, [], ◌∷◌, Option, ap}
use Rattle.std.specs.Option.{option_copied}
use Rattle.words.specs.declared.reply.Item.{Item}
use Rattle.words.specs.Answers.{item_of}
use Rattle.words.specs.Store.{Bytes, empty, written}
use Rattle.hybrid.specs.Staging.{AreRight}
use Rattle.shards.specs.Shards.{shard_store}
use Rattle.plans.proofs.Run.{item_one, some_then}
use Rattle.plans.proofs.running.item_at.Goals as goal

pub returns-in-Ok-clause-item : goal.returns-in-Ok-clause-item
returns-in-Ok-clause-item g c = λ store same.
    let right = g.R.Shows.is_honest × AreRight c.args.staged.now in
    let value : Option Bytes = option_copied c.in_ok-value.value in
    let key : Bytes = c.args.key.now in
    let found : c.push.new.self ≡ (key, value) ∷ [] =
    c.in-Ok.ensures.ok ∙ ap (λ l. l ++ (c.as_slice.result.now, value) ∷ []) c.new-found.ensures ∙ ap (λ k. (k, value) ∷ []) (c.as_slice.ensures ∙ c.key.ensures) in
    some_then (λ (item : Item). item ≡ item_of (written (written empty c.push.new.self) c.args.writes.now c.as_slice-in-Ok.result.now)) (λ item. right → item ≡ item_of (written store c.args.writes.now key)) c.item_after.result
    (λ item is. item_one right (shard_store c.args.part.now) store key c.args.writes.now item c.push.new.self
    (record { value = value; are = found; has = c.in_ok-value.ensures.found }) same
    (is ∙ ap (λ k. item_of (written (written empty c.push.new.self) c.args.writes.now k)) (c.as_slice-in-Ok.ensures ∙ c.key-in-Ok.ensures))) c.item_after.ensures.item
