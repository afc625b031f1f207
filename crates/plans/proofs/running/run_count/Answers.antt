use Rattle.std.proofs.Common.{rules, ◌≡◌, ◌∙◌, ◌++◌, ◌∷◌, [], Some, ap, append-nil, sym, to_z, of_z, w64}
use Rattle.std.specs.Fmt.{signed_decimal}
use Rattle.std.specs.Option.{option_copied}
use Rattle.words.specs.Answers as answering
use Rattle.words.specs.Briefs.{counting}
use Rattle.words.specs.Store.{Write}
use Rattle.words.specs.declared.reply.CommandReply.TheVariants.{One}
use Rattle.words.specs.declared.reply.Item.TheVariants.{Integer}
use Rattle.plans.proofs.Run.{run_apart}
use Rattle.plans.proofs.running.run_count.Goals as goal

pub returns-in-Ok-push : goal.returns-in-Ok-push
returns-in-Ok-push c =
    let same : to_z w64 (of_z w64 c.in-Ok.number) ≡ c.in-Ok.number = search rules in
    let name : c.in-Ok-clone.name ≡ c.args.key.now = c.in-Ok-clone.ensures.cases ∙ c.key.ensures in
    run_apart c.args.key.now (option_copied c.args.value) (counting c.args.by c.args.key.now) c.args.writes.now c.push.new.self c.integer.result (One (Integer c.in-Ok.number), (c.args.key.now, Some (signed_decimal c.in-Ok.number)) ∷ []) c.requires.apart
    (c.in-Ok.ensures c.args.key.now) (c.integer.ensures ∙ ap (λ n. One (Integer n)) same)
    (c.in-Ok-push.ensures.ok ∙ ap (λ (w : Write). c.args.writes.now ++ w ∷ []) (c.new.ensures ∙ (λ i. (name i, Some ((c.text_of.ensures.text ∙ ap signed_decimal same) i)))))

pub returns-in-Err : goal.returns-in-Err
returns-in-Err c =
    run_apart c.args.key.now (option_copied c.args.value) (counting c.args.by c.args.key.now) c.args.writes.now c.args.writes.now c.line.result (answering.refused c.in-Err.refusal) c.requires.apart
    (c.in-Err.ensures c.args.key.now) c.line.ensures (sym (append-nil c.args.writes.now))
