use Rattle.std.proofs.Common.{◌∙◌, ◌∷◌, [], ℕ, List, sym, ap, arith}
use Rattle.words.specs.Commands.{keys_of}
use Rattle.plans.proofs.Keys.{only_one}
use Rattle.plans.proofs.hashed.key_of_command.Goals as goal

pub returns-then-key_count-eq1 : goal.returns-then-key_count-eq1
returns-then-key_count-eq1 c =
    only_one (keys_of c.args.command.now) c.key_at.result.now (omega (arith, c.if-key_count-eq1.true, c.key_count.ensures)) c.key_at.ensures
    ∙ ap (λ (key : List ℕ). key ∷ []) (sym c.new.ensures)
