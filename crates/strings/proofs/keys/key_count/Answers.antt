use Rattle.std.proofs.Common.{rules, ◌∙◌, ap, sym, length}
use Rattle.strings.proofs.KeyLists.{keys_set-length, of_settings}
use Rattle.strings.proofs.keys.key_count.Goals as goal

pub returns-in-MSet : goal.returns-in-MSet
returns-in-MSet c =
    ap length c.as_slice.ensures ∙ sym (keys_set-length c.in-MSet.settings)
    ∙ sym (ap length (of_settings c.args.command.now c.in-MSet.settings c.in-MSet.is))

pub returns-in_default : goal.returns-in_default
returns-in_default c = search rules
