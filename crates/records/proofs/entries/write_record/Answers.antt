use Rattle.std.proofs.Common.{◌≡◌, ◌-◌, length, ◌∙◌, ap, drop, List, ℕ, rules}
use Rattle.std.specs.Option.{option_copied}
use Rattle.records.specs.declared.entries.TheConstants.{RECORD_HEADER}
use Rattle.records.specs.Fields.{u64_bytes}
use Rattle.records.specs.Records.{spelling, head, filled}
use Rattle.records.proofs.Filled.{filled-blank}
use Rattle.records.proofs.entries.write_record.Goals as goal

pub returns : goal.returns
unfolding spelling head u64_bytes
returns c =
    let before = c.split_at_mut-key_part.ensures.back ∙ ap (λ (s : List ℕ). drop (length c.args.key.now) s) c.split_at_mut-head.ensures.back in
    let room : c.write_value.new.room ≡ filled (option_copied c.args.value) (length c.args.slot.now - RECORD_HEADER - length c.args.key.now) =
    filled-blank c.args.slot.now _ _ (option_copied c.args.value) (length c.args.key.now) (length c.args.slot.now) c.requires.blank before c.write_value.ensures in
    search rules
