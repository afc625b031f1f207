use Rattle.std.proofs.Common.{◌∙◌, ap}
use Rattle.std.specs.Option.{option_copied}
use Rattle.std.specs.Int.{w32, to_le_bytes}
use Rattle.records.specs.Fields.{u32_bytes}
use Rattle.records.proofs.Rewritten.{rewritten}
use Rattle.records.proofs.entries.rewrite_value.Goals as goal

pub returns : goal.returns
unfolding u32_bytes
returns c = λ r is_slot is_size is_key is_old.
    rewritten r (option_copied c.args.value) c.args.slot.now c.split_at_mut-head.result.0.now c.split_at_mut-head.result.1.now c.copy_from_slice.new.self c.replace_value.new.room c.args.key_length c.kind_of.result
    is_slot is_size is_key c.split_at_mut-head.ensures.front c.split_at_mut-head.ensures.back
    (c.copy_from_slice.ensures.after ∙ (c.to_le_bytes.ensures ∙ ap (λ n. to_le_bytes w32 n) c.length_of.ensures))
    c.kind_of.ensures (c.replace_value.ensures r.value is_old)
