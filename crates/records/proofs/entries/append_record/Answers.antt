use Rattle.std.proofs.Common.{◌≡◌, ◌+◌, ◌-◌, ◌∙◌, ◌++◌, ℕ, List, length, take, drop, replicate, ap, refl, arith, rules}
use borrow.Rule.Slice.PartMut.{put_mid}
use Rattle.records.specs.declared.pages.TheConstants.{USED_END_AT}
use Rattle.records.specs.declared.entries.TheConstants.{RECORD_HEADER}
use Rattle.std.specs.Option.{option_copied}
use Rattle.records.specs.Fields.{u32_bytes}
use Rattle.records.specs.Page.{with_end}
use Rattle.records.proofs.Changed.{appended-spelling, lent-again, length-put, taken-zeros}
use Rattle.records.proofs.entries.append_record.Goals as goal

pub returns-clause-bytes : goal.returns-clause-bytes
unfolding u32_bytes
returns-clause-bytes c =
    let size : length c.args.bytes.now.items ≡ c.args.bytes.now.len = search rules in
    let field : c.copy_from_slice.new.self ≡ u32_bytes (c.args.bytes.now.len + c.args.size) = c.copy_from_slice.ensures.after ∙ (c.to_le_bytes.ensures ∙ ap (λ (n : ℕ). u32_bytes n) (omega (arith, c.len.ensures))) in
    let put : List ℕ = put_mid USED_END_AT 4 c.as_mut_slice.result.now c.copy_from_slice.new.self in
    let long : length put ≡ length c.args.bytes.now.items =
    length-put c.as_mut_slice.result.now c.copy_from_slice.new.self USED_END_AT 4 (omega (arith, c.as_mut_slice.ensures.len, c.requires.header)) (ap (λ (l : List ℕ). length l) field) ∙ ap (λ (l : List ℕ). length l) c.as_mut_slice.ensures.value in
    let again : take c.args.bytes.now.len (put ++ drop (length put) c.args.bytes.now.items) ≡ with_end c.args.bytes.now.items (c.args.bytes.now.len + c.args.size) =
    lent-again c.args.bytes.now.len c.args.bytes.now.items put size long ∙ rw (c.as_mut_slice.ensures.value, field) refl in
    let front : c.add.new.bytes.items ≡ with_end c.args.bytes.now.items (c.args.bytes.now.len + c.args.size) ++ c.write_head.new.slot = c.add.ensures.items ∙ ap (λ (l : List ℕ). l ++ c.write_head.new.slot) again in
    appended-spelling (with_end c.args.bytes.now.items (c.args.bytes.now.len + c.args.size)) c.add.new.bytes.items c.add-2.new.bytes.items c.add-3.new.bytes.items c.add-4.new.bytes.items
    c.write_head.new.slot c.args.key.now c.bytes_of.result.now _ c.args.link c.args.hash _ (option_copied c.args.value)
    front c.add-2.ensures.items c.add-3.ensures.items c.add-4.ensures.items c.write_head.ensures c.bytes_of.ensures (taken-zeros _ (omega arith) ∙ ap (λ (n : ℕ). replicate n 0) (ap (λ (n : ℕ). c.args.size - RECORD_HEADER - length c.args.key.now - n) c.length_of.ensures))
