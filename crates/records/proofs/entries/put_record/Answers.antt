use Rattle.std.proofs.Common.{◌≡◌, rules, ℕ, ◌+◌, ◌-◌, List, ◌∙◌, ap, sym, subst, length, arith}
use borrow.Rule.Slice.PartMut.{put_mid}
use Rattle.std.specs.Option.{option_copied}
use Rattle.records.specs.declared.pages.TheConstants.{USED_END_AT}
use Rattle.records.specs.Fields.{u32_bytes}
use Rattle.records.specs.Lends.{with_bytes}
use Rattle.records.specs.Page.{used_end}
use Rattle.records.specs.Records.{new_record, size_for, value_bytes}
use Rattle.records.proofs.Laid.{laid_out-length}
use Rattle.records.proofs.After.{HasGained, size_of-new_record, put-by_steps, slot-length, slot-blank}
use Rattle.records.proofs.Changed.{laid-header, memory-gained, memory-grown}
use Rattle.records.proofs.entries.put_record.Goals as goal

pub append_record-requires-clause-header : goal.append_record-requires-clause-header
append_record-requires-clause-header c = omega (arith, laid-header c.args.page.now c.requires.laid_out, c.used_end-end.ensures, c.len.ensures, c.if-len-end.true)

pub invariant_of-page : goal.invariant_of-page
invariant_of-page c =
    let held : length c.page.inside.bytes.items ≡ c.used_end-end.result = search rules in
    let size : c.record_size-size.result ≡ size_for (length c.args.key.now) (length (value_bytes (option_copied c.args.value))) = search rules in
    memory-grown c.page.inside.bytes.items c.append_record.new.bytes.items c.args.page.now _ _ c.args.link c.args.hash c.used_end-end.result c.record_size-size.result c.args.key.now (option_copied c.args.value)
    c.page.invariant c.page.view_is c.requires.laid_out (omega (arith, c.ranges.link.fits)) (omega (arith, c.ranges.hash.fits)) c.requires.key c.used_end-end.ensures held
    size (omega (arith, c.if-size-end.false)) (omega (arith, c.requires.laid_out.in_page, c.used_end-end.ensures)) c.append_record.ensures.capacity (search rules)

pub returns-then-len-end : goal.returns-then-len-end
returns-then-len-end c =
    let held : length c.page.inside.bytes.items ≡ c.used_end-end.result = search rules in
    let size : c.record_size-size.result ≡ size_for (length c.args.key.now) (length (value_bytes (option_copied c.args.value))) = search rules in
    let gained = memory-gained c.page.inside.bytes.items c.append_record.new.bytes.items c.args.page.now _ _ c.args.link c.args.hash c.used_end-end.result c.record_size-size.result c.args.key.now (option_copied c.args.value)
    c.page.invariant c.page.view_is c.requires.laid_out (omega (arith, c.ranges.link.fits)) (omega (arith, c.ranges.hash.fits)) c.requires.key c.used_end-end.ensures held
    size (omega (arith, c.if-size-end.false)) (omega (arith, c.requires.laid_out.in_page, c.used_end-end.ensures)) c.append_record.ensures.capacity (search rules) in
    record {
      refused = search rules;
      unchanged = search rules;
      offset = search rules;
      appended = gained.records_are;
      end = gained.end_is ∙ ap (λ (n : ℕ). used_end c.args.page.now + n) (size_of-new_record c.args.link c.args.hash c.args.key.now (option_copied c.args.value));
      number = gained.number_is;
      laid_out = gained.laid_out;
    }

pub write_record-requires-clause-blank : goal.write_record-requires-clause-blank
unfolding u32_bytes
write_record-requires-clause-blank c =
    let field = c.copy_from_slice.ensures.after ∙ c.to_le_bytes.ensures in
    slot-blank c.args.page.now c.bytes_mut-bytes.result.now c.copy_from_slice.new.self c.used_end-end.result c.record_size-size.result
    c.requires.laid_out c.bytes_mut-bytes.ensures.bytes c.used_end-end.ensures field c.bytes_mut-bytes.ensures.size (ap (λ (xs : List ℕ). length xs) field) (omega (arith, c.if-size-end.false))

pub returns : goal.returns
unfolding u32_bytes
returns c =
    let field = c.copy_from_slice.ensures.after ∙ c.to_le_bytes.ensures in
    let room = slot-length c.bytes_mut-bytes.result.now c.copy_from_slice.new.self c.used_end-end.result c.record_size-size.result c.bytes_mut-bytes.ensures.size (ap (λ (xs : List ℕ). length xs) field) (omega (arith, c.if-size-end.false)) in
    let steps = put-by_steps c.args.page.now c.bytes_mut-bytes.result.now c.copy_from_slice.new.self c.write_record.new.slot c.args.key.now c.args.link c.args.hash c.used_end-end.result c.record_size-size.result _ (option_copied c.args.value)
    c.requires.laid_out (omega (arith, c.ranges.link.fits)) (omega (arith, c.ranges.hash.fits)) (omega (arith, c.requires.key))
    c.bytes_mut-bytes.ensures.bytes c.used_end-end.ensures (search rules) (omega (arith, c.if-size-end.false))
    field room c.write_record.ensures in
    let new : List ℕ = put_mid c.used_end-end.result (c.used_end-end.result + c.record_size-size.result - c.used_end-end.result) (put_mid USED_END_AT 4 c.bytes_mut-bytes.result.now c.copy_from_slice.new.self) c.write_record.new.slot in
    let F : List ℕ → Type 0 = λ p. HasGained c.args.page.now p (new_record c.args.link c.args.hash c.args.key.now (option_copied c.args.value)) in
    let gained : F (with_bytes c.args.page.now new) = subst F (sym (c.bytes_mut-bytes.ensures.as_written new (laid_out-length new steps.laid_out))) steps in
    record {
      refused = search rules;
      unchanged = search rules;
      offset = search rules;
      appended = gained.records_are;
      end = search rules;
      number = gained.number_is;
      laid_out = gained.laid_out;
    }

pub returns-then-size-end-clause-refused : goal.returns-then-size-end-clause-refused
returns-then-size-end-clause-refused c = search rules
