use Rattle.std.proofs.Common.{◌+◌, ◌≤◌, length, rules, refl, arith}
use Rattle.std.specs.Option.{option_copied}
use Rattle.records.specs.declared.entries.TheConstants.{RECORD_HEADER}
use Rattle.records.specs.Records.{IsRecordBefore}
use Rattle.records.proofs.There.{read-fields, kind-in_page}
use Rattle.records.proofs.entries.record_in.Goals as goal

pub returns : goal.returns
returns c =
    let read = read-fields c.args.bytes.now c.args.bytes.now _ c.args.offset c.u64_at.result c.u64_at-2.result c.u16_at-key_length.result c.u32_at-value_length.result c.u32_at-capacity.result _ (option_copied c.in_ok-value.value)
    refl c.u64_at.ensures.value c.u64_at-2.ensures.value c.u16_at-key_length.ensures c.u32_at-value_length.ensures c.u32_at-capacity.ensures refl
    refl c.in_ok-value.ensures.1 in
    let within : c.args.offset + RECORD_HEADER + c.u16_at-key_length.result + c.u32_at-value_length.result ≤ length c.args.bytes.now = omega arith in
    let kind = kind-in_page c.args.bytes.now c.args.bytes.now c.args.offset c.u16_at-key_length.result c.u32_at-value_length.result refl within c.u32_at-value_length.ensures c.in_ok-value.ensures.0 in
    let at : IsRecordBefore c.args.end c.args.bytes.now c.args.offset = record {
      ends_in_page = search rules;
      past_header = search rules;
      used = search rules;
      aligned = search rules;
      form = search rules;
      kind = kind;
      key_length = search rules;
      value_length = search rules;
      size = search rules;
      within = search rules;
    } in
    record { exact = (λ _. at, λ _. refl); fields = read }
