use Rattle.std.proofs.Common.{length, arith}
use Rattle.records.specs.Records.{IsRecordAt}
use Rattle.records.proofs.InMemory.{held-exact, held-fields, used-before, later-end, there-found}
use Rattle.records.proofs.entries.record_there.Goals as goal

pub returns : goal.returns
returns c =
    let memory = c.memory-memory in
    let held = held-exact c.args.page.now memory.result.now (length memory.result.now) c.args.offset memory.ensures.bytes (omega arith) c.record_in.result c.record_in.ensures.exact in
    let fields = held-fields c.args.page.now memory.result.now (length memory.result.now) c.args.offset memory.ensures.bytes (omega arith) c.record_in.result c.record_in.ensures.exact c.record_in.ensures.fields in
    let there = λ (at : IsRecordAt c.args.page.now c.args.offset). held.1 (used-before c.args.page.now (length memory.result.now) c.args.offset (memory.ensures.used at.ends_in_page) memory.ensures.bound at) in
    record {
      there = there;
      no_other = λ ok. later-end c.args.page.now (length memory.result.now) _ c.args.offset memory.ensures.bound (omega arith) (held.0 ok);
      fields = fields;
      found = there-found c.args.page.now c.args.offset c.record_in.result there fields;
    }
