use Rattle.std.proofs.Common.{arith}
use Rattle.records.proofs.InMemory.{held-exact, held-fields, at-end}
use Rattle.records.proofs.There.{answer-exact, answer-found}
use Rattle.records.proofs.entries.record_at.Goals as goal

pub returns : goal.returns
returns c =
    let memory = c.memory-memory in
    let held = held-exact c.args.page.now memory.result.now c.used_end-end.result c.args.offset memory.ensures.bytes (omega arith) c.record_in.result c.record_in.ensures.exact in
    let exact = at-end c.args.page.now c.used_end-end.result c.args.offset c.record_in.result c.used_end-end.ensures held in
    let fields = held-fields c.args.page.now memory.result.now c.used_end-end.result c.args.offset memory.ensures.bytes (omega arith) c.record_in.result c.record_in.ensures.exact c.record_in.ensures.fields in
    record { exact = answer-exact c.args.page.now c.args.offset c.record_in.result exact fields; found = answer-found c.args.page.now c.args.offset c.record_in.result exact fields }
