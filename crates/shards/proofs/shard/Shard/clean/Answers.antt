use Rattle.shards.proofs.shard.Shard.clean.Goals as goal

pub leave-requires-clause-weighed : goal.leave-requires-clause-weighed
leave-requires-clause-weighed g c =
    let live = rw c.in-Ok-Live.field-0-is at c.in-Ok-Live.ensures.weighed in
    let has = rw c.in-Ok-Live.field-0-is at c.in-Ok-Live.ensures.kept in
    record { light = live.0; weighs = λ t right. (rw c.in-Ok-Live.field-0-is at c.in-Ok-Live.ensures.weighs) t right; kept = has.0; has = has.1; left = live.1 }

pub returns-in-Ok-Live-clause-meaning : goal.returns-in-Ok-Live-clause-meaning
returns-in-Ok-Live-clause-meaning g c = record {
  right = λ t right. c.leave.ensures.meaning.right t (c.weigh.ensures.right t right);
  store = λ t right. c.leave.ensures.meaning.store t (c.weigh.ensures.right t right);
  marks = c.leave.ensures.meaning.marks;
}
