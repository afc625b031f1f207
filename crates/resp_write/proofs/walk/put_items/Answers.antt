use Rattle.std.proofs.Common.{arith}
use Rattle.words.specs.Encoding.{item_encoding}
use Rattle.resp_write.proofs.Given.{stops_within}
use Rattle.resp_write.proofs.walk.put_items.Goals as goal

pub returns-in-Err : goal.returns-in-Err
returns-in-Err g c =
    stops_within g.S.Sink.takes g.S.Sink.stops g.met.S.Sink.stops_more g.met.S.Sink.stops_then item_encoding _ _ _ _ c.loop-item.item-index c.item-item.result (omega arith) c.loop-item.invariant (rw (← c.item-item.is) c.in-Err.ensures)
