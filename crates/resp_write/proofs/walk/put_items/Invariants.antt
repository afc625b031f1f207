use Rattle.std.proofs.Common.{take}
use Rattle.std.specs.List.{flat_map}
use Rattle.words.specs.Encoding.{item_encoding}
use Rattle.resp_write.proofs.walk.put_items.Given as goal

abbrev pub invariant-loop-item : goal.invariant-loop-item
invariant-loop-item g l = g.S.Sink.takes l.initial.out l.out (flat_map item_encoding (take l.item-index l.items))
