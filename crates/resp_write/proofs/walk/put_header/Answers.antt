use Rattle.words.specs.Spelling.{header}
use Rattle.resp_write.proofs.Given.{given_then}
use Rattle.resp_write.proofs.walk.put_header.Goals as goal

pub returns-in-Err : goal.returns-in-Err
unfolding header
returns-in-Err g c = g.met.S.Sink.stops_more _ _ _ _ c.in-Err.ensures

pub returns : goal.returns
unfolding header
returns g c =
    rw (← c.format.ensures.text, ← c.as_bytes.ensures.value)
    (given_then g.S.Sink.takes g.S.Sink.stops g.met.S.Sink.takes_then g.met.S.Sink.stops_then _ _ _ _ _ _ c.in_default.ensures c.put_line.ensures)
