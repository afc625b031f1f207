use Rattle.std.proofs.Common.{◌≡◌, rules}
use Rattle.std.specs.Fmt.{signed_decimal}
use Rattle.words.specs.Encoding.{item_encoding}
use Rattle.resp_write.proofs.Given.{given_then}
use Rattle.resp_write.proofs.walk.put_integer.Goals as goal

pub returns-in-Err : goal.returns-in-Err
unfolding item_encoding
returns-in-Err g c = g.met.S.Sink.stops_more _ _ _ _ c.in-Err.ensures

pub returns : goal.returns
unfolding item_encoding
returns g c =
    let text : c.format.result.now ≡ signed_decimal c.args.number = search rules in
    let all = given_then g.S.Sink.takes g.S.Sink.stops g.met.S.Sink.takes_then g.met.S.Sink.stops_then _ _ _ _ _ _ c.in_default.ensures c.put_line.ensures in
    rw (c.as_bytes.ensures.value, text) at all
