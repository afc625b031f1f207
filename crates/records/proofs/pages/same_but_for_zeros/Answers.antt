use Rattle.std.proofs.Common.{arith}
use Rattle.records.proofs.Alike.{same-bytes, same-bytes_turned}
use Rattle.records.proofs.pages.same_but_for_zeros.Goals as goal

pub returns-then-a-b : goal.returns-then-a-b
returns-then-a-b c = same-bytes_turned c.args.b.now c.args.a.now c.goes_on_with_zeros.result c.requires.b (omega (arith, c.if-a-b.true)) c.goes_on_with_zeros.ensures

pub returns : goal.returns
returns c = same-bytes c.args.a.now c.args.b.now c.goes_on_with_zeros-2.result c.requires.a c.if-a-b.false c.goes_on_with_zeros-2.ensures
