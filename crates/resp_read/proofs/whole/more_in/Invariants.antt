use Rattle.std.proofs.Common.{◌≡◌, length}
use Rattle.resp_read.specs.Looks.{BeginsWithWords}
use Rattle.resp_read.proofs.whole.more_in.Given as goal

abbrev pub invariant-loop : goal.invariant-loop
invariant-loop l = BeginsWithWords l.bytes l.count l.words l.at l.size × (length l.words ≡ l.counter)
