use Rattle.std.proofs.Common.{arith}
use Rattle.hybrid.proofs.Tail.{grown-none, grown-more, grown-less}
use Rattle.hybrid.proofs.laws.growth_adds_up.Goals as goal

pub returns : goal.returns
returns c = record {
  none = grown-none;
  more = grown-more;
  less = grown-less;
  few = λ old new weight le grown. omega (arith, le, grown.few);
}
