use Rattle.std.proofs.Common.{◌≡◌, ◌++◌, length, reverse}
use Rattle.gates.specs.Sets.{AreBelow}
use Rattle.gates.specs.Passes.{stripes_of, known, parts_in, taken_in, takes_in, stripes_in, AllFit, AreAsTaken, IsHolding, Learned, ToldBusy}
use Rattle.gates.proofs.gates.Gates.take.Given as goal

abbrev pub invariant-loop-stripe : goal.invariant-loop-stripe
invariant-loop-stripe g l =
    IsHolding g.T.Part.meaning.trusted l.self l.pass
    × AllFit g.T.Part.meaning (stripes_of l.self) (known l.pass) (taken_in l.pass) (parts_in l.pass)
    × Learned (known l.initial.pass) (known l.pass)
    × (l.stripes ≡ stripes_in l.pass ++ l.left)
    × AreBelow (stripes_of l.self) l.left
    × ToldBusy l.stripes (known l.initial.pass) (known l.pass)
    × AreAsTaken (taken_in l.pass) (parts_in l.pass)
    × (takes_in l.pass ≡ reverse (stripes_in l.pass))

abbrev pub decreases-loop-stripe : goal.decreases-loop-stripe
decreases-loop-stripe g l = length l.left
