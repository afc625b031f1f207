use Rattle.std.proofs.Common.{◌≡◌, ◌∷◌, []}
use Rattle.gates.specs.Passes.{stripes_of, known, parts_in, taken_in, takes_in, AllFit, AreAsTaken, IsHolding, Learned, ToldBusy}
use Rattle.gates.proofs.gates.Gates.wait_stripe.Given as goal

abbrev pub invariant-loop : goal.invariant-loop
invariant-loop g l =
    IsHolding g.T.Part.meaning.trusted l.self l.pass
    × AllFit g.T.Part.meaning (stripes_of l.self) (known l.pass) (taken_in l.pass) (parts_in l.pass)
    × Learned (known l.initial.pass) (known l.pass)
    × (parts_in l.pass ≡ parts_in l.initial.pass)
    × ToldBusy (l.stripe ∷ []) (known l.initial.pass) (known l.pass)
    × AreAsTaken (taken_in l.pass) (parts_in l.pass)
    × (takes_in l.pass ≡ takes_in l.initial.pass)
