use Rattle.std.proofs.Common.{ℕ, List, Option, subst, arith}
use Rattle.hybrid.specs.HybridLog.{IsGrown}
use Rattle.hybrid.specs.Writing.{write_weight}
use Rattle.hybrid.proofs.Tail.{room-left}
use Rattle.hybrid.proofs.stripe.Stripe.install_one_hashed.Goals as goal

pub returns-clause-room : goal.returns-clause-room
returns-clause-room g c = λ more less has.
    let by_value = subst (λ (v : Option (List ℕ)). IsGrown c.args.self.now c.write.new.self (write_weight c.key.result.now v)) c.value.ensures c.write.ensures.grown in
    let grown = subst (λ (k : List ℕ). IsGrown c.args.self.now c.write.new.self (write_weight k (g.W.Write.value c.args.write.now))) c.key.ensures by_value in
    room-left c.args.self.now c.write.new.self (write_weight (g.W.Write.key c.args.write.now) (g.W.Write.value c.args.write.now)) more grown (omega arith) less c.oldest-oldest.ensures.log.fits has
