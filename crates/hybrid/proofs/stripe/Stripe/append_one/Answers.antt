use Rattle.std.proofs.Common.{ℕ, List, Option, subst, arith}
use Rattle.hybrid.specs.HybridLog.{IsGrown, head_of, log_of}
use Rattle.hybrid.specs.Writing.{IsAdded, write_weight}
use Rattle.hybrid.proofs.Overwriting.{contents-appended}
use Rattle.hybrid.proofs.Tail.{room-left}
use Rattle.hybrid.proofs.stripe.Stripe.append_one.Goals as goal

pub returns-clause-added : goal.returns-clause-added
returns-clause-added g c =
    let by_value = subst (λ (v : Option (List ℕ)). IsAdded c.args.self.now c.append.new.self c.append.result c.key-key.result.now v) c.value-value.ensures c.append.ensures.added in
    let added = subst (λ (k : List ℕ). IsAdded c.args.self.now c.append.new.self c.append.result k (g.W.Write.value c.args.write.now)) c.key-key.ensures by_value in
    (c.append.result, added)

pub returns-clause-contents : goal.returns-clause-contents
returns-clause-contents g c = λ other.
    let by_value = subst (λ (v : Option (List ℕ)). IsAdded c.args.self.now c.append.new.self c.append.result c.key-key.result.now v) c.value-value.ensures c.append.ensures.added in
    let added = subst (λ (k : List ℕ). IsAdded c.args.self.now c.append.new.self c.append.result k (g.W.Write.value c.args.write.now)) c.key-key.ensures by_value in
    contents-appended (log_of c.args.self.now) (log_of c.append.new.self) c.append.result (head_of c.args.self.now (g.W.Write.key c.args.write.now))
    (g.W.Write.key c.args.write.now) (g.W.Write.value c.args.write.now) other added.log

pub returns-clause-room : goal.returns-clause-room
returns-clause-room g c = λ more less has.
    let by_value = subst (λ (v : Option (List ℕ)). IsGrown c.args.self.now c.append.new.self (write_weight c.key-key.result.now v)) c.value-value.ensures c.append.ensures.grown in
    let grown = subst (λ (k : List ℕ). IsGrown c.args.self.now c.append.new.self (write_weight k (g.W.Write.value c.args.write.now))) c.key-key.ensures by_value in
    room-left c.args.self.now c.append.new.self (write_weight (g.W.Write.key c.args.write.now) (g.W.Write.value c.args.write.now)) more grown (omega arith) less c.oldest-oldest.ensures.log.fits has
