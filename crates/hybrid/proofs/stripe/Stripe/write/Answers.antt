use Rattle.std.proofs.Common.{◌≡◌, ◌+◌, sym, subst, arith, length}
use Rattle.std.specs.Option.{option_copied}
use Rattle.words.specs.declared.limits.TheConstants.{WEIGHT_OF_KEY}
use Rattle.records.specs.Records.{value_bytes}
use Rattle.hybrid.specs.HybridLog.{head_of, log_of, tail_bytes}
use Rattle.hybrid.specs.Lookups.{IsInPlace}
use Rattle.hybrid.proofs.Tail.{grown-put, tail-stays}
use Rattle.hybrid.proofs.Placing.{roomy}
use Rattle.hybrid.proofs.Installing.{written-in_place, written-at_tail}
use Rattle.hybrid.proofs.Overwriting.{contents-appended}
use Rattle.hybrid.proofs.stripe.Stripe.write.Goals as goal

pub overwrite-requires-clause-room : goal.overwrite-requires-clause-room
overwrite-requires-clause-room g c =
    let there = subst (λ n. IsInPlace c.args.self.now c.args.key.now n c.in-Some.address) c.length_of.ensures c.in-Some.ensures in
    roomy c.args.self.now c.args.key.now (length (value_bytes (option_copied c.args.value))) c.in-Some.address there

pub overwrite-requires-clause-fits : goal.overwrite-requires-clause-fits
overwrite-requires-clause-fits g c = c.requires.fits.value_fits

pub returns-in-None-clause-written : goal.returns-in-None-clause-written
returns-in-None-clause-written g c =
    written-at_tail c.args.self.now c.append.new.self c.args.key.now (option_copied c.args.value) c.append.result
    (λ other there. c.in-None.ensures other (subst (λ n. IsInPlace c.args.self.now c.args.key.now n other) (sym c.length_of.ensures) there)) c.append.ensures.added

pub returns-in-None-clause-contents : goal.returns-in-None-clause-contents
returns-in-None-clause-contents g c = λ other.
    contents-appended (log_of c.args.self.now) (log_of c.append.new.self) c.append.result (head_of c.args.self.now c.args.key.now) c.args.key.now (option_copied c.args.value) other c.append.ensures.added.log

pub returns-in-Some-clause-written : goal.returns-in-Some-clause-written
returns-in-Some-clause-written g c =
    let there = subst (λ n. IsInPlace c.args.self.now c.args.key.now n c.in-Some.address) c.length_of.ensures c.in-Some.ensures in
    written-in_place c.args.self.now c.overwrite.new.self c.args.key.now (option_copied c.args.value) c.in-Some.address there c.overwrite.ensures.log (tail-stays c.args.self.now c.overwrite.new.self c.overwrite.ensures.put c.overwrite.ensures.bytes)
    c.overwrite.ensures.heads

pub returns-in-Some-clause-contents : goal.returns-in-Some-clause-contents
returns-in-Some-clause-contents g c = λ other.
    c.overwrite.ensures.contents c.args.key.now _ c.in-Some.ensures other

pub returns-in-Some-clause-grown : goal.returns-in-Some-clause-grown
returns-in-Some-clause-grown g c =
    let k = length c.args.key.now in
    let v = length (value_bytes (option_copied c.args.value)) in
    let bytes : tail_bytes c.overwrite.new.self ≡ tail_bytes c.args.self.now + 0 = omega (arith, c.overwrite.ensures.bytes) in
    grown-put c.args.self.now c.overwrite.new.self (WEIGHT_OF_KEY + k + v) 0 (omega arith) bytes c.overwrite.ensures.put
