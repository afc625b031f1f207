use Rattle.std.proofs.Common.{length, sym}
use Rattle.std.specs.Option.{option_copied}
use Rattle.records.specs.Records.{value_bytes}
use Rattle.hybrid.proofs.Tail.{tail-stays}
use Rattle.hybrid.proofs.Placing.{roomy}
use Rattle.hybrid.proofs.Installing.{written-in_place}
use Rattle.hybrid.proofs.stripe.Stripe.overwrite_at.Goals as goal

pub overwrite-requires-clause-room : goal.overwrite-requires-clause-room
overwrite-requires-clause-room g c = rw c.from_number.ensures (roomy c.args.self.now c.args.key.now (length (value_bytes (option_copied c.args.value))) c.args.spot.address c.requires.place)

pub returns-clause-written : goal.returns-clause-written
returns-clause-written g c =
    let there = rw (sym c.from_number.ensures) at c.requires.place in
    written-in_place c.args.self.now c.overwrite.new.self c.args.key.now (option_copied c.args.value) c.from_number.result there c.overwrite.ensures.log (tail-stays c.args.self.now c.overwrite.new.self c.overwrite.ensures.put c.overwrite.ensures.bytes)
    c.overwrite.ensures.heads

pub returns-clause-contents : goal.returns-clause-contents
returns-clause-contents g c = λ other.
    let there = rw (sym c.from_number.ensures) at c.requires.place in
    c.overwrite.ensures.contents c.args.key.now (length (value_bytes (option_copied c.args.value))) there other
