use Rattle.std.proofs.Common.{◌≡◌, ◌∙◌, ℕ, sym, ap}
use Rattle.words.specs.Stripes.{stripe_of}
use Rattle.shards.specs.Shards.{logs_of, shard_log, shard_meaning, weigh}
use Rattle.plans.proofs.Become.{wrote_one}
use Rattle.plans.proofs.Logs.{log_at, logs_as}
use Rattle.plans.proofs.Rooms.{room_of}
use Rattle.plans.proofs.Waits.{waits_one}
use Rattle.plans.proofs.cells.write_at.Goals as goal

pub write-requires-clause-room : goal.write-requires-clause-room
write-requires-clause-room g c =
    let s : ℕ = stripe_of (g.P.Parts.stripes_of c.args.parts.now) c.args.write.now.0 in
    let parts = g.P.Parts.part_of c.args.parts.now in
    let at : stripe_of (g.P.Parts.stripes_of c.args.parts.now) c.args.write.now.0 ≡ c.stripe_at-stripe.result = ap (stripe_of (g.P.Parts.stripes_of c.args.parts.now)) (sym c.requires.is) ∙ sym c.stripe_at-stripe.ensures in
    room_of (logs_of parts) s (weigh c.args.write.now) (shard_log c.part.result.now) c.requires.room (ap (logs_of parts) at ∙ log_at parts c.stripe_at-stripe.result c.part.result.now c.part.ensures.value)

pub returns-clause-became : goal.returns-clause-became
returns-clause-became g c =
    let n : ℕ = (g.P.Parts.stripes_of c.args.parts.now) in
    let i : ℕ = c.stripe_at-stripe.result in
    let new = c.write.new.self in
    wrote_one (shard_meaning g.R.Shows.is_steady) n i c.args.write.now (g.P.Parts.part_of c.args.parts.now) (g.P.Parts.part_of (g.P.Parts.with_part c.args.parts.now i new)) c.part.result.now new
    c.part.ensures.value (c.part.ensures.written new) (c.part.ensures.others new) (ap (stripe_of n) (sym c.requires.is) ∙ sym c.stripe_at-stripe.ensures) c.write.ensures.value c.write.ensures.marks

pub returns-clause-room : goal.returns-clause-room
returns-clause-room g c = λ weight light has.
    let s : ℕ = stripe_of (g.P.Parts.stripes_of c.args.parts.now) c.args.write.now.0 in
    let i : ℕ = c.stripe_at-stripe.result in
    let new = c.write.new.self in
    let before = g.P.Parts.part_of c.args.parts.now in
    let later = g.P.Parts.part_of (g.P.Parts.with_part c.args.parts.now i new) in
    let at : s ≡ i = ap (stripe_of (g.P.Parts.stripes_of c.args.parts.now)) (sym c.requires.is) ∙ sym c.stripe_at-stripe.ensures in
    record {
      log = shard_log new;
      there = ap (logs_of later) at ∙ log_at later i new (c.part.ensures.written new);
      room = c.write.ensures.room weight light (room_of (logs_of before) s weight (shard_log c.part.result.now) has (ap (logs_of before) at ∙ log_at before i c.part.result.now c.part.ensures.value));
    }

pub returns-clause-grown : goal.returns-clause-grown
returns-clause-grown g c =
    let s : ℕ = stripe_of (g.P.Parts.stripes_of c.args.parts.now) c.args.write.now.0 in
    let i : ℕ = c.stripe_at-stripe.result in
    let new = c.write.new.self in
    let before = g.P.Parts.part_of c.args.parts.now in
    let later = g.P.Parts.part_of (g.P.Parts.with_part c.args.parts.now i new) in
    let at : s ≡ i = ap (stripe_of (g.P.Parts.stripes_of c.args.parts.now)) (sym c.requires.is) ∙ sym c.stripe_at-stripe.ensures in
    record {
      old = shard_log c.part.result.now;
      was = ap (logs_of before) at ∙ log_at before i c.part.result.now c.part.ensures.value;
      new = shard_log new;
      is = ap (logs_of later) at ∙ log_at later i new (c.part.ensures.written new);
      grown = c.write.ensures.grown;
      others = λ j ne. logs_as before later j (c.part.ensures.others new j (λ e. ne (e ∙ sym at)));
    }

pub returns-clause-waits : goal.returns-clause-waits
returns-clause-waits g c =
    let i : ℕ = c.stripe_at-stripe.result in
    let new = c.write.new.self in
    waits_one (g.P.Parts.part_of c.args.parts.now) (g.P.Parts.part_of (g.P.Parts.with_part c.args.parts.now i new)) i c.part.result.now new
    c.part.ensures.value (c.part.ensures.written new) (c.part.ensures.others new) c.write.ensures.waits
