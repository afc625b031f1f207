use Rattle.std.proofs.Common.{◌≡◌, ◌∙◌, ℕ, sym, ap}
use Rattle.std.specs.Option.{option_copied}
use Rattle.words.specs.Store.{Write}
use Rattle.words.specs.Stripes.{stripe_of}
use Rattle.shards.specs.Shards.{logs_of, shard_log, shard_meaning, weigh}
use Rattle.plans.proofs.Become.{wrote_one}
use Rattle.plans.proofs.Logs.{log_at, logs_as}
use Rattle.plans.proofs.Spots.{place_stays, spot_stays}
use Rattle.plans.proofs.Waits.{waits_one}
use Rattle.plans.proofs.cells.overwrite_at.Goals as goal

pub overwrite_at-requires-clause-place : goal.overwrite_at-requires-clause-place
overwrite_at-requires-clause-place g c =
    let logs = logs_of (g.P.Parts.part_of c.args.parts.now) in
    c.requires.spot (shard_log c.part-part.result.now)
    (ap logs (sym c.requires.stripe) ∙ log_at (g.P.Parts.part_of c.args.parts.now) c.args.stripe c.part-part.result.now c.part-part.ensures.value)

pub returns-clause-became : goal.returns-clause-became
returns-clause-became g c =
    let i : ℕ = c.args.stripe in
    let new = c.overwrite_at.new.self in
    let w : Write = (c.args.key.now, option_copied c.args.value) in
    wrote_one (shard_meaning g.R.Shows.is_steady) (g.P.Parts.stripes_of c.args.parts.now) i w (g.P.Parts.part_of c.args.parts.now) (g.P.Parts.part_of (g.P.Parts.with_part c.args.parts.now i new)) c.part-part.result.now new
    c.part-part.ensures.value (c.part-part.ensures.written new) (c.part-part.ensures.others new) (sym c.requires.stripe) c.overwrite_at.ensures.value c.overwrite_at.ensures.marks

pub returns-clause-grown : goal.returns-clause-grown
returns-clause-grown g c =
    let i : ℕ = c.args.stripe in
    let new = c.overwrite_at.new.self in
    let before = g.P.Parts.part_of c.args.parts.now in
    let later = g.P.Parts.part_of (g.P.Parts.with_part c.args.parts.now i new) in
    let at : stripe_of (g.P.Parts.stripes_of c.args.parts.now) c.args.key.now ≡ i = sym c.requires.stripe in
    record {
      old = shard_log c.part-part.result.now;
      was = ap (logs_of before) at ∙ log_at before i c.part-part.result.now c.part-part.ensures.value;
      new = shard_log new;
      is = ap (logs_of later) at ∙ log_at later i new (c.part-part.ensures.written new);
      grown = c.overwrite_at.ensures.grown;
      others = λ j ne. logs_as before later j (c.part-part.ensures.others new j (λ e. ne (e ∙ sym at)));
    }

pub returns-clause-waits : goal.returns-clause-waits
returns-clause-waits g c =
    let i : ℕ = c.args.stripe in
    let new = c.overwrite_at.new.self in
    waits_one (g.P.Parts.part_of c.args.parts.now) (g.P.Parts.part_of (g.P.Parts.with_part c.args.parts.now i new)) i c.part-part.result.now new
    c.part-part.ensures.value (c.part-part.ensures.written new) (c.part-part.ensures.others new) c.overwrite_at.ensures.waits

pub returns-clause-spots : goal.returns-clause-spots
returns-clause-spots g c = λ other text at has.
    let n : ℕ = g.P.Parts.stripes_of c.args.parts.now in
    let i : ℕ = c.args.stripe in
    let old = c.part-part.result.now in
    let new = c.overwrite_at.new.self in
    let before = g.P.Parts.part_of c.args.parts.now in
    let later = g.P.Parts.part_of (g.P.Parts.with_part c.args.parts.now i new) in
    let place = c.requires.spot (shard_log old) (ap (logs_of before) (sym c.requires.stripe) ∙ log_at before i old c.part-part.ensures.value) in
    spot_stays n (logs_of before) (logs_of later) i (shard_log old) (shard_log new) (log_at before i old c.part-part.ensures.value) (log_at later i new (c.part-part.ensures.written new))
    (λ j ne. logs_as before later j (c.part-part.ensures.others new j ne))
    other text at (place_stays (shard_log old) (shard_log new) c.args.key.now (option_copied c.args.value) c.args.spot.address (weigh (c.args.key.now, option_copied c.args.value)) c.is_laid_out.ensures place c.overwrite_at.ensures.written c.overwrite_at.ensures.grown other) has
