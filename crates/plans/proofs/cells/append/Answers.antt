use Rattle.std.proofs.Common.{◌≡◌, ◌∙◌, ◌+◌, ◌-◌, ◌≤◌, ℕ, sym, ap}
use Rattle.std.specs.Option.{option_copied}
use Rattle.records.specs.declared.pages.TheConstants.{HEADER_SIZE, PAGE_SIZE}
use Rattle.words.specs.Store.{Write}
use Rattle.words.specs.Stripes.{stripe_of}
use Rattle.hybrid.specs.HybridLog.{tail_bytes}
use Rattle.shards.specs.Shards.{logs_of, shard_log, shard_meaning, weigh}
use Rattle.plans.proofs.Become.{wrote_one}
use Rattle.plans.proofs.Logs.{log_at, logs_as}
use Rattle.plans.proofs.Rooms.{room_of}
use Rattle.plans.proofs.Spots.{place_beside, spot_stays}
use Rattle.plans.proofs.Waits.{waits_one}
use Rattle.plans.proofs.cells.append.Goals as goal

pub append-requires-clause-room : goal.append-requires-clause-room
append-requires-clause-room g c =
    let w : Write = (c.args.key.now, option_copied c.args.value) in
    let logs = logs_of (g.P.Parts.part_of c.args.parts.now) in
    room_of logs (stripe_of (g.P.Parts.stripes_of c.args.parts.now) w.0) (weigh w) (shard_log c.part.result.now) c.requires.room
    (ap logs (sym c.requires.stripe) ∙ log_at (g.P.Parts.part_of c.args.parts.now) c.args.stripe c.part.result.now c.part.ensures.value)

pub returns-clause-became : goal.returns-clause-became
returns-clause-became g c =
    let i : ℕ = c.args.stripe in
    let new = c.append.new.self in
    let w : Write = (c.args.key.now, option_copied c.args.value) in
    wrote_one (shard_meaning g.R.Shows.is_steady) (g.P.Parts.stripes_of c.args.parts.now) i w (g.P.Parts.part_of c.args.parts.now) (g.P.Parts.part_of (g.P.Parts.with_part c.args.parts.now i new)) c.part.result.now new
    c.part.ensures.value (c.part.ensures.written new) (c.part.ensures.others new) (sym c.requires.stripe) c.append.ensures.value c.append.ensures.marks

pub returns-clause-grown : goal.returns-clause-grown
returns-clause-grown g c =
    let i : ℕ = c.args.stripe in
    let new = c.append.new.self in
    let before = g.P.Parts.part_of c.args.parts.now in
    let later = g.P.Parts.part_of (g.P.Parts.with_part c.args.parts.now i new) in
    let at : stripe_of (g.P.Parts.stripes_of c.args.parts.now) c.args.key.now ≡ i = sym c.requires.stripe in
    record {
      old = shard_log c.part.result.now;
      was = ap (logs_of before) at ∙ log_at before i c.part.result.now c.part.ensures.value;
      new = shard_log new;
      is = ap (logs_of later) at ∙ log_at later i new (c.part.ensures.written new);
      grown = c.append.ensures.grown;
      others = λ j ne. logs_as before later j (c.part.ensures.others new j (λ e. ne (e ∙ sym at)));
    }

pub returns-clause-waits : goal.returns-clause-waits
returns-clause-waits g c =
    let i : ℕ = c.args.stripe in
    let new = c.append.new.self in
    waits_one (g.P.Parts.part_of c.args.parts.now) (g.P.Parts.part_of (g.P.Parts.with_part c.args.parts.now i new)) i c.part.result.now new
    c.part.ensures.value (c.part.ensures.written new) (c.part.ensures.others new) c.append.ensures.waits

pub returns-clause-spots : goal.returns-clause-spots
returns-clause-spots g c = λ room other text at ne has.
    let n : ℕ = g.P.Parts.stripes_of c.args.parts.now in
    let i : ℕ = c.args.stripe in
    let old = c.part.result.now in
    let new = c.append.new.self in
    let before = g.P.Parts.part_of c.args.parts.now in
    let later = g.P.Parts.part_of (g.P.Parts.with_part c.args.parts.now i new) in
    let weighs : ℕ = weigh (c.args.key.now, option_copied c.args.value) in
    let fits : tail_bytes (shard_log old) + weighs ≤ PAGE_SIZE - HEADER_SIZE = room (shard_log old) (log_at before i old c.part.ensures.value) in
    spot_stays n (logs_of before) (logs_of later) i (shard_log old) (shard_log new) (log_at before i old c.part.ensures.value) (log_at later i new (c.part.ensures.written new))
    (λ j ne. logs_as before later j (c.part.ensures.others new j ne))
    other text at
    (λ size address. place_beside (shard_log old) (shard_log new) c.args.key.now (option_copied c.args.value) c.append.ensures.added.0 weighs c.append.ensures.added.1 c.append.ensures.grown fits other size address ne)
    has
