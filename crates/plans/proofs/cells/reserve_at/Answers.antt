use Rattle.std.proofs.Common.{rules, ℕ, ap}
use Rattle.shards.specs.Shards.{shard_log}
use Rattle.plans.proofs.Few.{err_then, few_at, lacks_at, left_at, ok_two}
use Rattle.plans.proofs.Logs.{log_at, logs_as}
use Rattle.plans.proofs.Spared.{spare_one, spared_reserved}
use Rattle.plans.proofs.Waits.{waits_one}
use Rattle.plans.proofs.Become.{same_one}
use Rattle.shards.specs.Shards.{shard_meaning}
use Rattle.words.specs.Store.{Store}
use Rattle.words.specs.Watches.{Marks}
use Rattle.plans.proofs.cells.reserve_at.Goals as goal

pub returns-clause-shed : goal.returns-clause-shed
returns-clause-shed g c = λ same.
    let i : ℕ = c.args.stripe in
    let new = c.reserve.new.self in
    let before = g.P.Parts.part_of c.args.parts.now in
    let later = g.P.Parts.part_of (g.P.Parts.with_part c.args.parts.now i new) in
    record {
      was = shard_log c.part-part.result.now;
      there = log_at before i c.part-part.result.now c.part-part.ensures.value;
      is = shard_log new;
      left = log_at later i new (c.part-part.ensures.written new);
      shed = c.reserve.ensures.shed same;
      others = λ j ne. logs_as before later j (c.part-part.ensures.others new j ne);
    }

pub returns-clause-reserved : goal.returns-clause-reserved
returns-clause-reserved g c =
    let i : ℕ = c.args.stripe in
    let new = c.reserve.new.self in
    let before = g.P.Parts.part_of c.args.parts.now in
    let later = g.P.Parts.part_of (g.P.Parts.with_part c.args.parts.now i new) in
    record {
      became = same_one (shard_meaning g.R.Shows.is_steady) (g.P.Parts.stripes_of c.args.parts.now) i before later c.part-part.result.now new
          c.part-part.ensures.value (c.part-part.ensures.written new) (c.part-part.ensures.others new) (λ k. ap (λ (s : Store). s k) c.reserve.ensures.same.store) (λ k number. ap (λ (m : Marks). m k number) c.reserve.ensures.same.marks);
      others = λ j ne. logs_as before later j (c.part-part.ensures.others new j ne);
      few = few_at c.args.weight c.args.purpose i before later c.part-part.result.now new c.part-part.ensures.value (c.part-part.ensures.written new) c.reserve.ensures.few;
      stands = record {
        serves = c.reserve.ensures.device;
        waits = waits_one before later i c.part-part.result.now new c.part-part.ensures.value (c.part-part.ensures.written new) (c.part-part.ensures.others new) c.reserve.ensures.same.waits;
        rooms = spare_one before later i c.part-part.result.now new c.part-part.ensures.value (c.part-part.ensures.written new) (c.part-part.ensures.others new)
            (spared_reserved (shard_log c.part-part.result.now) (shard_log new) c.reserve.ensures.few.count c.is_laid_out.ensures c.reserve.ensures.few.reserved c.reserve.ensures.same.tail);
      };
    }

pub returns-clause-failed : goal.returns-clause-failed
returns-clause-failed g c =
    let i : ℕ = c.args.stripe in
    let new = c.reserve.new.self in
    let before = g.P.Parts.part_of c.args.parts.now in
    let later = g.P.Parts.part_of (g.P.Parts.with_part c.args.parts.now i new) in
    record {
      fault = search rules;
      lacks = err_then c.reserve.result (λ lacks. lacks_at c.args.weight c.args.purpose i before later c.part-part.result.now new c.part-part.ensures.value (c.part-part.ensures.written new) lacks) c.reserve.ensures.lacks;
      no_fault = c.reserve.ensures.failed.no_fault;
    }

pub returns-clause-room : goal.returns-clause-room
returns-clause-room g c =
    let i : ℕ = c.args.stripe in
    let new = c.reserve.new.self in
    let before = g.P.Parts.part_of c.args.parts.now in
    let later = g.P.Parts.part_of (g.P.Parts.with_part c.args.parts.now i new) in
    ok_two c.reserve.result
    (λ room left. record {
      room = record { log = shard_log new; there = log_at later i new (c.part-part.ensures.written new); room = room };
      left = left_at c.args.weight c.args.purpose i before later c.part-part.result.now new c.part-part.ensures.value (c.part-part.ensures.written new) left;
    })
    c.reserve.ensures.room c.reserve.ensures.kept
