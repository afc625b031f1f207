use Rattle.std.proofs.Common.{ℕ, List, [], sym, subst, refl}
use Rattle.words.specs.Store.{Bytes}
use Rattle.shards.specs.Shards.{shard_meaning}
use Rattle.transact.specs.Tables.{AreThere, Became, HasBegun, begins, clears}
use Rattle.plans.proofs.Logs.{logs_both}
use Rattle.plans.proofs.Become.{became_same, there_after}
use Rattle.plans.proofs.Begun.{has_begun_none, taken_back}
use Rattle.plans.proofs.Waits.{waits_both}
use Rattle.plans.proofs.plan.plan_watch.Goals as goal

pub clear_all-requires-clause-there : goal.clear_all-requires-clause-there
clear_all-requires-clause-there g c =
    let n : ℕ = (g.P.Parts.stripes_of c.args.parts.now) in
    let a = g.P.Parts.part_of c.args.parts.now in
    let b = g.P.Parts.part_of c.begin_all.new.parts in
    let none : HasBegun (shard_meaning g.R.Shows.is_steady) n (g.P.Parts.holder_of c.args.parts.now) c.new-begun.result.items a a =
    subst (λ (l : List Bytes). HasBegun (shard_meaning g.R.Shows.is_steady) n (g.P.Parts.holder_of c.args.parts.now) l a a) (sym c.new-begun.ensures.items) (has_begun_none (shard_meaning g.R.Shows.is_steady) n (g.P.Parts.holder_of c.args.parts.now) a a (became_same (shard_meaning g.R.Shows.is_steady) n a a refl)) in
    let has : HasBegun (shard_meaning g.R.Shows.is_steady) n (g.P.Parts.holder_of c.args.parts.now) c.begin_all.new.begun.items a b = c.begin_all.ensures.begun a none in
    let count = g.met.P.Parts.same_stripes c.args.parts.now c.begin_all.new.parts c.begin_all.ensures.held.kept in
    rw count (subst (AreThere n b) (sym c.as_slice-in-Err.ensures.value) (there_after (shard_meaning g.R.Shows.is_steady) n c.begin_all.new.begun.items a b has.became.there has.there))

pub returns-in-Err-clause-marks : goal.returns-in-Err-clause-marks
returns-in-Err-clause-marks g c =
    let n : ℕ = (g.P.Parts.stripes_of c.args.parts.now) in
    let a = g.P.Parts.part_of c.args.parts.now in
    let b = g.P.Parts.part_of c.begin_all.new.parts in
    let d = g.P.Parts.part_of c.clear_all.new.parts in
    let none : HasBegun (shard_meaning g.R.Shows.is_steady) n (g.P.Parts.holder_of c.args.parts.now) c.new-begun.result.items a a =
    subst (λ (l : List Bytes). HasBegun (shard_meaning g.R.Shows.is_steady) n (g.P.Parts.holder_of c.args.parts.now) l a a) (sym c.new-begun.ensures.items) (has_begun_none (shard_meaning g.R.Shows.is_steady) n (g.P.Parts.holder_of c.args.parts.now) a a (became_same (shard_meaning g.R.Shows.is_steady) n a a refl)) in
    let count = g.met.P.Parts.same_stripes c.args.parts.now c.begin_all.new.parts c.begin_all.ensures.held.kept in
    let holder = g.met.P.Parts.same_holder c.args.parts.now c.begin_all.new.parts c.begin_all.ensures.held.kept in
    let cleared = rw (count, holder) at c.clear_all.ensures.became in
    taken_back (shard_meaning g.R.Shows.is_steady) n (g.P.Parts.holder_of c.args.parts.now) c.begin_all.new.begun.items a b d (c.begin_all.ensures.begun a none)
    (subst (λ (l : List Bytes). Became (shard_meaning g.R.Shows.is_steady) n [] (clears (g.P.Parts.holder_of c.args.parts.now) l) b d) c.as_slice-in-Err.ensures.value cleared)

pub returns-clause-marks : goal.returns-clause-marks
returns-clause-marks g c =
    let n : ℕ = (g.P.Parts.stripes_of c.args.parts.now) in
    let a = g.P.Parts.part_of c.args.parts.now in
    let b = g.P.Parts.part_of c.begin_all.new.parts in
    let none : HasBegun (shard_meaning g.R.Shows.is_steady) n (g.P.Parts.holder_of c.args.parts.now) c.new-begun.result.items a a =
    subst (λ (l : List Bytes). HasBegun (shard_meaning g.R.Shows.is_steady) n (g.P.Parts.holder_of c.args.parts.now) l a a) (sym c.new-begun.ensures.items) (has_begun_none (shard_meaning g.R.Shows.is_steady) n (g.P.Parts.holder_of c.args.parts.now) a a (became_same (shard_meaning g.R.Shows.is_steady) n a a refl)) in record {
      became = subst (λ (l : List Bytes). Became (shard_meaning g.R.Shows.is_steady) n [] (begins (g.P.Parts.holder_of c.args.parts.now) l) a b) c.as_slice.ensures c.in_default.ensures.ok;
      begun = subst (λ (l : List Bytes). HasBegun (shard_meaning g.R.Shows.is_steady) n (g.P.Parts.holder_of c.args.parts.now) l a b) (sym c.from_vec.ensures) (c.begin_all.ensures.begun a none);
    }

pub returns-in-Err-clause-same : goal.returns-in-Err-clause-same
returns-in-Err-clause-same g c = (
  logs_both (g.P.Parts.part_of c.args.parts.now) (g.P.Parts.part_of c.begin_all.new.parts) (g.P.Parts.part_of c.clear_all.new.parts) c.begin_all.ensures.logs c.clear_all.ensures.logs,
  waits_both (g.P.Parts.part_of c.args.parts.now) (g.P.Parts.part_of c.begin_all.new.parts) (g.P.Parts.part_of c.clear_all.new.parts) c.begin_all.ensures.waits c.clear_all.ensures.waits,
)
