use Rattle.std.proofs.Common.{◌∙◌, ℕ, length, sym, subst, arith, ltb-true}
use Rattle.shards.specs.Shards.{logs_of}
use Rattle.plans.specs.Placing.{GoThere, GoesThere}
use Rattle.plans.proofs.Spots.{go_next, there_get}
use Rattle.plans.proofs.placing.add_targets.Goals as goal

pub target_for-next-requires-clause-there : goal.target_for-next-requires-clause-there
target_for-next-requires-clause-there g c =
    let n : ℕ = g.P.Parts.stripes_of c.args.parts.now in
    let count = g.met.P.Parts.same_stripes c.args.parts.now c.loop-write.parts c.loop-write.invariant.keeps in
    rw (count, c.loop-write.invariant.same) (there_get n (g.P.Parts.part_of c.args.parts.now) c.args.writes.now c.len.result c.in-Some.write.now _ (ltb-true c.len.result (length c.args.writes.now) (sym c.in-Some.ensures.lookup.0)) c.in-Some.ensures.lookup.1 c.requires.there)

pub loop-write-preserved : goal.loop-write-preserved
loop-write-preserved g c =
    let n : ℕ = g.P.Parts.stripes_of c.args.parts.now in
    let inv = c.loop-write.invariant in
    let count = g.met.P.Parts.same_stripes c.args.parts.now c.loop-write.parts inv.keeps in
    let logs = logs_of (g.P.Parts.part_of c.args.parts.now) in
    let is : GoesThere n logs c.in-Some.write.now c.target_for-next.result.0 = rw (count, inv.same) at c.target_for-next.ensures.target in
    record {
      is_open = c.target_for-next.ensures.held.open_still;
      keeps = g.met.P.Parts.keeps_both c.args.parts.now c.loop-write.parts c.target_for-next.new.parts inv.keeps c.target_for-next.ensures.held.kept;
      same = c.target_for-next.ensures.same ∙ inv.same;
      targets = subst (GoThere n logs c.args.writes.now) (sym c.in-Ok.ensures.items)
          (go_next n logs c.args.writes.now c.loop-write.targets.items c.len.result c.in-Some.write.now _ c.target_for-next.result.0 inv.targets (omega (arith, c.len.ensures, c.loop-write.targets.ok))
          (ltb-true c.len.result (length c.args.writes.now) (sym c.in-Some.ensures.lookup.0)) c.in-Some.ensures.lookup.1 is);
    }
