use Rattle.std.proofs.Common.{ℕ, List, [], ◌∷◌, sym, subst, rules}
use Rattle.words.specs.Store.{Bytes}
use Rattle.shards.specs.Shards.{shard_meaning}
use Rattle.transact.specs.Tables.{AreThere, Became, begins}
use Rattle.plans.proofs.Logs.{logs_both}
use Rattle.plans.proofs.Become.{there_after}
use Rattle.plans.proofs.Stores.{ok_then}
use Rattle.plans.proofs.Begun.{begun_more}
use Rattle.plans.proofs.Waits.{waits_both}
use Rattle.plans.proofs.marks.+begin_all.Goals as goal

pub begin_all-requires : goal.begin_all-requires
begin_all-requires g t c κs within =
    let n : ℕ = (g.P.Parts.stripes_of c.args.parts.now) in
    let before = g.P.Parts.part_of c.args.parts.now in
    let later = g.P.Parts.part_of c.begin_one.new.parts in
    let all : AreThere n before (c.in-Some.key.now ∷ c.in-Some.others.now) = subst (AreThere n before) c.in-Some.ensures.cases.0 c.requires.there in
    let rest : AreThere n later c.in-Some.others.now = there_after (shard_meaning g.R.Shows.is_steady) n c.in-Some.others.now before later c.in_ok-begin_one.ensures.ok.there all.1 in
    let count = g.met.P.Parts.same_stripes c.args.parts.now c.begin_one.new.parts c.begin_one.ensures.held.kept in
    search (rules, rest, count)

pub returns-clause-ok : goal.returns-clause-ok
returns-clause-ok g t c =
    let n : ℕ = (g.P.Parts.stripes_of c.args.parts.now) in
    let own : ℕ = (g.P.Parts.holder_of c.args.parts.now) in
    let a = g.P.Parts.part_of c.args.parts.now in
    let b = g.P.Parts.part_of c.begin_one.new.parts in
    let d = g.P.Parts.part_of c.begin_all.new.parts in
    let count = g.met.P.Parts.same_stripes c.args.parts.now c.begin_one.new.parts c.begin_one.ensures.held.kept in
    let holder = g.met.P.Parts.same_holder c.args.parts.now c.begin_one.new.parts c.begin_one.ensures.held.kept in
    let others = rw (count, holder) at c.begin_all.ensures.ok in
    ok_then c.begin_all.result
    (λ e. subst (λ (l : List Bytes). Became (shard_meaning g.R.Shows.is_steady) n [] (begins own l) a d) (sym c.in-Some.ensures.cases.0)
    (begun_more (shard_meaning g.R.Shows.is_steady) n own c.in-Some.key.now c.in-Some.others.now a b d c.in_ok-begin_one.ensures.ok e))
    others

pub returns-clause-logs : goal.returns-clause-logs
returns-clause-logs g t c =
    logs_both (g.P.Parts.part_of c.args.parts.now) (g.P.Parts.part_of c.begin_one.new.parts) (g.P.Parts.part_of c.begin_all.new.parts) c.begin_one.ensures.logs c.begin_all.ensures.logs

pub returns-clause-waits : goal.returns-clause-waits
returns-clause-waits g t c =
    waits_both (g.P.Parts.part_of c.args.parts.now) (g.P.Parts.part_of c.begin_one.new.parts) (g.P.Parts.part_of c.begin_all.new.parts) c.begin_one.ensures.waits c.begin_all.ensures.waits
