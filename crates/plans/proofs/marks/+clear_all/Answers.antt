use Rattle.std.proofs.Common.{ℕ, List, [], ◌∷◌, sym, subst, rules}
use Rattle.words.specs.Store.{Bytes}
use Rattle.shards.specs.Shards.{shard_meaning}
use Rattle.transact.specs.Tables.{AreThere, Became, clears}
use Rattle.plans.proofs.Logs.{logs_both}
use Rattle.plans.proofs.Become.{there_after}
use Rattle.plans.proofs.Begun.{cleared_more}
use Rattle.plans.proofs.Waits.{waits_both}
use Rattle.plans.proofs.marks.+clear_all.Goals as goal

pub clear_all-requires : goal.clear_all-requires
clear_all-requires g t c κs within =
    let n : ℕ = (g.P.Parts.stripes_of c.args.parts.now) in
    let before = g.P.Parts.part_of c.args.parts.now in
    let later = g.P.Parts.part_of c.clear.new.parts in
    let all : AreThere n before (c.in-Some.key.now ∷ c.in-Some.others.now) = subst (AreThere n before) c.in-Some.ensures.cases.0 c.requires.there in
    let rest : AreThere n later c.in-Some.others.now = there_after (shard_meaning g.R.Shows.is_steady) n c.in-Some.others.now before later c.clear.ensures.became.there all.1 in
    let count = g.met.P.Parts.same_stripes c.args.parts.now c.clear.new.parts c.clear.ensures.held.kept in
    search (rules, rest, count)

pub returns-in-Some-clause-became : goal.returns-in-Some-clause-became
returns-in-Some-clause-became g t c =
    let n : ℕ = (g.P.Parts.stripes_of c.args.parts.now) in
    let own : ℕ = (g.P.Parts.holder_of c.args.parts.now) in
    let a = g.P.Parts.part_of c.args.parts.now in
    let b = g.P.Parts.part_of c.clear.new.parts in
    let d = g.P.Parts.part_of c.clear_all.new.parts in
    let count = g.met.P.Parts.same_stripes c.args.parts.now c.clear.new.parts c.clear.ensures.held.kept in
    let holder = g.met.P.Parts.same_holder c.args.parts.now c.clear.new.parts c.clear.ensures.held.kept in
    let others = rw (count, holder) at c.clear_all.ensures.became in
    subst (λ (l : List Bytes). Became (shard_meaning g.R.Shows.is_steady) n [] (clears own l) a d) (sym c.in-Some.ensures.cases.0)
    (cleared_more (shard_meaning g.R.Shows.is_steady) n own c.in-Some.key.now c.in-Some.others.now a b d c.clear.ensures.became others)

pub returns-in-Some-clause-logs : goal.returns-in-Some-clause-logs
returns-in-Some-clause-logs g t c =
    logs_both (g.P.Parts.part_of c.args.parts.now) (g.P.Parts.part_of c.clear.new.parts) (g.P.Parts.part_of c.clear_all.new.parts) c.clear.ensures.logs c.clear_all.ensures.logs

pub returns-in-Some-clause-waits : goal.returns-in-Some-clause-waits
returns-in-Some-clause-waits g t c =
    waits_both (g.P.Parts.part_of c.args.parts.now) (g.P.Parts.part_of c.clear.new.parts) (g.P.Parts.part_of c.clear_all.new.parts) c.clear.ensures.waits c.clear_all.ensures.waits
