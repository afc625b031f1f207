use Rattle.std.proofs.Common.{ℕ}
use Rattle.words.specs.Store.{Store, empty, written}
use Rattle.hybrid.specs.Staging.{AreRight}
use Rattle.transact.specs.Tables.{joined}
use Rattle.shards.specs.Shards.{shard_meaning}
use Rattle.plans.specs.Running.{HasRun, HasRunOn}
use Rattle.plans.proofs.Run.{runs_present, some_then}
use Rattle.plans.proofs.running.run_present.Goals as goal

pub returns-clause-ran : goal.returns-clause-ran
returns-clause-ran g c =
    let n : ℕ = g.P.Parts.stripes_of c.args.parts.now in
    let right = g.R.Shows.is_honest × AreRight c.args.staged.now in
    let store : Store = joined (shard_meaning g.R.Shows.is_steady) n (g.P.Parts.part_of c.args.parts.now) in
    some_then (HasRun (written empty c.show_present.new.shown) c.args.command.now c.args.writes.now c.run_after.new.writes) (HasRunOn right store c.args.command.now c.args.writes.now c.run_after.new.writes) c.run_after.result
    (λ reply ran. runs_present right store c.args.command.now c.args.writes.now c.run_after.new.writes reply c.new-shown.result c.show_present.new.shown c.new-shown.ensures c.in_ok-show_present.ensures.shown c.requires.presence ran) c.run_after.ensures
