use Rattle.std.proofs.Common.{Option, refl, sym}
use Rattle.std.specs.Option.{option_copied}
use Rattle.std.proofs.Common.{◌∷◌, []}
use Rattle.words.specs.Store.{Bytes}
use Rattle.hybrid.specs.Staging.{AreRight}
use Rattle.shards.specs.Shards.{shard_store}
use Rattle.plans.proofs.Run.{runs_one}
use Rattle.plans.proofs.running.run_at.Goals as goal

pub returns-in-Some-clause-ran : goal.returns-in-Some-clause-ran
returns-in-Some-clause-ran g c = λ store same.
    let right = g.R.Shows.is_honest × AreRight c.args.staged.now in
    let value : Option Bytes = option_copied c.in_ok-value.value in
    runs_one right (shard_store c.args.part.now) store c.args.key.now c.args.command.now c.args.writes.now c.run_found.new.writes c.in-Some.reply ((c.args.key.now, value) ∷ []) c.requires.reads
    (record { value = value; are = refl; has = record { short = c.in_ok-value.ensures.short; is = λ t. sym (c.in_ok-value.ensures.found t) } }) same c.in-Some.ensures
