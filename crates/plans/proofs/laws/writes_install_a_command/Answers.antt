use Rattle.std.proofs.Common.{refl}
use Rattle.words.specs.Session as asked
use Rattle.transact.specs.declared.call.Call.TheVariants.{One}
use Rattle.shards.specs.Shards.{shard_meaning}
use Rattle.plans.proofs.Begun.{begins_none, touched_only}
use Rattle.plans.proofs.Installed.{call_became, installed}
use Rattle.plans.proofs.laws.writes_install_a_command.Goals as goal

pub returns : goal.returns
returns g c = λ n own command seen watched reply writes before reserved later plan stand kept became.
    installed (shard_meaning g.R.Shows.is_steady) n (One command) own (asked.Run command) seen watched reply writes before later refl tt plan stand
    (call_became (shard_meaning g.R.Shows.is_steady) n (One command) own writes before reserved later
    (begins_none (shard_meaning g.R.Shows.is_steady) n own before reserved kept)
    (touched_only (shard_meaning g.R.Shows.is_steady) n own writes reserved later became))
