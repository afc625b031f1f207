use Rattle.shards.specs.Shards.{shard_meaning}
use Rattle.plans.proofs.Installed.{call_became, installed}
use Rattle.plans.proofs.laws.writes_install_a_call.Goals as goal

pub returns : goal.returns
returns g c = λ n own call asked seen watched reply writes before planned later asks ends plan stand begun became.
    installed (shard_meaning g.R.Shows.is_steady) n call own asked seen watched reply writes before later asks ends plan stand
    (call_became (shard_meaning g.R.Shows.is_steady) n call own writes before planned later begun became)
