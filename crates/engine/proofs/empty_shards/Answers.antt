use Rattle.std.proofs.Common.{◌≡◌, ◌∙◌, ap, rules}
use Rattle.std.proofs.lemmas.List.Elements.{All-nil, All-push}
use Rattle.shards.specs.Logs.{counted_alone, log_by}
use Rattle.shards.specs.Shards.{shard_counted, shard_meaning}
use Rattle.shards.specs.declared.shard.Shard.{Shard}
use Rattle.engine.proofs.New.{empty_more}
use Rattle.engine.proofs.empty_shards.Goals as goal

pub loop-init : goal.loop-init
loop-init g c = (
  search rules,
  search rules,
  rw c.in_ok-shards.ensures.items (All-nil (λ (shard : Shard _). shard_counted shard ≡ counted_alone (log_by c.args.limits.now))),
)

pub loop-preserved : goal.loop-preserved
loop-preserved g c = (
  search rules,
  rw c.in_ok-push.ensures.items (empty_more (shard_meaning g.R.Shows.is_steady) c.loop.shards.items c.in_ok-new.field-0 c.loop.invariant.1 c.in_ok-new.ensures.empty c.in_ok-new.ensures.unmarked),
  rw c.in_ok-push.ensures.items
      (All-push (λ (shard : Shard _). shard_counted shard ≡ counted_alone (log_by c.args.limits.now)) c.loop.shards.items c.in_ok-new.field-0 c.loop.invariant.2
      (c.in_ok-new.ensures.counted ∙ ap counted_alone c.in_ok-new.ensures.log)),
)

pub returns-clause-count : goal.returns-clause-count
returns-clause-count g c = search rules

pub returns-clause-empty : goal.returns-clause-empty
returns-clause-empty g c = search rules
