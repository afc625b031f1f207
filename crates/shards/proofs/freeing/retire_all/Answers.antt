use Rattle.shards.proofs.Freed.{retired_fewer, retired_more, retired_none, retired_refused, tried_more, tried_none, tried_worn}
use Rattle.shards.proofs.freeing.retire_all.Goals as goal

pub all-init : goal.all-init
all-init g c = record { is = c.requires.is; retired = retired_none c.args.log.now; told = tried_none (g.S.Retires.knows c.args.own.now) }

pub all-preserved : goal.all-preserved
all-preserved g c = record {
  is = c.retire.ensures.is;
  retired = retired_more c.args.log.now c.all.log c.retire.new.self c.all.invariant.retired c.in-Done.ensures.retired;
  told = tried_more c.in-Done.ensures.told.0 (g.S.Retires.knows c.args.own.now) (g.S.Retires.knows c.all.own) (g.S.Retires.knows c.retire.new.own) c.all.invariant.told c.in-Done.ensures.told.1;
}

pub all-smaller : goal.all-smaller
all-smaller g c = retired_fewer c.all.log c.retire.new.self c.in-Done.ensures.retired

pub returns-in-Refused-clause-told : goal.returns-in-Refused-clause-told
returns-in-Refused-clause-told g c = tried_worn (g.S.Retires.knows c.args.own.now) (g.S.Retires.knows c.all.own) (g.S.Retires.knows c.retire.new.own) c.all.invariant.told c.in-Refused.ensures.told

pub returns-in-Refused-clause-retired : goal.returns-in-Refused-clause-retired
returns-in-Refused-clause-retired g c = retired_refused c.args.log.now c.all.log c.retire.new.self c.all.invariant.retired c.in-Refused.ensures.retired
