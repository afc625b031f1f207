use Rattle.std.proofs.Common.{sym, subst}
use Rattle.plans.specs.Running.{AsksPresence}
use Rattle.plans.proofs.Run.{del_asks, exists_asks, msetnx_asks}
use Rattle.plans.proofs.looks.looks_of.Goals as goal

pub returns-in-Exists : goal.returns-in-Exists
returns-in-Exists c = subst AsksPresence (sym c.in-Exists.is) (exists_asks c.in-Exists.field-0)

pub returns-in-Del : goal.returns-in-Del
returns-in-Del c = subst AsksPresence (sym c.in-Del.is) (del_asks c.in-Del.field-0)

pub returns-in-MSetNx : goal.returns-in-MSetNx
returns-in-MSetNx c = subst AsksPresence (sym c.in-MSetNx.is) (msetnx_asks c.in-MSetNx.field-0)
