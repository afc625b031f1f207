use Rattle.std.proofs.Common.{sym, subst}
use Rattle.plans.specs.Placing.{WereLookedUp}
use Rattle.plans.proofs.Spots.{were_push}
use Rattle.plans.proofs.running.is_kept.Goals as goal

pub returns-in-Ok : goal.returns-in-Ok
returns-in-Ok c = λ n logs were was. subst (WereLookedUp n logs) (sym c.in-Ok.ensures.items) (were_push n logs c.args.looked.now.items c.args.found were was)
