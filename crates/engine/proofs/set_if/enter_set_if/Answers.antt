use Rattle.std.proofs.Common.{sym, ◌∙◌, ap}
use Rattle.transact.specs.declared.call.Call.TheVariants.{One}
use Rattle.engine.proofs.set_if.enter_set_if.Goals as goal

pub enter_setting-requires-clause-is : goal.enter_setting-requires-clause-is
enter_setting-requires-clause-is g c = sym c.call.ensures ∙ c.in-One.is ∙ ap One c.in-Set.is

pub enter_setting-requires-in-SetGet-clause-is : goal.enter_setting-requires-in-SetGet-clause-is
enter_setting-requires-in-SetGet-clause-is g c = sym c.call.ensures ∙ c.in-One.is ∙ ap One c.in-SetGet.is
