use Rattle.std.proofs.Common.{true, false, sym, ◌∙◌, arith}
use Rattle.upkeep.proofs.Counted.{steps_done-by, times_told-others, times_told-step}
use Rattle.upkeep.proofs.steps.one_step.Goals as goal

pub returns-clause-looked : goal.returns-clause-looked
returns-clause-looked g c =
    times_told-step _ _ _ _ _ _ _ c.step_at.ensures.more c.step_at.ensures.fault c.step_at.ensures.told

pub returns-clause-others : goal.returns-clause-others
returns-clause-others g c = times_told-others _ _ _ _ _ c.step_at.ensures.told

pub returns-clause-done : goal.returns-clause-done
returns-clause-done g c = λ is. omega (arith, steps_done-by _ _ _ _ _ c.step_at.ensures.told true (sym c.is_done.ensures ∙ is))

pub returns-clause-idle : goal.returns-clause-idle
returns-clause-idle g c = λ is. omega (arith, steps_done-by _ _ _ _ _ c.step_at.ensures.told false (sym c.is_done.ensures ∙ is))
