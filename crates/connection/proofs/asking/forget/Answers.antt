use Rattle.std.proofs.Common.{◌∙◌, refl, sym}
use Rattle.connection.proofs.Called.{forget_none, watches_none, went_forgot, calm_forgot}
use Rattle.connection.proofs.Conversing.{went_none}
use Rattle.connection.proofs.asking.forget.Goals as goal

pub returns-in_default-clause-watches : goal.returns-in_default-clause-watches
returns-in_default-clause-watches g c = watches_none _ _ c.requires.attends (forget_none _ (sym c.close.ensures ∙ c.in_default.is))

pub returns-in-Some-clause-went : goal.returns-in-Some-clause-went
returns-in-Some-clause-went g c =
    went_forgot _ _ _ _ _ _ _ (sym c.close.ensures ∙ c.in-Some.is) c.submit_with.ensures.answered.done c.submit_with.ensures.answered.undone

pub returns-in_default-clause-went : goal.returns-in_default-clause-went
returns-in_default-clause-went g c = went_none _

pub returns-in-Some-clause-no_failure : goal.returns-in-Some-clause-no_failure
returns-in-Some-clause-no_failure g c =
    calm_forgot _ _ _ _ _ _ _ (sym c.close.ensures ∙ c.in-Some.is) c.submit_with.ensures.answered.done c.submit_with.ensures.answered.undone

pub returns-in_default-clause-no_failure : goal.returns-in_default-clause-no_failure
returns-in_default-clause-no_failure g c = refl
