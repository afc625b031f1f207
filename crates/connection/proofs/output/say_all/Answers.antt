use Rattle.std.proofs.Common.{◌∙◌, refl}
use Rattle.streams.specs.Laws.{IsPut-sent}
use Rattle.connection.proofs.output.say_all.Goals as goal

pub returns-clause-put : goal.returns-clause-put
returns-clause-put g c =
    rw (← c.if-encode_values_within.ensures.full refl) (IsPut-sent _ _ _ _ _ _ _ (c.if-encode_values_within-2.ensures.full refl ∙ c.in_default.ensures.empty) c.in_default.ensures.sent c.send_values.ensures.sent)
