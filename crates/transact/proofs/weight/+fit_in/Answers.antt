use Rattle.transact.proofs.Heavy.{fit_with, over_first, over_with}
use Rattle.transact.proofs.weight.+fit_in.Goals as goal

pub returns-in-Some-clause-fit : goal.returns-in-Some-clause-fit
returns-in-Some-clause-fit t c =
    fit_with c.args.words.now c.key-item.result c.value-item.result c.in-Some.left c.args.room c.fit_in.result c.in-len2-up.len_at_least c.key-item.is c.value-item.is c.in-Some.ensures.some c.fit_in.ensures.fit

pub returns-in-Some-clause-over : goal.returns-in-Some-clause-over
returns-in-Some-clause-over t c =
    over_with c.args.words.now c.key-item.result c.value-item.result c.in-Some.left c.args.room c.fit_in.result c.in-len2-up.len_at_least c.key-item.is c.value-item.is c.in-Some.ensures.some c.fit_in.ensures.over

pub returns-in-None-clause-over : goal.returns-in-None-clause-over
returns-in-None-clause-over t c = λ none.
    over_first c.args.words.now c.key-item.result c.value-item.result c.args.room c.in-len2-up.len_at_least c.key-item.is c.value-item.is c.in-None.ensures.none
