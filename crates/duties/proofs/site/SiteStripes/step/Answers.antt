use Rattle.std.proofs.Common.{sym, ◌∙◌}
use Rattle.duties.proofs.Told.{events_of-cleaned, events_of-evicted, events_of-flushed, failed-cleaned, failed-flushed}
use Rattle.duties.proofs.site.SiteStripes.step.Goals as goal

pub returns-in-Flush-clause-told : goal.returns-in-Flush-clause-told
returns-in-Flush-clause-told g c =
    let seats = c.requires.ready.has_hands in
    let sits = c.flush_one.ensures.rests.has_hands in
    rw (c.in-Flush.is, c.outcome_of.ensures) (events_of-flushed _ _ _ _ _ _ _ _ (c.flush_one.ensures.flushed seats.0 sits.0 seats.1 sits.1))

pub returns-in-Flush-clause-more : goal.returns-in-Flush-clause-more
returns-in-Flush-clause-more g c =
    let seats = c.requires.ready.has_hands in
    let sits = c.flush_one.ensures.rests.has_hands in
    (failed-flushed _ _ _ _ _ _ _ _ (c.flush_one.ensures.flushed seats.0 sits.0 seats.1 sits.1)).0

pub returns-in-Flush-clause-fault : goal.returns-in-Flush-clause-fault
returns-in-Flush-clause-fault g c = λ flush fault.
    let seats = c.requires.ready.has_hands in
    let sits = c.flush_one.ensures.rests.has_hands in
    (failed-flushed _ _ _ _ _ _ _ _ (c.flush_one.ensures.flushed seats.0 sits.0 seats.1 sits.1)).1 (sym c.outcome_of.ensures ∙ fault)

pub returns-in-Evict-clause-told : goal.returns-in-Evict-clause-told
returns-in-Evict-clause-told g c =
    let evicted = c.evict_one.ensures.evicted in
    rw (c.in-Evict.is, c.outcome_of-in-Evict.ensures, evicted.1) (events_of-evicted _ evicted.0 _ _ evicted.2)

pub returns-in-Clean-clause-told : goal.returns-in-Clean-clause-told
returns-in-Clean-clause-told g c =
    let seats = c.requires.ready.has_hands in
    let sits = c.clean_one.ensures.rests.has_hands in
    rw (c.in-Clean.is, c.outcome_of-in-Clean.ensures) (events_of-cleaned _ _ _ _ _ _ _ _ _ (c.clean_one.ensures.cleaned seats.0 sits.0 seats.1 sits.1))

pub returns-in-Clean-clause-more : goal.returns-in-Clean-clause-more
returns-in-Clean-clause-more g c =
    let seats = c.requires.ready.has_hands in
    let sits = c.clean_one.ensures.rests.has_hands in
    failed-cleaned _ _ _ _ _ _ _ _ _ (c.clean_one.ensures.cleaned seats.0 sits.0 seats.1 sits.1)
