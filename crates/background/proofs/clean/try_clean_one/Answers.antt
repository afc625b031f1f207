use Rattle.std.proofs.Common.{◌∙◌, [], Ok, Err, true, false, ap, sym, subst, rules}
use Rattle.epoch.specs.Seats as seats
use Rattle.gates.specs.declared.report.Report.{Report}
use Rattle.gates.specs.Background.{IsToldOf, notes_of}
use Rattle.gates.specs.Helds.{held_parts, held_taken, known_to}
use Rattle.gates.specs.Passes.{known}
use Rattle.gates.specs.Plays.{kept}
use Rattle.gates.specs.Sets.{part_at}
use Rattle.shards.specs.Shards.{shard_meaning}
use Rattle.background.specs.declared.clean.Round.TheVariants as round
use Rattle.background.specs.Visits.{report_for, round_for}
use Rattle.background.proofs.Settling.{may_be_told, never_again, ok_is, round_is, settled}
use Rattle.background.proofs.Visiting.{fit_held}
use Rattle.background.proofs.clean.try_clean_one.Goals as goal

pub give-requires-clause-told : goal.give-requires-clause-told
give-requires-clause-told g c =
    let s = c.clean_at-came.ensures.stepped in
    let lent = (c.hold_one-held.ensures.taken _ c.if-not-try_take_one.ensures.taken).lent c.args.at.now.stripe s.old s.was in
    subst (λ (r : Report). IsToldOf (shard_meaning g.R.Shows.is_steady) (held_taken c.clean_at-came.new.parts) (held_parts c.clean_at-came.new.parts) r) (sym c.report_of.ensures)
    (may_be_told g.R.Shows.is_steady c.args.at.now.stripe c.clean_at-came.result (held_taken c.clean_at-came.new.parts) (held_parts c.clean_at-came.new.parts) s.old s.new lent.0
    (ap (λ took. part_at took c.args.at.now.stripe) c.clean_at-came.ensures.still.kept.taken ∙ lent.1) s.is s.says.told)

pub give-requires-clause-fit : goal.give-requires-clause-fit
give-requires-clause-fit g c =
    fit_held (shard_meaning g.R.Shows.is_steady) c.args.at.now.gates.now c.args.at.now.stripe _ c.hold_one-held.result c.clean_at-came.new.parts (c.hold_one-held.ensures.taken _ c.if-not-try_take_one.ensures.taken).gates_are c.clean_at-came.ensures.still.kept c.clean_at-came.ensures.stepped (c.hold_one-held.ensures.taken _ c.if-not-try_take_one.ensures.taken).fit

pub returns-in-Ok-Ended-clause-cleaned : goal.returns-in-Ok-Ended-clause-cleaned
returns-in-Ok-Ended-clause-cleaned g c =
    let last = c.give.ensures.known in
    round_is (round_for c.clean_at-came.result) (Ok (round.Ended c.in-Ok-Ended.done)) _ _ (sym c.round_of.ensures ∙ ok_is c.round_of.result c.in-Ok-Ended.field-0 (round.Ended c.in-Ok-Ended.done) c.in-Ok-Ended.is c.in-Ok-Ended.field-0-is)
    (settled g.R.Shows.lends [] c.args.at.now.stripe c.clean_at-came.result true (g.D.Device.failures c.args.device.now) (g.D.Device.failures c.clean_at-came.new.device)
    (known c.args.pass.now) (known_to c.hold_one-held.result) _ (seats.known c.args.seat.now) (seats.known c.clean_at-came.new.seat) (c.hold_one-held.ensures.taken _ c.if-not-try_take_one.ensures.taken).learned ([], (c.hold_one-held.ensures.told _ c.if-not-try_take_one.ensures.taken), tt)
    (search (rules, last) ∙ ap (λ (r : Report). kept false (notes_of r) (known_to c.clean_at-came.new.parts)) c.report_of.ensures ∙ ap (kept false (notes_of (report_for c.args.at.now.stripe c.clean_at-came.result))) c.clean_at-came.ensures.still.kept.known)
    c.clean_at-came.ensures.came.fault c.clean_at-came.ensures.came.no_fault c.clean_at-came.ensures.came.worn c.clean_at-came.ensures.came.cold c.clean_at-came.ensures.seat.tried)

pub returns-in-Err-clause-cleaned : goal.returns-in-Err-clause-cleaned
returns-in-Err-clause-cleaned g c =
    let last = c.give.ensures.known in
    round_is (round_for c.clean_at-came.result) (Err c.in-Err.fault) _ _ (sym c.round_of.ensures ∙ c.in-Err.is)
    (settled g.R.Shows.lends [] c.args.at.now.stripe c.clean_at-came.result true (g.D.Device.failures c.args.device.now) (g.D.Device.failures c.clean_at-came.new.device)
    (known c.args.pass.now) (known_to c.hold_one-held.result) _ (seats.known c.args.seat.now) (seats.known c.clean_at-came.new.seat) (c.hold_one-held.ensures.taken _ c.if-not-try_take_one.ensures.taken).learned ([], (c.hold_one-held.ensures.told _ c.if-not-try_take_one.ensures.taken), tt)
    (search (rules, last) ∙ ap (λ (r : Report). kept false (notes_of r) (known_to c.clean_at-came.new.parts)) c.report_of.ensures ∙ ap (kept false (notes_of (report_for c.args.at.now.stripe c.clean_at-came.result))) c.clean_at-came.ensures.still.kept.known)
    c.clean_at-came.ensures.came.fault c.clean_at-came.ensures.came.no_fault c.clean_at-came.ensures.came.worn c.clean_at-came.ensures.came.cold c.clean_at-came.ensures.seat.tried)

pub unreachable-requires : goal.unreachable-requires
unreachable-requires g c = never_again g.R.Shows.lends c.clean_at-came.result c.clean_at-came.ensures.came.cold (sym c.round_of.ensures ∙ ok_is c.round_of.result c.in-Ok-Again.field-0 round.Again c.in-Ok-Again.is c.in-Ok-Again.field-0-is)
