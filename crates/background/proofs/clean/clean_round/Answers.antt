use Rattle.std.proofs.Common.{◌≡◌, ◌∙◌, ◌∷◌, [], Ok, false, ap, sym, subst, rules}
use Rattle.epoch.specs.Seats as seats
use Rattle.gates.specs.declared.report.Report.{Report}
use Rattle.gates.specs.Background.{IsToldOf, notes_of}
use Rattle.gates.specs.Plays.{kept}
use Rattle.hybrid.specs.Staging.{IsMissing}
use Rattle.shards.specs.declared.cleaning.Stepped.TheVariants as stepped
use Rattle.gates.specs.Helds.{held_parts, held_taken, known_to}
use Rattle.gates.specs.Passes.{known}
use Rattle.gates.specs.Sets.{part_at}
use Rattle.shards.specs.Shards.{shard_log, shard_meaning}
use Rattle.background.specs.Visits.{report_for, round_for}
use Rattle.background.proofs.Settling.{cold_is, kept_of, looked_outside, may_be_told, ok_is, on_ok_is, round_is, settled}
use Rattle.background.proofs.Visiting.{fit_held, fit_same}
use Rattle.background.proofs.clean.clean_round.Goals as goal

pub copy_at-copy-requires-clause-kept : goal.copy_at-copy-requires-clause-kept
copy_at-copy-requires-clause-kept g c =
    let s = c.clean_at-came.ensures.stepped in
    let is : c.clean_at-came.result ≡ Ok (stepped.Cold c.in-Ok-Cold.number) = ok_is c.clean_at-came.result c.in-Ok-Cold.field-0 (stepped.Cold c.in-Ok-Cold.number) c.in-Ok-Cold.is (rw c.in-Ok-Cold.is at c.in-Ok-Cold.field-0-is) in
    let missing = cold_is c.clean_at-came.result c.in-Ok-Cold.number (IsMissing (shard_log s.new) c.clean_at-came.new.staged) is s.says.cold in
    (missing.kept, record { part = s.new; there = s.is; has = kept_of (shard_log s.new) c.clean_at-came.new.staged c.in-Ok-Cold.number missing })

pub give-requires-clause-fit : goal.give-requires-clause-fit
give-requires-clause-fit g c =
    fit_same (shard_meaning g.R.Shows.is_steady) c.clean_at-came.new.parts c.copy_at-copy.new.parts c.copy_at-copy.ensures.still.kept c.copy_at-copy.ensures.same
    (fit_held (shard_meaning g.R.Shows.is_steady) c.args.turn.now.at.now.gates.now c.args.turn.now.at.now.stripe _ c.take_one-held.result c.clean_at-came.new.parts c.take_one-held.ensures.gates_are c.clean_at-came.ensures.still.kept c.clean_at-came.ensures.stepped c.take_one-held.ensures.fit)

pub returns-in-Ok-Cold-clause-came : goal.returns-in-Ok-Cold-clause-came
returns-in-Ok-Cold-clause-came g c =
    let is : c.clean_at-came.result ≡ Ok (stepped.Cold c.in-Ok-Cold.number) = ok_is c.clean_at-came.result c.in-Ok-Cold.field-0 (stepped.Cold c.in-Ok-Cold.number) c.in-Ok-Cold.is (rw c.in-Ok-Cold.is at c.in-Ok-Cold.field-0-is) in
    let told = c.take_one-held.ensures.told in
    let cold = cold_is c.clean_at-came.result c.in-Ok-Cold.number (λ number. (c.args.turn.now.reads ≡ false) × (g.R.Shows.lends → ⊥)) is c.clean_at-came.ensures.came.cold in
    let last = c.give.ensures.known in
    looked_outside g.R.Shows.lends (c.args.turn.now.at.now.stripe ∷ []) c.args.turn.now.at.now.stripe c.fetch-read.result c.args.turn.now.reads (g.D.Device.failures c.args.device.now) (g.D.Device.failures c.clean_at-came.new.device) (g.D.Device.failures c.fetch-read.new.device)
    (known c.args.pass.now) (known_to c.take_one-held.result) _ (seats.known c.args.seat) (seats.known c.clean_at-came.new.seat) (seats.known (seats.seat_in c.enter-inside.result)) (seats.known c.leave.result)
    c.take_one-held.ensures.learned told (search (rules, last) ∙ ap (kept false []) (c.copy_at-copy.ensures.still.kept.known ∙ c.clean_at-came.ensures.still.kept.known))
    (on_ok_is c.clean_at-came.result (stepped.Cold c.in-Ok-Cold.number) _ is c.clean_at-came.ensures.came.no_fault) cold.0 cold.1
    c.clean_at-came.ensures.seat.tried c.enter-inside.ensures.same.notes c.leave.ensures.same.notes c.fetch-read.ensures.again c.fetch-read.ensures.fault c.fetch-read.ensures.no_fault

pub give-requires-2-clause-told : goal.give-requires-2-clause-told
give-requires-2-clause-told g c =
    let s = c.clean_at-came.ensures.stepped in
    let lent = c.take_one-held.ensures.lent c.args.turn.now.at.now.stripe s.old s.was in
    subst (λ (r : Report). IsToldOf (shard_meaning g.R.Shows.is_steady) (held_taken c.clean_at-came.new.parts) (held_parts c.clean_at-came.new.parts) r) (sym c.report_of.ensures)
    (may_be_told g.R.Shows.is_steady c.args.turn.now.at.now.stripe c.clean_at-came.result (held_taken c.clean_at-came.new.parts) (held_parts c.clean_at-came.new.parts) s.old s.new lent.0
    (ap (λ took. part_at took c.args.turn.now.at.now.stripe) c.clean_at-came.ensures.still.kept.taken ∙ lent.1) s.is s.says.told)

pub give-requires-2-clause-fit : goal.give-requires-2-clause-fit
give-requires-2-clause-fit g c =
    fit_held (shard_meaning g.R.Shows.is_steady) c.args.turn.now.at.now.gates.now c.args.turn.now.at.now.stripe _ c.take_one-held.result c.clean_at-came.new.parts c.take_one-held.ensures.gates_are c.clean_at-came.ensures.still.kept c.clean_at-came.ensures.stepped c.take_one-held.ensures.fit

pub returns-clause-came : goal.returns-clause-came
returns-clause-came g c =
    let told = c.take_one-held.ensures.told in
    let last = c.give-2.ensures.known in
    round_is (round_for c.clean_at-came.result) c.round_of.result _ _ (sym c.round_of.ensures)
    (settled g.R.Shows.lends (c.args.turn.now.at.now.stripe ∷ []) c.args.turn.now.at.now.stripe c.clean_at-came.result c.args.turn.now.reads (g.D.Device.failures c.args.device.now) (g.D.Device.failures c.clean_at-came.new.device)
    (known c.args.pass.now) (known_to c.take_one-held.result) _ (seats.known c.args.seat) (seats.known c.clean_at-came.new.seat) c.take_one-held.ensures.learned told
    (search (rules, last) ∙ ap (λ (r : Report). kept false (notes_of r) (known_to c.clean_at-came.new.parts)) c.report_of.ensures ∙ ap (kept false (notes_of (report_for c.args.turn.now.at.now.stripe c.clean_at-came.result))) c.clean_at-came.ensures.still.kept.known)
    c.clean_at-came.ensures.came.fault c.clean_at-came.ensures.came.no_fault c.clean_at-came.ensures.came.worn c.clean_at-came.ensures.came.cold c.clean_at-came.ensures.seat.tried)
