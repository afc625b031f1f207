use Rattle.std.proofs.Common.{◌∙◌, ◌∷◌, [], false, ap, rules}
use Rattle.gates.specs.Helds.{known_to}
use Rattle.gates.specs.Passes.{known}
use Rattle.gates.specs.Plays.{kept}
use Rattle.gates.specs.Sets.{part_at}
use Rattle.gates.specs.declared.view.Note.TheVariants as note
use Rattle.gates.specs.Background.{IsIdle, IsStep}
use Rattle.gates.specs.declared.view.Work.TheVariants.{Flush}
use Rattle.shards.specs.Shards.{shard_meaning, shard_pages}
use Rattle.background.proofs.Visiting.{fit_held, on_false, on_true, visited_at_once}
use Rattle.background.proofs.flush.try_flush_one.Goals as goal

pub give-requires-clause-told : goal.give-requires-clause-told
give-requires-clause-told g c =
    let s = c.in-Ok-true.ensures.stepped in
    let lent = (c.hold_one-held.ensures.taken _ c.if-not-try_take_one.ensures.taken).lent c.args.at.now.stripe s.old s.was in
    record {
      part = s.new;
      there = s.is;
      is = ((lent.0, s.old), ap (λ took. part_at took c.args.at.now.stripe) c.flush_at.ensures.still.kept.taken ∙ lent.1, on_true (IsStep Flush (shard_pages s.old) (shard_pages s.new)) c.in-Ok-true.field-0 c.in-Ok-true.field-0-test s.says.step);
    }

pub give-requires-clause-fit : goal.give-requires-clause-fit
give-requires-clause-fit g c =
    fit_held (shard_meaning g.R.Shows.is_steady) c.args.at.now.gates.now c.args.at.now.stripe _ c.hold_one-held.result c.flush_at.new.parts (c.hold_one-held.ensures.taken _ c.if-not-try_take_one.ensures.taken).gates_are c.flush_at.ensures.still.kept c.flush_at.ensures.stepped (c.hold_one-held.ensures.taken _ c.if-not-try_take_one.ensures.taken).fit

pub give-requires-in-Ok-false-clause-told : goal.give-requires-in-Ok-false-clause-told
give-requires-in-Ok-false-clause-told g c =
    let s = c.in-Ok-false.ensures.stepped in
    let lent = (c.hold_one-held.ensures.taken _ c.if-not-try_take_one.ensures.taken).lent c.args.at.now.stripe s.old s.was in
    record {
      part = s.new;
      there = s.is;
      is = (on_false (IsIdle Flush (shard_pages s.new)) c.in-Ok-false.field-0 c.in-Ok-false.field-0-test s.says.idle, (lent.0, s.old), ap (λ took. part_at took c.args.at.now.stripe) c.flush_at.ensures.still.kept.taken ∙ lent.1, tt);
    }

pub give-requires-in-Ok-false-clause-fit : goal.give-requires-in-Ok-false-clause-fit
give-requires-in-Ok-false-clause-fit g c =
    fit_held (shard_meaning g.R.Shows.is_steady) c.args.at.now.gates.now c.args.at.now.stripe _ c.hold_one-held.result c.flush_at.new.parts (c.hold_one-held.ensures.taken _ c.if-not-try_take_one.ensures.taken).gates_are c.flush_at.ensures.still.kept c.flush_at.ensures.stepped (c.hold_one-held.ensures.taken _ c.if-not-try_take_one.ensures.taken).fit

pub give-requires-in-Err-Full-clause-told : goal.give-requires-in-Err-Full-clause-told
give-requires-in-Err-Full-clause-told g c =
    let s = c.in-Err-Full.ensures.stepped in
    let full = rw c.in-Err-Full.field-0-is at s.says.full in
    let lent = (c.hold_one-held.ensures.taken _ c.if-not-try_take_one.ensures.taken).lent c.args.at.now.stripe s.old s.was in
    record {
      part = s.new;
      there = s.is;
      is = (full.full, (lent.0, s.old), ap (λ took. part_at took c.args.at.now.stripe) c.flush_at.ensures.still.kept.taken ∙ lent.1, full.spent);
    }

pub give-requires-in-Err-Full-clause-fit : goal.give-requires-in-Err-Full-clause-fit
give-requires-in-Err-Full-clause-fit g c =
    fit_held (shard_meaning g.R.Shows.is_steady) c.args.at.now.gates.now c.args.at.now.stripe _ c.hold_one-held.result c.flush_at.new.parts (c.hold_one-held.ensures.taken _ c.if-not-try_take_one.ensures.taken).gates_are c.flush_at.ensures.still.kept c.flush_at.ensures.stepped (c.hold_one-held.ensures.taken _ c.if-not-try_take_one.ensures.taken).fit

pub give-requires-in-Err-DeviceFault-clause-fit : goal.give-requires-in-Err-DeviceFault-clause-fit
give-requires-in-Err-DeviceFault-clause-fit g c =
    fit_held (shard_meaning g.R.Shows.is_steady) c.args.at.now.gates.now c.args.at.now.stripe _ c.hold_one-held.result c.flush_at.new.parts (c.hold_one-held.ensures.taken _ c.if-not-try_take_one.ensures.taken).gates_are c.flush_at.ensures.still.kept c.flush_at.ensures.stepped (c.hold_one-held.ensures.taken _ c.if-not-try_take_one.ensures.taken).fit

pub returns-in-Ok-true-clause-flushed : goal.returns-in-Ok-true-clause-flushed
returns-in-Ok-true-clause-flushed g c =
    let last = c.give.ensures.known in (
      c.in-Ok-true.ensures.no_fault,
      visited_at_once (note.Done c.args.at.now.stripe Flush ∷ []) (known c.args.pass.now) (known_to c.hold_one-held.result) _ (c.hold_one-held.ensures.taken _ c.if-not-try_take_one.ensures.taken).learned (c.hold_one-held.ensures.told _ c.if-not-try_take_one.ensures.taken)
          (search (rules, last) ∙ ap (kept false (note.Done c.args.at.now.stripe Flush ∷ [])) c.flush_at.ensures.still.kept.known),
    )
