use Rattle.std.proofs.Common.{◌∙◌, ◌∷◌, [], ap, ◌+◌, ℕ}
use Rattle.epoch.specs.Seats as seats
use Rattle.gates.specs.Passes.{known}
use Rattle.gates.specs.declared.view.Note.TheVariants as note
use Rattle.gates.specs.declared.view.Work.TheVariants.{Flush}
use Rattle.background.proofs.Settling.{full_later}
use Rattle.background.proofs.Visiting.{visited_twice}
use Rattle.background.proofs.flush.flush_one.Goals as goal

pub returns-in_default-clause-flushed : goal.returns-in_default-clause-flushed
returns-in_default-clause-flushed g c = (
  c.in_default.ensures.failure ∙ ap (λ (n : ℕ). n + 1) c.begin.ensures.rested.no_fault,
  visited_twice (c.args.at.now.stripe ∷ []) [] (known c.args.pass.now) (known c.begin.new.pass) (known c.fail.new.pass) c.in-Sealed.ensures.begun c.fail.ensures.told,
)

pub returns-then-end-clause-flushed : goal.returns-then-end-clause-flushed
returns-then-end-clause-flushed g c = (
  c.end.ensures.rested.no_fault ∙ c.in-Ok.ensures.no_failure ∙ c.begin.ensures.rested.no_fault,
  visited_twice (c.args.at.now.stripe ∷ []) (note.Done c.args.at.now.stripe Flush ∷ []) (known c.args.pass.now) (known c.begin.new.pass) (known c.end.new.pass) c.in-Sealed.ensures.begun c.if-end.ensures.ended,
)

pub returns-else-end-clause-flushed : goal.returns-else-end-clause-flushed
returns-else-end-clause-flushed g c = (
  c.end.ensures.rested.no_fault ∙ c.in-Ok.ensures.no_failure ∙ c.begin.ensures.rested.no_fault,
  full_later (c.args.at.now.stripe ∷ []) c.args.at.now.stripe (known c.args.pass.now) (known c.begin.new.pass) (known c.end.new.pass) (seats.known c.args.seat.now) (seats.known c.begin.new.seat) (seats.known c.end.new.seat)
      c.in-Sealed.ensures.begun c.begin.ensures.seat.heard c.if-end.ensures.ended,
)
