use Rattle.std.proofs.Common.{List, ℕ, [], subst, ◌∙◌}
use Rattle.streams.specs.Laws.{Appends-none, Keeps-same}
use Rattle.schedules.specs.Runs.{IsFault}
use Rattle.schedules.proofs.Running.{not_run}
use Rattle.schedules.proofs.run.run_schedule.Goals as goal

pub returns-clause-ran : goal.returns-clause-ran
returns-clause-ran g c =
    let read = c.in_ok-text.ensures.read in
    let P : List ℕ → Type 0 = λ text. IsFault text c.in-Err.fault in
    let is = subst P (c.as_slice.ensures.value ∙ read.2) c.in-Err.ensures in
    (read.0, [], read.1, Appends-none _ _ (Keeps-same _), not_run c.args.shown c.args.until read.0 c.in-Err.fault is)
