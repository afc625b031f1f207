use Rattle.std.proofs.Common.{rules, [], ◌++◌, ◌∙◌, refl, sym, ap, append_assoc, append-nil, List, ℕ}
use Rattle.streams.specs.Laws.{Keeps-same, Appends-none, Appends-then}
use Rattle.connection.proofs.Known.{regroup_held, regroup_cut, cut_held}
use Rattle.connection.proofs.Conversing.{served_cut, served_cut_fault, served_cut_unfed, served_fault, served_no_memory, served_unfed, served_quit}
use Rattle.connection.proofs.answering.conclude.Goals as goal

pub returns-in-Err-clause-answered : goal.returns-in-Err-clause-answered
returns-in-Err-clause-answered g c = λ stripes was now fed before standing paused.
    let so_far = rw c.in-Input.is at paused in
    let cut = c.in-Err.ensures.sent in
    (cut.0, cut.3, served_cut _ cut.1 so_far.2 (cut_held before _ cut.0 cut.1 cut.2))

pub returns-in-Err-say_line-clause-answered : goal.returns-in-Err-say_line-clause-answered
returns-in-Err-say_line-clause-answered g c = λ stripes was now fed before standing paused.
    let so_far = rw c.in-Malformed.is at paused in
    let cut = c.in-Err-say_line.ensures.put in
    (cut.0, cut.3, served_cut_fault c.in-Malformed.fault _ cut.1 so_far.2 so_far.0 (regroup_held before _ _ cut.0 cut.1 cut.2))

pub returns-in-Err-flush-clause-answered : goal.returns-in-Err-flush-clause-answered
returns-in-Err-flush-clause-answered g c = λ stripes was now fed before standing paused.
    let so_far = rw c.in-Malformed.is at paused in
    let put = c.in_default-say_line.ensures.put in
    let cut = c.in-Err-flush.ensures.sent in (
      put.0 ++ cut.0,
      Appends-then _ _ _ put.0 cut.0 put.1 cut.3,
      served_cut_fault c.in-Malformed.fault _ cut.1 so_far.2 so_far.0
          (regroup_held before _ _ put.0 _ put.2 ∙ regroup_cut before put.0 _ cut.0 cut.1 cut.2),
    )

pub returns-in_default-flush-clause-answered : goal.returns-in_default-flush-clause-answered
returns-in_default-flush-clause-answered g c = λ stripes was now fed before standing paused.
    let so_far = rw c.in-Malformed.is at paused in
    let put = c.in_default-say_line.ensures.put in (
      put.0 ++ c.say_line.new.out.items,
      Appends-then _ _ _ put.0 _ put.1 c.in_default-flush.ensures.sent,
      served_fault c.in-Malformed.fault _ so_far.2 so_far.0 so_far.1 (regroup_held before _ _ put.0 _ put.2 ∙ append_assoc before put.0 _),
    )

pub returns-in-Err-flush-2-clause-answered : goal.returns-in-Err-flush-2-clause-answered
returns-in-Err-flush-2-clause-answered g c = λ stripes was now fed before standing paused.
    let so_far = rw c.in-NoMemory.is at paused in
    let cut = c.in-Err-flush-2.ensures.sent in
    (cut.0, cut.3, served_cut _ cut.1 so_far.3 (cut_held before _ cut.0 cut.1 cut.2))

pub returns-in_default-flush-2-clause-answered : goal.returns-in_default-flush-2-clause-answered
returns-in_default-flush-2-clause-answered g c = λ stripes was now fed before standing paused.
    let so_far = rw c.in-NoMemory.is at paused in
    (_, c.in_default-flush-2.ensures.sent, served_no_memory _ so_far.3 so_far.1 so_far.2 refl)

pub returns-in-Err-flush-3-clause-answered : goal.returns-in-Err-flush-3-clause-answered
returns-in-Err-flush-3-clause-answered g c = λ stripes was now fed before standing paused.
    let so_far = rw c.in-Unfed.is at paused in
    let cut = c.in-Err-flush-3.ensures.sent in
    (cut.0, cut.3, served_cut_unfed _ so_far.1 _ cut.1 so_far.7 so_far.2 (cut_held before _ cut.0 cut.1 cut.2))

pub returns-in_default-flush-3-clause-answered : goal.returns-in_default-flush-3-clause-answered
returns-in_default-flush-3-clause-answered g c = λ stripes was now fed before standing paused.
    let so_far = rw c.in-Unfed.is at paused in
    (_, c.in_default-flush-3.ensures.sent, served_unfed _ so_far.1 _ so_far.7 so_far.2 so_far.3 so_far.4 so_far.5 so_far.6 refl)

pub returns-in-Err-flush-4-clause-answered : goal.returns-in-Err-flush-4-clause-answered
returns-in-Err-flush-4-clause-answered g c = λ stripes was now fed before standing paused.
    let so_far = rw c.in-Closed.is at paused in
    let cut = c.in-Err-flush-4.ensures.sent in
    (cut.0, cut.3, served_cut _ cut.1 so_far.1 (cut_held before _ cut.0 cut.1 cut.2))

pub returns-in_default-flush-4-clause-answered : goal.returns-in_default-flush-4-clause-answered
returns-in_default-flush-4-clause-answered g c = λ stripes was now fed before standing paused.
    let so_far = rw c.in-Closed.is at paused in
    (_, c.in_default-flush-4.ensures.sent, served_quit _ so_far.1 so_far.0 refl)

pub returns-in-WriteFailed-clause-answered : goal.returns-in-WriteFailed-clause-answered
returns-in-WriteFailed-clause-answered g c = λ stripes was now fed before standing paused.
    let so_far = rw c.in-WriteFailed.is at paused in (
      [],
      Appends-none _ _ (Keeps-same _),
      served_cut _ so_far.2 so_far.3 (so_far.4 ∙ ap (λ (t : List ℕ). t ++ so_far.2) (sym (append-nil before))),
    )

pub returns-in-WriteFailed-clause-told : goal.returns-in-WriteFailed-clause-told
returns-in-WriteFailed-clause-told g c = search rules
