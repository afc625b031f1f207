use Rattle.std.proofs.Common.{◌++◌, ◌∙◌, ℕ, List, ap, sym, append_assoc, arith, None}
use Rattle.streams.specs.Laws.{Appends-then, Consumes-then}
use Rattle.connection.specs.Rooms.{Reading}
use Rattle.connection.specs.Served.{paused_told}
use Rattle.connection.proofs.Conversing.{conversing_fed, conversing_none, conversing_says, conversing_grouped, paused_says, leaves_at, attends_taken}
use Rattle.connection.proofs.answering.answer_waiting.Goals as goal

pub returns-in_default : goal.returns-in_default
returns-in_default g c = record {
  paused = λ was fed before talk.
      let so_far = c.loop-paused.invariant.talk was fed before talk in
      let step = c.answer_all.ensures.paused was (fed ++ so_far.0) (before ++ so_far.1) so_far.4 in (
        so_far.0,
        so_far.1 ++ step.0,
        so_far.2,
        Appends-then _ _ _ so_far.1 step.0 so_far.3 step.1,
        paused_says _ _ _ _ c.answer_all.result _ _ step.2 (append_assoc before so_far.1 step.0),
      );
  stands = c.answer_all.ensures.stands;
  told = c.answer_all.ensures.told ∙ ap (paused_told c.answer_all.result) c.loop-paused.invariant.told;
  reader_told = c.loop-paused.invariant.reader_told;
  reads = c.loop-paused.invariant.reads;
  few = omega (arith, c.loop-paused.invariant.few, c.requires.few);
  room = leaves_at c.answer_all.result _ (rw c.answer_all.ensures.room c.loop-paused.invariant.room);
  rests = c.answer_all.ensures.rests;
  attends = c.answer_all.ensures.attends;
}

pub loop-paused-preserved : goal.loop-paused-preserved
loop-paused-preserved g c =
    let taken = c.in-Fed.ensures.taken in
    record {
      talk = λ was fed before talk.
          let so_far = c.loop-paused.invariant.talk was fed before talk in
          let step = c.in-Input.ensures.paused was (fed ++ so_far.0) (before ++ so_far.1) so_far.4 in (
            so_far.0 ++ taken.0,
            so_far.1 ++ step.0,
            Consumes-then _ _ _ so_far.0 taken.0 so_far.2 taken.2,
            Appends-then _ _ _ so_far.1 step.0 so_far.3 step.1,
            conversing_grouped _ _ _ fed so_far.0 taken.0 before so_far.1 step.0 _ (conversing_fed _ _ _ _ taken.0 _ _ step.2.2 taken.3.1),
          );
      told = c.in-Input.ensures.told ∙ c.loop-paused.invariant.told;
      reader_told = c.in-Fed.ensures.told ∙ c.loop-paused.invariant.reader_told;
      reads = omega (arith, c.in-Fed.ensures.reads, c.loop-paused.invariant.reads);
      few = omega (arith, c.in-Fed.ensures.reads, c.in-Fed.ensures.more, c.loop-paused.invariant.few, ap (λ (room : Reading). room.more) c.answer_all.ensures.room);
      room = c.in-Fed.ensures.empty;
      rests = c.answer_all.ensures.rests;
      attends = attends_taken _ None taken.0 _ _ c.answer_all.ensures.attends taken.3.1;
    }

pub returns-in-Nothing-clause-paused : goal.returns-in-Nothing-clause-paused
returns-in-Nothing-clause-paused g c = λ was fed before talk.
    let taken = c.in-Nothing.ensures.taken in
    let so_far = c.loop-paused.invariant.talk was fed before talk in
    let step = c.in-Input.ensures.paused was (fed ++ so_far.0) (before ++ so_far.1) so_far.4 in (
      so_far.0 ++ taken.0,
      so_far.1 ++ step.0,
      Consumes-then _ _ _ so_far.0 taken.0 so_far.2 taken.2,
      Appends-then _ _ _ so_far.1 step.0 so_far.3 step.1,
      (
        rw taken.3.1 step.2.0,
        rw taken.3.1 step.2.1,
        conversing_grouped _ _ _ fed so_far.0 taken.0 before so_far.1 step.0 _ (conversing_none _ _ _ _ taken.0 _ _ step.2.2 taken.3.0 taken.3.1),
      ),
    )

pub returns-in-NoMemory-clause-paused : goal.returns-in-NoMemory-clause-paused
returns-in-NoMemory-clause-paused g c = λ was fed before talk.
    let taken = c.in-NoMemory.ensures.taken in
    let so_far = c.loop-paused.invariant.talk was fed before talk in
    let step = c.in-Input.ensures.paused was (fed ++ so_far.0) (before ++ so_far.1) so_far.4 in (
      so_far.0 ++ taken.0,
      so_far.1 ++ step.0,
      Consumes-then _ _ _ so_far.0 taken.0 so_far.2 taken.2,
      Appends-then _ _ _ so_far.1 step.0 so_far.3 step.1,
      (
        fed ++ so_far.0,
        taken.0,
        sym (append_assoc fed so_far.0 taken.0),
        taken.3.0,
        taken.1,
        rw taken.3.1 step.2.0,
        rw taken.3.1 step.2.1,
        rw taken.3.1 (conversing_says _ _ _ _ step.2.2 (ap (λ (t : List ℕ). t ++ c.answer_all.new.talk.out.items) (append_assoc before so_far.1 step.0))),
      ),
    )
