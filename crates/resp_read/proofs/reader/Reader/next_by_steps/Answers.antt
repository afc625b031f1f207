use Rattle.resp_read.specs.Pieces.{joined}
use Rattle.resp_read.proofs.ReaderLemmas.{goes_nowhere, goes_after, gives_after, due_where_refused, waits_after, fails_after}
use Rattle.resp_read.proofs.reader.Reader.next_by_steps.Goals as goal

pub loop-given-init : goal.loop-given-init
loop-given-init c = goes_nowhere c.args.self.now

pub loop-given-preserved : goal.loop-given-preserved
loop-given-preserved c = goes_after c.args.self.now c.loop-given.self c.step.new.self c.loop-given.invariant c.in-Goes.ensures.0

pub returns-in-Gives-clause-takes : goal.returns-in-Gives-clause-takes
returns-in-Gives-clause-takes c = gives_after c.args.self.now c.loop-given.self c.step.new.self c.in-Gives.given c.loop-given.invariant c.in-Gives.ensures

pub note-requires : goal.note-requires
note-requires c =
    due_where_refused c.in-Waits.refused c.step.new.self.count c.step.new.self.words (joined c.step.new.self.pieces) c.in-Waits.ensures.2

pub returns-in-Waits-clause-takes : goal.returns-in-Waits-clause-takes
returns-in-Waits-clause-takes c =
    waits_after c.args.self.now c.loop-given.self c.step.new.self c.note.new.self c.in-Waits.refused c.args.words.now c.loop-given.invariant c.in-Waits.ensures c.note.ensures.noted

pub returns-in-Fails-clause-takes : goal.returns-in-Fails-clause-takes
returns-in-Fails-clause-takes c =
    fails_after c.args.self.now c.loop-given.self c.step.new.self c.note-in-Fails.new.self c.in-Fails.fault c.args.words.now c.loop-given.invariant c.in-Fails.ensures c.note-in-Fails.ensures.noted
