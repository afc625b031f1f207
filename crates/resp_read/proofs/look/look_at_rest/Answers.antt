use Rattle.words.specs.Stream.{Part, Faulty}
use Rattle.resp_read.specs.Pieces.{joined}
use Rattle.resp_read.proofs.ReaderLemmas.{looked_front, looked_at_more}
use Rattle.resp_read.proofs.look.look_at_rest.Goals as goal

pub returns-in-Part : goal.returns-in-Part
returns-in-Part c =
    looked_front (joined c.args.pieces.now) c.args.at c.args.size c.loop.counter c.loop.at c.loop.size c.args.due Part c.loop.invariant c.loop-test.true c.in-Part.ensures.tells

pub returns-in-Faulty : goal.returns-in-Faulty
returns-in-Faulty c =
    looked_front (joined c.args.pieces.now) c.args.at c.args.size c.loop.counter c.loop.at c.loop.size c.args.due (Faulty c.in-Faulty.fault) c.loop.invariant c.loop-test.true c.in-Faulty.ensures.tells

pub loop-preserved : goal.loop-preserved
loop-preserved c =
    looked_at_more (joined c.args.pieces.now) c.args.at c.args.size c.loop.counter c.loop.at c.loop.size c.in-Whole.start c.in-Whole.long c.loop.invariant c.in-Whole.ensures.tells
