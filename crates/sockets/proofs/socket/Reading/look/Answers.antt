use Rattle.std.proofs.Common.{◌∙◌, refl}
use Rattle.sockets.proofs.Asked.{look-along, looked-none, off-along, off-none, is_none, Keeps-self, Keeps-then}
use Rattle.sockets.proofs.socket.Reading.look.Goals as goal

pub returns-in_default-clause-calls : goal.returns-in_default-clause-calls
returns-in_default-clause-calls g c = looked-none _ _ _

pub loop-looks-init : goal.loop-looks-init
loop-looks-init g c = record {
  cleaner = refl;
  well = c.requires.well;
  bytes = Keeps-self _;
  calls = off-none _ _;
}

pub returns-in-Some-clause-calls : goal.returns-in-Some-clause-calls
returns-in-Some-clause-calls g c =
    look-along _ _ _ _ _ _ _ _ _ c.read_ready.auto.buffer c.requires.well c.loop-looks.invariant.well c.loop-looks.invariant.calls
    c.in-Some.ensures.calls

pub returns-then-is_some-clause-calls : goal.returns-then-is_some-clause-calls
returns-then-is_some-clause-calls g c =
    look-along _ _ _ _ _ _ _ _ _ c.read_ready.auto.buffer c.requires.well c.loop-looks.invariant.well c.loop-looks.invariant.calls
    c.in_default-read_ready.ensures.calls

pub returns-then-not-is_early-clause-calls : goal.returns-then-not-is_early-clause-calls
returns-then-not-is_early-clause-calls g c =
    rw (c.rest.ensures.failed, c.rest.ensures.line)
    (look-along _ _ _ _ _ _ _ _ _ c.read_ready.auto.buffer c.requires.well c.loop-looks.invariant.well c.loop-looks.invariant.calls
    c.in_default-read_ready.ensures.calls)

pub loop-looks-preserved : goal.loop-looks-preserved
loop-looks-preserved g c = record {
  cleaner = c.read_ready.ensures.kept ∙ c.loop-looks.invariant.cleaner;
  well = is_none _ c.if-is_some.ensures;
  bytes = Keeps-then _ _ _ c.loop-looks.invariant.bytes c.in_default-read_ready.ensures.ready;
  calls =
      off-along _ _ _ _ _ _ _ c.read_ready.auto.buffer c.loop-looks.invariant.well (is_none _ c.if-is_some.ensures) c.loop-looks.invariant.calls
      c.in_default-read_ready.ensures.calls;
}
