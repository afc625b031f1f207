use Rattle.std.proofs.Common.{◌∙◌, ◌∷◌, [], refl}
use Rattle.epoch.specs.Seats as seats
use Rattle.gates.specs.Passes.{known}
use Rattle.gates.specs.declared.view.Note.TheVariants as note
use Rattle.gates.specs.declared.view.Work.TheVariants.{Flush}
use Rattle.background.proofs.Settling.{full_later, looked_never, looked_twice, shown_again}
use Rattle.background.proofs.Visiting.{visited_twice}
use Rattle.background.proofs.flush.end.Goals as goal

pub loop-init : goal.loop-init
loop-init g c = record {
  resting = c.requires.own;
  outside = c.requires.outside;
  shown = c.requires.shown;
  writes = refl;
  looked = looked_never (c.args.at.now.stripe ∷ []) (g.D.Device.failures c.args.device.now) (known c.args.pass.now) (seats.known c.args.seat.now);
}

pub returns-in-Landed-clause-ended : goal.returns-in-Landed-clause-ended
returns-in-Landed-clause-ended g c =
    visited_twice (c.args.at.now.stripe ∷ []) (note.Done c.args.at.now.stripe Flush ∷ []) (known c.args.pass.now) (known c.loop.pass) (known c.end_once.new.pass) c.loop.invariant.looked.visited c.in-Landed.ensures.told

pub returns-in-Full-clause-ended : goal.returns-in-Full-clause-ended
returns-in-Full-clause-ended g c =
    full_later (c.args.at.now.stripe ∷ []) c.args.at.now.stripe (known c.args.pass.now) (known c.loop.pass) (known c.end_once.new.pass) (seats.known c.args.seat.now) (seats.known c.loop.seat) (seats.known c.end_once.new.seat)
    c.loop.invariant.looked.visited c.loop.invariant.looked.heard_more (record { refused = c.in-Full._refused; visited = c.in-Full.ensures.told; worn = c.in-Full.ensures.ended })

pub loop-preserved : goal.loop-preserved
loop-preserved g c = record {
  resting = c.end_once.ensures.own;
  outside = c.end_once.ensures.seat.outside;
  shown = shown_again c.in-Again.again c.loop.written g.R.Shows.shown c.in-Again.ensures.ended c.loop.invariant.shown;
  writes = c.end_once.ensures.rested.no_write ∙ c.loop.invariant.writes;
  looked = looked_twice (c.args.at.now.stripe ∷ []) (g.D.Device.failures c.args.device.now) (g.D.Device.failures c.loop.device) (g.D.Device.failures c.end_once.new.device)
      (known c.args.pass.now) (known c.loop.pass) (known c.end_once.new.pass) (seats.known c.args.seat.now) (seats.known c.loop.seat) (seats.known c.end_once.new.seat)
      c.loop.invariant.looked (record { failures = c.end_once.ensures.rested.no_fault; visited = c.in-Again.ensures.told; heard_more = c.end_once.ensures.seat.heard });
}

pub returns-in-Landed-clause-rested : goal.returns-in-Landed-clause-rested
returns-in-Landed-clause-rested g c = record {
  no_fault = c.end_once.ensures.rested.no_fault ∙ c.loop.invariant.looked.failures;
  no_write = c.end_once.ensures.rested.no_write ∙ c.loop.invariant.writes;
}

pub returns-in-Full-clause-rested : goal.returns-in-Full-clause-rested
returns-in-Full-clause-rested g c = record {
  no_fault = c.end_once.ensures.rested.no_fault ∙ c.loop.invariant.looked.failures;
  no_write = c.end_once.ensures.rested.no_write ∙ c.loop.invariant.writes;
}
