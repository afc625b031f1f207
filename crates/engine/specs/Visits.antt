-- The visits of calls that read outside their stripes.
use Rattle.std.specs.Prelude.{◌≡◌, ◌≤◌, []}
use Rattle.epoch.specs.Seats.{IsInside, known, seat_in}
use Rattle.epoch.specs.declared.view.View.{View}
use Rattle.epoch.specs.declared.epochs.Epochs.{Epochs}
use Rattle.hybrid.specs.Staging.{AreRight}
use Rattle.engine.specs.declared.visit.TheConstants.{ROUNDS}
use Rattle.engine.specs.declared.visit.Visit.{Visit}

module _ {R : Type 0} where
  -- A visit: its stay is one of these epochs, and goes on; over a steady device its pages are right; and it is not over its last round.
  pub record IsVisit (steady : Type 0) (epochs : Epochs) (visit : Visit R) : Type 0 where
    pub stay : IsInside epochs visit.hands.own
    pub right : steady → AreRight visit.hands.staged
    pub few : visit.rounds ≤ ROUNDS

  -- what the seat of a visit knows
  abbrev pub view_of : Visit R → View
  view_of visit = known (seat_in visit.hands.own)

  -- One that has just begun.
  pub record IsNewVisit (epochs : Epochs) (visit : Visit R) : Type 0 where
    pub stay : IsInside epochs visit.hands.own
    pub none : visit.hands.staged ≡ []
    pub first : visit.rounds ≡ 0
