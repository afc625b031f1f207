use Rattle.std.proofs.Common.{◌≡◌, ℕ, refl}
use Rattle.gates.specs.declared.held.Held.{Held}
use Rattle.gates.specs.Helds.{held_stripes, known_to, number_of}
use Rattle.transact.specs.Submits.{asked_for}
use Rattle.shards.specs.declared.shard.Shard.{Shard}
use Rattle.words.specs.Session.{operation_of}
use Rattle.engine.specs.Entering.{own_answer}
use Rattle.engine.proofs.Entering.{asks, begin_still, cold_behind, entered_behind, placed_still, seat_is, stands}
use Rattle.engine.proofs.Ones.{err_then, ok_then}
use Rattle.engine.proofs.Stopped.{is_placed}
use Rattle.engine.proofs.Values.{all_short}
use Rattle.engine.proofs.enter.enter.Goals as goal

pub place-requires : goal.place-requires
place-requires g c = record {
  may = record {
    may = record { can_lend = c.requires.begin.may.is_open; there = c.requires.begin.may.there };
    entry = c.requires.planned.entry;
    place = is_placed c.args.call.now (known_to c.args.held.now).watched c.requires.begin.place;
  };
}

pub enter_placed-requires-clause-begin : goal.enter_placed-requires-clause-begin
enter_placed-requires-clause-begin g c =
    begin_still g.R.Shows.is_steady c.args.call.now c.args.held.now c.place.new.parts c.requires.begin c.place.ensures.held.open_still c.place.ensures.held.kept c.place.ensures.same

pub enter_placed-requires-clause-placed : goal.enter_placed-requires-clause-placed
enter_placed-requires-clause-placed g c =
    let s : Type 0 = g.R.Shows.is_steady in
    let start : Held (Shard _) = c.args.held.now in
    let n : ℕ = held_stripes start in
    let seat : number_of start ≡ (known_to start).number = seat_is s start c.requires.begin.may.is_open in
    placed_still s start c.place.new.parts c.args.call.now c.in-Some.placed _ c.place.ensures.held.kept c.place.ensures.same
    (λ t said writes due. due (g.met.R.Shows.steady_is_honest t, c.requires.hands.right t) (known_to start).seen (operation_of (known_to start).watched (asked_for c.args.call.now)) (record {
      asked = asked_for c.args.call.now;
      watched = (known_to start).watched;
      short = all_short s n start c.requires.begin.may.fit t (c.values_are_bounded.ensures (known_to start).seen (c.requires.begin.may.is_open.holding.seat.legal t));
      asks = asks c.args.call.now c.requires.planned.entry;
      stand = stands s n (number_of start) start seat c.requires.begin.may.fit t;
      ends = c.requires.begin.ends;
      once = c.requires.begin.may.is_open.holding.seat.each_once;
      is = refl;
    }))
    c.in-Some.ensures.placed

pub enter_anew-requires-clause-begin : goal.enter_anew-requires-clause-begin
enter_anew-requires-clause-begin g c =
    begin_still g.R.Shows.is_steady c.args.call.now c.args.held.now c.place.new.parts c.requires.begin c.place.ensures.held.open_still c.place.ensures.held.kept c.place.ensures.same

pub returns-in-Some-clause-entered : goal.returns-in-Some-clause-entered
returns-in-Some-clause-entered g c =
    entered_behind g.R.Shows.is_steady g.R.Shows.lends c.args.call.now own_answer c.args.held.now c.place.new.parts c.enter_placed.new.held
    (g.D.Device.failures c.args.device.now) (g.D.Device.failures c.args.device.now) c.enter_placed.result c.place.ensures.held.kept (c.enter_placed.ensures.entered (g.D.Device.failures c.args.device.now))

pub returns-in-None-clause-entered : goal.returns-in-None-clause-entered
returns-in-None-clause-entered g c =
    ok_then c.enter_anew.result _ _
    (λ entered. entered_behind g.R.Shows.is_steady g.R.Shows.lends c.args.call.now own_answer c.args.held.now c.place.new.parts c.enter_anew.new.held
    (g.D.Device.failures c.args.device.now) (g.D.Device.failures c.enter_anew.new.device) entered c.place.ensures.held.kept)
    c.enter_anew.ensures.entered

pub returns-in-None-clause-cold : goal.returns-in-None-clause-cold
returns-in-None-clause-cold g c =
    err_then c.enter_anew.result _ _
    (cold_behind g.R.Shows.is_steady g.R.Shows.lends c.args.call.now c.args.held.now c.place.new.parts c.enter_anew.new.held
    (g.D.Device.failures c.args.device.now) (g.D.Device.failures c.enter_anew.new.device) c.place.ensures.held.kept)
    c.enter_anew.ensures.cold
