use Rattle.std.proofs.Common.{◌∙◌, ap, sym}
use Rattle.epoch.specs.declared.view.View.{View}
use Rattle.epoch.specs.Words.{id_in}
use Rattle.epoch.specs.Rule.{newest}
use Rattle.epoch.specs.Seats.{seats_of, words_of}
use Rattle.epoch.proofs.Moments.{over_newest, clear_alike}
use Rattle.epoch.proofs.Scanning.{grown_none}
use Rattle.epoch.proofs.epochs.Retired.drained.Goals as goal

pub drain-requires : goal.drain-requires
drain-requires g c = c.args.self.now.own ∙ sym (ap id_in c.words.ensures)

pub returns-clause-over : goal.returns-clause-over
returns-clause-over g c = λ epochs s ruled at.
    let seat = c.drain.new.seat in
    over_newest (seats_of epochs) s ruled seat.id seat.me.0 at c.args.self.now.epoch
    (ap (λ (v : View). newest v.advanced) c.drain.ensures.only ∙ c.args.self.now.stamped)

pub returns-clause-clear : goal.returns-clause-clear
returns-clause-clear g c = λ epochs same.
    clear_alike c.words.result.now (words_of epochs) c.drain.result
    (ap id_in c.words.ensures ∙ sym c.args.self.now.own ∙ sym same) c.drain.ensures.clear

pub returns-clause-refused : goal.returns-clause-refused
returns-clause-refused g c =
    grown_none c.args.self.now.epoch c.args.self.now.seat.me.0 c.drain.new.seat.me.0 c.drain.result c.drain.ensures.none
