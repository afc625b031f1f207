use Rattle.std.proofs.Common.{◌∙◌, IfSome, ap, sym, subst}
use Rattle.epoch.specs.declared.words.EpochWords.{EpochWords}
use Rattle.epoch.specs.declared.view.View.{View}
use Rattle.epoch.specs.Words.{id_in}
use Rattle.epoch.specs.Seats.{StaysClearIn}
use Rattle.epoch.proofs.epochs.Epochs.drain.Goals as goal

pub drain-requires : goal.drain-requires
drain-requires c = c.requires.table ∙ sym (ap id_in c.deref.ensures)

pub returns-clause-seat : goal.returns-clause-seat
returns-clause-seat c =
    let h = c.requires in
    let only = c.drain.ensures.only in
    record {
      table = c.drain.ensures.table ∙ h.table;
      handles = h.handles;
      below = h.below;
      first = ap (λ (v : View). v.first) only ∙ h.first;
      single = ap (λ (v : View). v.count) only ∙ h.single;
      armed = h.armed ∙ sym (ap (λ (v : View). v.armed) only);
      last = h.last;
    }

pub returns-clause-stay : goal.returns-clause-stay
returns-clause-stay c =
    let only = c.drain.ensures.only in
    record { own = ap (λ (v : View). v.own) only; valid = ap (λ (v : View). v.valid) only }

pub returns-clause-clear : goal.returns-clause-clear
returns-clause-clear c =
    subst (λ (w : EpochWords). IfSome c.drain.result (λ drained. StaysClearIn w drained)) c.deref.ensures c.drain.ensures.clear
