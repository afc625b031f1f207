use Rattle.std.proofs.Common.{◌∙◌, ap}
use Rattle.std.specs.List.{list_any}
use Rattle.upkeep.specs.declared.laps.Laps.{Laps}
use Rattle.upkeep.proofs.Turns.{told-clean}
use Rattle.upkeep.proofs.rounds.tell.Goals as goal

pub returns-in-Clean : goal.returns-in-Clean
returns-in-Clean g c =
    told-clean _ _ _ _ _ c.in-Clean.is (c.is_behind_anywhere.ensures ∙ ap (list_any (λ (l : Laps). l.behind)) c.deref.ensures.value)
    c.tell_behind.ensures
