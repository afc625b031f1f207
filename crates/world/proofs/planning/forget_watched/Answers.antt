use Rattle.world_log.specs.Types.{Stripes}
use Rattle.std.proofs.Common.{ap, length, refl, subst, ℕ}
use Rattle.world.proofs.Putting.{Cleared, cleared_is}
use Rattle.world.proofs.Installing.{keeps_with}
use Rattle.world.proofs.planning.forget_watched.Goals as goal

pub returns : goal.returns
returns c =
    cleared_is c.args.log.now c.act_for.new.self (length c.act_for.new.self.holders.items) c.args.client c.args.watching.now c.forget.new.parts c.act_for.ensures refl
    c.requires.log.even c.requires.there
    (subst (λ (k : ℕ). Cleared (length c.act_for.new.self.holders.items) c.act_for.new.self k c.args.watching.now c.forget.new.parts) (ap (λ (s : Stripes). s.acting) c.act_for.ensures)
    (record { became = c.forget.ensures.became; logs = c.forget.ensures.logs; keeps = keeps_with _ _ c.forget.ensures.held.kept c.forget.ensures.waits }))
