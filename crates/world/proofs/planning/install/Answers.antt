use Rattle.world_log.specs.Types.{Stripes}
use Rattle.std.proofs.Common.{length, ap, refl, subst, ℕ}
use Rattle.transact.specs.Plans.{keys_ended}
use Rattle.world_log.specs.Stripes.{acts_for, lent}
use Rattle.world.proofs.Installing.{ended_there, keeps_with}
use Rattle.world.proofs.Putting.{Put, lent_all, put_is, there_of}
use Rattle.world.proofs.planning.install.Goals as goal

pub install-requires-clause-there : goal.install-requires-clause-there
install-requires-clause-there c =
    let stripes = c.args.log.now.stripes in
    there_of stripes c.act_for.new.self (length c.act_for.new.self.holders.items) c.args.client (keys_ended c.args.call.now) c.act_for.ensures refl
    (ended_there (length stripes.holders.items) (lent (acts_for stripes c.args.client)) c.args.call.now (lent_all stripes c.args.client c.args.call.now c.requires.log.even c.requires.all))

pub returns-clause-put : goal.returns-clause-put
returns-clause-put c =
    put_is c.args.log.now c.act_for.new.self (length c.act_for.new.self.holders.items) c.args.client c.args.call.now c.args.planned c.install.new.parts c.act_for.ensures refl
    c.requires.log.even c.requires.looks c.requires.all c.requires.room
    (subst (λ (k : ℕ). Put (length c.act_for.new.self.holders.items) c.act_for.new.self k c.args.call.now c.args.planned.writes c.install.new.parts) (ap (λ (s : Stripes). s.acting) c.act_for.ensures)
    (record { became = c.install.ensures.became; grown = c.install.ensures.grown; keeps = keeps_with _ _ c.install.ensures.held.kept c.install.ensures.waits }))
