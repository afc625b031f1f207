use Rattle.std.proofs.Common.{◌∙◌, ◌<◌, List, [], length, ap, sym, subst}
use Rattle.world_model.specs.Enabled.{may_drain}
use Rattle.world_model.specs.Logs.{Stamped}
use Rattle.world_model.specs.States.{log_at}
use Rattle.world_log.specs.Stripes.{states_of}
use Rattle.world_log.proofs.FreeSteps.{freed_both, full_both, on_false, spent_is, stamps_at}
use Rattle.world_log.proofs.Rising.{held_all}
use Rattle.world_log.proofs.logs.WorldLog.free_places.Goals as goal

pub drain_all-requires-clause-log : goal.drain_all-requires-clause-log
drain_all-requires-clause-log c = (c.in_ok-retire_all.ensures.freed []).log

pub drain_all-requires-clause-within : goal.drain_all-requires-clause-within
drain_all-requires-clause-within c =
    subst (λ v. c.args.i < length v.items) (sym (c.in_ok-retire_all.ensures.freed []).held.holders) c.requires.within

pub release_all-requires-clause-within : goal.release_all-requires-clause-within
release_all-requires-clause-within c =
    subst (λ v. c.args.i < length v.items)
    (sym (c.in_ok-drain_all.ensures.freed.held.holders ∙ (c.in_ok-retire_all.ensures.freed []).held.holders)) c.requires.within

pub returns-clause-freed : goal.returns-clause-freed
returns-clause-freed c =
    let stays = c.args.stays.now in
    freed_both stays c.args.i c.args.self.now c.drain_all.new.self c.release_all.new.self
    (freed_both stays c.args.i c.args.self.now c.retire_all.new.self c.drain_all.new.self (c.in_ok-retire_all.ensures.freed stays) c.in_ok-drain_all.ensures.freed)
    (c.in_ok-released.ensures.freed stays)

pub returns-clause-spent : goal.returns-clause-spent
returns-clause-spent c rest stays =
    let new = c.release_all.new.self in
    let retired : List Stamped = (log_at (states_of new.stripes) c.args.i).retired in
    spent_is rest.clients (log_at (states_of new.stripes) c.args.i) c.in_ok-released.ensures.none
    (c.in_ok-released.ensures.unlinked ∙ c.in_ok-drain_all.ensures.unlinked ∙ c.in_ok-retire_all.ensures.none)
    (held_all rest.clients new.epoch retired (stamps_at new c.args.i (c.in_ok-released.ensures.freed c.args.stays.now).log)
    (ap (may_drain rest.clients) c.in_ok-released.ensures.retired ∙ c.in_ok-drain_all.ensures.none rest stays))

pub returns-clause-full : goal.returns-clause-full
returns-clause-full c =
    on_false c.in_ok-released.released
    (λ full. full_both c.args.i c.args.self.now c.drain_all.new.self c.release_all.new.self
    (full_both c.args.i c.args.self.now c.retire_all.new.self c.drain_all.new.self c.in_ok-retire_all.ensures.full c.in_ok-drain_all.ensures.full) full)
    c.in_ok-released.ensures.full
