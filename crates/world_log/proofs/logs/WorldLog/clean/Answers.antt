use Rattle.std.proofs.Common.{◌<◌, length, sym, subst}
use Rattle.world_log.specs.Freeing.{HasCleaned, HasMetFull}
use Rattle.world_log.proofs.FreeSteps.{cleans_again, cleans_not, held_both, is_false, resting, rests_so, stays_cold, stepped_freed, stepped_none}
use Rattle.world_log.proofs.logs.WorldLog.clean.Goals as goal

pub clean_once-requires-clause-none : goal.clean_once-requires-clause-none
clean_once-requires-clause-none c = c.requires.none c.args.self.now (stepped_none c.args.stays.now c.args.self.now c.requires.log)

pub clean_once-requires-then-released-clause-cold : goal.clean_once-requires-then-released-clause-cold
clean_once-requires-then-released-clause-cold c =
    let now = resting c.args.stays.now in
    let i = c.args.i in
    let old = c.args.self.now in
    let mid = c.clean_once.new.self in
    let met : HasMetFull i old mid = subst (λ t. HasCleaned t i old mid) c.if-cleaned.false c.in_ok-cleaned.ensures.does in
    let freed = c.in_ok-released.ensures.freed in
    stays_cold now freed.count i mid c.free_places.new.self c.in_ok-cleaned.ensures.log
    (subst (λ v. i < length v.items) (sym c.in_ok-cleaned.ensures.held.holders) c.requires.within) (freed.steps now (rests_so c.args.stays.now))
    (stays_cold now met.count i old mid c.requires.log c.requires.within (met.steps now) c.requires.cold)

pub clean_once-requires-then-released-clause-none : goal.clean_once-requires-then-released-clause-none
clean_once-requires-then-released-clause-none c =
    let met : HasMetFull c.args.i c.args.self.now c.clean_once.new.self =
    subst (λ t. HasCleaned t c.args.i c.args.self.now c.clean_once.new.self) c.if-cleaned.false c.in_ok-cleaned.ensures.does in
    c.requires.none c.free_places.new.self
    (stepped_freed c.args.stays.now c.args.i c.args.self.now c.clean_once.new.self c.free_places.new.self met c.in_ok-released.ensures.freed)

pub returns-in_ok-_cleaned-clause-does : goal.returns-in_ok-_cleaned-clause-does
returns-in_ok-_cleaned-clause-does c =
    let met : HasMetFull c.args.i c.args.self.now c.clean_once.new.self =
    subst (λ t. HasCleaned t c.args.i c.args.self.now c.clean_once.new.self) c.if-cleaned.false c.in_ok-cleaned.ensures.does in
    cleans_again c.args.stays.now c.args.i c.args.self.now c.clean_once.new.self c.free_places.new.self c.clean_once-then-released.new.self c.in_ok-_cleaned._cleaned met
    c.in_ok-released.ensures.freed c.in_ok-released.ensures.spent c.in_ok-_cleaned.ensures.does

pub returns-in_ok-_cleaned-clause-held : goal.returns-in_ok-_cleaned-clause-held
returns-in_ok-_cleaned-clause-held c =
    held_both c.args.self.now.stripes c.free_places.new.self.stripes c.clean_once-then-released.new.self.stripes
    (held_both c.args.self.now.stripes c.clean_once.new.self.stripes c.free_places.new.self.stripes c.in_ok-cleaned.ensures.held c.in_ok-released.ensures.freed.held)
    c.in_ok-_cleaned.ensures.held

pub returns-else-released-clause-does : goal.returns-else-released-clause-does
returns-else-released-clause-does c =
    let met : HasMetFull c.args.i c.args.self.now c.clean_once.new.self =
    subst (λ t. HasCleaned t c.args.i c.args.self.now c.clean_once.new.self) c.if-cleaned.false c.in_ok-cleaned.ensures.does in
    cleans_not c.args.stays.now c.args.i c.args.self.now c.clean_once.new.self c.free_places.new.self met
    c.in_ok-released.ensures.freed c.in_ok-released.ensures.spent (is_false c.in_ok-released.released c.if-released.false c.in_ok-released.ensures.full)

pub returns-else-released-clause-held : goal.returns-else-released-clause-held
returns-else-released-clause-held c =
    held_both c.args.self.now.stripes c.clean_once.new.self.stripes c.free_places.new.self.stripes c.in_ok-cleaned.ensures.held c.in_ok-released.ensures.freed.held
