use Rattle.std.proofs.Common.{◌∙◌, ◌<◌, ap, refl, sym, subst, length}
use Rattle.world_model.specs.Logs.{LogState}
use Rattle.world_log.proofs.FreeSteps.{drain_none, drain_one, drain_step, freed_more, freed_none, freed_same, full_both, logs_same, not_done, resting, rests_so, same_full, same_waits}
use Rattle.world_log.proofs.logs.WorldLog.drain_all.Goals as goal

pub all-init : goal.all-init
all-init c = record {
  freed = freed_none c.args.stays.now c.args.i c.args.self.now c.requires.log;
  within = c.requires.within;
  same = refl;
  full = λ rest full. full;
  unlinked = refl;
}

pub all-preserved : goal.all-preserved
all-preserved c =
    let now = resting c.args.stays.now in
    let so = rests_so c.args.stays.now in
    let done = c.in_ok-done.ensures in
    let old = c.all.self in
    let new = c.drain.new.self in
    let one = drain_one now c.args.i old new c.all.invariant.freed.log c.all.invariant.within (sym (done.told now so) ∙ c.if-not-done.false) (done.took now so) in
    record {
      freed = freed_more c.args.stays.now c.args.i c.args.self.now old new c.all.invariant.freed
          (λ rest same. drain_step rest c.args.i old new (sym (done.told rest same) ∙ c.if-not-done.false) (done.took rest same)) done.log done.given done.held;
      within = subst (λ v. c.args.i < length v.items) (sym done.held.holders) c.all.invariant.within;
      same = one.same ∙ c.all.invariant.same;
      full = full_both c.args.i c.args.self.now old new c.all.invariant.full one.full;
      unlinked = one.unlinked ∙ c.all.invariant.unlinked;
    }

pub all-smaller : goal.all-smaller
all-smaller c =
    let now = resting c.args.stays.now in
    let so = rests_so c.args.stays.now in
    let done = c.in_ok-done.ensures in
    (drain_one now c.args.i c.all.self c.drain.new.self c.all.invariant.freed.log c.all.invariant.within
    (sym (done.told now so) ∙ c.if-not-done.false) (done.took now so)).fewer

pub returns-then-not-done-clause-freed : goal.returns-then-not-done-clause-freed
returns-then-not-done-clause-freed c =
    let done = c.in_ok-done.ensures in
    freed_same c.args.stays.now c.args.i c.args.self.now c.all.self c.drain.new.self c.all.invariant.freed
    (λ rest same. not_done _ _ _ (sym (done.told rest same) ∙ c.if-not-done.true) (done.took rest same)) done.log done.given done.held

pub returns-then-not-done-clause-none : goal.returns-then-not-done-clause-none
returns-then-not-done-clause-none c = λ rest same.
    let done = c.in_ok-done.ensures in
    drain_none rest c.args.i c.all.self c.drain.new.self c.all.invariant.within (sym (done.told rest same) ∙ c.if-not-done.true) (done.took rest same)

pub returns-then-not-done-clause-unlinked : goal.returns-then-not-done-clause-unlinked
returns-then-not-done-clause-unlinked c =
    let now = resting c.args.stays.now in
    let so = rests_so c.args.stays.now in
    let done = c.in_ok-done.ensures in
    let same = not_done _ _ _ (sym (done.told now so) ∙ c.if-not-done.true) (done.took now so) in
    ap (λ (l : LogState). l.unlinked) (logs_same now c.args.i c.all.self c.drain.new.self same) ∙ c.all.invariant.unlinked

pub returns-then-not-done-clause-same : goal.returns-then-not-done-clause-same
returns-then-not-done-clause-same c =
    let now = resting c.args.stays.now in
    let so = rests_so c.args.stays.now in
    let done = c.in_ok-done.ensures in
    let same = not_done _ _ _ (sym (done.told now so) ∙ c.if-not-done.true) (done.took now so) in
    same_waits now c.all.self c.drain.new.self same ∙ c.all.invariant.same

pub returns-then-not-done-clause-full : goal.returns-then-not-done-clause-full
returns-then-not-done-clause-full c =
    let now = resting c.args.stays.now in
    let so = rests_so c.args.stays.now in
    let done = c.in_ok-done.ensures in
    let same = not_done _ _ _ (sym (done.told now so) ∙ c.if-not-done.true) (done.took now so) in
    full_both c.args.i c.args.self.now c.all.self c.drain.new.self c.all.invariant.full (same_full now c.args.i c.all.self c.drain.new.self same)
