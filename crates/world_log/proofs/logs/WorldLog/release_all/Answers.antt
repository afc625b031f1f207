use Rattle.std.proofs.Common.{◌∙◌, ◌<◌, [], ap, refl, sym, subst, length, arith}
use Rattle.world_model.specs.Logs.{LogState}
use Rattle.world_log.specs.Freeing.{waiting_in}
use Rattle.world_model.specs.States.{start}
use Rattle.world_log.proofs.FreeSteps.{freed_more, freed_none, freed_same, full_both, logs_same, not_done, release_none, release_one, release_step, same_full, same_waits, turn_false, turn_true}
use Rattle.world_log.proofs.logs.WorldLog.release_all.Goals as goal

pub all-init : goal.all-init
all-init c = record {
  freed = λ stays. freed_none stays c.args.i c.args.self.now c.requires.log;
  within = c.requires.within;
  most = omega arith;
  fewer = λ is. cc is;
  full = λ is rest full. full;
  unlinked = refl;
  retired = refl;
}

pub release-requires : goal.release-requires
release-requires c = record { log = (c.all.invariant.freed []).log }

pub all-preserved : goal.all-preserved
all-preserved c =
    let now = start 0 0 0 0 in
    let done = c.in_ok-done.ensures in
    let old = c.all.self in
    let new = c.release.new.self in
    let one = release_one c.args.i _ old new (c.all.invariant.freed []).log c.all.invariant.within (sym (done.told now) ∙ c.if-not-done.false) (done.took now) in
    record {
      freed = λ stays.
          freed_more stays c.args.i c.args.self.now old new (c.all.invariant.freed stays)
          (λ rest same. release_step rest c.args.i _ old new (sym (done.told rest) ∙ c.if-not-done.false) (done.took rest)) done.log done.given done.held;
      within = subst (λ v. c.args.i < length v.items) (sym done.held.holders) c.all.invariant.within;
      most = omega (arith, one.less, c.all.invariant.most);
      fewer = λ is. omega (arith, one.less, c.all.invariant.most);
      full = λ is. cc is;
      unlinked = one.unlinked ∙ c.all.invariant.unlinked;
      retired = one.retired ∙ c.all.invariant.retired;
    }

pub all-smaller : goal.all-smaller
all-smaller c =
    let now = start 0 0 0 0 in
    let done = c.in_ok-done.ensures in
    (release_one c.args.i _ c.all.self c.release.new.self (c.all.invariant.freed []).log c.all.invariant.within
    (sym (done.told now) ∙ c.if-not-done.false) (done.took now)).fewer

pub returns-then-not-done-clause-freed : goal.returns-then-not-done-clause-freed
returns-then-not-done-clause-freed c = λ stays.
    let done = c.in_ok-done.ensures in
    freed_same stays c.args.i c.args.self.now c.all.self c.release.new.self (c.all.invariant.freed stays)
    (λ rest same. not_done _ _ _ (sym (done.told rest) ∙ c.if-not-done.true) (done.took rest)) done.log done.given done.held

pub returns-then-not-done-clause-none : goal.returns-then-not-done-clause-none
returns-then-not-done-clause-none c =
    let now = start 0 0 0 0 in
    let done = c.in_ok-done.ensures in
    release_none c.args.i _ c.all.self c.release.new.self c.all.invariant.within (sym (done.told now) ∙ c.if-not-done.true) (done.took now)

pub returns-then-not-done-clause-unlinked : goal.returns-then-not-done-clause-unlinked
returns-then-not-done-clause-unlinked c =
    let now = start 0 0 0 0 in
    let done = c.in_ok-done.ensures in
    let same = not_done _ _ _ (sym (done.told now) ∙ c.if-not-done.true) (done.took now) in
    ap (λ (l : LogState). l.unlinked) (logs_same now c.args.i c.all.self c.release.new.self same) ∙ c.all.invariant.unlinked

pub returns-then-not-done-clause-retired : goal.returns-then-not-done-clause-retired
returns-then-not-done-clause-retired c =
    let now = start 0 0 0 0 in
    let done = c.in_ok-done.ensures in
    let same = not_done _ _ _ (sym (done.told now) ∙ c.if-not-done.true) (done.took now) in
    ap (λ (l : LogState). l.retired) (logs_same now c.args.i c.all.self c.release.new.self same) ∙ c.all.invariant.retired

pub returns-then-not-done-clause-fewer : goal.returns-then-not-done-clause-fewer
returns-then-not-done-clause-fewer c =
    let now = start 0 0 0 0 in
    let done = c.in_ok-done.ensures in
    let same = not_done _ _ _ (sym (done.told now) ∙ c.if-not-done.true) (done.took now) in
    turn_true c.all.released (λ is. subst (λ n. n < waiting_in c.args.self.now.stripes) (sym (same_waits now c.all.self c.release.new.self same)) (c.all.invariant.fewer is))

pub returns-then-not-done-clause-full : goal.returns-then-not-done-clause-full
returns-then-not-done-clause-full c =
    let now = start 0 0 0 0 in
    let done = c.in_ok-done.ensures in
    let same = not_done _ _ _ (sym (done.told now) ∙ c.if-not-done.true) (done.took now) in
    turn_false c.all.released
    (λ is. full_both c.args.i c.args.self.now c.all.self c.release.new.self (c.all.invariant.full is) (same_full now c.args.i c.all.self c.release.new.self same))
