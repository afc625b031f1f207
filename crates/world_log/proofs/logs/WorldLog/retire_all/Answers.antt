use Rattle.std.proofs.Common.{◌∙◌, ◌<◌, [], refl, sym, subst, length}
use Rattle.world_model.specs.States.{start}
use Rattle.world_log.proofs.FreeSteps.{freed_more, freed_none, freed_same, full_both, not_done, retire_none, retire_one, retire_step, same_full, same_waits}
use Rattle.world_log.proofs.logs.WorldLog.retire_all.Goals as goal

pub all-init : goal.all-init
all-init c = record {
  freed = λ stays. freed_none stays c.args.i c.args.self.now c.requires.log;
  within = c.requires.within;
  same = refl;
  full = λ rest full. full;
}

pub all-preserved : goal.all-preserved
all-preserved c =
    let old = c.all.self in
    let new = c.retire.new.self in
    let is = (c.all.invariant.freed []).log in
    let done = c.in_ok-done.ensures in
    let one = retire_one c.args.i old new is c.all.invariant.within (sym (done.told (start 0 0 0 0)) ∙ c.if-not-done.false) (done.took (start 0 0 0 0)) in
    record {
      freed = λ stays.
          freed_more stays c.args.i c.args.self.now old new (c.all.invariant.freed stays)
          (λ rest same. retire_step rest c.args.i old new (sym (done.told rest) ∙ c.if-not-done.false) (done.took rest)) done.log done.given done.held;
      within = subst (λ v. c.args.i < length v.items) (sym done.held.holders) c.all.invariant.within;
      same = one.same ∙ c.all.invariant.same;
      full = full_both c.args.i c.args.self.now old new c.all.invariant.full one.full;
    }

pub all-smaller : goal.all-smaller
all-smaller c =
    let done = c.in_ok-done.ensures in
    (retire_one c.args.i c.all.self c.retire.new.self (c.all.invariant.freed []).log c.all.invariant.within
    (sym (done.told (start 0 0 0 0)) ∙ c.if-not-done.false) (done.took (start 0 0 0 0))).fewer

pub retire-requires : goal.retire-requires
retire-requires c = record { log = (c.all.invariant.freed []).log }

pub returns-then-not-done-clause-freed : goal.returns-then-not-done-clause-freed
returns-then-not-done-clause-freed c stays =
    let done = c.in_ok-done.ensures in
    freed_same stays c.args.i c.args.self.now c.all.self c.retire.new.self (c.all.invariant.freed stays)
    (λ rest same. not_done _ _ _ (sym (done.told rest) ∙ c.if-not-done.true) (done.took rest)) done.log done.given done.held

pub returns-then-not-done-clause-none : goal.returns-then-not-done-clause-none
returns-then-not-done-clause-none c =
    let done = c.in_ok-done.ensures in
    retire_none c.args.i c.all.self c.retire.new.self c.all.invariant.within (sym (done.told (start 0 0 0 0)) ∙ c.if-not-done.true) (done.took (start 0 0 0 0))

pub returns-then-not-done-clause-same : goal.returns-then-not-done-clause-same
returns-then-not-done-clause-same c =
    let done = c.in_ok-done.ensures in
    same_waits (start 0 0 0 0) c.all.self c.retire.new.self
    (not_done _ _ _ (sym (done.told (start 0 0 0 0)) ∙ c.if-not-done.true) (done.took (start 0 0 0 0))) ∙ c.all.invariant.same

pub returns-then-not-done-clause-full : goal.returns-then-not-done-clause-full
returns-then-not-done-clause-full c =
    let done = c.in_ok-done.ensures in
    full_both c.args.i c.args.self.now c.all.self c.retire.new.self c.all.invariant.full
    (same_full (start 0 0 0 0) c.args.i c.all.self c.retire.new.self
    (not_done _ _ _ (sym (done.told (start 0 0 0 0)) ∙ c.if-not-done.true) (done.took (start 0 0 0 0))))
