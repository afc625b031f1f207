use Rattle.std.proofs.Common.{◌≡◌, ◌&&◌, nat_eq, Some, is_none, IsSome, IfOk, ap, sym, refl, subst, if◌then◌else◌}
use Rattle.std.specs.BTreeMap.{Updates}
use Rattle.std.specs.Cmp.Lexicographic.{slice_cmp}
use Rattle.std.specs.Ordering.{nat_cmp}
use Rattle.std.proofs.lemmas.Result.{on_ok_weaker, on_err_weaker}
use Rattle.words.specs.Watches.{begun}
use Rattle.watch.specs.Marked.{marks_of, mark_there}
use Rattle.watch.proofs.Changes.{lent, first_added, as_it_was, none_of_key, not_some}
use Rattle.watch.proofs.Marks.add.Goals as goal

pub returns-in-Some-clause-ok : goal.returns-in-Some-clause-ok
unfolding marks_of
returns-in-Some-clause-ok c =
    on_ok_weaker c.add.result
    (lent (λ b s mark. if b && nat_eq c.args.seat s then begun mark else mark) (λ s mark. refl) c.args.self.now.keys (c.get_mut.follows.lender c.add.new.self)
    c.args.key.now c.in-Some.seats.now c.add.new.self c.in-Some.ensures.value (c.get_mut.follows.holds c.add.new.self))
    c.add.ensures.ok

pub returns-in-Some-clause-added : goal.returns-in-Some-clause-added
unfolding marks_of
returns-in-Some-clause-added c =
    subst (λ mark. IfOk c.add.result (λ added. added ≡ is_none mark)) (ap (λ place. mark_there place c.args.seat) c.in-Some.ensures.value) c.add.ensures.added

pub returns-in-Some-clause-err : goal.returns-in-Some-clause-err
unfolding marks_of
returns-in-Some-clause-err c =
    on_err_weaker c.add.result
    (lent (λ b s mark. mark) (λ s mark. refl) c.args.self.now.keys (c.get_mut.follows.lender c.add.new.self)
    c.args.key.now c.in-Some.seats.now c.add.new.self c.in-Some.ensures.value (c.get_mut.follows.holds c.add.new.self))
    c.add.ensures.err

pub returns-in-Some-clause-memory : goal.returns-in-Some-clause-memory
unfolding marks_of
returns-in-Some-clause-memory c = λ some. c.add.ensures.memory (subst IsSome (sym (ap (λ place. mark_there place c.args.seat) c.in-Some.ensures.value)) some)

pub returns-in_err-key-clause-memory : goal.returns-in_err-key-clause-memory
unfolding marks_of
returns-in_err-key-clause-memory c = λ some. absurd (not_some _ (none_of_key c.args.self.now.keys c.args.key.now c.args.seat c.in_default.ensures.value) some)

pub returns-in-Ok-clause-ok : goal.returns-in-Ok-clause-ok
unfolding marks_of
returns-in-Ok-clause-ok c =
    first_added c.args.seat c.args.self.now.keys c.get_mut.follows.lender-at-none c.insert.new.self c.args.key.now c.one.result
    c.in_default.ensures.value c.get_mut.follows.holds-at-none c.one.ensures
    (subst (λ key. Updates (slice_cmp nat_cmp) c.get_mut.follows.lender-at-none c.insert.new.self key (Some c.one.result)) c.in_ok-key.ensures.cases c.in-Ok.ensures.updates)

pub returns-in-Ok-clause-added : goal.returns-in-Ok-clause-added
unfolding marks_of
returns-in-Ok-clause-added c = ap is_none (none_of_key c.args.self.now.keys c.args.key.now c.args.seat c.in_default.ensures.value)

pub returns-clause-err : goal.returns-clause-err
unfolding marks_of
returns-clause-err c = as_it_was c.args.self.now.keys c.get_mut.follows.lender-at-none c.insert.new.self c.get_mut.follows.holds-at-none c.in-Err.ensures.err

pub returns-clause-memory : goal.returns-clause-memory
unfolding marks_of
returns-clause-memory c = λ some. absurd (not_some _ (none_of_key c.args.self.now.keys c.args.key.now c.args.seat c.in_default.ensures.value) some)
