use Rattle.std.proofs.Common.{◌≡◌, true, false, refl, ◌∙◌, arith, rules}
use Rattle.upkeep.proofs.Visited.{done-next, made-all, made-some, none-done}
use Rattle.upkeep.proofs.steps.some_steps.Goals as goal

pub loop-count-init : goal.loop-count-init
loop-count-init g c = record {
  ready = c.requires.ready;
  count = refl;
  more = omega arith;
  looked = λ some. let none : ⊥ = omega (arith, some) in absurd none;
  others = λ k. omega arith;
  done = omega arith;
  made = none-done c.args.duty c.args.stripe c.args.places (g.S.Stripes.events c.args.stripes.now) c.args.laps.now;
}

pub returns-then-not-one_step-clause-made : goal.returns-then-not-one_step-clause-made
returns-then-not-one_step-clause-made g c =
    let undone : c.one_step.result ≡ false = search rules in
    made-some
    c.loop-count.count _ _ _ _ _ _ _ _ _ c.one_step.result c.loop-count-test.true undone c.loop-count.invariant.made c.one_step.ensures.made

pub loop-count-preserved : goal.loop-count-preserved
loop-count-preserved g c =
    let before = c.loop-count.invariant in
    let made = c.one_step.ensures in
    let was_done : c.one_step.result ≡ true = search rules in
    record {
      ready = made.ready;
      count = made.count ∙ before.count;
      more = omega (arith, made.more, before.more);
      looked = λ some. omega (arith, made.looked, before.others c.args.stripe, before.more);
      others = λ k. omega (arith, before.others k, made.others k);
      done = omega (arith, before.done, made.done was_done);
      made = done-next c.loop-count.count _ _ _ _ _ _ _ _ _ c.one_step.result was_done before.made made.made;
    }

pub returns-clause-made : goal.returns-clause-made
returns-clause-made g c =
    made-all
    c.loop-count.count _ _ _ _ _ _ _ (omega (arith, c.loop-count-test.false, c.loop-count.auto.count-end)) c.loop-count.invariant.made
