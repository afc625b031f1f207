use Rattle.std.proofs.Common.{refl, ◌∙◌, sym, rules, arith}
use Rattle.upkeep.proofs.Fair.{missed-none, missed-step}
use Rattle.upkeep.proofs.Visited.{none-visited, one-visited}
use Rattle.upkeep.proofs.rounds.round.Goals as goal
use Rattle.upkeep.proofs.rounds.round.Goals.{then-visit_one, else-visit_one}

pub loop-stripe-init : goal.loop-stripe-init
loop-stripe-init g c = record {
  ready = c.requires.ready;
  count = refl;
  laps = c.requires.laps;
  duty = refl;
  places = refl;
  fair = omega (arith, missed-none (g.S.Stripes.events c.args.stripes.now) (g.S.Stripes.events c.args.stripes.now));
  others = λ k. omega arith;
  grows = omega arith;
  done = λ is. let none : ⊥ = cc in absurd none;
  visits = none-visited _ _ _ _;
  idle = λ is. refl;
}

pub loop-stripe-preserved : goal.loop-stripe-preserved
loop-stripe-preserved g c =
    let before = c.loop-stripe.invariant in
    let visited = c.visit_one.ensures in
    record {
      ready = visited.ready;
      count = visited.count ∙ before.count;
      laps = visited.laps ∙ visited.count ∙ before.count;
      duty = visited.duty ∙ before.duty;
      places = visited.places ∙ before.places;
      fair = missed-step c.loop-stripe.stripe _ _ _ _ _ _ before.others visited.others visited.looked visited.more before.fair;
      others = λ k. omega (arith, before.others k, visited.others k);
      grows =
          elim c.if-visit_one.branch [
            | then-visit_one w ↦ omega (arith, before.grows, visited.done w.if-visit_one.true)
            | else-visit_one w ↦ omega (arith, before.grows, visited.idle w.if-visit_one.false)
          ];
      done = λ is.
          elim c.if-visit_one.branch [
            | then-visit_one w ↦ omega (arith, before.grows, visited.done w.if-visit_one.true)
            | else-visit_one w ↦ omega (arith, visited.idle w.if-visit_one.false, before.done (sym w.done-is ∙ is))
          ];
      visits =
          one-visited c.loop-stripe.stripe _ _ _ _ _ _ _ _ _ _ c.loop-stripe.done c.visit_one.result _ before.duty before.places
          (
          elim c.if-visit_one.branch [
            | then-visit_one w ↦ rw w.if-visit_one.true w.done-is
            | else-visit_one w ↦ rw w.if-visit_one.false w.done-is
          ]
          )
          before.visits visited.visited;
      idle = λ is.
          elim c.if-visit_one.branch [
            | then-visit_one w ↦ let none : ⊥ = cc in absurd none
            | else-visit_one w ↦ visited.idle w.if-visit_one.false ∙ before.idle (sym w.done-is ∙ is)
          ];
    }

pub returns-clause-fair : goal.returns-clause-fair
returns-clause-fair g c = search rules
