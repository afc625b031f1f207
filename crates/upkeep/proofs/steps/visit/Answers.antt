use Rattle.std.proofs.Common.{◌≡◌, Bool, ap, arith, rules, subst}
use Rattle.upkeep.specs.declared.stripes.Event.TheVariants as event
use Rattle.upkeep.specs.Events.{steps_done, times_told}
use Rattle.upkeep.proofs.Counted.{steps_done-used, times_told-more}
use Rattle.upkeep.specs.Steps.{HasLookedAfter, HaveMade}
use Rattle.upkeep.specs.declared.stripes.Duty.TheVariants.{Clean}
use Rattle.upkeep.proofs.Visited.{looked-clean, looked-idle, looked-other}
use Rattle.upkeep.proofs.steps.visit.Goals as goal
use Rattle.upkeep.proofs.steps.visit.Goals.{else-any-via-then-any+else-eq, else-any-via-else-any}

pub returns-then-eq-clause-looked : goal.returns-then-eq-clause-looked
returns-then-eq-clause-looked g c =
    let looked = c.used_places-used in
    omega (
      arith,
      c.some_steps-any.ensures.looked,
      ap (times_told c.args.stripe) looked.ensures.told,
      times_told-more c.args.stripe (event.Used c.args.stripe looked.result) (g.S.Stripes.events c.some_steps-any.new.stripes),
      looked.ensures.failures,
    )

pub returns-then-eq-clause-others : goal.returns-then-eq-clause-others
returns-then-eq-clause-others g c = λ k.
    let looked = c.used_places-used in
    omega (
      arith,
      c.some_steps-any.ensures.others k,
      ap (times_told k) looked.ensures.told,
      times_told-more k (event.Used c.args.stripe looked.result) (g.S.Stripes.events c.some_steps-any.new.stripes),
    )

pub returns-then-eq-clause-done : goal.returns-then-eq-clause-done
returns-then-eq-clause-done g c = λ is.
    let looked = c.used_places-used in
    omega (
      arith,
      c.some_steps-any.ensures.done c.if-any.true,
      ap steps_done looked.ensures.told,
      steps_done-used c.args.stripe looked.result (g.S.Stripes.events c.some_steps-any.new.stripes),
    )

pub returns-then-eq-clause-most : goal.returns-then-eq-clause-most
returns-then-eq-clause-most g c =
    let looked = c.used_places-used in
    omega (
      arith,
      c.some_steps-any.ensures.most,
      ap steps_done looked.ensures.told,
      steps_done-used c.args.stripe looked.result (g.S.Stripes.events c.some_steps-any.new.stripes),
    )

pub returns-then-eq-clause-made : goal.returns-then-eq-clause-made
returns-then-eq-clause-made g c =
    let looked = c.used_places-used in
    let clean : c.args.duty ≡ Clean = search rules in
    let P : Bool → Type 0 = λ any.
    HaveMade
    c.args.duty c.args.stripe c.args.places (g.S.Stripes.events c.args.stripes.now) (g.S.Stripes.events c.some_steps-any.new.stripes)
    c.args.laps.now c.some_steps-any.new.laps any in (
      g.S.Stripes.events c.some_steps-any.new.stripes,
      c.some_steps-any.new.laps,
      subst P c.if-any.true c.some_steps-any.ensures.made,
      looked-clean c.args.duty c.args.stripe looked.result _ _ clean looked.ensures.told,
      c.note_behind.ensures.left,
      c.note_behind.ensures.same,
    )

pub returns-clause-made : goal.returns-clause-made
returns-clause-made g c =
    let events = g.S.Stripes.events c.some_steps-any.new.stripes in
    let unlooked : HasLookedAfter c.args.duty c.some_steps-any.result c.args.stripe events events =
    elim c.else-any.branch [
      | else-any-via-then-any+else-eq w ↦ looked-other _ _ _ _ (search rules)
      | else-any-via-else-any w ↦ looked-idle _ _ _ _ w.if-any.false
    ]
    in (
      g.S.Stripes.events c.some_steps-any.new.stripes,
      c.some_steps-any.new.laps,
      c.some_steps-any.ensures.made,
      unlooked,
      c.note_level.ensures.left,
      c.note_level.ensures.same,
    )
