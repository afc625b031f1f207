use Rattle.std.proofs.Common.{refl, ◌∙◌, arith, rules}
use Rattle.upkeep.specs.Rounds.{course, laps_of}
use Rattle.upkeep.proofs.Fair.{missed-last}
use Rattle.upkeep.proofs.Turns.{none-turned, one-turned, turned-by}
use Rattle.upkeep.proofs.rounds.keep_up.Goals as goal

pub returns-then-is_over-clause-fair : goal.returns-then-is_over-clause-fair
returns-then-is_over-clause-fair g c =
    let before = c.loop.invariant in
    missed-last _ _ _ _ _ _ _ _ before.count before.others before.more c.round-done.ensures.fair

pub returns-then-is_over-clause-rounds : goal.returns-then-is_over-clause-rounds
returns-then-is_over-clause-rounds g c =
    let before = c.loop.invariant in
    let made = c.round-done.ensures in (
      before.turns.0,
      course
          (g.S.Stripes.events c.loop.stripes) (g.S.Stripes.failures c.loop.stripes) (laps_of c.loop.chores)
          (g.B.Surroundings.calls c.loop.beside),
      before.turns.1,
      turned-by _ _ _ _ _ _ _ _ _ _
          (
          course
          (g.S.Stripes.events c.round-done.new.stripes) (g.S.Stripes.failures c.round-done.new.stripes) (laps_of c.round-done.new.chores)
          (g.B.Surroundings.calls c.is_over.new.self)
          )
          _ _ before.count before.duty made.duty before.places made.visits made.fair c.tell.ensures c.take_rest.ensures (search rules),
    )

pub loop-init : goal.loop-init
loop-init g c = record {
  ready = c.requires.ready;
  laps = c.requires.laps;
  count = refl;
  duty = refl;
  places = refl;
  more = omega arith;
  others = λ k. omega arith;
  turns = none-turned _ _ _ _;
}

pub loop-preserved : goal.loop-preserved
loop-preserved g c =
    let before = c.loop.invariant in
    let made = c.round-done.ensures in
    record {
      ready = made.ready;
      laps = made.laps;
      count = made.count ∙ before.count;
      duty = made.duty ∙ before.duty;
      places = made.places ∙ before.places;
      more = omega (arith, before.more, made.fair);
      others = λ k. omega (arith, before.others k, made.others k);
      turns =
          one-turned _ _ _ _ _ _ before.turns
          (turned-by _ _ _ _ _ _ _ _ _ _ _ _ _ before.count before.duty made.duty before.places made.visits made.fair c.tell.ensures
          c.take_rest.ensures (search rules));
    }
