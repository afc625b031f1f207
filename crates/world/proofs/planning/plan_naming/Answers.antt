use Rattle.world_log.specs.Types.{Stripes}
use Rattle.std.proofs.Common.{refl, ap, length, subst, ℕ}
use Rattle.words.specs.Session.{operation_of}
use Rattle.world.proofs.Calls.{Came, Met, came_is, full_as, full_of, met_is, met_so}
use Rattle.world.proofs.Putting.{lent_all, some_of_them, there_of, may_plan}
use Rattle.world.proofs.Installing.{keeps_with}
use Rattle.world.proofs.planning.plan_naming.Goals as goal

pub plan-requires : goal.plan-requires
plan-requires c = record {
  may = may_plan c.args.log.now.stripes c.act_for.new.self (length c.act_for.new.self.holders.items) c.args.client c.args.call.now c.act_for.ensures refl c.requires.log.even c.requires.all
      c.requires.entry c.requires.place;
}

pub returns-in-Ok-clause-planned : goal.returns-in-Ok-clause-planned
returns-in-Ok-clause-planned c =
    came_is c.args.log.now (length c.act_for.new.self.holders.items) c.act_for.new.self c.args.client c.args.call.now c.in-Ok.planned c.plan.new.parts c.plan.new.device c.act_for.ensures
    (some_of_them c.args.log.now.stripes c.act_for.new.self (length c.act_for.new.self.holders.items) c.args.client c.act_for.ensures refl)
    (subst (λ (k : ℕ). Came (length c.act_for.new.self.holders.items) c.act_for.new.self c.args.log.now.device k c.args.call.now c.in-Ok.planned c.plan.new.parts c.plan.new.device) (ap (λ (s : Stripes). s.acting) c.act_for.ensures) (record {
      due = λ short asked seen watched asks stand ends are. c.in-Ok.ensures.planned.due (tt, c.requires.right) seen (operation_of watched asked) (record {
        asked = asked;
        watched = watched;
        short = short;
        asks = asks;
        stand = stand;
        ends = ends;
        once = are;
        is = refl;
      });
      roomy = c.in-Ok.ensures.planned.room;
      fits = c.in-Ok.ensures.planned.fits;
      keeps = keeps_with _ _ c.plan.ensures.held.kept c.plan.ensures.stands.waits;
      became = c.in-Ok.ensures.marks.became;
      read = c.args.log.now.device;
      reads = refl;
      makes = c.in-Ok.ensures.planned.made;
    }))

pub returns-in-Err-clause-full : goal.returns-in-Err-clause-full
returns-in-Err-clause-full c =
    full_as c.in-Err.stop _ _
    (λ i met. met_is c.args.log.now (length c.act_for.new.self.holders.items) c.act_for.new.self c.args.client c.args.call.now i c.plan.new.parts c.plan.new.device c.act_for.ensures
    (some_of_them c.args.log.now.stripes c.act_for.new.self (length c.act_for.new.self.holders.items) c.args.client c.act_for.ensures refl)
    (subst (λ (k : ℕ). Met (length c.act_for.new.self.holders.items) c.act_for.new.self c.args.log.now.device k c.args.call.now i c.plan.new.parts c.plan.new.device) (ap (λ (s : Stripes). s.acting) c.act_for.ensures) (record {
      keeps = keeps_with _ _ c.plan.ensures.held.kept c.plan.ensures.stands.waits;
      became = c.in-Err.ensures.marks;
      read = c.args.log.now.device;
      reads = refl;
      meets = met_so _ _ _ _ _ _ _ _ (λ writes due short asked seen watched asks stand ends are. due (tt, c.requires.right) seen (operation_of watched asked) (record {
        asked = asked;
        watched = watched;
        short = short;
        asks = asks;
        stand = stand;
        ends = ends;
        once = are;
        is = refl;
      })) met;
    })))
    (full_of c.in-Err.stop _ _ _ _ c.in-Err.ensures.stopped)
