use Rattle.world_log.specs.Types.{Stripes}
use Rattle.std.proofs.Common.{refl, ap, length, subst, ℕ}
use Rattle.words.specs.Session.{operation_of}
use Rattle.world.proofs.Calls.{Came, Met, came_is, full_as, full_of, full_read, met_is, met_so, read_places, served_as}
use Rattle.world.proofs.Putting.{lent_all, some_of_them, there_of, may_plan}
use Rattle.world.proofs.Installing.{keeps_with}
use Rattle.world.proofs.planning.plan_with_reads.Goals as goal

pub plan_reading-requires : goal.plan_reading-requires
plan_reading-requires c = record {
  may = may_plan c.args.log.now.stripes c.act_for.new.self (length c.act_for.new.self.holders.items) c.args.client c.args.call.now c.act_for.ensures refl c.requires.log.even c.requires.all
      c.requires.entry c.requires.place;
}

pub returns-in-Ok-clause-planned : goal.returns-in-Ok-clause-planned
returns-in-Ok-clause-planned c =
    let served = served_as c.args.log.now c.act_for.new.self c.args.client c.act_for.ensures c.requires.served in
    let reads = c.in-Ok.ensures.planned in
    came_is c.args.log.now (length c.act_for.new.self.holders.items) c.act_for.new.self c.args.client c.args.call.now c.in-Ok.planned c.plan_reading.new.parts c.plan_reading.new.device c.act_for.ensures
    (some_of_them c.args.log.now.stripes c.act_for.new.self (length c.act_for.new.self.holders.items) c.args.client c.act_for.ensures refl)
    (subst (λ (k : ℕ). Came (length c.act_for.new.self.holders.items) c.act_for.new.self c.args.log.now.device k c.args.call.now c.in-Ok.planned c.plan_reading.new.parts c.plan_reading.new.device) (ap (λ (s : Stripes). s.acting) c.act_for.ensures) (record {
      due = λ short asked seen watched asks stand ends are. reads.2.due (tt, c.requires.right, served) seen (operation_of watched asked) (record {
        asked = asked;
        watched = watched;
        short = short;
        asks = asks;
        stand = stand;
        ends = ends;
        once = are;
        is = refl;
      });
      roomy = reads.2.room;
      fits = reads.2.fits;
      keeps = keeps_with _ _ c.plan_reading.ensures.held.kept c.plan_reading.ensures.stands.waits;
      became = c.in-Ok.ensures.marks.became;
      read = reads.0;
      reads = read_places c.plan_laws.ensures.plans.reads (length c.act_for.new.self.holders.items) (length c.act_for.new.self.holders.items) c.in-Ok.planned.writes _ _ c.args.log.now.device reads.0 c.plan_reading.new.device reads.1 reads.2.made c.in-Ok.ensures.failed;
      makes = reads.2.made;
    }))

pub returns-in-Ok-clause-right : goal.returns-in-Ok-clause-right
returns-in-Ok-clause-right c = c.plan_reading.ensures.pages.1 c.requires.right (served_as c.args.log.now c.act_for.new.self c.args.client c.act_for.ensures c.requires.served)

pub returns-in-Err-clause-right : goal.returns-in-Err-clause-right
returns-in-Err-clause-right c = c.plan_reading.ensures.pages.1 c.requires.right (served_as c.args.log.now c.act_for.new.self c.args.client c.act_for.ensures c.requires.served)

pub returns-in-Err-clause-full : goal.returns-in-Err-clause-full
returns-in-Err-clause-full c =
    let served = served_as c.args.log.now c.act_for.new.self c.args.client c.act_for.ensures c.requires.served in
    full_as c.in-Err.stop _ _
    (λ i met. met_is c.args.log.now (length c.act_for.new.self.holders.items) c.act_for.new.self c.args.client c.args.call.now i c.plan_reading.new.parts c.plan_reading.new.device c.act_for.ensures
    (some_of_them c.args.log.now.stripes c.act_for.new.self (length c.act_for.new.self.holders.items) c.args.client c.act_for.ensures refl)
    (subst (λ (k : ℕ). Met (length c.act_for.new.self.holders.items) c.act_for.new.self c.args.log.now.device k c.args.call.now i c.plan_reading.new.parts c.plan_reading.new.device) (ap (λ (s : Stripes). s.acting) c.act_for.ensures) (record {
      keeps = keeps_with _ _ c.plan_reading.ensures.held.kept c.plan_reading.ensures.stands.waits;
      became = c.in-Err.ensures.marks;
      read = met.0;
      reads = met.1;
      meets = met_so _ _ _ _ _ _ _ _ (λ writes due short asked seen watched asks stand ends are. due (tt, c.requires.right, served) seen (operation_of watched asked) (record {
        asked = asked;
        watched = watched;
        short = short;
        asks = asks;
        stand = stand;
        ends = ends;
        once = are;
        is = refl;
      })) met.2;
    })))
    (full_read c.plan_laws.ensures.plans.reads c.in-Err.stop (length c.act_for.new.self.holders.items) _ _ c.args.log.now.device c.plan_reading.new.device _ c.in-Err.ensures.failed (full_of c.in-Err.stop _ _ _ _ c.in-Err.ensures.stopped))
