use Rattle.world_log.specs.KeepLaws.{actor_stays, count_stays}
use Rattle.world_log.specs.Types.{Stripes}
use Rattle.std.proofs.Common.{length, refl, subst, sym, ap, ℕ}
use Rattle.words.specs.Session.{operation_of}
use Rattle.hybrid.specs.Staging.{AreRight}
use Rattle.transact.specs.Plans.{keys_ended}
use Rattle.world_log.specs.Stripes.{acting_in, acts_for, count_in, lent}
use Rattle.world.proofs.Beginning.{none_right}
use Rattle.world.proofs.Installing.{ended_there, keeps_with, there_after}
use Rattle.world.proofs.Putting.{Ran, put_as, lent_all, none_in, ran_is, there_of, may_plan}
use Rattle.world.proofs.planning.run.Goals as goal

pub plan-requires : goal.plan-requires
plan-requires c = record {
  may = may_plan c.args.log.now.stripes c.act_for.new.self (length c.act_for.new.self.holders.items) c.args.client c.args.call.now c.act_for.ensures refl c.requires.log.even c.requires.all
      c.requires.entry c.requires.place;
}

pub install-requires-clause-there : goal.install-requires-clause-there
install-requires-clause-there c =
    let stripes = c.args.log.now.stripes in
    rw (count_stays c.act_for.new.self c.plan.new.parts c.plan.ensures.held.kept) (there_after (length c.act_for.new.self.holders.items) (lent c.act_for.new.self) (lent c.plan.new.parts) (keys_ended c.args.call.now) c.in-Ok.ensures.marks.became.there
    (there_of stripes c.act_for.new.self (length c.act_for.new.self.holders.items) c.args.client (keys_ended c.args.call.now) c.act_for.ensures refl
    (ended_there (length stripes.holders.items) (lent (acts_for stripes c.args.client)) c.args.call.now (lent_all stripes c.args.client c.args.call.now c.requires.log.even c.requires.all))))

pub install-requires-clause-room : goal.install-requires-clause-room
install-requires-clause-room c = rw (count_stays c.act_for.new.self c.plan.new.parts c.plan.ensures.held.kept) c.in-Ok.ensures.planned.room

pub returns : goal.returns
returns c =
    let nothing = none_in c.as_slice.result.now c.in-Ok.planned.writes c.is_empty.result c.if-not-is_empty.false c.is_empty.ensures c.as_slice.ensures in
    record {
      run = ran_is c.args.log.now c.act_for.new.self (length c.act_for.new.self.holders.items) c.args.client c.args.call.now c.in-Ok.planned c.install.result c.plan.new.parts c.plan.new.device
          c.install.new.parts c.act_for.ensures refl c.requires.log.even c.requires.all nothing c.install.ensures.reply
          (subst (λ (k : ℕ). Ran (length c.act_for.new.self.holders.items) c.act_for.new.self c.args.log.now.device k c.args.call.now c.in-Ok.planned c.plan.new.parts c.plan.new.device c.install.new.parts) (ap (λ (s : Stripes). s.acting) c.act_for.ensures) (record {
            due = λ short asked seen watched asks stand ends are.
                c.in-Ok.ensures.planned.due (tt, subst AreRight (sym c.new-staged.ensures) none_right) seen (operation_of watched asked) (record {
                  asked = asked;
                  watched = watched;
                  short = short;
                  asks = asks;
                  stand = stand;
                  ends = ends;
                  once = are;
                  is = refl;
                });
            begun = c.in-Ok.ensures.marks.became;
            keeps = keeps_with _ _ c.plan.ensures.held.kept c.plan.ensures.stands.waits;
            makes = c.in-Ok.ensures.planned.made;
            put = put_as c.plan.new.parts (count_in c.plan.new.parts) (length c.act_for.new.self.holders.items) (acting_in c.plan.new.parts) c.act_for.new.self.acting c.args.call.now c.in-Ok.planned.writes c.install.new.parts
                (count_stays c.act_for.new.self c.plan.new.parts c.plan.ensures.held.kept) (actor_stays c.act_for.new.self c.plan.new.parts c.plan.ensures.held.kept)
                (record { became = c.install.ensures.became; grown = c.install.ensures.grown; keeps = keeps_with _ _ c.install.ensures.held.kept c.install.ensures.waits });
          }));
    }
