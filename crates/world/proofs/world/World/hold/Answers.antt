use Rattle.std.proofs.Common.{◌∙◌, ap, ap₂, ℕ}
use Rattle.std.specs.Vec.{with_item}
use Rattle.world_log.specs.Types.{Stripes}
use Rattle.world_model.specs.Planning.{stay_begun}
use Rattle.world.specs.declared.desk.Desk.{Desk}
use Rattle.world.specs.declared.world.World.{World}
use Rattle.world.proofs.Worlds.{read_at}
use Rattle.world.proofs.world.World.hold.Goals as goal

pub returns : goal.returns
returns c =
    let world : World = c.args.self.now in
    let one = c.index_mut.result.now in
    record {
      held = record {
        one = one;
        there = read_at world.members.items c.args.client _ one world.members.ok.0 c.requires.within c.index_mut.ensures.value;
        else_same =
            ap₂ (λ (s : Stripes) (d : Desk). (let w : World = record world {
              members = with_item world.members c.args.client (record one { desk = d });
              log = record world.log { stripes = s };
            } in w))
            c.take.ensures
            (c.begin_stay.ensures ∙ ap (λ (e : ℕ). (let d : Desk = record one.desk { stay = stay_begun one.desk.stay e } in d)) c.epoch-epoch.ensures);
      };
    }
