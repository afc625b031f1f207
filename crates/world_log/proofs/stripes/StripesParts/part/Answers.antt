use Rattle.std.proofs.Common.{length, refl}
use Rattle.std.proofs.lemmas.Option.{slice_get_read, slice_get_within}
use Rattle.world_log.proofs.Lending.{IsThere, few_is, is_there, keeps_is, others_are, value_is, writes, written_is}
use Rattle.world_log.proofs.stripes.StripesParts.part.Goals as goal

pub returns : goal.returns
returns g c =
    let at : IsThere c.args.self.now c.args.stripe = is_there c.args.self.now c.args.stripe c.requires.there in
    let there = slice_get_read c.args.self.now.lanes.items (length c.args.self.now.lanes.items) c.args.stripe c.index_mut-lane.result.now refl
    (slice_get_within c.args.self.now.lanes.items c.args.stripe at.lane at.there) c.index_mut-lane.ensures.value in (
      (refl, writes c.args.self.now c.args.stripe c.index_mut-lane.result.now at.held there),
      record {
        writes_back = tt;
        value = value_is c.args.self.now c.args.stripe c.index_mut-lane.result.now at.held there;
        stays = few_is c.args.self.now c.args.stripe c.index_mut-lane.result.now at.held there c.requires.open;
        written = written_is c.args.self.now c.args.stripe c.index_mut-lane.result.now at.held there;
        others = others_are c.args.self.now c.args.stripe c.index_mut-lane.result.now at.held there;
        keeps = keeps_is c.args.self.now c.args.stripe c.index_mut-lane.result.now at.held there;
      },
    )
