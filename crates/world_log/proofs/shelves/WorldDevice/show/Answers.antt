use Rattle.std.proofs.Common.{ap, ◌∙◌, List}
use Rattle.std.proofs.lemmas.List.{map-set}
use Rattle.world_log.specs.Places.{Shelf, Shelves, with_shown}
use Rattle.world_log.proofs.shelves.WorldDevice.show.Goals as goal

pub returns : goal.returns
returns c =
    ap (λ (l : List Shelf). record {
      shelves = l;
      failures = c.self.inside.failures;
      reads = c.self.inside.reads;
      releases = c.self.inside.releases;
    }) (map-set _ c.self.inside.shelves.items c.args.place _)
    ∙ ap (λ (device : Shelves). with_shown device c.args.place c.args.page.value) c.self.view_is
