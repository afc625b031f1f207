use Rattle.std.proofs.Common.{◌≡◌, length, []}
use Rattle.hybrid.specs.Staging.{AreRight}
use Rattle.world_log.specs.Given.{IsGiven, StaysGiven}
use Rattle.world_log.specs.Places.{places_of}
use Rattle.world_log.specs.WorldLogs.{IsWorldLog, state_of}
use Rattle.world_model.specs.Places.{Each, standing}
use Rattle.world.proofs.desk.Desk.fetch.Given as goal

abbrev pub invariant-loop-stripe : goal.invariant-loop-stripe
invariant-loop-stripe l = record {
  log : IsWorldLog l.log;
  given : Each (λ read. IsGiven l.log.device read.1) l.due.items;
  standing : Each (λ read. standing (places_of l.log.device) read.1.place ≡ 1) l.due.items;
  right : AreRight l.self.staged;
  same : (rest : _) → state_of rest l.log ≡ state_of rest l.fn.log;
  stripes : l.log.stripes ≡ l.fn.log.stripes;
  stays : StaysGiven l.fn.log.device l.log.device;
  due : l.self.due.items ≡ [];
  fetched : l.self.fetched ≡ l.fn.self.fetched;
  plan : l.self.plan ≡ l.fn.self.plan;
  stay : l.self.stay ≡ l.fn.self.stay;
}

abbrev pub decreases-loop-stripe : goal.decreases-loop-stripe
decreases-loop-stripe l = length l.due.items
