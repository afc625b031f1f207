use Rattle.std.proofs.Common.{◌≡◌, ◌∙◌, ap, ℕ}
use Rattle.world_model.specs.States.{State, start}
use Rattle.world_model.specs.Places.{standing}
use Rattle.world_log.specs.Places.{Receipt, places_of}
use Rattle.world_log.specs.Given.{IsGiven}
use Rattle.world.proofs.Keeping.{each_last, each_turned}
use Rattle.world.proofs.desk.Desk.fetch.Goals as goal

pub loop-stripe-preserved : goal.loop-stripe-preserved
loop-stripe-preserved c =
    let inv = c.loop-stripe.invariant in
    let places : places_of c.fetch.new.self.device ≡ places_of c.loop-stripe.log.device = ap (λ (s : State). s.places) (c.in_ok-fetch.ensures.same (start 0 0 0 0)) in
    let given = each_last (λ (read : ℕ × Receipt). IsGiven c.loop-stripe.log.device read.1) c.pop.new.self.items _ (rw c.in-Some.ensures.items at inv.given) in
    let stands = each_last (λ (read : ℕ × Receipt). standing (places_of c.loop-stripe.log.device) read.1.place ≡ 1) c.pop.new.self.items _ (rw c.in-Some.ensures.items at inv.standing) in
    record {
      log = c.in_ok-fetch.ensures.log;
      given = each_turned _ (λ (read : ℕ × Receipt). IsGiven c.fetch.new.self.device read.1) c.pop.new.self.items (λ read is. c.in_ok-fetch.ensures.given read.1 is) given.0;
      standing = each_turned _ (λ (read : ℕ × Receipt). standing (places_of c.fetch.new.self.device) read.1.place ≡ 1) c.pop.new.self.items (λ read is. rw places is) stands.0;
      right = c.in_ok-fetch.ensures.right;
      same = λ rest. c.in_ok-fetch.ensures.same rest ∙ inv.same rest;
      stripes = c.in_ok-fetch.ensures.stripes ∙ inv.stripes;
      stays = λ receipt is. c.in_ok-fetch.ensures.given receipt (inv.stays receipt is);
      due = inv.due;
      fetched = inv.fetched;
      plan = inv.plan;
      stay = inv.stay;
    }
