-- What two steps on parts keep.
use Rattle.std.proofs.Common.{◌≡◌, ◌∙◌, ap, length, refl}
use Rattle.world_log.specs.Stripes.{KeepsLanes, acting_in, count_in}
use Rattle.world_log.specs.declared.stripes.Stripes.{Stripes}

pub count_stays : {S : Type 0} (before later : Stripes S) → KeepsLanes before later → count_in later ≡ count_in before
count_stays before later keeps = ap (λ holders. length holders.items) keeps.holders

pub actor_stays : {S : Type 0} (before later : Stripes S) → KeepsLanes before later → acting_in later ≡ acting_in before
actor_stays before later keeps = keeps.acting

pub keeps_itself : {S : Type 0} (stripes : Stripes S) → KeepsLanes stripes stripes
keeps_itself stripes = record { holders = refl; acting = refl; count = refl; queues = λ i. refl; others = λ i away. refl }

pub keeps_both : {S : Type 0} (one two three : Stripes S) → KeepsLanes one two → KeepsLanes two three → KeepsLanes one three
keeps_both one two three first second = record {
  holders = second.holders ∙ first.holders;
  acting = second.acting ∙ first.acting;
  count = second.count ∙ first.count;
  queues = λ i. second.queues i ∙ first.queues i;
  others = λ i away. second.others i (rw (first.holders, first.acting) away) ∙ first.others i away;
}
