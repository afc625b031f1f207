use Rattle.std.proofs.Common.{rules, ◌≡◌, ◌∙◌, ℕ, [], refl, sym, ap, subst, cond, nat_lt}
use Rattle.words.specs.declared.limits.TheConstants.{WEIGHT_MAX}
use Rattle.words.specs.declared.reply.Reply.TheVariants as reply
use Rattle.words.specs.History.{too_much}
use Rattle.words.specs.declared.history.Operation.{Operation}
use Rattle.words.specs.Commands.{keys_of_all}
use Rattle.words.specs.Store.{empty, weight, written}
use Rattle.hybrid.specs.Staging.{AreRight}
use Rattle.hybrid.specs.Writing.{AreFit}
use Rattle.transact.specs.Plans.{IsPlan, made}
use Rattle.transact.specs.Tables.{AreThere, joined}
use Rattle.shards.specs.Receipts.{kept_by}
use Rattle.shards.specs.Shards.{logs_of, shard_meaning}
use Rattle.plans.specs.Planning.{AreDue, AreSettled, of_commands}
use Rattle.plans.specs.Stops.{IsNeeded}
use Rattle.plans.proofs.Become.{became_same, became_twice}
use Rattle.plans.proofs.Found.{all_found, no_wanted, short_found}
use Rattle.plans.proofs.Plans.{plan_of_all, answers_there, light_writes}
use Rattle.plans.proofs.Sized.{answers_fit}
use Rattle.plans.proofs.Questions.{are_wanted, planned_from, stands_from, stands_same, stopped_full}
use Rattle.plans.proofs.plan.plan_all_copied.Goals as goal

pub settle-requires-clause-may : goal.settle-requires-clause-may
settle-requires-clause-may g c = record {
  can_lend = c.find_commands.ensures.held.open_still;
  there = rw (g.met.P.Parts.same_stripes c.args.parts.now c.find_commands.new.parts c.find_commands.ensures.held.kept) (answers_there (shard_meaning g.R.Shows.is_steady) (g.P.Parts.stripes_of c.args.parts.now) (g.P.Parts.part_of c.find_commands.new.parts) c.writes_named_keys.ensures c.args.commands.now (written empty c.find_commands.new.found) c.in-Ok-answer_all.writes
      (ap (λ a. a.1) c.in-Ok-answer_all.ensures)
      (subst (λ p. AreThere (g.P.Parts.stripes_of c.args.parts.now) p (keys_of_all c.args.commands.now)) (sym c.find_commands.ensures.same) c.requires.may.there));
}

pub settle-requires-clause-fits : goal.settle-requires-clause-fits
settle-requires-clause-fits g c =
    let n : ℕ = (g.P.Parts.stripes_of c.args.parts.now) in
    let parts = g.P.Parts.part_of c.args.parts.now in
    let right = g.R.Shows.is_honest × AreRight c.args.staged.now in
    subst AreFit (sym (ap (λ a. a.1) c.in-Ok-answer_all.ensures))
    (answers_fit c.args.commands.now (written empty c.find_commands.new.found)
    (short_found (IsNeeded right n (logs_of parts) (keys_of_all c.args.commands.now) c.args.staged.now) right (joined (shard_meaning g.R.Shows.is_steady) n parts)
    (keys_of_all c.args.commands.now) c.new-cold.result c.find_commands.new.cold c.new-found.result c.find_commands.new.found c.in-Ok.ensures.found c.new-found.ensures) c.requires.sized)

pub returns-in_default : goal.returns-in_default
returns-in_default g c = record {
  planned = search rules;
  unmarked = (record {
    begun = tt;
    became =
        became_same (shard_meaning g.R.Shows.is_steady) (g.P.Parts.stripes_of c.args.parts.now) (g.P.Parts.part_of c.args.parts.now) (g.P.Parts.part_of c.find_commands.new.parts) c.find_commands.ensures.same;
  });
  stopped = search rules;
  stands = stands_same g.D.Device.serves g.D.Device.releases (g.P.Parts.part_of c.args.parts.now) (g.P.Parts.part_of c.find_commands.new.parts) c.args.device.now c.find_commands.ensures.same;
  failed = search rules;
  held = search rules;
}

pub returns-then-not-is_empty : goal.returns-then-not-is_empty
returns-then-not-is_empty g c = record {
  planned = search rules;
  unmarked = (record {
    begun = tt;
    became =
        became_same (shard_meaning g.R.Shows.is_steady) (g.P.Parts.stripes_of c.args.parts.now) (g.P.Parts.part_of c.args.parts.now) (g.P.Parts.part_of c.find_commands.new.parts) c.find_commands.ensures.same;
  });
  stopped = (let n : ℕ = (g.P.Parts.stripes_of c.args.parts.now) in
      let parts = g.P.Parts.part_of c.args.parts.now in
      let right = g.R.Shows.is_honest × AreRight c.args.staged.now in record {
        wanted = are_wanted g.R.Shows.lends right n (keys_of_all c.args.commands.now) c.args.staged.now (logs_of parts) (joined (shard_meaning g.R.Shows.is_steady) n parts) c.new-cold.result c.find_commands.new.cold c.new-found.result c.find_commands.new.found
            c.in-Ok.ensures.found c.new-cold.ensures (sym c.is_empty.ensures ∙ c.if-not-is_empty.true) c.find_commands.ensures.lent;
        untouched = c.find_commands.ensures.same;
        device = refl;
      });
  stands = stands_same g.D.Device.serves g.D.Device.releases (g.P.Parts.part_of c.args.parts.now) (g.P.Parts.part_of c.find_commands.new.parts) c.args.device.now c.find_commands.ensures.same;
  failed = search rules;
  held = search rules;
}

pub returns-in_default-answer_all : goal.returns-in_default-answer_all
returns-in_default-answer_all g c = record {
  planned = search rules;
  unmarked = (record {
    begun = tt;
    became =
        became_same (shard_meaning g.R.Shows.is_steady) (g.P.Parts.stripes_of c.args.parts.now) (g.P.Parts.part_of c.args.parts.now) (g.P.Parts.part_of c.find_commands.new.parts) c.find_commands.ensures.same;
  });
  stopped = search rules;
  stands = stands_same g.D.Device.serves g.D.Device.releases (g.P.Parts.part_of c.args.parts.now) (g.P.Parts.part_of c.find_commands.new.parts) c.args.device.now c.find_commands.ensures.same;
  failed = search rules;
  held = search rules;
}

pub returns : goal.returns
returns g c = record {
  planned = (let n : ℕ = (g.P.Parts.stripes_of c.args.parts.now) in
      let parts = g.P.Parts.part_of c.args.parts.now in
      let mid = g.P.Parts.part_of c.find_commands.new.parts in
      let right = g.R.Shows.is_honest × AreRight c.args.staged.now in
      let none : c.find_commands.new.cold ≡ [] = no_wanted c.find_commands.new.cold (sym c.is_empty.ensures ∙ c.if-not-is_empty.false) in
      let planned = rw (g.met.P.Parts.same_stripes c.args.parts.now c.find_commands.new.parts c.find_commands.ensures.held.kept) at c.settle.ensures.planned in
      planned_from g.D.Device.wrote (kept_by g.R.Shows.identity g.R.Shows.shown) c.settle.result (AreSettled (reply.Array c.from_vec.result) c.in-Ok-answer_all.writes) (AreDue right (of_commands (shard_meaning g.R.Shows.is_steady) n parts c.args.commands.now)) n
      parts mid c.args.device.now (g.P.Parts.part_of c.settle.new.parts, c.settle.new.device) c.find_commands.ensures.same
      (λ said writes settled is_right seen operation asks.
      let found = all_found (IsNeeded right n (logs_of parts) (keys_of_all c.args.commands.now) c.args.staged.now) right (joined (shard_meaning g.R.Shows.is_steady) n parts) (keys_of_all c.args.commands.now)
      c.new-cold.result c.find_commands.new.cold c.new-found.result c.find_commands.new.found c.in-Ok.ensures.found none is_right in
      subst (λ (o : Operation). IsPlan seen o said writes) (sym asks.is)
      (plan_of_all (shard_meaning g.R.Shows.is_steady) n parts c.depends_on_named_keys.ensures seen c.args.commands.now asks.watched c.find_commands.new.found c.new-found.result (c.in-Ok-answer_all.replies.items, c.in-Ok-answer_all.writes) said writes
      asks.clean c.new-found.ensures found c.in-Ok-answer_all.ensures asks.read c.requires.may.there (settled.reply_is ∙ ap (λ l. cond (nat_lt WEIGHT_MAX (weight c.in-Ok-answer_all.writes)) too_much (reply.Array l)) c.from_vec.ensures) settled.writes_are))
      planned);
  unmarked = (record {
    begun = c.settle.ensures.unmarked.begun;
    became =
        became_twice (shard_meaning g.R.Shows.is_steady) (g.P.Parts.stripes_of c.args.parts.now) (g.P.Parts.part_of c.args.parts.now) (g.P.Parts.part_of c.find_commands.new.parts) (g.P.Parts.part_of c.settle.new.parts)
        (became_same (shard_meaning g.R.Shows.is_steady) (g.P.Parts.stripes_of c.args.parts.now) (g.P.Parts.part_of c.args.parts.now) (g.P.Parts.part_of c.find_commands.new.parts) c.find_commands.ensures.same) (rw (g.met.P.Parts.same_stripes c.args.parts.now c.find_commands.new.parts c.find_commands.ensures.held.kept) at c.settle.ensures.unmarked.became);
  });
  stopped = (let n : ℕ = (g.P.Parts.stripes_of c.args.parts.now) in
      let parts = g.P.Parts.part_of c.args.parts.now in
      let mid = g.P.Parts.part_of c.find_commands.new.parts in
      let right = g.R.Shows.is_honest × AreRight c.args.staged.now in
      let none : c.find_commands.new.cold ≡ [] = no_wanted c.find_commands.new.cold (sym c.is_empty.ensures ∙ c.if-not-is_empty.false) in
      let stopped = rw (g.met.P.Parts.same_stripes c.args.parts.now c.find_commands.new.parts c.find_commands.ensures.held.kept) at c.settle.ensures.stopped in
      stopped_full g.D.Device.wrote (kept_by g.R.Shows.identity g.R.Shows.shown) c.settle.result g.R.Shows.lends right (of_commands (shard_meaning g.R.Shows.is_steady) n parts c.args.commands.now) c.in-Ok-answer_all.writes n c.args.staged.now
      parts mid c.args.device.now (g.P.Parts.part_of c.settle.new.parts, c.settle.new.device) c.find_commands.ensures.same
      (λ writes light is is_right seen operation asks.
      let found = all_found (IsNeeded right n (logs_of parts) (keys_of_all c.args.commands.now) c.args.staged.now) right (joined (shard_meaning g.R.Shows.is_steady) n parts) (keys_of_all c.args.commands.now)
      c.new-cold.result c.find_commands.new.cold c.new-found.result c.find_commands.new.found c.in-Ok.ensures.found none is_right in
      subst (λ (o : Operation). writes ≡ made seen o) (sym asks.is)
      (is ∙ light_writes writes c.in-Ok-answer_all.writes is light
      ∙ (plan_of_all (shard_meaning g.R.Shows.is_steady) n parts c.depends_on_named_keys.ensures seen c.args.commands.now asks.watched c.find_commands.new.found c.new-found.result (c.in-Ok-answer_all.replies.items, c.in-Ok-answer_all.writes) _ _
      asks.clean c.new-found.ensures found c.in-Ok-answer_all.ensures asks.read c.requires.may.there refl refl).writes_due))
      stopped);
  stands = stands_from g.D.Device.serves g.D.Device.releases (g.P.Parts.part_of c.args.parts.now) (g.P.Parts.part_of c.find_commands.new.parts) c.args.device.now (g.P.Parts.part_of c.settle.new.parts, c.settle.new.device) c.find_commands.ensures.same c.settle.ensures.stands;
  failed = search rules;
  held = record { open_still = c.settle.ensures.held.open_still; kept = g.met.P.Parts.keeps_both c.args.parts.now c.find_commands.new.parts c.settle.new.parts c.find_commands.ensures.held.kept c.settle.ensures.held.kept };
}
