use Rattle.std.proofs.Common.{IsOk, rules, arith, length, ◌<◌, ◌≡◌, ◌∙◌, ◌∷◌, ◌++◌, ℕ, List, [], refl, sym, ap, subst}
use Rattle.words.specs.declared.reply.Reply.TheVariants as reply
use Rattle.words.specs.declared.history.Operation.{Operation}
use Rattle.words.specs.Commands.{keys_of}
use Rattle.words.specs.Store.{Bytes, Write, empty, written}
use Rattle.strings.specs.declared.writes.TheConstants.{WRITES_INLINE}
use Rattle.plans.specs.Memory.{AreAtHand}
use Rattle.hybrid.specs.Staging.{AreRight}
use Rattle.hybrid.specs.Writing.{AreFit}
use Rattle.transact.specs.Plans.{IsPlan, made}
use Rattle.transact.specs.Tables.{AreThere, joined, values_of}
use Rattle.shards.specs.Receipts.{kept_by}
use Rattle.shards.specs.Shards.{logs_of, shard_meaning}
use Rattle.plans.specs.Planning.{AreDue, AreSettled, of_copied}
use Rattle.plans.specs.Stops.{IsNeeded}
use Rattle.plans.proofs.Become.{became_same, became_twice}
use Rattle.plans.proofs.Found.{all_found, no_wanted, short_found}
use Rattle.plans.proofs.Plans.{plan_of_one, answer_there, light_writes}
use Rattle.plans.proofs.Questions.{are_wanted, planned_from, stands_from, stands_same, stopped_full}
use Rattle.plans.proofs.Logs.{logs_same}
use Rattle.plans.proofs.plan.plan_copied.Goals as goal

pub settle-requires-clause-may : goal.settle-requires-clause-may
settle-requires-clause-may g c = record {
  can_lend = c.find_command.ensures.held.open_still;
  there = rw (g.met.P.Parts.same_stripes c.args.parts.now c.find_command.new.parts c.find_command.ensures.held.kept) (answer_there (shard_meaning g.R.Shows.is_steady) (g.P.Parts.stripes_of c.args.parts.now) (g.P.Parts.part_of c.find_command.new.parts) c.writes_named_keys.ensures c.args.command.now (written empty c.find_command.new.found) c.in-Ok-answer_one.writes
      (ap (λ a. a.1) c.in-Ok-answer_one.ensures.answer)
      (subst (λ p. AreThere (g.P.Parts.stripes_of c.args.parts.now) p (keys_of c.args.command.now)) (sym c.find_command.ensures.same) c.requires.may.there));
}

pub settle-requires-clause-fits : goal.settle-requires-clause-fits
settle-requires-clause-fits g c =
    let n : ℕ = (g.P.Parts.stripes_of c.args.parts.now) in
    let parts = g.P.Parts.part_of c.args.parts.now in
    let right = g.R.Shows.is_honest × AreRight c.args.staged.now in
    subst AreFit (sym (ap (λ a. a.1) c.in-Ok-answer_one.ensures.answer))
    (c.requires.sized (written empty c.find_command.new.found)
    (short_found (IsNeeded right n (logs_of parts) (keys_of c.args.command.now) c.args.staged.now) right (joined (shard_meaning g.R.Shows.is_steady) n parts)
    (keys_of c.args.command.now) c.new-cold.result c.find_command.new.cold c.new-found.result c.find_command.new.found c.in-Ok.ensures.found c.new-found.ensures))

pub returns-in_default : goal.returns-in_default
returns-in_default g c = record {
  planned = search rules;
  unmarked = (record {
    begun = tt;
    became =
        became_same (shard_meaning g.R.Shows.is_steady) (g.P.Parts.stripes_of c.args.parts.now) (g.P.Parts.part_of c.args.parts.now) (g.P.Parts.part_of c.find_command.new.parts) c.find_command.ensures.same;
  });
  stopped = (let n : ℕ = (g.P.Parts.stripes_of c.args.parts.now) in
      let parts = g.P.Parts.part_of c.args.parts.now in
      record {
        takes = λ right hand brief.
            let ok : IsOk c.find_command.result = c.find_command.ensures.memory brief.0 brief.1.keys (record {
              is_right = right;
              hand = subst (λ (l : List Bytes). AreAtHand g.R.Shows.lends n (logs_of parts) l c.args.staged.now) brief.1.keys hand;
              few = subst (λ (l : List Write). length l < WRITES_INLINE) (sym c.new-found.ensures) (omega arith);
              key_inline = brief.1.key;
              value_inline = brief.1.value;
            }) c.new-found.ensures in
            search (rules, ok);
        logs = logs_same parts (g.P.Parts.part_of c.find_command.new.parts) c.find_command.ensures.same;
        device = refl;
      });
  stands = stands_same g.D.Device.serves g.D.Device.releases (g.P.Parts.part_of c.args.parts.now) (g.P.Parts.part_of c.find_command.new.parts) c.args.device.now c.find_command.ensures.same;
  failed = search rules;
  held = search rules;
}

pub returns-then-not-is_empty : goal.returns-then-not-is_empty
returns-then-not-is_empty g c = record {
  planned = search rules;
  unmarked = (record {
    begun = tt;
    became =
        became_same (shard_meaning g.R.Shows.is_steady) (g.P.Parts.stripes_of c.args.parts.now) (g.P.Parts.part_of c.args.parts.now) (g.P.Parts.part_of c.find_command.new.parts) c.find_command.ensures.same;
  });
  stopped = (let n : ℕ = (g.P.Parts.stripes_of c.args.parts.now) in
      let parts = g.P.Parts.part_of c.args.parts.now in
      let right = g.R.Shows.is_honest × AreRight c.args.staged.now in record {
        wanted = are_wanted g.R.Shows.lends right n (keys_of c.args.command.now) c.args.staged.now (logs_of parts) (joined (shard_meaning g.R.Shows.is_steady) n parts) c.new-cold.result c.find_command.new.cold c.new-found.result c.find_command.new.found
            c.in-Ok.ensures.found c.new-cold.ensures (sym c.is_empty.ensures ∙ c.if-not-is_empty.true) c.find_command.ensures.lent;
        untouched = c.find_command.ensures.same;
        device = refl;
      });
  stands = stands_same g.D.Device.serves g.D.Device.releases (g.P.Parts.part_of c.args.parts.now) (g.P.Parts.part_of c.find_command.new.parts) c.args.device.now c.find_command.ensures.same;
  failed = search rules;
  held = search rules;
}

pub returns-in_default-answer_one : goal.returns-in_default-answer_one
returns-in_default-answer_one g c = record {
  planned = search rules;
  unmarked = (record {
    begun = tt;
    became =
        became_same (shard_meaning g.R.Shows.is_steady) (g.P.Parts.stripes_of c.args.parts.now) (g.P.Parts.part_of c.args.parts.now) (g.P.Parts.part_of c.find_command.new.parts) c.find_command.ensures.same;
  });
  stopped = (let n : ℕ = (g.P.Parts.stripes_of c.args.parts.now) in
      let parts = g.P.Parts.part_of c.args.parts.now in
      let store = joined (shard_meaning g.R.Shows.is_steady) n parts in
      let none : c.find_command.new.cold ≡ [] = no_wanted c.find_command.new.cold (sym c.is_empty.ensures ∙ c.if-not-is_empty.false) in
      record {
        takes = λ right hand brief.
            let found = all_found (IsNeeded (g.R.Shows.is_honest × AreRight c.args.staged.now) n (logs_of parts) (keys_of c.args.command.now) c.args.staged.now) (g.R.Shows.is_honest × AreRight c.args.staged.now) store (keys_of c.args.command.now)
            c.new-cold.result c.find_command.new.cold c.new-found.result c.find_command.new.found c.in-Ok.ensures.found none right in
            let one : c.find_command.new.found ≡ (brief.0, store brief.0) ∷ [] = found ∙ ap (λ (b : List Write). b ++ values_of store (keys_of c.args.command.now)) c.new-found.ensures ∙ ap (values_of store) brief.1.keys in
            let ok : IsOk c.answer_one.result = c.answer_one.ensures.memory brief.0 (store brief.0) one brief.1.texts in
            search (rules, ok);
        logs = logs_same parts (g.P.Parts.part_of c.find_command.new.parts) c.find_command.ensures.same;
        device = refl;
      });
  stands = stands_same g.D.Device.serves g.D.Device.releases (g.P.Parts.part_of c.args.parts.now) (g.P.Parts.part_of c.find_command.new.parts) c.args.device.now c.find_command.ensures.same;
  failed = search rules;
  held = search rules;
}

pub returns : goal.returns
returns g c = record {
  planned = (let n : ℕ = (g.P.Parts.stripes_of c.args.parts.now) in
      let parts = g.P.Parts.part_of c.args.parts.now in
      let mid = g.P.Parts.part_of c.find_command.new.parts in
      let right = g.R.Shows.is_honest × AreRight c.args.staged.now in
      let none : c.find_command.new.cold ≡ [] = no_wanted c.find_command.new.cold (sym c.is_empty.ensures ∙ c.if-not-is_empty.false) in
      let planned = rw (g.met.P.Parts.same_stripes c.args.parts.now c.find_command.new.parts c.find_command.ensures.held.kept) at c.settle.ensures.planned in
      planned_from g.D.Device.wrote (kept_by g.R.Shows.identity g.R.Shows.shown) c.settle.result (AreSettled (reply.Single c.in-Ok-answer_one.reply) c.in-Ok-answer_one.writes) (AreDue right (of_copied (shard_meaning g.R.Shows.is_steady) n parts c.args.command.now)) n
      parts mid c.args.device.now (g.P.Parts.part_of c.settle.new.parts, c.settle.new.device) c.find_command.ensures.same
      (λ said writes settled is_right seen operation asks.
      let found = all_found (IsNeeded right n (logs_of parts) (keys_of c.args.command.now) c.args.staged.now) right (joined (shard_meaning g.R.Shows.is_steady) n parts) (keys_of c.args.command.now)
      c.new-cold.result c.find_command.new.cold c.new-found.result c.find_command.new.found c.in-Ok.ensures.found none is_right in
      subst (λ (o : Operation). IsPlan seen o said writes) (sym asks.is)
      (plan_of_one (shard_meaning g.R.Shows.is_steady) n parts c.depends_on_named_keys.ensures seen c.args.command.now c.find_command.new.found c.new-found.result (c.in-Ok-answer_one.reply, c.in-Ok-answer_one.writes) said writes
      c.requires.touches c.new-found.ensures found c.in-Ok-answer_one.ensures.answer asks.read c.requires.may.there settled.reply_is settled.writes_are))
      planned);
  unmarked = (record {
    begun = c.settle.ensures.unmarked.begun;
    became =
        became_twice (shard_meaning g.R.Shows.is_steady) (g.P.Parts.stripes_of c.args.parts.now) (g.P.Parts.part_of c.args.parts.now) (g.P.Parts.part_of c.find_command.new.parts) (g.P.Parts.part_of c.settle.new.parts)
        (became_same (shard_meaning g.R.Shows.is_steady) (g.P.Parts.stripes_of c.args.parts.now) (g.P.Parts.part_of c.args.parts.now) (g.P.Parts.part_of c.find_command.new.parts) c.find_command.ensures.same) (rw (g.met.P.Parts.same_stripes c.args.parts.now c.find_command.new.parts c.find_command.ensures.held.kept) at c.settle.ensures.unmarked.became);
  });
  stopped = (let n : ℕ = (g.P.Parts.stripes_of c.args.parts.now) in
      let parts = g.P.Parts.part_of c.args.parts.now in
      let mid = g.P.Parts.part_of c.find_command.new.parts in
      let right = g.R.Shows.is_honest × AreRight c.args.staged.now in
      let none : c.find_command.new.cold ≡ [] = no_wanted c.find_command.new.cold (sym c.is_empty.ensures ∙ c.if-not-is_empty.false) in
      let stopped = rw (g.met.P.Parts.same_stripes c.args.parts.now c.find_command.new.parts c.find_command.ensures.held.kept) at c.settle.ensures.stopped in
      stopped_full g.D.Device.wrote (kept_by g.R.Shows.identity g.R.Shows.shown) c.settle.result g.R.Shows.lends right (of_copied (shard_meaning g.R.Shows.is_steady) n parts c.args.command.now) c.in-Ok-answer_one.writes n c.args.staged.now
      parts mid c.args.device.now (g.P.Parts.part_of c.settle.new.parts, c.settle.new.device) c.find_command.ensures.same
      (λ writes light is is_right seen operation asks.
      let found = all_found (IsNeeded right n (logs_of parts) (keys_of c.args.command.now) c.args.staged.now) right (joined (shard_meaning g.R.Shows.is_steady) n parts) (keys_of c.args.command.now)
      c.new-cold.result c.find_command.new.cold c.new-found.result c.find_command.new.found c.in-Ok.ensures.found none is_right in
      subst (λ (o : Operation). writes ≡ made seen o) (sym asks.is)
      (is ∙ light_writes writes c.in-Ok-answer_one.writes is light
      ∙ (plan_of_one (shard_meaning g.R.Shows.is_steady) n parts c.depends_on_named_keys.ensures seen c.args.command.now c.find_command.new.found c.new-found.result (c.in-Ok-answer_one.reply, c.in-Ok-answer_one.writes) _ _
      c.requires.touches c.new-found.ensures found c.in-Ok-answer_one.ensures.answer asks.read c.requires.may.there refl refl).writes_due))
      stopped);
  stands = stands_from g.D.Device.serves g.D.Device.releases (g.P.Parts.part_of c.args.parts.now) (g.P.Parts.part_of c.find_command.new.parts) c.args.device.now (g.P.Parts.part_of c.settle.new.parts, c.settle.new.device) c.find_command.ensures.same c.settle.ensures.stands;
  failed = search rules;
  held = record { open_still = c.settle.ensures.held.open_still; kept = g.met.P.Parts.keeps_both c.args.parts.now c.find_command.new.parts c.settle.new.parts c.find_command.ensures.held.kept c.settle.ensures.held.kept };
}
