use Rattle.std.proofs.Common.{ℕ, [], refl, ap}
use Rattle.words.specs.declared.command.Command.TheVariants.{Set}
use Rattle.words.specs.declared.command.When.TheVariants.{Always}
use Rattle.words.specs.History.{too_much}
use Rattle.words.specs.Session as asked
use Rattle.gates.specs.declared.held.Held.{Held}
use Rattle.gates.specs.declared.report.Report.TheVariants.{Nothing}
use Rattle.gates.specs.Sets.{part_at}
use Rattle.gates.specs.Helds.{held_stripes, known_to, same_as_it}
use Rattle.shards.specs.declared.shard.Shard.{Shard}
use Rattle.shards.specs.Shards.{shard_meaning}
use Rattle.engine.specs.Calls.{promises_of}
use Rattle.engine.specs.Memory.{set_call}
use Rattle.engine.proofs.Parts.{became_same, unwritten_same}
use Rattle.engine.proofs.Entering.{done_by, fit_installed, fit_undone, given_still, named_held, parts_of, reply_due, stands, was_worn}
use Rattle.engine.proofs.set.refuse_set.Goals as goal

pub commit_line-requires-clause-due : goal.commit_line-requires-clause-due
commit_line-requires-clause-due g c =
    reply_due g.R.Shows.is_steady c.args.held.now c.args.held.now (asked.Run (Set c.args.key.now c.args.value.now Always)) too_much [] (same_as_it c.args.held.now)
    (λ t. c.requires.due (known_to c.args.held.now).seen)

pub commit_line-requires-clause-keys : goal.commit_line-requires-clause-keys
commit_line-requires-clause-keys g c =
    named_held g.R.Shows.is_steady (held_stripes c.args.held.now) c.args.held.now c.args.held.now (set_call c.args.key.now c.args.value.now) (same_as_it c.args.held.now) refl refl tt c.requires.may.there

pub returns-in-Ok-clause-back : goal.returns-in-Ok-clause-back
returns-in-Ok-clause-back g c =
    let s : Type 0 = g.R.Shows.is_steady in
    let n : ℕ = (held_stripes c.args.held.now) in
    let start : Held (Shard _) = c.args.held.now in
    let last : Held (Shard _) = c.commit_line.new.held in
    given_still s Nothing start last c.commit_line.ensures.open_still tt c.commit_line.ensures.gates c.commit_line.ensures.pass
    (fit_installed s n (known_to start).number c.in-Ok.field-0 (asked.Run (Set c.args.key.now c.args.value.now Always)) too_much start start last last refl refl
    (λ t. c.writes_install_a_command.ensures n (known_to start).number (Set c.args.key.now c.args.value.now Always) (known_to start).seen (known_to start).watched too_much []
    (parts_of s start) (parts_of s start) (parts_of s last) (c.requires.due (known_to start).seen) (stands s n (known_to start).number start refl c.requires.may.fit t)
    (became_same n (shard_meaning s) (parts_of s start) (parts_of s start) refl)
    (unwritten_same n (shard_meaning s) (parts_of s start) (parts_of s last) (ap part_at c.commit_line.ensures.parts)))
    c.requires.may.fit (same_as_it start) (λ i some. some) c.commit_line.ensures.taken c.in-Ok.ensures.ok (same_as_it last))

pub returns-in-Ok-clause-answered : goal.returns-in-Ok-clause-answered
returns-in-Ok-clause-answered g c = λ failures. record {
  done =
      done_by (set_call c.args.key.now c.args.value.now) too_much _ c.in-Ok.field-0 _ (known_to c.args.held.now) (known_to c.args.held.now) (known_to c.commit_line.new.held) (known_to c.commit_line.new.held)
      failures failures refl refl refl c.in-Ok.ensures.ok refl;
  undone = tt;
}

pub returns-in-Err-clause-back : goal.returns-in-Err-clause-back
returns-in-Err-clause-back g c =
    let s : Type 0 = g.R.Shows.is_steady in
    let n : ℕ = (held_stripes c.args.held.now) in
    let start : Held (Shard _) = c.args.held.now in
    let last : Held (Shard _) = c.commit_line.new.held in
    given_still s Nothing start last c.commit_line.ensures.open_still tt c.commit_line.ensures.gates c.commit_line.ensures.pass
    (fit_undone s n start start last last (same_as_it start) c.commit_line.ensures.taken c.in-Err.ensures.worn (same_as_it last) c.requires.may.fit
    (became_same n (shard_meaning s) (parts_of s start) (parts_of s last) (ap part_at c.commit_line.ensures.parts)))

pub returns-in-Err-clause-answered : goal.returns-in-Err-clause-answered
returns-in-Err-clause-answered g c = λ failures. record {
  done = tt;
  undone =
      was_worn (promises_of g.R.Shows.is_steady g.R.Shows.lends (held_stripes c.args.held.now)) (set_call c.args.key.now c.args.value.now) (known_to c.args.held.now) (known_to c.args.held.now) (known_to c.commit_line.new.held)
      (known_to c.commit_line.new.held) (known_to c.commit_line.new.held) failures failures
      refl refl refl refl c.in-Err.ensures.worn refl;
}
