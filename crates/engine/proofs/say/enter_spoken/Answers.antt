use Rattle.std.proofs.Common.{◌≡◌, ◌∙◌, ℕ, [], Option, refl, sym, ap, subst}
use Rattle.std.specs.Borrow.{Bor}
use Rattle.words.specs.declared.reply.Reply.{Reply}
use Rattle.words.specs.Session as asked
use Rattle.gates.specs.declared.gates.Gates.{Gates}
use Rattle.gates.specs.declared.held.Held.{Held}
use Rattle.gates.specs.declared.report.Report.TheVariants.{Nothing}
use Rattle.gates.specs.Sets.{part_at}
use Rattle.gates.specs.Helds.{held_stripes, known_to, same_as_it}
use Rattle.shards.specs.declared.shard.Shard.{Shard}
use Rattle.shards.specs.Shards.{shard_meaning}
use Rattle.transact.specs.Calls.{call_keys}
use Rattle.transact.specs.Tables.{AreThere}
use Rattle.engine.specs.Calls.{promises_of}
use Rattle.engine.specs.Got.{speaking_call, speaking_command, spoken_reply}
use Rattle.engine.proofs.Parts.{became_same, unwritten}
use Rattle.engine.proofs.Entering.{fit_installed, fit_kept, fit_undone, given_still, named_held, parts_of, reply_due, stands, was_worn}
use Rattle.engine.proofs.Speaking.{reads_keys}
use Rattle.engine.proofs.say.enter_spoken.Goals as goal

pub returns-in_default-clause-back : goal.returns-in_default-clause-back
returns-in_default-clause-back g c =
    let s : Type 0 = g.R.Shows.is_steady in
    let same = c.say.ensures.held in
    given_still s Nothing c.args.held.now c.say.new.held c.say.ensures.is_open tt (ap (λ (g : Bor (Gates (Shard _))). g.now) same.gates) same.pass
    (fit_kept s (held_stripes c.args.held.now) c.args.held.now c.say.new.held same c.requires.may.fit
    (became_same (held_stripes c.args.held.now) (shard_meaning s) (parts_of s c.args.held.now) (parts_of s c.say.new.held) c.say.ensures.same))

pub commit-requires-clause-due : goal.commit-requires-clause-due
commit-requires-clause-due g c =
    let s : Type 0 = g.R.Shows.is_steady in
    reply_due s c.args.held.now c.say.new.held (asked.Run (speaking_command c.args.call.now)) (spoken_reply c.in-Some.spoken) [] c.say.ensures.held
    (λ t. c.in-Some.ensures.due (g.met.R.Shows.steady_is_honest t, c.requires.right t)
    (known_to c.args.held.now).seen (stands s (held_stripes c.args.held.now) (known_to c.args.held.now).number c.args.held.now refl c.requires.may.fit t).read)

pub commit-requires-clause-keys : goal.commit-requires-clause-keys
commit-requires-clause-keys g c =
    named_held g.R.Shows.is_steady (held_stripes c.args.held.now) c.args.held.now c.say.new.held (speaking_call c.args.call.now) c.say.ensures.held refl (reads_keys c.args.call.now) tt
    (subst (λ (p : ℕ → Option (Shard _)). AreThere (held_stripes c.args.held.now) p (call_keys (speaking_call c.args.call.now))) (sym c.say.ensures.same) c.requires.may.there)

pub commit-requires-clause-place : goal.commit-requires-clause-place
commit-requires-clause-place g c = (reads_keys c.args.call.now, c.requires.place)

pub returns-in-Ok-clause-back : goal.returns-in-Ok-clause-back
returns-in-Ok-clause-back g c =
    let s : Type 0 = g.R.Shows.is_steady in
    let n : ℕ = (held_stripes c.args.held.now) in
    let start : Held (Shard _) = c.args.held.now in
    let mid : Held (Shard _) = c.say.new.held in
    let last : Held (Shard _) = c.commit.new.self in
    let own : ℕ = (known_to start).number in
    let said : Reply = spoken_reply c.in-Some.spoken in
    let unchanged : parts_of s last ≡ parts_of s start = ap part_at c.commit.ensures.parts ∙ c.say.ensures.same in
    given_still s Nothing start last c.commit.ensures.open_still tt (c.commit.ensures.gates ∙ ap (λ (g : Bor (Gates (Shard _))). g.now) c.say.ensures.held.gates)
    (c.commit.ensures.pass ∙ c.say.ensures.held.pass)
    (fit_installed s n own c.in-Ok.field-0 (asked.Run (speaking_command c.args.call.now)) said start mid last last refl refl
    (λ t.
    let stand = stands s n own start refl c.requires.may.fit t in
    c.writes_install_a_command.ensures n own (speaking_command c.args.call.now) (known_to start).seen (known_to start).watched said [] (parts_of s start) (parts_of s last) (parts_of s last)
    (c.in-Some.ensures.due (g.met.R.Shows.steady_is_honest t, c.requires.right t)
    (known_to start).seen stand.read) stand (became_same n (shard_meaning s) (parts_of s start) (parts_of s last) unchanged) (unwritten n (shard_meaning s) (parts_of s last)))
    c.requires.may.fit c.say.ensures.held
    (became_same n (shard_meaning s) (parts_of s start) (parts_of s mid) c.say.ensures.same).there
    c.commit.ensures.taken c.in-Ok.ensures.ok (same_as_it last))

pub returns-in-Err-clause-back : goal.returns-in-Err-clause-back
returns-in-Err-clause-back g c =
    let s : Type 0 = g.R.Shows.is_steady in
    let n : ℕ = (held_stripes c.args.held.now) in
    let start : Held (Shard _) = c.args.held.now in
    let last : Held (Shard _) = c.commit.new.self in
    given_still s Nothing start last c.commit.ensures.open_still tt (c.commit.ensures.gates ∙ ap (λ (g : Bor (Gates (Shard _))). g.now) c.say.ensures.held.gates)
    (c.commit.ensures.pass ∙ c.say.ensures.held.pass)
    (fit_undone s n start c.say.new.held last last c.say.ensures.held c.commit.ensures.taken c.in-Err.ensures.worn (same_as_it last) c.requires.may.fit
    (became_same n (shard_meaning s) (parts_of s start) (parts_of s last) (ap part_at c.commit.ensures.parts ∙ c.say.ensures.same)))

pub returns-in-Err-clause-answered : goal.returns-in-Err-clause-answered
returns-in-Err-clause-answered g c = λ failures. record {
  done = tt;
  undone =
      was_worn (promises_of g.R.Shows.is_steady g.R.Shows.lends (held_stripes c.args.held.now)) (speaking_call c.args.call.now) (known_to c.args.held.now) (known_to c.say.new.held) (known_to c.commit.new.self) (known_to c.commit.new.self) (known_to c.commit.new.self)
      failures failures (reads_keys c.args.call.now) refl refl c.say.ensures.held.known c.in-Err.ensures.worn refl;
}
