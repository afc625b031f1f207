use Rattle.std.proofs.Common.{◌∙◌, ℕ, List, [], ◌∷◌, IsSome, refl, sym, ap, subst}
use Rattle.std.specs.Borrow.{Bor}
use Rattle.std.specs.Option.{option_copied}
use Rattle.records.specs.Records.{value_bytes}
use Rattle.words.specs.declared.command.Command.{Command}
use Rattle.words.specs.declared.reply.Reply.{Reply}
use Rattle.words.specs.Session as asked
use Rattle.words.specs.Session.{operation_of}
use Rattle.words.specs.Store.{Bytes, Write}
use Rattle.words.specs.Stripes.{stripe_of}
use Rattle.gates.specs.declared.gates.Gates.{Gates}
use Rattle.gates.specs.declared.held.Held.{Held}
use Rattle.gates.specs.declared.report.Report.TheVariants.{Nothing}
use Rattle.gates.specs.Sets.{part_at}
use Rattle.gates.specs.Helds.{held_stripes, known_to, same_as_it}
use Rattle.transact.specs.declared.call.Call.TheVariants as call
use Rattle.transact.specs.Tables.{AreThere, Became, stays, touches}
use Rattle.shards.specs.declared.shard.Shard.{Shard}
use Rattle.shards.specs.Shards.{logs_of, shard_meaning}
use Rattle.plans.specs.Settling.{IsSpot}
use Rattle.engine.specs.Calls.{promises_of}
use Rattle.engine.specs.Entering.{command_done, doing_call}
use Rattle.engine.proofs.Ones.{done_names, done_touches}
use Rattle.engine.proofs.Parts.{became_same}
use Rattle.engine.proofs.Entering.{WasCommitted, counted, done_by, fit_installed, fit_undone, given_still, named_held, parts_of, placed, reply_due, stands, was_worn}
use Rattle.engine.proofs.one.enter_in_place.Goals as goal

pub commit-requires-clause-due : goal.commit-requires-clause-due
commit-requires-clause-due g c =
    let s : Type 0 = g.R.Shows.is_steady in
    let start : Held (Shard _) = c.args.held.now in
    let command : Command = command_done c.args.asks.now in
    let reply : Reply = c.args.reply.now in
    let w : Write = (c.args.asks.now.key.now, option_copied c.args.text) in
    reply_due s start start (asked.Run command) reply (w ∷ []) (same_as_it start)
    c.requires.due

pub commit-requires-clause-keys : goal.commit-requires-clause-keys
commit-requires-clause-keys g c =
    named_held g.R.Shows.is_steady (held_stripes c.args.held.now) c.args.held.now c.args.held.now (doing_call c.args.asks.now) (same_as_it c.args.held.now) refl (done_touches c.args.asks.now.does c.args.asks.now.key.now c.args.asks.now.value.now) c.requires.begin.ends
    c.requires.begin.may.there

pub commit-requires-clause-place : goal.commit-requires-clause-place
commit-requires-clause-place g c = placed (doing_call c.args.asks.now) (known_to c.args.held.now).watched (done_touches c.args.asks.now.does c.args.asks.now.key.now c.args.asks.now.value.now) c.requires.begin.place

pub install_at-requires-clause-there : goal.install_at-requires-clause-there
install_at-requires-clause-there g c =
    let s : Type 0 = g.R.Shows.is_steady in
    let start : Held (Shard _) = c.args.held.now in
    let done : Held (Shard _) = c.commit.new.self in
    let there = subst (λ (l : List Bytes). AreThere (held_stripes start) (parts_of s start) l) (done_names c.args.asks.now.does c.args.asks.now.key.now c.args.asks.now.value.now) c.requires.begin.may.there in
    subst (λ (m : ℕ). IsSome (parts_of s done (stripe_of m c.args.asks.now.key.now))) (sym (counted s start done c.commit.ensures.gates))
    (subst (λ (l : List (ℕ × Shard _)). IsSome (part_at l (stripe_of (held_stripes start) c.args.asks.now.key.now))) (sym c.commit.ensures.parts) there.0)

pub install_at-requires-clause-spot : goal.install_at-requires-clause-spot
install_at-requires-clause-spot g c =
    let s : Type 0 = g.R.Shows.is_steady in
    let start : Held (Shard _) = c.args.held.now in
    let done : Held (Shard _) = c.commit.new.self in
    subst (λ (m : ℕ). IsSpot m (logs_of (parts_of s done)) c.args.asks.now.key.now (value_bytes (option_copied c.args.text)) c.args.spot) (sym (counted s start done c.commit.ensures.gates))
    (subst (λ (l : List (ℕ × Shard _)). IsSpot (held_stripes start) (logs_of (part_at l)) c.args.asks.now.key.now (value_bytes (option_copied c.args.text)) c.args.spot) (sym c.commit.ensures.parts) c.requires.spot)

pub returns-in-Ok : goal.returns-in-Ok
returns-in-Ok g c = record {
  entered = λ failures.
      let s : Type 0 = g.R.Shows.is_steady in
      let n : ℕ = (held_stripes c.args.held.now) in
      let start : Held (Shard _) = c.args.held.now in
      let done : Held (Shard _) = c.commit.new.self in
      let last : Held (Shard _) = c.install_at.new.parts in
      let same = same_as_it start in
      let command : Command = command_done c.args.asks.now in
      let reply : Reply = c.args.reply.now in
      let w : Write = (c.args.asks.now.key.now, option_copied c.args.text) in
      let count = counted s start done c.commit.ensures.gates in
      let did : WasCommitted s c.in-Ok.field-0 (asked.Run command) reply start done = c.in-Ok.ensures.ok in
      let installed = subst (λ (m : ℕ). Became (shard_meaning s) m (w ∷ []) (touches (w ∷ [])) (parts_of s done) (parts_of s last)) count c.install_at.ensures.became in
      let reserved : Became (shard_meaning s) n [] stays (parts_of s start) (parts_of s done) =
      became_same n (shard_meaning s) (parts_of s start) (parts_of s done) (ap part_at c.commit.ensures.parts) in
      record {
        back =
            given_still s Nothing start last c.install_at.ensures.held.open_still tt
            (ap (λ (g : Bor (Gates (Shard _))). g.now) c.install_at.ensures.held.kept.gates ∙ c.commit.ensures.gates)
            (c.install_at.ensures.held.kept.pass ∙ c.commit.ensures.pass)
            (fit_installed s n (known_to start).number c.in-Ok.field-0 (asked.Run command) reply start start done last refl refl
            (λ t. c.writes_install_a_command.ensures n (known_to start).number command (known_to start).seen (known_to start).watched reply (w ∷ [])
            (parts_of s start) (parts_of s done) (parts_of s last)
            (c.requires.due t)
            (stands s n (known_to start).number start refl c.requires.begin.may.fit t) reserved installed)
            c.requires.begin.may.fit same (λ i some. some) c.commit.ensures.taken did c.install_at.ensures.held.kept);
        answered = record {
          done =
              done_by (call.One command) reply _ c.in-Ok.field-0 _ (known_to start) (known_to start) (known_to done) (known_to last) failures failures
              (done_touches c.args.asks.now.does c.args.asks.now.key.now c.args.asks.now.value.now) refl c.install_at.ensures.held.kept.known did refl;
          undone = tt;
        };
      };
  worn = tt;
}

pub returns-in-Err : goal.returns-in-Err
returns-in-Err g c = record {
  entered = λ failures.
      let s : Type 0 = g.R.Shows.is_steady in
      let n : ℕ = (held_stripes c.args.held.now) in
      let start : Held (Shard _) = c.args.held.now in
      let last : Held (Shard _) = c.commit.new.self in
      let same = same_as_it start in
      let command : Command = command_done c.args.asks.now in
      record {
        back =
            given_still s Nothing start last c.commit.ensures.open_still tt c.commit.ensures.gates c.commit.ensures.pass
            (fit_undone s n start start last last same c.commit.ensures.taken c.in-Err.ensures.worn (same_as_it last) c.requires.begin.may.fit
            (became_same n (shard_meaning s) (parts_of s start) (parts_of s last) (ap part_at c.commit.ensures.parts)));
        answered = record {
          done = tt;
          undone =
              was_worn (promises_of s g.R.Shows.lends n) (call.One command) (known_to start) (known_to start) (known_to last) (known_to last) (known_to last) failures failures
              (done_touches c.args.asks.now.does c.args.asks.now.key.now c.args.asks.now.value.now) refl refl refl c.in-Err.ensures.worn refl;
        };
      };
  worn = refl;
}
