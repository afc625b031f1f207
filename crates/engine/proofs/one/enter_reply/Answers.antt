use Rattle.std.proofs.Common.{◌≡◌, ℕ, [], refl, ap}
use Rattle.words.specs.Session as asked
use Rattle.gates.specs.declared.held.Held.{Held}
use Rattle.gates.specs.declared.report.Report.TheVariants.{Nothing}
use Rattle.gates.specs.Sets.{part_at}
use Rattle.gates.specs.Helds.{held_stripes, known_to, same_as_it}
use Rattle.shards.specs.declared.shard.Shard.{Shard}
use Rattle.shards.specs.Shards.{shard_meaning}
use Rattle.engine.specs.Calls.{promises_of}
use Rattle.engine.specs.Entering.{command_done, doing_call}
use Rattle.engine.proofs.Ones.{done_touches}
use Rattle.engine.proofs.Parts.{became_same, unwritten}
use Rattle.engine.proofs.Entering.{WasCommitted, done_by, fit_installed, fit_undone, given_still, named_held, parts_of, placed, reply_due, stands, was_worn}
use Rattle.engine.proofs.one.enter_reply.Goals as goal

pub commit-requires-clause-due : goal.commit-requires-clause-due
commit-requires-clause-due g c =
    reply_due g.R.Shows.is_steady c.args.held.now c.args.held.now (asked.Run (command_done c.args.asks.now)) c.args.reply.now [] (same_as_it c.args.held.now) c.requires.due

pub commit-requires-clause-keys : goal.commit-requires-clause-keys
commit-requires-clause-keys g c =
    named_held g.R.Shows.is_steady (held_stripes c.args.held.now) c.args.held.now c.args.held.now (doing_call c.args.asks.now) (same_as_it c.args.held.now) refl (done_touches c.args.asks.now.does c.args.asks.now.key.now c.args.asks.now.value.now) c.requires.begin.ends
    c.requires.begin.may.there

pub commit-requires-clause-place : goal.commit-requires-clause-place
commit-requires-clause-place g c = placed (doing_call c.args.asks.now) (known_to c.args.held.now).watched (done_touches c.args.asks.now.does c.args.asks.now.key.now c.args.asks.now.value.now) c.requires.begin.place

pub returns-in-Ok : goal.returns-in-Ok
returns-in-Ok g c = record {
  entered = λ failures.
      let s : Type 0 = g.R.Shows.is_steady in
      let n : ℕ = (held_stripes c.args.held.now) in
      let start : Held (Shard _) = c.args.held.now in
      let last : Held (Shard _) = c.commit.new.self in
      let said = c.args.reply.now in
      let did : WasCommitted s c.in-Ok.field-0 (asked.Run (command_done c.args.asks.now)) said start last = c.in-Ok.ensures.ok in
      let unchanged : parts_of s last ≡ parts_of s start = ap part_at c.commit.ensures.parts in
      record {
        back =
            given_still s Nothing start last c.commit.ensures.open_still tt c.commit.ensures.gates c.commit.ensures.pass
            (fit_installed s n (known_to start).number c.in-Ok.field-0 (asked.Run (command_done c.args.asks.now)) said start start last last refl refl
            (λ t.
            let stand = stands s n (known_to start).number start refl c.requires.begin.may.fit t in
            c.writes_install_a_command.ensures n (known_to start).number (command_done c.args.asks.now) (known_to start).seen (known_to start).watched said [] (parts_of s start) (parts_of s last) (parts_of s last)
            (c.requires.due t) stand (became_same n (shard_meaning s) (parts_of s start) (parts_of s last) unchanged) (unwritten n (shard_meaning s) (parts_of s last)))
            c.requires.begin.may.fit (same_as_it start) (λ i some. some) c.commit.ensures.taken did (same_as_it last));
        answered = record {
          done = done_by (doing_call c.args.asks.now) said _ c.in-Ok.field-0 _ (known_to start) (known_to start) (known_to last) (known_to last) failures failures (done_touches c.args.asks.now.does c.args.asks.now.key.now c.args.asks.now.value.now) refl refl did refl;
          undone = tt;
        };
      };
  worn = tt;
}

pub returns-in-Err : goal.returns-in-Err
returns-in-Err g c = record {
  entered = λ failures.
      let s : Type 0 = g.R.Shows.is_steady in
      let n : ℕ = (held_stripes c.args.held.now) in
      let start : Held (Shard _) = c.args.held.now in
      let last : Held (Shard _) = c.commit.new.self in
      record {
        back =
            given_still s Nothing start last c.commit.ensures.open_still tt c.commit.ensures.gates c.commit.ensures.pass
            (fit_undone s n start start last last (same_as_it start) c.commit.ensures.taken c.in-Err.ensures.worn (same_as_it last) c.requires.begin.may.fit
            (became_same n (shard_meaning s) (parts_of s start) (parts_of s last) (ap part_at c.commit.ensures.parts)));
        answered = record {
          done = tt;
          undone =
              was_worn (promises_of s g.R.Shows.lends n) (doing_call c.args.asks.now) (known_to start) (known_to start) (known_to last) (known_to last) (known_to last) failures failures
              (done_touches c.args.asks.now.does c.args.asks.now.key.now c.args.asks.now.value.now) refl refl refl c.in-Err.ensures.worn refl;
        };
      };
  worn = refl;
}
