use Rattle.std.proofs.Common.{◌≡◌, ◌∙◌, ℕ, List, [], refl, sym, ap, subst}
use Rattle.std.specs.Borrow.{Bor}
use Rattle.words.specs.Store.{Bytes}
use Rattle.gates.specs.declared.gates.Gates.{Gates}
use Rattle.gates.specs.declared.held.Held.{Held}
use Rattle.gates.specs.declared.report.Report.{Report}
use Rattle.gates.specs.declared.report.Report.TheVariants.{Nothing}
use Rattle.gates.specs.declared.view.Knowledge.{Knowledge}
use Rattle.gates.specs.Sets.{part_at}
use Rattle.gates.specs.Helds.{held_stripes, known_to, number_of, same_as_it}
use Rattle.transact.specs.Plans.{keys_begun, keys_ended}
use Rattle.transact.specs.Submits.{asked_for}
use Rattle.transact.specs.Tables.{AreThere, Became, begins, clears, stays}
use Rattle.shards.specs.declared.shard.Shard.{Shard}
use Rattle.shards.specs.Shards.{shard_meaning}
use Rattle.engine.specs.Calls.{promises_of}
use Rattle.engine.specs.Entering.{given}
use Rattle.engine.specs.Got.{spoken_reply}
use Rattle.engine.proofs.Parts.{became_none, became_same, ended_there}
use Rattle.engine.proofs.Saids.{ended_unwritten}
use Rattle.engine.proofs.Entering.{asks, became_by, counted, done_by, fit_installed, fit_undone, given_behind, given_still, holder_same, may_still, named_held, parts_of, placed, reply_due, seat_is, stands, was_worn}
use Rattle.engine.proofs.exec.enter_said.Goals as goal

pub commit-requires-clause-place : goal.commit-requires-clause-place
commit-requires-clause-place g c = placed c.args.call.now (known_to c.args.held.now).watched c.requires.entry c.requires.begin.place

pub commit-requires-clause-due : goal.commit-requires-clause-due
commit-requires-clause-due g c =
    reply_due g.R.Shows.is_steady c.args.held.now c.args.held.now (asked_for c.args.call.now) (spoken_reply c.args.spoken) [] (same_as_it c.args.held.now) c.requires.due

pub commit-requires-clause-keys : goal.commit-requires-clause-keys
commit-requires-clause-keys g c =
    named_held g.R.Shows.is_steady (held_stripes c.args.held.now) c.args.held.now c.args.held.now c.args.call.now (same_as_it c.args.held.now) refl c.requires.entry c.requires.begin.ends c.requires.begin.may.there

pub forget-requires-clause-there : goal.forget-requires-clause-there
forget-requires-clause-there g c =
    let s : Type 0 = g.R.Shows.is_steady in
    let start : Held (Shard _) = c.args.held.now in
    let done : Held (Shard _) = c.commit.new.self in
    subst (λ (m : ℕ). AreThere m (parts_of s done) c.args.watching.now) (sym (counted s start done c.commit.ensures.gates))
    (subst (λ (l : List (ℕ × Shard _)). AreThere (held_stripes start) (part_at l) c.args.watching.now) (sym c.commit.ensures.parts)
    (subst (λ (keys : List Bytes). AreThere (held_stripes start) (parts_of s start) keys) c.requires.ended
    (ended_there (held_stripes start) (parts_of s start) c.args.call.now c.requires.begin.may.there)))

pub refuse-answer-requires-clause-may : goal.refuse-answer-requires-clause-may
refuse-answer-requires-clause-may g c =
    let s : Type 0 = g.R.Shows.is_steady in
    let n : ℕ = held_stripes c.args.held.now in
    let start : Held (Shard _) = c.args.held.now in
    let told : Held (Shard _) = c.commit.new.self in
    let became : Became (shard_meaning s) n [] stays (parts_of s start) (parts_of s told) = became_same n (shard_meaning s) (parts_of s start) (parts_of s told) (ap part_at c.commit.ensures.parts) in
    may_still s c.args.call.now start told c.requires.begin.may c.commit.ensures.open_still c.in-Err.ensures.none c.commit.ensures.gates
    became.there (fit_undone s n start start told told (same_as_it start) c.commit.ensures.taken c.in-Err.ensures.worn (same_as_it told) c.requires.begin.may.fit became)

pub returns-in-Ok-clause-entered : goal.returns-in-Ok-clause-entered
returns-in-Ok-clause-entered g c = λ failures.
    let s : Type 0 = g.R.Shows.is_steady in
    let n : ℕ = held_stripes c.args.held.now in
    let start : Held (Shard _) = c.args.held.now in
    let done : Held (Shard _) = c.commit.new.self in
    let last : Held (Shard _) = c.forget.new.parts in
    let said = spoken_reply c.args.spoken in
    let seat : number_of start ≡ (known_to start).number = seat_is s start c.requires.begin.may.is_open in
    let count = counted s start done c.commit.ensures.gates in
    let holder = holder_same s start done c.requires.begin.may.is_open c.commit.ensures.open_still c.in-Ok.ensures.ok.number in
    let ended = ended_unwritten (held_stripes done) (shard_meaning s) (number_of done) (keys_ended c.args.call.now) (parts_of s done) (parts_of s last)
    (subst (λ (keys : List Bytes). Became (shard_meaning s) (held_stripes done) [] (clears (number_of done) keys) (parts_of s done) (parts_of s last)) (sym c.requires.ended) c.forget.ensures.became) in
    let installed = became_by s _ n _ (number_of start) [] (keys_ended c.args.call.now) (parts_of s done) (parts_of s last) count holder ended in
    let begun : Became (shard_meaning s) n [] (begins (number_of start) (keys_begun c.args.call.now)) (parts_of s start) (parts_of s done) =
    subst (λ (keys : List Bytes). Became (shard_meaning s) n [] (begins (number_of start) keys) (parts_of s start) (parts_of s done)) (sym c.requires.unwatched)
    (became_none n (shard_meaning s) (number_of start) (parts_of s start) (parts_of s done) (ap part_at c.commit.ensures.parts)) in
    record {
      back =
          given_still s Nothing start last c.forget.ensures.held.open_still tt
          (ap (λ (g : Bor (Gates (Shard _))). g.now) c.forget.ensures.held.kept.gates ∙ c.commit.ensures.gates)
          (c.forget.ensures.held.kept.pass ∙ c.commit.ensures.pass)
          (fit_installed s n (number_of start) c.in-Ok.field-0 (asked_for c.args.call.now) said start start done last refl seat
          (λ t. c.writes_install_a_call.ensures n (number_of start) c.args.call.now (asked_for c.args.call.now) (known_to start).seen (known_to start).watched said []
          (parts_of s start) (parts_of s done) (parts_of s last) (asks c.args.call.now c.requires.entry) c.requires.begin.ends (c.requires.due t)
          (stands s n (number_of start) start seat c.requires.begin.may.fit t) begun installed)
          c.requires.begin.may.fit (same_as_it start) (λ i some. some) c.commit.ensures.taken c.in-Ok.ensures.ok c.forget.ensures.held.kept);
      answered = record {
        done =
            done_by c.args.call.now said _ c.in-Ok.field-0 _ (known_to start) (known_to start) (known_to done) (known_to last) failures failures
            c.requires.entry refl c.forget.ensures.held.kept.known c.in-Ok.ensures.ok refl;
        undone = tt;
      };
    }

pub returns-in-Err-clause-entered : goal.returns-in-Err-clause-entered
returns-in-Err-clause-entered g c = λ failures.
    let s : Type 0 = g.R.Shows.is_steady in
    let start : Held (Shard _) = c.args.held.now in
    let told : Held (Shard _) = c.commit.new.self in
    let ends = c.refuse-answer.result.ends in
    let held : Held (Shard _) = c.refuse-answer.new.held in
    let last : Knowledge = given ends c.refuse-answer.result.report (known_to held) in
    record {
      back = given_behind s ends c.refuse-answer.result.report start told held c.commit.ensures.gates c.commit.ensures.pass c.refuse-answer.ensures.back;
      answered = record {
        done = tt;
        undone =
            was_worn (promises_of s g.R.Shows.lends (held_stripes start)) c.args.call.now (known_to start) (known_to start) (known_to told) (known_to told) last failures failures c.requires.entry
            (ap (λ (r : Report). given ends r (known_to held)) c.refuse-answer.ensures.report ∙ c.refuse-answer.ensures.known)
            refl refl c.in-Err.ensures.worn refl;
      };
    }
