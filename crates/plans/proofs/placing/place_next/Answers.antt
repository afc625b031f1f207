use Rattle.std.proofs.Common.{ℕ, refl}
use Rattle.words.specs.Answers.{answer}
use Rattle.words.specs.Commands.{keys_of}
use Rattle.words.specs.Store.{written}
use Rattle.shards.specs.Shards.{logs_of, shard_meaning}
use Rattle.plans.specs.Placing.{targets_of, writes_of}
use Rattle.plans.proofs.Keys.{there_at}
use Rattle.plans.proofs.Plans.{answer_there}
use Rattle.plans.proofs.Run.{there_both}
use Rattle.plans.proofs.Spots.{go_all}
use Rattle.plans.proofs.placing.place_next.Goals as goal

pub run_value-requires-clause-may : goal.run_value-requires-clause-may
run_value-requires-clause-may g c = record {
  can_lend = c.requires.may.can_lend;
  there = there_at (shard_meaning g.R.Shows.is_steady) (g.P.Parts.stripes_of c.args.parts.now) (g.P.Parts.part_of c.args.parts.now) (keys_of c.args.command.now) 0 c.in-AtValue.key.now c.in-AtValue.ensures.1 c.requires.may.there;
}

pub returns-in_ok-add_targets-in-AtValue-clause-written : goal.returns-in_ok-add_targets-in-AtValue-clause-written
returns-in_ok-add_targets-in-AtValue-clause-written g c =
    let n : ℕ = g.P.Parts.stripes_of c.args.parts.now in
    let parts = g.P.Parts.part_of c.args.parts.now in
    let contents = shard_meaning g.R.Shows.is_steady in
    let on = c.in_ok-reply-in-AtValue.ensures.ran in
    there_both n parts (writes_of c.args.placing.now) (answer (written on.found (writes_of c.args.placing.now)) c.args.command.now).1 c.run_value.new.writes on.writes_are c.requires.written
    (answer_there contents n parts c.writes_named_keys.ensures c.args.command.now (written on.found (writes_of c.args.placing.now)) (answer (written on.found (writes_of c.args.placing.now)) c.args.command.now).1 refl c.requires.may.there)

pub add_targets-requires-clause-there : goal.add_targets-requires-clause-there
add_targets-requires-clause-there g c =
    let n : ℕ = g.P.Parts.stripes_of c.args.parts.now in
    let parts = g.P.Parts.part_of c.args.parts.now in
    let contents = shard_meaning g.R.Shows.is_steady in
    let on = c.in_ok-reply-in-AtValue.ensures.ran in
    let count = g.met.P.Parts.same_stripes c.args.parts.now c.run_value.new.parts c.run_value.ensures.held.kept in
    rw (count, c.run_value.ensures.same, c.as_slice.ensures) (
    there_both n parts (writes_of c.args.placing.now) (answer (written on.found (writes_of c.args.placing.now)) c.args.command.now).1 c.run_value.new.writes on.writes_are c.requires.written
    (answer_there contents n parts c.writes_named_keys.ensures c.args.command.now (written on.found (writes_of c.args.placing.now)) (answer (written on.found (writes_of c.args.placing.now)) c.args.command.now).1 refl c.requires.may.there))

pub add_targets-requires-clause-first : goal.add_targets-requires-clause-first
add_targets-requires-clause-first g c =
    let n : ℕ = g.P.Parts.stripes_of c.args.parts.now in
    let on = c.in_ok-reply-in-AtValue.ensures.ran in
    let count = g.met.P.Parts.same_stripes c.args.parts.now c.run_value.new.parts c.run_value.ensures.held.kept in
    rw (count, c.run_value.ensures.same, c.as_slice.ensures)
    (go_all n (logs_of (g.P.Parts.part_of c.args.parts.now)) (writes_of c.args.placing.now) (answer (written on.found (writes_of c.args.placing.now)) c.args.command.now).1 c.run_value.new.writes (targets_of c.args.placing.now) on.writes_are c.requires.targets.first)

pub returns-in_ok-add_targets-in-AtPresence-clause-written : goal.returns-in_ok-add_targets-in-AtPresence-clause-written
returns-in_ok-add_targets-in-AtPresence-clause-written g c =
    let n : ℕ = g.P.Parts.stripes_of c.args.parts.now in
    let parts = g.P.Parts.part_of c.args.parts.now in
    let contents = shard_meaning g.R.Shows.is_steady in
    let on = c.in_ok-reply-in-AtPresence.ensures.ran in
    there_both n parts (writes_of c.args.placing.now) (answer (written on.found (writes_of c.args.placing.now)) c.args.command.now).1 c.run_present.new.writes on.writes_are c.requires.written
    (answer_there contents n parts c.writes_named_keys.ensures c.args.command.now (written on.found (writes_of c.args.placing.now)) (answer (written on.found (writes_of c.args.placing.now)) c.args.command.now).1 refl c.requires.may.there)

pub add_targets-requires-in-AtPresence-clause-there : goal.add_targets-requires-in-AtPresence-clause-there
add_targets-requires-in-AtPresence-clause-there g c =
    let n : ℕ = g.P.Parts.stripes_of c.args.parts.now in
    let parts = g.P.Parts.part_of c.args.parts.now in
    let contents = shard_meaning g.R.Shows.is_steady in
    let on = c.in_ok-reply-in-AtPresence.ensures.ran in
    let count = g.met.P.Parts.same_stripes c.args.parts.now c.run_present.new.parts c.run_present.ensures.held.kept in
    rw (count, c.run_present.ensures.same, c.as_slice-in-AtPresence.ensures) (
    there_both n parts (writes_of c.args.placing.now) (answer (written on.found (writes_of c.args.placing.now)) c.args.command.now).1 c.run_present.new.writes on.writes_are c.requires.written
    (answer_there contents n parts c.writes_named_keys.ensures c.args.command.now (written on.found (writes_of c.args.placing.now)) (answer (written on.found (writes_of c.args.placing.now)) c.args.command.now).1 refl c.requires.may.there))

pub add_targets-requires-in-AtPresence-clause-first : goal.add_targets-requires-in-AtPresence-clause-first
add_targets-requires-in-AtPresence-clause-first g c =
    let n : ℕ = g.P.Parts.stripes_of c.args.parts.now in
    let on = c.in_ok-reply-in-AtPresence.ensures.ran in
    let count = g.met.P.Parts.same_stripes c.args.parts.now c.run_present.new.parts c.run_present.ensures.held.kept in
    rw (count, c.run_present.ensures.same, c.as_slice-in-AtPresence.ensures)
    (go_all n (logs_of (g.P.Parts.part_of c.args.parts.now)) (writes_of c.args.placing.now) (answer (written on.found (writes_of c.args.placing.now)) c.args.command.now).1 c.run_present.new.writes (targets_of c.args.placing.now) on.writes_are c.requires.targets.first)

pub returns-in_ok-add_targets-in-AtNothing-clause-written : goal.returns-in_ok-add_targets-in-AtNothing-clause-written
returns-in_ok-add_targets-in-AtNothing-clause-written g c =
    let n : ℕ = g.P.Parts.stripes_of c.args.parts.now in
    let parts = g.P.Parts.part_of c.args.parts.now in
    let contents = shard_meaning g.R.Shows.is_steady in
    let on = c.in_ok-reply-in-AtNothing.ensures.ran in
    there_both n parts (writes_of c.args.placing.now) (answer (written on.found (writes_of c.args.placing.now)) c.args.command.now).1 c.run_next.new.writes on.writes_are c.requires.written
    (answer_there contents n parts c.writes_named_keys.ensures c.args.command.now (written on.found (writes_of c.args.placing.now)) (answer (written on.found (writes_of c.args.placing.now)) c.args.command.now).1 refl c.requires.may.there)

pub add_targets-requires-in-AtNothing-clause-there : goal.add_targets-requires-in-AtNothing-clause-there
add_targets-requires-in-AtNothing-clause-there g c =
    let n : ℕ = g.P.Parts.stripes_of c.args.parts.now in
    let parts = g.P.Parts.part_of c.args.parts.now in
    let contents = shard_meaning g.R.Shows.is_steady in
    let on = c.in_ok-reply-in-AtNothing.ensures.ran in
    let count = g.met.P.Parts.same_stripes c.args.parts.now c.run_next.new.parts c.run_next.ensures.held.kept in
    rw (count, c.run_next.ensures.same, c.as_slice-in-AtNothing.ensures) (
    there_both n parts (writes_of c.args.placing.now) (answer (written on.found (writes_of c.args.placing.now)) c.args.command.now).1 c.run_next.new.writes on.writes_are c.requires.written
    (answer_there contents n parts c.writes_named_keys.ensures c.args.command.now (written on.found (writes_of c.args.placing.now)) (answer (written on.found (writes_of c.args.placing.now)) c.args.command.now).1 refl c.requires.may.there))

pub add_targets-requires-in-AtNothing-clause-first : goal.add_targets-requires-in-AtNothing-clause-first
add_targets-requires-in-AtNothing-clause-first g c =
    let n : ℕ = g.P.Parts.stripes_of c.args.parts.now in
    let on = c.in_ok-reply-in-AtNothing.ensures.ran in
    let count = g.met.P.Parts.same_stripes c.args.parts.now c.run_next.new.parts c.run_next.ensures.held.kept in
    rw (count, c.run_next.ensures.same, c.as_slice-in-AtNothing.ensures)
    (go_all n (logs_of (g.P.Parts.part_of c.args.parts.now)) (writes_of c.args.placing.now) (answer (written on.found (writes_of c.args.placing.now)) c.args.command.now).1 c.run_next.new.writes (targets_of c.args.placing.now) on.writes_are c.requires.targets.first)
