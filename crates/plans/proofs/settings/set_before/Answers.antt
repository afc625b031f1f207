use Rattle.std.proofs.Common.{◌≡◌, ◌∙◌, ◌+◌, ℕ, List, Some, true, false, sym, arith}
use Rattle.words.specs.Answers.{writes_set}
use Rattle.words.specs.Briefs.{pairs_of}
use Rattle.words.specs.Store.{Write, writes_key}
use Rattle.words.specs.Stripes.{stripe_of}
use Rattle.shards.specs.Rooms.{share}
use Rattle.shards.specs.Shards.{logs_of, shard_meaning, weigh}
use Rattle.plans.proofs.Become.{became_touches}
use Rattle.plans.proofs.Covered.{became_hidden}
use Rattle.plans.proofs.Grown.{grown_hidden, grown_more}
use Rattle.plans.proofs.Rooms.{roomy_after, roomy_first, roomy_hidden, roomy_less}
use Rattle.plans.proofs.settings.set_before.Goals as goal

pub returns-then-gives-clause-room : goal.returns-then-gives-clause-room
returns-then-gives-clause-room g c =
    let next : Write = (c.args.key.now, Some c.args.value.now) in
    let others : List Write = writes_set (pairs_of c.args.others.now) in
    let hidden : writes_key others next.0 ≡ true = sym c.gives.ensures ∙ c.if-gives.true in
    roomy_hidden (g.P.Parts.stripes_of c.args.parts.now) next others (logs_of (g.P.Parts.part_of c.args.parts.now)) hidden c.requires.room

pub returns-then-gives-clause-became : goal.returns-then-gives-clause-became
returns-then-gives-clause-became g c = λ later became.
    let next : Write = (c.args.key.now, Some c.args.value.now) in
    let others : List Write = writes_set (pairs_of c.args.others.now) in
    let hidden : writes_key others next.0 ≡ true = sym c.gives.ensures ∙ c.if-gives.true in
    became_hidden (shard_meaning g.R.Shows.is_steady) (g.P.Parts.stripes_of c.args.parts.now) next others (g.P.Parts.part_of c.args.parts.now) later hidden became

pub returns-then-gives-clause-grown : goal.returns-then-gives-clause-grown
returns-then-gives-clause-grown g c = λ later grown.
    let next : Write = (c.args.key.now, Some c.args.value.now) in
    let others : List Write = writes_set (pairs_of c.args.others.now) in
    let hidden : writes_key others next.0 ≡ true = sym c.gives.ensures ∙ c.if-gives.true in
    grown_hidden (g.P.Parts.stripes_of c.args.parts.now) next others (logs_of (g.P.Parts.part_of c.args.parts.now)) later hidden grown

pub set-requires-clause-room : goal.set-requires-clause-room
set-requires-clause-room g c =
    let n : ℕ = (g.P.Parts.stripes_of c.args.parts.now) in
    let logs = logs_of (g.P.Parts.part_of c.args.parts.now) in
    let next : Write = (c.args.key.now, Some c.args.value.now) in
    let others : List Write = writes_set (pairs_of c.args.others.now) in
    let s : ℕ = stripe_of n next.0 in
    let last : writes_key others next.0 ≡ false = sym c.gives.ensures ∙ c.if-gives.false in
    rw c.new.ensures
    (roomy_less logs s (weigh next) (weigh next + share n s others) (omega arith) (roomy_first n next others logs last c.requires.room))

pub returns-clause-room : goal.returns-clause-room
returns-clause-room g c =
    let n : ℕ = (g.P.Parts.stripes_of c.args.parts.now) in
    let next : Write = (c.args.key.now, Some c.args.value.now) in
    let others : List Write = writes_set (pairs_of c.args.others.now) in
    let last : writes_key others next.0 ≡ false = sym c.gives.ensures ∙ c.if-gives.false in
    roomy_after n next others (logs_of (g.P.Parts.part_of c.args.parts.now)) (logs_of (g.P.Parts.part_of c.set.new.parts)) last c.requires.room (rw c.new.ensures at c.set.ensures.room) (rw c.new.ensures at c.set.ensures.grown).others

pub returns-clause-became : goal.returns-clause-became
returns-clause-became g c = λ later became.
    became_touches (shard_meaning g.R.Shows.is_steady) (g.P.Parts.stripes_of c.args.parts.now) ((c.args.key.now, Some c.args.value.now)) (writes_set (pairs_of c.args.others.now)) (g.P.Parts.part_of c.args.parts.now) (g.P.Parts.part_of c.set.new.parts) later (rw c.new.ensures at c.set.ensures.became) became

pub returns-clause-grown : goal.returns-clause-grown
returns-clause-grown g c = λ later grown.
    let next : Write = (c.args.key.now, Some c.args.value.now) in
    let others : List Write = writes_set (pairs_of c.args.others.now) in
    let last : writes_key others next.0 ≡ false = sym c.gives.ensures ∙ c.if-gives.false in
    grown_more c.growth_adds_up.ensures (g.P.Parts.stripes_of c.args.parts.now) next others (logs_of (g.P.Parts.part_of c.args.parts.now)) (logs_of (g.P.Parts.part_of c.set.new.parts)) later last (rw c.new.ensures at c.set.ensures.grown) grown
