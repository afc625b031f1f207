use Rattle.std.proofs.Common.{◌≡◌, ◌∙◌, ◌+◌, ℕ, List, true, false, sym, ap, arith}
use Rattle.words.specs.Store.{Write, writes_key}
use Rattle.words.specs.Stripes.{stripe_of}
use Rattle.shards.specs.Rooms.{share}
use Rattle.shards.specs.Shards.{logs_of, shard_meaning, weigh}
use Rattle.plans.proofs.Become.{became_touches}
use Rattle.plans.proofs.Covered.{became_hidden}
use Rattle.plans.proofs.Grown.{grown_hidden, grown_more}
use Rattle.plans.proofs.Rooms.{roomy_after, roomy_first, roomy_hidden, roomy_less}
use Rattle.plans.proofs.install.write_before.Goals as goal

pub returns-then-writes_to-clause-room : goal.returns-then-writes_to-clause-room
returns-then-writes_to-clause-room g c =
    let next : Write = c.args.next.now in
    let others : List Write = c.args.others.now in
    let hidden : writes_key others next.0 ≡ true = ap (writes_key others) (sym c.key.ensures) ∙ sym c.writes_to.ensures ∙ c.if-writes_to.true in
    roomy_hidden (g.P.Parts.stripes_of c.args.parts.now) next others (logs_of (g.P.Parts.part_of c.args.parts.now)) hidden c.requires.room

pub returns-then-writes_to-clause-became : goal.returns-then-writes_to-clause-became
returns-then-writes_to-clause-became g c = λ later became.
    let next : Write = c.args.next.now in
    let others : List Write = c.args.others.now in
    let hidden : writes_key others next.0 ≡ true = ap (writes_key others) (sym c.key.ensures) ∙ sym c.writes_to.ensures ∙ c.if-writes_to.true in
    became_hidden (shard_meaning g.R.Shows.is_steady) (g.P.Parts.stripes_of c.args.parts.now) next others (g.P.Parts.part_of c.args.parts.now) later hidden became

pub returns-then-writes_to-clause-grown : goal.returns-then-writes_to-clause-grown
returns-then-writes_to-clause-grown g c = λ later grown.
    let next : Write = c.args.next.now in
    let others : List Write = c.args.others.now in
    let hidden : writes_key others next.0 ≡ true = ap (writes_key others) (sym c.key.ensures) ∙ sym c.writes_to.ensures ∙ c.if-writes_to.true in
    grown_hidden (g.P.Parts.stripes_of c.args.parts.now) next others (logs_of (g.P.Parts.part_of c.args.parts.now)) later hidden grown

pub write-requires-clause-room : goal.write-requires-clause-room
write-requires-clause-room g c =
    let n : ℕ = (g.P.Parts.stripes_of c.args.parts.now) in
    let logs = logs_of (g.P.Parts.part_of c.args.parts.now) in
    let next : Write = c.args.next.now in
    let others : List Write = c.args.others.now in
    let s : ℕ = stripe_of n next.0 in
    let last : writes_key others next.0 ≡ false = ap (writes_key others) (sym c.key.ensures) ∙ sym c.writes_to.ensures ∙ c.if-writes_to.false in
    roomy_less logs s (weigh next) (weigh next + share n s others) (omega arith) (roomy_first n next others logs last c.requires.room)

pub returns-clause-room : goal.returns-clause-room
returns-clause-room g c =
    let n : ℕ = (g.P.Parts.stripes_of c.args.parts.now) in
    let next : Write = c.args.next.now in
    let others : List Write = c.args.others.now in
    let last : writes_key others next.0 ≡ false = ap (writes_key others) (sym c.key.ensures) ∙ sym c.writes_to.ensures ∙ c.if-writes_to.false in
    roomy_after n next others (logs_of (g.P.Parts.part_of c.args.parts.now)) (logs_of (g.P.Parts.part_of c.write.new.parts)) last c.requires.room c.write.ensures.room c.write.ensures.grown.others

pub returns-clause-became : goal.returns-clause-became
returns-clause-became g c = λ later became.
    became_touches (shard_meaning g.R.Shows.is_steady) (g.P.Parts.stripes_of c.args.parts.now) c.args.next.now c.args.others.now (g.P.Parts.part_of c.args.parts.now) (g.P.Parts.part_of c.write.new.parts) later c.write.ensures.became became

pub returns-clause-grown : goal.returns-clause-grown
returns-clause-grown g c = λ later grown.
    let next : Write = c.args.next.now in
    let others : List Write = c.args.others.now in
    let last : writes_key others next.0 ≡ false = ap (writes_key others) (sym c.key.ensures) ∙ sym c.writes_to.ensures ∙ c.if-writes_to.false in
    grown_more c.growth_adds_up.ensures (g.P.Parts.stripes_of c.args.parts.now) next others (logs_of (g.P.Parts.part_of c.args.parts.now)) (logs_of (g.P.Parts.part_of c.write.new.parts)) later last c.write.ensures.grown grown
