use Rattle.std.proofs.Common.{◌≡◌, ◌∙◌, List, true, false, sym, ap}
use Rattle.words.specs.Store.{Write, writes_key}
use Rattle.shards.specs.Shards.{logs_of, shard_meaning}
use Rattle.plans.proofs.Become.{became_touches, there_after}
use Rattle.plans.proofs.Covered.{became_hidden}
use Rattle.plans.proofs.Grown.{grown_hidden, grown_more}
use Rattle.plans.proofs.Spots.{go_hidden, go_last, tail_first}
use Rattle.plans.proofs.placing.place_before.Goals as goal

pub returns-then-writes_to-clause-became : goal.returns-then-writes_to-clause-became
returns-then-writes_to-clause-became g c = λ later became.
    let next : Write = c.args.next.now in
    let others : List Write = c.args.others.now in
    let hidden : writes_key others next.0 ≡ true = ap (writes_key others) (sym c.key.ensures) ∙ sym c.writes_to.ensures ∙ c.if-writes_to.true in
    became_hidden (shard_meaning g.R.Shows.is_steady) (g.P.Parts.stripes_of c.args.parts.now) next others (g.P.Parts.part_of c.args.parts.now) later hidden became

pub returns-then-writes_to-clause-grown : goal.returns-then-writes_to-clause-grown
returns-then-writes_to-clause-grown g c = λ later grown.
    let next : Write = c.args.next.now in
    let others : List Write = c.args.others.now in
    let hidden : writes_key others next.0 ≡ true = ap (writes_key others) (sym c.key.ensures) ∙ sym c.writes_to.ensures ∙ c.if-writes_to.true in
    grown_hidden (g.P.Parts.stripes_of c.args.parts.now) next others (logs_of (g.P.Parts.part_of c.args.parts.now)) later hidden grown

pub returns-then-writes_to-clause-targets : goal.returns-then-writes_to-clause-targets
returns-then-writes_to-clause-targets g c =
    go_hidden (g.P.Parts.stripes_of c.args.parts.now) (logs_of (g.P.Parts.part_of c.args.parts.now)) c.args.next.now c.args.others.now c.args.target.now c.args.further.now c.requires.targets

pub place_at-requires-clause-tail : goal.place_at-requires-clause-tail
place_at-requires-clause-tail g c =
    let next : Write = c.args.next.now in
    let others : List Write = c.args.others.now in
    let last : writes_key others next.0 ≡ false = ap (writes_key others) (sym c.key.ensures) ∙ sym c.writes_to.ensures ∙ c.if-writes_to.false in
    tail_first (g.P.Parts.stripes_of c.args.parts.now) (logs_of (g.P.Parts.part_of c.args.parts.now)) next others c.args.target.now c.args.further.now last c.requires.targets

pub returns-clause-became : goal.returns-clause-became
returns-clause-became g c = λ later became.
    became_touches (shard_meaning g.R.Shows.is_steady) (g.P.Parts.stripes_of c.args.parts.now) c.args.next.now c.args.others.now (g.P.Parts.part_of c.args.parts.now) (g.P.Parts.part_of c.place_at.new.parts) later
    c.place_at.ensures.became became

pub returns-clause-still : goal.returns-clause-still
returns-clause-still g c = λ keys there.
    there_after (shard_meaning g.R.Shows.is_steady) (g.P.Parts.stripes_of c.args.parts.now) keys (g.P.Parts.part_of c.args.parts.now) (g.P.Parts.part_of c.place_at.new.parts) c.place_at.ensures.became.there there

pub returns-clause-grown : goal.returns-clause-grown
returns-clause-grown g c = λ later grown.
    let next : Write = c.args.next.now in
    let others : List Write = c.args.others.now in
    let last : writes_key others next.0 ≡ false = ap (writes_key others) (sym c.key.ensures) ∙ sym c.writes_to.ensures ∙ c.if-writes_to.false in
    grown_more c.growth_adds_up.ensures (g.P.Parts.stripes_of c.args.parts.now) next others (logs_of (g.P.Parts.part_of c.args.parts.now)) (logs_of (g.P.Parts.part_of c.place_at.new.parts)) later last
    c.place_at.ensures.grown grown

pub returns-clause-targets : goal.returns-clause-targets
returns-clause-targets g c =
    let next : Write = c.args.next.now in
    let others : List Write = c.args.others.now in
    let last : writes_key others next.0 ≡ false = ap (writes_key others) (sym c.key.ensures) ∙ sym c.writes_to.ensures ∙ c.if-writes_to.false in
    go_last (g.P.Parts.stripes_of c.args.parts.now) (logs_of (g.P.Parts.part_of c.args.parts.now)) (logs_of (g.P.Parts.part_of c.place_at.new.parts)) next others c.args.target.now c.args.further.now last
    (λ other text at ne. c.place_at.ensures.spots other text at ne) c.place_at.ensures.tails c.requires.targets
