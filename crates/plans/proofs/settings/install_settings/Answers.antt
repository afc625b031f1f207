use Rattle.std.proofs.Common.{◌≡◌, ℕ, List, [], ◌∷◌, Some, refl, sym, subst, ap}
use Rattle.words.specs.Answers.{writes_set}
use Rattle.words.specs.Briefs.{pairs_of}
use Rattle.words.specs.Store.{Bytes, Write}
use Rattle.hybrid.specs.Writing.{AreFit}
use Rattle.transact.specs.Tables.{Became, touches}
use Rattle.shards.specs.Rooms.{AreRoomy, HaveGrown}
use Rattle.shards.specs.Shards.{logs_of, shard_meaning}
use Rattle.plans.proofs.Become.{became_unwritten}
use Rattle.plans.proofs.Grown.{grown_none}
use Rattle.plans.proofs.Waits.{waits_both}
use Rattle.plans.proofs.settings.install_settings.Goals as goal

pub loop-first-init : goal.loop-first-init
loop-first-init g c = record {
  is_open = c.requires.open;
  keeps = g.met.P.Parts.keeps_same c.args.parts.now;
  waits = λ j. refl;
  room = c.requires.room;
  fits = c.requires.fits;
  became = λ later became. became;
  grown = λ later grown. grown;
}

pub set_before-requires-clause-open : goal.set_before-requires-clause-open
set_before-requires-clause-open g c = c.loop-first.invariant.is_open

pub set_before-requires-clause-room : goal.set_before-requires-clause-room
set_before-requires-clause-room g c =
    let count = g.met.P.Parts.same_stripes c.args.parts.now c.loop-first.parts c.loop-first.invariant.keeps in
    let next : List Write = (c.in-Some.first.key.now, Some c.in-Some.first.value.now) ∷ writes_set (pairs_of c.in-Some.first.others.now) in
    subst (λ (m : ℕ). AreRoomy m (logs_of (g.P.Parts.part_of c.loop-first.parts)) next) (sym count)
    (subst (λ (words : List Bytes). AreRoomy (g.P.Parts.stripes_of c.args.parts.now) (logs_of (g.P.Parts.part_of c.loop-first.parts)) (writes_set (pairs_of words))) c.in-Some.ensures.some c.loop-first.invariant.room)

pub set_before-requires-clause-fits : goal.set_before-requires-clause-fits
set_before-requires-clause-fits g c =
    let next : List Write = (c.in-Some.first.key.now, Some c.in-Some.first.value.now) ∷ writes_set (pairs_of c.in-Some.first.others.now) in
    let all : AreFit next = subst (λ (words : List Bytes). AreFit (writes_set (pairs_of words))) c.in-Some.ensures.some c.loop-first.invariant.fits in
    all.0

pub loop-first-preserved : goal.loop-first-preserved
loop-first-preserved g c =
    let n : ℕ = (g.P.Parts.stripes_of c.args.parts.now) in
    let inv = c.loop-first.invariant in
    let first : Write = (c.in-Some.first.key.now, Some c.in-Some.first.value.now) in
    let others : List Write = writes_set (pairs_of c.in-Some.first.others.now) in
    let is : writes_set (pairs_of c.loop-first.left.now) ≡ first ∷ others = ap (λ (words : List Bytes). writes_set (pairs_of words)) c.in-Some.ensures.some in
    let before = g.P.Parts.part_of c.loop-first.parts in
    let all : AreFit (first ∷ others) = subst AreFit is inv.fits in
    let count = g.met.P.Parts.same_stripes c.args.parts.now c.loop-first.parts inv.keeps in
    let room = rw count at c.set_before.ensures.room in
    let step = rw count at c.set_before.ensures.became in
    let growth = rw count at c.set_before.ensures.grown in
    record {
      is_open = c.set_before.ensures.held.open_still;
      keeps = g.met.P.Parts.keeps_both c.args.parts.now c.loop-first.parts c.set_before.new.parts inv.keeps c.set_before.ensures.held.kept;
      waits = waits_both (g.P.Parts.part_of c.args.parts.now) before (g.P.Parts.part_of c.set_before.new.parts) inv.waits c.set_before.ensures.waits;
      room = room;
      fits = all.1;
      became = λ later became. inv.became later
          (subst (λ (l : List Write). Became (shard_meaning g.R.Shows.is_steady) n l (touches l) before later) (sym is) (step later became));
      grown = λ later grown. inv.grown later (subst (λ (l : List Write). HaveGrown n l (logs_of before) later) (sym is) (growth later grown));
    }

pub returns-clause-became : goal.returns-clause-became
returns-clause-became g c =
    let n : ℕ = (g.P.Parts.stripes_of c.args.parts.now) in
    let parts = g.P.Parts.part_of c.loop-first.parts in
    let none : writes_set (pairs_of c.loop-first.left.now) ≡ [] = ap writes_set c.in_default.ensures.none in
    c.loop-first.invariant.became parts
    (subst (λ (l : List Write). Became (shard_meaning g.R.Shows.is_steady) n l (touches l) parts parts) (sym none) (became_unwritten (shard_meaning g.R.Shows.is_steady) n parts parts (λ j. refl)))

pub returns-clause-grown : goal.returns-clause-grown
returns-clause-grown g c =
    let n : ℕ = (g.P.Parts.stripes_of c.args.parts.now) in
    let logs = logs_of (g.P.Parts.part_of c.loop-first.parts) in
    let none : writes_set (pairs_of c.loop-first.left.now) ≡ [] = ap writes_set c.in_default.ensures.none in
    c.loop-first.invariant.grown logs (subst (λ (l : List Write). HaveGrown n l logs logs) (sym none) (grown_none c.growth_adds_up.ensures n logs))

pub returns-clause-waits : goal.returns-clause-waits
returns-clause-waits g c = c.loop-first.invariant.waits
