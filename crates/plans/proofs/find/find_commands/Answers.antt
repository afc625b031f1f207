use Rattle.std.proofs.Common.{◌≡◌, ◌∙◌, ◌++◌, ◌∷◌, [], ℕ, List, true, refl, sym, subst}
use Rattle.words.specs.declared.command.Command.{Command}
use Rattle.words.specs.Store.{Bytes, Store}
use Rattle.words.specs.Commands.{keys_of, keys_of_all}
use Rattle.words.specs.History.{is_among}
use Rattle.hybrid.specs.HybridLog.{Kept}
use Rattle.hybrid.specs.Staging.{AreRight}
use Rattle.transact.specs.Tables.{AreThere, joined}
use Rattle.shards.specs.Shards.{logs_of, shard_meaning}
use Rattle.plans.specs.Stops.{HasFound, IsNeeded}
use Rattle.plans.proofs.Found.{found_both, found_none, found_within, within_first, within_second}
use Rattle.plans.proofs.Keys.{there_append}
use Rattle.plans.proofs.Rooms.{no_share}
use Rattle.plans.proofs.find.find_commands.Goals as goal

pub loop-command-init : goal.loop-command-init
loop-command-init g c = record {
  is_open = c.requires.may.can_lend;
  keeps = g.met.P.Parts.keeps_same c.args.parts.now;
  same = refl;
  lent = λ lent. refl;
  there = c.requires.may.there;
  within = λ key e. e;
  found = λ cold found has. has;
}

pub find_command-requires : goal.find_command-requires
find_command-requires g c =
    let n : ℕ = (g.P.Parts.stripes_of c.args.parts.now) in
    let first : Command = c.in-Some.command.now in
    let others : List Command = c.in-Some.others.now in
    let parts = g.P.Parts.part_of c.args.parts.now in
    let all : AreThere n parts (keys_of first ++ keys_of_all others) = subst (λ (l : List Command). AreThere n parts (keys_of_all l)) c.in-Some.ensures.cases.0 c.loop-command.invariant.there in
    let count = g.met.P.Parts.same_stripes c.args.parts.now c.loop-command.parts c.loop-command.invariant.keeps in
    record {
      may = record {
        can_lend = c.loop-command.invariant.is_open;
        there = rw count (subst (λ p. AreThere n p (keys_of first)) (sym c.loop-command.invariant.same) (there_append (shard_meaning g.R.Shows.is_steady) n parts (keys_of first) (keys_of_all others) all).0);
      };
    }

pub loop-command-preserved : goal.loop-command-preserved
loop-command-preserved g c =
    let n : ℕ = (g.P.Parts.stripes_of c.args.parts.now) in
    let inv = c.loop-command.invariant in
    let first : Command = c.in-Some.command.now in
    let others : List Command = c.in-Some.others.now in
    let is : c.loop-command.left.now ≡ first ∷ others = c.in-Some.ensures.cases.0 in
    let parts = g.P.Parts.part_of c.args.parts.now in
    let all : List Bytes = keys_of_all c.args.commands.now in
    let Right : Type 0 = g.R.Shows.is_honest × AreRight c.args.staged.now in
    let store : Store = joined (shard_meaning g.R.Shows.is_steady) n parts in
    let W : Kept → Type 0 = IsNeeded (g.R.Shows.is_honest × AreRight c.args.staged.now) n (logs_of parts) all c.args.staged.now in
    let there : AreThere n parts (keys_of first ++ keys_of_all others) = subst (λ (l : List Command). AreThere n parts (keys_of_all l)) is inv.there in
    let count = g.met.P.Parts.same_stripes c.args.parts.now c.loop-command.parts inv.keeps in
    let here = rw count at c.in_ok-find_command.ensures.found in
    let one : HasFound (IsNeeded (g.R.Shows.is_honest × AreRight c.args.staged.now) n (logs_of parts) (keys_of first) c.args.staged.now) Right store (keys_of first) c.loop-command.cold c.find_command.new.cold c.loop-command.found c.find_command.new.found =
    subst (λ p. HasFound (IsNeeded (g.R.Shows.is_honest × AreRight c.args.staged.now) n (logs_of p) (keys_of first) c.args.staged.now) (g.R.Shows.is_honest × AreRight c.args.staged.now) (joined (shard_meaning g.R.Shows.is_steady) n p) (keys_of first) c.loop-command.cold c.find_command.new.cold c.loop-command.found c.find_command.new.found)
    inv.same here in
    let whole = subst (λ (l : List Command). (k : Bytes) → is_among (keys_of_all l) k ≡ true → is_among all k ≡ true) is inv.within in
    record {
      is_open = c.find_command.ensures.held.open_still;
      keeps = g.met.P.Parts.keeps_both c.args.parts.now c.loop-command.parts c.find_command.new.parts inv.keeps c.find_command.ensures.held.kept;
      same = c.find_command.ensures.same ∙ inv.same;
      lent = λ lent. c.find_command.ensures.lent lent ∙ inv.lent lent;
      there = (there_append (shard_meaning g.R.Shows.is_steady) n parts (keys_of first) (keys_of_all others) there).1;
      within = within_second (keys_of first) (keys_of_all others) all whole;
      found = λ cold found has.
          inv.found cold found
          (subst (λ (l : List Command). HasFound W Right store (keys_of_all l) c.loop-command.cold cold c.loop-command.found found) (sym is)
          (found_both W Right store (keys_of first) (keys_of_all others) c.loop-command.cold c.find_command.new.cold cold c.loop-command.found c.find_command.new.found found
          (found_within n (logs_of parts) (keys_of first) all c.args.staged.now Right store (keys_of first) c.loop-command.cold c.find_command.new.cold c.loop-command.found c.find_command.new.found
          (within_first (keys_of first) (keys_of_all others) all whole) one) has));
    }

pub returns-clause-found : goal.returns-clause-found
returns-clause-found g c =
    let n : ℕ = (g.P.Parts.stripes_of c.args.parts.now) in
    let parts = g.P.Parts.part_of c.args.parts.now in
    let Right : Type 0 = g.R.Shows.is_honest × AreRight c.args.staged.now in
    let store : Store = joined (shard_meaning g.R.Shows.is_steady) n parts in
    let W : Kept → Type 0 = IsNeeded (g.R.Shows.is_honest × AreRight c.args.staged.now) n (logs_of parts) (keys_of_all c.args.commands.now) c.args.staged.now in
    let none : c.loop-command.left.now ≡ [] = no_share c.loop-command.left.now c.in_default.ensures.cases in
    c.loop-command.invariant.found c.loop-command.cold c.loop-command.found
    (subst (λ (l : List Command). HasFound W Right store (keys_of_all l) c.loop-command.cold c.loop-command.cold c.loop-command.found c.loop-command.found) (sym none)
    (found_none W Right store c.loop-command.cold c.loop-command.found))
