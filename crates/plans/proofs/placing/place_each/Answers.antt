use Rattle.std.proofs.Common.{◌≡◌, ◌∙◌, ◌++◌, ◌∷◌, ℕ, List, subst, sym}
use Rattle.words.specs.declared.command.Command.{Command}
use Rattle.words.specs.Commands.{keys_of, keys_of_all}
use Rattle.words.specs.Store.{Store, Write}
use Rattle.hybrid.specs.Staging.{AreRight}
use Rattle.transact.specs.Tables.{AreThere, joined}
use Rattle.shards.specs.Shards.{shard_meaning}
use Rattle.plans.specs.Placing.{writes_of}
use Rattle.plans.specs.Running.{HasRunOn}
use Rattle.plans.specs.Sizes.{AreSized}
use Rattle.plans.proofs.Keys.{there_append}
use Rattle.plans.proofs.Run.{replies_next, run_fits, writes_next}
use Rattle.plans.proofs.placing.place_each.Goals as goal

pub place_next-requires-clause-may : goal.place_next-requires-clause-may
place_next-requires-clause-may g c =
    let n : ℕ = g.P.Parts.stripes_of c.args.parts.now in
    let inv = c.loop-command.invariant in
    let first : Command = c.in-Some.command.now in
    let others : List Command = c.in-Some.others.now in
    let parts = g.P.Parts.part_of c.args.parts.now in
    let all : AreThere n parts (keys_of first ++ keys_of_all others) = subst (λ (l : List Command). AreThere n parts (keys_of_all l)) c.in-Some.ensures.cases.0 inv.keys in
    let count = g.met.P.Parts.same_stripes c.args.parts.now c.loop-command.parts inv.keeps in
    record {
      can_lend = inv.is_open;
      there = rw count (subst (λ p. AreThere n p (keys_of first)) (sym inv.same) (there_append (shard_meaning g.R.Shows.is_steady) n parts (keys_of first) (keys_of_all others) all).0);
    }

pub loop-command-preserved : goal.loop-command-preserved
loop-command-preserved g c =
    let n : ℕ = g.P.Parts.stripes_of c.args.parts.now in
    let inv = c.loop-command.invariant in
    let parts = g.P.Parts.part_of c.args.parts.now in
    let right = g.R.Shows.is_honest × AreRight c.args.staged.now in
    let contents = shard_meaning g.R.Shows.is_steady in
    let store : Store = joined contents n parts in
    let first : Command = c.in-Some.command.now in
    let others : List Command = c.in-Some.others.now in
    let is : c.loop-command.left.now ≡ first ∷ others = c.in-Some.ensures.cases.0 in
    let before : List Write = writes_of c.loop-command.placing in
    let after : List Write = writes_of c.place_next.new.placing in
    let keys : AreThere n parts (keys_of first ++ keys_of_all others) = subst (λ (l : List Command). AreThere n parts (keys_of_all l)) is inv.keys in
    let each = there_append contents n parts (keys_of first) (keys_of_all others) keys in
    let sized : AreSized (first ∷ others) = subst AreSized is inv.sized in
    let count = g.met.P.Parts.same_stripes c.args.parts.now c.loop-command.parts inv.keeps in
    let on : HasRunOn right store first before after c.in_ok-reply.reply = rw (count, inv.same) at c.in_ok-reply.ensures.ran in
    record {
      is_open = c.place_next.ensures.held.open_still;
      keeps = g.met.P.Parts.keeps_both c.args.parts.now c.loop-command.parts c.place_next.new.parts inv.keeps c.place_next.ensures.held.kept;
      same = c.place_next.ensures.same ∙ inv.same;
      keys = each.1;
      sized = sized.1;
      targets = rw (count, inv.same) at c.in_ok-reply.ensures.targets;
      fits = run_fits right store first before after c.in_ok-reply.reply on inv.fits sized.0;
      there = rw (count, inv.same) at c.in_ok-reply.ensures.written;
      replies = λ is_right. replies_next store first others c.loop-command.left.now before after c.in_ok-reply.reply c.loop-command.replies.items c.push.new.self.items
          (on.is is_right) is c.in-Ok.ensures.items ∙ inv.replies is_right;
      writes = λ is_right. writes_next store first others c.loop-command.left.now before after c.in_ok-reply.reply
          (on.is is_right) is ∙ inv.writes is_right;
    }
