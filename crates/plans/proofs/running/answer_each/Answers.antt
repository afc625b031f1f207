use Rattle.std.proofs.Common.{◌≡◌, ◌∙◌, ◌++◌, ◌∷◌, ℕ, List, refl, sym, subst}
use Rattle.words.specs.declared.command.Command.{Command}
use Rattle.words.specs.Answers.{answer}
use Rattle.words.specs.Commands.{keys_of, keys_of_all}
use Rattle.words.specs.Store.{Store, written}
use Rattle.hybrid.specs.Staging.{AreRight}
use Rattle.transact.specs.Tables.{AreThere, joined}
use Rattle.shards.specs.Shards.{shard_meaning}
use Rattle.plans.specs.Running.{HasRunOn}
use Rattle.plans.specs.Sizes.{AreSized}
use Rattle.plans.proofs.Keys.{there_append}
use Rattle.plans.proofs.Plans.{answer_there}
use Rattle.plans.proofs.Run.{replies_next, run_fits, there_both, writes_next}
use Rattle.plans.proofs.running.answer_each.Goals as goal

pub run_next-requires : goal.run_next-requires
run_next-requires g c =
    let n : ℕ = g.P.Parts.stripes_of c.args.parts.now in
    let inv = c.loop-command.invariant in
    let first : Command = c.in-Some.command.now in
    let others : List Command = c.in-Some.others.now in
    let parts = g.P.Parts.part_of c.args.parts.now in
    let all : AreThere n parts (keys_of first ++ keys_of_all others) = subst (λ (l : List Command). AreThere n parts (keys_of_all l)) c.in-Some.ensures.cases.0 inv.keys in
    let count = g.met.P.Parts.same_stripes c.args.parts.now c.loop-command.parts inv.keeps in
    record {
      may = record {
        can_lend = inv.is_open;
        there = rw count (subst (λ p. AreThere n p (keys_of first)) (sym inv.same) (there_append (shard_meaning g.R.Shows.is_steady) n parts (keys_of first) (keys_of_all others) all).0);
      };
    }

pub loop-command-preserved : goal.loop-command-preserved
loop-command-preserved g c =
    let n : ℕ = g.P.Parts.stripes_of c.args.parts.now in
    let inv = c.loop-command.invariant in
    let parts = g.P.Parts.part_of c.args.parts.now in
    let right = g.R.Shows.is_honest × AreRight c.args.staged.now in
    let contents = shard_meaning g.R.Shows.is_steady in
    let store : Store = joined contents n parts in
    let first : Command = c.in-Some.command.now in
    let others : List Command = c.in-Some.others.now in
    let is : c.loop-command.left.now ≡ first ∷ others = c.in-Some.ensures.cases.0 in
    let keys : AreThere n parts (keys_of first ++ keys_of_all others) = subst (λ (l : List Command). AreThere n parts (keys_of_all l)) is inv.keys in
    let each = there_append contents n parts (keys_of first) (keys_of_all others) keys in
    let sized : AreSized (first ∷ others) = subst AreSized is inv.sized in
    let count = g.met.P.Parts.same_stripes c.args.parts.now c.loop-command.parts inv.keeps in
    let here = rw count at c.in_ok-reply.ensures.ran in
    let on : HasRunOn right store first c.loop-command.writes c.run_next.new.writes c.in_ok-reply.reply =
    subst (λ p. HasRunOn right (joined contents n p) first c.loop-command.writes c.run_next.new.writes c.in_ok-reply.reply) inv.same here in
    record {
      is_open = c.run_next.ensures.held.open_still;
      keeps = g.met.P.Parts.keeps_both c.args.parts.now c.loop-command.parts c.run_next.new.parts inv.keeps c.run_next.ensures.held.kept;
      same = c.run_next.ensures.same ∙ inv.same;
      keys = each.1;
      sized = sized.1;
      fits = run_fits right store first c.loop-command.writes c.run_next.new.writes c.in_ok-reply.reply on inv.fits sized.0;
      there = there_both n parts c.loop-command.writes (answer (written on.found c.loop-command.writes) first).1 c.run_next.new.writes on.writes_are inv.there
          (answer_there contents n parts c.writes_named_keys.ensures first (written on.found c.loop-command.writes) (answer (written on.found c.loop-command.writes) first).1 refl each.0);
      replies = λ is_right. replies_next store first others c.loop-command.left.now c.loop-command.writes c.run_next.new.writes c.in_ok-reply.reply c.loop-command.replies.items c.push.new.self.items
          (on.is is_right) is c.in-Ok.ensures.items ∙ inv.replies is_right;
      writes = λ is_right. writes_next store first others c.loop-command.left.now c.loop-command.writes c.run_next.new.writes c.in_ok-reply.reply
          (on.is is_right) is ∙ inv.writes is_right;
    }
