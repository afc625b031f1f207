use Rattle.std.proofs.Common.{◌∙◌, ℕ, List, ap, sym, subst, cond, nat_lt}
use Rattle.words.specs.declared.limits.TheConstants.{WEIGHT_MAX}
use Rattle.words.specs.declared.history.Operation.{Operation}
use Rattle.words.specs.declared.reply.Reply.{Reply}
use Rattle.words.specs.declared.reply.Reply.TheVariants as reply
use Rattle.words.specs.History.{too_much}
use Rattle.words.specs.Store.{Write, weight}
use Rattle.hybrid.specs.Staging.{AreRight}
use Rattle.transact.specs.Plans.{IsPlan}
use Rattle.shards.specs.Shards.{shard_meaning}
use Rattle.plans.specs.Planning.{AreSettled}
use Rattle.plans.specs.Running.{HaveRun}
use Rattle.plans.proofs.Plans.{dirty_is, plan_of_run}
use Rattle.plans.proofs.Questions.{light_settled}
use Rattle.plans.proofs.placing.place_exec.Goals as goal

pub returns-clause-placed : goal.returns-clause-placed
returns-clause-placed g c =
    let n : ℕ = g.P.Parts.stripes_of c.args.parts.now in
    let parts = g.P.Parts.part_of c.args.parts.now in
    let right = g.R.Shows.is_honest × AreRight c.args.staged.now in
    let contents = shard_meaning g.R.Shows.is_steady in
    let writes : List Write = c.in_ok-replies.placing.writes in
    let said : Reply = reply.Array c.from_vec.result in
    let count = g.met.P.Parts.same_stripes c.args.parts.now c.any_marked.new.parts c.any_marked.ensures.held.kept in
    let ran : HaveRun right contents n parts c.args.commands.now c.in_ok-replies.replies.items writes = rw (count, c.any_marked.ensures.same) at c.in_ok-replies.ensures.ran in
    let settled : AreSettled said writes said writes = light_settled said writes (c.have_tails.ensures.light c.if-not-have_tails.false) in
    record {
      due = λ is_right seen operation asks.
          subst (λ (o : Operation). IsPlan seen o said writes) (sym asks.is)
          (plan_of_run contents n parts c.depends_on_named_keys.ensures seen c.args.commands.now asks.watched (c.in_ok-replies.replies.items, writes) said writes
          (dirty_is contents n parts seen (g.P.Parts.holder_of c.args.parts.now) asks.watched c.args.watching.now c.any_marked.result asks.ends c.any_marked.ensures.marks asks.stand.marked c.requires.watching asks.once ∙ c.if-any_marked.false)
          (ran.are is_right) asks.stand.read c.requires.may.there (settled.reply_is ∙ ap (λ l. cond (nat_lt WEIGHT_MAX (weight writes)) too_much (reply.Array l)) c.from_vec.ensures) settled.writes_are);
      fits = ran.fits;
      there = ran.there;
      targets = rw (g.met.P.Parts.same_stripes c.any_marked.new.parts c.place_each.new.parts c.place_each.ensures.held.kept, c.place_each.ensures.same, count, c.any_marked.ensures.same) at (c.have_tails.ensures.targets c.if-not-have_tails.false);
      left = rw (g.met.P.Parts.same_stripes c.any_marked.new.parts c.place_each.new.parts c.place_each.ensures.held.kept, c.place_each.ensures.same, count, c.any_marked.ensures.same) at (c.have_tails.ensures.left c.if-not-have_tails.false);
    }
