use Rattle.std.proofs.Common.{ℕ, List, sym, subst}
use Rattle.words.specs.declared.history.Operation.{Operation}
use Rattle.words.specs.declared.reply.Reply.{Reply}
use Rattle.words.specs.declared.reply.Reply.TheVariants as reply
use Rattle.words.specs.Store.{Write}
use Rattle.hybrid.specs.Staging.{AreRight}
use Rattle.hybrid.specs.Writing.{AreFit}
use Rattle.transact.specs.Plans.{IsPlan}
use Rattle.transact.specs.Tables.{joined}
use Rattle.shards.specs.Shards.{shard_meaning}
use Rattle.plans.specs.Planning.{AreSettled}
use Rattle.plans.proofs.Plans.{plan_of_answer}
use Rattle.plans.proofs.Questions.{light_settled}
use Rattle.plans.proofs.Run.{first_writes, run_first}
use Rattle.plans.proofs.placing.place_one.Goals as goal

pub returns-clause-placed : goal.returns-clause-placed
returns-clause-placed g c =
    let n : ℕ = g.P.Parts.stripes_of c.args.parts.now in
    let parts = g.P.Parts.part_of c.args.parts.now in
    let right = g.R.Shows.is_honest × AreRight c.args.staged.now in
    let contents = shard_meaning g.R.Shows.is_steady in
    let writes : List Write = c.place_next.new.placing.writes in
    let said : Reply = reply.Single c.in_ok-reply.reply in
    let count = g.met.P.Parts.same_stripes c.args.parts.now c.place_next.new.parts c.place_next.ensures.held.kept in
    let on = c.in_ok-reply.ensures.ran in
    let settled : AreSettled said writes said writes = light_settled said writes (c.have_tails.ensures.light c.if-not-have_tails.false) in
    record {
      due = λ is_right seen operation asks.
          subst (λ (o : Operation). IsPlan seen o said writes) (sym asks.is)
          (plan_of_answer contents n parts c.depends_on_named_keys.ensures seen c.args.command.now (c.in_ok-reply.reply, writes) said writes c.requires.touches
          (run_first right (joined contents n parts) c.args.command.now c.nothing_placed-placing.result.writes writes c.in_ok-reply.reply on c.nothing_placed-placing.ensures.writes is_right)
          asks.read c.requires.may.there settled.reply_is settled.writes_are);
      fits = subst AreFit (sym (first_writes right (joined contents n parts) c.args.command.now c.nothing_placed-placing.result.writes writes c.in_ok-reply.reply on c.nothing_placed-placing.ensures.writes))
          (c.requires.sized on.found on.short);
      there = c.in_ok-reply.ensures.written;
      targets = rw (count, c.place_next.ensures.same) at (c.have_tails.ensures.targets c.if-not-have_tails.false);
      left = rw (count, c.place_next.ensures.same) at (c.have_tails.ensures.left c.if-not-have_tails.false);
    }
