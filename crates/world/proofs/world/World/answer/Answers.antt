use Rattle.std.proofs.Common.{refl, ℕ, ◌∙◌, subst}
use Rattle.world.specs.Peers.{HasAnswered}
use Rattle.world.proofs.Worlds.{endable_set, ok_then, read_at}
use Rattle.world.proofs.world.World.answer.Goals as goal

pub returns-in_err-operation-clause-endable : goal.returns-in_err-operation-clause-endable
returns-in_err-operation-clause-endable c =
    endable_set c.args.self.now.members.items c.args.client (record c.index_mut.result.now { peer = c.answer.new.self }) c.requires.endable c.answer.ensures.endable

pub returns-clause-answered : goal.returns-clause-answered
returns-clause-answered c =
    ok_then c.note.result
    (λ noted. record {
      one = c.index_mut.result.now;
      there = read_at c.args.self.now.members.items c.args.client _ c.index_mut.result.now c.args.self.now.members.ok.0 c.requires.within c.index_mut.ensures.value;
      peer = c.answer.new.self;
      done = (c.in_ok-operation.operation, c.in_ok-operation.reply);
      answered = subst (λ (n : ℕ). HasAnswered c.index_mut.result.now.peer c.index_mut.result.now.peer.phase c.args.reply n (c.in_ok-operation.operation, c.in_ok-operation.reply) c.answer.new.self)
          (c.len-position.ensures ∙ c.args.self.now.history.ok.0) c.in_ok-operation.ensures.answered;
      steady = c.in_ok-operation.ensures.steady;
      else_same = refl;
      history = noted;
    })
    c.note.ensures

pub returns-clause-endable : goal.returns-clause-endable
returns-clause-endable c =
    endable_set c.args.self.now.members.items c.args.client (record c.index_mut.result.now { peer = c.answer.new.self }) c.requires.endable c.answer.ensures.endable
