use Rattle.std.proofs.Common.{◌≡◌, ◌∙◌, ◌++◌, [], List, append-nil, refl, sym, ap}
use Rattle.words.specs.declared.command.Command.{Command}
use Rattle.words.specs.Answers.{answers}
use Rattle.strings.specs.Overlays.{shown}
use Rattle.plans.proofs.Plans.{replies_more, writes_more}
use Rattle.plans.proofs.Rooms.{no_share}
use Rattle.plans.proofs.find.run_all.Goals as goal

pub loop-command-init : goal.loop-command-init
loop-command-init c = record { replies = refl; writes = refl }

pub loop-command-preserved : goal.loop-command-preserved
loop-command-preserved c =
    let inv = c.loop-command.invariant in
    record {
      replies = replies_more c.loop-command.overlay c.run.new.overlay c.in-Some.command.now c.in-Some.others.now c.loop-command.left.now c.in_ok-reply.ensures.writes c.run.ensures.found c.in-Some.ensures.cases.0
          c.loop-command.replies.items c.push.new.self.items _ c.in_ok-reply.reply c.in_ok-reply.ensures.reply c.in_ok-push.ensures.items refl ∙ inv.replies;
      writes = writes_more c.loop-command.overlay c.run.new.overlay c.in-Some.command.now c.in-Some.others.now c.loop-command.left.now c.in_ok-reply.ensures.writes c.run.ensures.found c.in-Some.ensures.cases.0
          _ refl ∙ inv.writes;
    }

pub returns-clause-replies : goal.returns-clause-replies
returns-clause-replies c =
    let none : c.loop-command.left.now ≡ [] = no_share c.loop-command.left.now c.in_default.ensures.cases in
    sym (append-nil c.loop-command.replies.items) ∙ ap (λ (l : List Command). c.loop-command.replies.items ++ (answers (shown c.loop-command.overlay) l).0) (sym none) ∙ c.loop-command.invariant.replies

pub returns-clause-writes : goal.returns-clause-writes
returns-clause-writes c =
    let none : c.loop-command.left.now ≡ [] = no_share c.loop-command.left.now c.in_default.ensures.cases in
    sym (append-nil c.loop-command.overlay.writes) ∙ ap (λ (l : List Command). c.loop-command.overlay.writes ++ (answers (shown c.loop-command.overlay) l).1) (sym none) ∙ c.loop-command.invariant.writes
