use Rattle.std.proofs.Common.{◌≡◌, ◌∷◌, [], ◌++◌, ◌+◌, length, sym, ap, ◌∙◌, subst}
use Rattle.std.proofs.lemmas.List.{length-append}
use Rattle.words.specs.Bounds.{AreBounded}
use Rattle.words.specs.History.{MayAllBeQueued}
use Rattle.words.specs.Session.{is_too_large}
use Rattle.session.specs.Transactions.{Transaction}
use Rattle.session.proofs.Queued.{one_more, one_more_bounded}
use Rattle.session.proofs.queueing.Session+Queueing.queue_within.Goals as goal

pub invariant_of-mode : goal.invariant_of-mode
invariant_of-mode c =
    let items : c.push.new.self.items ≡ c.mode.inside.queue.items ++ c.args.command ∷ [] = c.in-Ok.ensures.items in
    record {
      fits = ap (λ n. is_too_large n c.args.size.words c.args.size.bytes)
          (ap length items ∙ length-append c.mode.inside.queue.items (c.args.command ∷ []) ∙ ap (λ (t : Transaction). length t.queue + 1) c.mode.view_is)
          ∙ c.requires.fits;
      bounded = subst AreBounded (sym items) (one_more_bounded _ _ c.mode.invariant.bounded c.requires.bounded);
      may_run = subst MayAllBeQueued (sym items) (one_more _ _ c.mode.invariant.may_run c.requires.may_run);
    }
