use Rattle.std.proofs.Common.{◌≡◌, refl, ap, ◌∙◌}
use Rattle.words.specs.Session.{Idle}
use Rattle.transact.specs.Calls.{watched_with}
use Rattle.session.specs.Standings.{stands, ForAnswer}
use Rattle.session.proofs.Watched.{takes_back}
use Rattle.session.proofs.idle.Session+Idle.watch_new.Goals as goal

pub returns : goal.returns
returns c =
    let is : c.add.new.self ≡ watched_with c.args.self.watching c.args.keys =
    c.in_default.ensures.ok ∙ ap (watched_with c.args.self.watching) c.as_slice.ensures in
    let back = takes_back c.args.keys c.args.self.watching c.add.new.self c.len-before.result is c.len-before.ensures in
    ((refl, λ i. ForAnswer (stands Idle (is i)) (stands Idle (back i))), λ pairs. tt)
