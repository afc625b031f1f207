use Rattle.std.proofs.Common.{rules, ◌≡◌, ◌∙◌, [], refl, ap}
use Rattle.resp_read.specs.Unread.{unread}
use Rattle.connection.specs.Clients.{Progress}
use Rattle.connection.proofs.client.Client.feed.Goals as goal
use Rattle.connection.proofs.client.Client.feed.Goals.{in-Ok, in-Err+in-None-1, in-Err+in-Some-1}

pub returns-clause-ok : goal.returns-clause-ok
returns-clause-ok c = search rules

pub returns-clause-first : goal.returns-clause-first
returns-clause-first c = λ none.
    let held : unread c.self.inside.reader ≡ [] = ap (λ (p : Progress). p.unread) c.self.view_is ∙ none in
    elim c.match-feed.branch [
      | in-Ok w ↦ rw w.result-is refl
      | in-Err+in-None-1 w ↦ absurd (cc (rw w.in-Err.is at (c.feed.ensures.none held)))
      | in-Err+in-Some-1 w ↦ absurd (cc (rw w.in-Err.is at (c.feed.ensures.none held)))
    ]
