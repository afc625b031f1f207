use Rattle.std.proofs.Common.{◌<◌, ◌∙◌, ap, sym, subst, IsTrue}
use Rattle.resp_read.specs.Unread.{Held, kept, unread}
use Rattle.resp_read.proofs.ReaderLemmas.{noted_begun, unread_noted, held_of}
use Rattle.resp_read.proofs.reader.Reader.note.Goals as goal

pub invariant_of-self : goal.invariant_of-self
invariant_of-self c =
    (c.self.invariant.0, noted_begun c.self.inside.due c.self.inside.size (kept c.self.inside.words) c.args.refused c.self.invariant.0 (subst (λ (h : Held). IsTrue c.args.refused → 0 < h.count) (sym c.self.view_is) c.requires))

pub returns-clause-unread : goal.returns-clause-unread
returns-clause-unread c = unread_noted (held_of c.self.inside.due (kept c.self.inside.words) c.self.inside.pieces c.self.inside.lacks_memory) c.args.refused ∙ ap unread c.self.view_is
