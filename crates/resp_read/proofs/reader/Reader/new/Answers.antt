use Rattle.std.proofs.Common.{rules, ◌∙◌, [], false, refl, ap}
use Rattle.resp_read.specs.Pieces.{joined}
use Rattle.resp_read.proofs.ReaderLemmas.{unread_between, held_of}
use Rattle.resp_read.proofs.reader.Reader.new.Goals as goal

pub returns-clause-unread : goal.returns-clause-unread
returns-clause-unread c = unread_between (held_of 0 [] c.new.result false) refl ∙ ap joined c.new.ensures

pub returns-clause-between : goal.returns-clause-between
returns-clause-between c = search rules
