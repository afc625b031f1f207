use Rattle.std.proofs.Common.{rules, [], ap, ◌∙◌}
use Rattle.streams.specs.Streams.{told_of}
use Rattle.streams.specs.Laws.{Keeps-same, Appends-none, Consumes-none, HasFailed-told}
use Rattle.connection.specs.declared.serving.Ended.{Ended}
use Rattle.connection.specs.Served.{reader_told, writer_told}
use Rattle.connection.proofs.Conversing.{served_nothing, served_unheard, served_later}
use Rattle.connection.proofs.serving.serve.Goals as goal

pub returns-in-Failure-clause-served : goal.returns-in-Failure-clause-served
returns-in-Failure-clause-served g c =
    ([], [], Consumes-none _ _ (Keeps-same _), Appends-none _ _ (Keeps-same _), served_unheard _ c.requires.watches)

pub returns-in_default-with_capacity-clause-served : goal.returns-in_default-with_capacity-clause-served
returns-in_default-with_capacity-clause-served g c =
    ([], [], Consumes-none _ _ (Keeps-same _), Appends-none _ _ (Keeps-same _), served_nothing _ c.requires.watches)

pub returns-clause-served : goal.returns-clause-served
returns-clause-served g c =
    let served = c.converse-ended.ensures.served in
    let same = rw c.new-store.ensures at served.4 in
    (served.0, served.1, served.2, served.3, served_later _ _ _ _ _ _ same c.forget.ensures.went c.forget.ensures.no_failure)

pub converse-ended-requires-clause-begins : goal.converse-ended-requires-clause-begins
converse-ended-requires-clause-begins g c = search rules

pub returns-clause-reader_failed : goal.returns-clause-reader_failed
returns-clause-reader_failed g c = λ is.
    HasFailed-told c.converse-ended.new.reader (c.converse-ended.ensures.reader_told ∙ ap (λ (e : Ended). reader_told e (told_of c.args.reader.now)) is)

pub returns-clause-writer_failed : goal.returns-clause-writer_failed
returns-clause-writer_failed g c = λ is.
    HasFailed-told c.converse-ended.new.writer (c.converse-ended.ensures.writer_told ∙ ap (λ (e : Ended). writer_told e (told_of c.args.writer.now)) is)
