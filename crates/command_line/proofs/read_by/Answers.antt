-- Where the command is that of `garnetd`, a parse that succeeds gives each option a number in its range.
use Rattle.std.proofs.Common.{◌∙◌, ap, map, subst, sym}
use Rattle.clap.specs.Words.{App, HasKind, fault_of, takes}
use Rattle.clap.specs.Faults.{is_simple_and_free}
use Rattle.clap.proofs.FaultLemmas.{failed_up}
use Rattle.clap.proofs.TakesLemmas.{passed_up}
use Rattle.command_line.specs.CommandLine.{garnetd}
use Rattle.command_line.proofs.Parsed.{asks_for, garnetd_is_free, in_range}
use Rattle.command_line.proofs.read_by.Goals as goal

pub returns-in_err-matches-clause-taken : goal.returns-in_err-matches-clause-taken
returns-in_err-matches-clause-taken g c = λ is.
    passed_up c.from_residual.result c.in_err-matches.field-0.0 _ c.from_residual.ensures.1
    (λ taken. c.in_err-matches.ensures.passes (ap (λ (a : App). takes a (map g.S.AsStr.text c.args.words.now)) is ∙ taken))

pub returns-in_err-matches-clause-kinds : goal.returns-in_err-matches-clause-kinds
returns-in_err-matches-clause-kinds g c = λ is.
    let kinds = c.in_err-matches.ensures.kinds (ap is_simple_and_free is ∙ garnetd_is_free) in
    failed_up c.from_residual.result c.in_err-matches.field-0.0 _ (fault_of garnetd (map g.S.AsStr.text c.args.words.now)) c.from_residual.ensures.1
    (subst (λ (a : App). HasKind (fault_of a (map g.S.AsStr.text c.args.words.now)) c.in_err-matches.field-0.0) is kinds)

pub returns-in-Some-clause-ok : goal.returns-in-Some-clause-ok
returns-in-Some-clause-ok g c = λ is.
    let read = c.in_ok-matches.ensures.ok in
    let given = c.in-Some.ensures in
    asks_for c.args.command.now c.in_ok-matches.matches (map g.S.AsStr.text c.args.words.now) c.in-Some.options is
    (record { built = c.try_get_matches_from_mut.new.self; from = read.0; parsed = read.1 }) read.2 given.numbers
    c.in_ok-device.device c.in_ok-device.ensures given.device

pub returns-in-Some-clause-kinds : goal.returns-in-Some-clause-kinds
returns-in-Some-clause-kinds g c = λ is.
    sym (ap (λ (a : App). fault_of a (map g.S.AsStr.text c.args.words.now)) is)
    ∙ c.in_ok-matches.ensures.kinds (ap is_simple_and_free is ∙ garnetd_is_free)

pub returns-clause-taken : goal.returns-clause-taken
returns-clause-taken g c = λ is taken.
    let read = c.in_ok-matches.ensures.ok in
    absurd (c.in-None.ensures.none (in_range c.args.command.now c.in_ok-matches.matches is
    (record { built = c.try_get_matches_from_mut.new.self; from = read.0; parsed = read.1 })))

pub returns-clause-kinds : goal.returns-clause-kinds
returns-clause-kinds g c = λ is.
    let read = c.in_ok-matches.ensures.ok in
    absurd (c.in-None.ensures.none (in_range c.args.command.now c.in_ok-matches.matches is
    (record { built = c.try_get_matches_from_mut.new.self; from = read.0; parsed = read.1 })))
