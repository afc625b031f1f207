use Rattle.std.proofs.Common.{◌≡◌, ◌∙◌, ap, codes, map, refl, subst, sym, true}
use Rattle.clap.specs.Words.{App, HasKind, fault_of, first_of, found_of, is_simple, matches_of, takes}
use Rattle.clap.specs.Faults.{is_simple_and_free}
use Rattle.clap.proofs.FaultLemmas.{failed_up}
use Rattle.clap.proofs.TakesLemmas.{passed_up}
use Rattle.clap.proofs.WalkLemmas.{first_value-rows}
use Rattle.replaying.specs.CommandLine.{replay, shown_by, until_by}
use Rattle.replaying.proofs.command_line.asked_by.Goals as goal

replay_is_simple : is_simple replay ≡ true
unfolding replay
replay_is_simple = refl

replay_is_free : is_simple_and_free replay ≡ true
unfolding replay
replay_is_free = refl

pub returns-in_err-matches-clause-taken : goal.returns-in_err-matches-clause-taken
returns-in_err-matches-clause-taken g c =
    passed_up c.from_residual-in_err-matches.result c.in_err-matches.field-0.0 _ c.from_residual-in_err-matches.ensures.1
    (λ taken. c.in_err-matches.ensures.passes (ap (λ (a : App). takes a (map g.S.AsStr.text c.args.words.now)) c.in_ok-command.ensures ∙ taken))

pub returns-in_err-matches-clause-kinds : goal.returns-in_err-matches-clause-kinds
returns-in_err-matches-clause-kinds g c =
    let kinds = c.in_err-matches.ensures.kinds (ap is_simple_and_free c.in_ok-command.ensures ∙ replay_is_free) in
    failed_up c.from_residual-in_err-matches.result c.in_err-matches.field-0.0 _ (fault_of replay (map g.S.AsStr.text c.args.words.now))
    c.from_residual-in_err-matches.ensures.1
    (subst (λ (a : App). HasKind (fault_of a (map g.S.AsStr.text c.args.words.now)) c.in_err-matches.field-0.0) c.in_ok-command.ensures kinds)

pub returns-clause-file : goal.returns-clause-file
returns-clause-file g c =
    let rows = (c.in_ok-matches.ensures.matches (ap is_simple c.in_ok-command.ensures ∙ replay_is_simple)).0 in
    c.get_str.ensures ∙ first_value-rows (found_of c.in_ok-matches.matches) (codes "file")
    ∙ ap (first_of (codes "file")) (rows ∙ ap (λ (a : App). matches_of a (map g.S.AsStr.text c.args.words.now)) c.in_ok-command.ensures)

pub returns-clause-shown : goal.returns-clause-shown
returns-clause-shown g c =
    let rows = (c.in_ok-matches.ensures.matches (ap is_simple c.in_ok-command.ensures ∙ replay_is_simple)).0 in
    c.shown_by.ensures
    ∙ ap shown_by
    (c.get_str-2.ensures ∙ first_value-rows (found_of c.in_ok-matches.matches) (codes "trace")
    ∙ ap (first_of (codes "trace")) (rows ∙ ap (λ (a : App). matches_of a (map g.S.AsStr.text c.args.words.now)) c.in_ok-command.ensures))

pub returns-clause-until : goal.returns-clause-until
returns-clause-until g c =
    let rows = (c.in_ok-matches.ensures.matches (ap is_simple c.in_ok-command.ensures ∙ replay_is_simple)).0 in
    c.until_by.ensures
    ∙ ap until_by
    (c.get_str-3.ensures ∙ first_value-rows (found_of c.in_ok-matches.matches) (codes "finish")
    ∙ ap (first_of (codes "finish")) (rows ∙ ap (λ (a : App). matches_of a (map g.S.AsStr.text c.args.words.now)) c.in_ok-command.ensures))

pub returns-clause-kinds : goal.returns-clause-kinds
returns-clause-kinds g c =
    sym (ap (λ (a : App). fault_of a (map g.S.AsStr.text c.args.words.now)) c.in_ok-command.ensures)
    ∙ c.in_ok-matches.ensures.kinds (ap is_simple_and_free c.in_ok-command.ensures ∙ replay_is_free)
