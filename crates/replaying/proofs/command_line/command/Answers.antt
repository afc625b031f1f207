use Rattle.std.proofs.Common.{◌≡◌, ◌∙◌, ap, ap₂, codes, true}
use Rattle.std.proofs.lemmas.Result.{IfOk-weaker}
use Rattle.clap.specs.Words.{App, app_of, with_rule}
use Rattle.clap.specs.Simple.{app_of_fields}
use Rattle.replaying.specs.CommandLine.{finish_flag, named, replay, trace_flag}
use Rattle.replaying.proofs.command_line.command.Goals as goal

abbrev tells_version : App → App
tells_version a = record a { top = record a.top { has_version = true } }

pub returns : goal.returns
unfolding replay
returns c =
    let start : app_of c.about.result ≡ named (codes "replay") =
    ap app_of_fields c.about.ensures ∙ ap app_of_fields c.version.ensures ∙ ap tells_version c.new.ensures.app in
    let traced : app_of c.in_ok-arg.field-0 ≡ with_rule (named (codes "replay")) trace_flag =
    c.in_ok-arg.ensures.shape c.trace.ensures.own ∙ ap₂ with_rule start c.trace.ensures.rule in
    let finished : app_of c.in_ok-arg-2.field-0 ≡ with_rule (with_rule (named (codes "replay")) trace_flag) finish_flag =
    c.in_ok-arg-2.ensures.shape c.finish.ensures.own ∙ ap₂ with_rule traced c.finish.ensures.rule in
    IfOk-weaker c.arg-3.result _ _ (λ r added. added.shape c.file.ensures.own ∙ ap₂ with_rule finished c.file.ensures.rule) c.arg-3.ensures
