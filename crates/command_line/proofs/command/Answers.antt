use Rattle.std.proofs.Common.{◌≡◌, ◌∙◌, ap, codes, refl, true}
use Rattle.std.proofs.lemmas.Result.{IfOk-weaker}
use Rattle.clap.specs.Words.{App, app_of}
use Rattle.clap.specs.Simple.{app_of_fields}
use Rattle.command_line.specs.CommandLine.{accept_option, buckets_option, device_option, frames_option, garnetd, named, places_option, port_option, stripes_option, workers_option}
use Rattle.command_line.proofs.Arguments.{added_rule}
use Rattle.command_line.proofs.command.Goals as goal

abbrev tells_version : App → App
tells_version a = record a { top = record a.top { has_version = true } }

pub returns : goal.returns
unfolding garnetd
returns c =
    let start : app_of c.about.result ≡ named (codes "garnetd") =
    ap app_of_fields c.about.ensures ∙ ap app_of_fields c.version.ensures ∙ ap tells_version c.new.ensures.app in
    let one = added_rule c.about.result c.in_ok-arg.field-0 c.port.result _ port_option start c.port.ensures refl c.in_ok-arg.ensures in
    let two = added_rule c.in_ok-arg.field-0 c.in_ok-arg-2.field-0 c.accept.result _ accept_option one c.accept.ensures refl c.in_ok-arg-2.ensures in
    let three = added_rule c.in_ok-arg-2.field-0 c.in_ok-arg-3.field-0 c.stripes.result _ stripes_option two c.stripes.ensures refl c.in_ok-arg-3.ensures in
    let four = added_rule c.in_ok-arg-3.field-0 c.in_ok-arg-4.field-0 c.buckets.result _ buckets_option three c.buckets.ensures refl c.in_ok-arg-4.ensures in
    let five = added_rule c.in_ok-arg-4.field-0 c.in_ok-arg-5.field-0 c.frames.result _ frames_option four c.frames.ensures refl c.in_ok-arg-5.ensures in
    let six = added_rule c.in_ok-arg-5.field-0 c.in_ok-arg-6.field-0 c.places.result _ places_option five c.places.ensures refl c.in_ok-arg-6.ensures in
    let seven = added_rule c.in_ok-arg-6.field-0 c.in_ok-arg-7.field-0 c.workers.result _ workers_option six c.workers.ensures refl c.in_ok-arg-7.ensures in
    IfOk-weaker c.arg-8.result _ _
    (λ r added. added_rule c.in_ok-arg-7.field-0 r c.device.result _ device_option seven c.device.ensures refl added) c.arg-8.ensures
