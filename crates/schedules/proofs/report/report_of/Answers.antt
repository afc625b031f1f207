use Rattle.std.proofs.Common.{rules, ◌<◌, ◌++◌, length, take, arith, ap, sym, ◌∙◌}
use Rattle.world.specs.Tables.{state_of}
use Rattle.schedules.specs.Reports.{client_line, client_lines}
use Rattle.schedules.proofs.ReportLines.{one_line_more}
use Rattle.schedules.proofs.report.report_of.Goals as goal

pub loop-client-preserved : goal.loop-client-preserved
loop-client-preserved c =
    let state = state_of c.args.world.now in
    let n = c.loop-client.client in
    let below : n < length state.clients = omega (arith, c.clients-client-end.ensures) in
    let added = rw c.in_ok-add_client.was at c.add_client.ensures in
    added ∙ ap (λ items. items ++ client_line n c.output.result.now) c.loop-client.invariant
    ∙ ap (λ output. client_lines 0 (take n state.clients) ++ client_line n output) c.output.ensures ∙ sym (one_line_more state n below)

pub loop-client-init : goal.loop-client-init
loop-client-init c = search rules
