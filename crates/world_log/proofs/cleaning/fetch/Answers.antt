use Rattle.std.proofs.Common.{◌≡◌, ap₂, sym, List, ℕ, Some}
use Rattle.hybrid.specs.HybridLog.{Kept, receipt_of}
use Rattle.world_log.specs.Places.{view}
use Rattle.world_log.proofs.CleanSteps.{copy_served, fetched_by, missing_none, missing_some}
use Rattle.world_log.proofs.cleaning.fetch.Goals as goal

pub unreachable-requires : goal.unreachable-requires
unreachable-requires c = missing_none c.args.stripe.now c.args.staged.now c.args.number c.requires.missing (sym c.in_default.ensures)

pub returns-in-Ok-read-clause-fetched : goal.returns-in-Ok-read-clause-fetched
returns-in-Ok-read-clause-fetched c =
    let one : Kept = view c.in-Some.receipt.now in
    let has : receipt_of c.args.stripe.now c.args.number ≡ Some one =
    missing_some c.args.stripe.now c.args.staged.now c.args.number one c.requires.missing c.in-Some.ensures in
    fetched_by c.args.stripe.now c.args.number c.args.staged.now c.read.new.self one (view c.in-Ok.receipt) has
    (ap₂ (λ (i s : List ℕ). record { identity = i; shown = s }) c.in-Ok.ensures.identity c.in-Ok.ensures.shown) c.in-Ok-read.ensures.staged

pub returns-in-Ok-read-clause-right : goal.returns-in-Ok-read-clause-right
returns-in-Ok-read-clause-right c right =
    let one : Kept = view c.in-Some.receipt.now in
    let has : receipt_of c.args.stripe.now c.args.number ≡ Some one =
    missing_some c.args.stripe.now c.args.staged.now c.args.number one c.requires.missing c.in-Some.ensures in
    c.in-Ok-read.ensures.right
    (copy_served c.args.device.now one c.in-Ok.receipt (c.requires.served _ one has) c.in-Ok.ensures.identity) right
