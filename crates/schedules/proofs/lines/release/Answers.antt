use Rattle.schedules.proofs.Readings.{no_release, reads_release}
use Rattle.schedules.proofs.lines.release.Goals as goal

pub returns-in_default-byte_of : goal.returns-in_default-byte_of
returns-in_default-byte_of c = no_release c.args.limits.now c.args.stripe.now c.args.text.now c.in_default-byte_of.ensures

pub returns : goal.returns
returns c =
    reads_release c.args.limits.now c.in-Some.stripe c.in-Some-byte_of.byte c.args.stripe.now c.args.text.now c.in_ok-page.page
    c.in-Some.ensures c.in-Some-byte_of.ensures c.in_ok-page.ensures
