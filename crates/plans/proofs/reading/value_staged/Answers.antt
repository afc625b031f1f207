use Rattle.std.proofs.Common.{◌∷◌, [], refl}
use Rattle.hybrid.specs.Staging.{AreRight}
use Rattle.shards.specs.Shards.{logs_of}
use Rattle.plans.proofs.Hand.{all_lent}
use Rattle.plans.proofs.Questions.{err_stop_then, err_stop_warm, failed_none}
use Rattle.plans.proofs.Stores.{ok_then_all}
use Rattle.plans.proofs.reading.value_staged.Goals as goal

pub returns-in-Reads-clause-right : goal.returns-in-Reads-clause-right
returns-in-Reads-clause-right g c = λ steady right.
    c.read_value.ensures.right right (λ stripe log number kept there receipt r is. g.met.D.Device.steady steady c.args.device.now r)

pub returns-in-Reads-clause-value : goal.returns-in-Reads-clause-value
returns-in-Reads-clause-value g c =
    ok_then_all c.read_value.result
    (λ value is. record {
      is = λ right. is.is (g.met.R.Shows.steady_is_honest right.0, right.1, λ stripe log number kept there receipt r at. g.met.D.Device.steady right.0 c.args.device.now r);
      due = λ right. is.due (g.met.R.Shows.steady_is_honest right.0, right.1, λ stripe log number kept there receipt r at. g.met.D.Device.steady right.0 c.args.device.now r);
    })
    c.read_value.ensures.value

pub returns-in-Reads-clause-stopped : goal.returns-in-Reads-clause-stopped
returns-in-Reads-clause-stopped g c =
    err_stop_warm c.read_value.result _ _ _ _ _ _ _ _
    (λ takes (right : g.R.Shows.is_steady × AreRight c.args.staged.now) lends brief. takes (g.met.R.Shows.steady_is_honest right.0, right.1)
    (all_lent g.R.Shows.lends (g.P.Parts.stripes_of c.args.parts.now) (logs_of (g.P.Parts.part_of c.args.parts.now)) (c.args.key.now ∷ []) c.args.staged.now lends) brief)
    (λ fault. tt) (λ stripe never. never)
    c.read_value.ensures.never_cold c.read_value.ensures.stopped

pub returns-in-Stops-clause-value : goal.returns-in-Stops-clause-value
returns-in-Stops-clause-value g c =
    ok_then_all c.value_of.result
    (λ value is. record {
      is = λ right. is.is (g.met.R.Shows.steady_is_honest right.0, right.1);
      due = λ right. is.due (g.met.R.Shows.steady_is_honest right.0, right.1);
    })
    c.value_of.ensures.value

pub returns-in-Stops-clause-stopped : goal.returns-in-Stops-clause-stopped
returns-in-Stops-clause-stopped g c =
    err_stop_then c.value_of.result _ _ _ _ _ _ _ _
    (λ receipts wanted. record { unread = c.in-Stops.is; unlent = wanted.unlent; device = refl })
    (λ takes (right : g.R.Shows.is_steady × AreRight c.args.staged.now) lends brief. takes (g.met.R.Shows.steady_is_honest right.0, right.1)
    (all_lent g.R.Shows.lends (g.P.Parts.stripes_of c.args.parts.now) (logs_of (g.P.Parts.part_of c.args.parts.now)) (c.args.key.now ∷ []) c.args.staged.now lends) brief)
    (λ never. absurd never) (λ stripe never. never)
    c.value_of.ensures.stopped

pub returns-in-Stops-clause-failed : goal.returns-in-Stops-clause-failed
returns-in-Stops-clause-failed g c = failed_none c.value_of.result _ _ _ (g.D.Device.failures c.args.device.now) c.value_of.ensures.stopped
