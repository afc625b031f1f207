use Rattle.std.proofs.Common.{◌∙◌, refl, sym, subst, List, ℕ, arith, length-set}
use Rattle.records.specs.Read.{shown}
use Rattle.records.specs.Records.{IsLaidOut, records_of}
use Rattle.std.specs.List.{Contains}
use Rattle.hybrid.proofs.Parts.{oldest}
use Rattle.hybrid.proofs.Cleaning.{read-fits, listed}
use Rattle.std.proofs.lemmas.Result.{err_from_is_err_and}
use Rattle.hybrid.proofs.Finding.{page-cold}
use Rattle.hybrid.proofs.Marking.{light-step, needed-of, mark-is, marking-start, marking-step, marking-all, stands, weighing-all}
use Rattle.hybrid.proofs.stripe.Stripe.marks.Goals as goal

pub loop-record-init : goal.loop-record-init
loop-record-init g c = record {
  low = omega arith;
  high = omega arith;
  size = refl;
  light = omega arith;
  marked = λ honest right lt k e same.
      let laid : IsLaidOut c.args.page.now = rw same (oldest c.args.self.now k c.oldest-number.ensures.log lt e).laid in
      marking-start c.args.self.now c.args.page.now _ laid;
}

pub overflow_add-at-in-Ok : goal.overflow_add-at-in-Ok
overflow_add-at-in-Ok g c =
    let read = read-fits c.args.page.now c.loop-record.at (shown c.in-Ok.record) c.in-Ok.ensures.exact.0 c.in-Ok.ensures.exact.1 in
    omega (arith, read.within)

pub overflow_add-at-in-Ok-2 : goal.overflow_add-at-in-Ok-2
overflow_add-at-in-Ok-2 g c =
    let read = read-fits c.args.page.now c.loop-record.at (shown c.in-Ok.record) c.in-Ok.ensures.exact.0 c.in-Ok.ensures.exact.1 in
    omega (arith, read.within)

pub weight_if-weight-requires-clause-key : goal.weight_if-weight-requires-clause-key
weight_if-weight-requires-clause-key g c =
    let read = read-fits c.args.page.now c.loop-record.at (shown c.in-Ok.record) c.in-Ok.ensures.exact.0 c.in-Ok.ensures.exact.1 in
    omega (arith, read.key)

pub weight_if-weight-requires-clause-value : goal.weight_if-weight-requires-clause-value
weight_if-weight-requires-clause-value g c =
    let read = read-fits c.args.page.now c.loop-record.at (shown c.in-Ok.record) c.in-Ok.ensures.exact.0 c.in-Ok.ensures.exact.1 in
    omega (arith, read.value, read.within)

pub overflow_add-weight : goal.overflow_add-weight
overflow_add-weight g c =
    let read = read-fits c.args.page.now c.loop-record.at (shown c.in-Ok.record) c.in-Ok.ensures.exact.0 c.in-Ok.ensures.exact.1 in
    let light = light-step c.loop-record.weight c.weight_if-weight.result c.loop-record.at (shown c.in-Ok.record) c.in_ok-marked.marked c.weight_if-weight.ensures read.value c.loop-record.invariant.light in
    omega (arith, light, read.within)

pub loop-record-preserved : goal.loop-record-preserved
loop-record-preserved g c =
    let read = read-fits c.args.page.now c.loop-record.at (shown c.in-Ok.record) c.in-Ok.ensures.exact.0 c.in-Ok.ensures.exact.1 in
    record {
      low = omega (arith, c.loop-record.invariant.low);
      high = omega (arith, read.within);
      size = length-set c.loop-record.live _ c.in_ok-marked.marked ∙ c.loop-record.invariant.size;
      light = light-step c.loop-record.weight c.weight_if-weight.result c.loop-record.at (shown c.in-Ok.record) c.in_ok-marked.marked c.weight_if-weight.ensures read.value c.loop-record.invariant.light;
      marked = λ honest right lt k e same.
          let laid : IsLaidOut c.args.page.now = rw same (oldest c.args.self.now k c.oldest-number.ensures.log lt e).laid in
          marking-step c.args.self.now c.args.page.now c.loop-record.live c.loop-record.at c.loop-record.weight c.weight_if-weight.result (shown c.in-Ok.record) c.in_ok-marked.marked laid c.in-Ok.ensures.exact.0 (c.in-Ok.ensures.found laid) c.loop-record.invariant.size
          (λ listed.
          let listed_shown = subst (λ (page : List ℕ). Contains (records_of page) (c.loop-record.at, shown c.in-Ok.record)) same listed in
          let in_log = stands c.args.self.now k c.loop-record.at (shown c.in-Ok.record) c.oldest-number.ensures.log lt e listed_shown in
          let test = rw (c.of-address.ensures, c.oldest-number.ensures.number) at c.in_ok-marked.ensures.live honest right (shown c.in-Ok.record) in_log refl in
          mark-is c.args.self.now k c.loop-record.at (shown c.in-Ok.record) _ c.in_ok-marked.marked c.oldest-number.ensures.log lt e listed_shown refl test)
          c.weight_if-weight.ensures (c.loop-record.invariant.marked honest right lt k e same);
    }

pub returns-clause-live : goal.returns-clause-live
returns-clause-live g c = λ honest right lt k e same.
    let laid : IsLaidOut c.args.page.now = rw same (oldest c.args.self.now k c.oldest-number.ensures.log lt e).laid in
    marking-all c.args.self.now c.args.page.now c.loop-record.live c.loop-record.at c.loop-record.weight laid (c.loop-record.invariant.marked honest right lt k e same) (λ r listed. c.in_default.ensures.found laid r listed)

pub returns-clause-weight : goal.returns-clause-weight
returns-clause-weight g c = λ honest right lt k e same.
    let laid : IsLaidOut c.args.page.now = rw same (oldest c.args.self.now k c.oldest-number.ensures.log lt e).laid in
    weighing-all c.args.self.now c.args.page.now c.loop-record.at c.loop-record.weight (c.loop-record.invariant.marked honest right lt k e same).weighing (λ r listed. c.in_default.ensures.found laid r listed)

pub returns-in_err-marked-clause-needed : goal.returns-in_err-marked-clause-needed
returns-in_err-marked-clause-needed g c = λ honest right lt k e same.
    let laid : IsLaidOut c.args.page.now = rw same (oldest c.args.self.now k c.oldest-number.ensures.log lt e).laid in
    let listed = listed c.args.page.now c.loop-record.at (shown c.in-Ok.record) (c.loop-record.invariant.marked honest right lt k e same).place c.in-Ok.ensures.exact.0.used (c.in-Ok.ensures.found laid) in
    let there = page-cold c.args.self.now c.args.self.now.oldest k c.oldest-number.ensures.log (omega arith) lt e in
    let need = needed-of c.args.self.now _ (c.loop-record.at, shown c.in-Ok.record) (subst (λ (page : List ℕ). Contains (records_of page) (c.loop-record.at, shown c.in-Ok.record)) (same ∙ sym there) listed) (c.in_err-marked.ensures.needed honest right).0 (c.in_err-marked.ensures.needed honest right).1 in
    let p = err_from_is_err_and c.from_residual.result c.from_residual.ensures.1 in
    rw (p.1, p.2) need
