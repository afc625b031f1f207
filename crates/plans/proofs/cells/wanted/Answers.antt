use Rattle.std.proofs.Common.{◌≡◌, ◌∙◌, Some, List, ℕ, ap, refl, sym}
use Rattle.hybrid.specs.HybridLog.{Kept}
use Rattle.shards.specs.Receipts.{kept_by}
use Rattle.plans.proofs.Stores.{ok_then}
use Rattle.plans.proofs.cells.wanted.Goals as goal

pub returns-clause-ok : goal.returns-clause-ok
returns-clause-ok g c =
    let copy = c.in_ok-receipt.receipt in
    let kept : Kept = kept_by g.R.Shows.identity g.R.Shows.shown copy in
    let same : kept_by g.R.Shows.identity g.R.Shows.shown c.in-Some.receipt.now ≡ kept =
    ap (λ (x : List ℕ). record { identity = x; shown = g.R.Shows.shown c.in-Some.receipt.now }) (sym c.in_ok-receipt.ensures.identity)
    ∙ ap (λ (x : List ℕ). record { identity = g.R.Shows.identity copy; shown = x }) (sym c.in_ok-receipt.ensures.shown) in
    ok_then c.push.result
    (λ is. record { kept = kept; joins = is; wanted = record { number = c.args.number; missing = c.requires.missing; receipt = sym c.in-Some.ensures ∙ ap (λ (k : Kept). Some k) same; left = c.requires.left }; number_is = refl })
    c.push.ensures.ok
