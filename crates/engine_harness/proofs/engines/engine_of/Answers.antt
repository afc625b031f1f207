use Rattle.std.proofs.Common.{◌≡◌, ◌∙◌, ◌+◌, IfOk, Result, Ok, Err, ap, arith, length}
use Rattle.std.proofs.lemmas.List.{length-replicate}
use Rattle.device.specs.Counts.{no_calls}
use Rattle.engine_harness.proofs.engines.engine_of.Goals as goal

-- what is said of a result that is there leads to more
ok_then : {A E : Type 0} {P Q : A → Type 0} (r : Result A E) → ((x : A) → P x → Q x) → IfOk r P → IfOk r Q
ok_then (Ok x) more holds = more x holds
ok_then (Err e) more holds = tt

pub returns-clause-count : goal.returns-clause-count
returns-clause-count c =
    let many : length c.in_ok-openings.openings.items ≡ c.args.limits.now.clients + 3 = ap (λ l. length l) c.in_ok-openings.ensures ∙ length-replicate (c.args.limits.now.clients + 3) no_calls in
    ok_then c.new.result (λ made same. omega (arith, same, c.in_ok-openings.openings.ok.0, many)) c.new.ensures.count

pub returns-clause-rest : goal.returns-clause-rest
returns-clause-rest c = c.new.ensures.rest

pub returns-clause-watch : goal.returns-clause-watch
returns-clause-watch c = c.new.ensures.watch
