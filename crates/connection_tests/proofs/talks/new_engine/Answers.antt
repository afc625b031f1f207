use Rattle.std.proofs.Common.{◌≡◌, ◌∙◌, IfOk, Result, Ok, Err}
use Rattle.connection_tests.proofs.talks.new_engine.Goals as goal

-- what is said of a result that is there leads to more
ok_then : {A E : Type 0} {P Q : A → Type 0} (r : Result A E) → ((x : A) → P x → Q x) → IfOk r P → IfOk r Q
ok_then (Ok x) more holds = more x holds
ok_then (Err e) more holds = tt

pub returns-clause-count : goal.returns-clause-count
returns-clause-count g c = ok_then c.new.result (λ made same. same ∙ c.requires.openings) c.new.ensures.count

pub returns-clause-rest : goal.returns-clause-rest
returns-clause-rest g c = c.new.ensures.rest

pub returns-clause-watch : goal.returns-clause-watch
returns-clause-watch g c = c.new.ensures.watch
