use Rattle.records.specs.Records.{IsLaidOut}
use Rattle.store_tests.proofs.pages.page_of_thousands.Given as goal

abbrev pub invariant-loop-at : goal.invariant-loop-at
invariant-loop-at g l = IsLaidOut l.page
