-- What a call comes to, whichever way it is answered.
use Rattle.std.specs.Prelude.{ℕ, List}
use Rattle.transact.specs.declared.call.Answer.{Answer}
use Rattle.transact.specs.declared.call.Call.{Call}
use Rattle.transact.specs.Calls.{asked_of}
use Rattle.transact.specs.Submits.{IfFault, IfReply, stripes_asked}
use Rattle.engine.specs.declared.Engine.{Engine}
use Rattle.engine.specs.declared.pass.Pass.{Pass}
use Rattle.engine.specs.Calls.{IsDone, IsUndone, Promises, promises_of}
use Rattle.engine.specs.Passes.{Known, knows, stripe_count}

-- A call was answered so, by a pass that knew the one, and then knows the other: with a reply it was done, with a fault it was not. Of these
-- stripes alone the pass was told that others had them.
pub record IsAnswered (promises : Promises) (stripes : List ℕ) (call : Call) (answer : Answer) (was now : Known) : Type 0 where
  pub done : IfReply answer (λ reply. IsDone stripes (asked_of call) reply was now)
  pub undone : IfFault answer (λ fault. IsUndone promises stripes (asked_of call) fault was now)

module _ {D R : Type 0} where
  -- What a call comes to that a pass submits to an engine. It was told of these stripes alone that others had them.
  abbrev pub ComesTo : (steady lends : Type 0) (failures : D → ℕ) → Engine D R → (stripes : List ℕ) → Call → Answer → (was now : Pass D R) → Type 0
  ComesTo steady lends failures engine stripes call answer was now =
      IsAnswered (promises_of steady lends (stripe_count engine)) stripes call answer (knows failures was) (knows failures now)

  -- the same of a call that waits for its stripes
  abbrev pub WaitsAndComesTo : (steady lends : Type 0) (failures : D → ℕ) → Engine D R → Call → Answer → (was now : Pass D R) → Type 0
  WaitsAndComesTo steady lends failures engine call answer was now =
      ComesTo steady lends failures engine (stripes_asked (stripe_count engine) call) call answer was now
