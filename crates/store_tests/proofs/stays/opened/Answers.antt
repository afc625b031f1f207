use Rattle.std.proofs.Common.{◌≡◌, Some, Result, Ok, IfOk, IfSome, subst}
use Rattle.std.proofs.lemmas.List.Elements.{All-pop}
use Rattle.epoch.specs.Seats.{IsOutside}
use Rattle.store_tests.proofs.stays.opened.Goals as goal

-- what is said of a result that is there
ok_has : {A E : Type 0} (P : A → Type 0) (r : Result A E) (x : A) → r ≡ Ok x → IfOk r P → P x
ok_has {A = A} {E = E} P r x is holds = subst (λ (r : Result A E). IfOk r P) is holds

pub returns : goal.returns
returns g c =
    let P = IsOutside c.expect-epochs.result.0 in
    let all = ok_has _ c.new.result c.expect-epochs.result c.expect-epochs.ensures c.new.ensures.outside in
    let three = All-pop P _ c.pop.new.self.items c.pop.result c.pop.ensures.items all in
    let two = All-pop P _ c.pop-2.new.self.items c.pop-2.result c.pop-2.ensures.items three.0 in
    let one = All-pop P _ c.pop-3.new.self.items c.pop-3.result c.pop-3.ensures.items two.0 in
    (subst (λ o. IfSome o P) c.expect-first.ensures one.1, subst (λ o. IfSome o P) c.expect-second.ensures two.1, subst (λ o. IfSome o P) c.expect-third.ensures three.1)
