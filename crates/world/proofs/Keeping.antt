-- Receipts that are to be read, each with the stripe that keeps it.
use Rattle.std.proofs.Common.{◌≡◌, ◌∙◌, ℕ, ◌+◌, Bool, true, false, List, [], ◌∷◌, ◌++◌, length, Option, refl, sym, ap, subst, arith}
use Rattle.hybrid.specs.HybridLog.{Kept}
use Rattle.plans.specs.Stops as plans
use Rattle.world_log.specs.Places.{Receipt, flag, view}
use Rattle.world_log.specs.Given.{IsGiven}
use Rattle.world_log.specs.PlanLaws.{IsColdIn}
use Rattle.world_log.specs.Stripes.{IsKeeper}
use Rattle.world_log.specs.declared.logs.WorldLog.{WorldLog}
use Rattle.world_model.specs.Places.{Each}
use Rattle.world.specs.Planning.{IsReadFor}

-- the last of these receipts, and the others
pub last_off : (P : Kept → Type 0) (first : List Kept) (last : Kept) → plans.Each P (first ++ last ∷ []) → plans.Each P first × P last
last_off P [] last all = (tt, all.0)
last_off P (one ∷ others) last all = let more = last_off P others last all.1 in ((all.0, more.0), more.1)

pub last_off_of : (P : Kept → Type 0) (all first : List Kept) (last : Kept) → all ≡ first ++ last ∷ [] → plans.Each P all → plans.Each P first × P last
last_off_of P all first last is each = last_off P first last (subst (plans.Each P) is each)

-- one more
pub each_more : {A : Type 0} (P : A → Type 0) (all : List A) (one : A) → Each P all → P one → Each P (all ++ one ∷ [])
each_more P [] one each is = (is, tt)
each_more P (first ∷ others) one each is = (each.0, each_more P others one each.1 is)

pub each_none : {A : Type 0} (P : A → Type 0) (all : List A) → all ≡ [] → Each P all
each_none P all is = subst (Each P) (sym is) tt

pub length_more : {A : Type 0} (all : List A) (one : A) → length (all ++ one ∷ []) ≡ length all + 1
length_more [] one = refl
length_more (first ∷ others) one = let more = length_more others one in omega (arith, more)

flag_same : (a b : Bool) → flag a ≡ flag b → a ≡ b
flag_same true true is = refl
flag_same true false is = cc is
flag_same false true is = cc is
flag_same false false is = refl

cons_same : {A : Type 0} {a b : A} {more others : List A} → (a ∷ more) ≡ (b ∷ others) → (a ≡ b) × (more ≡ others)
cons_same is = (cc is, cc is)

-- what logs see of a receipt is all of it
view_same : (one other : Receipt) → view one ≡ view other → one ≡ other
view_same one other is =
    let first = cons_same (ap (λ (k : Kept). k.identity) is) in
    let second = cons_same first.1 in
    let released = flag_same one.released other.released second.0 in
    λ j. let receipt : Receipt = record { place = first.0 j; page = second.1 j; released = released j } in receipt

-- a receipt that a plan names, and the stripe that was found for it
pub read_for : (log acting : WorldLog) (c place stripe : ℕ) (kept : Kept) (receipt : Receipt) → IsColdIn acting kept → acting.device ≡ log.device → kept ≡ view receipt
    → place ≡ receipt.place → IsKeeper log.stripes c place stripe → IsReadFor log c (stripe, receipt)
read_for log acting c place stripe kept receipt cold device is at keeper = record {
  held = keeper.held;
  number = keeper.number;
  away = keeper.away;
  place = keeper.kept ∙ ap (λ (p : ℕ). Option.Some p) at;
  given =
      subst (λ (r : Receipt). IsGiven log.device r) (view_same cold.receipt receipt (sym cold.is ∙ is))
      (rw device at cold.given);
}

-- the last one off
pub each_last : {A : Type 0} (P : A → Type 0) (first : List A) (last : A) → Each P (first ++ last ∷ []) → Each P first × P last
each_last P [] last each = (tt, each.0)
each_last P (one ∷ others) last each = let more = each_last P others last each.1 in ((each.0, more.0), more.1)

pub each_turned : {A : Type 0} (P Q : A → Type 0) (all : List A) → ((one : A) → P one → Q one) → Each P all → Each Q all
each_turned P Q [] turn each = tt
each_turned P Q (one ∷ others) turn each = (turn one each.0, each_turned P Q others turn each.1)
