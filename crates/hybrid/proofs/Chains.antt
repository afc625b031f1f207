-- Links of a log, as in the earlier trial.
use Rattle.std.proofs.Common.{◌≡◌, ℕ, ◌<◌, ◌≤◌, ◌==◌, ◌⊎◌, inl, inr, List, [], ◌∷◌, ◌++◌, Option, Some, None, sym, ap, ◌∙◌, arith}
use Rattle.std.specs.Prelude.{MatchOption, IfSome}
use Rattle.std.proofs.lemmas.Bool.{cases_Bool}
use Rattle.records.specs.Records.{Stored}
use Rattle.std.specs.List.{Contains}
use Rattle.hybrid.proofs.Logs.{cons_cases}
use Rattle.hybrid.specs.Log.{Log, head, Joins, top, IsLinked}

lower : (o : Option ℕ) (begin low high : ℕ) → low ≤ high → IfSome o (λ h. (h ≤ low) × (begin ≤ h)) → IfSome o (λ h. (h ≤ high) × (begin ≤ h))
lower None begin low high le h = tt
lower (Some x) begin low high le h = (omega (arith, h.0), h.1)

-- a head is no newer than the newest record, and is live
head_low : (bucket : List ℕ → ℕ) (begin : ℕ) (log : Log) (b : ℕ) → IsLinked bucket begin log → IfSome (head bucket log b) (λ h. (h ≤ top log) × (begin ≤ h))
head_low bucket begin [] b linked = tt
head_low bucket begin (e ∷ log) b linked =
    elim (cases_Bool (bucket e.1.key == b)) [
      | inl same ↦ rw same (omega arith, linked.0.live)
      | inr other ↦ rw other (lower (head bucket log b) begin (top log) e.0 (omega (arith, linked.0.falls)) (head_low bucket begin log b linked.1))
    ]

pub joins_low : (bucket : List ℕ → ℕ) (begin : ℕ) (log : Log) (a b : ℕ) → IsLinked bucket begin log → Joins bucket begin a log b → (a < begin) ⊎ (a ≤ top log)
joins_low bucket begin log a b linked joins = go (head bucket log b) (head_low bucket begin log b linked) joins
  where
    go : (o : Option ℕ) → IfSome o (λ h. (h ≤ top log) × (begin ≤ h)) → MatchOption o (a < begin) (λ h. a ≡ h) → (a < begin) ⊎ (a ≤ top log)
    go None low joins = inl joins
    go (Some h) low joins = inr (omega (arith, low.0))

-- the addresses of the newer records are live, those of the older are not
abbrev pub AllLive : ℕ → Log → Type 0
AllLive begin [] = Unit {0}
AllLive begin (e ∷ log) = (begin ≤ e.0) × AllLive begin log

pub Joins-raised : (bucket : List ℕ → ℕ) (old new : ℕ) (a b : Log) (x k : ℕ) → IsLinked bucket old b → top b < new → old ≤ new → Joins bucket old x (a ++ b) k → Joins bucket new x a k
Joins-raised bucket old new [] b x k linked low le joins = elim (joins_low bucket old b x k linked joins) [ inl l ↦ omega arith | inr l ↦ omega arith ]
Joins-raised bucket old new (e ∷ a) b x k linked low le joins =
    elim (cases_Bool (bucket e.1.key == k)) [
      | inl y ↦ let here : x ≡ e.0 = rw y at joins in rw y here
      | inr n ↦ let below : Joins bucket old x (a ++ b) k = rw n at joins in rw n (Joins-raised bucket old new a b x k linked low le below)
    ]

pub linked_back : (bucket : List ℕ → ℕ) (begin : ℕ) (a b : Log) → IsLinked bucket begin (a ++ b) → IsLinked bucket begin b
linked_back bucket begin [] b linked = linked
linked_back bucket begin (e ∷ a) b linked = linked_back bucket begin a b linked.1

top_front : (a b : Log) (n : ℕ) → top (a ++ b) < n → top a < n
top_front [] b n lt = omega arith
top_front (e ∷ a) b n lt = lt

pub linked-raised : (bucket : List ℕ → ℕ) (old new : ℕ) (a b : Log) → IsLinked bucket old (a ++ b) → top b < new → old ≤ new → AllLive new a → IsLinked bucket new a
linked-raised bucket old new [] b linked low le live = tt
linked-raised bucket old new (e ∷ a) b linked low le live = (
  record {
    live = live.0;
    falls = top_front a b e.0 linked.0.falls;
    joins = Joins-raised bucket old new a b e.1.link (bucket e.1.key) (linked_back bucket old a b linked.1) low le linked.0.joins;
  },
  linked-raised bucket old new a b linked.1 low le live.1,
)

pub below : (bucket : List ℕ → ℕ) (begin : ℕ) (log : Log) (e : ℕ × Stored) → IsLinked bucket begin log → Contains log e → e.0 ≤ top log
below bucket begin [] e linked c = absurd (omega (arith, c.1))
below bucket begin (x ∷ log) e linked c = elim (cons_cases x log e c) [
  | inl is ↦ omega (arith, ap (λ (y : ℕ × Stored). y.0) is)
  | inr more ↦ omega (arith, below bucket begin log e linked.1 more, linked.0.falls)
]

-- one record an address
pub unique : (bucket : List ℕ → ℕ) (begin : ℕ) (log : Log) (a : ℕ) (r s : Stored) → IsLinked bucket begin log → Contains log (a, r) → Contains log (a, s) → r ≡ s
unique bucket begin [] a r s linked c d = absurd (omega (arith, c.1))
unique bucket begin (x ∷ log) a r s linked c d = elim (cons_cases x log (a, r) c) [
  | inl e ↦ elim (cons_cases x log (a, s) d) [
    | inl f ↦ ap (λ (y : ℕ × Stored). y.1) (sym e ∙ f)
    | inr more ↦ absurd (omega (arith, ap (λ (y : ℕ × Stored). y.0) e, below bucket begin log (a, s) linked.1 more, linked.0.falls))
  ]
  | inr one ↦ elim (cons_cases x log (a, s) d) [
    | inl f ↦ absurd (omega (arith, ap (λ (y : ℕ × Stored). y.0) f, below bucket begin log (a, r) linked.1 one, linked.0.falls))
    | inr more ↦ unique bucket begin log a r s linked.1 one more
  ]
]
