-- The walk down a bucket's chain finds the newest record of a key.
use Rattle.std.proofs.Common.{◌≡◌, ℕ, ◌<◌, ◌≤◌, true, false, ◌==◌, inl, inr, List, [], ◌∷◌, ◌++◌, append_assoc, append-nil, slice_index, Option, Some, None, refl, sym, ap, ◌∙◌, subst, arith, mod-lt}
use Rattle.std.specs.List.{All, Contains}
use Rattle.std.proofs.lemmas.List.Elements.{All-nil, All-push, All-same}
use Rattle.std.specs.Str.{bytes_eq}
use Rattle.std.proofs.lemmas.Bool.{eqb-true, eq-eqb, cases_Bool, false_from_ne_true}
use Rattle.std.proofs.lemmas.Slice.Eq.{bytes_eq-Decides}
use Rattle.records.specs.Records.{Stored}
use Rattle.hybrid.specs.Log.{Log, newest, chain, Joins, IsNext, IsLinked, begin_of}
use Rattle.hybrid.specs.HybridLog.{HybridLog, IsHybridLog, log_of, bucket_of}
use Rattle.hybrid.proofs.Logs.{some_is, cons_cases, here, there, newest-listed}
use Rattle.hybrid.proofs.Chains.{joins_low, below}

-- what the walk has before it at an address: the rest of the log, which has all that counts. `Near` is so of each record
-- that it has passed.
pub record IsWalk (bucket : List ℕ → ℕ) (begin : ℕ) (log : Log) (key : List ℕ) (Near : ℕ × Stored → Type 0) (address : ℕ) : Type 0 where
  pub rest : Log
  pub within : (e : ℕ × Stored) → Contains rest e → Contains log e
  pub linked : IsLinked bucket begin rest
  pub joins : Joins bucket begin address rest (bucket key)
  pub newest : newest log key ≡ newest rest key
  pub passed : Log
  pub way : chain bucket log key ≡ passed ++ chain bucket rest key
  pub near : All Near passed

-- the record at the address
pub record IsHere (bucket : List ℕ → ℕ) (begin : ℕ) (log : Log) (key : List ℕ) (Near : ℕ × Stored → Type 0) (address : ℕ) : Type 0 where
  pub stored : Stored
  pub older : Log
  pub listed : Contains log (address, stored)
  pub same : bucket stored.key ≡ bucket key
  pub within : (e : ℕ × Stored) → Contains older e → Contains log e
  pub next : IsNext bucket begin (address, stored) older
  pub linked : IsLinked bucket begin older
  pub newest : newest log key ≡ newest ((address, stored) ∷ older) key
  pub passed : Log
  pub way : chain bucket log key ≡ passed ++ chain bucket ((address, stored) ∷ older) key
  pub near : All Near passed

other-key : (bucket : List ℕ → ℕ) (k key : List ℕ) → (bucket k == bucket key) ≡ false → bytes_eq k key ≡ false
other-key bucket k key other = elim (cases_Bool (bytes_eq k key)) [
  | inl same ↦ absurd (let e : bucket k ≡ bucket key = ap bucket ((bytes_eq-Decides k key).0 same) in let t : (bucket k == bucket key) ≡ true = eq-eqb (bucket k) (bucket key) e in let bad : true ≡ false = sym t ∙ other in cc)
  | inr f ↦ f
]

newest-skip : (x : ℕ × Stored) (more : Log) (key : List ℕ) → bytes_eq x.1.key key ≡ false → newest (x ∷ more) key ≡ newest more key
unfolding newest
newest-skip x more key f = rw f refl

newest-first : (x : ℕ × Stored) (more : Log) (key : List ℕ) → bytes_eq x.1.key key ≡ true → newest (x ∷ more) key ≡ Some x
unfolding newest
newest-first x more key t = rw t refl

newest-none : (key : List ℕ) → newest [] key ≡ None
unfolding newest
newest-none key = refl

chain-skip : (bucket : List ℕ → ℕ) (x : ℕ × Stored) (more : Log) (key : List ℕ) → bytes_eq x.1.key key ≡ false → (bucket x.1.key == bucket key) ≡ false → chain bucket (x ∷ more) key ≡ chain bucket more key
chain-skip bucket x more key f g = rw (f, g) refl

chain-over : (bucket : List ℕ → ℕ) (x : ℕ × Stored) (more : Log) (key : List ℕ) → bytes_eq x.1.key key ≡ false → (bucket x.1.key == bucket key) ≡ true → chain bucket (x ∷ more) key ≡ x ∷ chain bucket more key
chain-over bucket x more key f t = rw (f, t) refl

chain-last : (bucket : List ℕ → ℕ) (x : ℕ × Stored) (more : Log) (key : List ℕ) → bytes_eq x.1.key key ≡ true → chain bucket (x ∷ more) key ≡ x ∷ []
chain-last bucket x more key t = rw t refl

-- the first record of the bucket stands at the address that joins the log
find-here : (bucket : List ℕ → ℕ) (begin : ℕ) (log : Log) (key : List ℕ) (Near : ℕ × Stored → Type 0) (address : ℕ) (rest : Log) → begin ≤ address
    → ((e : ℕ × Stored) → Contains rest e → Contains log e) → IsLinked bucket begin rest → Joins bucket begin address rest (bucket key) → newest log key ≡ newest rest key
    → (passed : Log) → chain bucket log key ≡ passed ++ chain bucket rest key → All Near passed → IsHere bucket begin log key Near address
find-here bucket begin log key Near address [] low within linked joins new passed way near = absurd (omega (arith, joins))
find-here bucket begin log key Near address (x ∷ more) low within linked joins new passed way near =
    elim (cases_Bool (bucket x.1.key == bucket key)) [
      | inl y ↦
          let at : address ≡ x.0 = rw y at joins in
          let it : x ≡ (address, x.1) = ap (λ (a : ℕ). (a, x.1)) (sym at) in
          record {
            stored = x.1;
            older = more;
            listed = within (address, x.1) (subst (λ (z : ℕ × Stored). Contains (x ∷ more) z) it (here x more));
            same = eqb-true (bucket x.1.key) (bucket key) y;
            within = λ e c. within e (there x more e c);
            next = subst (λ (z : ℕ × Stored). IsNext bucket begin z more) it linked.0;
            linked = linked.1;
            newest = new ∙ ap (λ (z : ℕ × Stored). newest (z ∷ more) key) it;
            passed = passed;
            way = way ∙ ap (λ (z : ℕ × Stored). passed ++ chain bucket (z ∷ more) key) it;
            near = near;
          }
      | inr n ↦
          let f = other-key bucket x.1.key key n in
          let joins_more : Joins bucket begin address more (bucket key) = rw n at joins in
          find-here bucket begin log key Near address more low (λ e c. within e (there x more e c)) linked.1 joins_more (new ∙ newest-skip x more key f) passed
          (way ∙ ap (λ (l : Log). passed ++ l) (chain-skip bucket x more key f n)) near
    ]

pub walk-here : (bucket : List ℕ → ℕ) (begin : ℕ) (log : Log) (key : List ℕ) (Near : ℕ × Stored → Type 0) (address : ℕ) → begin ≤ address → IsWalk bucket begin log key Near address → IsHere bucket begin log key Near address
walk-here bucket begin log key Near address low w = find-here bucket begin log key Near address w.rest low w.within w.linked w.joins w.newest w.passed w.way w.near

-- it is the newest of its key, if it has this key
pub here-found : (bucket : List ℕ → ℕ) (begin : ℕ) (log : Log) (key : List ℕ) (Near : ℕ × Stored → Type 0) (address : ℕ) → (h : IsHere bucket begin log key Near address) → h.stored.key ≡ key → newest log key ≡ Some (address, h.stored)
here-found bucket begin log key Near address h same = h.newest ∙ newest-first (address, h.stored) h.older key ((bytes_eq-Decides h.stored.key key).1 same)

-- then the way ends with it
pub here-last : (bucket : List ℕ → ℕ) (begin : ℕ) (log : Log) (key : List ℕ) (Near : ℕ × Stored → Type 0) (address : ℕ) → (h : IsHere bucket begin log key Near address) → h.stored.key ≡ key → Near (address, h.stored) → All Near (chain bucket log key)
here-last bucket begin log key Near address h same near =
    let last = chain-last bucket (address, h.stored) h.older key ((bytes_eq-Decides h.stored.key key).1 same) in
    All-same Near (chain bucket log key) (h.passed ++ (address, h.stored) ∷ []) (h.way ∙ ap (λ (l : Log). h.passed ++ l) last) (All-push Near h.passed (address, h.stored) h.near near)

-- and else the walk goes on at its link, which is lower
pub here-link : (bucket : List ℕ → ℕ) (begin : ℕ) (log : Log) (key : List ℕ) (Near : ℕ × Stored → Type 0) (address : ℕ) → (h : IsHere bucket begin log key Near address) → (h.stored.key ≡ key → ⊥) → Near (address, h.stored) → IsWalk bucket begin log key Near h.stored.link
here-link bucket begin log key Near address h other near =
    let f : bytes_eq h.stored.key key ≡ false = false_from_ne_true (bytes_eq h.stored.key key) (λ t. other ((bytes_eq-Decides h.stored.key key).0 t)) in
    let t : (bucket h.stored.key == bucket key) ≡ true = eq-eqb (bucket h.stored.key) (bucket key) h.same in
    record {
      rest = h.older;
      within = h.within;
      linked = h.linked;
      joins = subst (λ (b : ℕ). Joins bucket begin h.stored.link h.older b) h.same h.next.joins;
      newest = h.newest ∙ newest-skip (address, h.stored) h.older key f;
      passed = h.passed ++ (address, h.stored) ∷ [];
      way = h.way ∙ ap (λ (l : Log). h.passed ++ l) (chain-over bucket (address, h.stored) h.older key f t) ∙ sym (append_assoc h.passed ((address, h.stored) ∷ []) (chain bucket h.older key));
      near = All-push Near h.passed (address, h.stored) h.near near;
    }

pub link-falls : (bucket : List ℕ → ℕ) (begin : ℕ) (log : Log) (key : List ℕ) (Near : ℕ × Stored → Type 0) (address : ℕ) → begin ≤ address → (h : IsHere bucket begin log key Near address) → h.stored.link < address
link-falls bucket begin log key Near address low h = elim (joins_low bucket begin h.older h.stored.link (bucket h.stored.key) h.linked h.next.joins) [
  | inl l ↦ omega (arith, l, low)
  | inr l ↦ omega (arith, l, h.next.falls)
]

-- the way goes on with it
pub record GoesOn (bucket : List ℕ → ℕ) (log : Log) (key : List ℕ) (passed : Log) (x : ℕ × Stored) : Type 0 where
  pub more : Log
  pub way : chain bucket log key ≡ passed ++ x ∷ more

goes-on : (bucket : List ℕ → ℕ) (log : Log) (key : List ℕ) (passed : Log) (x : ℕ × Stored) (older : Log) → bucket x.1.key ≡ bucket key → chain bucket log key ≡ passed ++ chain bucket (x ∷ older) key → GoesOn bucket log key passed x
goes-on bucket log key passed x older same way = elim (cases_Bool (bytes_eq x.1.key key)) [
  | inl y ↦ record { more = []; way = way ∙ ap (λ (l : Log). passed ++ l) (chain-last bucket x older key y) }
  | inr n ↦ record { more = chain bucket older key; way = way ∙ ap (λ (l : Log). passed ++ l) (chain-over bucket x older key n (eq-eqb (bucket x.1.key) (bucket key) same)) }
]

pub here-next : (bucket : List ℕ → ℕ) (begin : ℕ) (log : Log) (key : List ℕ) (Near : ℕ × Stored → Type 0) (address : ℕ) → (h : IsHere bucket begin log key Near address) → GoesOn bucket log key h.passed (address, h.stored)
here-next bucket begin log key Near address h = goes-on bucket log key h.passed (address, h.stored) h.older h.same h.way

behind : (xs : Log) (x : ℕ × Stored) (more : Log) → Contains (xs ++ x ∷ more) x
behind [] x more = here x more
behind (y ∷ xs) x more = there y (xs ++ x ∷ more) x (behind xs x more)

-- the lookup comes to it
pub here-visited : (bucket : List ℕ → ℕ) (begin : ℕ) (log : Log) (key : List ℕ) (Near : ℕ × Stored → Type 0) (address : ℕ) → (h : IsHere bucket begin log key Near address) → Contains (chain bucket log key) (address, h.stored)
here-visited bucket begin log key Near address h =
    let n = here-next bucket begin log key Near address h in
    subst (λ (l : Log). Contains l (address, h.stored)) (sym n.way) (behind h.passed (address, h.stored) n.more)

-- a record of the log is live
pub listed-live : (bucket : List ℕ → ℕ) (begin : ℕ) (log : Log) (e : ℕ × Stored) → IsLinked bucket begin log → Contains log e → begin ≤ e.0
listed-live bucket begin [] e linked c = absurd (omega (arith, c.1))
listed-live bucket begin (x ∷ log) e linked c = elim (cons_cases x log e c) [
  | inl is ↦ omega (arith, linked.0.live, ap (λ (z : ℕ × Stored). z.0) is)
  | inr more ↦ listed-live bucket begin log e linked.1 more
]

-- the newest record of a key is no newer than the one that joins its bucket
newest-low : (bucket : List ℕ → ℕ) (begin : ℕ) (key : List ℕ) (address : ℕ) (rest : Log) (e : ℕ × Stored) → IsLinked bucket begin rest → Joins bucket begin address rest (bucket key) → newest rest key ≡ Some e → (begin ≤ e.0) × (e.0 ≤ address)
newest-low bucket begin key address [] e linked joins new = absurd (let bad = sym (newest-none key) ∙ new in cc)
newest-low bucket begin key address (x ∷ more) e linked joins new =
    elim (cases_Bool (bucket x.1.key == bucket key)) [
      | inl y ↦
          let at : address ≡ x.0 = rw y at joins in
          elim (cases_Bool (bytes_eq x.1.key key)) [
            | inl t ↦ let it : x ≡ e = some_is x e (sym (newest-first x more key t) ∙ new) in (omega (arith, linked.0.live, ap (λ (z : ℕ × Stored). z.0) it), omega (arith, at, ap (λ (z : ℕ × Stored). z.0) it))
            | inr f ↦ let c = newest-listed more key e (sym (newest-skip x more key f) ∙ new) in (listed-live bucket begin more e linked.1 c, omega (arith, at, below bucket begin more e linked.1 c, linked.0.falls))
          ]
      | inr n ↦
          let joins_more : Joins bucket begin address more (bucket key) = rw n at joins in
          newest-low bucket begin key address more e linked.1 joins_more (sym (newest-skip x more key (other-key bucket x.1.key key n)) ∙ new)
    ]

pub walk-low : (bucket : List ℕ → ℕ) (begin : ℕ) (log : Log) (key : List ℕ) (Near : ℕ × Stored → Type 0) (address : ℕ) (e : ℕ × Stored) → IsWalk bucket begin log key Near address → newest log key ≡ Some e → (begin ≤ e.0) × (e.0 ≤ address)
walk-low bucket begin log key Near address e w new = newest-low bucket begin key address w.rest e w.linked w.joins (sym w.newest ∙ new)

-- below the begin address there is none
pub walk-end : (bucket : List ℕ → ℕ) (begin : ℕ) (log : Log) (key : List ℕ) (Near : ℕ × Stored → Type 0) (address : ℕ) → IsWalk bucket begin log key Near address → address < begin → newest log key ≡ None
walk-end bucket begin log key Near address w low = go (newest log key) refl
  where
    go : (o : Option (ℕ × Stored)) → newest log key ≡ o → newest log key ≡ None
    go None e = e
    go (Some x) e = absurd (let l = walk-low bucket begin log key Near address x w e in omega (arith, l.0, l.1, low))

chain-none : (bucket : List ℕ → ℕ) (begin : ℕ) (key : List ℕ) (address : ℕ) (rest : Log) → IsLinked bucket begin rest → Joins bucket begin address rest (bucket key) → address < begin → chain bucket rest key ≡ []
chain-none bucket begin key address [] linked joins low = refl
chain-none bucket begin key address (x ∷ more) linked joins low =
    elim (cases_Bool (bucket x.1.key == bucket key)) [
      | inl y ↦ let at : address ≡ x.0 = rw y at joins in absurd (omega (arith, at, low, linked.0.live))
      | inr n ↦
          let joins_more : Joins bucket begin address more (bucket key) = rw n at joins in
          chain-skip bucket x more key (other-key bucket x.1.key key n) n ∙ chain-none bucket begin key address more linked.1 joins_more low
    ]

-- the way has been passed
pub walk-passed : (bucket : List ℕ → ℕ) (begin : ℕ) (log : Log) (key : List ℕ) (Near : ℕ × Stored → Type 0) (address : ℕ) → IsWalk bucket begin log key Near address → address < begin → All Near (chain bucket log key)
walk-passed bucket begin log key Near address w low =
    let none = chain-none bucket begin key address w.rest w.linked w.joins low in
    All-same Near (chain bucket log key) w.passed (w.way ∙ ap (λ (l : Log). w.passed ++ l) none ∙ append-nil w.passed) w.near

-- the walk starts at the head of the bucket
pub walk-start : (p : HybridLog) (key : List ℕ) (Near : ℕ × Stored → Type 0) → IsHybridLog p → IsWalk (bucket_of p) (begin_of p.oldest) (log_of p) key Near (slice_index p.heads (bucket_of p key))
walk-start p key Near is = record {
  rest = log_of p;
  within = λ e c. c;
  linked = is.linked;
  joins = is.joined (bucket_of p key) (mod-lt _ is.buckets);
  newest = refl;
  passed = [];
  way = refl;
  near = All-nil Near;
}
