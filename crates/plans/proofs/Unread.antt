-- Reading ends: each read of a page that is wanted makes the reads that are left fewer.
use Rattle.std.proofs.Common.{◌≡◌, ◌∙◌, ℕ, zero, suc, ◌-◌, ◌<◌, ◌≤◌, ◌⊎◌, inl, inr, List, [], ◌∷◌, ◌++◌, Option, Some, None, cond, sym, ap, refl, subst, arith, ⊎_elim, append_assoc}
use Rattle.std.specs.Prelude.{slice_index_or}
use Rattle.std.proofs.lemmas.Bool.{cases_eq, le-ltb}
use Rattle.hybrid.specs.HybridLog.{HybridLog, Kept, receipt_of}
use Rattle.hybrid.specs.Reading.{HasRead, ReadingLaws, unread_at, unread_of}
use Rattle.hybrid.specs.Staging.{StagedPage, IsStaged}
use Rattle.words.specs.Store.{Bytes}
use Rattle.words.specs.Stripes.{stripe_of}
use Rattle.plans.specs.Stops.{AreCold, Each, IsCold}
use Rattle.plans.specs.Reading.{AreFewer, AreServed, IsServed, ServesEach, AreRead, unread, unread_log}
use Rattle.plans.proofs.Stores.{some_is}
use Rattle.plans.proofs.Rooms.{stripe_below}

append_none : {X : Type 0} (a : List X) → a ≡ a ++ []
append_none [] = refl
append_none (x ∷ a) = ap (λ l. x ∷ l) (append_none a)

none_fewer : (staged : List StagedPage) → AreFewer staged staged []
none_fewer staged = tt

-- there was no receipt
pub read_none : (receipts : List Kept) (staged : List StagedPage) → receipts ≡ [] → AreRead receipts staged staged
read_none receipts staged none = subst (λ (l : List Kept). AreRead l staged staged) (sym none) (record { more = []; still = append_none staged; fewer = none_fewer staged })

fewer_last : (receipts : List Kept) (k : Kept) (before later : List StagedPage) → AreFewer before later receipts → (unread_at later k.identity < unread_at before k.identity) ⊎ (unread_at later k.identity ≡ 0)
    → AreFewer before later (receipts ++ k ∷ [])
fewer_last [] k before later all last = (last, tt)
fewer_last (x ∷ receipts) k before later all last = (all.0, fewer_last receipts k before later all.1 last)

-- from before
fewer_since : (receipts : List Kept) (a b later : List StagedPage) → ((identity : List ℕ) → unread_at b identity ≤ unread_at a identity) → AreFewer b later receipts → AreFewer a later receipts
fewer_since [] a b later no_more all = tt
fewer_since (x ∷ receipts) a b later no_more all = (
  elim all.0 [ inl less ↦ inl (omega (arith, less, no_more x.identity)) | inr none ↦ inr none ],
  fewer_since receipts a b later no_more all.1,
)

module _ (laws : ReadingLaws) where
  no_more_since : (a b more : List StagedPage) → b ≡ a ++ more → (identity : List ℕ) → unread_at b identity ≤ unread_at a identity
  no_more_since a b more is identity = subst (λ l. unread_at l identity ≤ unread_at a identity) (sym is) (laws.no_more_at a more identity)

  -- one was read, and then the others
  pub read_more : (all others : List Kept) (k : Kept) (a b c : List StagedPage) → all ≡ others ++ k ∷ [] → HasRead k a b → AreRead others b c → AreRead all a c
  read_more all others k a b c is one rest =
      let s : StagedPage = record { kept = k; page = one.page; piece = one.piece } in
      let joined : c ≡ a ++ (s ∷ rest.more) = rest.still ∙ ap (λ (l : List StagedPage). l ++ rest.more) one.is ∙ append_assoc a (s ∷ []) rest.more in
      let after = no_more_since b c rest.more rest.still k.identity in
      let last : (unread_at c k.identity < unread_at a k.identity) ⊎ (unread_at c k.identity ≡ 0) = elim (laws.fewer_at k a b one) [
        | inl less ↦ inl (omega (arith, less, after))
        | inr none ↦ inr (omega (arith, none, after))
      ] in
      subst (λ (l : List Kept). AreRead l a c) (sym is)
      (record { more = s ∷ rest.more; still = joined; fewer = fewer_last others k a c (fewer_since others a b c (no_more_since a b (s ∷ []) one.is) rest.fewer) last })

  fewer_of : (kept : List (Option Kept)) (a b : List StagedPage) → unread_of kept (a ++ b) ≤ unread_of kept a
  fewer_of [] a b = omega arith
  fewer_of (None ∷ kept) a b = fewer_of kept a b
  fewer_of (Some k ∷ kept) a b = omega (arith, fewer_of kept a b, laws.no_more_at a b k.identity)

  less_of : (kept : List (Option Kept)) (i : ℕ) (k : Kept) (a b : List StagedPage) → slice_index_or kept i None ≡ Some k → unread_at (a ++ b) k.identity < unread_at a k.identity
      → unread_of kept (a ++ b) < unread_of kept a
  less_of [] i k a b there less = absurd (cc there)
  less_of (None ∷ kept) zero k a b there less = absurd (cc there)
  less_of (Some x ∷ kept) zero k a b there less =
      let same : x ≡ k = some_is x k (Some x) refl there in
      let one : unread_at (a ++ b) x.identity < unread_at a x.identity = subst (λ (y : Kept). unread_at (a ++ b) y.identity < unread_at a y.identity) (sym same) less in
      omega (arith, fewer_of kept a b, one)
  less_of (None ∷ kept) (suc i) k a b there less = less_of kept i k a b there less
  less_of (Some x ∷ kept) (suc i) k a b there less = omega (arith, less_of kept i k a b there less, laws.no_more_at a b x.identity)

  fewer_log : (a b : List StagedPage) (log : Option HybridLog) → unread_log log (a ++ b) ≤ unread_log log a
  fewer_log a b None = omega arith
  fewer_log a b (Some log) = fewer_of log.kept a b

  fewer : (logs : ℕ → Option HybridLog) (a b : List StagedPage) (n : ℕ) → unread n logs (a ++ b) ≤ unread n logs a
  fewer logs a b zero = omega arith
  fewer logs a b (suc n) = omega (arith, fewer logs a b n, fewer_log a b (logs n))

  less : (logs : ℕ → Option HybridLog) (a b : List StagedPage) (n stripe : ℕ) → stripe < n → unread_log (logs stripe) (a ++ b) < unread_log (logs stripe) a → unread n logs (a ++ b) < unread n logs a
  less logs a b zero stripe below one = absurd (omega (arith, below))
  less logs a b (suc n) stripe below one = ⊎_elim
      (λ same. let here : unread_log (logs n) (a ++ b) < unread_log (logs n) a = subst (λ (k : ℕ). unread_log (logs k) (a ++ b) < unread_log (logs k) a) same one in omega (arith, fewer logs a b n, here))
      (λ ne. omega (arith, less logs a b n stripe (omega (arith, below, ne)) one, fewer_log a b (logs n)))
      (cases_eq stripe n)

  -- what was wanted, and read, makes the reads that are left fewer
  pub reads_fewer : (n : ℕ) (logs : ℕ → Option HybridLog) (keys : List Bytes) (receipts : List Kept) (before later : List StagedPage) → 1 ≤ n → AreCold n logs keys before receipts
      → AreRead receipts before later → unread n logs later < unread n logs before
  reads_fewer n logs keys [] before later some cold read = absurd cold.0
  reads_fewer n logs keys (k ∷ receipts) before later some cold read =
      let c = cold.1.0 in
      let w = c.wanted in
      let p : HybridLog = c.log in
      let at : receipt_of p w.number ≡ Some k = sym (ap (λ t. cond t None (receipt_of p w.number)) (le-ltb w.number p.oldest w.missing.live)) ∙ w.receipt in
      let same : w.missing.kept ≡ k = some_is w.missing.kept k (receipt_of p w.number) w.missing.has at in
      let left : 0 < unread_at before k.identity = laws.left_at before k.identity (λ staged. w.missing.unread (subst (λ (x : Kept). IsStaged before x.identity) (sym same) staged)) in
      let now : unread_at (before ++ read.more) k.identity ≡ unread_at later k.identity = ap (λ (l : List StagedPage). unread_at l k.identity) (sym read.still) in
      let lower : unread_at (before ++ read.more) k.identity < unread_at before k.identity = elim read.fewer.0 [
        | inl fewer ↦ omega (arith, now, fewer)
        | inr none ↦ omega (arith, now, none, left)
      ] in
      let one : unread_log (Some p) (before ++ read.more) < unread_log (Some p) before = less_of p.kept (w.number - p.oldest) k before read.more at lower in
      let there : unread_log (logs (stripe_of n c.key)) (before ++ read.more) < unread_log (logs (stripe_of n c.key)) before = subst (λ (o : Option HybridLog). unread_log o (before ++ read.more) < unread_log o before) (sym c.there) one in
      subst (λ (l : List StagedPage). unread n logs l < unread n logs before) (sym read.still) (less logs before read.more n (stripe_of n c.key) (stripe_below n c.key some) there)

-- the receipts that are cold are served where all that are kept are
pub cold_served : {D R : Type 0} (serves : D → R → Type 0) (identity : R → List ℕ) (n : ℕ) (logs : ℕ → Option HybridLog) (keys : List Bytes) (staged : List StagedPage) (receipts : List Kept) (device : D)
    → AreServed serves identity device logs → Each (IsCold n logs keys staged) receipts → ServesEach serves identity device receipts
cold_served serves identity n logs keys staged [] device served cold = tt
cold_served serves identity n logs keys staged (k ∷ receipts) device served cold =
    (served (stripe_of n cold.0.key) cold.0.log cold.0.wanted.number k cold.0.there cold.0.wanted.receipt, cold_served serves identity n logs keys staged receipts device served cold.1)

-- the last of receipts that are served, and the others
pub served_last : {D R : Type 0} (serves : D → R → Type 0) (identity : R → List ℕ) (device : D) (others : List Kept) (k : Kept) → ServesEach serves identity device (others ++ k ∷ [])
    → ServesEach serves identity device others × IsServed serves identity device k
served_last serves identity device [] k all = (tt, all.0)
served_last serves identity device (x ∷ others) k all = let rest = served_last serves identity device others k all.1 in ((all.0, rest.0), rest.1)

-- what was served is served still
pub each_still : {D R : Type 0} (serves : D → R → Type 0) (identity : R → List ℕ) (one other : D) (receipts : List Kept) → ((r : R) → serves one r → serves other r)
    → ServesEach serves identity one receipts → ServesEach serves identity other receipts
each_still serves identity one other [] still all = tt
each_still serves identity one other (k ∷ receipts) still all = (λ r is. still r (all.0 r is), each_still serves identity one other receipts still all.1)

pub are_still : {D R : Type 0} (serves : D → R → Type 0) (identity : R → List ℕ) (one other : D) (logs : ℕ → Option HybridLog) → ((r : R) → serves one r → serves other r)
    → AreServed serves identity one logs → AreServed serves identity other logs
are_still serves identity one other logs still all stripe log number kept there has r is = still r (all stripe log number kept there has r is)

pub served_split : {D R : Type 0} (serves : D → R → Type 0) (identity : R → List ℕ) (device : D) (all others : List Kept) (k : Kept) → all ≡ others ++ k ∷ [] → ServesEach serves identity device all
    → ServesEach serves identity device others × IsServed serves identity device k
served_split serves identity device all others k is served = served_last serves identity device others k (subst (ServesEach serves identity device) is served)

-- what a stop names is served where all that was kept is, and the device serves it still
pub are_cold_served : {D R : Type 0} (serves : D → R → Type 0) (identity : R → List ℕ) (n : ℕ) (start logs : ℕ → Option HybridLog) (keys : List Bytes) (staged : List StagedPage) (receipts : List Kept)
    (first device now : D) → ((i : ℕ) → logs i ≡ start i) → ((r : R) → serves first r → serves device r) → now ≡ device → AreServed serves identity first start → AreCold n logs keys staged receipts
    → ServesEach serves identity now receipts
are_cold_served {D} serves identity n start logs keys staged receipts first device now same still is served cold =
    subst (λ (d : D). ServesEach serves identity d receipts) (sym is)
    (cold_served serves identity n logs keys staged receipts device (λ stripe log number kept there has r named. still r (served stripe log number kept (sym (same stripe) ∙ there) has r named)) cold.1)
