-- The loop of a lookup.
use Rattle.std.proofs.Common.{◌≡◌, ℕ, ◌-◌, ◌*◌, ◌/◌, ◌%◌, ◌<◌, ◌≤◌, inl, inr, List, [], ◌∷◌, length, slice_index, Option, Some, None, refl, sym, ap, ◌∙◌, subst, arith, mod-lt}
use Rattle.std.specs.List.{Contains}
use Rattle.records.specs.Records.{Stored}
use Rattle.frames.specs.Resident.{next_number}
use Rattle.words.specs.Stripes.{hash_of}
use Rattle.hybrid.specs.Log.{Log, begin_of, newest, top}
use Rattle.hybrid.specs.HybridLog.{HybridLog, Kept, IsHybridLog, bucket_of, log_of, page_at, shown_page, cold, receipt_at, receipt_of}
use Rattle.hybrid.specs.Lookups.{IsLaidAt, Leads}
use Rattle.std.proofs.lemmas.List.{get_or_append_left, get_or-take}
use Rattle.records.specs.declared.pages.TheConstants.{PAGE_SIZE}
use Rattle.hybrid.specs.Staging.{StagedPage}
use Rattle.hybrid.specs.Ways.{IsNear, IsFirstFar}
use Rattle.hybrid.proofs.Logs.{here}
use Rattle.hybrid.proofs.Chains.{joins_low, unique}
use Rattle.hybrid.proofs.Walk.{IsWalk, IsHere, here-found, listed-live, walk-here, walk-start, here-visited, here-next}
use Rattle.hybrid.proofs.Overwriting.{at-page}
use Rattle.hybrid.proofs.Placing.{IsPlacing}
use Rattle.hybrid.proofs.Replacing.{cold-size}
use Rattle.hybrid.proofs.Parts.{shown-at}
use Rattle.std.proofs.Common.{map, take}
use Rattle.std.specs.Prelude.{IsSome, IfSome, IfNone, nat_lt, ⊤}
use Rattle.std.proofs.Common.{false}
use Rattle.std.proofs.lemmas.Bool.{le-ltb}

-- what the loop keeps
pub record IsFinding (honest right : Type 0) (p : HybridLog) (key : List ℕ) (Near : ℕ × Stored → Type 0) (address : ℕ) : Type 0 where
  pub below : address < next_number p.resident * PAGE_SIZE
  pub walk : honest → right → IsWalk (bucket_of p) (begin_of p.oldest) (log_of p) key Near address
  pub placing : IsPlacing p key address

pub record IsStart (p : HybridLog) (key : List ℕ) (Near : ℕ × Stored → Type 0) (address : ℕ) : Type 0 where
  pub is : IsHybridLog p
  pub below : address < next_number p.resident * PAGE_SIZE
  pub walk : IsWalk (bucket_of p) (begin_of p.oldest) (log_of p) key Near address

top-in : (p : HybridLog) (log : Log) → IsHybridLog p → ((e : ℕ × Stored) → Contains log e → Contains (log_of p) e) → top log < next_number p.resident * PAGE_SIZE
top-in p [] is within = omega (arith, is.tail)
top-in p (e ∷ log) is within = omega (arith, (at-page p e is (within e (here e log))).high)

head-below : (p : HybridLog) (b : ℕ) → IsHybridLog p → b < length p.heads → slice_index p.heads b < next_number p.resident * PAGE_SIZE
head-below p b is within = elim (joins_low (bucket_of p) (begin_of p.oldest) (log_of p) (slice_index p.heads b) b is.linked (is.joined b within)) [
  | inl l ↦ omega (arith, l, is.live, is.tail)
  | inr l ↦ omega (arith, l, top-in p (log_of p) is (λ e c. c))
]

start : (p : HybridLog) (key : List ℕ) (Near : ℕ × Stored → Type 0) → IsHybridLog p → IsStart p key Near (slice_index p.heads (bucket_of p key))
start p key Near is =
    let w = walk-start p key Near is in
    record {
      is = is;
      below = head-below p (bucket_of p key) is (mod-lt _ is.buckets);
      walk = w;
    }

-- what the index gets of the hash of a key
pub part-is : (v now : HybridLog) (key : List ℕ) (hash part : ℕ) → v ≡ now → hash ≡ hash_of key → part ≡ hash / now.stripes → part ≡ hash_of key / v.stripes
part-is v now key hash part same hashed parted = parted ∙ ap (λ (q : HybridLog). hash / q.stripes) (sym same) ∙ ap (λ (h : ℕ). h / v.stripes) hashed

-- the walk starts at the head of the bucket
pub start-from : (v now : HybridLog) (key : List ℕ) (Near : ℕ × Stored → Type 0) (hash part a : ℕ) → v ≡ now → IsHybridLog v → hash ≡ hash_of key → part ≡ hash / now.stripes → a ≡ slice_index v.heads (part % length v.heads) → IsStart now key Near a
start-from v now key Near hash part a same is hashed parted at =
    let at_head : a ≡ slice_index v.heads (bucket_of v key) =
    at ∙ ap (λ (n : ℕ). slice_index v.heads (n % length v.heads)) (part-is v now key hash part same hashed parted) in
    subst (λ (q : HybridLog). IsStart q key Near a) same (subst (λ (n : ℕ). IsStart v key Near n) (sym at_head) (start v key Near is))

-- the record that the walk has come to stands in the page of its address
pub record IsSeen (p : HybridLog) (key : List ℕ) (Near : ℕ × Stored → Type 0) (address : ℕ) : Type 0 where
  pub found : IsHere (bucket_of p) (begin_of p.oldest) (log_of p) key Near address
  pub at : IsLaidAt p address found.stored

pub seen : (p : HybridLog) (key : List ℕ) (Near : ℕ × Stored → Type 0) (address : ℕ) → IsHybridLog p → begin_of p.oldest ≤ address → IsWalk (bucket_of p) (begin_of p.oldest) (log_of p) key Near address → IsSeen p key Near address
seen p key Near address is low walk =
    let h = walk-here (bucket_of p) (begin_of p.oldest) (log_of p) key Near address low walk in
    let f = at-page p (address, h.stored) is h.listed in
    record { found = h; at = record { laid = f.laid; listed = f.listed } }

-- it leads there
pub leads-here : (p : HybridLog) (key : List ℕ) (Near : ℕ × Stored → Type 0) (address number : ℕ) → begin_of p.oldest ≤ address → IsWalk (bucket_of p) (begin_of p.oldest) (log_of p) key Near address → number ≡ address / PAGE_SIZE → Leads p key number
leads-here p key Near address number low walk at =
    let h = walk-here (bucket_of p) (begin_of p.oldest) (log_of p) key Near address low walk in
    record { entry = (address, h.stored); listed = here-visited (bucket_of p) (begin_of p.oldest) (log_of p) key Near address h; there = sym at }

-- no record before it is far
pub far-here : (lends : Type 0) (p : HybridLog) (staged : List StagedPage) (key : List ℕ) (address number : ℕ) → (here : IsHere (bucket_of p) (begin_of p.oldest) (log_of p) key (IsNear lends p staged) address)
    → number ≡ address / PAGE_SIZE → (IsNear lends p staged (address, here.stored) → ⊥) → IsFirstFar lends p staged key number
far-here lends p staged key address number h at far =
    let n = here-next (bucket_of p) (begin_of p.oldest) (log_of p) key (IsNear lends p staged) address h in
    record { passed = h.passed; entry = (address, h.stored); more = n.more; way = n.way; near = h.near; there = sym at; far = far }

pub now-is : (v now : HybridLog) → v ≡ now → IsHybridLog v → IsHybridLog now
now-is v now same is = subst (λ (q : HybridLog). IsHybridLog q) same is

-- a record of the log that stands at the head of its bucket is the newest of its key
pub at-head : (v now : HybridLog) (key : List ℕ) (hash part head address : ℕ) (r : Stored) → v ≡ now → IsHybridLog v → hash ≡ hash_of key → part ≡ hash / now.stripes → head ≡ slice_index v.heads (part % length v.heads)
    → Contains (log_of now) (address, r) → r.key ≡ key → address ≡ head → newest (log_of now) key ≡ Some (address, r)
at-head v now key hash part head address r same is hashed parted at listed keyed first =
    let linked = (now-is v now same is).linked in
    let low = listed-live (bucket_of now) (begin_of now.oldest) (log_of now) (address, r) linked listed in
    let walk = (start-from v now key (λ _. ⊤) hash part address same is hashed parted (first ∙ at)).walk in
    let h = walk-here (bucket_of now) (begin_of now.oldest) (log_of now) key (λ _. ⊤) address low walk in
    let it : h.stored ≡ r = unique (bucket_of now) (begin_of now.oldest) (log_of now) address h.stored r linked h.listed listed in
    here-found (bucket_of now) (begin_of now.oldest) (log_of now) key (λ _. ⊤) address h (ap (λ (x : Stored). x.key) it ∙ keyed) ∙ ap (λ (x : Stored). Some (address, x)) it

-- ---- a page that is not resident

-- a page of the log that is not resident is the one that its receipt shows
pub page-cold : (p : HybridLog) (number : ℕ) (k : Kept) → IsHybridLog p → p.oldest ≤ number → number < p.resident.oldest → receipt_of p number ≡ Some k → page_at p number ≡ k.shown
page-cold p number k is low high has =
    let i : ℕ = number - p.oldest in
    let lt : i < cold p = omega (arith, low, high) in
    let fits : cold p ≤ length p.kept = omega (arith, is.numbered, is.live) in
    get_or_append_left (map shown_page (take (cold p) p.kept)) p.resident.pages [] i (omega (arith, lt, cold-size p is)) ∙ (shown-at (take (cold p) p.kept) i k (get_or-take (cold p) p.kept i None lt ∙ has)).1

-- there is a receipt of it
pub receipt-there : (p : HybridLog) (number : ℕ) → p.oldest ≤ number → receipt_at p number ≡ receipt_of p number
receipt-there p number low = let f : nat_lt number p.oldest ≡ false = le-ltb number p.oldest low in rw f refl

pub cold-none : (p : HybridLog) (number : ℕ) → IsHybridLog p → p.oldest ≤ number → number < p.resident.oldest → None ≡ receipt_at p number → ⊥
cold-none p number is low high e =
    let some : IsSome (receipt_of p number) = is.cold_kept (number - p.oldest) (omega (arith, low, high)) in
    let none : receipt_of p number ≡ None = sym (e ∙ receipt-there p number low) in
    absurd (let bad : IsSome {T = Kept} None = subst (λ (o : Option Kept). IsSome o) none some in cc)

pub cold-has : (p : HybridLog) (number : ℕ) (k : Kept) → p.oldest ≤ number → Some k ≡ receipt_at p number → receipt_of p number ≡ Some k
cold-has p number k low e = sym (e ∙ receipt-there p number low)

pub some-so : {X : Type 0} (o : Option X) (P Q : X → Type 0) → ((x : X) → P x → Q x) → IfSome o P → IfSome o Q
some-so None P Q f h = tt
some-so (Some x) P Q f h = f x h

pub some-both : {X : Type 0} (o : Option X) (P Q S : X → Type 0) → ((x : X) → P x → Q x → S x) → IfSome o P → IfSome o Q → IfSome o S
some-both None P Q S f h k = tt
some-both (Some x) P Q S f h k = f x h k

pub none-so : {X : Type 0} (o : Option X) (P Q : Type 0) → (P → Q) → IfNone o P → IfNone o Q
none-so None P Q f h = f h
none-so (Some x) P Q f h = tt

pub never-none : {X : Type 0} (o : Option X) (P : Type 0) → IsSome o → IfNone o P
never-none None P h = absurd cc
never-none (Some x) P h = tt
