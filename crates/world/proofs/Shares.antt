-- What the writes to a stripe weigh.
use Rattle.std.proofs.Common.{◌≡◌, ◌≢◌, ◌∙◌, ◌||◌, ℕ, ◌+◌, ◌<◌, ◌≤◌, Bool, true, false, cond, List, [], ◌∷◌, refl, sym, ap, ap₂, subst, nat_eq, bytes_eq, eq-eqb, ne_eqb, ⊎_elim, arith}
use Rattle.std.proofs.lemmas.Bool.{cases_eq}
use Rattle.std.proofs.lemmas.Slice.Eq.{bytes_eq-Decides}
use Rattle.words.specs.Store.{Bytes, Write, writes_key, weight}
use Rattle.words.specs.Stripes.{stripe_of}
use Rattle.shards.specs.Rooms.{share}
use Rattle.shards.specs.Shards.{weigh}
use Rattle.world_model.specs.Rooms.{is_written_in}

-- what the first of writes weighs, by whether a later one hides it
abbrev first_weight : Write → List Write → ℕ
first_weight write writes = cond (writes_key writes write.0) 0 (weigh write)

share_here : (n i : ℕ) (write : Write) (writes : List Write) → stripe_of n write.0 ≡ i → share n i (write ∷ writes) ≡ first_weight write writes + share n i writes
share_here n i write writes at = ap (λ b. cond b (first_weight write writes) 0 + share n i writes) (eq-eqb (stripe_of n write.0) i at)

share_away : (n i : ℕ) (write : Write) (writes : List Write) → stripe_of n write.0 ≢ i → share n i (write ∷ writes) ≡ share n i writes
share_away n i write writes ne =
    ap (λ b. cond b (first_weight write writes) 0 + share n i writes) (ne_eqb (stripe_of n write.0) i ne) ∙ zero_more (share n i writes)
  where
    zero_more : (k : ℕ) → 0 + k ≡ k
    zero_more k = omega arith

share_last : (n i : ℕ) (write : Write) (writes : List Write) → stripe_of n write.0 ≡ i → writes_key writes write.0 ≡ false
    → share n i (write ∷ writes) ≡ weigh write + share n i writes
share_last n i write writes at last =
    share_here n i write writes at ∙ ap (λ b. cond b 0 (weigh write) + share n i writes) last

-- no stripe has more than all
pub share_light : (n i : ℕ) (writes : List Write) → share n i writes ≤ weight writes
share_light n i [] = omega arith
share_light n i (write ∷ writes) = ⊎_elim
    (λ at. omega (arith, share_here n i write writes at, share_light n i writes))
    (λ ne. omega (arith, share_away n i write writes ne, share_light n i writes))
    (cases_eq (stripe_of n write.0) i)

or_false : (a : Bool) → (a || false) ≡ true → a ≡ true
or_false true is = refl
or_false false is = is

pub or_none : (a b : Bool) → (a || b) ≡ false → (a ≡ false) × (b ≡ false)
or_none true b is = cc
or_none false b is = (refl, is)

last_some : (n : ℕ) (write : Write) (writes : List Write) (key : Bytes) → writes_key writes key ≡ false → bytes_eq write.0 key ≡ true
    → 0 < share n (stripe_of n key) (write ∷ writes)
last_some n write writes key later x =
    let same : write.0 ≡ key = (bytes_eq-Decides write.0 key).0 x in
    let is : share n (stripe_of n key) (write ∷ writes) ≡ weigh write + share n (stripe_of n key) writes =
    share_last n (stripe_of n key) write writes (ap (stripe_of n) same) (subst (λ (k : Bytes). writes_key writes k ≡ false) (sym same) later) in
    omega arith

more_some : (n i : ℕ) (write : Write) (writes : List Write) → 0 < share n i writes → 0 < share n i (write ∷ writes)
more_some n i write writes some = omega arith

-- the stripe of a key that is written has a share
pub share_some : (n : ℕ) (writes : List Write) (key : Bytes) → writes_key writes key ≡ true → 0 < share n (stripe_of n key) writes
share_some n [] key is = absurd (cc is)
share_some n (write ∷ writes) key is =
    elim (writes_key writes key) as (λ t. writes_key writes key ≡ t → (bytes_eq write.0 key || t) ≡ true → 0 < share n (stripe_of n key) (write ∷ writes)) [
      | true ↦ λ later x. more_some n (stripe_of n key) write writes (share_some n writes key later)
      | false ↦ λ later x. last_some n write writes key later (or_false (bytes_eq write.0 key) x)
    ] refl is

-- a stripe that is not written has none
pub share_none : (n i : ℕ) (writes : List Write) → is_written_in n writes i ≡ false → share n i writes ≡ 0
share_none n i [] is = refl
share_none n i (write ∷ writes) is =
    let parts = or_none (nat_eq (stripe_of n write.0) i) (is_written_in n writes i) is in
    ap₂ (λ (b : Bool) (s : ℕ). cond b (first_weight write writes) 0 + s) parts.0 (share_none n i writes parts.1)

pub share_written : (n i : ℕ) (writes : List Write) → 0 < share n i writes → is_written_in n writes i ≡ true
share_written n i writes some =
    elim (is_written_in n writes i) as (λ t. is_written_in n writes i ≡ t → t ≡ true) [
      | true ↦ λ is. refl
      | false ↦ λ is. let none : share n i writes ≡ 0 = share_none n i writes is in absurd (omega arith)
    ] refl
