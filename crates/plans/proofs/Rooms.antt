-- Room for writes, stripe by stripe.
use Rattle.std.proofs.Common.{◌≡◌, ◌≢◌, ◌∙◌, inl, inr, ℕ, zero, suc, ◌+◌, ◌-◌, ◌<◌, ◌≤◌, true, false, List, [], ◌∷◌, Option, Some, IsSome, cond, sym, ap, subst, refl, eq-eqb, ne_eqb, ⊎_elim, arith, length, slice_index, replicate, mod-lt}
use Rattle.std.proofs.lemmas.Bool.{cases_eq}
use Rattle.words.specs.Store.{Bytes, Write, writes_key, weight}
use Rattle.words.specs.Stripes.{stripe_of}
use Rattle.hybrid.specs.HybridLog.{HybridLog, HasRoom}
use Rattle.transact.specs.Tables.{AreThere, keys_written}
use Rattle.shards.specs.Shards.{weigh}
use Rattle.plans.proofs.Stores.{some_is}
use Rattle.shards.specs.Rooms.{share, AreRoomy, IsRoomyAt}

-- room for more is room for less
pub room_less : (p : HybridLog) (u w : ℕ) → u ≤ w → HasRoom p w → HasRoom p u
room_less p u w less has = record {
  room = elim has.room [
    | inl l ↦ inl (omega (arith, l, less))
    | inr h ↦ inr (record {
      frames = elim h.frames [ inl l ↦ inl (omega (arith, l, less)) | inr l ↦ inr (omega (arith, l, less)) ];
      numbers = omega (arith, h.numbers, less);
    })
  ];
}

-- what the first of writes weighs, by whether a later one hides it
abbrev pub first_weight : Write → List Write → ℕ
first_weight w ws = cond (writes_key ws w.0) 0 (weigh w)

zero_more : (k : ℕ) → 0 + k ≡ k
zero_more k = omega arith

pub share_here : (n i : ℕ) (w : Write) (ws : List Write) → stripe_of n w.0 ≡ i → share n i (w ∷ ws) ≡ first_weight w ws + share n i ws
share_here n i w ws at = ap (λ b. cond b (first_weight w ws) 0 + share n i ws) (eq-eqb (stripe_of n w.0) i at)

pub share_away : (n i : ℕ) (w : Write) (ws : List Write) → stripe_of n w.0 ≢ i → share n i (w ∷ ws) ≡ share n i ws
share_away n i w ws ne = ap (λ b. cond b (first_weight w ws) 0 + share n i ws) (ne_eqb (stripe_of n w.0) i ne) ∙ zero_more (share n i ws)

pub share_hidden : (n i : ℕ) (w : Write) (ws : List Write) → writes_key ws w.0 ≡ true → share n i (w ∷ ws) ≡ share n i ws
share_hidden n i w ws hidden = ⊎_elim
    (λ at. share_here n i w ws at ∙ ap (λ b. cond b 0 (weigh w) + share n i ws) hidden ∙ zero_more (share n i ws))
    (λ ne. share_away n i w ws ne)
    (cases_eq (stripe_of n w.0) i)

pub share_last : (n i : ℕ) (w : Write) (ws : List Write) → stripe_of n w.0 ≡ i → writes_key ws w.0 ≡ false → share n i (w ∷ ws) ≡ weigh w + share n i ws
share_last n i w ws at last = share_here n i w ws at ∙ ap (λ b. cond b 0 (weigh w) + share n i ws) last

-- no stripe has more than all
pub share_light : (n i : ℕ) (ws : List Write) → share n i ws ≤ weight ws
share_light n i [] = omega arith
share_light n i (w ∷ ws) = ⊎_elim
    (λ at. omega (arith, share_here n i w ws at, share_light n i ws))
    (λ ne. omega (arith, share_away n i w ws ne, share_light n i ws))
    (cases_eq (stripe_of n w.0) i)

pub rest_light : (w : Write) (ws : List Write) → weight ws ≤ weight (w ∷ ws)
rest_light w ws = omega arith

pub first_light : (w : Write) (ws : List Write) → writes_key ws w.0 ≡ false → weigh w ≤ weight (w ∷ ws)
first_light w ws last = let is : first_weight w ws ≡ weigh w = ap (λ b. cond b 0 (weigh w)) last in omega (arith, is)

-- a stripe that has a share is there
pub share_there : {T : Type 0} (n i : ℕ) (ws : List Write) (parts : ℕ → Option T) → AreThere n parts (keys_written ws) → 0 < share n i ws → IsSome (parts i)
share_there {T} n i [] parts there some = absurd (omega (arith, some))
share_there {T} n i (w ∷ ws) parts there some = ⊎_elim
    (λ at. subst (λ (k : ℕ). IsSome (parts k)) at there.0)
    (λ ne. share_there n i ws parts there.1 (omega (arith, some, share_away n i w ws ne)))
    (cases_eq (stripe_of n w.0) i)

pub roomy_less : (parts : ℕ → Option HybridLog) (stripe u w : ℕ) → u ≤ w → IsRoomyAt parts stripe w → IsRoomyAt parts stripe u
roomy_less parts stripe u w less is = record { log = is.log; there = is.there; room = room_less is.log u w less is.room }

pub roomy_as : (before later : ℕ → Option HybridLog) (stripe w : ℕ) → later stripe ≡ before stripe → IsRoomyAt before stripe w → IsRoomyAt later stripe w
roomy_as before later stripe w same is = record { log = is.log; there = same ∙ is.there; room = is.room }

pub roomy_by : (parts : ℕ → Option HybridLog) (stripe u w : ℕ) → u ≡ w → IsRoomyAt parts stripe u → IsRoomyAt parts stripe w
roomy_by parts stripe u w same is = subst (IsRoomyAt parts stripe) same is

-- where the first write is hidden, there is room for the others
pub roomy_hidden : (n : ℕ) (w : Write) (ws : List Write) (parts : ℕ → Option HybridLog) → writes_key ws w.0 ≡ true → AreRoomy n parts (w ∷ ws) → AreRoomy n parts ws
roomy_hidden n w ws parts hidden roomy i some =
    roomy_by parts i (share n i (w ∷ ws)) (share n i ws) (share_hidden n i w ws hidden) (roomy i (omega (arith, some, share_hidden n i w ws hidden)))

-- there is room for the first write
pub roomy_first : (n : ℕ) (w : Write) (ws : List Write) (parts : ℕ → Option HybridLog) → writes_key ws w.0 ≡ false → AreRoomy n parts (w ∷ ws)
    → IsRoomyAt parts (stripe_of n w.0) (weigh w + share n (stripe_of n w.0) ws)
roomy_first n w ws parts last roomy =
    let s : ℕ = stripe_of n w.0 in
    let is : share n s (w ∷ ws) ≡ weigh w + share n s ws = share_last n s w ws refl last in
    roomy_by parts s (share n s (w ∷ ws)) (weigh w + share n s ws) is (roomy s (omega (arith, is)))

-- and after it for the others
pub roomy_after : (n : ℕ) (w : Write) (ws : List Write) (before later : ℕ → Option HybridLog) → writes_key ws w.0 ≡ false → AreRoomy n before (w ∷ ws)
    → ((weight : ℕ) → weigh w ≤ weight → IsRoomyAt before (stripe_of n w.0) weight → IsRoomyAt later (stripe_of n w.0) (weight - weigh w))
    → ((other : ℕ) → other ≢ stripe_of n w.0 → later other ≡ before other) → AreRoomy n later ws
roomy_after n w ws before later last roomy left others i some = ⊎_elim
    (λ at.
    let s : ℕ = stripe_of n w.0 in
    let has : IsRoomyAt later s (weigh w + share n s ws - weigh w) = left (weigh w + share n s ws) (omega arith) (roomy_first n w ws before last roomy) in
    let here : IsRoomyAt later s (share n s ws) = roomy_by later s (weigh w + share n s ws - weigh w) (share n s ws) (omega arith) has in
    subst (λ (k : ℕ). IsRoomyAt later k (share n k ws)) at here)
    (λ ne. roomy_as before later i (share n i ws) (others i (λ e. ne (sym e)))
    (roomy_by before i (share n i (w ∷ ws)) (share n i ws) (share_away n i w ws ne) (roomy i (omega (arith, some, share_away n i w ws ne)))))
    (cases_eq (stripe_of n w.0) i)

pub no_share : {X : Type 0} (ws : List X) → length ws ≡ 0 → ws ≡ []
no_share {X} [] e = refl
no_share {X} (w ∷ ws) e = absurd (omega (arith, e))

zero_in : (k i : ℕ) → i < k → slice_index (replicate k 0) i ≡ 0
zero_in zero i below = absurd (omega (arith, below))
zero_in (suc k) zero below = refl
zero_in (suc k) (suc i) below = zero_in k i (omega (arith, below))

pub zero_at : (i : ℕ) → i < 64 → slice_index (replicate 64 0) i ≡ 0
zero_at i below = zero_in 64 i below

pub stripe_below : (n : ℕ) (key : Bytes) → 1 ≤ n → stripe_of n key < n
unfolding stripe_of
stripe_below n key some = mod-lt _ some

-- a stripe that has a share is one of them
pub share_below : (n i : ℕ) (ws : List Write) → 1 ≤ n → 0 < share n i ws → i < n
share_below n i [] some has = absurd (omega (arith, has))
share_below n i (w ∷ ws) some has = ⊎_elim
    (λ at. omega (arith, at, stripe_below n w.0 some))
    (λ ne. share_below n i ws some (omega (arith, has, share_away n i w ws ne)))
    (cases_eq (stripe_of n w.0) i)

-- the log that is there has the room
pub room_of : (logs : ℕ → Option HybridLog) (stripe weight : ℕ) (log : HybridLog) → IsRoomyAt logs stripe weight → logs stripe ≡ Some log → HasRoom log weight
room_of logs stripe weight log is there = subst (λ (p : HybridLog). HasRoom p weight) (some_is is.log log (logs stripe) is.there there) is.room

-- what the writes weigh at each stripe is told
pub shares_are : (n count : ℕ) (ws : List Write) (shares : List ℕ) → count ≡ n → ((i : ℕ) → i < 64 → slice_index shares i ≡ share count i ws)
    → (i : ℕ) → i < 64 → slice_index shares i ≡ share n i ws
shares_are n count ws shares same are i below = rw same at (are i below)
