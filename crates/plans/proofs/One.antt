-- Room that is made for one write.
use Rattle.std.proofs.Common.{◌≡◌, ◌≢◌, inl, ℕ, zero, suc, ◌<◌, ◌≤◌, List, [], ◌∷◌, Option, Result, Ok, Err, IfErr, ap, sym, subst, refl, arith, length, get_or, ⊎_elim}
use Rattle.std.specs.Prelude.{OnOk}
use Rattle.std.proofs.lemmas.Bool.{cases_eq}
use Rattle.words.specs.declared.limits.TheConstants.{WEIGHT_MAX}
use Rattle.words.specs.Store.{Write, weight}
use Rattle.words.specs.Stripes.{stripe_of}
use Rattle.hybrid.specs.HybridLog.{HybridLog, Kept}
use Rattle.shards.specs.declared.shard.Shard.{Shard}
use Rattle.shards.specs.Rooms.{AreRoomy, IsRoomyAt, LeaveFrames, LeavesFramesAt, MakesRoom, RoomAt, ShedFew, purpose_of, share}
use Rattle.shards.specs.Shards.{logs_of, weigh}
use Rattle.plans.specs.Planning.{HaveFailed}
use Rattle.plans.specs.Reserving.{HasNoRoomAt, HasRoom, HasRoomAt, HasShedShare, StopsMaking}
use Rattle.plans.specs.declared.stop.Stop.{Stop}
use Rattle.plans.proofs.Few.{left_as}
use Rattle.plans.proofs.Making.{met_stop, room_at}
use Rattle.plans.proofs.Rooms.{share_away, share_last}

-- writes of which there is one
pub one_item : (ws : List Write) (w : Write) → 1 ≤ length ws → length ws < 2 → w ≡ get_or ws 0 w → ws ≡ w ∷ []
one_item [] w some few is = absurd (omega (arith, some))
one_item (v ∷ []) w some few is = ap (λ (x : Write). x ∷ []) (sym is)
one_item (v ∷ u ∷ ws) w some few is = absurd (omega (arith, few))

-- a stripe that a write is not to has no share of it
pub none_of_one : (n i : ℕ) (w : Write) → stripe_of n w.0 ≢ i → share n i (w ∷ []) ≡ 0
none_of_one n i w ne = share_away n i w [] ne

-- the stripe of its key has all
pub all_of_one : (n : ℕ) (w : Write) → weigh w ≡ share n (stripe_of n w.0) (w ∷ [])
all_of_one n w = omega (arith, share_last n (stripe_of n w.0) w [] refl refl)

-- there is room for it where there is room at the stripe of its key
pub roomy_one : (n : ℕ) (w : Write) (logs : ℕ → Option HybridLog) → IsRoomyAt logs (stripe_of n w.0) (weigh w) → AreRoomy n logs (w ∷ [])
roomy_one n w logs roomy i some = ⊎_elim
    (λ at. subst (λ (k : ℕ). IsRoomyAt logs k (share n k (w ∷ []))) at (subst (IsRoomyAt logs (stripe_of n w.0)) (all_of_one n w) roomy))
    (λ ne. absurd (omega (arith, some, none_of_one n i w ne)))
    (cases_eq (stripe_of n w.0) i)

-- and the frames stay that are left for others
pub left_one : (n : ℕ) (w : Write) (before later : ℕ → Option HybridLog) → LeavesFramesAt (stripe_of n w.0) (weigh w) (purpose_of (w ∷ [])) before later → LeaveFrames n (w ∷ []) before later
left_one n w before later left i some = ⊎_elim
    (λ at. subst (λ (k : ℕ). LeavesFramesAt k (share n k (w ∷ [])) (purpose_of (w ∷ [])) before later) at
    (left_as (stripe_of n w.0) (stripe_of n w.0) (weigh w) (share n (stripe_of n w.0) (w ∷ [])) (purpose_of (w ∷ [])) before later refl (all_of_one n w) left))
    (λ ne. absurd (omega (arith, some, none_of_one n i w ne)))
    (cases_eq (stripe_of n w.0) i)

module _ {D R : Type 0} (wrote : D → List ℕ → R → D → Type 0) (view : R → Kept) (n : ℕ) (w : Write) where
  -- at the stripes before that of its key no room is made
  pub made_before : (count : ℕ) (old : ℕ → Option HybridLog) (device : D) → count ≤ stripe_of n w.0 → MakesRoom wrote view n count (w ∷ []) old device old device
  made_before zero old device below = (λ i. refl, refl)
  made_before (suc count) old device below =
      (old, device, made_before count old device (omega (arith, below)), inl (none_of_one n count w (λ at. absurd (omega (arith, at, below))), λ i. refl, refl))

  -- nor behind it
  pub made_one : (count : ℕ) (old new : ℕ → Option HybridLog) (device after : D) → stripe_of n w.0 < count → RoomAt wrote view n (stripe_of n w.0) (w ∷ []) old device new after
      → MakesRoom wrote view n count (w ∷ []) old device new after
  made_one zero old new device after below room = absurd (omega (arith, below))
  made_one (suc count) old new device after below room = ⊎_elim
      (λ at. (old, device, made_before count old device (omega (arith, at)), subst (λ (k : ℕ). RoomAt wrote view n k (w ∷ []) old device new after) at room))
      (λ ne. (new, after, made_one count old new device after (omega (arith, below, ne)) room, inl (none_of_one n count w ne, λ i. refl, refl)))
      (cases_eq (stripe_of n w.0) count)

  -- where room was made at the stripe of its key, there is room for it, and else that stripe is full, or a call of the device failed
  module _ (failures : D → ℕ) (before later : (ℕ → Option (Shard R)) × D) (below : stripe_of n w.0 < n) (shed : HasShedShare wrote view (failures later.1 ≡ failures before.1) (stripe_of n w.0) (weigh w) before later) where
    -- pages left their frames at that stripe alone
    room_of_one : failures later.1 ≡ failures before.1 → RoomAt wrote view n (stripe_of n w.0) (w ∷ []) (logs_of before.0) before.1 (logs_of later.0) later.1
    room_of_one quiet = room_at wrote view n (stripe_of n w.0) (weigh w) (w ∷ []) (logs_of before.0) (logs_of later.0) before.1 later.1 (all_of_one n w)
        (λ none. let same = shed.needless none in (λ j. ap (λ p. logs_of p j) same.0, same.1)) (λ some. shed.shed some quiet)

    pub has_room_one : {A : Type 0} (r : Result A (Stop R)) → OnOk r (0 < weigh w → HasRoomAt (stripe_of n w.0) (weigh w) (purpose_of (w ∷ [])) before.0 later.0) → HaveFailed r (failures before.1) (failures later.1)
        → OnOk r (HasRoom wrote view n (w ∷ []) before later)
    has_room_one (Ok x) room quiet =
        let has = room (omega arith) in
        record {
          room = roomy_one n w (logs_of later.0) has.room;
          made = made_one n (logs_of before.0) (logs_of later.0) before.1 later.1 below (room_of_one quiet);
          left = left_one n w (logs_of before.0) (logs_of later.0) has.left;
        }
    has_room_one (Err s) room quiet = tt

    pub stopped_one : {A : Type 0} (r : Result A (Stop R)) → weight (w ∷ []) ≤ WEIGHT_MAX → ShedFew n (w ∷ []) (logs_of before.0) (logs_of later.0)
        → IfErr r (HasNoRoomAt (stripe_of n w.0) (weigh w) (purpose_of (w ∷ [])) before.0 later.0) → HaveFailed r (failures before.1) (failures later.1)
        → IfErr r (StopsMaking wrote view n (w ∷ []) before later)
    stopped_one (Ok x) light few none failed = tt
    stopped_one (Err s) light few none failed =
        met_stop wrote view n s failures (stripe_of n w.0) (weigh w) (purpose_of (w ∷ [])) (w ∷ []) (logs_of before.0) (logs_of before.0) (logs_of later.0) before.1 before.1 later.1
        (all_of_one n w) refl light below (made_before (stripe_of n w.0) (logs_of before.0) before.1 (omega arith)) refl few none.lacks failed shed.shed none.why
