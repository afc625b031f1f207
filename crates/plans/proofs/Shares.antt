-- Room that is made stripe by stripe for writes, of which it is known what they weigh at each.
use Rattle.std.proofs.Common.{◌≡◌, ◌≢◌, ◌∙◌, ℕ, ◌+◌, ◌<◌, ◌≤◌, List, Option, sym, ap, subst, refl, arith, ⊎_elim, slice_index}
use Rattle.std.proofs.lemmas.Bool.{cases_eq}
use Rattle.words.specs.declared.limits.TheConstants.{WEIGHT_MAX}
use Rattle.words.specs.Store.{Write, weight}
use Rattle.hybrid.specs.HybridLog.{HybridLog, Kept}
use Rattle.hybrid.specs.declared.stripe.room.Purpose.{Purpose}
use Rattle.shards.specs.Rooms.{IsRoomyAt, LeavesFramesAt, MakesRoom, RoomAt, ShedFew, ShedsFewAt, purpose_of, share}
use Rattle.plans.specs.Reserving.{AreSharesOf}
use Rattle.plans.proofs.Few.{LeftBelow, few_more, few_none, left_more}
use Rattle.plans.proofs.Making.{made_more}
use Rattle.plans.proofs.Rooms.{roomy_as, roomy_by, shares_are}

module _ {R D : Type 0} (wrote : D → List ℕ → R → D → Type 0) (kept : R → Kept) (n : ℕ) (ws : List Write) where
  -- Room was made in each stripe below this one.
  pub record IsMadeBelow (i : ℕ) (a : ℕ → Option HybridLog) (d : D) (b : ℕ → Option HybridLog) (e : D) : Type 0 where
    pub few : ShedFew n ws a b
    pub left : LeftBelow n i ws a b
    pub made : MakesRoom wrote kept n i ws a d b e
    pub roomy : (j : ℕ) → j < i → 0 < share n j ws → IsRoomyAt b j (share n j ws)

  pub below_none : (a : ℕ → Option HybridLog) (d : D) → IsMadeBelow 0 a d a d
  below_none a d = record {
    few = few_none n ws a a (λ i. refl);
    left = λ j below some. absurd (omega (arith, below));
    made = (λ i. refl, refl);
    roomy = λ j below some. absurd (omega (arith, below));
  }

  -- and then in it
  pub below_more : (i share_is : ℕ) (purpose : Purpose) (a b c : ℕ → Option HybridLog) (d e f : D) → share_is ≡ share n i ws → purpose ≡ purpose_of ws
      → ((j : ℕ) → i ≤ j → b j ≡ a j) → ((j : ℕ) → j ≢ i → c j ≡ b j) → ShedsFewAt i share_is purpose b c → RoomAt wrote kept n i ws b e c f
      → (0 < share_is → LeavesFramesAt i share_is purpose b c) → (0 < share_is → IsRoomyAt c i share_is) → IsMadeBelow i a d b e → IsMadeBelow (i + 1) a d c f
  below_more i share_is purpose a b c d e f is turn ahead others shed room left roomy was = record {
    few = few_more n i share_is purpose ws a b c is turn ahead others was.few shed;
    left = left_more n i share_is purpose ws a b c is turn ahead others was.left left;
    made = made_more wrote kept n i ws a b c d e f was.made room;
    roomy = λ j below some. ⊎_elim
        (λ at.
        let mine : share n j ws ≡ share_is = ap (λ (k : ℕ). share n k ws) at ∙ sym is in
        roomy_by c j share_is (share n j ws) (sym mine) (subst (λ (k : ℕ). IsRoomyAt c k share_is) (sym at) (roomy (omega (arith, some, mine)))))
        (λ ne. roomy_as b c j (share n j ws) (others j ne) (was.roomy j (omega (arith, below, ne)) some))
        (cases_eq j i);
  }

-- what writes weigh at each stripe is told
pub are_shares : (n count : ℕ) (ws : List Write) (shares : List ℕ) (purpose : Purpose) → count ≡ n
    → ((i : ℕ) → i < 64 → slice_index shares i ≡ share count i ws) → weight ws ≤ WEIGHT_MAX → purpose ≡ purpose_of ws → AreSharesOf n ws shares purpose
are_shares n count ws shares purpose same are light turn =
    record { light = light; are = shares_are n count ws shares same are; for_what = turn }
