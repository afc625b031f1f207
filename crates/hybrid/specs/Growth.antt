-- How the growths of a log by several writes add up, and what room there is.
use Rattle.std.specs.Prelude.{ℕ, ◌+◌, ◌≤◌}
use Rattle.words.specs.declared.limits.TheConstants.{WEIGHT_MAX}
use Rattle.hybrid.specs.declared.stripe.TheConstants.{CALL_PAGES}
use Rattle.hybrid.specs.HybridLog.{HybridLog, HasRoom, IsGrown, IsHybridLog}

-- No writes leave a log as it was; writes after others weigh what both do; and those of one call open few pages.
pub record GrowthLaws : Type 0 where
  pub none : (p : HybridLog) → IsGrown p p 0
  pub more : (old mid new : HybridLog) (one other : ℕ) → IsGrown old mid one → IsGrown mid new other → IsGrown old new (one + other)
  pub less : (old new : HybridLog) (one other : ℕ) → one ≤ other → IsGrown old new one → IsGrown old new other
  pub few : (old new : HybridLog) (weight : ℕ) → weight ≤ WEIGHT_MAX → (grown : IsGrown old new weight) → grown.opened ≤ CALL_PAGES

-- Each log has room for nothing, and where there is room for much there is room for less.
pub record RoomLaws : Type 0 where
  pub none : (p : HybridLog) → IsHybridLog p → HasRoom p 0
  pub less : (p : HybridLog) (one other : ℕ) → one ≤ other → HasRoom p other → HasRoom p one
