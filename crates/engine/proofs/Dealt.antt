-- The passes of a new engine.
use Rattle.std.proofs.Common.{◌≡◌, ℕ, zero, suc, ◌+◌, ◌<◌, List, [], ◌∷◌, length, refl, ap, arith, slice_index_or}
use Rattle.std.specs.List.{All}
use Rattle.epoch.specs.declared.epochs.Epochs.{Epochs}
use Rattle.gates.specs.declared.gates.Gates.{Gates}
use Rattle.gates.specs.declared.view.Knowledge.{Knowledge}
use Rattle.shards.specs.declared.shard.Shard.{Shard}
use Rattle.engine.specs.declared.pass.Pass.{Pass}
use Rattle.engine.specs.Passes.{AreDealt, IsNew, RestsOf, knows}

module _ {D R : Type 0} (steady : Type 0) (gates : Gates (Shard R)) (epochs : Epochs) where
  -- the pass at a place is a new one, of some number and opening
  new_at : (number : ℕ) (passes : List (Pass D R)) (openings : List D) (place : ℕ) (other : Pass D R) → AreDealt steady gates epochs number passes openings → place < length passes
      → (given : ℕ) × (opening : D) × IsNew steady gates epochs given (slice_index_or passes place other) opening
  new_at number [] openings place other dealt below = absurd (omega (arith, below))
  new_at number (pass ∷ passes) [] place other dealt below = absurd dealt
  new_at number (pass ∷ passes) (opening ∷ openings) zero other dealt below = (number, opening, dealt.0)
  new_at number (pass ∷ passes) (opening ∷ openings) (suc place) other dealt below = new_at (number + 1) passes openings place other dealt.1 (omega (arith, below))

  pub all_rest : (passes : List (Pass D R)) (openings : List D) → AreDealt steady gates epochs 0 passes openings → All (RestsOf steady gates epochs) passes
  all_rest passes openings dealt = λ place other below. (new_at 0 passes openings place other dealt below).2.rests

  pub all_watch : (failures : D → ℕ) (passes : List (Pass D R)) (openings : List D) → AreDealt steady gates epochs 0 passes openings → All (λ pass. (knows failures pass).watched ≡ []) passes
  all_watch failures passes openings dealt = λ place other below. ap (λ (k : Knowledge). k.watched) (new_at 0 passes openings place other dealt below).2.nothing

  -- there is one for each opening
  pub dealt_count : (number : ℕ) (passes : List (Pass D R)) (openings : List D) → AreDealt steady gates epochs number passes openings → length passes ≡ length openings
  dealt_count number [] [] dealt = refl
  dealt_count number [] (opening ∷ openings) dealt = absurd dealt
  dealt_count number (pass ∷ passes) [] dealt = absurd dealt
  dealt_count number (pass ∷ passes) (opening ∷ openings) dealt = ap suc (dealt_count (number + 1) passes openings dealt.1)
