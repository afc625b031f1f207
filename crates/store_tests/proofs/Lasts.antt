-- The last of some parts, and of some passes.
use Rattle.std.proofs.Common.{◌≡◌, ℕ, ◌+◌, List, [], ◌∷◌, ◌++◌, None}
use Rattle.words.specs.Store.{Bytes}
use Rattle.gates.specs.declared.gates.Gates.{Gates}
use Rattle.gates.specs.declared.gates.Pass.{Pass}
use Rattle.gates.specs.Rule.{Meaning}
use Rattle.gates.specs.Plays.{AreEmpty}
use Rattle.gates.specs.Passes.{AreNew, IsResting}

module _ {T : Type 0} where
  -- one empty part more
  pub empty_snoc : (contents : Meaning T) (parts : List T) (part : T) → AreEmpty contents parts → ((key : Bytes) → contents.store part key ≡ None) → ((key : Bytes) (number : ℕ) → contents.marks part key number ≡ None) → AreEmpty contents (parts ++ part ∷ [])
  empty_snoc contents [] part all empty unmarked = (empty, unmarked, tt)
  empty_snoc contents (x ∷ xs) part all empty unmarked = (all.0, all.1, empty_snoc contents xs part all.2 empty unmarked)

  -- the last pass, and the others
  pub new_last : (trusted : Type 0) (gates : Gates T) (number : ℕ) (passes : List (Pass T)) (pass : Pass T) → AreNew trusted gates number (passes ++ pass ∷ []) → IsResting trusted gates pass × AreNew trusted gates number passes
  new_last trusted gates number [] pass all = (all.0, tt)
  new_last trusted gates number (x ∷ xs) pass all = let t = new_last trusted gates (number + 1) xs pass all.2 in (t.0, (all.0, all.1, t.1))
