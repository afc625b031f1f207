-- What is so at each moment between two steps.
use Rattle.std.proofs.Common.{◌≡◌, ℕ, ◌<◌, ◌≤◌, true, Option, Some, None, IfSome, List, [], ◌∷◌, slice_index, refl, ap, subst, sym, ◌∙◌, arith}
use mathlib.Core.Option.{some}
use lib.ListN.{get_elem?}
use Rattle.atomic_table.specs.Table.{State}
use Rattle.atomic_table.specs.Seated.{TableId}
use Rattle.epoch.specs.declared.view.View.{View}
use Rattle.epoch.specs.declared.words.EpochWords.{EpochWords}
use Rattle.epoch.specs.declared.epochs.Drained.{Drained}
use Rattle.epoch.specs.Words.{id_in}
use Rattle.epoch.specs.Seats.{StaysClearIn}
use Rattle.epoch.specs.Clear.{Clear}
use Rattle.epoch.specs.Rule.{Ruled, StayAt, AreBelow, epoch_word, newest, word_of}
use Rattle.epoch.specs.Plays.{token}

-- the newest of epochs that are over is over
newest_below : (epoch : ℕ) (advanced : List ℕ) → 1 ≤ epoch → AreBelow epoch advanced → newest advanced < epoch
newest_below epoch [] come below = omega (arith, come)
newest_below epoch (e ∷ more) come below = below.0

module _ (seats : ℕ) (s : State ℕ View) (ruled : Ruled {S = ℕ} seats s) (id : ℕ) (v : View) (at : get_elem? s.views id ≡ some v) where
  -- the epoch that was advanced past is over
  pub over : (e : ℕ) (more : List ℕ) → v.advanced ≡ e ∷ more → e < slice_index s.words epoch_word
  over e more is = (subst (λ l. AreBelow (slice_index s.words epoch_word) l) is (ruled.views id v at).past).0

  -- the newest epoch that was advanced past is over
  pub over_newest : (e : ℕ) → newest v.advanced ≡ e → e < slice_index s.words epoch_word
  over_newest e is = omega (arith, newest_below (slice_index s.words epoch_word) v.advanced (omega (arith, ruled.counted)) (ruled.views id v at).past, is)

  -- a valid stay stands in its seat's word
  pub stays : (number : ℕ) → v.valid ≡ true → v.first ≡ number → v.count ≡ 1
      → StayAt s.views v.own
      × (slice_index s.words (word_of number) ≡ v.own)
      × (1 ≤ v.own)
      × (v.own ≤ slice_index s.words epoch_word)
  stays number valid first single =
      let f = ruled.views id v at in
      let t = f.stay valid in
      let w = f.word number (omega (arith, first), omega (arith, first, single)) in ((id, v, at, (valid, refl)), w.1, t.1, t.2)

  -- an epoch below all that a scan of all seats found is clear
  pub clear : (w : View) (e : ℕ) → v ≡ token w → w.passed ≡ seats → e < w.bound → Clear (slice_index s.words epoch_word) e (StayAt s.views)
  clear w e is passed below =
      let all : v.passed ≡ seats = ap (λ (x : View). x.passed) is ∙ passed in
      let above : e < v.bound = subst (λ (x : View). e < x.bound) (sym is) below in ruled.clear id v e at all above

-- words of one table have one number of seats, so what is clear by some of them is clear by all
pub clear_alike : (w u : EpochWords) (found : Option Drained) → id_in w ≡ id_in u → IfSome found (StaysClearIn w) → IfSome found (StaysClearIn u)
clear_alike w u None same c = tt
clear_alike w u (Some drained) same c = λ s ruled at.
    let seats : u.seats ≡ w.seats = omega (arith, ap (λ (i : TableId). i.words) same, w.sized, u.sized) in
    c s (subst (λ (n : ℕ). Ruled n s) seats ruled) at
