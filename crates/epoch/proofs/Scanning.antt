-- What a scan tells a seat.
use Rattle.std.proofs.Common.{◌≡◌, ◌≢◌, ℕ, ◌+◌, ◌<◌, ◌≤◌, Option, Some, None, IfNone, List, [], ◌∷◌, ◌++◌, cond, nat_lt, min, sym, refl, ap, subst, ◌∙◌, arith, eq-eqb, ne_eqb, le-ltb}
use Rattle.atomic_table.specs.Table.{Me}
use Rattle.epoch.specs.declared.view.View.{View}
use Rattle.epoch.specs.declared.view.Note.{Note}
use Rattle.epoch.specs.declared.view.Note.TheVariants.{Epoch, Word, Worn}
use Rattle.epoch.specs.Plays.{beginning, passing, least}
use Rattle.epoch.specs.Seats.{Blocks, IsScanning, HasScanned, OnlyScanned, WasBlocked, blocks_in, one_if_blocks}

assoc : {A : Type 0} (xs ys zs : List A) → xs ++ (ys ++ zs) ≡ (xs ++ ys) ++ zs
assoc [] ys zs = refl
assoc (x ∷ xs) ys zs = ap (λ l. x ∷ l) (assoc xs ys zs)

least_above : (e bound found : ℕ) → e < bound → e < found → e < least bound found
least_above e bound found one two =
    subst (λ b. e < cond b bound (min bound found)) (sym (ne_eqb found 0 (λ h. omega arith))) (omega arith)

least_cleared : (e bound found : ℕ) → e < bound → found ≡ 0 → e < least bound found
least_cleared e bound found one is = subst (λ b. e < cond b bound (min bound found)) (sym (eq-eqb found 0 is)) one

module _ {S : Type 0} (e found : ℕ) (m w : Me S View) where
  -- a step of a scan changes nothing else
  pub began_only : w ≡ (beginning m.0 found, m.1) → OnlyScanned m.0 w.0
  began_only is = subst (λ (x : Me S View). OnlyScanned m.0 x.0) (sym is) refl

  pub passed_only : w ≡ (passing m.0 found, m.1) → OnlyScanned m.0 w.0
  passed_only is = subst (λ (x : Me S View). OnlyScanned m.0 x.0) (sym is) refl

  pub began : w ≡ (beginning m.0 found, m.1) → e < found → IsScanning e 0 m.0 w.0
  began is above =
      record {
        passed = ap (λ x. x.0.passed) is;
        above = subst (λ x. e < x.0.bound) (sym is) above;
        advanced = ap (λ x. x.0.advanced) is;
        more = Epoch found ∷ [];
        notes = ap (λ x. x.0.notes) is;
      }

  pub began_not : w ≡ (beginning m.0 found, m.1) → found ≤ e → WasBlocked e m.0 w.0
  began_not is below =
      record { advanced = ap (λ x. x.0.advanced) is; note = Epoch found; blocks = below; more = []; notes = ap (λ x. x.0.notes) is }

  went_on : w ≡ (passing m.0 found, m.1) → e < least m.0.bound found → IsScanning e (m.0.passed + 1) m.0 w.0
  went_on is above =
      record {
        passed = ap (λ x. x.0.passed) is;
        above = subst (λ x. e < x.0.bound) (sym is) above;
        advanced = ap (λ x. x.0.advanced) is;
        more = Word m.0.passed found ∷ [];
        notes = ap (λ x. x.0.notes) is;
      }

  pub passed_cleared : (number : ℕ) → m.0.passed ≡ number → w ≡ (passing m.0 found, m.1) → e < m.0.bound → found ≡ 0 → IsScanning e (number + 1) m.0 w.0
  passed_cleared number next is above none =
      subst (λ (k : ℕ). IsScanning e (k + 1) m.0 w.0) next (went_on is (least_cleared e m.0.bound found above none))

  pub passed_above : (number : ℕ) → m.0.passed ≡ number → w ≡ (passing m.0 found, m.1) → e < m.0.bound → e < found → IsScanning e (number + 1) m.0 w.0
  passed_above number next is above past =
      subst (λ (k : ℕ). IsScanning e (k + 1) m.0 w.0) next (went_on is (least_above e m.0.bound found above past))

  pub passed_not : w ≡ (passing m.0 found, m.1) → found ≢ 0 → found ≤ e → WasBlocked e m.0 w.0
  passed_not is set below =
      record {
        advanced = ap (λ x. x.0.advanced) is;
        note = Word m.0.passed found;
        blocks = (omega (arith, set), below);
        more = [];
        notes = ap (λ x. x.0.notes) is;
      }

module _ (e : ℕ) (one two three : View) where
  pub scanning_on : (number more : ℕ) → IsScanning e number one two → IsScanning e more two three → IsScanning e more one three
  scanning_on number more a b =
      record {
        passed = b.passed;
        above = b.above;
        advanced = b.advanced ∙ a.advanced;
        more = b.more ++ a.more;
        notes = b.notes ∙ ap (λ (l : List Note). b.more ++ l) a.notes ∙ assoc b.more a.more one.notes;
      }

  pub blocked_on : (number : ℕ) → IsScanning e number one two → WasBlocked e two three → WasBlocked e one three
  blocked_on number a b =
      record {
        advanced = b.advanced ∙ a.advanced;
        note = b.note;
        blocks = b.blocks;
        more = b.more ++ a.more;
        notes = b.notes ∙ ap (λ (l : List Note). b.note ∷ b.more ++ l) a.notes ∙ ap (λ (l : List Note). b.note ∷ l) (assoc b.more a.more one.notes);
      }

pub only_on : (one two three : View) → OnlyScanned one two → OnlyScanned two three → OnlyScanned one three
only_on one two three a b = b ∙ ap (λ (v : View). record v { bound = three.bound; passed = three.passed; notes = three.notes }) a

module _ (e : ℕ) (before later : View) where
  -- a scan tells no less than it told before
  pub scanned : (number : ℕ) → IsScanning e number before later → HasScanned before later
  scanned number s = record { advanced = s.advanced; more = s.more; notes = s.notes }

  pub blocked_scanned : WasBlocked e before later → HasScanned before later
  blocked_scanned b = record { advanced = b.advanced; more = b.note ∷ b.more; notes = b.notes }

-- a note that blocks counts
blocks_one : (e : ℕ) (note : Note) → Blocks e note → one_if_blocks e note ≡ 1
blocks_one e (Epoch found) below = ap (λ b. cond b 0 1) (le-ltb e found below)
blocks_one e (Word number found) b =
    ap (λ x. cond x 0 (cond (nat_lt e found) 0 1)) (ne_eqb found 0 (λ h. omega (arith, b.0))) ∙ ap (λ x. cond x 0 1) (le-ltb e found b.1)
blocks_one e Worn never = absurd never

blocks_more : (e : ℕ) (more notes : List Note) → blocks_in e notes ≤ blocks_in e (more ++ notes)
blocks_more e [] notes = omega arith
blocks_more e (note ∷ more) notes = omega (arith, blocks_more e more notes)

-- a scan that was blocked has one note more that blocks
pub blocked_grows : (e : ℕ) (before later : View) → WasBlocked e before later → blocks_in e before.notes < blocks_in e later.notes
blocked_grows e before later b =
    subst (λ (l : List Note). blocks_in e before.notes < blocks_in e l) (sym b.notes)
    (omega (arith, blocks_one e b.note b.blocks, blocks_more e b.more before.notes))

pub grown_none : {A : Type 0} (e : ℕ) (before later : View) (found : Option A) → IfNone found (WasBlocked e before later)
    → IfNone found (blocks_in e before.notes < blocks_in e later.notes)
grown_none e before later None b = blocked_grows e before later b
grown_none e before later (Some x) b = tt
