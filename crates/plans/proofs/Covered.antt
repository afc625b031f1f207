-- A write that a later one hides.
use Rattle.std.proofs.Common.{◌≡◌, ◌∙◌, ◌||◌, ℕ, true, false, List, [], ◌∷◌, Option, cond, bytes_eq, sym, ap, subst, refl}
use Rattle.std.specs.Bool.{Decides}
use Rattle.std.specs.Map.{update}
use Rattle.std.proofs.lemmas.Slice.Eq.{bytes_eq-Decides}
use Rattle.words.specs.Store.{Bytes, Store, Write, written, writes_key}
use Rattle.words.specs.Watches.{touched}
use Rattle.gates.specs.Rule.{Meaning}
use Rattle.transact.specs.Tables.{Became, touches}
use Rattle.plans.proofs.Stores.{written_same}

-- what a key has that is written does not depend on what it had
pub covers : (ws : List Write) (key : Bytes) (one other : Store) → writes_key ws key ≡ true → written one ws key ≡ written other ws key
covers [] key one other is = absurd (cc is)
covers (w ∷ ws) key one other is =
    elim (bytes_eq w.0 key) as (λ test. bytes_eq w.0 key ≡ test → (test || writes_key ws key) ≡ true → written one (w ∷ ws) key ≡ written other (w ∷ ws) key) [
      | true ↦ λ e x. written_same ws (update bytes_eq one w.0 w.1) (update bytes_eq other w.0 w.1) key
          (ap (λ b. cond b w.1 (one key)) e ∙ sym (ap (λ b. cond b w.1 (other key)) e))
      | false ↦ λ e x. covers ws key (update bytes_eq one w.0 w.1) (update bytes_eq other w.0 w.1) x
    ] refl is

hidden_written : (w : Write) (ws : List Write) (store : Store) (key : Bytes) → writes_key ws w.0 ≡ true → written store (w ∷ ws) key ≡ written store ws key
hidden_written w ws store key hidden =
    elim (bytes_eq w.0 key) as (λ test. Decides test (w.0 ≡ key) → bytes_eq w.0 key ≡ test → written store (w ∷ ws) key ≡ written store ws key) [
      | true ↦ λ decides e. covers ws key (update bytes_eq store w.0 w.1) store (subst (λ (k : Bytes). writes_key ws k ≡ true) (decides.0 refl) hidden)
      | false ↦ λ decides e. written_same ws (update bytes_eq store w.0 w.1) store key (ap (λ b. cond b w.1 (store key)) e)
    ] (bytes_eq-Decides w.0 key) refl

hidden_key : (w : Write) (ws : List Write) (key : Bytes) → writes_key ws w.0 ≡ true → writes_key ws key ≡ (bytes_eq w.0 key || writes_key ws key)
hidden_key w ws key hidden =
    elim (bytes_eq w.0 key) as (λ test. Decides test (w.0 ≡ key) → writes_key ws key ≡ (test || writes_key ws key)) [
      | true ↦ λ decides. subst (λ (k : Bytes). writes_key ws k ≡ true) (decides.0 refl) hidden
      | false ↦ λ decides. refl
    ] (bytes_eq-Decides w.0 key)

-- it need not be made
pub became_hidden : {T : Type 0} (contents : Meaning T) (n : ℕ) (w : Write) (ws : List Write) (a c : ℕ → Option T) → writes_key ws w.0 ≡ true
    → Became contents n ws (touches ws) a c → Became contents n (w ∷ ws) (touches (w ∷ ws)) a c
became_hidden {T} contents n w ws a c hidden became = record {
  there = became.there;
  was = λ i q e.
      let was = became.was i q e in (
        was.0,
        was.1,
        record {
          here = λ key at. was.2.here key at ∙ sym (hidden_written w ws (contents.store was.0) key hidden);
          away = was.2.away;
          aside = was.2.aside;
          marks = λ key number at. was.2.marks key number at ∙ ap (λ b. touched b (contents.marks was.0 key number)) (hidden_key w ws key hidden);
        },
      );
}
