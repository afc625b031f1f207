-- Texts of which a part is sent and a part is held.
use Rattle.std.proofs.Common.{◌≡◌, ◌≤◌, ◌+◌, ℕ, List, [], ◌++◌, length, vec_len, vec_capacity, sym, ap, ◌∙◌, append_assoc, append-nil, length-append, arith}
use Rattle.std.specs.Prelude.{Vec}

-- texts, grouped another way
pub regroup : (a b held text sent holds : List ℕ) → held ++ text ≡ sent ++ holds → ((a ++ b) ++ held) ++ text ≡ (a ++ (b ++ sent)) ++ holds
regroup a b held text sent holds is =
    append_assoc (a ++ b) held text
    ∙ ap (λ (t : List ℕ). (a ++ b) ++ t) is
    ∙ sym (append_assoc (a ++ b) sent holds)
    ∙ ap (λ (t : List ℕ). t ++ holds) (append_assoc a b sent)

-- a text that is held still, where nothing was added
pub holds_still : (a b held new : List ℕ) → new ≡ held ++ [] → (a ++ b) ++ held ≡ (a ++ b) ++ new
holds_still a b held new is = ap (λ (t : List ℕ). (a ++ b) ++ t) (sym (is ∙ append-nil held))

-- what was sent of a held text to which one was added
pub sent_of : (held text new all : List ℕ) → new ≡ held ++ text → new ++ [] ≡ all → held ++ text ≡ all
sent_of held text new all added is = sym added ∙ sym (append-nil new) ∙ is

-- a held text of which a beginning is sent
pub regroup_cut : (a b held sent more : List ℕ) → held ≡ sent ++ more → (a ++ b) ++ held ≡ (a ++ (b ++ sent)) ++ more
regroup_cut a b held sent more is =
    ap (λ (t : List ℕ). (a ++ b) ++ t) is ∙ sym (append_assoc (a ++ b) sent more) ∙ ap (λ (t : List ℕ). t ++ more) (append_assoc a b sent)

-- a held text, and one after it, of which a part is sent
pub regroup_held : (a held text sent holds : List ℕ) → held ++ text ≡ sent ++ holds → (a ++ held) ++ text ≡ (a ++ sent) ++ holds
regroup_held a held text sent holds is = append_assoc a held text ∙ ap (λ (t : List ℕ). a ++ t) is ∙ sym (append_assoc a sent holds)

-- a held text of which a beginning is sent
pub cut_held : (a held sent more : List ℕ) → held ≡ sent ++ more → a ++ held ≡ (a ++ sent) ++ more
cut_held a held sent more is = ap (λ (t : List ℕ). a ++ t) is ∙ sym (append_assoc a sent more)

-- a buffer that holds what it held fits into the room that it had
pub within_same : {Z : Type 0} (old new : Vec ℕ Z) → new.items ≡ old.items → vec_len new ≤ vec_capacity old
within_same old new is = omega (arith, new.ok.0, old.ok.0, old.ok.1, ap length is)

-- and so does one that took a text for which there was room
pub within_said : {Z : Type 0} (old new : Vec ℕ Z) (text : List ℕ) → vec_len old + length text ≤ vec_capacity old → new.items ≡ old.items ++ text
    → vec_len new ≤ vec_capacity old
within_said old new text fits is = omega (arith, new.ok.0, old.ok.0, ap length is, length-append old.items text, fits)

-- a buffer that holds nothing fits into any room
pub within_none : {Z : Type 0} (new : Vec ℕ Z) (room : ℕ) → new.items ≡ [] → vec_len new ≤ room
within_none new room none = omega (arith, new.ok.0, ap length none)
