-- The text of a writing that goes on.
use Rattle.std.proofs.Common.{◌≡◌, ℕ, ◌-◌, List, ◌++◌, length, take, drop, sym, ap, ◌∙◌, append_assoc, arith}
use Rattle.std.proofs.lemmas.Grind.{common_steps}
use Rattle.std.proofs.lemmas.List.{take-append-drop}

-- what is left after a part is sent
pub rest_sent : (text sent rest : List ℕ) (count : ℕ) → text ≡ sent ++ rest → text ≡ (sent ++ take count rest) ++ take (length rest - count) (drop count rest)
rest_sent text sent rest count is = is ∙ ap (λ (t : List ℕ). sent ++ t) (sym (take-append-drop count rest)) ∙ sym (append_assoc sent _ _) ∙ ap (λ (t : List ℕ). (sent ++ take count rest) ++ t) (sym (take_whole count rest))
  where
    take_whole : (n : ℕ) (xs : List ℕ) → take (length xs - n) (drop n xs) ≡ drop n xs
    take_whole n xs = grind (arith, common_steps)
