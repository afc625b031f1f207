-- What is due to a SET without an option and to an MSET, by what they weigh.
use Rattle.std.proofs.Common.{ℕ, ◌≡◌, ◌+◌, ◌-◌, ◌<◌, ◌≤◌, Bool, true, false, List, [], ◌∷◌, Some, cond, nat_lt, length, take, drop, slice_index_or, if◌then◌else◌, sym, subst, ap, arith}
use Rattle.std.specs.Bool.{OnTrue}
use Rattle.std.proofs.lemmas.List.{take_all}
use Rattle.words.specs.declared.limits.TheConstants.{WEIGHT_OF_KEY}
use Rattle.words.specs.Briefs.{pairs_of}
use Rattle.words.specs.declared.limits.TheConstants.{WEIGHT_MAX}
use Rattle.words.specs.declared.command.Command.TheVariants.{MSet, Set}
use Rattle.words.specs.declared.command.When.TheVariants.{Always}
use Rattle.words.specs.declared.history.Operation.TheVariants.{Run}
use Rattle.words.specs.declared.reply.Line.TheVariants.{Done}
use Rattle.words.specs.Answers.{writes_set}
use Rattle.words.specs.Store.{Bytes, Write, weight, writes_key}
use Rattle.words.specs.History.{History, was_not_done, too_much}
use Rattle.words.specs.Session.{line_reply}
use Rattle.transact.specs.Plans.{IsPlan, weight_of_each}

-- a SET without an option is done where it is not too heavy
pub plan_of_set : (seen : History) (key value : Bytes) (heavy : Bool) → nat_lt WEIGHT_MAX (weight ((key, Some value) ∷ [])) ≡ heavy
    → IsPlan seen (Run (Set key value Always)) (cond heavy too_much (line_reply Done)) (cond heavy [] ((key, Some value) ∷ []))
plan_of_set seen key value true is = record {
  reply_due = sym (ap (λ b. cond b too_much (line_reply Done)) is);
  writes_due = sym (ap (λ b. cond (was_not_done (cond b too_much (line_reply Done))) [] ((key, Some value) ∷ [])) is);
}
plan_of_set seen key value false is = record {
  reply_due = sym (ap (λ b. cond b too_much (line_reply Done)) is);
  writes_due = sym (ap (λ b. cond (was_not_done (cond b too_much (line_reply Done))) [] ((key, Some value) ∷ [])) is);
}

-- an MSET is done where it is not too heavy
pub plan_of_settings : (seen : History) (settings : List (Bytes × Bytes)) → nat_lt WEIGHT_MAX (weight (writes_set settings)) ≡ false
    → IsPlan seen (Run (MSet settings)) (line_reply Done) (writes_set settings)
plan_of_settings seen settings is = record {
  reply_due = sym (ap (λ b. cond b too_much (line_reply Done)) is);
  writes_due = sym (ap (λ b. cond (was_not_done (cond b too_much (line_reply Done))) [] (writes_set settings)) is);
}

at_most : (hidden : Bool) (own others : ℕ) → (if hidden then 0 else own) + others ≤ own + others
at_most true own others = omega arith
at_most false own others = omega arith

-- a write adds no more than it weighs by itself
pub adds_at_most : (key value : Bytes) (writes : List Write)
    → weight ((key, Some value) ∷ writes) ≤ (WEIGHT_OF_KEY + length key + length value) + weight writes
adds_at_most key value writes = at_most (writes_key writes key) (WEIGHT_OF_KEY + length key + length value) (weight writes)

-- settings weigh no more than so much where the first has its room, and what is left is enough for the others
pub fit_with : (words : List Bytes) (key value : Bytes) (left room : ℕ) (fits : Bool) → 2 ≤ length words → key ≡ slice_index_or words 0 key
    → value ≡ slice_index_or words 1 value → left + ((WEIGHT_OF_KEY + length key) + length value) ≡ room
    → OnTrue fits (weight (writes_set (pairs_of (take (length words - 2) (drop 2 words)))) ≤ left) → OnTrue fits (weight (writes_set (pairs_of words)) ≤ room)
fit_with [] key value left room fits some first second is rest = absurd (omega (arith, some))
fit_with (k ∷ []) key value left room fits some first second is rest = absurd (omega (arith, some))
fit_with (k ∷ v ∷ ws) key value left room false some first second is rest = tt
fit_with (k ∷ v ∷ ws) key value left room true some first second is rest =
    let light : weight (writes_set (pairs_of ws)) ≤ left = subst (λ (others : List Bytes). weight (writes_set (pairs_of others)) ≤ left) (take_all (length (k ∷ v ∷ ws) - 2) ws (omega arith)) rest in
    omega (arith, light, is, ap length first, ap length second, adds_at_most k v (writes_set (pairs_of ws)))

-- and are heavier where it has not its room, or what is left is not enough
pub over_with : (words : List Bytes) (key value : Bytes) (left room : ℕ) (fits : Bool) → 2 ≤ length words → key ≡ slice_index_or words 0 key
    → value ≡ slice_index_or words 1 value → left + ((WEIGHT_OF_KEY + length key) + length value) ≡ room
    → (fits ≡ false → left < weight_of_each (pairs_of (take (length words - 2) (drop 2 words)))) → fits ≡ false → room < weight_of_each (pairs_of words)
over_with [] key value left room fits some first second is rest is_over = absurd (omega (arith, some))
over_with (k ∷ []) key value left room fits some first second is rest is_over = absurd (omega (arith, some))
over_with (k ∷ v ∷ ws) key value left room fits some first second is rest is_over =
    let over : left < weight_of_each (pairs_of ws) = subst (λ (others : List Bytes). left < weight_of_each (pairs_of others)) (take_all (length (k ∷ v ∷ ws) - 2) ws (omega arith)) (rest is_over) in
    omega (arith, over, is, ap length first, ap length second)

pub over_first : (words : List Bytes) (key value : Bytes) (room : ℕ) → 2 ≤ length words → key ≡ slice_index_or words 0 key
    → value ≡ slice_index_or words 1 value → room < (WEIGHT_OF_KEY + length key) + length value → room < weight_of_each (pairs_of words)
over_first [] key value room some first second over = absurd (omega (arith, some))
over_first (k ∷ []) key value room some first second over = absurd (omega (arith, some))
over_first (k ∷ v ∷ ws) key value room some first second over = omega (arith, over, ap length first, ap length second)
