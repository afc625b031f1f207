-- A trace, one line more; and what the parts of a line are in the words of the code.
use Rattle.std.proofs.Common.{◌≡◌, ◌∙◌, ℕ, zero, suc, ◌+◌, ◌<◌, ◌≤◌, Bool, true, false, List, [], ◌∷◌, ◌++◌, length, drop, get_or, Option, Some, None, refl, sym, ap, subst, arith, append_assoc, append-nil}
use Rattle.words.specs.Store.{Bytes}
use Rattle.world_model.specs.declared.event.Event.{Event}
use Rattle.world_model.specs.States.{ClientState, State, client, fresh}
use Rattle.world_model.specs.Turns.{Turn}
use Rattle.schedules.specs.Traces.{IsTrace, output_of, trace_line}

-- an event and its line before what follows
pub line_before : (from number later : ℕ) (start before next after : State) (e : Event) (all events : List Event) (lines new rest : Bytes)
    → ((after : State) (rest : Bytes) → IsTrace number before (e ∷ events) after rest → IsTrace from start all after (lines ++ rest))
    → Turn before e next → new ≡ lines ++ trace_line number e before next → later ≡ number + 1
    → IsTrace later next events after rest → IsTrace from start all after (new ++ rest)
line_before from number later start before next after e all events lines new rest leads turn line more trace =
    subst (IsTrace from start all after)
    (sym (append_assoc lines (trace_line number e before next) rest) ∙ ap (λ (l : Bytes). l ++ rest) (sym line))
    (leads after (trace_line number e before next ++ rest)
    (next, rest, turn, subst (λ (n : ℕ). IsTrace n next events after rest) more trace, refl))

-- nothing follows
pub no_more : (from number : ℕ) (start before : State) (all : List Event) (lines : Bytes)
    → ((after : State) (rest : Bytes) → IsTrace number before [] after rest → IsTrace from start all after (lines ++ rest))
    → IsTrace from start all before lines
no_more from number start before all lines leads =
    subst (IsTrace from start all before) (append-nil lines) (leads before [] (refl, refl))

-- there are none
pub none_left : (events : List Event) → length events ≡ 0 → [] ≡ events
none_left [] is = refl
none_left (e ∷ events) is = absurd (omega (arith, is))

-- to a client that there is not nothing was written
pub past_output : (state : State) (c : ℕ) → length state.clients ≤ c → (client state c).output ≡ []
past_output state c past = ap (λ (one : ClientState). one.output) (past_or state.clients c past)
  where
    past_or : (clients : List ClientState) (c : ℕ) → length clients ≤ c → get_or clients c fresh ≡ fresh
    past_or [] c past = refl
    past_or (one ∷ clients) zero past = absurd (omega (arith, past))
    past_or (one ∷ clients) (suc c) past = past_or clients c (omega (arith, past))

-- nothing stands past the end
pub drop_past : (xs : Bytes) (n : ℕ) → length xs ≤ n → drop n xs ≡ []
drop_past [] zero past = refl
drop_past [] (suc n) past = refl
drop_past (x ∷ xs) zero past = absurd (omega (arith, past))
drop_past (x ∷ xs) (suc n) past = drop_past xs n (omega (arith, past))
