-- The lines of a report, one client more.
use Rattle.std.proofs.Common.{◌≡◌, ℕ, zero, suc, ◌+◌, ◌<◌, ◌≤◌, List, [], ◌∷◌, ◌++◌, length, take, get_or, refl, sym, ap, ◌∙◌, arith, append_assoc, append-nil}
use Rattle.std.proofs.lemmas.List.{take_more, length-take-le}
use Rattle.words.specs.Store.{Bytes}
use Rattle.world_model.specs.States.{ClientState, State, client, fresh}
use Rattle.schedules.specs.Reports.{client_line, client_lines}

lines_push : (first : ℕ) (peers : List ClientState) (peer : ClientState)
    → client_lines first (peers ++ peer ∷ []) ≡ client_lines first peers ++ client_line (first + length peers) peer.output
lines_push first [] peer = append-nil (client_line first peer.output) ∙ ap (λ n. client_line n peer.output) (omega arith)
lines_push first (other ∷ peers) peer =
    let number : first + 1 + length peers ≡ first + length (other ∷ peers) = omega arith in
    ap (λ x. client_line first other.output ++ x) (lines_push (first + 1) peers peer ∙ ap (λ n. client_lines (first + 1) peers ++ client_line n peer.output) number)
    ∙ sym (append_assoc (client_line first other.output) (client_lines (first + 1) peers) (client_line (first + length (other ∷ peers)) peer.output))

-- the lines up to one client more
pub one_line_more : (state : State) (n : ℕ) → n < length state.clients
    → client_lines 0 (take (n + 1) state.clients) ≡ client_lines 0 (take n state.clients) ++ client_line n (client state n).output
one_line_more state n below =
    let len : length (take n state.clients) ≡ n = length-take-le n state.clients (omega arith) in
    let number : 0 + length (take n state.clients) ≡ n = omega arith in
    ap (client_lines 0) (take_more state.clients n fresh below)
    ∙ lines_push 0 (take n state.clients) (get_or state.clients n fresh)
    ∙ ap (λ k. client_lines 0 (take n state.clients) ++ client_line k (get_or state.clients n fresh).output) number
