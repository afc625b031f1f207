use Rattle.std.proofs.Common.{rules, ◌∙◌, ℕ, List, [], ◌++◌, sym, ap}
use Rattle.words.specs.declared.command.Command.{Command}
use Rattle.words.specs.Store.{Bytes}
use Rattle.words.specs.Commands.{keys_of_all}
use Rattle.transact.specs.Plans.{stripes_with}
use Rattle.transact.specs.Calls.{call_keys}
use Rattle.transact.specs.declared.call.Call.{Call}
use Rattle.transact.proofs.Keys.{with_append}
use Rattle.transact.proofs.stripes.keys_of.Goals as goal

pub returns-in-Exec-clause-exact : goal.returns-in-Exec-clause-exact
returns-in-Exec-clause-exact c =
    let n : ℕ = c.args.stripes in
    let own : List Command = c.as_slice-in-Exec.result.now in
    let keys : List Bytes = c.keys.result.now in
    c.with_keys.ensures.exact
    ∙ ap (λ (s : List ℕ). stripes_with n s keys) (c.with_commands.ensures.exact ∙ ap (λ (s : List ℕ). stripes_with n s (keys_of_all own)) c.none-in-Exec.ensures)
    ∙ sym (with_append n [] (keys_of_all own) keys)
    ∙ (let a = c.as_slice-in-Exec.ensures in let b = c.keys.ensures in let is = c.in-Exec.is in
    ap (λ (l : List Command). stripes_with n [] (keys_of_all l ++ keys)) a ∙ ap (λ (k : List Bytes). stripes_with n [] (keys_of_all c.in-Exec.commands ++ k)) b
    ∙ ap (λ (x : Call). stripes_with n [] (call_keys x)) (sym is))

pub returns-in-One-clause-exact : goal.returns-in-One-clause-exact
returns-in-One-clause-exact c = search rules
