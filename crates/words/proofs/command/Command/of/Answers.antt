use Rattle.std.proofs.Common.{rules, ◌≡◌, ◌∙◌, sym, ap, subst, ◌∷◌}
use Rattle.std.specs.Prelude.{Result, IfOk}
use Rattle.std.proofs.lemmas.Result.{IfOk-weaker}
use Rattle.words.specs.declared.command.Command.{Command}
use Rattle.words.specs.declared.reply.Refusal.{Refusal}
use Rattle.words.specs.Store.{Bytes}
use Rattle.words.specs.Commands.{command_of, command_in, table}
use Rattle.words.specs.Verbs.{shaped}
use Rattle.words.specs.Bounds.{IsBounded}
use Rattle.words.proofs.Bounded.{command_bounded}
use Rattle.words.proofs.command.Command.of.Goals as goal

pub returns-clause-memory : goal.returns-clause-memory
returns-clause-memory c =
    let arguments = c.in-Some.arguments.now in
    let words : c.args.words.now ≡ c.in-Some.name.now ∷ arguments = Prim.search rules in
    let named = c.shape_of.ensures arguments ∙ ap (λ (name : Bytes). command_in table name arguments) c.as_slice-2.ensures in
    let whole : command_of c.args.words.now ≡ shaped c.shape_of.result arguments = ap command_of words ∙ sym named in
    rw whole c.read.ensures.memory

pub returns-clause-bounded : goal.returns-clause-bounded
returns-clause-bounded c =
    let arguments = c.in-Some.arguments.now in
    let words : c.args.words.now ≡ c.in-Some.name.now ∷ arguments = Prim.search rules in
    let named = c.shape_of.ensures arguments ∙ ap (λ (name : Bytes). command_in table name arguments) c.as_slice-2.ensures in
    let whole : command_of c.args.words.now ≡ shaped c.shape_of.result arguments = ap command_of words ∙ sym named in
    λ request.
    let bounded : IfOk (command_of c.args.words.now) IsBounded = command_bounded c.args.words.now request.short in
    IfOk-weaker c.read.result (λ made. made ≡ shaped c.shape_of.result arguments) (λ made. IfOk made IsBounded)
    (λ made is. subst (λ (r : Result Command Refusal). IfOk r IsBounded) (whole ∙ sym is) bounded) c.read.ensures.exact
