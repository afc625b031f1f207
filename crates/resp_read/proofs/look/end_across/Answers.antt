use Rattle.std.proofs.Common.{◌≡◌, ◌≤◌, ◌-◌, ◌+◌, ◌∙◌, List, ℕ, ap, sym, arith, take, drop, length, length-drop}
use Rattle.std.proofs.lemmas.List.{drop-drop}
use Rattle.resp_read.specs.Pieces.{joined}
use Rattle.words.specs.declared.reply.ProtocolFault.TheVariants.{MissingLineEnd}
use Rattle.resp_read.proofs.LookLemmas.{line_is_short, end_is_due, end_tells_whole, end_tells_part, end_tells_fault, all_or}
use Rattle.resp_read.proofs.look.end_across.Goals as goal

pub overflow_add-end : goal.overflow_add-end
overflow_add-end c =
    let few : c.args.start ≤ 8 = line_is_short 36 c.args.long c.args.start (drop c.args.at (joined c.args.pieces.now)) c.requires.line c.requires.short in
    omega (arith, c.requires.short)

pub returns-then-rest-end : goal.returns-then-rest-end
returns-then-rest-end c =
    let bytes : List ℕ = joined c.args.pieces.now in
    end_is_due c.args.size c.args.long c.args.start (drop c.args.at bytes) c.requires.line c.requires.short c.requires.room (omega (arith, length-drop c.args.at bytes, c.held.ensures, c.if-rest-end.true))

pub returns-in-Whole : goal.returns-in-Whole
returns-in-Whole c =
    let bytes : List ℕ = joined c.args.pieces.now in
    let end : ℕ = c.args.start + c.args.long in
    let is : c.as_slice.result.now ≡ take c.least.result (drop (c.args.start + c.args.long) (drop c.args.at bytes)) =
    c.as_slice.ensures ∙ (c.in-Ok.ensures.bytes ∙ ap (take c.least.result) (sym (drop-drop (c.args.start + c.args.long) c.args.at bytes))) in
    end_tells_whole c.args.size c.args.long c.args.start c.least.result (drop c.args.at bytes) c.as_slice.result.now (drop 2 c.as_slice.result.now) c.requires.line c.requires.short c.requires.room
    (omega (arith, length-drop c.args.at bytes, c.held.ensures, c.if-rest-end.false)) is
    (omega (arith, length-drop c.args.at bytes, length-drop (c.args.start + c.args.long) (drop c.args.at bytes), c.held.ensures, c.if-rest-end.false, c.least.ensures.first))
    c.in-Whole.ensures.0 c.in-Whole.ensures.1

pub returns-in-Part : goal.returns-in-Part
returns-in-Part c =
    let bytes : List ℕ = joined c.args.pieces.now in
    let is : c.as_slice.result.now ≡ take c.least.result (drop (c.args.start + c.args.long) (drop c.args.at bytes)) =
    c.as_slice.ensures ∙ (c.in-Ok.ensures.bytes ∙ ap (take c.least.result) (sym (drop-drop (c.args.start + c.args.long) c.args.at bytes))) in
    let left : c.held.result - c.args.at - (c.args.start + c.args.long) ≡ length (drop (c.args.start + c.args.long) (drop c.args.at bytes)) =
    omega (arith, length-drop c.args.at bytes, length-drop (c.args.start + c.args.long) (drop c.args.at bytes), c.held.ensures) in
    end_tells_part c.args.size c.args.long c.args.start c.least.result (drop c.args.at bytes) c.as_slice.result.now c.requires.line c.requires.short c.requires.room
    (omega (arith, length-drop c.args.at bytes, c.held.ensures, c.if-rest-end.false)) is
    (all_or (length (drop (c.args.start + c.args.long) (drop c.args.at bytes))) c.least.ensures.one left)
    (omega (arith, left, c.least.ensures.first))
    c.in-Part.ensures.0 c.in-Part.ensures.1

pub returns : goal.returns
returns c =
    let bytes : List ℕ = joined c.args.pieces.now in
    let is : c.as_slice.result.now ≡ take c.least.result (drop (c.args.start + c.args.long) (drop c.args.at bytes)) =
    c.as_slice.ensures ∙ (c.in-Ok.ensures.bytes ∙ ap (take c.least.result) (sym (drop-drop (c.args.start + c.args.long) c.args.at bytes))) in
    end_tells_fault c.args.size c.args.long c.args.start c.least.result (drop c.args.at bytes) c.as_slice.result.now MissingLineEnd c.requires.line c.requires.short c.requires.room
    (omega (arith, length-drop c.args.at bytes, c.held.ensures, c.if-rest-end.false)) is c.in-Missing.ensures
