use Rattle.std.proofs.Common.{◌≡◌, ◌∙◌, ◌+◌, ◌∷◌, List, length, arith, ap}
use Rattle.std.specs.List.{flat_map}
use Rattle.words.specs.declared.reply.CommandReply.{CommandReply}
use Rattle.words.specs.declared.reply.CommandReply.TheVariants.{One}
use Rattle.words.specs.declared.reply.Item.{Item}
use Rattle.words.specs.Encoding.{command_reply_encoding, item_encoding}
use Rattle.resp_write.proofs.Bounds.{first_len}
use Rattle.resp_write.proofs.bound.all_fit.Goals as goal

pub loop-first-preserved : goal.loop-first-preserved
loop-first-preserved c =
    let item : Item = c.in-One.item in
    let others : List CommandReply = c.in-Some.others.now in
    let is : c.loop-first.rest.now ≡ c.in-Some.first.now ∷ others = c.in-Some.ensures.cases.0 in
    let one : c.in-Some.first.now ≡ One item = c.in-One.is in
    let all : length (flat_map command_reply_encoding c.loop-first.rest.now) ≡ length (item_encoding item) + length (flat_map command_reply_encoding others) =
    ap (λ (l : List CommandReply). length (flat_map command_reply_encoding l)) (is ∙ ap (λ (f : CommandReply). f ∷ others) one) ∙ first_len item others in
    omega (arith, all, c.in-Some-room_behind.ensures, c.loop-first.invariant)
