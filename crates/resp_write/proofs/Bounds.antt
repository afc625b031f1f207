-- How many bytes items take at most.
use Rattle.std.proofs.Common.{suc, ℤ, pos, negsuc, ◌≡◌, ◌+◌, ◌≤◌, ◌<◌, ◌^◌, List, ◌∷◌, FitsSigned, w64, length, arith, length-append, refl}
use Rattle.std.proofs.lemmas.Fmt.{length-decimal-le}
use Rattle.std.specs.Fmt.{decimal}
use Rattle.std.specs.List.{flat_map}
use Rattle.words.specs.declared.reply.CommandReply.{CommandReply}
use Rattle.words.specs.declared.reply.CommandReply.TheVariants.{One}
use Rattle.words.specs.declared.reply.Item.{Item}
use Rattle.words.specs.declared.reply.Item.TheVariants as item
use Rattle.words.specs.declared.reply.Line.{Line as OneLine}
use Rattle.words.specs.declared.reply.Reply.TheVariants as reply
use Rattle.words.specs.Encoding.{command_reply_encoding, encoding, item_encoding}
use Rattle.words.specs.Lines.{line_text}
use Rattle.words.specs.Spelling.{crlf, bulk_string, header}
use Rattle.words.specs.Store.{Bytes}

pub line_len : (line : OneLine) → length (item_encoding (item.Line line)) ≡ length (line_text line) + 2
unfolding item_encoding
line_len line = length-append (line_text line) crlf

pub null_len : length (item_encoding item.Null) ≡ 5
unfolding item_encoding
null_len = refl

pub bulk_len : (bytes : Bytes) → length bytes < 2 ^ 64 → length (item_encoding (item.Bulk bytes)) ≤ 25 + length bytes
unfolding item_encoding bulk_string header
bulk_len bytes fits =
    let digits = length-decimal-le 20 (length bytes) (omega arith) (omega (arith, fits)) fits in
    let first = length-append (decimal (length bytes)) crlf in
    let value = length-append bytes crlf in
    simp length-append (omega (arith, digits, first, value))

pub integer_len : (n : ℤ) → FitsSigned w64 n → length (item_encoding (item.Integer n)) ≤ 23
unfolding item_encoding
integer_len (pos n) h =
    let fits = h.sfits in
    let digits = length-decimal-le 19 n (omega arith) (omega arith) (omega arith) in
    omega (arith, digits, length-append (decimal n) crlf)
integer_len (negsuc n) h =
    let fits = h.sfits in
    let digits = length-decimal-le 19 (suc n) (omega arith) (omega arith) (omega arith) in
    omega (arith, digits, length-append (decimal (suc n)) crlf)

-- answers of which the first is an item
pub first_len : (first : Item) (others : List CommandReply)
    → length (flat_map command_reply_encoding (One first ∷ others)) ≡ length (item_encoding first) + length (flat_map command_reply_encoding others)
unfolding command_reply_encoding
first_len first others = length-append (item_encoding first) (flat_map command_reply_encoding others)

pub single_len : (only : Item) → length (encoding (reply.Single (One only))) ≡ length (item_encoding only)
unfolding encoding command_reply_encoding
single_len only = refl

pub array_len : (replies : List CommandReply) → length replies < 2 ^ 64
    → length (encoding (reply.Array replies)) ≤ 23 + length (flat_map command_reply_encoding replies)
unfolding encoding header
array_len replies fits =
    let digits = length-decimal-le 20 (length replies) (omega arith) (omega (arith, fits)) fits in
    let first = length-append (decimal (length replies)) crlf in
    let all = length-append (header 42 (length replies)) (flat_map command_reply_encoding replies) in
    omega (arith, digits, first, all)
