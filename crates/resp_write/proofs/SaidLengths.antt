-- The bytes of a value as a reply.
use Rattle.std.proofs.Common.{ℕ, ◌≡◌, ◌+◌, ◌∷◌, ◌++◌, length, Some, arith, length-append, refl}
use Rattle.std.specs.Fmt.{decimal}
use Rattle.words.specs.Encoding.{encoding, command_reply_encoding, item_encoding}
use Rattle.words.specs.Session.{value_reply}
use Rattle.words.specs.Spelling.{header, crlf, bulk_string}
use Rattle.words.specs.Store.{Bytes}

pub said_text : (bytes : Bytes) → encoding (value_reply (Some bytes)) ≡ 36 ∷ ((decimal (length bytes) ++ crlf) ++ (bytes ++ crlf))
unfolding encoding command_reply_encoding item_encoding bulk_string header
said_text bytes = refl

pub said_len : (bytes : Bytes) → length (encoding (value_reply (Some bytes))) ≡ length bytes + length (decimal (length bytes)) + 5
said_len bytes =
    let first = length-append (decimal (length bytes) ++ crlf) (bytes ++ crlf) in
    let digits = length-append (decimal (length bytes)) crlf in
    let value = length-append bytes crlf in
    rw (said_text bytes) (omega (arith, first, digits, value))

pub header_len : (count : ℕ) → length (header 42 count) ≡ length (decimal count) + 3
unfolding header
header_len count =
    let digits = length-append (decimal count) crlf in
    omega (arith, digits)
