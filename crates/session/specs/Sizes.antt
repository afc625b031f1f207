-- How large a transaction is, and the lines that a WATCH is refused with.
use Rattle.std.specs.Prelude.{ℕ, ◌+◌, List, length, nat_lt, Option, Some, None, if◌then◌else◌}
use Rattle.words.specs.declared.limits.TheConstants.{WATCHED_KEYS_MAX}
use Rattle.words.specs.declared.reply.Refusal.TheVariants.{KeyTooLong}
use Rattle.words.specs.declared.reply.TransactionError.TheVariants.{TooManyWatchedKeys}
use Rattle.words.specs.declared.reply.Line.{Line}
use Rattle.words.specs.declared.reply.Line.TheVariants.{Refused, Misplaced}
use Rattle.words.specs.Store.{Bytes}
use Rattle.words.specs.Commands.{any_long}
use Rattle.words.specs.Spelling.{bytes_of}
use Rattle.words.specs.Watches.{count_watched}
use Rattle.words.specs.Session.{is_too_large}
use Rattle.session.specs.declared.modes.Size.{Size}

-- how large a transaction of so many commands and this size is with one more request, if it is not too large then
abbrev pub with_request : (commands : ℕ) → Size → (request : List Bytes) → Option Size
with_request commands size request =
    if is_too_large (commands + 1) (size.words + length request) (size.bytes + bytes_of request) then None
    else Some (record { words = size.words + length request; bytes = size.bytes + bytes_of request })

-- the line that a WATCH of these keys is refused with where these are watched, if it is
abbrev pub watch_refusal : List Bytes → List Bytes → Option Line
watch_refusal watched keys =
    if any_long keys then Some (Refused KeyTooLong)
    else (if nat_lt WATCHED_KEYS_MAX (count_watched watched keys) then Some (Misplaced TooManyWatchedKeys) else None)
