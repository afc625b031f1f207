-- How long a line is.
use Rattle.std.proofs.Common.{◌≤◌, length, arith, length-append, lit≤}
use Rattle.words.specs.declared.reply.Line.{Line}
use Rattle.words.specs.declared.reply.Line.TheVariants.{Done, Pong, Queued, Refused, Misplaced, Faulty, Malformed}
use Rattle.words.specs.declared.reply.Refusal.TheVariants.{UnknownCommand, WrongArity, Syntax, NotAnInteger, Overflow, OffsetOutOfRange, StringTooLong, KeyTooLong, WritesTooMuch, NoSuchKey}
use Rattle.words.specs.declared.reply.TransactionError.TheVariants.{NestedMulti, WatchInsideMulti, ExecWithoutMulti, DiscardWithoutMulti, TransactionAborted, TransactionTooLarge, TooManyWatchedKeys}
use Rattle.words.specs.declared.reply.Fault.TheVariants.{OutOfMemory, DeviceFault, StoreFull, CommitsWornOut}
use Rattle.words.specs.declared.reply.ProtocolFault.TheVariants.{ExpectedArray, BadCount, ExpectedBulk, BadLength, MissingLineEnd, RequestTooLarge}
use Rattle.words.specs.declared.reply.Reply.{Reply}
use Rattle.words.specs.Lines.{line_text}
use Rattle.words.specs.Encoding.{encoding, command_reply_encoding, item_encoding}
use Rattle.resp_write.specs.Lines.{IsLine}

-- a line's text has at most 64 bytes
line_text-len : (line : Line) → length (line_text line) ≤ 64
line_text-len Done = lit≤ tt
line_text-len Pong = lit≤ tt
line_text-len Queued = lit≤ tt
line_text-len (Refused UnknownCommand) = lit≤ tt
line_text-len (Refused WrongArity) = lit≤ tt
line_text-len (Refused Syntax) = lit≤ tt
line_text-len (Refused NotAnInteger) = lit≤ tt
line_text-len (Refused Overflow) = lit≤ tt
line_text-len (Refused OffsetOutOfRange) = lit≤ tt
line_text-len (Refused StringTooLong) = lit≤ tt
line_text-len (Refused KeyTooLong) = lit≤ tt
line_text-len (Refused WritesTooMuch) = lit≤ tt
line_text-len (Refused NoSuchKey) = lit≤ tt
line_text-len (Misplaced NestedMulti) = lit≤ tt
line_text-len (Misplaced WatchInsideMulti) = lit≤ tt
line_text-len (Misplaced ExecWithoutMulti) = lit≤ tt
line_text-len (Misplaced DiscardWithoutMulti) = lit≤ tt
line_text-len (Misplaced TransactionAborted) = lit≤ tt
line_text-len (Misplaced TransactionTooLarge) = lit≤ tt
line_text-len (Misplaced TooManyWatchedKeys) = lit≤ tt
line_text-len (Faulty OutOfMemory) = lit≤ tt
line_text-len (Faulty DeviceFault) = lit≤ tt
line_text-len (Faulty StoreFull) = lit≤ tt
line_text-len (Faulty CommitsWornOut) = lit≤ tt
line_text-len (Malformed ExpectedArray) = lit≤ tt
line_text-len (Malformed BadCount) = lit≤ tt
line_text-len (Malformed ExpectedBulk) = lit≤ tt
line_text-len (Malformed BadLength) = lit≤ tt
line_text-len (Malformed MissingLineEnd) = lit≤ tt
line_text-len (Malformed RequestTooLarge) = lit≤ tt

-- with its line end at most 66
pub line_len : (reply : Reply) → IsLine reply → length (encoding reply) ≤ 66
unfolding encoding command_reply_encoding item_encoding
line_len reply is = rw is.1 (simp length-append (omega (arith, line_text-len is.0)))
