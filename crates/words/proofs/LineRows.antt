-- The text of each line that the server writes.
use Rattle.std.specs.Prelude.{◌≡◌, List, [], ◌∷◌, refl, codes}
use Prim.Native.String.{String}
use Rattle.words.specs.declared.reply.Refusal.TheVariants.{UnknownCommand, WrongArity, Syntax, NotAnInteger, Overflow, OffsetOutOfRange, StringTooLong, KeyTooLong, WritesTooMuch, NoSuchKey}
use Rattle.words.specs.declared.reply.TransactionError.TheVariants.{NestedMulti, WatchInsideMulti, ExecWithoutMulti, DiscardWithoutMulti, TransactionAborted, TransactionTooLarge, TooManyWatchedKeys}
use Rattle.words.specs.declared.reply.Fault.TheVariants.{OutOfMemory, DeviceFault, StoreFull, CommitsWornOut}
use Rattle.words.specs.declared.reply.ProtocolFault.TheVariants.{ExpectedArray, BadCount, ExpectedBulk, BadLength, MissingLineEnd, RequestTooLarge}
use Rattle.words.specs.declared.reply.Line.{Line}
use Rattle.words.specs.declared.reply.Line.TheVariants.{Done, Pong, Queued, Refused, Misplaced, Faulty, Malformed}
use Rattle.words.specs.Store.{Bytes}
use Rattle.words.specs.Lines.{line_text}

abbrev texts_of : List Line → List Bytes
texts_of [] = []
texts_of (line ∷ lines) = line_text line ∷ texts_of lines

abbrev texts : List String → List Bytes
texts [] = []
texts (text ∷ more) = codes text ∷ texts more

simple_strings : texts_of (Done ∷ Pong ∷ Queued ∷ []) ≡ texts ("+OK" ∷ "+PONG" ∷ "+QUEUED" ∷ [])
simple_strings = refl

refusals :
    texts_of
    (Refused UnknownCommand ∷ Refused WrongArity ∷ Refused Syntax ∷ Refused NotAnInteger ∷ Refused Overflow ∷ Refused OffsetOutOfRange
    ∷ Refused StringTooLong ∷ Refused KeyTooLong ∷ Refused WritesTooMuch ∷ Refused NoSuchKey ∷ [])
    ≡ texts
    ("-ERR unknown command" ∷ "-ERR wrong number of arguments" ∷ "-ERR syntax error" ∷ "-ERR value is not an integer or out of range"
    ∷ "-ERR increment or decrement would overflow" ∷ "-ERR offset is out of range" ∷ "-ERR string is too long" ∷ "-ERR key is too long"
    ∷ "-ERR command writes too much" ∷ "-ERR no such key" ∷ [])
refusals = refl

transaction_errors :
    texts_of
    (Misplaced NestedMulti ∷ Misplaced WatchInsideMulti ∷ Misplaced ExecWithoutMulti ∷ Misplaced DiscardWithoutMulti ∷ Misplaced TransactionAborted
    ∷ Misplaced TransactionTooLarge ∷ Misplaced TooManyWatchedKeys ∷ [])
    ≡ texts
    ("-ERR MULTI inside MULTI" ∷ "-ERR WATCH inside MULTI" ∷ "-ERR EXEC without MULTI" ∷ "-ERR DISCARD without MULTI"
    ∷ "-EXECABORT transaction discarded because of earlier errors" ∷ "-ERR transaction is too large" ∷ "-ERR too many watched keys" ∷ [])
transaction_errors = refl

faults :
    texts_of (Faulty OutOfMemory ∷ Faulty DeviceFault ∷ Faulty StoreFull ∷ Faulty CommitsWornOut ∷ [])
    ≡ texts ("-OOM out of memory" ∷ "-IOERR device fault" ∷ "-FULL store is full" ∷ "-WORN commit numbers are used up" ∷ [])
faults = refl

protocol_faults :
    texts_of
    (Malformed ExpectedArray ∷ Malformed BadCount ∷ Malformed ExpectedBulk ∷ Malformed BadLength ∷ Malformed MissingLineEnd ∷ Malformed RequestTooLarge ∷ [])
    ≡ texts
    ("-ERR Protocol error: expected '*'" ∷ "-ERR Protocol error: bad count" ∷ "-ERR Protocol error: expected '$'"
    ∷ "-ERR Protocol error: bad length" ∷ "-ERR Protocol error: missing line end" ∷ "-ERR Protocol error: request too large" ∷ [])
protocol_faults = refl
