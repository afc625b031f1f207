-- What the system was asked for the stream to or from a client, and what came of it.
use Rattle.std.specs.Prelude.{ℕ, zero, suc, ◌≡◌, ◌<◌, ◌⊎◌, ⊤, Bool, true, false, List, [], ◌∷◌, take, Result, Ok, Err, Option, Some, None}
use Rattle.std.specs.Io.KnownBytes.{Keeps, Consumes}
use Rattle.std.specs.IoError.{error_kind}
use Rattle.std.specs.declared.io.Error.{Error}
use Rattle.std.specs.declared.io.ErrorKind.{ErrorKind}
use Rattle.std.specs.declared.io.ErrorKind.TheVariants.{WouldBlock, Interrupted}
use Rattle.sockets.specs.declared.line.Calls.{Calls, Nothing, Asked', Set'}

-- one call of the system, with its answer
pub data SystemCall : Type 0 where
  Call : (size : ℕ) (answer : Result ℕ Error) → SystemCall  -- there was room for so many bytes, or so many were handed on
  SetWaiting : (waits : Bool) (answer : Result ⊤ Error) → SystemCall  -- calls were to wait from then on, or not

-- the calls, the newest first
abbrev pub calls_in : Calls → List SystemCall
calls_in Nothing = []
calls_in (Asked' size answer snapshot earlier) = Call size.value answer.value ∷ calls_in earlier
calls_in (Set' waits answer snapshot earlier) = SetWaiting waits.value answer.value ∷ calls_in earlier

-- One call for so many bytes, right behind its mode: the system was asked to have calls wait, or not, and agreed.
abbrev pub HasAsked : (waits : Bool) → (size : ℕ) → (answer : Result ℕ Error) → (old new : List SystemCall) → Type 0
HasAsked waits size answer old new = new ≡ Call size answer ∷ (SetWaiting waits (Ok tt) ∷ old)

-- The system refused this mode, and was asked for nothing.
abbrev pub WasRefused : (waits : Bool) → Error → (old new : List SystemCall) → Type 0
WasRefused waits error old new = new ≡ SetWaiting waits (Err error) ∷ old

-- no failure of the stream: the call would have blocked or was interrupted
abbrev pub IsPassing : ErrorKind → Type 0
IsPassing kind = (kind ≡ WouldBlock) ⊎ (kind ≡ Interrupted)

-- the failure that is kept after a call that ended so: none where it would have blocked or was interrupted
abbrev pub IsKept : ErrorKind → Option ErrorKind → Type 0
IsKept kind None = IsPassing kind
IsKept kind (Some kept) = (kept ≡ kind) × (IsPassing kind → ⊥)

-- an answer that gave no byte and is no failure of the stream
abbrev pub GaveNothing : Result ℕ Error → Type 0
GaveNothing (Ok count) = count ≡ 0
GaveNothing (Err error) = IsPassing (error_kind error)

-- A look that was put off: the system refused to have calls not wait, or one call that did not wait gave nothing.
abbrev pub WasPutOff : ℕ → (old new : List SystemCall) → Type 0
WasPutOff size old new =
    ((error : Error) × WasRefused false error old new)
    ⊎ ((answer : Result ℕ Error) × GaveNothing answer × HasAsked false size answer old new)

-- so many looks that were put off, one after the other, and no other call
unfoldable pub ArePutOff : (looks size : ℕ) → (old new : List SystemCall) → Type 0
ArePutOff zero size old new = new ≡ old
ArePutOff (suc looks) size old new = (between : List SystemCall) × ArePutOff looks size old between × WasPutOff size between new

-- any number of them
abbrev pub WerePutOff : ℕ → (old new : List SystemCall) → Type 0
WerePutOff size old new = (looks : ℕ) × ArePutOff looks size old new

-- After looks that were put off, a call that did not wait got this answer.
abbrev pub HasGot : ℕ → (answer : Result ℕ Error) → (old new : List SystemCall) → Type 0
HasGot size answer old new = (between : List SystemCall) × WerePutOff size old between × HasAsked false size answer between new

-- What a look at what is there came to, by the failure that was kept before it and the one that is kept after it: some bytes, which one call
-- gave; or nothing, and where a failure is kept, the last call failed so. Where one was kept before, the system was not asked.
abbrev pub HasLooked : ℕ → (kept keeps : Option ErrorKind) → Option ℕ → (old new : List SystemCall) → Type 0
HasLooked size (Some kind) keeps result old new = (keeps ≡ Some kind) × (result ≡ None) × (new ≡ old)
HasLooked size None None (Some count) old new = (0 < count) × HasGot size (Ok count) old new
HasLooked size None None None old new = WerePutOff size old new
HasLooked size None (Some kind) (Some count) old new = ⊥
HasLooked size None (Some kind) None old new = (error : Error) × IsKept (error_kind error) (Some kind) × HasGot size (Err error) old new

-- What a wait came to: the system was asked to have calls wait, and what one call right behind that said is told; or it refused, and that
-- is told.
abbrev pub HasWaited : ℕ → Result ℕ Error → (old new : List SystemCall) → Type 0
HasWaited size result old new = HasAsked true size result old new ⊎ ((error : Error) × (result ≡ Err error) × WasRefused true error old new)

-- What a read tells where a look gave no bytes: the failure that is kept, and the system is not asked; where none is, what a wait came to.
abbrev pub HasTold : ℕ → (kept : Option ErrorKind) → Result ℕ Error → (old new : List SystemCall) → Type 0
HasTold size (Some kind) (Ok count) old new = ⊥
HasTold size (Some kind) (Err error) old new = (error_kind error ≡ kind) × (new ≡ old)
HasTold size None result old new = HasWaited size result old new

-- What a read came to, by the failure that was kept before it: the bytes that a look gave; or the look gave none, and then what is told.
abbrev pub HasRead : ℕ → (kept : Option ErrorKind) → Result ℕ Error → (old new : List SystemCall) → Type 0
HasRead size kept result old new =
    ((count : ℕ) × (result ≡ Ok count) × HasLooked size kept None (Some count) old new)
    ⊎ ((keeps : Option ErrorKind) × (between : List SystemCall)
    × HasLooked size kept keeps None old between × HasTold size keeps result between new)

-- a call would have blocked
abbrev pub WouldHaveBlocked : {T : Type 0} → Result T Error → Type 0
WouldHaveBlocked (Ok done) = ⊥
WouldHaveBlocked (Err error) = error_kind error ≡ WouldBlock

-- What a write came to: one call said what is told; or it would have blocked, and then what a wait came to.
abbrev pub HasWritten : ℕ → Result ℕ Error → (old new : List SystemCall) → Type 0
HasWritten size result old new =
    ((new ≡ Call size result ∷ old) × (WouldHaveBlocked result → ⊥))
    ⊎ ((first : Result ℕ Error) × WouldHaveBlocked first × HasWaited size result (Call size first ∷ old) new)

-- the bytes that a look gave, where those that the stream has left are known: none, or so many of the buffer
abbrev pub GivesBytes : (old new : Option (List ℕ)) → (buffer : List ℕ) → Option ℕ → Type 0
GivesBytes old new buffer (Some count) = (0 < count) × Consumes old new (take count buffer)
GivesBytes old new buffer None = Keeps old new
