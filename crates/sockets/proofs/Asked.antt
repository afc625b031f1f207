-- Calls of the system, one after the other.
use Rattle.std.proofs.Common.{◌≡◌, ℕ, zero, suc, ◌<◌, Bool, true, false, List, ◌∷◌, Option, Some, None, Result, Ok, Err, inl, inr, refl, subst, sym, ap, ◌∙◌}
use Rattle.std.specs.Option.{is_some}
use Rattle.std.specs.Result.{is_err}
use Rattle.std.specs.Io.KnownBytes.{Keeps}
use Rattle.std.specs.IoError.{error_kind}
use Rattle.std.specs.declared.io.Error.{Error}
use Rattle.std.specs.declared.io.ErrorKind.{ErrorKind}
use Rattle.sockets.specs.SystemCalls.{SystemCall, Call, SetWaiting, HasAsked, IsKept, GaveNothing, WasPutOff, ArePutOff, WerePutOff, HasGot}
use Rattle.sockets.specs.SystemCalls.{HasLooked, HasTold, HasRead}

-- no look
pub off-none : (size : ℕ) (old : List SystemCall) → WerePutOff size old old
unfolding ArePutOff
off-none size old = (zero, refl)

-- one more
off-next : (size : ℕ) (old mid new : List SystemCall) → WerePutOff size old mid → WasPutOff size mid new → WerePutOff size old new
unfolding ArePutOff
off-next size old mid new earlier was = (suc earlier.0, (mid, earlier.1, was))

pub off-one : (size : ℕ) (old new : List SystemCall) → WasPutOff size old new → WerePutOff size old new
off-one size old new was = off-next size old old new (off-none size old) was

off-more : (looks size : ℕ) (old mid new : List SystemCall) → WerePutOff size old mid → ArePutOff looks size mid new
    → WerePutOff size old new
unfolding ArePutOff
off-more zero size old mid new earlier later = subst (λ (t : List SystemCall). WerePutOff size old t) (sym later) earlier
off-more (suc looks) size old mid new earlier later =
    off-next size old later.0 new (off-more looks size old mid later.0 earlier later.1) later.2

pub off-then : (size : ℕ) (old mid new : List SystemCall) → WerePutOff size old mid → WerePutOff size mid new → WerePutOff size old new
off-then size old mid new earlier later = off-more later.0 size old mid new earlier later.1

-- an answer after looks that were put off, and others before them
got-then : (size : ℕ) (answer : Result ℕ Error) (old mid new : List SystemCall) → WerePutOff size old mid → HasGot size answer mid new
    → HasGot size answer old new
got-then size answer old mid new earlier later = (later.0, off-then size old mid later.0 earlier later.1, later.2)

-- a look after looks that were put off
pub look-then : (size : ℕ) (keeps : Option ErrorKind) (result : Option ℕ) (old mid new : List SystemCall) → WerePutOff size old mid
    → HasLooked size None keeps result mid new → HasLooked size None keeps result old new
look-then size None None old mid new earlier later = off-then size old mid new earlier later
look-then size None (Some count) old mid new earlier later = (later.0, got-then size (Ok count) old mid new earlier later.1)
look-then size (Some kind) None old mid new earlier later =
    (later.0, later.1, got-then size (Err later.0) old mid new earlier later.2)
look-then size (Some kind) (Some count) old mid new earlier later = absurd later

-- no look, whatever failure is kept
pub looked-none : (size : ℕ) (kept : Option ErrorKind) (old : List SystemCall) → HasLooked size kept kept None old old
looked-none size None old = off-none size old
looked-none size (Some kind) old = (refl, refl, refl)

-- a look that found nothing, where no failure was kept and none is
pub looked-off : (size : ℕ) (kept : Option ErrorKind) (old new : List SystemCall) → kept ≡ None → WasPutOff size old new
    → HasLooked size kept kept None old new
looked-off size None old new e off = off-one size old new off
looked-off size (Some kind) old new e off = absurd (cc e)

-- that the mode was set, or was not
set : (answer : Result (Unit {0}) Error) → false ≡ is_err answer → answer ≡ Ok tt
set (Ok done) e = refl
set (Err error) e = absurd (cc e)

unset : (answer : Result (Unit {0}) Error) → true ≡ is_err answer → (error : Error) × (answer ≡ Err error)
unset (Ok done) e = absurd (cc e)
unset (Err error) e = (error, refl)

-- a call after its mode
asked-by : (waits : Bool) (size : ℕ) (set-to : Result (Unit {0}) Error) (answer : Result ℕ Error) (old mid new : List SystemCall)
    → set-to ≡ Ok tt → mid ≡ SetWaiting waits set-to ∷ old → new ≡ Call size answer ∷ mid → HasAsked waits size answer old new
asked-by waits size set-to answer old mid new e first last =
    last ∙ ap (λ (t : List SystemCall). Call size answer ∷ t) (first ∙ ap (λ (r : Result (Unit {0}) Error). SetWaiting waits r ∷ old) e)

-- the mode was refused
pub looked-refused : (size : ℕ) (kept : Option ErrorKind) (set-to : Result (Unit {0}) Error) (old new : List SystemCall) → kept ≡ None
    → true ≡ is_err set-to → new ≡ SetWaiting false set-to ∷ old → HasLooked size kept kept None old new
looked-refused size kept set-to old new e is first =
    let error = unset set-to is in
    looked-off size kept old new e
    (inl (error.0, first ∙ ap (λ (r : Result (Unit {0}) Error). SetWaiting false r ∷ old) error.1))

-- a look that found the end
pub looked-end : (size : ℕ) (kept : Option ErrorKind) (set-to : Result (Unit {0}) Error) (answer : Result ℕ Error)
    (old mid new : List SystemCall) → kept ≡ None → false ≡ is_err set-to
    → mid ≡ SetWaiting false set-to ∷ old → new ≡ Call size answer ∷ mid → GaveNothing answer
    → HasLooked size kept kept None old new
looked-end size kept set-to answer old mid new e is first last nothing =
    looked-off size kept old new e
    (inr (answer, nothing, asked-by false size set-to answer old mid new (set set-to is) first last))

-- a look that found bytes
pub looked-some : (size count : ℕ) (kept : Option ErrorKind) (set-to : Result (Unit {0}) Error) (old mid new : List SystemCall)
    → kept ≡ None → 0 < count → false ≡ is_err set-to → mid ≡ SetWaiting false set-to ∷ old → new ≡ Call size (Ok count) ∷ mid
    → HasLooked size kept kept (Some count) old new
looked-some size count None set-to old mid new e some is first last =
    (some, (old, off-none size old, asked-by false size set-to (Ok count) old mid new (set set-to is) first last))
looked-some size count (Some kind) set-to old mid new e some is first last = absurd (cc e)

-- a call that failed, and the failure that is kept after it
pub looked-failed : (size : ℕ) (kept keeps : Option ErrorKind) (set-to : Result (Unit {0}) Error) (error : Error)
    (old mid new : List SystemCall) → kept ≡ None → false ≡ is_err set-to
    → mid ≡ SetWaiting false set-to ∷ old → new ≡ Call size (Err error) ∷ mid
    → IsKept (error_kind error) keeps → HasLooked size kept keeps None old new
looked-failed size (Some kind) keeps set-to error old mid new e is first last told = absurd (cc e)
looked-failed size None None set-to error old mid new e is first last told =
    off-one size old new (inr (Err error, told, asked-by false size set-to (Err error) old mid new (set set-to is) first last))
looked-failed size None (Some kind) set-to error old mid new e is first last told =
    (error, told, (old, off-none size old, asked-by false size set-to (Err error) old mid new (set set-to is) first last))

-- the call that waits
pub waited : (size : ℕ) (kept : Option ErrorKind) (set-to : Result (Unit {0}) Error) (result : Result ℕ Error)
    (old mid new : List SystemCall) → kept ≡ None → set-to ≡ Ok tt
    → mid ≡ SetWaiting true set-to ∷ old → new ≡ Call size result ∷ mid → HasTold size kept result old new
waited size (Some kind) set-to result old mid new e is first last = absurd (cc e)
waited size None set-to result old mid new e is first last = inl (asked-by true size set-to result old mid new is first last)

-- a read of the bytes that a look gave
pub read-some : (size count : ℕ) (kept keeps : Option ErrorKind) (old new : List SystemCall)
    → HasLooked size kept keeps (Some count) old new → HasRead size kept (Ok count) old new
read-some size count (Some kind) keeps old new looked = absurd (cc looked.1)
read-some size count None None old new looked = inl (count, refl, looked)
read-some size count None (Some kind) old new looked = absurd looked

-- a look of so many bytes after others that were put off, where the buffer keeps its length and no failure was kept
pub look-along : (size same : ℕ) (kept seen keeps : Option ErrorKind) (result : Option ℕ) (old mid new : List SystemCall) → same ≡ size
    → kept ≡ None → seen ≡ None → WerePutOff size old mid → HasLooked same seen keeps result mid new → HasLooked same kept keeps result old new
look-along size same (Some kind) seen keeps result old mid new e k s earlier later = absurd (cc k)
look-along size same None (Some kind) keeps result old mid new e k s earlier later = absurd (cc s)
look-along size same None None keeps result old mid new e k s earlier later =
    look-then same keeps result old mid new (subst (λ (n : ℕ). WerePutOff n old mid) (sym e) earlier) later

pub off-along : (size same : ℕ) (seen keeps : Option ErrorKind) (old mid new : List SystemCall) → same ≡ size
    → seen ≡ None → keeps ≡ None → WerePutOff size old mid → HasLooked same seen keeps None mid new → WerePutOff same old new
off-along size same (Some kind) keeps old mid new e s k earlier later = absurd (cc s)
off-along size same None (Some kind) old mid new e s k earlier later = absurd (cc k)
off-along size same None None old mid new e s k earlier later =
    off-then same old mid new (subst (λ (n : ℕ). WerePutOff n old mid) (sym e) earlier) later

-- the read that follows a look which found nothing
pub read-along : (size same : ℕ) (kept keeps : Option ErrorKind) (result : Result ℕ Error) (old mid new : List SystemCall) → same ≡ size
    → HasLooked size kept keeps None old mid → HasTold same keeps result mid new → HasRead same kept result old new
read-along size same kept keeps result old mid new e looked told =
    inr (keeps, mid, subst (λ (n : ℕ). HasLooked n kept keeps None old mid) (sym e) looked, told)

pub is_none : {T : Type 0} (o : Option T) → false ≡ is_some o → o ≡ None
is_none None e = refl
is_none (Some x) e = cc

pub Keeps-self : (u : Option (List ℕ)) → Keeps u u
Keeps-self None = tt
Keeps-self (Some xs) = refl

pub Keeps-then : (u v w : Option (List ℕ)) → Keeps u v → Keeps v w → Keeps u w
Keeps-then None v w a b = tt
Keeps-then (Some xs) None w a b = absurd a
Keeps-then (Some xs) (Some ys) None a b = absurd b
Keeps-then (Some xs) (Some ys) (Some zs) a b = b ∙ a
