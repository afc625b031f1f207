-- Writes of what has its place in a history fit into pages.
use Rattle.std.proofs.Common.{◌≤◌, List, [], ◌∷◌, ◌++◌, Option, Some, None, length, arith, subst}
use Rattle.std.specs.Prelude.{unwrap_or}
use Rattle.words.specs.declared.limits.TheConstants.{VALUE_BYTES_MAX}
use Rattle.words.specs.declared.command.Command.{Command}
use Rattle.words.specs.declared.history.Operation.{Operation}
use Rattle.words.specs.declared.history.Operation.TheVariants.{Run, Exec}
use Rattle.words.specs.Store.{Bytes, Store, Write, written}
use Rattle.words.specs.Bounds.{AreWritesBounded, IsStoreBounded}
use Rattle.words.specs.History.{HasPlace, outcome}
use Rattle.hybrid.specs.Writing.{AreFit}
use Rattle.words.specs.Answers.{answer, answers}
use Rattle.plans.specs.Sizes.{AllShort, AreShort, AreSized, IsSized}
use Rattle.plans.proofs.Found.{short_written}

fit : (writes : List Write) → AreWritesBounded writes → AreFit writes
fit [] bounded = tt
fit ((key, None) ∷ writes) bounded = (record { key_fits = bounded.0; value_fits = omega arith }, fit writes bounded.2)
fit ((key, Some value) ∷ writes) bounded = (record { key_fits = bounded.0; value_fits = bounded.1 }, fit writes bounded.2)

bounded_store : (store : Store) → AllShort store → IsStoreBounded store
bounded_store store short key value is = subst (λ (found : Option Bytes). length (unwrap_or found []) ≤ VALUE_BYTES_MAX) is (short key)

-- the law of what operations write
abbrev pub Bounded : Type 0
Bounded = (operation : Operation) (store : Store) → IsStoreBounded store → HasPlace operation → AreWritesBounded (outcome store operation).1

pub sized_one : Bounded → (command : Command) → HasPlace (Run command) → IsSized command
sized_one law command place store short = fit (outcome store (Run command)).1 (law (Run command) store (bounded_store store short) place)

first_fits : (writes : List Write) → AreFit (writes ++ []) → AreFit writes
first_fits [] fits = tt
first_fits (write ∷ writes) fits = (fits.0, first_fits writes fits.1)

pub sized_all : Bounded → (commands : List Command) → HasPlace (Exec commands []) → AreSized commands
sized_all law [] place = tt
sized_all law (command ∷ commands) place = (
  λ store short. first_fits (answer store command).1 (fit (outcome store (Exec (command ∷ []) [])).1 (law (Exec (command ∷ []) []) store (bounded_store store short) ((place.0.0, tt), (place.1.0, tt)))),
  sized_all law commands (place.0.1, place.1.1),
)

pub fit_both : (one two : List Write) → AreFit one → AreFit two → AreFit (one ++ two)
fit_both [] two fits more = more
fit_both (write ∷ one) two fits more = (fits.0, fit_both one two fits.1 more)

-- what fits into pages is short
pub short_fit : (writes : List Write) → AreFit writes → AreShort writes
short_fit [] fits = tt
short_fit ((key, None) ∷ writes) fits = (omega arith, short_fit writes fits.1)
short_fit ((key, Some value) ∷ writes) fits = (fits.0.value_fits, short_fit writes fits.1)

-- what commands write that run one after the other fits, where each command's does
pub answers_fit : (commands : List Command) (store : Store) → AllShort store → AreSized commands → AreFit (answers store commands).1
answers_fit [] store short sized = tt
answers_fit (command ∷ commands) store short sized =
    let first : AreFit (answer store command).1 = sized.0 store short in
    fit_both (answer store command).1 (answers (written store (answer store command).1) commands).1 first
    (answers_fit commands (written store (answer store command).1) (short_written (answer store command).1 store short (short_fit (answer store command).1 first)) sized.1)
