-- Settings, as writes and as calls.
use Rattle.std.proofs.Common.{◌≡◌, ◌<◌, List, [], ◌∷◌, length, ap, arith}
use Rattle.words.specs.declared.limits.TheConstants.{WEIGHT_MAX}
use Rattle.words.specs.declared.command.Command.TheVariants.{MSet}
use Rattle.words.specs.Session.{Run}
use Rattle.words.specs.Answers.{writes_set}
use Rattle.words.specs.Bounds.{AreKeysBounded, AreValuesBounded, values_set}
use Rattle.words.specs.Commands.{keys_set}
use Rattle.words.specs.Store.{Bytes, Store}
use Rattle.hybrid.specs.Writing.{AreFit}
use Rattle.transact.specs.Plans.{weight_of_each}
use Rattle.engine.specs.Memory.{AsksNoMemory}

-- those within the limits have their place in a page
pub fits_of : (settings : List (Bytes × Bytes)) → AreKeysBounded (keys_set settings) → AreValuesBounded (values_set settings) → AreFit (writes_set settings)
fits_of [] keys values = tt
fits_of (setting ∷ settings) keys values = (record { key_fits = keys.0; value_fits = values.0 }, fits_of settings keys.1 values.1)

first_of : (key named : Bytes) → key ∷ [] ≡ named ∷ [] → key ≡ named
first_of key named e = cc e

-- those that may be too heavy may want memory
pub heavy_asks : (near : Type 0) (store : Store) (settings : List (Bytes × Bytes)) → WEIGHT_MAX < weight_of_each settings → AsksNoMemory near store (Run (MSet settings)) → ⊥
heavy_asks near store [] heavy asks = omega (arith, heavy)
heavy_asks near store (setting ∷ []) heavy asks =
    let brief = asks.1.1 in
    omega (arith, heavy, brief.texts.writes.0.0, brief.texts.writes.0.1)
heavy_asks near store (setting ∷ other ∷ settings) heavy asks = omega (arith, ap length asks.1.1.keys)
