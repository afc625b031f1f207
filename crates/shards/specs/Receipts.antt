-- Receipts, as contracts see them.
use Rattle.std.specs.Prelude.{ℕ, Bool, List, [], ◌∷◌, Option, None, Some, map}
use Rattle.epoch.specs.Seats.{refusals, retired_value}
use Rattle.epoch.specs.declared.epochs.Retired.{Retired}
use Rattle.device.specs.Releases.{released_value}
use Rattle.device.specs.declared.releasable.Releasable.{Releasable}
use Rattle.gates.specs.Pages.{Place}
use Rattle.hybrid.specs.HybridLog.{HybridLog, Kept}
use Rattle.shards.specs.Counted.{Counted}

-- a receipt, by what it has in common with its copies and the page that it shows
abbrev pub kept_by : {R : Type 0} → (identity shown : R → List ℕ) → R → Kept
kept_by {R} identity shown receipt = record { identity = identity receipt; shown = shown receipt }

-- receipts, the first of which is kept apart
abbrev pub listed : {R : Type 0} → (identity shown : R → List ℕ) → Option R → List R → List Kept
listed identity shown None others = []
listed identity shown (Some first) others = kept_by identity shown first ∷ map (kept_by identity shown) others

-- a receipt that was retired
abbrev pub retired_by : {R : Type 0} → (identity shown : R → List ℕ) → Retired R → Kept
retired_by identity shown retired = kept_by identity shown (retired_value retired)

-- a receipt whose epoch is drained
abbrev pub drained_by : {R : Type 0} → (identity shown : R → List ℕ) → Releasable R → Kept
drained_by identity shown drained = kept_by identity shown (released_value drained)

-- a receipt that was retired, by its place and how often a word that was read blocked its drain
abbrev pub refused_by : {R : Type 0} → (identity : R → List ℕ) → Retired R → Place × ℕ
refused_by identity retired = (identity (retired_value retired), refusals retired)

-- the same of each of these
abbrev pub refused_of : {R : Type 0} → (identity : R → List ℕ) → List (Retired R) → List (Place × ℕ)
refused_of identity retired = map (refused_by identity) retired

-- a log, with what becomes of its places, by the lists of its receipts
abbrev pub counted_in : {R : Type 0} → (identity shown : R → List ℕ) → HybridLog → (in_flight : ℕ) → (unlinked : List R) → (retired : List (Retired R)) → (drained : List (Releasable R)) → (worn : Bool) → Counted
counted_in identity shown log in_flight unlinked retired drained worn = record {
  log = log;
  in_flight = in_flight;
  unlinked = map (kept_by identity shown) unlinked;
  retired = map (retired_by identity shown) retired;
  drained = map (drained_by identity shown) drained;
  refused = refused_of identity retired;
  worn = worn;
}
