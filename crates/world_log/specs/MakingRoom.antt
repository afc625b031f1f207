-- Pages of one stripe leave their frames to make room: by numbers alone, the log and the places before and after.
use Rattle.std.specs.Prelude.{ℕ, zero, suc, ◌≡◌, true, false, List, [], ◌∷◌, ◌++◌, length, Option, Some, None, nat_lt}
use Rattle.words.specs.Store.{Bytes}
use Rattle.hybrid.specs.HybridLog.{HybridLog}
use Rattle.world_model.specs.Logs.{LogState, unreleased, place_at, first_mutable, is_full, dropped, with_receipt}
use Rattle.world_log.specs.Places.{Shelves, places_of}
use Rattle.world_log.specs.Beside.{Beside, log_state}

module _ (frames limit : ℕ) where
  -- the oldest resident page leaves its frame; where no receipt of it is kept, it is written to the next place first, which may be taken
  abbrev pub LeavesBy : LogState → List (Option Bytes) → Option ℕ → LogState → List (Option Bytes) → Type 0
  LeavesBy log places (Some place) later more = (later ≡ dropped log) × (more ≡ places)
  LeavesBy log places None later more =
      (is_full limit log ≡ false) × (later ≡ dropped (with_receipt log log.first (length places))) × (more ≡ places ++ None ∷ [])

  pub record ShedsOne (log : LogState) (places : List (Option Bytes)) (later : LogState) (more : List (Option Bytes)) : Type 0 where
    pub read_only : nat_lt log.first (first_mutable frames log) ≡ true
    pub leaves : LeavesBy log places (place_at log log.first) later more

  abbrev pub ShedsMany : ℕ → LogState → List (Option Bytes) → LogState → List (Option Bytes) → Type 0
  ShedsMany zero log places later more = (later ≡ log) × (more ≡ places)
  ShedsMany (suc n) log places later more =
      (mid : LogState) × (between : List (Option Bytes)) × ShedsMany n log places mid between × ShedsOne mid between later more

-- room was made in a stripe
pub record HasMadeRoom (old : HybridLog) (device : Shelves) (new : HybridLog) (after : Shelves) (beside : Beside) : Type 0 where
  pub count : ℕ
  pub sheds : ShedsMany old.resident.frames old.places count (log_state old beside) (places_of device) (log_state new beside) (places_of after)
  pub counted : new.unreleased ≡ unreleased (log_state new beside)
