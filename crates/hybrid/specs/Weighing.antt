-- What lives in the oldest page, and what that weighs: the room that the cleaner wants for it.
use Rattle.std.specs.Prelude.{ℕ, ◌+◌, ◌*◌, ◌&&◌, Bool, false, cond, nat_eq, List, [], ◌∷◌, Option, None, Some}
use Rattle.std.specs.Option.{is_some}
use Rattle.records.specs.declared.pages.TheConstants.{PAGE_SIZE}
use Rattle.records.specs.Records.{Stored, records_of}
use Rattle.hybrid.specs.declared.stripe.clean.Weighed.{Weighed}
use Rattle.hybrid.specs.declared.stripe.clean.Weighed.TheVariants as answer
use Rattle.hybrid.specs.Log.{Log, newest}
use Rattle.hybrid.specs.HybridLog.{HybridLog, log_of, receipt_of, shown_page}
use Rattle.hybrid.specs.Writing.{write_weight}

-- the page that the receipt of the oldest page shows
abbrev pub oldest_page : HybridLog → List ℕ
oldest_page p = shown_page (receipt_of p p.oldest)

abbrev pub stands_at : ℕ → Option (ℕ × Stored) → Bool
stands_at address None = false
stands_at address (Some e) = nat_eq e.0 address

-- whether the record at this address lives: it has a value, and is the newest of its key
abbrev pub lives : Log → ℕ → Stored → Bool
lives log address r = is_some r.value && stands_at address (newest log r.key)

-- what the live ones of these records of the page with this number weigh
abbrev pub live_weight : Log → ℕ → List (ℕ × Stored) → ℕ
live_weight log number [] = 0
live_weight log number (e ∷ es) = cond (lives log (number * PAGE_SIZE + e.0) e.1) (write_weight e.1.key e.1.value) 0 + live_weight log number es

-- what lives in the oldest page weighs
abbrev pub oldest_weight : HybridLog → ℕ
oldest_weight p = live_weight (log_of p) p.oldest (records_of (oldest_page p))

abbrev pub MatchWeighed : Weighed → (ℕ → Type 0) → (ℕ → Type 0) → Type 0 → Type 0
MatchWeighed (answer.Live weight) P Q S = P weight
MatchWeighed (answer.Cold number) P Q S = Q number
MatchWeighed answer.Resident P Q S = S
