-- When the cleaner works at a stripe: its laps over the places that are used, and its patience with a full stripe.
use Rattle.std.specs.Prelude.{ℕ, ◌≡◌, ◌+◌, ◌-◌, ◌*◌, ◌/◌, ◌^◌, ◌==◌, ◌&&◌, ◌||◌, not, nat_lt, nat_le, min, Bool, true, false, if◌then◌else◌}
use Rattle.upkeep.specs.declared.laps.Laps.{Laps}
use Rattle.upkeep.specs.declared.laps.Seen.{Seen}
use Rattle.upkeep.specs.declared.laps.Choice.{Choice}
use Rattle.upkeep.specs.declared.laps.Choice.TheVariants.{Next, Short, Grown, Tried, Wait}

-- a lap that began with so many places used and ends with so many gave back more than a thirty-second of them: it was not in vain
abbrev pub is_gain : (began used : ℕ) → Bool
is_gain began used = nat_lt (began / 32) (began - used)

-- the places that were used when the last lap ended in vain, which ends now if it has not; 0 where it was not in vain
abbrev pub vain_by : Laps → (used : ℕ) → ℕ
vain_by laps used = if laps.began == 0 then laps.vain else (if is_gain laps.began used then 0 else used)

-- After how many looks a full stripe is tried again: 10 once a lap was not in vain, or a short one has left a deletion its page; else as before.
abbrev pub patience_by : Laps → Seen → ℕ
patience_by laps seen =
    if laps.began == 0 then laps.patience
    else (if is_gain laps.began seen.used || (laps.short && seen.opened) then 10 else laps.patience)

-- The table of choices after a look: the first line that fits.
--   the last lap was not in vain, or there was none                                        a whole lap
--   a deletion has opened its page since the last look                                     a short lap
--   more places are used than at the end in vain, by more than a thirty-second of all      a whole lap
--   the stripe is full, and this look is the last one of its patience                      a whole lap
--   else                                                                                   none
abbrev pub choice_by : Laps → Seen → Choice
choice_by laps seen =
    if vain_by laps seen.used == 0 then Next
    else (if seen.opened && not laps.opened then Short
    else (if nat_lt (vain_by laps seen.used + seen.places / 32) seen.used then Grown
    else (if nat_le seen.places seen.used && nat_le (patience_by laps seen) (laps.looks + 1) then Tried
    else Wait)))

-- whether a lap begins that has a step
abbrev pub begins_by : Choice → (used : ℕ) → Bool
begins_by Next used = nat_lt 0 used
begins_by Short used = nat_lt 0 used
begins_by Grown used = nat_lt 0 used
begins_by Tried used = nat_lt 0 used
begins_by Wait used = false

-- How many steps such a lap has: four for each place that is used, which it is brought by to its release; a short one has at most 64.
abbrev pub steps_by : Choice → (used : ℕ) → ℕ
steps_by Next used = min (4 * used) (2 ^ 64 - 1)
steps_by Short used = min (4 * used) 64
steps_by Grown used = min (4 * used) (2 ^ 64 - 1)
steps_by Tried used = min (4 * used) (2 ^ 64 - 1)
steps_by Wait used = 0

-- whether it is a short one
abbrev pub is_short_lap : Choice → Bool
is_short_lap Next = false
is_short_lap Short = true
is_short_lap Grown = false
is_short_lap Tried = false
is_short_lap Wait = false

-- the patience that a lap leaves: one that was tried for want of anything better doubles it, up to 1,000 looks
abbrev pub patience_next : Choice → ℕ → ℕ
patience_next Next patience = patience
patience_next Short patience = patience
patience_next Grown patience = patience
patience_next Tried patience = min (patience * 2) 1000
patience_next Wait patience = patience

-- a lap has begun so, and its first step was taken
pub record HasBegun (was : Laps) (seen : Seen) (choice : Choice) (now : Laps) : Type 0 where
  pub left : now.left ≡ steps_by choice seen.used - 1
  pub began : now.began ≡ seen.used
  pub vain : now.vain ≡ 0
  pub looks : now.looks ≡ 0
  pub patience : now.patience ≡ patience_next choice (patience_by was seen)
  pub opened : now.opened ≡ seen.opened
  pub short : now.short ≡ is_short_lap choice
  pub behind : now.behind ≡ was.behind

-- none has, and the cleaner has looked once more
pub record HasWaited (was : Laps) (seen : Seen) (now : Laps) : Type 0 where
  pub left : now.left ≡ 0
  pub began : now.began ≡ 0
  pub vain : now.vain ≡ vain_by was seen.used
  pub looks : now.looks ≡ min (was.looks + 1) 1000
  pub patience : now.patience ≡ patience_by was seen
  pub opened : now.opened ≡ seen.opened
  pub short : now.short ≡ was.short
  pub behind : now.behind ≡ was.behind

-- what a choice makes of the laps
abbrev pub IsAfter : (was : Laps) → Seen → Choice → (now : Laps) → Type 0
IsAfter was seen Next now = HasBegun was seen Next now
IsAfter was seen Short now = HasBegun was seen Short now
IsAfter was seen Grown now = HasBegun was seen Grown now
IsAfter was seen Tried now = HasBegun was seen Tried now
IsAfter was seen Wait now = HasWaited was seen now

-- but for the steps that are left, and whether the cleaner is behind, all is as it was
pub record SameLap (was now : Laps) : Type 0 where
  pub began : now.began ≡ was.began
  pub vain : now.vain ≡ was.vain
  pub looks : now.looks ≡ was.looks
  pub patience : now.patience ≡ was.patience
  pub opened : now.opened ≡ was.opened
  pub short : now.short ≡ was.short

-- the cleaner is behind where a lap has steps left, and fewer than an eighth of the places are left, or just so many
abbrev pub is_behind_by : (left used places : ℕ) → Bool
is_behind_by left used places = nat_lt 0 left && nat_le (places - places / 8) used

-- no lap has begun
pub record IsNewLaps (laps : Laps) : Type 0 where
  pub left : laps.left ≡ 0
  pub began : laps.began ≡ 0
  pub vain : laps.vain ≡ 0
  pub looks : laps.looks ≡ 0
  pub patience : laps.patience ≡ 10
  pub opened : laps.opened ≡ false
  pub short : laps.short ≡ false
  pub behind : laps.behind ≡ false
