-- Rows of plain logs, each computed: a stripe of 12 frames with ten pages, of which the first six are sealed, and the life of page 0's place.
use Rattle.std.proofs.Common.{◌≡◌, true, false, [], ◌∷◌, Some, None, refl}
use Rattle.world_model.specs.Logs.{LogState, Copied, Wrote, new_log, next_page, place_at, first_mutable, is_sealed, oldest_sealed}
use Rattle.world_model.specs.Logs.{unreleased, is_full, dropped, with_opened, with_receipt, without_oldest, with_copy, with_written}
use Rattle.world_model.specs.Logs.{with_installed, with_retired, with_drained, with_released}
use Rattle.world_model.specs.States.{fresh}
use Rattle.world_model.specs.Enabled.{may_drain}
use Rattle.world_model.specs.Rooms.{is_spent}

-- ten pages
abbrev ten : LogState
ten = with_opened new_log 9

ten_pages : next_page ten ≡ 10
ten_pages = refl

six_are_sealed : first_mutable 12 ten ≡ 6
six_are_sealed = refl

page_0_is_first : oldest_sealed 12 ten ≡ Some 0
page_0_is_first = refl

page_5_is_sealed : is_sealed 12 ten 5 ≡ true
page_5_is_sealed = refl

page_6_is_mutable : is_sealed 12 ten 6 ≡ false
page_6_is_mutable = refl

-- a stripe of four pages has none that is sealed
four_are_mutable : oldest_sealed 12 (with_opened new_log 3) ≡ None
four_are_mutable = refl

-- THE FLUSHER AND THE EVICTOR

copied_is : with_copy 12 ten ≡ record ten { flushing = Copied 0 }
copied_is = refl

counted_at_copy : unreleased (with_copy 12 ten) ≡ 1
counted_at_copy = refl

written_is : with_written (with_copy 12 ten) 0 ≡ record ten { flushing = Wrote 0 0 }
written_is = refl

counted_once : unreleased (with_written (with_copy 12 ten) 0) ≡ 1
counted_once = refl

abbrev flushed : LogState
flushed = with_installed 12 (with_written (with_copy 12 ten) 0)

kept_is : flushed ≡ with_receipt ten 0 0
kept_is = refl

page_1_is_next : oldest_sealed 12 flushed ≡ Some 1
page_1_is_next = refl

abbrev cold : LogState
cold = dropped flushed

cold_place : place_at cold 0 ≡ Some 0
cold_place = refl

-- where a call flushed page 0 itself before the flusher came back, the flusher's place is unlinked at once
late_is : with_installed 12 (record (with_receipt ten 0 7) { flushing = Wrote 0 8 }) ≡ record (with_receipt ten 0 7) { unlinked = 8 ∷ [] }
late_is = refl

-- and so it is where the page has left its frame
gone_is : with_installed 12 (record (dropped (with_receipt ten 0 7)) { flushing = Wrote 0 8 })
    ≡ record (dropped (with_receipt ten 0 7)) { unlinked = 8 ∷ [] }
gone_is = refl

-- THE CLEANER, AT EPOCH 1: the live records of page 0 want a page more

abbrev unlinked : LogState
unlinked = without_oldest (with_opened cold 1) 0

unlinked_is : (unlinked.oldest ≡ 1) × (unlinked.first ≡ 1) × (next_page unlinked ≡ 11) × (unlinked.unlinked ≡ 0 ∷ []) × (unreleased unlinked ≡ 1)
unlinked_is = (refl, refl, refl, refl, refl)

abbrev retired : LogState
retired = with_retired unlinked 1

retired_is : retired ≡ record unlinked { unlinked = []; retired = record { place = 0; epoch = 1 } ∷ [] }
retired_is = refl

-- a stay at the stamp's epoch holds the place back, and one past it does not
stay_at : may_drain (record fresh { stay = Some 1 } ∷ []) retired.retired ≡ false
stay_at = refl

stay_past : may_drain (record fresh { stay = Some 2 } ∷ fresh ∷ []) retired.retired ≡ true
stay_past = refl

drained_is : with_drained retired ≡ record unlinked { unlinked = []; drained = record { place = 0; epoch = 1 } ∷ [] }
drained_is = refl

released_is : with_released (with_drained retired) ≡ record unlinked { unlinked = [] }
released_is = refl

all_released : unreleased (with_released (with_drained retired)) ≡ 0
all_released = refl

-- WHERE A LOG IS FULL: at its limit, and where its tail page is the last

full_at_limit : is_full 1 flushed ≡ true
full_at_limit = refl

not_full : is_full 2 flushed ≡ false
not_full = refl

full_at_last : is_full 64 (record ten { oldest = 70368744177655 }) ≡ true
full_at_last = refl

not_full_before_last : is_full 64 (record ten { oldest = 70368744177654 }) ≡ false
not_full_before_last = refl

-- WHERE NOTHING THAT WAITS CAN COME NEARER TO ITS RELEASE

nothing_waits : is_spent [] new_log ≡ true
nothing_waits = refl

-- two places are retired
abbrev two_retired : LogState
two_retired = record new_log { retired = record { place = 0; epoch = 1 } ∷ record { place = 1; epoch = 2 } ∷ [] }

each_is_held_back : is_spent (fresh ∷ record fresh { stay = Some 1 } ∷ []) two_retired ≡ true
each_is_held_back = refl

the_oldest_is_not : is_spent (fresh ∷ record fresh { stay = Some 2 } ∷ []) two_retired ≡ false
the_oldest_is_not = refl

none_is_without_a_stay : is_spent (fresh ∷ fresh ∷ []) two_retired ≡ false
none_is_without_a_stay = refl

-- of each one it is asked, and not of the oldest alone
a_younger_one_is_not : is_spent (record fresh { stay = Some 2 } ∷ [])
    (record new_log { retired = record { place = 0; epoch = 2 } ∷ record { place = 1; epoch = 1 } ∷ [] }) ≡ false
a_younger_one_is_not = refl

one_is_unlinked : is_spent (record fresh { stay = Some 1 } ∷ []) (record two_retired { unlinked = 2 ∷ [] }) ≡ false
one_is_unlinked = refl

one_is_drained : is_spent (record fresh { stay = Some 1 } ∷ []) (record two_retired { drained = record { place = 2; epoch = 1 } ∷ [] }) ≡ false
one_is_drained = refl
