-- Rows of events of stripes, each computed: a world of one stripe of 12 frames and 64 places, whose log has ten pages, and two clients.
use Rattle.std.proofs.Common.{◌≡◌, true, false, [], ◌∷◌, Some, None, replicate, refl, lit<, lit≤}
use Rattle.world_model.specs.declared.event.Event.TheVariants.{Fetch, Copy, Write, Install, Drop, Unlink, Retire, Drain, Release}
use Rattle.world_model.specs.Logs.{new_log, with_opened, without_oldest, with_copy, with_written, with_installed, dropped}
use Rattle.world_model.specs.States.{State, start, fresh, log_of, with_log, with_log_and_place}
use Rattle.world_model.specs.Enabled.{is_enabled}
use Rattle.world_model.specs.Releasing.{after_retire, after_drain}
use Rattle.world_model.specs.Effects.{Cleans}
use Rattle.world_model.specs.Turns.{Turns}

abbrev ten : State
ten = record (start 1 2 12 64) { logs = with_opened new_log 9 ∷ [] }

-- WHICH ARE ENABLED

copy_where_a_page_is_sealed : is_enabled ten (Copy 0) ≡ true
copy_where_a_page_is_sealed = refl

no_copy_of_a_stripe_that_is_not_there : is_enabled ten (Copy 1) ≡ false
no_copy_of_a_stripe_that_is_not_there = refl

no_copy_where_a_client_holds : is_enabled (record ten { holders = Some 1 ∷ [] }) (Copy 0) ≡ false
no_copy_where_a_client_holds = refl

no_copy_at_the_limit : is_enabled (record ten { limit = 0 }) (Copy 0) ≡ false
no_copy_at_the_limit = refl

no_write_without_a_copy : is_enabled ten (Write 0) ≡ false
no_write_without_a_copy = refl

no_install_without_a_receipt : is_enabled ten (Install 0) ≡ false
no_install_without_a_receipt = refl

no_drop_without_a_receipt : is_enabled ten (Drop 0) ≡ false
no_drop_without_a_receipt = refl

no_unlink_of_a_resident_page : is_enabled ten (Unlink 0) ≡ false
no_unlink_of_a_resident_page = refl

nothing_to_retire : is_enabled ten (Retire 0) ≡ false
nothing_to_retire = refl

nothing_to_drain : is_enabled ten (Drain 0) ≡ false
nothing_to_drain = refl

nothing_to_release : is_enabled ten (Release 0 []) ≡ false
nothing_to_release = refl

nothing_to_fetch : is_enabled ten (Fetch 1) ≡ false
nothing_to_fetch = refl

-- THE LIFE OF A PLACE

abbrev copied : State
copied = with_log ten 0 (with_copy 12 (log_of ten 0))

no_second_copy : is_enabled copied (Copy 0) ≡ false
no_second_copy = refl

-- the flusher writes whoever holds the stripe
write_where_a_client_holds : is_enabled (record copied { holders = Some 1 ∷ [] }) (Write 0) ≡ true
write_where_a_client_holds = refl

abbrev written : State
written = with_log_and_place copied 0 (with_written (log_of copied 0) 0)

abbrev kept : State
kept = with_log written 0 (with_installed 12 (log_of written 0))

abbrev cold : State
cold = with_log kept 0 (dropped (log_of kept 0))

abbrev unlinked : State
unlinked = with_log cold 0 (without_oldest (with_opened (log_of cold 0) 1) 0)

abbrev retired : State
retired = after_retire unlinked 0

abbrev drained : State
drained = after_drain retired 0

-- a client whose stay began before the place was retired holds it back
held_back : is_enabled (record retired { clients = fresh ∷ record fresh { stay = Some 1 } ∷ [] }) (Drain 0) ≡ false
held_back = refl

-- and one whose stay began later does not
not_held_back : is_enabled (record retired { clients = fresh ∷ record fresh { stay = Some 2 } ∷ [] }) (Drain 0) ≡ true
not_held_back = refl

-- after its release page 1 is the oldest, no place is taken, and a read of place 0 gives the page that is named
abbrev released : State
released = record ten {
  logs = record new_log { oldest = 1; first = 1; kept = replicate 10 None } ∷ [];
  places = Some (7 ∷ []) ∷ [];
  epoch = 2;
}

life_of_a_place : Turns ten
    (Copy 0 ∷ Write 0 ∷ Install 0 ∷ Drop 0 ∷ Unlink 0 ∷ Retire 0 ∷ Drain 0 ∷ Release 0 (7 ∷ []) ∷ []) released
life_of_a_place = (
  copied,
  refl,
  (
    written,
    refl,
    (
      kept,
      refl,
      (
        cold,
        refl,
        (unlinked, Cleans 0 cold 0 1 refl (lit< tt) refl (lit≤ tt), (retired, refl, (drained, refl, (released, refl, refl)))),
      ),
    ),
  ),
)
