-- Stamps of a stripe rise, whatever step is taken.
use Rattle.std.proofs.Common.{◌≡◌, ℕ, ◌<◌, ◌≤◌, Bool, true, false, not, ◌&&◌, List, [], ◌∷◌, ◌++◌, map, Option, Some, None, refl, sym, ap, subst, ◌∙◌, arith, if◌then◌else◌}
use Rattle.std.proofs.lemmas.List.{map-append}
use Rattle.hybrid.specs.HybridLog.{HybridLog}
use Rattle.words.specs.Store.{Bytes}
use Rattle.world_model.specs.Logs.{LogState, Stamped, Flushing, Nothing, Copied, Wrote, with_copy, with_installed, installed_from, is_sealed, dropped}
use Rattle.world_model.specs.States.{ClientState}
use Rattle.world_model.specs.Enabled.{all_past, is_past, may_drain}
use Rattle.world_model.specs.Places.{Each}
use Rattle.world_model.specs.Rooms.{are_held_back}
use Rattle.world_log.specs.Beside.{Beside, Does, DoesCopy, DoesDrain, DoesDrop, DoesInstall, DoesRelease, DoesRetire, DoesWrite, log_state, place_stamped}
use Rattle.world_log.specs.Cleaning.{DoesUnlink}
use Rattle.world_log.specs.Places.{Receipt, Shelves}
use Rattle.world_log.specs.WorldLogs.{AreRising}
use Rattle.world_log.specs.declared.queues.Queues.{Queues}

-- A LATER EPOCH

pub rising_later : (epoch next : ℕ) (retired : List Stamped) → epoch ≤ next → AreRising epoch retired → AreRising next retired
rising_later epoch next [] later rising = tt
rising_later epoch next (one ∷ others) later rising =
    (omega (arith, rising.0, later), rising.1, rising_later epoch next others later rising.2)

-- ONE MORE IS RETIRED

each_last : (low : ℕ) (others : List Stamped) (last : Stamped) → Each (λ (other : Stamped). low < other.epoch) others → low < last.epoch
    → Each (λ (other : Stamped). low < other.epoch) (others ++ last ∷ [])
each_last low [] last each lower = (lower, tt)
each_last low (other ∷ others) last each lower = (each.0, each_last low others last each.1 lower)

rising_last : (epoch next : ℕ) (retired : List Stamped) (last : Stamped) → last.epoch ≡ epoch → epoch < next → AreRising epoch retired
    → AreRising next (retired ++ last ∷ [])
rising_last epoch next [] last at later rising = (omega (arith, at, later), tt, tt)
rising_last epoch next (one ∷ others) last at later rising = (
  omega (arith, rising.0, later),
  each_last one.epoch others last rising.1 (omega (arith, at, rising.0)),
  rising_last epoch next others last at later rising.2,
)

pub retire_rises : (epoch next : ℕ) (old new : HybridLog) (before after : Beside) → epoch < next → DoesRetire true epoch before after
    → AreRising epoch (log_state old before).retired → AreRising next (log_state new after).retired
retire_rises epoch next old new before after later does rising =
    subst (AreRising next)
    (sym (ap (λ (b : Beside). map place_stamped b.retired) does.3 ∙ map-append place_stamped before.retired ((does.0, epoch) ∷ [])))
    (rising_last epoch next (map place_stamped before.retired) (place_stamped (does.0, epoch)) refl later rising)

-- THE OLDEST IS DRAINED

pub drain_rises : (epoch : ℕ) (before after : Queues) → DoesDrain true before after → AreRising epoch (map place_stamped before.retired.items)
    → AreRising epoch (map place_stamped after.retired.items)
drain_rises epoch before after does rising =
    let all : AreRising epoch (place_stamped does.0 ∷ map place_stamped does.1) =
    subst (λ (l : List (Receipt × ℕ)). AreRising epoch (map place_stamped l)) does.2 rising in
    subst (λ (l : List (Receipt × ℕ)). AreRising epoch (map place_stamped l)) (sym does.3) all.2

-- ALL OTHER STEPS LEAVE WHAT IS RETIRED

pub write_stamps : (done : Bool) (before : Queues) (old : Shelves) (after : Queues) (new : Shelves) → DoesWrite done before old after new
    → after.retired.items ≡ before.retired.items
write_stamps true before old after new does = ap (λ (q : Queues). q.retired.items) does.1
write_stamps false before old after new does = ap (λ (q : Queues). q.retired.items) does.1

does_stamps : (done may : Bool) (step : LogState → LogState) (old new : HybridLog) (before after : Beside)
    → ((log : LogState) → (step log).retired ≡ log.retired) → Does done may step old before new after
    → (log_state new after).retired ≡ (log_state old before).retired
does_stamps true may step old new before after same does = ap (λ (l : LogState). l.retired) does.done ∙ same (log_state old before)
does_stamps false may step old new before after same does = ap (λ (b : Beside). map place_stamped b.retired) does.beside

installed_by : (test : Bool) (one other : LogState) (retired : List Stamped) → one.retired ≡ retired → other.retired ≡ retired
    → (if test then one else other).retired ≡ retired
installed_by true one other retired a b = a
installed_by false one other retired a b = b

installed_stamps : (frames : ℕ) (log : LogState) (flushing : Flushing) → (installed_from frames log flushing).retired ≡ log.retired
installed_stamps frames log Nothing = refl
installed_stamps frames log (Copied page) = refl
installed_stamps frames log (Wrote page place) = installed_by (is_sealed frames log page) _ _ log.retired refl refl

pub copy_stamps : (done : Bool) (old new : HybridLog) (before after : Beside) → DoesCopy done old before new after
    → (log_state new after).retired ≡ (log_state old before).retired
copy_stamps done old new before after does =
    does_stamps done _ (with_copy old.resident.frames) old new before after (λ log. refl) does

pub install_stamps : (done : Bool) (old new : HybridLog) (before after : Beside) → DoesInstall done old before new after
    → (log_state new after).retired ≡ (log_state old before).retired
install_stamps done old new before after does =
    does_stamps done _ (with_installed old.resident.frames) old new before after
    (λ log. installed_stamps old.resident.frames log log.flushing) does

pub drop_stamps : (done : Bool) (old new : HybridLog) (before after : Beside) → DoesDrop done old before new after
    → (log_state new after).retired ≡ (log_state old before).retired
drop_stamps done old new before after does = does_stamps done _ dropped old new before after (λ log. refl) does

pub unlink_stamps : (done : Bool) (old new : HybridLog) (before after : Beside) (device later : Shelves) → DoesUnlink done old before device new after later
    → (log_state new after).retired ≡ (log_state old before).retired
unlink_stamps true old new before after device later does = ap (λ (l : LogState). l.retired) (does.2).done
unlink_stamps false old new before after device later does = ap (λ (b : Beside). map place_stamped b.retired) does.2

pub release_stamps : (done : Bool) (page : Bytes) (old new : HybridLog) (before after : Beside) (device later : Shelves)
    → DoesRelease done page old before device new after later → (log_state new after).retired ≡ (log_state old before).retired
release_stamps true page old new before after device later does = ap (λ (b : Beside). map place_stamped b.retired) does.3
release_stamps false page old new before after device later does = ap (λ (b : Beside). map place_stamped b.retired) does.1

-- WHERE THE OLDEST IS HELD BACK, EACH IS

past_down : (e f : ℕ) (stay : Option ℕ) → e < f → is_past f stay ≡ true → is_past e stay ≡ true
past_down e f None lower is = refl
past_down e f (Some x) lower is = grind (arith, lower, is)

both_true : (a b : Bool) → (a && b) ≡ true → (a ≡ true) × (b ≡ true)
both_true true b is = (refl, is)
both_true false b is = cc is

all_down : (clients : List ClientState) (e f : ℕ) → e < f → all_past clients f ≡ true → all_past clients e ≡ true
all_down [] e f lower is = refl
all_down (one ∷ clients) e f lower is =
    let parts = both_true (is_past f one.stay) (all_past clients f) is in
    λ j. past_down e f one.stay lower parts.0 j && all_down clients e f lower parts.1 j

held_up : (clients : List ClientState) (e f : ℕ) → e < f → all_past clients e ≡ false → (t : Bool) → all_past clients f ≡ t → not t ≡ true
held_up clients e f lower held false is = refl
held_up clients e f lower held true is = absurd (never (sym held ∙ all_down clients e f lower is))
  where
    never : false ≡ true → ⊥
    never is = cc is

held_each : (clients : List ClientState) (e : ℕ) (others : List Stamped) → all_past clients e ≡ false
    → Each (λ (other : Stamped). e < other.epoch) others → are_held_back clients others ≡ true
held_each clients e [] held each = refl
held_each clients e (other ∷ others) held each =
    λ j. held_up clients e other.epoch each.0 held (all_past clients other.epoch) refl j && held_each clients e others held each.1 j

pub held_all : (clients : List ClientState) (epoch : ℕ) (retired : List Stamped) → AreRising epoch retired → may_drain clients retired ≡ false
    → are_held_back clients retired ≡ true
held_all clients epoch [] rising held = refl
held_all clients epoch (one ∷ others) rising held =
    λ j. not (held j) && held_each clients one.epoch others held rising.1 j
