-- What becomes of places, stays and epochs by each event.
use Rattle.std.proofs.Common.{◌≡◌, ◌⊎◌, ℕ, zero, suc, ◌+◌, ◌-◌, ◌<◌, ◌≤◌, Bool, true, false, not, List, [], ◌∷◌, ◌++◌, length, get_or, set, is_none, nat_lt, nat_le, Option, None, Some, sym, refl, ap, subst, ◌∙◌, arith, inl, inr, ⊎_elim, if◌then◌else◌}
use Rattle.std.proofs.lemmas.List.{get_or-set_same, get_or-set_other}
use mathlib.Core.Logic.{dite}
use native.Mathlib.Decide.{ℕ_discrete}
use Rattle.words.specs.Store.{Bytes}
use Rattle.epoch.specs.Clear.{Clear}
use Rattle.world_model.specs.Logs.{Stamped, LogState, Flushing, Nothing, Copied, Wrote, new_log, first_mutable, is_sealed, oldest_sealed, copied_page, places_of, places_kept, place_written, places_stamped, place_at, with_receipt, dropped, with_opened, without_oldest, with_copy, with_written, written_to, with_installed, installed_from, with_retired, retired_from, with_drained, drained_from, with_released, released_from}
use Rattle.world_model.specs.States.{Due, ClientState, fresh, log_at}
use Rattle.world_model.specs.Enabled.{are_none, all_past, is_past, may_drain, has_none, has_copied, has_written}
use Rattle.world_model.specs.Releasing.{places_released}
use Rattle.world_model.specs.Places.{Each, hit, times, standing, IsAt, stamped_from, readable, IsReadable, ArePlaced}
use Rattle.world_model.proofs.Holding.{both}
use Rattle.world_model.proofs.Counting.{times_append, count, total_set, part_le, all_same, kept_set, kept_opened, kept_cleaned, place_some, place_none, stamped_more, from_more, from_head, count_readable, standing_le, standing_grown, standing_set}

-- EACH OF A LIST

pub each_map : {A : Type 0} (P Q : A → Type 0) (xs : List A) → ((x : A) → P x → Q x) → Each P xs → Each Q xs
each_map P Q [] goes each = tt
each_map P Q (x ∷ xs) goes each = (goes x each.0, each_map P Q xs goes each.1)

pub each_append : {A : Type 0} (P : A → Type 0) (xs ys : List A) → Each P xs → Each P ys → Each P (xs ++ ys)
each_append P [] ys each more = more
each_append P (x ∷ xs) ys each more = (each.0, each_append P xs ys each.1 more)

-- P of each log, where one is set
pub each_log : (P : LogState → Type 0) (logs : List LogState) (i : ℕ) (new : LogState) → i < length logs → P new
    → ((j : ℕ) → P (log_at logs j)) → (j : ℕ) → P (log_at (set logs i new) j)
each_log P logs i new below one others j = dite (ℕ_discrete j i)
    (λ same. rw (same, get_or-set_same logs i new new_log below) one)
    (λ other. rw (get_or-set_other logs i j new new_log other) (others j))

-- ONE LOG CHANGES

is_at : (stay : ℕ → Option ℕ) (c x : ℕ) → stay c ≡ Some x → IsAt stay x
is_at stay c x is = (c, is)

readable_still : (stay : ℕ → Option ℕ) (c : ℕ) (o : Option ℕ) (old new : LogState) (p : ℕ) → stay c ≡ o
    → ((x : ℕ) → IsAt stay x → times p (readable x old) ≤ times p (readable x new)) → IsReadable o old p → IsReadable o new p
readable_still stay c None old new p is grows one = one
readable_still stay c (Some x) old new p is grows one = omega (arith, one, grows x (is_at stay c x is))

-- A log changes, and places with it: what stands stands for one thing alone still, stamps are below the epoch, drained ones are clear, and
-- what a client may read, it may read still.
pub placed_step : (logs : List LogState) (i : ℕ) (new : LogState) (places later : List (Option Bytes)) (epoch now : ℕ)
    (stay : ℕ → Option ℕ) (due : ℕ → List Due)
    → i < length logs → ArePlaced logs places epoch stay due → epoch ≤ now
    → new.oldest ≤ new.first
    → ((p : ℕ) → times p (places_of new) + standing places p ≡ times p (places_of (log_at logs i)) + standing later p)
    → Each (λ (one : Stamped). one.epoch < now) new.retired
    → Each (λ (one : Stamped). Clear now one.epoch (IsAt stay)) new.drained
    → ((x p : ℕ) → IsAt stay x → times p (readable x (log_at logs i)) ≤ times p (readable x new))
    → ArePlaced (set logs i new) later now stay due
placed_step logs i new places later epoch now stay due below placed le live same past clear grows = record {
  live = each_log (λ log. log.oldest ≤ log.first) logs i new below live placed.live;
  once = λ p. omega (arith, total_set p logs i new below, placed.once p, same p);
  past = each_log (λ log. Each (λ (one : Stamped). one.epoch < now) log.retired) logs i new below past
      (λ j. each_map (λ (one : Stamped). one.epoch < epoch) (λ (one : Stamped). one.epoch < now) (log_at logs j).retired
      (λ one lt. omega (arith, lt, le)) (placed.past j));
  clear = each_log (λ log. Each (λ (one : Stamped). Clear now one.epoch (IsAt stay)) log.drained) logs i new below clear
      (λ j. each_map (λ (one : Stamped). Clear epoch one.epoch (IsAt stay)) (λ (one : Stamped). Clear now one.epoch (IsAt stay)) (log_at logs j).drained
      (λ one is. (omega (arith, is.0, le), is.1)) (placed.clear j));
  come = λ x at. omega (arith, placed.come x at, le);
  reads = λ c. each_map (λ (one : Due). IsReadable (stay c) (log_at logs one.stripe) one.place)
      (λ (one : Due). IsReadable (stay c) (log_at (set logs i new) one.stripe) one.place) (due c)
      (λ one is. dite (ℕ_discrete one.stripe i)
      (λ same_stripe.
      rw (same_stripe, get_or-set_same logs i new new_log below)
      (readable_still stay c (stay c) (log_at logs i) new one.place refl (λ x at. grows x one.place at) (rw same_stripe at is)))
      (λ other. rw (get_or-set_other logs i one.stripe new new_log other) is)) (placed.reads c);
}

-- the same where retired and drained places, the places and the epoch stay as they are
pub placed_kept : (logs : List LogState) (i : ℕ) (new : LogState) (places later : List (Option Bytes)) (epoch : ℕ)
    (stay : ℕ → Option ℕ) (due : ℕ → List Due)
    → i < length logs → ArePlaced logs places epoch stay due
    → new.oldest ≤ new.first
    → ((p : ℕ) → times p (places_of new) + standing places p ≡ times p (places_of (log_at logs i)) + standing later p)
    → new.retired ≡ (log_at logs i).retired → new.drained ≡ (log_at logs i).drained
    → ((x p : ℕ) → IsAt stay x → times p (readable x (log_at logs i)) ≤ times p (readable x new))
    → ArePlaced (set logs i new) later epoch stay due
placed_kept logs i new places later epoch stay due below placed live same retired drained grows =
    placed_step logs i new places later epoch epoch stay due below placed (omega arith) live same
    (rw retired (placed.past i)) (rw drained (placed.clear i)) grows

-- THE FLUSHER

none_written : (flushing : Flushing) (p : ℕ) → has_none flushing ≡ true → times p (place_written flushing) ≡ 0
none_written Nothing p is = refl
none_written (Copied page) p is = cc is
none_written (Wrote page place) p is = cc is

none_copied : (o : Option ℕ) (p : ℕ) → times p (place_written (copied_page o)) ≡ 0
none_copied None p = refl
none_copied (Some page) p = refl

pub placed_copy : (frames : ℕ) (logs : List LogState) (i : ℕ) (places : List (Option Bytes)) (epoch : ℕ)
    (stay : ℕ → Option ℕ) (due : ℕ → List Due) → i < length logs → has_none (log_at logs i).flushing ≡ true
    → ArePlaced logs places epoch stay due → ArePlaced (set logs i (with_copy frames (log_at logs i))) places epoch stay due
placed_copy frames logs i places epoch stay due below none placed =
    let old : LogState = log_at logs i in
    let new : LogState = with_copy frames old in
    placed_kept logs i new places places epoch stay due below placed (placed.live i)
    (λ p. omega (arith, count p old, count p new, none_written old.flushing p none, none_copied (oldest_sealed frames old) p))
    refl refl (λ x p at. omega arith)

written_more : (flushing : Flushing) (place p : ℕ) → has_copied flushing ≡ true
    → times p (place_written (written_to flushing place)) ≡ times p (place_written flushing) + hit place p
written_more Nothing place p is = cc is
written_more (Copied page) place p is = omega arith
written_more (Wrote page old) place p is = cc is

pub placed_write : (logs : List LogState) (i : ℕ) (places : List (Option Bytes)) (epoch : ℕ)
    (stay : ℕ → Option ℕ) (due : ℕ → List Due) → i < length logs → has_copied (log_at logs i).flushing ≡ true
    → ArePlaced logs places epoch stay due
    → ArePlaced (set logs i (with_written (log_at logs i) (length places))) (places ++ None ∷ []) epoch stay due
placed_write logs i places epoch stay due below is placed =
    let old : LogState = log_at logs i in
    let new : LogState = with_written old (length places) in
    placed_kept logs i new places (places ++ None ∷ []) epoch stay due below placed (placed.live i)
    (λ p. omega (arith, count p old, count p new, written_more old.flushing (length places) p is, standing_grown places p))
    refl refl (λ x p at. omega arith)

-- where a page waits, its receipt can be kept
record IsWaiting (log : LogState) (page : ℕ) : Type 0 where
  from : log.oldest ≤ page
  below : page - log.oldest < length log.kept
  none : get_or log.kept (page - log.oldest) None ≡ None

is_le : (a b : ℕ) → nat_le a b ≡ true → a ≤ b
is_le a b is = grind arith

is_lt : (a b : ℕ) → nat_lt a b ≡ true → a < b
is_lt a b is = grind arith

none_of : (o : Option ℕ) → is_none o ≡ true → o ≡ None
none_of None is = refl
none_of (Some a) is = cc is

waits : (frames : ℕ) (log : LogState) (page : ℕ) → log.oldest ≤ log.first → log.first ≤ page → page < first_mutable frames log
    → place_at log page ≡ None → IsWaiting log page
waits frames log page live from below none =
    let later : log.oldest ≤ page = omega (arith, live, from) in
    record {
      from = later;
      below = omega (arith, live, from, below);
      none = place_none log page later none;
    }

sealed_waits : (frames : ℕ) (log : LogState) (page : ℕ) → log.oldest ≤ log.first → is_sealed frames log page ≡ true → IsWaiting log page
sealed_waits frames log page live is =
    let first = both _ _ is in
    let second = both _ _ first.1 in
    waits frames log page live (is_le _ _ first.0) (is_lt _ _ second.0) (none_of _ second.1)

-- a receipt is kept, or its place is unlinked
installed_counts : (frames : ℕ) (log : LogState) (page place p : ℕ) (t : Bool) → is_sealed frames log page ≡ t → log.oldest ≤ log.first
    → (let new : LogState = if t then record (with_receipt log page place) { flushing = Nothing }
    else record log { flushing = Nothing; unlinked = log.unlinked ++ place ∷ [] } in
    (times p (places_of new) ≡ times p (places_kept log.kept) + (times p log.unlinked + (times p (places_stamped log.retired)
    + (times p (places_stamped log.drained) + hit place p))))
    × ((x : ℕ) → times p (readable x log) ≤ times p (readable x new)) × (new.oldest ≤ new.first)
    × (new.retired ≡ log.retired) × (new.drained ≡ log.drained))
installed_counts frames log page place p true is live =
    let waits : IsWaiting log page = sealed_waits frames log page live is in
    let new : LogState = record (with_receipt log page place) { flushing = Nothing } in (
      omega (arith, count p new, kept_set p log.kept (page - log.oldest) place waits.below waits.none),
      λ x. omega (arith, count_readable p x log, count_readable p x new, kept_set p log.kept (page - log.oldest) place waits.below waits.none),
      live,
      refl,
      refl,
    )
installed_counts frames log page place p false is live =
    let new : LogState = record log { flushing = Nothing; unlinked = log.unlinked ++ place ∷ [] } in (
      omega (arith, count p new, times_append p log.unlinked (place ∷ [])),
      λ x. omega (arith, count_readable p x log, count_readable p x new, times_append p log.unlinked (place ∷ [])),
      live,
      refl,
      refl,
    )

placed_from : (frames : ℕ) (logs : List LogState) (i : ℕ) (places : List (Option Bytes)) (epoch : ℕ)
    (stay : ℕ → Option ℕ) (due : ℕ → List Due) (flushing : Flushing) → i < length logs → (log_at logs i).flushing ≡ flushing
    → has_written flushing ≡ true
    → ArePlaced logs places epoch stay due → ArePlaced (set logs i (installed_from frames (log_at logs i) flushing)) places epoch stay due
placed_from frames logs i places epoch stay due Nothing below stands is placed = absurd (cc is)
placed_from frames logs i places epoch stay due (Copied page) below stands is placed = absurd (cc is)
placed_from frames logs i places epoch stay due (Wrote page place) below stands is placed =
    let old : LogState = log_at logs i in
    let new : LogState = installed_from frames old (Wrote page place) in
    let counts = λ (p : ℕ). installed_counts frames old page place p (is_sealed frames old page) refl (placed.live i) in
    placed_kept logs i new places places epoch stay due below placed (counts 0).2
    (λ p. omega (arith, (counts p).0, count p old, ap (λ (f : Flushing). times p (place_written f)) stands))
    (counts 0).3 (counts 0).4 (λ x p at. (counts p).1 x)

pub placed_install : (frames : ℕ) (logs : List LogState) (i : ℕ) (places : List (Option Bytes)) (epoch : ℕ)
    (stay : ℕ → Option ℕ) (due : ℕ → List Due) → i < length logs → has_written (log_at logs i).flushing ≡ true
    → ArePlaced logs places epoch stay due → ArePlaced (set logs i (with_installed frames (log_at logs i))) places epoch stay due
placed_install frames logs i places epoch stay due below is placed =
    placed_from frames logs i places epoch stay due (log_at logs i).flushing below refl is placed

-- PAGES LEAVE THEIR FRAMES

pub placed_drop : (logs : List LogState) (i : ℕ) (places : List (Option Bytes)) (epoch : ℕ) (stay : ℕ → Option ℕ) (due : ℕ → List Due)
    → i < length logs → ArePlaced logs places epoch stay due → ArePlaced (set logs i (dropped (log_at logs i))) places epoch stay due
placed_drop logs i places epoch stay due below placed =
    placed_kept logs i (dropped (log_at logs i)) places places epoch stay due below placed (omega (arith, placed.live i))
    (λ p. refl) refl refl (λ x p at. omega arith)

pub placed_flush : (frames : ℕ) (logs : List LogState) (i : ℕ) (places : List (Option Bytes)) (epoch : ℕ) (stay : ℕ → Option ℕ)
    (due : ℕ → List Due) → i < length logs → nat_lt (log_at logs i).first (first_mutable frames (log_at logs i)) ≡ true
    → place_at (log_at logs i) (log_at logs i).first ≡ None → ArePlaced logs places epoch stay due
    → ArePlaced (set logs i (dropped (with_receipt (log_at logs i) (log_at logs i).first (length places)))) (places ++ None ∷ []) epoch stay due
placed_flush frames logs i places epoch stay due below read_only none placed =
    let old : LogState = log_at logs i in
    let new : LogState = dropped (with_receipt old old.first (length places)) in
    let is : IsWaiting old old.first = waits frames old old.first (placed.live i) (omega arith) (is_lt _ _ read_only) none in
    let more : (p : ℕ) → times p (places_kept new.kept) ≡ times p (places_kept old.kept) + hit (length places) p =
    λ p. kept_set p old.kept (old.first - old.oldest) (length places) is.below is.none in
    placed_kept logs i new places (places ++ None ∷ []) epoch stay due below placed (omega (arith, placed.live i))
    (λ p. omega (arith, count p old, count p new, more p, standing_grown places p))
    refl refl (λ x p at. omega (arith, count_readable p x old, count_readable p x new, more p))

-- THE CLEANER

pub placed_clean : (logs : List LogState) (i place opened : ℕ) (places : List (Option Bytes)) (epoch : ℕ) (stay : ℕ → Option ℕ)
    (due : ℕ → List Due) → i < length logs → (log_at logs i).oldest < (log_at logs i).first
    → place_at (log_at logs i) (log_at logs i).oldest ≡ Some place → ArePlaced logs places epoch stay due
    → ArePlaced (set logs i (without_oldest (with_opened (log_at logs i) opened) place)) places epoch stay due
placed_clean logs i place opened places epoch stay due below cold there placed =
    let old : LogState = log_at logs i in
    let new : LogState = without_oldest (with_opened old opened) place in
    let none : old.oldest - old.oldest ≡ 0 = omega arith in
    let first : get_or old.kept 0 None ≡ Some place = rw none at (place_some old old.oldest place there) in
    placed_kept logs i new places places epoch stay due below placed (omega (arith, cold))
    (λ p. omega (arith, count p old, count p new, kept_cleaned p old.kept place opened first, times_append p old.unlinked (place ∷ [])))
    refl refl
    (λ x p at. omega (
      arith,
      count_readable p x old,
      count_readable p x new,
      kept_cleaned p old.kept place opened first,
      times_append p old.unlinked (place ∷ []),
    ))

-- a place is retired
retired_by : (logs : List LogState) (i : ℕ) (places : List (Option Bytes)) (epoch : ℕ) (stay : ℕ → Option ℕ) (due : ℕ → List Due)
    (unlinked : List ℕ) → (log_at logs i).unlinked ≡ unlinked → not (are_none unlinked) ≡ true → i < length logs
    → ArePlaced logs places epoch stay due → ArePlaced (set logs i (retired_from (log_at logs i) unlinked epoch)) places (epoch + 1) stay due
retired_by logs i places epoch stay due [] stands some below placed = absurd (cc some)
retired_by logs i places epoch stay due (place ∷ others) stands some below placed =
    let old : LogState = log_at logs i in
    let new : LogState = retired_from old (place ∷ others) epoch in
    let head : (p : ℕ) → times p old.unlinked ≡ hit place p + times p others = λ p. ap (times p) stands in
    placed_step logs i new places places epoch (epoch + 1) stay due below placed (omega arith) (placed.live i)
    (λ p. omega (arith, count p old, count p new, head p, stamped_more p old.retired (record { place = place; epoch = epoch })))
    (each_append (λ (one : Stamped). one.epoch < epoch + 1) old.retired (record { place = place; epoch = epoch } ∷ [])
    (each_map (λ (one : Stamped). one.epoch < epoch) (λ (one : Stamped). one.epoch < epoch + 1) old.retired (λ one lt. omega (arith, lt)) (placed.past i))
    (omega arith, tt))
    (each_map (λ (one : Stamped). Clear epoch one.epoch (IsAt stay)) (λ (one : Stamped). Clear (epoch + 1) one.epoch (IsAt stay)) old.drained
    (λ one is. (omega (arith, is.0), is.1)) (placed.clear i))
    (λ x p at. omega (arith, count_readable p x old, count_readable p x new, head p, from_more p x old.retired (record { place = place; epoch = epoch }) (placed.come x at)))

pub placed_retire : (logs : List LogState) (i : ℕ) (places : List (Option Bytes)) (epoch : ℕ) (stay : ℕ → Option ℕ) (due : ℕ → List Due)
    → not (are_none (log_at logs i).unlinked) ≡ true → i < length logs
    → ArePlaced logs places epoch stay due → ArePlaced (set logs i (with_retired (log_at logs i) epoch)) places (epoch + 1) stay due
placed_retire logs i places epoch stay due some below placed =
    retired_by logs i places epoch stay due (log_at logs i).unlinked refl some below placed

-- a place is drained
past_stay : (e x : ℕ) (o : Option ℕ) → is_past e o ≡ true → o ≡ Some x → e < x
past_stay e x None is stays = absurd (cc stays)
past_stay e x (Some y) is stays = rw (some_number stays) at (is_lt e y is)
  where
    some_number : {a b : ℕ} → Option.Some a ≡ Some b → a ≡ b
    some_number is = cc is

past_all : (clients : List ClientState) (e c x : ℕ) → all_past clients e ≡ true → (get_or clients c fresh).stay ≡ Some x → e < x
past_all [] e c x is stays = absurd (cc stays)
past_all (one ∷ clients) e zero x is stays = past_stay e x one.stay (both _ _ is).0 stays
past_all (one ∷ clients) e (suc c) x is stays = past_all clients e c x (both _ _ is).1 stays

-- the stays of clients
abbrev pub stays_in : List ClientState → ℕ → Option ℕ
stays_in clients c = (get_or clients c fresh).stay

abbrev pub dues_in : List ClientState → ℕ → List Due
dues_in clients c = (get_or clients c fresh).due

drained_by : (logs : List LogState) (i : ℕ) (places : List (Option Bytes)) (epoch : ℕ) (clients : List ClientState) (due : ℕ → List Due)
    (retired : List Stamped) → (log_at logs i).retired ≡ retired → may_drain clients retired ≡ true → i < length logs
    → ArePlaced logs places epoch (stays_in clients) due
    → ArePlaced (set logs i (drained_from (log_at logs i) retired)) places epoch (stays_in clients) due
drained_by logs i places epoch clients due [] stands some below placed = absurd (cc some)
drained_by logs i places epoch clients due (one ∷ others) stands past below placed =
    let stay : ℕ → Option ℕ = stays_in clients in
    let old : LogState = log_at logs i in
    let new : LogState = drained_from old (one ∷ others) in
    let stamps : Each (λ (a : Stamped). a.epoch < epoch) (one ∷ others) = rw stands at (placed.past i) in
    let far : (x : ℕ) → IsAt stay x → one.epoch < x = λ x at. past_all clients one.epoch at.0 x past at.1 in
    let head : (p : ℕ) → times p (places_stamped old.retired) ≡ hit one.place p + times p (places_stamped others) =
    λ p. ap (λ (r : List Stamped). times p (places_stamped r)) stands in
    let same : (x p : ℕ) → IsAt stay x → times p (stamped_from x old.retired) ≡ times p (stamped_from x others) =
    λ x p at. ap (λ (r : List Stamped). times p (stamped_from x r)) stands ∙ ap (times p) (from_head x one others (far x at)) in
    placed_step logs i new places places epoch epoch stay due below placed (omega arith) (placed.live i)
    (λ p. omega (arith, count p old, count p new, head p, stamped_more p old.drained one))
    stamps.1
    (each_append (λ (a : Stamped). Clear epoch a.epoch (IsAt stay)) old.drained (one ∷ []) (placed.clear i) ((stamps.0, far), tt))
    (λ x p at. omega (arith, count_readable p x old, count_readable p x new, same x p at))

pub placed_drain : (logs : List LogState) (i : ℕ) (places : List (Option Bytes)) (epoch : ℕ) (clients : List ClientState) (due : ℕ → List Due)
    → may_drain clients (log_at logs i).retired ≡ true → i < length logs
    → ArePlaced logs places epoch (stays_in clients) due
    → ArePlaced (set logs i (with_drained (log_at logs i))) places epoch (stays_in clients) due
placed_drain logs i places epoch clients due some below placed =
    drained_by logs i places epoch clients due (log_at logs i).retired refl some below placed

-- a place is released
released_by : (logs : List LogState) (i : ℕ) (places : List (Option Bytes)) (page : Bytes) (epoch : ℕ) (stay : ℕ → Option ℕ)
    (due : ℕ → List Due) (drained : List Stamped) → (log_at logs i).drained ≡ drained → not (are_none drained) ≡ true → i < length logs
    → ArePlaced logs places epoch stay due
    → ArePlaced (set logs i (released_from (log_at logs i) drained)) (places_released places drained page) epoch stay due
released_by logs i places page epoch stay due [] stands some below placed = absurd (cc some)
released_by logs i places page epoch stay due (one ∷ others) stands some below placed =
    let old : LogState = log_at logs i in
    let new : LogState = released_from old (one ∷ others) in
    let head : (p : ℕ) → times p (places_stamped old.drained) ≡ hit one.place p + times p (places_stamped others) =
    λ p. ap (λ (r : List Stamped). times p (places_stamped r)) stands in
    let here : hit one.place one.place ≡ 1 = hit_self one.place in
    let stands_now : standing places one.place ≡ 1 =
    omega (arith, placed.once one.place, part_le one.place logs i, count one.place old, head one.place, here, standing_le places one.place) in
    let clear : Each (λ (a : Stamped). Clear epoch a.epoch (IsAt stay)) (one ∷ others) = rw stands at (placed.clear i) in
    placed_step logs i new places (set places one.place (Some page)) epoch epoch stay due below placed (omega arith) (placed.live i)
    (λ p. omega (arith, count p old, count p new, head p, standing_set places one.place page stands_now p))
    (placed.past i) clear.1 (λ x p at. omega arith)
  where
    hit_self : (q : ℕ) → hit q q ≡ 1
    hit_self q = grind arith

pub placed_release : (logs : List LogState) (i : ℕ) (places : List (Option Bytes)) (page : Bytes) (epoch : ℕ) (stay : ℕ → Option ℕ)
    (due : ℕ → List Due) → not (are_none (log_at logs i).drained) ≡ true → i < length logs
    → ArePlaced logs places epoch stay due
    → ArePlaced (set logs i (with_released (log_at logs i))) (places_released places (log_at logs i).drained page) epoch stay due
placed_release logs i places page epoch stay due some below placed =
    released_by logs i places page epoch stay due (log_at logs i).drained refl some below placed

-- PAGES ARE OPENED IN ALL LOGS

pub placed_opened : (logs later : List LogState) (places : List (Option Bytes)) (epoch : ℕ) (stay : ℕ → Option ℕ) (due : ℕ → List Due)
    → length later ≡ length logs
    → ((i : ℕ) → (opened : ℕ) × (log_at later i ≡ with_opened (log_at logs i) opened))
    → ArePlaced logs places epoch stay due → ArePlaced later places epoch stay due
placed_opened logs later places epoch stay due same is placed = record {
  live = λ i. rw (is i).1 (placed.live i);
  once = λ p.
      all_same p logs later same (λ i.
      let old : LogState = log_at logs i in
      let new : LogState = with_opened old (is i).0 in
      ap (λ (log : LogState). times p (places_of log)) (is i).1 ∙ omega (arith, count p old, count p new, kept_opened p old.kept (is i).0))
      ∙ placed.once p;
  past = λ i. rw (is i).1 (placed.past i);
  clear = λ i. rw (is i).1 (placed.clear i);
  come = placed.come;
  reads = λ c. each_map (λ (one : Due). IsReadable (stay c) (log_at logs one.stripe) one.place)
      (λ (one : Due). IsReadable (stay c) (log_at later one.stripe) one.place) (due c)
      (λ one reads. rw (is one.stripe).1 (still (stay c) (log_at logs one.stripe) (is one.stripe).0 one.place reads)) (placed.reads c);
}
  where
    still : (o : Option ℕ) (old : LogState) (opened p : ℕ) → IsReadable o old p → IsReadable o (with_opened old opened) p
    still None old opened p reads = reads
    still (Some x) old opened p reads =
        let new : LogState = with_opened old opened in
        omega (arith, reads, count_readable p x old, count_readable p x new, kept_opened p old.kept opened)

-- CLIENTS CHANGE

-- stays begin at the present epoch alone
pub placed_moved : (logs : List LogState) (places : List (Option Bytes)) (epoch : ℕ) (stay later : ℕ → Option ℕ) (due reads : ℕ → List Due)
    → ((x : ℕ) → IsAt later x → IsAt stay x ⊎ (x ≡ epoch))
    → ((c : ℕ) → Each (λ (one : Due). IsReadable (later c) (log_at logs one.stripe) one.place) (reads c))
    → ArePlaced logs places epoch stay due → ArePlaced logs places epoch later reads
placed_moved logs places epoch stay later due reads new due_reads placed = record {
  live = placed.live;
  once = placed.once;
  past = placed.past;
  clear = λ i. each_map (λ (one : Stamped). Clear epoch one.epoch (IsAt stay)) (λ (one : Stamped). Clear epoch one.epoch (IsAt later)) (log_at logs i).drained
      (λ one is. (is.0, λ x at. ⊎_elim (λ old. is.1 x old) (λ now. omega (arith, is.0, now)) (new x at))) (placed.clear i);
  come = λ x at. ⊎_elim (λ old. placed.come x old) (λ now. omega (arith, now)) (new x at);
  reads = due_reads;
}

-- what is to be read for a client may be read
abbrev ReadsRight : List LogState → ClientState → Type 0
ReadsRight logs peer = Each (λ (one : Due). IsReadable peer.stay (log_at logs one.stripe) one.place) peer.due

-- one client changes
pub placed_client : (logs : List LogState) (places : List (Option Bytes)) (epoch : ℕ) (clients : List ClientState) (c : ℕ) (peer : ClientState)
    → c < length clients
    → ((x : ℕ) → peer.stay ≡ Some x → (stays_in clients c ≡ Some x) ⊎ (x ≡ epoch))
    → Each (λ (one : Due). IsReadable peer.stay (log_at logs one.stripe) one.place) peer.due
    → ArePlaced logs places epoch (stays_in clients) (dues_in clients)
    → ArePlaced logs places epoch (stays_in (set clients c peer)) (dues_in (set clients c peer))
placed_client logs places epoch clients c peer below begins reads placed =
    placed_moved logs places epoch (stays_in clients) (stays_in (set clients c peer)) (dues_in clients) (dues_in (set clients c peer))
    (λ x at. old_or_now x at.0 at.1)
    (λ d. dite (ℕ_discrete d c)
    (λ same. subst (λ (k : ℕ). ReadsRight logs (get_or (set clients c peer) k fresh)) (sym same)
    (subst (ReadsRight logs) (sym (get_or-set_same clients c peer fresh below)) reads))
    (λ other. subst (ReadsRight logs) (sym (get_or-set_other clients c d peer fresh other)) (placed.reads d)))
    placed
  where
    old_or_now : (x d : ℕ) → stays_in (set clients c peer) d ≡ Some x → IsAt (stays_in clients) x ⊎ (x ≡ epoch)
    old_or_now x d is = dite (ℕ_discrete d c)
        (λ same. ⊎_elim (λ old. inl (c, old)) (λ now. inr now)
        (begins x (sym (ap (λ (one : ClientState). one.stay) (get_or-set_same clients c peer fresh below))
        ∙ ap (λ (k : ℕ). stays_in (set clients c peer) k) (sym same) ∙ is)))
        (λ other. inl (d, sym (ap (λ (one : ClientState). one.stay) (get_or-set_other clients c d peer fresh other)) ∙ is))

-- the same of one whose stay and due receipts stay as they are
pub placed_as : (logs : List LogState) (places : List (Option Bytes)) (epoch : ℕ) (clients : List ClientState) (c : ℕ) (peer : ClientState)
    → c < length clients → peer.stay ≡ stays_in clients c → peer.due ≡ dues_in clients c
    → ArePlaced logs places epoch (stays_in clients) (dues_in clients)
    → ArePlaced logs places epoch (stays_in (set clients c peer)) (dues_in (set clients c peer))
placed_as logs places epoch clients c peer below stays dues placed =
    placed_client logs places epoch clients c peer below (λ x is. inl (sym stays ∙ is)) (rw (stays, dues) (placed.reads c)) placed
