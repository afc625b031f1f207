-- What a step of the flusher or of the cleaner came to that released places first.
use Rattle.std.proofs.Common.{◌≡◌, ◌∙◌, ◌+◌, ◌-◌, ◌<◌, ◌≤◌, inl, inr, ⊎_elim, ℕ, zero, suc, Bool, true, false, List, [], ◌∷◌, ◌++◌, length, length-append, append_assoc, map, Option, Result, Ok, Err, IfOk, nat_lt, refl, sym, ap, subst, arith}
use Rattle.std.specs.Prelude.{⊤, if◌then◌else◌}
use Rattle.std.specs.Option.{is_some}
use Rattle.std.proofs.lemmas.Bool.{lt-ltb}
use Rattle.epoch.specs.declared.view.View.{View}
use Rattle.epoch.specs.declared.view.Note.{Note}
use Rattle.epoch.specs.declared.view.Note.TheVariants.{Worn}
use Rattle.epoch.specs.Seats.{AdvancedPast, WasWorn}
use Rattle.words.specs.declared.reply.Fault.{Fault}
use Rattle.gates.specs.Background.{AreRefused, IsEachRefused, IsIdle, IsSpent, IsStep}
use Rattle.gates.specs.declared.view.Work.TheVariants.{Clean, Flush}
use Rattle.gates.specs.Pages as pages
use Rattle.gates.specs.Pages.{Place, count_true, total}
use Rattle.hybrid.specs.Reserving.{IsFull}
use Rattle.gates.specs.declared.view.Refused.{Refused}
use Rattle.hybrid.specs.HybridLog.{HybridLog, IsSealed, Kept, with_receipt}
use Rattle.hybrid.specs.declared.stripe.room.Purpose.{Purpose}
use Rattle.shards.specs.Cleaning.{HasMadeRoom, HasUnlinkedPage, IsResidentStill, MatchStepped, WasNotDrained, WasNotRetired}
use Rattle.shards.specs.declared.cleaning.Stepped.{Stepped}
use Rattle.shards.specs.declared.cleaning.Stepped.TheVariants as stepped
use Rattle.shards.specs.Counted.{Counted, HasFlushed, HasLanded, HasUnlinked, IsFirstSealed, Waiting, WasRefused, claimed, places_of, places_waiting, waiting_of, with_flight}
use Rattle.shards.specs.Flushing.{HasFreedFirst}
use Rattle.shards.specs.Freeing.{HasFreed, HasTriedAll, HasWaited}
use Rattle.shards.specs.Heard.{HasHeardWorn, HasTried, worn_times}
use Rattle.shards.specs.Rooms.{ShedsFew}
use Rattle.shards.specs.Shards.{shard_counted, shard_log, shard_pages, shard_waiting}
use Rattle.shards.specs.declared.freeing.Freed.{Freed}
use Rattle.shards.specs.declared.shard.Shard.{Shard}
use Rattle.frames.specs.Resident.{next_number}
use Rattle.shards.proofs.Counts.{counted_pages}
use Rattle.shards.proofs.Raised.{counts_raised, each_since, raised_same, waited_both, waited_none, waited_same, waited_undrained, waited_unretired, weaker}

-- WHAT THE SEAT WAS TOLD

pub tried_never : (v : View) → HasTried v v
tried_never v = record { advanced = ([], refl); times = 0; notes = refl }

pub tried_past : (e : ℕ) (a b : View) → AdvancedPast e a b → HasTried a b
tried_past e a b past = record { advanced = (e ∷ [], past.advanced); times = 0; notes = past.notes }

pub tried_once : (a b : View) → WasWorn a b → HasTried a b
tried_once a b worn = record { advanced = ([], worn.advanced); times = 1; notes = worn.notes }

pub tried_all : (worn : Bool) (a b : View) → HasTriedAll worn a b → HasTried a b
tried_all true a b tried = record { advanced = tried.advanced; times = 1; notes = tried.notes }
tried_all false a b tried = record { advanced = tried.advanced; times = 0; notes = tried.notes }

worn_both : (a b : ℕ) (notes : List Note) → worn_times a (worn_times b notes) ≡ worn_times (a + b) notes
worn_both zero b notes = ap (λ (n : ℕ). worn_times n notes) (omega arith)
worn_both (suc a) b notes =
    let sum : suc (a + b) ≡ suc a + b = omega arith in
    ap (λ (l : List Note). Worn ∷ l) (worn_both a b notes) ∙ ap (λ (n : ℕ). worn_times n notes) sum

pub tried_both : (a b c : View) → HasTried a b → HasTried b c → HasTried a c
tried_both a b c one two = record {
  advanced = (two.advanced.0 ++ one.advanced.0, two.advanced.1 ∙ ap (λ (l : List ℕ). two.advanced.0 ++ l) one.advanced.1 ∙ sym (append_assoc two.advanced.0 one.advanced.0 a.advanced));
  times = two.times + one.times;
  notes = two.notes ∙ ap (worn_times two.times) one.notes ∙ worn_both two.times one.times a.notes;
}

abbrev worn_list : ℕ → List Note
worn_list zero = []
worn_list (suc n) = Worn ∷ worn_list n

worn_is : (n : ℕ) (notes : List Note) → worn_times n notes ≡ worn_list n ++ notes
worn_is zero notes = refl
worn_is (suc n) notes = ap (λ (l : List Note). Worn ∷ l) (worn_is n notes)

pub heard_since : (a b c : View) → HasTried a b → HasHeardWorn b c → HasHeardWorn a c
heard_since a b c one two = record {
  more = two.more ++ worn_list one.times;
  notes = two.notes ∙ ap (λ (l : List Note). Worn ∷ (two.more ++ l)) (one.notes ∙ worn_is one.times a.notes)
      ∙ ap (λ (l : List Note). Worn ∷ l) (sym (append_assoc two.more (worn_list one.times) a.notes));
}

pub heard_all : (worn : Bool) (a b : View) → HasTriedAll worn a b → worn ≡ true → HasHeardWorn a b
heard_all true a b tried is = record { more = []; notes = tried.notes }
heard_all false a b tried is = absurd (cc is)

-- WHAT NO PLACE CAN BE RELEASED

worn_if : (refused new old : Bool) → new ≡ (if refused then true else old) → refused ≡ true → new ≡ true
worn_if refused new old is told = is ∙ ap (λ (b : Bool). if b then true else old) told

none_of : (l : List Kept) → l ≡ [] → length l ≡ 0
none_of l e = ap length e

module _ {R : Type 0} where
  pub spent_now : (old new : Shard R) (freed : Freed) → HasFreed (shard_counted old) freed (shard_counted new) → IsSpent freed.refused (shard_pages old) (shard_pages new)
  spent_now old new freed has = record {
    drained = none_of (shard_counted new).drained has.drained;
    unlinked = ⊎_elim (λ e. inl (none_of (shard_counted new).unlinked e)) (λ w. inr (w, worn_if freed.refused.retire (shard_counted new).worn (shard_counted old).worn has.worn w)) has.unlinked;
    retired = ⊎_elim (λ e. inl (none_of (shard_counted new).retired e)) (λ w. inr w) has.retired;
    each = has.each;
  }

  -- what waits is the same since
  pub spent_still : (refused : Refused) (a b c : Shard R) → shard_waiting c ≡ shard_waiting b → IsSpent refused (shard_pages a) (shard_pages b) → IsSpent refused (shard_pages a) (shard_pages c)
  spent_still refused a b c same spent = record {
    drained = ap (λ (w : Waiting). length w.drained) same ∙ spent.drained;
    unlinked = ⊎_elim (λ e. inl (ap (λ (w : Waiting). length w.unlinked) same ∙ e)) (λ w. inr (w.0, ap (λ (w : Waiting). w.worn) same ∙ w.1)) spent.unlinked;
    retired = ⊎_elim (λ e. inl (ap (λ (w : Waiting). length w.retired) same ∙ e)) (λ w. inr w) spent.retired;
    each = subst (λ (w : Waiting). IsEachRefused (shard_pages a).waits (shard_pages a).refused w.refused) (sym same) spent.each;
  }

  -- and what waited before was not tried less
  pub spent_since : (refused : Refused) (a b c : Shard R) → HasWaited (shard_waiting a) (shard_waiting b)
      → IsSpent refused (shard_pages b) (shard_pages c) → IsSpent refused (shard_pages a) (shard_pages c)
  spent_since refused a b c waited spent = record {
    drained = spent.drained;
    unlinked = spent.unlinked;
    retired = spent.retired;
    each = each_since (shard_waiting a) (shard_waiting b) (shard_counted c).refused waited spent.each;
  }

  -- a log that is full is so by its pages
  pub full_pages : (p : Shard R) → IsFull (shard_log p) → pages.IsFull (shard_pages p)
  full_pages p full = ⊎_elim (λ same. inl same) (λ last. inr (omega (arith, last))) full

-- WHAT ROOM WAS MADE

pub made_none : (c : Counted) → HasMadeRoom c c
made_none c = record { oldest = refl; first = omega arith; in_flight = refl; places = omega arith; waited = waited_none (waiting_of c) }

pub made_shed : (weight : ℕ) (purpose : Purpose) (old new : Counted) → ShedsFew weight purpose old.log new.log → waiting_of new ≡ waiting_of old → HasMadeRoom old new
made_shed weight purpose old new shed waits = record {
  oldest = shed.reserved.oldest;
  first = omega (arith, ap (λ r. r.oldest) shed.reserved.resident);
  in_flight = ap (λ (w : Waiting). w.in_flight) waits;
  places = omega (arith, ap places_waiting waits);
  waited = waited_same (waiting_of old) (waiting_of new) waits;
}

pub made_freed : (old new : Counted) (freed : Freed) → HasFreed old freed new → HasMadeRoom old new
made_freed old new freed has = record {
  oldest = ap (λ (p : HybridLog). p.oldest) has.log;
  first = omega (arith, ap (λ (p : HybridLog). p.resident.oldest) has.log);
  in_flight = has.in_flight;
  places = omega (arith, has.places);
  waited = record { unlinked = has.left; retired = weaker (places_of old.unlinked) old.refused new.refused has.each };
}

pub made_both : (a b c : Counted) → HasMadeRoom a b → HasMadeRoom b c → HasMadeRoom a c
made_both a b c one two = record {
  oldest = two.oldest ∙ one.oldest;
  first = omega (arith, one.first, two.first);
  in_flight = two.in_flight ∙ one.in_flight;
  places = omega (arith, one.places, two.places);
  waited = waited_both (waiting_of a) (waiting_of b) (waiting_of c) one.waited two.waited;
}

-- room was made, and then the oldest page left
pub page_left : (old mid new : Counted) (weight : ℕ) → HasMadeRoom old mid → HasUnlinked mid new weight → HasUnlinkedPage old new
page_left old mid new weight made has =
    let longer : length new.unlinked ≡ length mid.unlinked + 1 = ap (λ (c : Counted). length c.unlinked) has.is ∙ length-append mid.unlinked (has.kept ∷ []) in
    record {
      left = has.left.oldest ∙ ap (λ (n : ℕ). n + 1) made.oldest;
      places = omega (arith, longer, ap (λ (c : Counted). length c.retired) has.is, ap (λ (c : Counted). length c.drained) has.is, made.places);
      others = mid.unlinked;
      kept = has.kept;
      unlinked = ap (λ (c : Counted). c.unlinked) has.is;
    }

-- WHAT WAS FLUSHED

-- a place is counted for a page that is to be written
claimed_now : (b : Bool) (c : Counted) → b ≡ true → (if b then c else with_flight c) ≡ c
claimed_now true c is = refl
claimed_now false c is = absurd (cc is)

sealed_with : (log : HybridLog) (n number : ℕ) → IsSealed log number → IsSealed (record log { unreleased = n }) number
sealed_with log n number sealed = record { from = sealed.from; below = sealed.below; none = sealed.none }

-- and lands where no other was flushed meanwhile
pub landed_first : (mid held new : Counted) (number : ℕ) (page : List ℕ) (k : Kept) → IsFirstSealed mid.log number page → held ≡ with_flight mid → k.shown ≡ page
    → HasLanded (claimed held) number page k new → HasFlushed mid new
landed_first mid held new number page k first is shown has =
    let same : claimed held ≡ with_flight mid = claimed_now (nat_lt 0 held.in_flight) held (lt-ltb 0 held.in_flight (omega (arith, ap (λ (c : Counted). c.in_flight) is))) ∙ is in
    let how = (subst (λ (c : Counted). HasLanded c number page k new) same has).how in
    ⊎_elim
    (λ one. record {
      number = number;
      kept = k;
      waits = subst (λ (p : List ℕ). IsFirstSealed mid.log number p) (sym shown) first;
      is = one.1 ∙ ap (λ (n : ℕ). record mid { log = record (with_receipt mid.log number k) { unreleased = mid.log.unreleased + 1 }; in_flight = n }) (omega arith);
    })
    (λ late. absurd (late.0 (sealed_with mid.log (mid.log.unreleased + 1) number first.sealed, first.copied)))
    how

-- what a log is but for how many places are taken
freed_log : {X : Type 0} (old mid : Counted) → HasFreedFirst old mid → (f : HybridLog → X) → ((p : HybridLog) (n : ℕ) → f (record p { unreleased = n }) ≡ f p) → f mid.log ≡ f old.log
freed_log old mid freed f same = ⊎_elim (λ is. ap (λ (c : Counted). f c.log) is) (λ more. ap f more.has.log ∙ same old.log mid.log.unreleased) freed

-- no place more waits for its release, and none more is taken
freed_waits : (old mid : Counted) → HasFreedFirst old mid → places_waiting (waiting_of mid) ≤ places_waiting (waiting_of old)
freed_waits old mid freed = ⊎_elim (λ is. omega (arith, ap (λ (c : Counted). places_waiting (waiting_of c)) is)) (λ more. omega (arith, more.has.places)) freed

freed_taken : (old mid : Counted) → HasFreedFirst old mid → mid.log.unreleased ≤ old.log.unreleased
freed_taken old mid freed = ⊎_elim (λ is. omega (arith, ap (λ (c : Counted). c.log.unreleased) is)) (λ more. omega (arith, more.has.fewer)) freed

-- one page more has a receipt
pub flushed_step : (old mid held new : Counted) → HasFreedFirst old mid → held ≡ with_flight mid → HasFlushed mid new
    → IsStep Flush (counted_pages held) (counted_pages new) → IsStep Flush (counted_pages old) (counted_pages new)
flushed_step old mid held new freed is has step =
    let kept : held.log.kept ≡ old.log.kept = ap (λ (c : Counted). c.log.kept) is ∙ freed_log old mid freed (λ (p : HybridLog). p.kept) (λ p n. refl) in
    ⊎_elim
    (λ one. inl (record {
      same = record {
        oldest = ap (λ (c : Counted). c.log.oldest) has.is ∙ freed_log old mid freed (λ (p : HybridLog). p.oldest) (λ p n. refl);
        first = ap (λ (c : Counted). c.log.resident.oldest) has.is ∙ freed_log old mid freed (λ (p : HybridLog). p.resident.oldest) (λ p n. refl);
        tail = ap (λ (c : Counted). next_number c.log.resident - 1) has.is ∙ freed_log old mid freed (λ (p : HybridLog). next_number p.resident - 1) (λ p n. refl);
        frames = ap (λ (c : Counted). c.log.resident.frames) has.is ∙ freed_log old mid freed (λ (p : HybridLog). p.resident.frames) (λ p n. refl);
        places = ap (λ (c : Counted). c.log.places) has.is ∙ freed_log old mid freed (λ (p : HybridLog). p.places) (λ p n. refl);
        taken = omega (arith, ap (λ (c : Counted). c.log.unreleased) has.is, freed_taken old mid freed);
      };
      receipts = one.receipts ∙ ap (λ (l : List (Option Kept)). count_true (map is_some l) + 1) kept;
      waits = omega (arith, ap (λ (c : Counted). places_waiting (waiting_of c)) has.is, freed_waits old mid freed);
    }))
    (λ late. absurd (omega (arith, late.unlinked, ap (λ (c : Counted). length c.unlinked) has.is, ap (λ (c : Counted). length c.unlinked) is)))
    step

-- THE CLEANER'S STEP

-- there was none to drain
pub not_drained : (c d : Counted) → d ≡ c → c.retired ≡ [] → WasNotDrained false c d
not_drained c d same none = subst (WasNotDrained false c) (sym same) (record { same = refl; retired = inl none; more = λ is. absurd (cc is); counts = raised_same [] c.refused })

-- the drain of the oldest was refused
pub drain_refused : (a b : Counted) → WasRefused a b → total a.refused < total b.refused → WasNotDrained true a b
drain_refused a b was more = record {
  same = was.is ∙ ap (λ (l : List (Place × ℕ)). record a { refused = l }) (sym (ap (λ (c : Counted). c.refused) was.is));
  retired = inr refl;
  more = λ is. more;
  counts = counts_raised a b was;
}

-- there was none to retire
pub not_retired : (c d : Counted) → d ≡ c → c.unlinked ≡ [] → WasNotRetired false c d
not_retired c d same none = subst (WasNotRetired false c) (sym same) (record { same = refl; unlinked = inl none; worn = refl })

-- the retirement of the oldest was refused
pub retire_refused : (c d : Counted) → d ≡ record c { worn = true } → WasNotRetired true c d
retire_refused c d same = subst (WasNotRetired true c) (sym same) (record { same = refl; unlinked = inr refl; worn = refl })

module _ {R : Type 0} where
  -- what a step came to that drained and retired nothing
  pub stepped_by : (came : Result Stepped Fault) (retire drain : Bool) (old mid next new : Shard R) (C : ℕ → Type 0) → (shard_counted old).drained ≡ [] → WasNotDrained drain (shard_counted old) (shard_counted mid)
      → WasNotRetired retire (shard_counted mid) (shard_counted next)
      → IfOk came (λ step. MatchStepped step (HasUnlinkedPage (shard_counted next) (shard_counted new)) (λ told. (told ≡ record { retire = retire; drain = drain }) × IsResidentStill (shard_counted next) (shard_counted new))
      (λ told. pages.IsFull (shard_pages new) × IsSpent told (shard_pages next) (shard_pages new)) C)
      → IfOk came (λ step. MatchStepped step ((r : Refused) → IsStep (Clean r) (shard_pages old) (shard_pages new)) (λ told. IsIdle (Clean told) (shard_pages new) × AreRefused (Clean told) (shard_pages old) (shard_pages new))
      (λ told. pages.IsFull (shard_pages new) × IsSpent told (shard_pages old) (shard_pages new)) (λ number. ⊤))
  stepped_by (Ok stepped.Done) retire drain old mid next new C none not kept is =
      λ r. inl (omega (arith, is.left, ap (λ (c : Counted). c.log.oldest) kept.same, ap (λ (c : Counted). c.log.oldest) not.same))
  stepped_by (Ok (stepped.Idle told)) retire drain old mid next new C none not kept is =
      let still = is.1 in
      let drained : (shard_counted new).drained ≡ [] = still.waiting.drained ∙ ap (λ (c : Counted). c.drained) kept.same ∙ ap (λ (c : Counted). c.drained) not.same ∙ none in
      let retired : (shard_counted new).retired ≡ (shard_counted mid).retired = still.waiting.retired ∙ ap (λ (c : Counted). c.retired) kept.same in
      let refused : (shard_counted new).refused ≡ (shard_counted mid).refused = still.waiting.refused ∙ ap (λ (c : Counted). c.refused) kept.same in (
        (
          still.resident,
          none_of (shard_counted new).drained drained,
          ⊎_elim (λ e. inl (none_of (shard_counted new).unlinked (still.unlinked ∙ e)))
              (λ w. inr (ap (λ (r : Refused). r.retire) is.0 ∙ w, still.waiting.worn ∙ worn_if retire (shard_counted next).worn (shard_counted mid).worn kept.worn w)) kept.unlinked,
          ⊎_elim (λ e. inl (none_of (shard_counted new).retired (retired ∙ e))) (λ w. inr (ap (λ (r : Refused). r.drain) is.0 ∙ w)) not.retired,
        ),
        λ d. omega (arith, not.more (sym (ap (λ (r : Refused). r.drain) is.0) ∙ d), ap total refused),
      )
  stepped_by (Ok (stepped.Full told)) retire drain old mid next new C none not kept is = (
    is.0,
    spent_since told old next new (waited_both (shard_waiting old) (shard_waiting mid) (shard_waiting next) (waited_undrained drain (shard_counted old) (shard_counted mid) not) (waited_unretired retire (shard_counted mid) (shard_counted next) kept)) is.1,
  )
  stepped_by (Ok (stepped.Cold number)) retire drain old mid next new C none not kept is = tt
  stepped_by (Err f) retire drain old mid next new C none not kept is = tt

  -- what the seat was told of it
  pub worn_by : (came : Result Stepped Fault) (retire drain : Bool) (mid new : Shard R) (C : ℕ → Type 0) (D : Type 0) (G : Refused → Type 0) (u v w : View) (Same : Type 0) → (Same → w ≡ v) → HasTried u v → (retire ≡ true → WasWorn u v)
      → IfOk came (λ step. MatchStepped step D (λ told. (told ≡ record { retire = retire; drain = drain }) × IsResidentStill (shard_counted mid) (shard_counted new)) G C)
      → IfOk came (λ step. MatchStepped step ⊤ (λ told. Same) (λ told. told.retire ≡ true → HasHeardWorn v w) (λ number. ⊤))
      → IfOk came (λ step. MatchStepped step ⊤ (λ told. told.retire ≡ true → WasWorn u w) (λ told. told.retire ≡ true → HasHeardWorn u w) (λ number. ⊤))
  worn_by (Ok stepped.Done) retire drain mid new C D G u v w Same view tried worn is heard = tt
  worn_by (Ok (stepped.Idle told)) retire drain mid new C D G u v w Same view tried worn is heard =
      λ yes. subst (WasWorn u) (sym (view heard)) (worn (sym (ap (λ (r : Refused). r.retire) is.0) ∙ yes))
  worn_by (Ok (stepped.Full told)) retire drain mid new C D G u v w Same view tried worn is heard = λ yes. heard_since u v w tried (heard yes)
  worn_by (Ok (stepped.Cold number)) retire drain mid new C D G u v w Same view tried worn is heard = tt
  worn_by (Err f) retire drain mid new C D G u v w Same view tried worn is heard = tt

  -- a step since a drain was refused
  pub step_since : (refused : Refused) (old mid new : Shard R) → shard_counted mid ≡ record (shard_counted old) { refused = (shard_counted mid).refused }
      → IsStep (Clean refused) (shard_pages mid) (shard_pages new) → IsStep (Clean refused) (shard_pages old) (shard_pages new)
  step_since refused old mid new same step = elim step [
    | inl later ↦ inl (omega (arith, later, ap (λ (c : Counted). c.log.oldest) same))
    | inr (inl retired) ↦ inr (inl (retired ∙ ap (λ (c : Counted). length c.retired + 1) same))
    | inr (inr (inl drained)) ↦ inr (inr (inl (drained ∙ ap (λ (c : Counted). length c.drained + 1) same)))
    | inr (inr (inr released)) ↦ inr (inr (inr (released.0 ∙ ap (λ (c : Counted). length c.drained) same, released.1 ∙ ap (λ (c : Counted). c.log.unreleased) same)))
  ]
