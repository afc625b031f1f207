-- Places that were released, stripe by stripe.
use Rattle.std.proofs.Common.{◌≡◌, ◌≢◌, ◌∙◌, ◌<◌, ◌≤◌, inl, inr, ⊎_elim, ℕ, zero, suc, Bool, true, false, List, [], ◌∷◌, ◌++◌, length, append_assoc, Option, Some, None, IsSome, option_map, unwrap_or, refl, sym, ap, subst, arith}
use Rattle.std.specs.Prelude.{if◌then◌else◌}
use Rattle.std.proofs.lemmas.Bool.{cases_eq}
use Rattle.epoch.specs.declared.view.View.{View}
use Rattle.epoch.specs.declared.view.Note.{Note}
use Rattle.epoch.specs.declared.view.Note.TheVariants.{Worn}
use Rattle.hybrid.specs.HybridLog.{HybridLog, Kept}
use Rattle.hybrid.specs.Reserving.{IsFull}
use Rattle.shards.specs.Counted.{Counted, Waiting}
use Rattle.shards.specs.declared.freeing.Freed.{Freed}
use Rattle.shards.specs.declared.shard.Shard.{Shard}
use Rattle.shards.specs.Freeing.{FreesAt, HasFreed, HasTriedAll, HasWaited, IsSpentAt, all_waiting, waiting_at}
use Rattle.shards.specs.Heard.{HasHeard, HasHeardWorn}
use Rattle.shards.specs.Rooms.{IsFullAt}
use Rattle.shards.specs.Shards.{SameLogs, SameWaits, logs_of, shard_counted, shard_log, shard_waiting, waits_of}
use Rattle.words.specs.declared.word.TheConstants.{WORD_INLINE}
use Rattle.words.specs.declared.command.Command.{Command}
use Rattle.words.specs.declared.command.Command.TheVariants.{Get}
use Rattle.words.specs.declared.history.Operation.{Operation}
use Rattle.words.specs.History.{History, Pair, after}
use Rattle.words.specs.Store.{Bytes, Store}
use Rattle.words.specs.Stripes.{stripe_of}
use Rattle.gates.specs.Rule.{Meaning}
use Rattle.transact.specs.declared.call.Call.{Call}
use Rattle.transact.specs.declared.call.Call.TheVariants.{One, Watch, Exec, Forget}
use Rattle.transact.specs.Tables.{AreThere, AreUnmarked, Became, HasBegun, Stand, begins, joined, joined_marks, mark_in, stays, value_in}
use Rattle.plans.specs.Memory.{IsBrief, IsPlannedInPlace, NeedsNoMemoryOn}
use Rattle.plans.specs.Planning.{AsksOn}
use Rattle.plans.specs.Sizes.{AllShort, IsShort}
use Rattle.plans.proofs.Become.{became_both, became_read}
use Rattle.plans.proofs.Logs.{logs_one}
use Rattle.plans.proofs.Rooms.{stripe_below}
use Rattle.plans.proofs.Raised.{each_since, waited_freed, waited_none}

none_of : (l : List Kept) → l ≡ [] → length l ≡ 0
none_of l e = ap length e

-- where none was released, the log is as it was
same_log : (old new : Counted) (freed : Freed) → freed.released ≡ false → HasFreed old freed new → new.log ≡ old.log
same_log old new freed none has = has.log ∙ ap (λ (n : ℕ). record old.log { unreleased = n }) (omega (arith, has.fewer, has.none none))

-- STRIPE BY STRIPE

module _ {R : Type 0} where
  -- of each part, what has become of the places that wait for their release
  abbrev pub Lasts : (before later : ℕ → Option (Shard R)) → Type 0
  Lasts before later = (i : ℕ) (part : Shard R) → later i ≡ Some part → (was : Shard R) × (before i ≡ Some was) × HasWaited (shard_waiting was) (shard_waiting part)

  pub lasts_none : (parts : ℕ → Option (Shard R)) → Lasts parts parts
  lasts_none parts i part is = (part, is, waited_none (shard_waiting part))

  some_part : (o : Option (Shard R)) (w : Waiting) → option_map shard_waiting o ≡ Some w → (part : Shard R) × (o ≡ Some part) × (shard_waiting part ≡ w)
  some_part None w is = absurd (cc is)
  some_part (Some part) w is = (part, refl, cc is)

  -- what waits stayed as it was
  pub lasts_still : (a b c : ℕ → Option (Shard R)) → Lasts a b → SameWaits b c → Lasts a c
  lasts_still a b c lasts same i part is =
      let mid = some_part (b i) (shard_waiting part) (sym (same i) ∙ ap (option_map shard_waiting) is) in
      let was = lasts i mid.0 mid.1 in
      (was.0, was.1, subst (λ (w : Waiting). HasWaited (shard_waiting was.0) w) mid.2 was.2)

  some_same : (x y : Shard R) (o : Option (Shard R)) → o ≡ Some x → o ≡ Some y → x ≡ y
  some_same x y o one two = ap (λ (z : Option (Shard R)). unwrap_or z x) (sym one ∙ two)

  -- places of one stripe were released
  pub lasts_freed : (a b c : ℕ → Option (Shard R)) (stripe : ℕ) (freed : Freed) → Lasts a b → FreesAt stripe freed b c → Lasts a c
  lasts_freed a b c stripe freed lasts frees i part is = ⊎_elim
      (λ at.
      let same : frees.new ≡ part = some_same frees.new part (c stripe) frees.is (ap c (sym at) ∙ is) in
      let was = lasts stripe frees.old frees.was in
      let waited = waited_freed (shard_waiting was.0) (shard_counted frees.old) (shard_counted frees.new) freed was.2 frees.how in (
        was.0,
        ap a at ∙ was.1,
        subst (λ (p : Shard R). HasWaited (shard_waiting was.0) (shard_waiting p)) same waited,
      ))
      (λ ne. lasts i part (sym (frees.others i ne) ∙ is))
      (cases_eq i stripe)

  -- no place of the stripe can be released now
  pub spent_at : (a b c : ℕ → Option (Shard R)) (stripe : ℕ) (freed : Freed) → Lasts a b → FreesAt stripe freed b c → IsSpentAt freed.refused stripe a c
  spent_at a b c stripe freed lasts frees =
      let was = lasts stripe frees.old frees.was in
      record {
        old = was.0;
        new = frees.new;
        was = was.1;
        is = frees.is;
        spent = record {
          drained = none_of (shard_counted frees.new).drained frees.how.drained;
          unlinked = ⊎_elim (λ e. inl (none_of (shard_counted frees.new).unlinked e)) (λ w. inr (w, frees.how.worn ∙ ap (λ (b : Bool). if b then true else (shard_counted frees.old).worn) w)) frees.how.unlinked;
          retired = ⊎_elim (λ e. inl (none_of (shard_counted frees.new).retired e)) (λ w. inr w) frees.how.retired;
          each = each_since (shard_waiting was.0) (shard_waiting frees.old) (shard_counted frees.new).refused was.2 frees.how.each;
        };
      }

  log_some : (p : Shard R) (l : HybridLog) → Some (shard_log p) ≡ Some l → shard_log p ≡ l
  log_some p l e = cc e

  -- and a stripe that was full is full still
  pub full_still : (b c : ℕ → Option (Shard R)) (stripe : ℕ) (freed : Freed) → freed.released ≡ false → FreesAt stripe freed b c → IsFullAt (logs_of b) stripe → IsFullAt (logs_of c) stripe
  full_still b c stripe freed none frees full = record {
    log = shard_log frees.new;
    there = ap (option_map shard_log) frees.is;
    full = subst IsFull (sym (same_log (shard_counted frees.old) (shard_counted frees.new) freed none frees.how
        ∙ log_some frees.old full.log (sym (ap (option_map shard_log) frees.was) ∙ full.there))) full.full;
  }

  -- where none was released, each log is as it was
  pub logs_still : (b c : ℕ → Option (Shard R)) (stripe : ℕ) (freed : Freed) → freed.released ≡ false → FreesAt stripe freed b c → SameLogs b c
  logs_still b c stripe freed none frees =
      logs_one b c stripe frees.old frees.new frees.was frees.is frees.others (same_log (shard_counted frees.old) (shard_counted frees.new) freed none frees.how)

-- HOW MANY WAIT

same_all : (n : ℕ) (v w : ℕ → Option Waiting) → ((j : ℕ) → j < n → w j ≡ v j) → all_waiting n w ≡ all_waiting n v
same_all zero v w same = refl
same_all (suc n) v w same = omega (arith, same_all n v w (λ j below. same j (omega (arith, below))), ap waiting_at (same n (omega arith)))

fewer_all : (n i : ℕ) (v w : ℕ → Option Waiting) → i < n → waiting_at (w i) < waiting_at (v i) → ((j : ℕ) → j ≢ i → w j ≡ v j) → all_waiting n w < all_waiting n v
fewer_all zero i v w below less others = absurd (omega (arith, below))
fewer_all (suc n) i v w below less others = ⊎_elim
    (λ at. omega (arith, same_all n v w (λ j under. others j (λ e. absurd (omega (arith, e, at, under)))), subst (λ (k : ℕ). waiting_at (w k) < waiting_at (v k)) (sym at) less))
    (λ ne. omega (arith, fewer_all n i v w (omega (arith, below, ne)) less others, ap waiting_at (others n ne)))
    (cases_eq n i)

-- where a place was released, fewer wait
pub waits_fewer : {R : Type 0} (n stripe : ℕ) (a b c : ℕ → Option (Shard R)) (freed : Freed) → stripe < n → freed.released ≡ true → SameWaits a b → FreesAt stripe freed b c
    → all_waiting n (waits_of c) < all_waiting n (waits_of a)
waits_fewer {R} n stripe a b c freed below some same frees =
    let less : waiting_at (waits_of c stripe) < waiting_at (waits_of b stripe) =
    omega (arith, ap (λ (o : Option (Shard R)). waiting_at (option_map shard_waiting o)) frees.is, ap (λ (o : Option (Shard R)). waiting_at (option_map shard_waiting o)) frees.was, frees.how.places, frees.how.some some) in
    subst (λ (m : ℕ). all_waiting n (waits_of c) < m) (same_all n (waits_of a) (waits_of b) (λ j under. same j))
    (fewer_all n stripe (waits_of b) (waits_of c) below less (λ j ne. ap (option_map shard_waiting) (frees.others j ne)))

-- WHAT SEATS WERE TOLD

pub heard_none : (v : View) → HasHeard v v
heard_none v = record { more = []; notes = refl }

tried_heard_if : (worn : Bool) (v w : View) → HasTriedAll worn v w → HasHeard v w
tried_heard_if true v w tried = record { more = Worn ∷ []; notes = tried.notes }
tried_heard_if false v w tried = record { more = []; notes = tried.notes }

pub heard_more : (worn : Bool) (u v w : View) → HasHeard u v → HasTriedAll worn v w → HasHeard u w
heard_more worn u v w heard tried =
    let one = tried_heard_if worn v w tried in
    record { more = one.more ++ heard.more; notes = one.notes ∙ ap (λ (l : List Note). one.more ++ l) heard.notes ∙ sym (append_assoc one.more heard.more u.notes) }

pub heard_worn : (worn : Bool) (u v w : View) → HasHeard u v → HasTriedAll worn v w → worn ≡ true → HasHeardWorn u w
heard_worn true u v w heard tried is = record { more = heard.more; notes = tried.notes ∙ ap (λ (l : List Note). Worn ∷ l) heard.notes }
heard_worn false u v w heard tried is = absurd (cc is)

-- WHAT IS STILL SO

is_there : {R : Type 0} (o : Option (Shard R)) (log : HybridLog) → option_map shard_log o ≡ Some log → IsSome o
is_there None log e = absurd (cc e)
is_there (Some part) log e = refl

pub full_there : {R : Type 0} (parts : ℕ → Option (Shard R)) (stripe : ℕ) → IsFullAt (logs_of parts) stripe → IsSome (parts stripe)
full_there {R} parts stripe full = is_there (parts stripe) full.log full.there

some_value : {T : Type 0} (x y : T) → Some x ≡ Some y → x ≡ y
some_value {T} x y e = ap (λ (o : Option T). unwrap_or o x) e

was_there : {T : Type 0} (a b : Option T) → ((new : T) → b ≡ Some new → (old : T) × (a ≡ Some old)) → IsSome b → IsSome a
was_there {T} a None was some = absurd (cc some)
was_there {T} a (Some new) was some = let old = was new refl in subst (λ (o : Option T). IsSome o) (sym old.1) refl

module _ {T : Type 0} (meaning : Meaning T) (n : ℕ) where
  -- what keys have is as it was, where nothing was written
  joined_still : (a b : Option T) (key : Bytes) → (IsSome a → IsSome b)
      → ((new : T) → b ≡ Some new → (old : T) × (a ≡ Some old) × (meaning.store new key ≡ meaning.store old key)) → value_in meaning key b ≡ value_in meaning key a
  joined_still None None key there was = refl
  joined_still None (Some new) key there was = absurd (cc (was new refl).1)
  joined_still (Some old) None key there was = absurd (cc (there refl))
  joined_still (Some old) (Some new) key there was =
      let same = was new refl in same.2 ∙ ap (λ (p : T). meaning.store p key) (sym (some_value old same.0 same.1))

  pub joined_same : (a b : ℕ → Option T) (key : Bytes) → Became meaning n [] stays a b → joined meaning n b key ≡ joined meaning n a key
  joined_same a b key became =
      joined_still (a (stripe_of n key)) (b (stripe_of n key)) key (became.there (stripe_of n key))
      (λ new is. let was = became.was (stripe_of n key) new is in (was.0, was.1, was.2.here key refl))

  marks_still : (a b : Option T) (key : Bytes) (number : ℕ) → (IsSome a → IsSome b)
      → ((new : T) → b ≡ Some new → (old : T) × (a ≡ Some old) × (meaning.marks new key number ≡ meaning.marks old key number)) → mark_in meaning key number b ≡ mark_in meaning key number a
  marks_still None None key number there was = refl
  marks_still None (Some new) key number there was = absurd (cc (was new refl).1)
  marks_still (Some old) None key number there was = absurd (cc (there refl))
  marks_still (Some old) (Some new) key number there was =
      let same = was new refl in same.2 ∙ ap (λ (p : T). meaning.marks p key number) (sym (some_value old same.0 same.1))

  pub marks_same : (a b : ℕ → Option T) (key : Bytes) (number : ℕ) → Became meaning n [] stays a b → joined_marks meaning n b key number ≡ joined_marks meaning n a key number
  marks_same a b key number became =
      marks_still (a (stripe_of n key)) (b (stripe_of n key)) key number (became.there (stripe_of n key))
      (λ new is. let was = became.was (stripe_of n key) new is in (was.0, was.1, was.2.marks key number refl))

  pub short_same : (a b : ℕ → Option T) → Became meaning n [] stays a b → AllShort (joined meaning n a) → AllShort (joined meaning n b)
  short_same a b became short key = subst IsShort (sym (joined_same a b key became)) (short key)

  pub stand_same : (a b : ℕ → Option T) (seen : History) (number : ℕ) (watched : List Pair) → Became meaning n [] stays a b → Stand meaning n a seen number watched
      → Stand meaning n b seen number watched
  stand_same a b seen number watched became stand = record {
    read = became_read meaning n [] stays a b (after seen) became stand.read;
    marked = λ i part is key at. let was = became.was i part is in was.2.marks key number at ∙ stand.marked i was.0 was.1 key at;
  }

  -- the parts that there are now there were before
  there_before : (keys : List Bytes) (a b : ℕ → Option T) → Became meaning n [] stays a b → AreThere n b keys → AreThere n a keys
  there_before [] a b became there = tt
  there_before (key ∷ keys) a b became there = (was_there (a (stripe_of n key)) (b (stripe_of n key)) (λ new is. let was = became.was (stripe_of n key) new is in (was.0, was.1)) there.0, there_before keys a b became there.1)

  unmarked_before : (keys : List Bytes) (own : ℕ) (a b : ℕ → Option T) → Became meaning n [] stays a b → AreUnmarked (joined_marks meaning n b) own keys → AreUnmarked (joined_marks meaning n a) own keys
  unmarked_before [] own a b became none = tt
  unmarked_before (key ∷ keys) own a b became none = (sym (marks_same a b key own became) ∙ none.0, unmarked_before keys own a b became none.1)

  -- what was begun since was not begun before
  pub begun_after : (own : ℕ) (keys : List Bytes) (a b c : ℕ → Option T) → Became meaning n [] stays a b → HasBegun meaning n own keys b c → HasBegun meaning n own keys a c
  begun_after own keys a b c became begun = record {
    became = became_both meaning n [] [] stays (begins own keys) (begins own keys) a b c (λ key number m. refl) became begun.became;
    there = there_before keys a b became begun.there;
    unwatched = unmarked_before keys own a b became begun.unwatched;
  }

  pub begins_after : (own : ℕ) (keys : List Bytes) (a b c : ℕ → Option T) → Became meaning n [] stays a b → Became meaning n [] (begins own keys) b c → Became meaning n [] (begins own keys) a c
  begins_after own keys a b c became begun = became_both meaning n [] [] stays (begins own keys) (begins own keys) a b c (λ key number m. refl) became begun

placed_same : (s u : Store) (command : Command) → ((key : Bytes) → u key ≡ s key) → IsPlannedInPlace s command → IsPlannedInPlace u command
placed_same s u (Get key) same placed = subst (λ (v : Option Bytes). length (unwrap_or v []) ≤ WORD_INLINE) (sym (same key)) placed
placed_same s u command same placed = (placed.0, subst (λ (v : Option Bytes). IsBrief placed.0 v command) (sym (same placed.0)) placed.1)

-- what a call needs on the same store
pub needs_same : (s u : Store) (call : Call) → ((key : Bytes) → u key ≡ s key) → NeedsNoMemoryOn s call → NeedsNoMemoryOn u call
needs_same s u (One command) same needs = placed_same s u command same needs
needs_same s u (Watch keys) same needs = absurd needs
needs_same s u (Exec commands watching) same needs = absurd needs
needs_same s u (Forget watching) same needs = absurd needs

-- a stripe that is that of a key is one of all
pub below_all : (n stripe : ℕ) (key : Bytes) → 1 ≤ n → stripe ≡ stripe_of n key → stripe < n
below_all n stripe key some is = omega (arith, is, stripe_below n key some)

-- a call that is asked on parts is asked on parts that read the same
pub asks_after : {R : Type 0} (contents : Meaning (Shard R)) (n : ℕ) (a b : ℕ → Option (Shard R)) (holder : ℕ) (call : Call) (seen : History) (operation : Operation) → Became contents n [] stays a b
    → AsksOn contents n a holder call seen operation → AsksOn contents n b holder call seen operation
asks_after contents n a b holder call seen operation became asks = record {
  asked = asks.asked;
  watched = asks.watched;
  short = short_same contents n a b became asks.short;
  asks = asks.asks;
  stand = stand_same contents n a b seen holder asks.watched became asks.stand;
  ends = asks.ends;
  once = asks.once;
  is = asks.is;
}
