-- What was looked up, of keys and then of more.
use Rattle.std.proofs.Common.{◌≡◌, ◌∙◌, ◌≤◌, ◌||◌, unwrap_or, bytes_eq, cond, zero, suc, ℕ, List, [], ◌∷◌, ◌++◌, Option, Some, nat_eq, length, append_assoc, refl, sym, ap, subst, true, false, ne_eqb, arith}
use Rattle.std.specs.Map.{update}
use Rattle.words.specs.declared.command.Command.{Command}
use Rattle.words.specs.Commands.{keys_of}
use Rattle.strings.specs.Overlays.{NeedsNoMemory}
use Rattle.transact.specs.Memory.{of_one_key}
use Rattle.words.specs.Store.{Bytes, Store, Write, empty, written}
use Rattle.words.specs.History.{is_among}
use Rattle.words.specs.Stripes.{stripe_of}
use Rattle.hybrid.specs.HybridLog.{HybridLog, Kept}
use Rattle.hybrid.specs.Lookups.{Leads}
use Rattle.hybrid.specs.Staging.{StagedPage}
use Rattle.transact.specs.Tables.{values_of}
use Rattle.shards.specs.declared.shard.Shard.{Shard}
use Rattle.std.specs.Prelude.{slice_get, Result, Ok, Err, IfErr}
use Rattle.plans.specs.declared.stop.Stop.{Stop}
use Rattle.plans.specs.declared.stop.Stop.TheVariants as stop
use Rattle.shards.specs.Shards.{logs_of, shard_log}
use Rattle.plans.specs.Sizes.{AllShort, AreShort, IsShort}
use Rattle.plans.specs.Stops.{Each, HasFound, IfCold, IsCold, IsNeeded, IsWanted, IsWantedFor, IsNotEmpty}
use Rattle.words.specs.declared.word.TheConstants.{WORD_INLINE}
use Rattle.gates.specs.Rule.{Meaning}
use Rattle.transact.specs.Tables.{joined}
use Rattle.shards.specs.Shards.{shard_store}
use Rattle.plans.specs.Finding.{MissedFor, WantsPage}
use Rattle.plans.specs.Memory.{AreAtHand}
use Rattle.plans.specs.Planning.{AreWanted, AreWantedAt, HasMissed, MatchStop, MissedAt, of_copied, of_get}
use Rattle.plans.proofs.Hand.{hand_of}
use Rattle.plans.proofs.Logs.{log_at}
use Rattle.plans.proofs.Stores.{or_false, or_left, or_right, same_key, some_is}
use Rattle.plans.proofs.Keys.{values_of-append}

pub each_both : (P : Kept → Type 0) (a b : List Kept) → Each P a → Each P b → Each P (a ++ b)
each_both P [] b one two = two
each_both P (k ∷ a) b one two = (one.0, each_both P a b one.1 two)

pub each_as : (P Q : Kept → Type 0) (a : List Kept) → ((k : Kept) → P k → Q k) → Each P a → Each Q a
each_as P Q [] f all = tt
each_as P Q (k ∷ a) f all = (f k all.0, each_as P Q a f all.1)

none_first : (a b : List Kept) → a ++ b ≡ [] → a ≡ []
none_first [] b e = refl
none_first (k ∷ a) b e = absurd (cc e)

none_second : (a b : List Kept) → a ++ b ≡ [] → b ≡ []
none_second [] b e = e
none_second (k ∷ a) b e = absurd (cc e)

append_none : {X : Type 0} (a : List X) → a ≡ a ++ []
append_none [] = refl
append_none (x ∷ a) = ap (λ l. x ∷ l) (append_none a)

pub short_more : (ws : List Write) (w : Write) → AreShort ws → IsShort w.1 → AreShort (ws ++ w ∷ [])
short_more [] w short brief = (brief, tt)
short_more (first ∷ ws) w short brief = (short.0, short_more ws w short.1 brief)

short_update : (store : Store) (w : Write) → AllShort store → IsShort w.1 → AllShort (update bytes_eq store w.0 w.1)
short_update store w all brief key = elim (bytes_eq w.0 key) as (λ b. IsShort (cond b w.1 (store key))) [ true ↦ brief | false ↦ all key ]

-- a store of values that are short, with writes of such
pub short_written : (ws : List Write) (store : Store) → AllShort store → AreShort ws → AllShort (written store ws)
short_written [] store all short = all
short_written (w ∷ ws) store all short = short_written ws (update bytes_eq store w.0 w.1) (short_update store w all short.0) short.1

-- what was found shows a store whose values are short
pub short_found : (W : Kept → Type 0) (Right : Type 0) (store : Store) (keys : List Bytes) (c0 c1 : List Kept) (f0 f1 : List Write) → HasFound W Right store keys c0 c1 f0 f1 → f0 ≡ []
    → AllShort (written empty f1)
short_found W Right store keys c0 c1 f0 f1 found none = short_written f1 empty (λ key. omega arith) (found.short (subst AreShort (sym none) tt))

-- nothing was looked up
pub found_none : (W : Kept → Type 0) (Right : Type 0) (store : Store) (c : List Kept) (f : List Write) → HasFound W Right store [] c c f f
found_none W Right store c f = record { more = []; joins = append_none c; wanted = tt; finds = λ right none. append_none f; short = λ short. short }

-- one key was found
pub found_one : (W : Kept → Type 0) (Right : Type 0) (store : Store) (key : Bytes) (value : Option Bytes) (c : List Kept) (f0 f1 : List Write) → f1 ≡ f0 ++ (key, value) ∷ []
    → (Right → store key ≡ value) → IsShort value → HasFound W Right store (key ∷ []) c c f0 f1
found_one W Right store key value c f0 f1 is has brief = record {
  more = [];
  joins = append_none c;
  wanted = tt;
  finds = λ right none. is ∙ ap (λ (v : Option Bytes). f0 ++ (key, v) ∷ []) (sym (has right));
  short = λ short. subst AreShort (sym is) (short_more f0 (key, value) short brief);
}

-- a page is wanted
pub found_cold : (W : Kept → Type 0) (Right : Type 0) (store : Store) (keys : List Bytes) (kept : Kept) (c0 c1 : List Kept) (f : List Write) → c1 ≡ c0 ++ kept ∷ [] → W kept
    → HasFound W Right store keys c0 c1 f f
found_cold W Right store keys kept c0 c1 f joins is = record { more = kept ∷ []; joins = joins; wanted = (is, tt); finds = λ right none. absurd (cc none); short = λ short. short }

-- keys, and then more
pub found_both : (W : Kept → Type 0) (Right : Type 0) (store : Store) (a b : List Bytes) (c0 c1 c2 : List Kept) (f0 f1 f2 : List Write) → HasFound W Right store a c0 c1 f0 f1 → HasFound W Right store b c1 c2 f1 f2
    → HasFound W Right store (a ++ b) c0 c2 f0 f2
found_both W Right store a b c0 c1 c2 f0 f1 f2 one two = record {
  more = one.more ++ two.more;
  joins = two.joins ∙ ap (λ (c : List Kept). c ++ two.more) one.joins ∙ append_assoc c0 one.more two.more;
  wanted = each_both W one.more two.more one.wanted two.wanted;
  finds = λ right none.
      two.finds right (none_second one.more two.more none) ∙ ap (λ (f : List Write). f ++ values_of store b) (one.finds right (none_first one.more two.more none))
      ∙ append_assoc f0 (values_of store a) (values_of store b) ∙ ap (λ (f : List Write). f0 ++ f) (sym (values_of-append store a b));
  short = λ short. two.short (one.short short);
}

-- by what is wanted of a part, what is wanted of parts
pub found_as : (V W : Kept → Type 0) (Right Other : Type 0) (store other : Store) (key : Bytes) (c0 c1 : List Kept) (f0 f1 : List Write) → ((k : Kept) → V k → W k) → (Other → Right) → store key ≡ other key
    → HasFound V Right store (key ∷ []) c0 c1 f0 f1 → HasFound W Other other (key ∷ []) c0 c1 f0 f1
found_as V W Right Other store other key c0 c1 f0 f1 turn right_so same found = record {
  more = found.more;
  joins = found.joins;
  wanted = each_as V W found.more turn found.wanted;
  finds = λ right none. found.finds (right_so right) none ∙ ap (λ (v : Option Bytes). f0 ++ (key, v) ∷ []) same;
  short = found.short;
}

-- what is wanted of the part of a key is cold
pub cold_of : {R : Type 0} (n : ℕ) (parts : ℕ → Option (Shard R)) (key : Bytes) (part : Shard R) (staged : List StagedPage) → parts (stripe_of n key) ≡ Some part → (k : Kept)
    → IsWanted (shard_log part) staged k → IsCold n (logs_of parts) (key ∷ []) staged k
cold_of {R} n parts key part staged there k is =
    record { key = key; named = ap (λ b. b || false) (same_key key); log = shard_log part; there = log_at parts (stripe_of n key) part there; wanted = is }

pub needed_of : {R : Type 0} (Right : Type 0) (n : ℕ) (parts : ℕ → Option (Shard R)) (key : Bytes) (part : Shard R) (staged : List StagedPage) → parts (stripe_of n key) ≡ Some part → (k : Kept)
    → IsWantedFor Right (shard_log part) key staged k → IsNeeded Right n (logs_of parts) (key ∷ []) staged k
unfolding cold_of
needed_of {R} Right n parts key part staged there k is = record { cold = cold_of n parts key part staged there k is.wanted; leads = is.leads }

-- what is needed is cold
pub cold_needed : (Right : Type 0) (n : ℕ) (logs : ℕ → Option HybridLog) (keys : List Bytes) (staged : List StagedPage) (receipts : List Kept) → Each (IsNeeded Right n logs keys staged) receipts
    → Each (IsCold n logs keys staged) receipts
cold_needed Right n logs keys staged receipts all = each_as (IsNeeded Right n logs keys staged) (IsCold n logs keys staged) receipts (λ k is. is.cold) all

-- and so it is for more keys
cold_more : (n : ℕ) (logs : ℕ → Option HybridLog) (a b : List Bytes) (staged : List StagedPage) → ((key : Bytes) → is_among a key ≡ true → is_among b key ≡ true)
    → (k : Kept) → IsCold n logs a staged k → IsCold n logs b staged k
cold_more n logs a b staged within k is = record { key = is.key; named = within is.key is.named; log = is.log; there = is.there; wanted = is.wanted }

needed_more : (Right : Type 0) (n : ℕ) (logs : ℕ → Option HybridLog) (a b : List Bytes) (staged : List StagedPage) → ((key : Bytes) → is_among a key ≡ true → is_among b key ≡ true)
    → (k : Kept) → IsNeeded Right n logs a staged k → IsNeeded Right n logs b staged k
unfolding cold_more
needed_more Right n logs a b staged within k is = record { cold = cold_more n logs a b staged within k is.cold; leads = is.leads }

pub found_within : (n : ℕ) (logs : ℕ → Option HybridLog) (a b : List Bytes) (staged : List StagedPage) (Right : Type 0) (store : Store) (keys : List Bytes) (c0 c1 : List Kept) (f0 f1 : List Write)
    → ((key : Bytes) → is_among a key ≡ true → is_among b key ≡ true) → HasFound (IsNeeded Right n logs a staged) Right store keys c0 c1 f0 f1 → HasFound (IsNeeded Right n logs b staged) Right store keys c0 c1 f0 f1
found_within n logs a b staged Right store keys c0 c1 f0 f1 within found =
    record { more = found.more; joins = found.joins; wanted = each_as (IsNeeded Right n logs a staged) (IsNeeded Right n logs b staged) found.more (needed_more Right n logs a b staged within) found.wanted; finds = found.finds; short = found.short }

-- the same of all that are wanted for one key
pub stop_as : {A R : Type 0} (V W : Kept → Type 0) (r : Result A (Stop R)) → ((k : Kept) → V k → W k) → IfErr r (λ s. IfCold s (λ wanted. IsNotEmpty wanted × Each V wanted))
    → IfErr r (λ s. IfCold s (λ wanted. IsNotEmpty wanted × Each W wanted))
stop_as V W (Ok a) turn is = tt
stop_as V W (Err stop.OutOfMemory) turn is = tt
stop_as V W (Err stop.DeviceFault) turn is = tt
stop_as V W (Err (stop.StoreFull stripe)) turn is = tt
stop_as V W (Err (stop.Cold wanted)) turn is = (is.0, each_as V W wanted turn is.1)

pub stop_each : {A R : Type 0} (W : Kept → Type 0) (r : Result A (Stop R)) → IfErr r (λ s. IfCold s (λ wanted. IsNotEmpty wanted × Each W wanted)) → IfErr r (λ s. IfCold s (Each W))
stop_each W (Ok a) is = tt
stop_each W (Err stop.OutOfMemory) is = tt
stop_each W (Err stop.DeviceFault) is = tt
stop_each W (Err (stop.StoreFull stripe)) is = tt
stop_each W (Err (stop.Cold wanted)) is = is.1

-- a key is among those of which it is one
pub among_at : (keys : List Bytes) (place : ℕ) (key : Bytes) → slice_get keys place ≡ Some key → (k : Bytes) → is_among (key ∷ []) k ≡ true → is_among keys k ≡ true
among_at [] place key is k named = absurd (cc is)
among_at (first ∷ keys) zero key is k named =
    subst (λ (x : Bytes). (bytes_eq x k || is_among keys k) ≡ true) (sym (some_is first key (Some first) refl is)) (or_left (bytes_eq key k) (is_among keys k) (sym (or_false (bytes_eq key k)) ∙ named))
among_at (first ∷ keys) (suc place) key is k named = or_right (bytes_eq first k) (is_among keys k) (among_at keys place key is k named)

among_first : (a b : List Bytes) (k : Bytes) → is_among a k ≡ true → is_among (a ++ b) k ≡ true
among_first [] b k e = absurd (cc e)
among_first (first ∷ a) b k e = elim (bytes_eq first k) as (λ t. (t || is_among a k) ≡ true → (t || is_among (a ++ b) k) ≡ true) [
  | true ↦ λ x. refl
  | false ↦ λ x. among_first a b k x
] e

among_second : (a b : List Bytes) (k : Bytes) → is_among b k ≡ true → is_among (a ++ b) k ≡ true
among_second [] b k e = e
among_second (first ∷ a) b k e = or_right (bytes_eq first k) (is_among (a ++ b) k) (among_second a b k e)

-- the keys of the first command, and of the others, are among those of all
pub within_first : (a b all : List Bytes) → ((k : Bytes) → is_among (a ++ b) k ≡ true → is_among all k ≡ true) → (k : Bytes) → is_among a k ≡ true → is_among all k ≡ true
within_first a b all within k e = within k (among_first a b k e)

pub within_second : (a b all : List Bytes) → ((k : Bytes) → is_among (a ++ b) k ≡ true → is_among all k ≡ true) → (k : Bytes) → is_among b k ≡ true → is_among all k ≡ true
within_second a b all within k e = within k (among_second a b k e)

-- where no receipt joined, all was found
pub all_found : (W : Kept → Type 0) (Right : Type 0) (store : Store) (keys : List Bytes) (c0 c1 : List Kept) (f0 f1 : List Write) → HasFound W Right store keys c0 c1 f0 f1 → c1 ≡ [] → Right → f1 ≡ f0 ++ values_of store keys
all_found W Right store keys c0 c1 f0 f1 found none right = found.finds right (none_second c0 found.more (sym found.joins ∙ none))

-- where receipts joined none, they are all wanted
pub all_wanted : (W : Kept → Type 0) (Right : Type 0) (store : Store) (keys : List Bytes) (c0 c1 : List Kept) (f0 f1 : List Write) → HasFound W Right store keys c0 c1 f0 f1 → c0 ≡ [] → Each W c1
all_wanted W Right store keys c0 c1 f0 f1 found none = subst (Each W) (sym (found.joins ∙ ap (λ (c : List Kept). c ++ found.more) none)) found.wanted

pub some_wanted : (c : List Kept) → nat_eq (length c) 0 ≡ false → IsNotEmpty c
some_wanted [] e = absurd (cc e)
some_wanted (k ∷ c) e = tt

pub no_wanted : (c : List Kept) → nat_eq (length c) 0 ≡ true → c ≡ []
no_wanted [] e = refl
no_wanted (k ∷ c) e = absurd (cc (sym e ∙ ne_eqb (length (k ∷ c)) 0 (λ z. absurd (omega (arith, z)))))

-- a key that was not found in its part was not found in the parts
pub missed_of : {A R : Type 0} (r : Result A (Stop R)) (lends Right : Type 0) (contents : Meaning (Shard R)) (n : ℕ) (parts : ℕ → Option (Shard R)) (key : Bytes) (part : Shard R) (staged : List StagedPage)
    → parts (stripe_of n key) ≡ Some part → shard_store part key ≡ joined contents n parts key → IfErr r (MissedAt lends Right part key staged)
    → IfErr r (HasMissed lends Right n (of_get contents n parts key) staged (logs_of parts))
missed_of (Ok value) lends Right contents n parts key part staged there same missed = tt
missed_of (Err stop.OutOfMemory) lends Right contents n parts key part staged there same missed = λ right hand brief.
    missed right (hand_of lends n parts key part staged there hand) (subst (λ (v : Option Bytes). length (unwrap_or v []) ≤ WORD_INLINE) (sym same) brief)
missed_of (Err stop.DeviceFault) lends Right contents n parts key part staged there same missed = absurd missed
missed_of (Err (stop.Cold receipts)) lends Right contents n parts key part staged there same missed =
    let P : Kept → Type 0 = IsWantedFor Right (shard_log part) key staged in
    let C : Kept → Type 0 = IsCold n (logs_of parts) (key ∷ []) staged in
    let N : Kept → Type 0 = IsNeeded Right n (logs_of parts) (key ∷ []) staged in
    record {
      cold = (missed.some, each_as P C receipts (λ k is. cold_of n parts key part staged there k is.wanted) missed.each);
      needed = each_as P N receipts (needed_of Right n parts key part staged there) missed.each;
      unlent = missed.unlent;
    }
missed_of (Err (stop.StoreFull stripe)) lends Right contents n parts key part staged there same missed = absurd missed

-- a lookup that is cold was missed
pub missed_cold : {R : Type 0} (s : Stop R) (lends Right Memory : Type 0) (log : HybridLog) (key : Bytes) (staged : List StagedPage) (number : ℕ) → (Right → Leads log key number) → (lends → ⊥) → Memory
    → WantsPage log staged number s → MatchStop s (AreWantedAt lends Right log key staged) Memory ⊥ (λ stripe. ⊥)
missed_cold (stop.Cold receipts) lends Right Memory log key staged number leads unlent memory wants =
    let one : receipts ≡ wants.kept ∷ [] = wants.joins in
    record {
      some = subst IsNotEmpty (sym one) tt;
      each = subst (λ (l : List Kept). Each (IsWantedFor Right log key staged) l) (sym one) (record { wanted = wants.wanted; leads = λ right. subst (λ (i : ℕ). Leads log key i) (sym wants.number_is) (leads right) }, tt);
      unlent = unlent;
    }
missed_cold stop.OutOfMemory lends Right Memory log key staged number leads unlent memory wants = memory
missed_cold stop.DeviceFault lends Right Memory log key staged number leads unlent memory wants = absurd wants
missed_cold (stop.StoreFull stripe) lends Right Memory log key staged number leads unlent memory wants = absurd wants

-- a command that names one key alone was missed where its key was
pub missed_for : {A R : Type 0} (r : Result A (Stop R)) (lends Right : Type 0) (contents : Meaning (Shard R)) (n : ℕ) (parts : ℕ → Option (Shard R)) (key : Bytes) (command : Command) (part : Shard R) (staged : List StagedPage)
    → keys_of command ≡ key ∷ [] → parts (stripe_of n key) ≡ Some part → shard_store part key ≡ joined contents n parts key → IfErr r (MissedFor lends Right part key command staged)
    → IfErr r (HasMissed lends Right n (of_copied contents n parts command) staged (logs_of parts))
missed_for (Ok value) lends Right contents n parts key command part staged one there same missed = tt
missed_for (Err stop.OutOfMemory) lends Right contents n parts key command part staged one there same missed = λ right hand brief.
    let is : brief.0 ∷ [] ≡ key ∷ [] = sym brief.1.keys ∙ one in
    let named : brief.0 ≡ key = cc is in
    missed right (hand_of lends n parts key part staged there (subst (λ (l : List Bytes). AreAtHand lends n (logs_of parts) l staged) one hand))
    (subst (λ (v : Option Bytes). NeedsNoMemory (of_one_key key v) command) (sym same) (subst (λ (k : Bytes). NeedsNoMemory (of_one_key k (joined contents n parts k)) command) named brief.1.texts))
missed_for (Err stop.DeviceFault) lends Right contents n parts key command part staged one there same missed = absurd missed
missed_for (Err (stop.Cold receipts)) lends Right contents n parts key command part staged one there same missed =
    let P : Kept → Type 0 = IsWantedFor Right (shard_log part) key staged in
    let C : Kept → Type 0 = IsCold n (logs_of parts) (key ∷ []) staged in
    let N : Kept → Type 0 = IsNeeded Right n (logs_of parts) (key ∷ []) staged in
    subst (λ (l : List Bytes). AreWanted lends Right n l staged (logs_of parts) receipts) (sym one) (record {
      cold = (missed.some, each_as P C receipts (λ k is. cold_of n parts key part staged there k is.wanted) missed.each);
      needed = each_as P N receipts (needed_of Right n parts key part staged there) missed.each;
      unlent = missed.unlent;
    })
missed_for (Err (stop.StoreFull stripe)) lends Right contents n parts key command part staged one there same missed = absurd missed

-- what one key has shows a store whose values are short
pub short_one : (key : Bytes) (value : Option Bytes) → IsShort value → AllShort (written empty ((key, value) ∷ []))
short_one key value short = short_written ((key, value) ∷ []) empty (λ k. omega arith) (short, tt)
