-- What entries that leave a stripe leave, by the laws of histories.
use Rattle.std.proofs.Common.{◌≡◌, ◌<◌, ◌+◌, ℕ, Some, Bool, true, false, List, [], ◌∷◌, ◌++◌, Option, None, cond, refl, ap, ◌∙◌}
use Rattle.std.specs.Prelude.{if◌then◌else◌}
use Rattle.std.specs.Map.{update}
use Rattle.std.specs.Str.{bytes_eq}
use Rattle.words.specs.declared.history.Entry.{Entry}
use Rattle.words.specs.Store.{Bytes, Store, Write, written}
use Rattle.words.specs.History.{History, Pair, after, is_written, writes_of, was_not_done, keys_named}
use Rattle.words.specs.Watches.{mark_of, mark_at, watched_at}
use Rattle.words.specs.Stripes.{stripe_of, IsPart, AreElsewhere}
use Rattle.words.specs.Locality.{AreSameAt, IsNoneOf, NoEntryNames, NamesNone}
use Rattle.gates.specs.Laws.{Laws}
use Rattle.gates.specs.Sets.{times}
use Rattle.gates.specs.Rule.{AllLeave, AreHeld}

-- a key of a stripe is none of those of others
pub none_elsewhere : (stripes stripe : ℕ) (keys : List Bytes) (key : Bytes) → AreElsewhere stripes stripe keys → stripe_of stripes key ≡ stripe → IsNoneOf keys key
none_elsewhere stripes stripe [] key away here = tt
none_elsewhere stripes stripe (first ∷ keys) key away here =
    ((λ same. away.0 (ap (stripe_of stripes) same ∙ here)), none_elsewhere stripes stripe keys key away.1 here)

-- entries that leave a stripe do not name its keys
pub no_entry_names : (stripes stripe : ℕ) (more : History) (key : Bytes) → AllLeave stripes stripe more → stripe_of stripes key ≡ stripe → NoEntryNames more key
no_entry_names stripes stripe [] key all here = tt
no_entry_names stripes stripe (entry ∷ more) key all here =
    (none_elsewhere stripes stripe (keys_named entry.operation) key all.0 here, no_entry_names stripes stripe more key all.1 here)

-- nor keys of held stripes, where they leave each of these
pub names_none : (stripes : ℕ) (held : List ℕ) (more : History) → ((stripe : ℕ) → 0 < times stripe held → AllLeave stripes stripe more)
    → (keys : List Bytes) → AreHeld stripes held keys → NamesNone more keys
names_none stripes held more leave [] all = tt
names_none stripes held more leave (key ∷ keys) all =
    (no_entry_names stripes (stripe_of stripes key) more key (leave (stripe_of stripes key) all.0) refl, names_none stripes held more leave keys all.1)

-- writes leave two stores the same at a key at which they were
written_same : (writes : List Write) (one other : Store) (key : Bytes) → one key ≡ other key → written one writes key ≡ written other writes key
written_same [] one other key same = same
written_same (write ∷ writes) one other key same =
    written_same writes (update bytes_eq one write.0 write.1) (update bytes_eq other write.0 write.1) key
    (ap (λ value. cond (bytes_eq write.0 key) write.1 value) same)

module _ (laws : Laws) where
  -- entries that leave a stripe leave its keys
  pub after_left : (stripes stripe : ℕ) (more seen : History) (key : Bytes) → AllLeave stripes stripe more → stripe_of stripes key ≡ stripe
      → after (more ++ seen) key ≡ after seen key
  after_left stripes stripe more seen key all here = laws.keys more seen key (no_entry_names stripes stripe more key all here)

  -- a part stays a part after them
  pub part_left : (stripes stripe : ℕ) (part : Store) (more seen : History) → AllLeave stripes stripe more
      → IsPart stripes stripe part (after seen) → IsPart stripes stripe part (after (more ++ seen))
  part_left stripes stripe part [] seen all reads = reads
  part_left stripes stripe part (entry ∷ more) seen all reads =
      laws.parts stripes stripe part entry (more ++ seen) all.0 (part_left stripes stripe part more seen all.1 reads)

  same_at : (keys : List Bytes) (more seen : History) → NamesNone more keys → AreSameAt keys (after (more ++ seen)) (after seen)
  same_at [] more seen none = tt
  same_at (key ∷ keys) more seen none = (laws.keys more seen key none.0, same_at keys more seen none.1)

  -- an entry writes after them what it wrote before
  pub writes_left : (entry : Entry) (more seen : History) → NamesNone more (keys_named entry.operation)
      → writes_of (after (more ++ seen)) entry ≡ writes_of (after seen) entry
  writes_left entry more seen none =
      ap (λ all. if was_not_done entry.reply then [] else all.1)
      (laws.depends entry.operation (after (more ++ seen)) (after seen) (same_at (keys_named entry.operation) more seen none))

  -- and leaves the same at a key that they leave
  pub entry_left : (entry : Entry) (more seen : History) (key : Bytes) → NamesNone more (keys_named entry.operation) → after (more ++ seen) key ≡ after seen key
      → after (entry ∷ (more ++ seen)) key ≡ after (entry ∷ seen) key
  entry_left entry more seen key none same =
      ap (λ writes. written (after (more ++ seen)) writes key) (writes_left entry more seen none)
      ∙ written_same (writes_of (after seen) entry) (after (more ++ seen)) (after seen) key same

  -- which keys of the stripe were written stays as it was, and so do marks
  pub written_left : (stripes stripe : ℕ) (more seen : History) (start : ℕ) (key : Bytes) → AllLeave stripes stripe more → stripe_of stripes key ≡ stripe
      → is_written (more ++ seen) start key ≡ is_written seen start key
  written_left stripes stripe [] seen start key all here = refl
  written_left stripes stripe (entry ∷ more) seen start key all here =
      laws.written stripes stripe entry (more ++ seen) start key all.0 here ∙ written_left stripes stripe more seen start key all.1 here

  mark_of_left : (stripes stripe : ℕ) (more seen : History) (key : Bytes) (old : Option ℕ) → AllLeave stripes stripe more → stripe_of stripes key ≡ stripe
      → mark_of (more ++ seen) key old ≡ mark_of seen key old
  mark_of_left stripes stripe more seen key None all here = refl
  mark_of_left stripes stripe more seen key (Some position) all here = ap Some (written_left stripes stripe more seen (position + 1) key all here)

  pub mark_left : (stripes stripe : ℕ) (more seen : History) (pairs : List Pair) (key : Bytes) → AllLeave stripes stripe more → stripe_of stripes key ≡ stripe
      → mark_at (more ++ seen) pairs key ≡ mark_at seen pairs key
  mark_left stripes stripe more seen pairs key all here = mark_of_left stripes stripe more seen key (watched_at pairs key) all here

-- what the empty store has, whether a key is asked for or not
pub none_both : (b : Bool) (value : Option Bytes) → value ≡ None → cond b value None ≡ None
none_both true value e = e
none_both false value e = refl
