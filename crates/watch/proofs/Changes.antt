-- Marks, from one change to the next.
use Rattle.std.proofs.Common.{◌≡◌, ℕ, zero, suc, ◌≤◌, Bool, true, false, cond, not, ◌||◌, ◌&&◌, List, [], ◌∷◌, ◌++◌, map, length, drop, slice_set, slice_index_or, arith, Option, Some, None, refl, sym, ap, ◌∙◌, nat_eq, if◌then◌else◌}
use Rattle.std.specs.Bool.{Decides}
use Rattle.std.specs.BTreeMap.{BTreeMap, get, is_at}
use Rattle.std.specs.BTreeMap.{WritesThrough, Updates, IsUnchanged}
use Rattle.std.specs.Prelude.{is_some, IsSome}
use Rattle.std.specs.Cmp.{unsigned_Decides, eq_by_cmp_equiv}
use Rattle.std.specs.Cmp.Lexicographic.{slice_cmp, nat_list_cmp_total}
use Rattle.std.specs.List.{filter, list_any, IsDistinct}
use Rattle.std.specs.Map.{lookup, keys_of, values_of}
use Rattle.std.specs.Map.Calls.{RetainsPairs}
use Rattle.std.specs.Ordering.{is_eq, nat_cmp, eq_by_cmp}
use Rattle.std.specs.Str.{bytes_eq}
use Rattle.std.proofs.lemmas.Slice.Eq.{bytes_eq-Decides}
use Rattle.std.proofs.lemmas.Map.{lookup-none}
use Rattle.std.proofs.lemmas.Map.Entries.{none_past_head}
use Rattle.std.proofs.lemmas.Map.Keys.{IsDistinct-tail}
use Rattle.std.proofs.lemmas.Map.Text.{is_eq-slice_cmp}
use Rattle.words.specs.Store.{Bytes}
use Rattle.words.specs.Watches as watches
use Rattle.words.specs.Watches.{touched, begun}
use Rattle.watch.specs.declared.seats.Mark.{Mark}
use Rattle.watch.specs.declared.seats.Seats.{Seats}
use Rattle.watch.specs.Marked.{mark_among, mark_of_seat, mark_there, are_these, says_written, cleared, AreNone, HasWritten}

-- a mark of which is said that it is written
abbrev pub made_written : Mark → Mark
made_written mark = record { seat = mark.seat; written = true }

touched_if : (b : Bool) (written : Bool) (rest : Option Bool)
    → (if b then Some true else touched true rest) ≡ touched true (if b then Some written else rest)
touched_if true written rest = refl
touched_if false written rest = refl

-- once each is made written, each seat's mark is
pub all_written : (marks : List Mark) (s : ℕ) → mark_among (map made_written marks) s ≡ touched true (mark_among marks s)
all_written [] s = refl
all_written (mark ∷ marks) s =
    ap (λ (rest : Option Bool). if nat_eq mark.seat s then Some true else rest) (all_written marks s)
    ∙ touched_if (nat_eq mark.seat s) mark.written (mark_among marks s)

-- the first of these made written, as many as this
abbrev pub written_up_to : ℕ → List Mark → List Mark
written_up_to zero marks = marks
written_up_to (suc n) [] = []
written_up_to (suc n) (mark ∷ marks) = made_written mark ∷ written_up_to n marks

-- one more is made written
pub written_more : (marks : List Mark) (n : ℕ) (none : Mark)
    → slice_set (written_up_to n marks) n (made_written (slice_index_or (written_up_to n marks) n none)) ≡ written_up_to (suc n) marks
written_more [] zero none = refl
written_more (mark ∷ marks) zero none = refl
written_more [] (suc n) none = refl
written_more (mark ∷ marks) (suc n) none = ap (λ rest. made_written mark ∷ rest) (written_more marks n none)

-- all of them are
pub all_written_up_to : (marks : List Mark) (n : ℕ) → length marks ≤ n → written_up_to n marks ≡ map made_written marks
all_written_up_to [] zero all = refl
all_written_up_to [] (suc n) all = refl
all_written_up_to (mark ∷ marks) zero all = absurd (omega (arith, all))
all_written_up_to (mark ∷ marks) (suc n) all = ap (λ rest. made_written mark ∷ rest) (all_written_up_to marks n (omega (arith, all)))

not_equal : (a b : ℕ) → (a ≡ b → ⊥) → nat_eq a b ≡ false
not_equal a b apart =
    elim (nat_eq a b) as (λ test. Decides test (a ≡ b) → test ≡ false) [
      | true ↦ λ same. absurd (apart (same.0 refl))
      | false ↦ λ other. refl
    ] (unsigned_Decides a b)

-- a mark of another seat says nothing of this one
pub passed_over : (first : Mark) (marks : List Mark) (seat : ℕ) → (first.seat ≡ seat → ⊥) → mark_among (first ∷ marks) seat ≡ mark_among marks seat
passed_over first marks seat other = ap (λ (b : Bool). if b then Some first.written else mark_among marks seat) (not_equal first.seat seat other)

-- no mark is left where none of the others is
pub none_left : (marks : List Mark) (n : ℕ) → n ≡ length marks → nat_eq n 0 ≡ true → (s : ℕ) → mark_among marks s ≡ None
none_left [] n is none s = refl
none_left (mark ∷ marks) n is none s = let zero = (unsigned_Decides n 0).0 none in absurd (omega (arith, is, zero))

-- the first of these and the others, taken apart
pub taken_apart : (marks others : List Mark) (first : Mark) (n : ℕ) → n ≡ length marks → nat_eq n 0 ≡ false → first ≡ slice_index_or marks 0 first
    → others ≡ drop 1 marks → first ∷ others ≡ marks
taken_apart [] others first n empty some is rest = absurd (cc (sym some ∙ (unsigned_Decides n 0).1 empty))
taken_apart (mark ∷ marks) others first n count some is rest = λ i. is i ∷ rest i

-- one value, or else another
abbrev or_else : Option Bool → Option Bool → Option Bool
or_else None other = other
or_else (Some one) other = Some one

or_else_if : (test : Bool) (written : Bool) (new old other : Option Bool) → new ≡ or_else old other
    → (if test then Some written else new) ≡ or_else (if test then Some written else old) other
or_else_if true written new old other is = refl
or_else_if false written new old other is = is

-- a mark at the end counts where there is none before it
at_end : (marks : List Mark) (last : Mark) (s : ℕ) → mark_among (marks ++ last ∷ []) s ≡ or_else (mark_among marks s) (if nat_eq last.seat s then Some last.written else None)
at_end [] last s = refl
at_end (mark ∷ marks) last s = or_else_if (nat_eq mark.seat s) mark.written _ _ _ (at_end marks last s)

begun_there : (test : Bool) (old : Option Bool) → (test ≡ true → old ≡ None) → or_else old (if test then Some false else None) ≡ (if test then begun old else old)
begun_there true old none = ap (λ (mark : Option Bool). or_else mark (Some false)) (none refl) ∙ sym (ap begun (none refl))
begun_there false None none = refl
begun_there false (Some mark) none = refl

-- a mark that is not written, put at the end for a seat that has none
pub put_last : (marks : List Mark) (seat : ℕ) → mark_among marks seat ≡ None
    → (s : ℕ) → mark_among (marks ++ record { seat = seat; written = false } ∷ []) s ≡ (if nat_eq seat s then begun (mark_among marks s) else mark_among marks s)
put_last marks seat none s =
    at_end marks (record { seat = seat; written = false }) s
    ∙ begun_there (nat_eq seat s) (mark_among marks s) (λ same. ap (mark_among marks) (sym ((unsigned_Decides seat s).0 same)) ∙ none)

-- whether a mark is of another seat
abbrev pub is_of_other : ℕ → Mark → Bool
is_of_other seat mark = not (nat_eq mark.seat seat)

kept_other : (one two : Bool) → (one ≡ true → two ≡ true → ⊥) → (written : Bool) (new old : Option Bool) → new ≡ cleared two old
    → (if one then Some written else new) ≡ cleared two (if one then Some written else old)
kept_other true true apart written new old is = absurd (apart refl refl)
kept_other true false apart written new old is = refl
kept_other false two apart written new old is = is

gone : (two : Bool) (written : Bool) (new old : Option Bool) → new ≡ cleared two old
    → new ≡ cleared two (if two then Some written else old)
gone true written new old is = is
gone false written new old is = is

pub cleared_none : (b : Bool) → cleared b None ≡ None
cleared_none true = refl
cleared_none false = refl

-- a seat's marks are gone, and the others are as they were
pub others_kept : (seat : ℕ) (marks : List Mark) (s : ℕ) → mark_among (filter (is_of_other seat) marks) s ≡ cleared (nat_eq seat s) (mark_among marks s)
others_kept seat [] s = sym (cleared_none (nat_eq seat s))
others_kept seat (mark ∷ marks) s =
    elim (nat_eq mark.seat seat) as (λ test. Decides test (mark.seat ≡ seat)
    → mark_among (cond (not test) (mark ∷ filter (is_of_other seat) marks) (filter (is_of_other seat) marks)) s
    ≡ cleared (nat_eq seat s) (if nat_eq mark.seat s then Some mark.written else mark_among marks s)) [
      | true ↦ λ same. rw (same.0 refl) (gone (nat_eq seat s) mark.written _ _ (others_kept seat marks s))
      | false ↦ λ other. kept_other (nat_eq mark.seat s) (nat_eq seat s)
          (λ one two. absurd (cc (other.1 ((unsigned_Decides mark.seat s).0 one ∙ sym ((unsigned_Decides seat s).0 two)))))
          mark.written _ _ (others_kept seat marks s)
    ] (unsigned_Decides mark.seat seat)

-- the first mark is kept, of another seat
pub one_kept : (seat : ℕ) (first : Mark) (old new : List Mark) → new ≡ filter (is_of_other seat) old → (first.seat ≡ seat → ⊥)
    → (s : ℕ) → mark_among (first ∷ new) s ≡ cleared (nat_eq seat s) (mark_among (first ∷ old) s)
one_kept seat first old new is other s =
    ap (λ (b : Bool). mark_among (cond (not b) (first ∷ new) new) s) (sym (not_equal first.seat seat other))
    ∙ ap (λ (marks : List Mark). mark_among (cond (is_of_other seat first) (first ∷ marks) marks) s) is
    ∙ others_kept seat (first ∷ old) s

-- the first mark is gone, of the seat itself
pub one_gone : (seat : ℕ) (first : Mark) (old new : List Mark) → new ≡ filter (is_of_other seat) old → first.seat ≡ seat
    → (s : ℕ) → mark_among new s ≡ cleared (nat_eq seat s) (mark_among (first ∷ old) s)
one_gone seat first old new is same s =
    ap (λ (b : Bool). mark_among (cond (not b) (first ∷ new) new) s) (sym ((unsigned_Decides first.seat seat).1 same))
    ∙ ap (λ (marks : List Mark). mark_among (cond (is_of_other seat first) (first ∷ marks) marks) s) is
    ∙ others_kept seat (first ∷ old) s

twice : (test : Bool) (one two : Option Seats) → cond test None (cond test one two) ≡ cond test None two
twice true one two = refl
twice false one two = refl

-- the marks of a key in a map, if it has any
abbrev pub place_in : BTreeMap Bytes Seats → Bytes → Option Seats
place_in keys = get (slice_cmp nat_cmp) keys

-- the same among its entries
abbrev pub entry_of : Bytes → List (Bytes × Seats) → Option Seats
entry_of key entries = lookup (is_at (slice_cmp nat_cmp key)) entries

-- what the entries of a map say
abbrev pub said_there : List (Bytes × Seats) → watches.Marks
said_there entries key = mark_there (entry_of key entries)

-- what is said of a key's marks once one key's place is changed
pub changed : (change : Bool → ℕ → Option Bool → Option Bool) → ((s : ℕ) (mark : Option Bool) → change false s mark ≡ mark)
    → (old new : Bytes → Option Seats) (key : Bytes) (place : Option Seats) → ((k : Bytes) → new k ≡ cond (bytes_eq key k) place (old k))
    → ((s : ℕ) → mark_there place s ≡ change true s (mark_there (old key) s))
    → (k : Bytes) (s : ℕ) → mark_there (new k) s ≡ change (bytes_eq key k) s (mark_there (old k) s)
changed change leaves old new key place is there k s =
    ap (λ p. mark_there p s) (is k)
    ∙ elim (bytes_eq key k) as (λ test. Decides test (key ≡ k) → mark_there (cond test place (old k)) s ≡ change test s (mark_there (old k) s)) [
      | true ↦ λ same. there s ∙ ap (λ q. change true s (mark_there (old q) s)) (same.0 refl)
      | false ↦ λ other. sym (leaves s (mark_there (old k) s))
    ] (bytes_eq-Decides key k)

-- a place that is none, taken away
pub nothing_there : (old new : Bytes → Option Seats) (key : Bytes) → ((k : Bytes) → new k ≡ old k) → old key ≡ None → (k : Bytes) → new k ≡ cond (bytes_eq key k) None (old k)
nothing_there old new key same none k =
    same k
    ∙ elim (bytes_eq key k) as (λ test. Decides test (key ≡ k) → old k ≡ cond test None (old k)) [
      | true ↦ λ is. ap old (sym (is.0 refl)) ∙ none
      | false ↦ λ other. refl
    ] (bytes_eq-Decides key k)

-- the same, of what a map lends
pub lent : (change : Bool → ℕ → Option Bool → Option Bool) → ((s : ℕ) (mark : Option Bool) → change false s mark ≡ mark)
    → (old new : BTreeMap Bytes Seats) (key : Bytes) (before after : Seats) → Some before ≡ place_in old key
    → WritesThrough (slice_cmp nat_cmp) (slice_cmp nat_cmp key) old after new
    → ((s : ℕ) → mark_of_seat after s ≡ change true s (mark_of_seat before s))
    → (k : Bytes) (s : ℕ) → mark_there (place_in new k) s ≡ change (bytes_eq key k) s (mark_there (place_in old k) s)
lent change leaves old new key before after was writes there =
    changed change leaves (place_in old) (place_in new) key (Some after)
    (λ k. (writes.3 (ap is_some (sym was))).0 k ∙ ap (λ test. cond test (Some after) (place_in old k)) (is_eq-slice_cmp key k))
    (λ s. there s ∙ ap (λ place. change true s (mark_there place s)) was)

-- the same, where the key has no marks
pub not_there : (change : Bool → ℕ → Option Bool → Option Bool) → ((s : ℕ) (mark : Option Bool) → change false s mark ≡ mark) → ((s : ℕ) → change true s None ≡ None)
    → (old new : BTreeMap Bytes Seats) (key : Bytes) → None ≡ place_in old key → new ≡ old
    → (k : Bytes) (s : ℕ) → mark_there (place_in new k) s ≡ change (bytes_eq key k) s (mark_there (place_in old k) s)
not_there change leaves nothing old new key none same =
    changed change leaves (place_in old) (place_in new) key None
    (nothing_there (place_in old) (place_in new) key (λ k. ap (λ keys. place_in keys k) same) (sym none))
    (λ s. sym (nothing s) ∙ ap (λ place. change true s (mark_there place s)) none)

-- the same, where a seat's mark is the only one of its key, and the key is taken away
pub removed : (seat : ℕ) (old between new : BTreeMap Bytes Seats) (key : Bytes) (before after : Seats) → Some before ≡ place_in old key
    → WritesThrough (slice_cmp nat_cmp) (slice_cmp nat_cmp key) old after between
    → ((s : ℕ) → cleared (nat_eq seat s) (mark_of_seat before s) ≡ None)
    → Updates (slice_cmp nat_cmp) between new key None
    → (k : Bytes) (s : ℕ) → mark_there (place_in new k) s ≡ cleared (bytes_eq key k && nat_eq seat s) (mark_there (place_in old k) s)
removed seat old between new key before after was writes none removes =
    changed (λ b s mark. cleared (b && nat_eq seat s) mark) (λ s mark. refl) (place_in old) (place_in new) key None
    (λ k. removes.0 k
    ∙ ap (λ place. cond (is_eq (slice_cmp nat_cmp key k)) None place) ((writes.3 (ap is_some (sym was))).0 k)
    ∙ twice (is_eq (slice_cmp nat_cmp key k)) (Some after) (place_in old k)
    ∙ ap (λ test. cond test None (place_in old k)) (is_eq-slice_cmp key k))
    (λ s. sym (none s) ∙ ap (λ place. cleared (nat_eq seat s) (mark_there place s)) was)

-- the same, where the key gets its first mark
pub first_added : (seat : ℕ) (old between new : BTreeMap Bytes Seats) (key : Bytes) (seats : Seats) → None ≡ place_in old key → between ≡ old
    → ((s : ℕ) → mark_of_seat seats s ≡ (if nat_eq seat s then Some false else None))
    → Updates (slice_cmp nat_cmp) between new key (Some seats)
    → (k : Bytes) (s : ℕ) → mark_there (place_in new k) s
    ≡ (if are_these key seat k s then begun (mark_there (place_in old k) s) else mark_there (place_in old k) s)
first_added seat old between new key seats none same is updates =
    changed (λ b s mark. if b && nat_eq seat s then begun mark else mark) (λ s mark. refl) (place_in old) (place_in new) key (Some seats)
    (λ k. updates.0 k
    ∙ ap (λ keys. cond (is_eq (slice_cmp nat_cmp key k)) (Some seats) (place_in keys k)) same
    ∙ ap (λ test. cond test (Some seats) (place_in old k)) (is_eq-slice_cmp key k))
    (λ s. is s ∙ ap (λ place. if nat_eq seat s then begun (mark_there place s) else mark_there place s) none)

-- what a refused growth leaves
pub as_it_was : (old between new : BTreeMap Bytes Seats) → between ≡ old → IsUnchanged between new
    → (k : Bytes) (s : ℕ) → mark_there (place_in new k) s ≡ mark_there (place_in old k) s
as_it_was old between new same unchanged k s = ap (λ entries. said_there entries k s) unchanged ∙ ap (λ keys. mark_there (place_in keys k) s) same

-- a key with no marks has no mark of a seat
pub none_of_key : (old : BTreeMap Bytes Seats) (key : Bytes) (seat : ℕ) → None ≡ place_in old key → None ≡ mark_there (place_in old key) seat
none_of_key old key seat none = ap (λ place. mark_there place seat) none

pub not_some : (mark : Option Bool) → None ≡ mark → IsSome mark → ⊥
not_some None none some = absurd (cc some)
not_some (Some mark) none some = cc none

pub touched_not : (mark : Option Bool) → touched false mark ≡ mark
touched_not None = refl
touched_not (Some mark) = refl

pub nothing_said : (entries : List (Bytes × Seats)) → length entries ≡ 0 → AreNone (said_there entries)
nothing_said [] none key s = refl
nothing_said (entry ∷ entries) none key s = absurd (omega (arith, none))

equal_to_itself : (key : Bytes) → is_eq (slice_cmp nat_cmp key key) ≡ true
equal_to_itself key = is_eq-slice_cmp key key ∙ (bytes_eq-Decides key key).1 refl

-- the first entry's key has the first entry's marks
first_said : (entry : Bytes × Seats) (entries : List (Bytes × Seats)) (s : ℕ) → said_there (entry ∷ entries) entry.0 s ≡ mark_of_seat entry.1 s
first_said entry entries s = ap (λ (test : Bool). mark_there (cond test (Some entry.1) (entry_of entry.0 entries)) s) (equal_to_itself entry.0)

first_seat : (seats : Seats) → mark_of_seat seats seats.first.seat ≡ Some seats.first.written
first_seat seats = ap (λ (test : Bool). if test then Some seats.first.written else mark_among seats.others.items seats.first.seat) ((unsigned_Decides seats.first.seat seats.first.seat).1 refl)

some_is_there : (written : Bool) → Some written ≡ None → ⊥
some_is_there written is = cc is

pub no_entries : (entries : List (Bytes × Seats)) → AreNone (said_there entries) → length entries ≡ 0
no_entries [] none = refl
no_entries (entry ∷ entries) none =
    absurd (some_is_there entry.1.first.written (sym (first_seat entry.1) ∙ sym (first_said entry entries entry.1.first.seat) ∙ none entry.0 entry.1.first.seat))

-- no key stands twice among the entries
abbrev pub AreOfDistinct : List (Bytes × Seats) → Type 0
AreOfDistinct entries = IsDistinct (eq_by_cmp (slice_cmp nat_cmp)) (keys_of entries)

-- a key that is the first one's is none of the others'
no_other : (key : Bytes) (entry : Bytes × Seats) (entries : List (Bytes × Seats)) → AreOfDistinct (entry ∷ entries) → is_eq (slice_cmp nat_cmp key entry.0) ≡ true
    → entry_of key entries ≡ None
no_other key entry entries distinct is =
    lookup-none (is_at (slice_cmp nat_cmp key)) entries (none_past_head (eq_by_cmp_equiv nat_list_cmp_total) key entry entries distinct is)

-- whether a key's marks say that the seat's is written
abbrev pub says_of : ℕ → Seats → Bool
says_of seat seats = says_written (mark_of_seat seats seat)

is_written_there : (mark : Option Bool) → says_written mark ≡ true → mark ≡ Some true
is_written_there None says = absurd (cc says)
is_written_there (Some written) says = ap Some says

abbrev Found : ℕ → List (Bytes × Seats) → Type 0
Found seat entries = HasWritten (said_there entries) seat

found_later : (seat : ℕ) (entry : Bytes × Seats) (entries : List (Bytes × Seats)) → AreOfDistinct (entry ∷ entries) → Found seat entries → Found seat (entry ∷ entries)
found_later seat entry entries distinct found = (
  found.0,
  elim (is_eq (slice_cmp nat_cmp found.0 entry.0))
      as (λ test. is_eq (slice_cmp nat_cmp found.0 entry.0) ≡ test → mark_there (cond test (Some entry.1) (entry_of found.0 entries)) seat ≡ Some true) [
        | true ↦ λ same. absurd (some_is_there true (sym found.1 ∙ ap (λ place. mark_there place seat) (no_other found.0 entry entries distinct same)))
        | false ↦ λ other. found.1
      ] refl,
)

pub some_written : (seat : ℕ) (entries : List (Bytes × Seats)) → AreOfDistinct entries → list_any (says_of seat) (values_of entries) ≡ true → Found seat entries
some_written seat [] distinct any = absurd (cc any)
some_written seat (entry ∷ entries) distinct any =
    elim (says_of seat entry.1) as (λ test. says_of seat entry.1 ≡ test → (test || list_any (says_of seat) (values_of entries)) ≡ true → Found seat (entry ∷ entries)) [
      | true ↦ λ says any. (entry.0, first_said entry entries seat ∙ is_written_there (mark_of_seat entry.1 seat) says)
      | false ↦ λ says any. found_later seat entry entries distinct (some_written seat entries (IsDistinct-tail _ _ _ distinct) any)
    ] refl any

true_after : (b : Bool) → (b || true) ≡ true
true_after true = refl
true_after false = refl

pub written_found : (seat : ℕ) (key : Bytes) (entries : List (Bytes × Seats)) → said_there entries key seat ≡ Some true → list_any (says_of seat) (values_of entries) ≡ true
written_found seat key [] is = absurd (some_is_there true (sym is))
written_found seat key (entry ∷ entries) is =
    elim (is_eq (slice_cmp nat_cmp key entry.0))
    as (λ test. mark_there (cond test (Some entry.1) (entry_of key entries)) seat ≡ Some true
    → (says_of seat entry.1 || list_any (says_of seat) (values_of entries)) ≡ true) [
      | true ↦ λ here. ap (λ mark. says_written mark || list_any (says_of seat) (values_of entries)) here
      | false ↦ λ later. ap (λ b. says_of seat entry.1 || b) (written_found seat key entries later) ∙ true_after (says_of seat entry.1)
    ] is

-- what a call leaves of a key's marks, where it takes out a seat's: these, or none
pub record Leaves (seat : ℕ) (before : Seats) (some : Bool) (after : Seats) : Type 0 where
  pub kept : some ≡ true → (s : ℕ) → mark_of_seat after s ≡ cleared (nat_eq seat s) (mark_of_seat before s)
  pub none : some ≡ false → (s : ℕ) → cleared (nat_eq seat s) (mark_of_seat before s) ≡ None

nothing_cleared : (seat s : ℕ) (place : Option Seats) → place ≡ None → cleared (nat_eq seat s) (mark_there place s) ≡ None
nothing_cleared seat s place none = ap (λ p. cleared (nat_eq seat s) (mark_there p s)) none ∙ cleared_none (nat_eq seat s)

-- at the entry's own key
here_cleared : (seat : ℕ) (entry : Bytes × Seats) (entries : List (Bytes × Seats)) (after : Seats) (rest : List (Bytes × Seats)) (some : Bool) (key : Bytes) (s : ℕ)
    → Leaves seat entry.1 some after → is_eq (slice_cmp nat_cmp key entry.0) ≡ true → entry_of key entries ≡ None
    → said_there rest key s ≡ cleared (nat_eq seat s) (said_there entries key s)
    → said_there (cond some ((entry.0, after) ∷ rest) rest) key s ≡ cleared (nat_eq seat s) (mark_of_seat entry.1 s)
here_cleared seat entry entries after rest true key s leaves same none others =
    ap (λ (test : Bool). mark_there (cond test (Some after) (entry_of key rest)) s) same ∙ leaves.kept refl s
here_cleared seat entry entries after rest false key s leaves same none others =
    others ∙ nothing_cleared seat s _ none ∙ sym (leaves.none refl s)

-- at another key
there_cleared : (entry : Bytes × Seats) (after : Seats) (rest : List (Bytes × Seats)) (some : Bool) (key : Bytes) (s : ℕ)
    → is_eq (slice_cmp nat_cmp key entry.0) ≡ false → said_there (cond some ((entry.0, after) ∷ rest) rest) key s ≡ said_there rest key s
there_cleared entry after rest true key s other =
    ap (λ (test : Bool). mark_there (cond test (Some after) (entry_of key rest)) s) other
there_cleared entry after rest false key s other = refl

-- the seat's marks are gone from all entries, and the others are as they were
pub all_cleared : (seat : ℕ) {F : Type 0} (T : F → Bytes → Seats → Bool → Seats → F → Type 0) (I : F → Type 0)
    → ((f : F) (key : Bytes) (seats : Seats) (some : Bool) (after : Seats) (g : F) → I f → T f key seats some after g → Leaves seat seats some after × I g)
    → (f : F) (entries kept : List (Bytes × Seats)) → I f → AreOfDistinct entries → RetainsPairs T f entries kept
    → (key : Bytes) (s : ℕ) → said_there kept key s ≡ cleared (nat_eq seat s) (said_there entries key s)
all_cleared seat T I calls f [] kept so distinct retains key s =
    ap (λ entries. said_there entries key s) retains ∙ sym (cleared_none (nat_eq seat s))
all_cleared seat T I calls f (entry ∷ entries) kept so distinct (some, after, g, rest, call, retains, is) key s =
    let left = calls f entry.0 entry.1 some after g so call in
    let others = all_cleared seat T I calls g entries rest left.1 (IsDistinct-tail _ _ _ distinct) retains key s in
    ap (λ entries. said_there entries key s) is
    ∙ elim (is_eq (slice_cmp nat_cmp key entry.0))
    as (λ test. is_eq (slice_cmp nat_cmp key entry.0) ≡ test → said_there (cond some ((entry.0, after) ∷ rest) rest) key s
    ≡ cleared (nat_eq seat s) (mark_there (cond test (Some entry.1) (entry_of key entries)) s)) [
      | true ↦ λ same. here_cleared seat entry entries after rest some key s left.0 same (no_other key entry entries distinct same) others
      | false ↦ λ other. there_cleared entry after rest some key s other ∙ others
    ] refl
