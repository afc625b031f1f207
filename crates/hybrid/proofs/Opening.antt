-- How a stripe's value changes when a page is opened behind the tail page.
use Rattle.std.proofs.Common.{◌≡◌, ℕ, zero, suc, ◌+◌, ◌-◌, ◌<◌, ◌≤◌, List, [], ◌∷◌, ◌++◌, length, take, map, slice_index, Option, Some, None, refl, sym, ap, ◌∙◌, subst, arith, length-append, append_assoc, ◌*◌}
use Rattle.std.specs.Prelude.{slice_index_or, IsSome, option_map}
use Rattle.std.specs.List.{All}
use Rattle.std.proofs.lemmas.List.{map-append, length-map, get_or_append_left, take-append-le, length-take-le}
use Rattle.hybrid.specs.declared.stripe.TheConstants.{LAST_PAGE}
use Rattle.records.specs.Page.{empty_page, number_of}
use Rattle.records.specs.Records.{Stored, records_of, IsLaidOut}
use Rattle.frames.specs.Resident.{Resident, next_number, with_opened, IsEmptyPage}
use Rattle.hybrid.specs.Log.{Log, log_from, page_log, newest_first, AllLaid, IsLinked, Joins, begin_of, IsShort}
use Rattle.hybrid.specs.HybridLog.{HybridLog, Kept, IsHybridLog, pages_of, log_of, shown_page, cold, count_kept, bucket_of, with_page_opened}

pub page_log-empty : (n : ℕ) (page : List ℕ) → records_of page ≡ [] → page_log n page ≡ []
unfolding page_log
page_log-empty n page e = ap (newest_first n) e

log-open : (n : ℕ) (pages : List (List ℕ)) (page : List ℕ) → records_of page ≡ [] → log_from n (pages ++ page ∷ []) ≡ log_from n pages
unfolding log_from
log-open n [] page e = page_log-empty n page e
log-open n (p ∷ pages) page e = ap (λ (l : Log). l ++ page_log n p) (log-open (n + 1) pages page e)

laid-open : (n : ℕ) (pages : List (List ℕ)) (page : List ℕ) → AllLaid n pages → IsLaidOut page → number_of page ≡ n + length pages → AllLaid n (pages ++ page ∷ [])
laid-open n [] page all laid number = (laid, omega (arith, number), tt)
laid-open n (p ∷ pages) page all laid number = (all.0, all.1, laid-open (n + 1) pages page all.2 laid (omega (arith, number)))

count-more : (l : List (Option Kept)) → count_kept (l ++ None ∷ []) ≡ count_kept l
count-more [] = refl
count-more (None ∷ l) = count-more l
count-more (Some k ∷ l) = ap suc (count-more l)

pub opened-count : {X : Type 0} (f : X → Kept) (items : List (Option X)) → count_kept (map (option_map f) (items ++ None ∷ [])) ≡ count_kept (map (option_map f) items)
opened-count f items = ap count_kept (map-append (option_map f) items (None ∷ [])) ∙ count-more (map (option_map f) items)

beyond : (l : List (Option Kept)) (i : ℕ) (k : Kept) → slice_index_or (l ++ None ∷ []) i None ≡ Some k → slice_index_or l i None ≡ Some k
beyond [] zero k h = h
beyond [] (suc i) k h = h
beyond (x ∷ l) zero k h = h
beyond (x ∷ l) (suc i) k h = beyond l i k h

pub record IsOpened (p : HybridLog) : Type 0 where
  pub part : IsHybridLog (with_page_opened p)
  pub log : log_of (with_page_opened p) ≡ log_of p

pub opened : (p : HybridLog) → IsHybridLog p → length p.resident.pages < p.resident.frames → next_number p.resident ≤ 2 * LAST_PAGE → IsEmptyPage (next_number p.resident) (empty_page (next_number p.resident)) → IsOpened p
opened p is room few empty =
    let new : HybridLog = with_page_opened p in
    let fits : cold p ≤ length p.kept = omega (arith, is.numbered, is.live) in
    let cold_pages : List (List ℕ) = map shown_page (take (cold p) p.kept) in
    let pages : pages_of new ≡ pages_of p ++ empty_page (next_number p.resident) ∷ [] =
    ap (λ (l : List (Option Kept)). map shown_page l ++ (p.resident.pages ++ empty_page (next_number p.resident) ∷ [])) (take-append-le (cold p) p.kept (None ∷ []) fits) ∙ sym (append_assoc cold_pages p.resident.pages (empty_page (next_number p.resident) ∷ [])) in
    let log : log_of new ≡ log_of p = ap (log_from p.oldest) pages ∙ log-open p.oldest (pages_of p) (empty_page (next_number p.resident)) empty.records in
    let count : length (pages_of p) ≡ cold p + length p.resident.pages = length-append cold_pages p.resident.pages ∙ ap (λ (n : ℕ). n + length p.resident.pages) (length-map (take (cold p) p.kept) shown_page ∙ length-take-le (cold p) p.kept fits) in
    let more : length (p.resident.pages ++ empty_page (next_number p.resident) ∷ []) ≡ length p.resident.pages + 1 = length-append p.resident.pages (empty_page (next_number p.resident) ∷ []) in
    record {
      part = record {
        numbered = omega (arith, is.numbered, more, length-append p.kept (None ∷ []));
        live = is.live;
        tail = omega (arith, more);
        enough = is.enough;
        fits = omega (arith, more, room);
        shared = is.shared;
        buckets = is.buckets;
        laid = subst (AllLaid p.oldest) (sym pages) (laid-open p.oldest (pages_of p) (empty_page (next_number p.resident)) is.laid empty.laid_out (omega (arith, empty.numbered, count, is.live)));
        linked = subst (IsLinked (bucket_of p) (begin_of p.oldest)) (sym log) is.linked;
        joined = λ b within. subst (λ (l : Log). Joins (bucket_of p) (begin_of p.oldest) (slice_index p.heads b) l b) (sym log) (is.joined b within);
        cold_kept = λ i below. subst (λ (o : Option Kept). IsSome o) (sym (get_or_append_left p.kept (None ∷ []) None i (omega (arith, fits, below)))) (is.cold_kept i below);
        shows = λ i k from h.
            let was = is.shows i k from (beyond p.kept i k h) in
            (was.0 ∙ sym (get_or_append_left p.resident.pages (empty_page (next_number p.resident) ∷ []) [] (p.oldest + i - p.resident.oldest) (omega (arith, was.1, is.live, from, is.enough, is.tail))), omega (arith, was.1, more));
        counted = omega (arith, is.counted, count-more p.kept);
        few = omega (arith, few, more);
        short = subst (All (λ (e : ℕ × Stored). IsShort e.1)) (sym log) is.short;
        limited = is.limited;
      };
      log = log;
    }

-- how many are kept: the cold ones, each with a receipt, and one entry a resident page
all-cold : (l : List (Option Kept)) (c : ℕ) → c ≤ length l → ((i : ℕ) → i < c → IsSome (slice_index_or l i None)) → c ≤ count_kept l
all-cold l zero le f = omega arith
all-cold [] (suc c) le f = absurd (omega arith)
all-cold (None ∷ l) (suc c) le f = absurd (let bad : IsSome (slice_index_or (None ∷ l) 0 None) = f 0 (omega arith) in cc)
all-cold (Some k ∷ l) (suc c) le f = omega (arith, all-cold l c (omega arith) (λ i lt. f (suc i) (omega arith)))

pub kept-fits : (p : HybridLog) → IsHybridLog p → length p.kept ≤ p.places + length p.resident.pages
kept-fits p is = omega (arith, is.numbered, is.live, is.counted, is.limited, all-cold p.kept (cold p) (omega (arith, is.numbered, is.live)) is.cold_kept)

-- the same from the stripe's fields
pub opened-from : {X : Type 0} (f : X → Kept) (items : List (Option X)) (v now : HybridLog) (frames : Resident) → v ≡ now → IsHybridLog v → v.kept ≡ map (option_map f) items → 0 < now.resident.frames - length now.resident.pages → next_number now.resident ≤ 2 * LAST_PAGE
    → frames ≡ with_opened v.resident → IsEmptyPage (next_number v.resident) (empty_page (next_number v.resident))
    → IsHybridLog (record v { kept = map (option_map f) (items ++ None ∷ []); resident = frames })
opened-from f items v now frames same is e room few fr empty =
    let room_v : length v.resident.pages < v.resident.frames = subst (λ (q : HybridLog). length q.resident.pages < q.resident.frames) (sym same) (omega arith) in
    let few_v : next_number v.resident ≤ 2 * LAST_PAGE = subst (λ (q : HybridLog). next_number q.resident ≤ 2 * LAST_PAGE) (sym same) few in
    let o = opened v is room_v few_v empty in
    let lists : v.kept ++ None ∷ [] ≡ map (option_map f) (items ++ None ∷ []) = ap (λ (l : List (Option Kept)). l ++ None ∷ []) e ∙ sym (map-append (option_map f) items (None ∷ [])) in
    subst (λ (l : List (Option Kept)). IsHybridLog (record v { kept = l; resident = frames })) lists (subst (λ (r : Resident). IsHybridLog (record v { kept = v.kept ++ None ∷ []; resident = r })) (sym fr) o.part)

pub kept-room : {X : Type 0} (f : X → Kept) (items : List (Option X)) (v : HybridLog) → IsHybridLog v → v.kept ≡ map (option_map f) items → length v.resident.pages < v.resident.frames → length items < v.places + v.resident.frames
kept-room f items v is e room = omega (arith, kept-fits v is, ap length e, length-map items (option_map f))

pub opened-log-from : {X : Type 0} (f : X → Kept) (items new_items : List (Option X)) (v now : HybridLog) (frames : Resident) → v ≡ now → IsHybridLog v → v.kept ≡ map (option_map f) items → 0 < now.resident.frames - length now.resident.pages → next_number now.resident ≤ 2 * LAST_PAGE
    → frames ≡ with_opened v.resident → IsEmptyPage (next_number v.resident) (empty_page (next_number v.resident)) → new_items ≡ items ++ None ∷ []
    → log_of (record v { kept = map (option_map f) new_items; resident = frames }) ≡ log_of now
opened-log-from f items new_items v now frames same is e room few fr empty more =
    let room_v : length v.resident.pages < v.resident.frames = subst (λ (q : HybridLog). length q.resident.pages < q.resident.frames) (sym same) (omega arith) in
    let few_v : next_number v.resident ≤ 2 * LAST_PAGE = subst (λ (q : HybridLog). next_number q.resident ≤ 2 * LAST_PAGE) (sym same) few in
    let o = opened v is room_v few_v empty in
    let lists : v.kept ++ None ∷ [] ≡ map (option_map f) new_items = ap (λ (l : List (Option Kept)). l ++ None ∷ []) e ∙ sym (map-append (option_map f) items (None ∷ [])) ∙ ap (map (option_map f)) (sym more) in
    ap (λ (l : List (Option Kept)). log_of (record v { kept = l; resident = frames })) (sym lists) ∙ ap (λ (r : Resident). log_of (record v { kept = v.kept ++ None ∷ []; resident = r })) fr ∙ o.log ∙ ap (λ (q : HybridLog). log_of q) same
