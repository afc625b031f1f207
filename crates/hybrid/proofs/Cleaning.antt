-- How the live records of the oldest page are copied.
use Rattle.std.proofs.Common.{◌≡◌, ℕ, ◌+◌, ◌*◌, ◌<◌, ◌≤◌, ◌⊎◌, inl, inr, ◌-◌, ◌/◌, ◌%◌, length, take, drop, slice_index, List, [], ◌∷◌, ◌++◌, Some, refl, sym, ap, ◌∙◌, subst, arith}
use Rattle.std.specs.List.{Contains}
use Rattle.std.proofs.lemmas.List.Elements.{Contains-append_cases}
use Rattle.std.proofs.lemmas.Bool.{cases_Bool}
use Rattle.std.specs.Prelude.{slice_index_or, Option, None, IsSome}
use Rattle.records.specs.Fields.{u16_at, u32_at}
use Rattle.records.specs.Page.{used_end}
use Rattle.records.specs.Records.{Stored, size_of, placed, end_from, records_of, IsLaidOut, value_bytes, value_of_kind, fields_at, IsRecordAt}
use Rattle.hybrid.proofs.Placed.{Split, split_at, placed-append, end_from-append, end_from-le}
use Rattle.hybrid.specs.Log.{Log, newest, IsAppended, begin_of}
use Rattle.std.proofs.Common.{true, false, ◌==◌, Bool, cond, zero-add, append_assoc}
use Rattle.std.proofs.lemmas.List.{length-take}
use Rattle.records.specs.declared.entries.TheConstants.{KEY_BYTES_MAX, RECORD_HEADER}
use Rattle.words.specs.declared.limits.TheConstants.{WEIGHT_OF_KEY}
use Rattle.records.specs.declared.pages.TheConstants.{PAGE_SIZE, HEADER_SIZE}
use Rattle.hybrid.specs.HybridLog.{IsGrown, HasRoom, HybridLog, head_of, log_of, SameContents}
use Rattle.hybrid.specs.Staging.{IsLive, IsDead, IsCopied, IsGoneOver, AreAdded, AreShort, AreMarked}
use Rattle.hybrid.specs.Writing.{IsAdded, write_weight}
use Rattle.hybrid.specs.Weighing.{lives, live_weight}
use Rattle.hybrid.proofs.Tail.{grown-none, grown-more}
use Rattle.hybrid.proofs.Parts.{right}
use Rattle.hybrid.proofs.Logs.{some_is, cons_cases, here, there, newest-put, newest-put_same, contents-newest, contents-alike}

-- ---- going over the records of a page

-- a record begins here, or the used part ends
abbrev pub IsPlace : List (ℕ × Stored) → ℕ → ℕ → Type 0
IsPlace records end at = (at ≡ end) ⊎ ((r : Stored) × Contains records (at, r))

placed-from : (start : ℕ) (rs : List Stored) (o : ℕ) (r : Stored) → Contains (placed start rs) (o, r) → (start ≤ o) × (o + size_of r ≤ end_from start rs)
placed-from start [] o r c = absurd (omega (arith, c.1))
placed-from start (x ∷ rs) o r c =
    elim (cons_cases (start, x) (placed (start + size_of x) rs) (o, r) c) [
      | inl e ↦ let at : start ≡ o = ap (λ (p : ℕ × Stored). p.0) e in let it : x ≡ r = ap (λ (p : ℕ × Stored). p.1) e in
          let size : size_of x ≡ size_of r = ap (λ (s : Stored). size_of s) it in
          (omega arith, omega (arith, at, size, end_from-le (start + size_of x) rs))
      | inr d ↦ let more = placed-from (start + size_of x) rs o r d in (omega (arith, more.0), more.1)
    ]

pub record IsStep (page : List ℕ) (at : ℕ) (r : Stored) : Type 0 where
  pub place : IsPlace (records_of page) (used_end page) (at + size_of r)
  pub before : (o : ℕ) (s : Stored) → Contains (records_of page) (o, s) → o < at + size_of r → (o < at) ⊎ ((o ≡ at) × (s ≡ r))
  pub within : at + size_of r ≤ used_end page

pub step : (page : List ℕ) (at : ℕ) (r : Stored) → IsLaidOut page → Contains (records_of page) (at, r) → IsStep page at r
step page at r laid c = go split split.after refl
  where
    listed : Contains (placed HEADER_SIZE laid.stored) (at, r)
    listed = subst (λ (ps : List (ℕ × Stored)). Contains ps (at, r)) laid.records c

    split : Split HEADER_SIZE laid.stored at r
    split = split_at HEADER_SIZE laid.stored at r listed.0 listed.1 listed.2

    go : (s : Split HEADER_SIZE laid.stored at r) (after : List Stored) → s.after ≡ after → IsStep page at r
    go s after is =
        let whole : laid.stored ≡ s.before ++ r ∷ after = s.whole ∙ ap (λ (rs : List Stored). s.before ++ r ∷ rs) is in
        let records : records_of page ≡ placed HEADER_SIZE s.before ++ (at, r) ∷ placed (at + size_of r) after =
        laid.records ∙ ap (placed HEADER_SIZE) whole ∙ placed-append HEADER_SIZE s.before (r ∷ after) ∙ ap (λ (n : ℕ). placed HEADER_SIZE s.before ++ (n, r) ∷ placed (n + size_of r) after) (sym s.at) in
        let end : used_end page ≡ end_from (at + size_of r) after = laid.used ∙ ap (end_from HEADER_SIZE) whole ∙ end_from-append HEADER_SIZE s.before (r ∷ after) ∙ ap (λ (n : ℕ). end_from (n + size_of r) after) (sym s.at) in
        record {
          place = next after s.before records end;
          before = λ o t d lt. elim (Contains-append_cases (placed HEADER_SIZE s.before) ((at, r) ∷ placed (at + size_of r) after) (o, t) (subst (λ (ps : List (ℕ × Stored)). Contains ps (o, t)) records d)) [
            | inl low ↦ inl (omega (arith, placed-from HEADER_SIZE s.before o t low, s.at))
            | inr high ↦ elim (cons_cases (at, r) (placed (at + size_of r) after) (o, t) high) [
              | inl e ↦ inr (sym (ap (λ (p : ℕ × Stored). p.0) e), sym (ap (λ (p : ℕ × Stored). p.1) e))
              | inr past ↦ absurd (omega (arith, placed-from (at + size_of r) after o t past))
            ]
          ];
          within = omega (arith, end, end_from-le (at + size_of r) after);
        }
      where
        right : (xs ys : List (ℕ × Stored)) (y : ℕ × Stored) → Contains ys y → Contains (xs ++ ys) y
        right [] ys y d = d
        right (x ∷ xs) ys y d = there x (xs ++ ys) y (right xs ys y d)

        next : (after before : List Stored) → records_of page ≡ placed HEADER_SIZE before ++ (at, r) ∷ placed (at + size_of r) after → used_end page ≡ end_from (at + size_of r) after → IsPlace (records_of page) (used_end page) (at + size_of r)
        next [] before records end = inl (sym end)
        next (x ∷ after) before records end = inr (
          x,
          subst (λ (ps : List (ℕ × Stored)). Contains ps (at + size_of r, x)) (sym records)
              (right (placed HEADER_SIZE before) ((at, r) ∷ placed (at + size_of r) (x ∷ after)) (at + size_of r, x) (there (at, r) (placed (at + size_of r) (x ∷ after)) (at + size_of r, x) (here (at + size_of r, x) (placed (at + size_of r + size_of x) after)))),
        )

-- ---- which records are added

less-left : (one rest weight less : ℕ) → one + rest ≤ weight → weight ≤ one + less → rest ≤ less
less-left one rest weight less a b = omega arith

left-first : (one rest weight : ℕ) → one + rest ≤ weight → one ≤ weight
left-first one rest weight a = omega arith

more-than : (one weight : ℕ) → weight ≤ one + weight
more-than one weight = omega arith

-- the records from `at` on lead from here to where all lead from the start, and the live ones weigh no more than this
pub record IsAdding (old now : HybridLog) (page : List ℕ) (at weight : ℕ) : Type 0 where
  pub before : List (ℕ × Stored)
  pub rest : List Stored
  pub whole : records_of page ≡ before ++ placed at rest
  pub end : used_end page ≡ end_from at rest
  pub leads : (new : HybridLog) → AreAdded (log_of old) old.oldest (placed at rest) now new → AreAdded (log_of old) old.oldest (records_of page) old new
  pub left : live_weight (log_of old) old.oldest (placed at rest) ≤ weight

adding-start : (old : HybridLog) (page : List ℕ) (weight : ℕ) → IsLaidOut page → live_weight (log_of old) old.oldest (records_of page) ≤ weight → IsAdding old old page HEADER_SIZE weight
adding-start old page weight laid enough = record {
  before = [];
  rest = laid.stored;
  whole = laid.records;
  end = laid.used;
  leads = λ new more. subst (λ (ps : List (ℕ × Stored)). AreAdded (log_of old) old.oldest ps old new) (sym laid.records) more;
  left = subst (λ (ps : List (ℕ × Stored)). live_weight (log_of old) old.oldest ps ≤ weight) laid.records enough;
}

-- the weight of the record at an offset, where it is live
abbrev pub weight_at : HybridLog → ℕ → Stored → ℕ
weight_at p at r = cond (lives (log_of p) (p.oldest * PAGE_SIZE + at) r) (write_weight r.key r.value) 0

-- the record that begins there
pub front : (page : List ℕ) (at : ℕ) (r x : Stored) (before : List (ℕ × Stored)) (rest : List Stored) → IsStep page at r → records_of page ≡ before ++ placed at (x ∷ rest) → x ≡ r
front page at r x before rest s whole =
    let listed : Contains (records_of page) (at, x) = subst (λ (ps : List (ℕ × Stored)). Contains ps (at, x)) (sym whole) (right before (placed at (x ∷ rest)) (at, x) (here (at, x) (placed (at + size_of x) rest))) in
    elim (s.before at x listed (omega arith)) [ inl low ↦ absurd (omega (arith, low)) | inr e ↦ e.1 ]

adding-step : (old now next : HybridLog) (page : List ℕ) (at weight less : ℕ) (r : Stored) → IsStep page at r → IsGoneOver (log_of old) (old.oldest * PAGE_SIZE + at) r now next → weight ≤ weight_at old at r + less
    → IsAdding old now page at weight → IsAdding old next page (at + size_of r) less
adding-step old now next page at weight less r s over fewer h = go h.rest h.whole h.end h.leads h.left
  where
    go : (rest : List Stored) → records_of page ≡ h.before ++ placed at rest → used_end page ≡ end_from at rest
        → ((new : HybridLog) → AreAdded (log_of old) old.oldest (placed at rest) now new → AreAdded (log_of old) old.oldest (records_of page) old new)
        → live_weight (log_of old) old.oldest (placed at rest) ≤ weight → IsAdding old next page (at + size_of r) less
    go [] whole end leads left = absurd (omega (arith, end, s.within))
    go (x ∷ rest) whole end leads left =
        let same : x ≡ r = front page at r x h.before rest s whole in
        let less_x : weight ≤ weight_at old at x + less = subst (λ (y : Stored). weight ≤ weight_at old at y + less) (sym same) fewer in
        subst (λ (y : Stored). IsAdding old next page (at + size_of y) less) same (record {
          before = h.before ++ (at, x) ∷ [];
          rest = rest;
          whole = whole ∙ sym (append_assoc h.before ((at, x) ∷ []) (placed (at + size_of x) rest));
          end = end;
          leads = λ new more. leads new (next, subst (λ (y : Stored). IsGoneOver (log_of old) (old.oldest * PAGE_SIZE + at) y now next) (sym same) over, more);
          left = less-left (weight_at old at x) (live_weight (log_of old) old.oldest (placed (at + size_of x) rest)) weight less left less_x;
        })

-- there is room for the record at hand
adding-room : (old now : HybridLog) (page : List ℕ) (at weight : ℕ) (r : Stored) → IsStep page at r → IsAdding old now page at weight → weight_at old at r ≤ weight
adding-room old now page at weight r s h = go h.rest h.whole h.end h.left
  where
    go : (rest : List Stored) → records_of page ≡ h.before ++ placed at rest → used_end page ≡ end_from at rest → live_weight (log_of old) old.oldest (placed at rest) ≤ weight → weight_at old at r ≤ weight
    go [] whole end left = absurd (omega (arith, end, s.within))
    go (x ∷ rest) whole end left = subst (λ (y : Stored). weight_at old at y ≤ weight) (front page at r x h.before rest s whole) (left-first (weight_at old at x) (live_weight (log_of old) old.oldest (placed (at + size_of x) rest)) weight left)

adding-all : (old now : HybridLog) (page : List ℕ) (at weight : ℕ) → IsAdding old now page at weight → ((r : Stored) → Contains (records_of page) (at, r) → ⊥) → AreAdded (log_of old) old.oldest (records_of page) old now
adding-all old now page at weight h no_more = go h.rest h.whole h.leads
  where
    go : (rest : List Stored) → records_of page ≡ h.before ++ placed at rest → ((new : HybridLog) → AreAdded (log_of old) old.oldest (placed at rest) now new → AreAdded (log_of old) old.oldest (records_of page) old new) → AreAdded (log_of old) old.oldest (records_of page) old now
    go [] whole leads = leads now refl
    go (x ∷ rest) whole leads = absurd (no_more x (subst (λ (ps : List (ℕ × Stored)). Contains ps (at, x)) (sym whole) (right h.before (placed at (x ∷ rest)) (at, x) (here (at, x) (placed (at + size_of x) rest)))))

over-live : (log : Log) (address to : ℕ) (r : Stored) (now next : HybridLog) → IsLive log address r → IsAdded now next to r.key r.value → IsGoneOver log address r now next
over-live log address to r now next live added = record { live = λ _. (to, added); other = λ dead. absurd (dead live) }

over-dead : (log : Log) (address : ℕ) (r : Stored) (now : HybridLog) → IsDead log address r → IsGoneOver log address r now now
over-dead log address r now dead = record {
  live = λ live. absurd (let bad : IsSome {T = List ℕ} None = subst (λ (v : Option (List ℕ)). IsSome v) (dead live.newest) live.value in cc);
  other = λ _. refl;
}

-- ---- what is done when the records before `at` have been gone over

pub record IsDone (old now : HybridLog) (page : List ℕ) (at weight : ℕ) : Type 0 where
  pub same : SameContents old now
  pub first : (key : List ℕ) (a : ℕ) (r : Stored) → newest (log_of now) key ≡ Some (a, r) → a < begin_of (old.oldest + 1) → newest (log_of old) key ≡ Some (a, r)
  pub dead : (o : ℕ) (r : Stored) → Contains (records_of page) (o, r) → o < at → IsDead (log_of now) (old.oldest * PAGE_SIZE + o) r
  pub place : IsPlace (records_of page) (used_end page) at
  pub adding : IsAdding old now page at weight

pub begins : (page : List ℕ) (rs : List Stored) → records_of page ≡ placed HEADER_SIZE rs → used_end page ≡ end_from HEADER_SIZE rs → IsPlace (records_of page) (used_end page) HEADER_SIZE
begins page [] records end = inl (sym end)
begins page (r ∷ rs) records end = inr (r, subst (λ (ps : List (ℕ × Stored)). Contains ps (HEADER_SIZE, r)) (sym records) (here (HEADER_SIZE, r) (placed (HEADER_SIZE + size_of r) rs)))

pub done-start : (old : HybridLog) (page : List ℕ) (weight : ℕ) → IsLaidOut page → live_weight (log_of old) old.oldest (records_of page) ≤ weight → IsDone old old page HEADER_SIZE weight
done-start old page weight laid enough = record {
  same = λ key. refl;
  first = λ key a r e lt. e;
  dead = λ o r c lt. absurd (omega (arith, placed-from HEADER_SIZE laid.stored o r (subst (λ (ps : List (ℕ × Stored)). Contains ps (o, r)) laid.records c)));
  place = begins page laid.stored laid.records laid.used;
  adding = adding-start old page weight laid enough;
}

pub done-skip : (old now : HybridLog) (page : List ℕ) (at weight : ℕ) (r : Stored) → IsLaidOut page → Contains (records_of page) (at, r) → used_end page ≤ PAGE_SIZE → IsDead (log_of old) (old.oldest * PAGE_SIZE + at) r
    → IsDone old now page at weight → IsDone old now page (at + size_of r) weight
done-skip old now page at weight r laid c short gone done =
    let s = step page at r laid c in
    record {
      same = done.same;
      first = done.first;
      dead = λ o t d lt. elim (s.before o t d lt) [
        | inl low ↦ done.dead o t d low
        | inr e ↦ λ h.
            let h_here : newest (log_of now) r.key ≡ Some (old.oldest * PAGE_SIZE + at, r) = rw (← e.0, ← e.1) h in
            let small : old.oldest * PAGE_SIZE + at < begin_of (old.oldest + 1) = omega (arith, s.within) in
            ap (λ (x : Stored). x.value) e.1 ∙ gone (done.first r.key (old.oldest * PAGE_SIZE + at) r h_here small)
      ];
      place = s.place;
      adding = adding-step old now now page at weight weight r s (over-dead (log_of old) (old.oldest * PAGE_SIZE + at) r now gone) (more-than (weight_at old at r) weight) done.adding;
    }

pub done-copy : (old now next : HybridLog) (page : List ℕ) (at t weight : ℕ) (r : Stored) → IsLaidOut page → Contains (records_of page) (at, r) → used_end page ≤ PAGE_SIZE → IsLive (log_of old) (old.oldest * PAGE_SIZE + at) r
    → IsAdded now next t r.key r.value → begin_of (old.oldest + 1) ≤ t → lives (log_of old) (old.oldest * PAGE_SIZE + at) r ≡ true
    → IsDone old now page at weight → IsDone old next page (at + size_of r) (weight - write_weight r.key r.value)
done-copy old now next page at t weight r laid c short live added far is_live done =
    let s = step page at r laid c in
    record {
      same = same;
      first = λ key a x e lt. elim (cases key) [
        | inl y ↦ absurd (let it : (t, put.put) ≡ (a, x) = some_is (t, put.put) (a, x) (sym y.1 ∙ e) in omega (arith, ap (λ (p : ℕ × Stored). p.0) it))
        | inr n ↦ done.first key a x (sym n ∙ e) lt
      ];
      dead = λ o x d lt h. elim (cases x.key) [
        | inl y ↦ absurd (let it : (t, put.put) ≡ (old.oldest * PAGE_SIZE + o, x) = some_is (t, put.put) (old.oldest * PAGE_SIZE + o, x) (sym y.1 ∙ h) in
            omega (arith, ap (λ (p : ℕ × Stored). p.0) it, s.within, lt))
        | inr n ↦ elim (s.before o x d lt) [
          | inl low ↦ done.dead o x d low (sym n ∙ h)
          | inr e ↦ absurd (let h_here : newest (log_of next) r.key ≡ Some (old.oldest * PAGE_SIZE + at, r) = rw (← e.0, ← e.1) h in
              let it : (t, put.put) ≡ (old.oldest * PAGE_SIZE + at, r) = some_is (t, put.put) (old.oldest * PAGE_SIZE + at, r) (sym newest_here ∙ h_here) in
              omega (arith, ap (λ (p : ℕ × Stored). p.0) it, s.within))
        ]
      ];
      place = s.place;
      adding = adding-step old now next page at weight (weight - write_weight r.key r.value) r s (over-live (log_of old) (old.oldest * PAGE_SIZE + at) t r now next live added) fewer done.adding;
    }
  where
    put : IsAppended (log_of now) (log_of next) t (head_of now r.key) r.key r.value
    put = added.log

    weighs : weight_at old at r ≡ write_weight r.key r.value
    weighs = ap (λ (b : Bool). cond b (write_weight r.key r.value) 0) is_live

    fewer : weight ≤ weight_at old at r + (weight - write_weight r.key r.value)
    fewer = subst (λ (n : ℕ). weight ≤ n + (weight - write_weight r.key r.value)) (sym weighs) (omega arith)

    cases : (q : List ℕ) → ((put.put.key ≡ q) × (newest (log_of next) q ≡ Some (t, put.put))) ⊎ (newest (log_of next) q ≡ newest (log_of now) q)
    cases q = rw put.log (newest-put (log_of now) t put.put q)

    newest_here : newest (log_of next) r.key ≡ Some (t, put.put)
    newest_here = rw put.log (newest-put_same (log_of now) t put.put r.key put.key_is)

    same : SameContents old next
    same q = elim (cases q) [
      | inl y ↦
          let old_is : newest (log_of old) q ≡ Some (old.oldest * PAGE_SIZE + at, r) = subst (λ (k : List ℕ). newest (log_of old) k ≡ Some (old.oldest * PAGE_SIZE + at, r)) (sym put.key_is ∙ y.0) live.newest in
          contents-newest (log_of next) q (Some (t, put.put)) y.1 ∙ put.value_is ∙ sym (contents-newest (log_of old) q (Some (old.oldest * PAGE_SIZE + at, r)) old_is)
      | inr n ↦ contents-alike (log_of next) (log_of now) q n ∙ done.same q
    ]

pub done-all : (old now : HybridLog) (page : List ℕ) (at weight : ℕ) → IsLaidOut page → IsDone old now page at weight → ((r : Stored) → Contains (records_of page) (at, r) → ⊥) → IsCopied old now page
done-all old now page at weight laid done no_more = elim done.place [
  | inl end ↦ record {
    same = done.same;
    added = adding-all old now page at weight done.adding no_more;
    dead = λ o r c. done.dead o r c (omega (arith, end, laid.used, placed-from HEADER_SIZE laid.stored o r (subst (λ (ps : List (ℕ × Stored)). Contains ps (o, r)) laid.records c)));
  }
  | inr more ↦ absurd (no_more more.0 more.1)
]

-- ---- what the copying loop keeps

pub record IsCopying (old now : HybridLog) (page : List ℕ) (live : List Bool) (at weight whole : ℕ) : Type 0 where
  pub used : ℕ
  pub parts : used + weight ≡ whole
  pub grown : IsGrown old now used
  pub room : HasRoom now weight
  pub low : HEADER_SIZE ≤ at
  pub high : at ≤ PAGE_SIZE
  pub done : IsLaidOut page → AreShort (records_of page) → AreMarked (log_of old) old.oldest (records_of page) live → live_weight (log_of old) old.oldest (records_of page) ≤ whole → IsDone old now page at weight

-- a record that was read lies in the page
pub record IsRead (at : ℕ) (s : Stored) : Type 0 where
  pub low : HEADER_SIZE ≤ at
  pub within : at + size_of s ≤ PAGE_SIZE
  pub aligned : at % 8 ≡ 0
  pub key : length s.key ≤ KEY_BYTES_MAX
  pub value : length (value_bytes s.value) ≤ s.capacity

value-of-kind : (kind : ℕ) (bytes : List ℕ) → length (value_bytes (value_of_kind kind bytes)) ≤ length bytes
value-of-kind kind bytes = elim (cases_Bool (kind == 2)) [ inl y ↦ rw y (omega arith) | inr n ↦ rw n (omega arith) ]

-- where the fields of a record stand in it: behind its link and its hash the length of its key, its kind, and behind its
-- form the length of its value
abbrev key_length_at : ℕ
key_length_at = 8 + 8

abbrev kind_at : ℕ
kind_at = key_length_at + 2

abbrev value_length_at : ℕ
value_length_at = kind_at + 1 + 1

take-short : (n : ℕ) (xs : List ℕ) → length (take n xs) ≤ n
take-short n xs = omega (arith, length-take n xs)

pub read-fits : (page : List ℕ) (at : ℕ) (s : Stored) → IsRecordAt page at → s ≡ fields_at page at → IsRead at s
unfolding fields_at
read-fits page at s is e = subst (λ (x : Stored). IsRead at x) (sym e) (record {
  low = is.past_header;
  within = omega (arith, is.within, is.ends_in_page, take-short (u16_at page (at + key_length_at)) (drop (at + RECORD_HEADER) page));
  aligned = is.aligned;
  key = omega (arith, is.key_length, take-short (u16_at page (at + key_length_at)) (drop (at + RECORD_HEADER) page));
  value = omega (arith, is.value_length, value-of-kind (slice_index page (at + kind_at)) (take (u32_at page (at + value_length_at)) (drop (at + RECORD_HEADER + u16_at page (at + key_length_at)) page)), take-short (u32_at page (at + value_length_at)) (drop (at + RECORD_HEADER + u16_at page (at + key_length_at)) page));
})

-- the three steps of the loop

pub copying-start : (p : HybridLog) (page : List ℕ) (live : List Bool) (weight : ℕ) → HasRoom p weight → IsCopying p p page live HEADER_SIZE weight weight
copying-start p page live weight room = record {
  used = 0;
  parts = zero-add weight;
  grown = grown-none p;
  room = room;
  low = omega arith;
  high = omega arith;
  done = λ laid short marked enough. done-start p page weight laid enough;
}

-- what stands at the offset of a page that is laid out
abbrev pub IsFound : List ℕ → ℕ → Stored → Type 0
IsFound page at s = IsLaidOut page → (r : Stored) → Contains (records_of page) (at, r) → s ≡ r

no-more : (page : List ℕ) (at : ℕ) → IsLaidOut page → at ≡ used_end page → at < used_end page → ⊥
no-more page at laid e lt = omega arith

-- the record at a place that was read
pub listed : (page : List ℕ) (at : ℕ) (s : Stored) → IsPlace (records_of page) (used_end page) at → at < used_end page → ((r : Stored) → Contains (records_of page) (at, r) → s ≡ r) → Contains (records_of page) (at, s)
listed page at s (inl e) lt found = absurd (omega arith)
listed page at s (inr more) lt found = subst (λ (x : Stored). Contains (records_of page) (at, x)) (sym (found more.0 more.1)) more.1

pub copying-skip : (old now : HybridLog) (page : List ℕ) (live : List Bool) (at weight whole : ℕ) (s : Stored) → IsRecordAt page at → s ≡ fields_at page at
    → (IsLaidOut page → (r : Stored) → Contains (records_of page) (at, r) → s ≡ r)
    → (IsLaidOut page → AreShort (records_of page) → AreMarked (log_of old) old.oldest (records_of page) live → Contains (records_of page) (at, s) → IsDone old now page at weight → IsDead (log_of old) (old.oldest * PAGE_SIZE + at) s)
    → IsCopying old now page live at weight whole → IsCopying old now page live (at + size_of s) weight whole
copying-skip old now page live at weight whole s is e found dead h =
    let read = read-fits page at s is e in
    record {
      used = h.used;
      parts = h.parts;
      grown = h.grown;
      room = h.room;
      low = omega (arith, h.low);
      high = omega (arith, read.within);
      done = λ laid short marked enough.
          let before = h.done laid short marked enough in
          let c : Contains (records_of page) (at, s) = listed page at s before.place is.used (found laid) in
          done-skip old now page at weight s laid c is.ends_in_page (dead laid short marked c before) before;
    }

pub copying-copy : (old now next : HybridLog) (page : List ℕ) (live : List Bool) (at weight whole t : ℕ) (s : Stored) → IsRecordAt page at → s ≡ fields_at page at
    → (IsLaidOut page → (r : Stored) → Contains (records_of page) (at, r) → s ≡ r)
    → slice_index_or live (at / 8) false ≡ true
    → WEIGHT_OF_KEY + length s.key + length (value_bytes s.value) ≤ weight
    → HasRoom next (weight - (WEIGHT_OF_KEY + length s.key + length (value_bytes s.value))) → IsGrown now next (WEIGHT_OF_KEY + length s.key + length (value_bytes s.value)) → IsAdded now next t s.key s.value → begin_of now.resident.oldest ≤ t → old.oldest < old.resident.oldest
    → IsCopying old now page live at weight whole → IsCopying old next page live (at + size_of s) (weight - (WEIGHT_OF_KEY + length s.key + length (value_bytes s.value))) whole
copying-copy old now next page live at weight whole t s is e found mark enough room grown put far cold h =
    let read = read-fits page at s is e in
    record {
      used = h.used + (WEIGHT_OF_KEY + length s.key + length (value_bytes s.value));
      parts = omega (arith, h.parts, enough);
      grown = grown-more old now next h.used (WEIGHT_OF_KEY + length s.key + length (value_bytes s.value)) h.grown grown;
      room = room;
      low = omega (arith, h.low);
      high = omega (arith, read.within);
      done = λ laid short marked whole_enough.
          let before = h.done laid short marked whole_enough in
          let c : Contains (records_of page) (at, s) = listed page at s before.place is.used (found laid) in
          done-copy old now next page at t weight s laid c is.ends_in_page ((marked at s c).0 mark) put (omega (arith, far, h.grown.first)) (sym (marked at s c).2 ∙ mark) before;
    }

-- a live record for which no room is left: in a page of the log there is none
pub never-heavy : (old now : HybridLog) (page : List ℕ) (live : List Bool) (at weight : ℕ) (s : Stored) → IsLaidOut page → AreMarked (log_of old) old.oldest (records_of page) live → Contains (records_of page) (at, s) → slice_index_or live (at / 8) false ≡ true
    → IsDone old now page at weight → weight < write_weight s.key s.value → ⊥
never-heavy old now page live at weight s laid marked c mark done heavy =
    let is_live : lives (log_of old) (old.oldest * PAGE_SIZE + at) s ≡ true = sym (marked at s c).2 ∙ mark in
    let weighs : weight_at old at s ≡ write_weight s.key s.value = ap (λ (b : Bool). cond b (write_weight s.key s.value) 0) is_live in
    let fits : write_weight s.key s.value ≤ weight = subst (λ (n : ℕ). n ≤ weight) weighs (adding-room old now page at weight s (step page at s laid c) done.adding) in
    omega (arith, fits, heavy)
