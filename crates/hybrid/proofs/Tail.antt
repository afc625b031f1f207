-- The tail page.
use Rattle.std.proofs.Common.{◌≡◌, ℕ, zero, suc, ◌+◌, ◌-◌, ◌*◌, ◌<◌, ◌≤◌, ◌⊎◌, inl, inr, List, [], ◌∷◌, ◌++◌, length, take, map, replicate, ◌/◌, Option, None, refl, sym, ap, ◌∙◌, subst, arith, length-append, append_assoc, add-zero}
use Rattle.std.specs.Prelude.{slice_index_or, slice_set, nat_lt}
use Rattle.std.proofs.Common.{true, false}
use Rattle.std.proofs.lemmas.Bool.{lt-ltb, le-ltb}
use Rattle.std.proofs.lemmas.List.{length-map, length-take-le, get_or-append_right, get_or_append_left, append-nil, replicate-append-replicate}
use Rattle.records.specs.declared.entries.TheConstants.{KEY_BYTES_MAX}
use Rattle.words.specs.declared.limits.TheConstants.{WEIGHT_OF_KEY, VALUE_BYTES_MAX}
use Rattle.hybrid.specs.declared.stripe.TheConstants.{CLOSED_MIN, RECORD_MAX}
use Rattle.records.specs.declared.pages.TheConstants.{PAGE_SIZE, HEADER_SIZE}
use Rattle.records.specs.Page.{empty_page, used_end}
use Rattle.records.specs.Records.{size_for, value_bytes, IsLaidOut}
use Rattle.hybrid.proofs.Placed.{end_from-le}
use Rattle.frames.specs.Resident.{Resident, next_number, IsEmptyPage, with_opened}
use Rattle.hybrid.specs.Log.{Log, AllLaid, IsAppended, begin_of}
use Rattle.hybrid.specs.HybridLog.{HybridLog, Kept, IsHybridLog, IsPut, IsGrown, HasFrames, HasRoom, bucket_of, head_of, pages_of, shown_page, cold, free, tail_bytes, tail_of, log_of, with_page_opened}
use Rattle.hybrid.specs.Writing.{IsAdded}

pub laid-at : (n : ℕ) (ps : List (List ℕ)) (i : ℕ) → AllLaid n ps → i < length ps → IsLaidOut (slice_index_or ps i [])
laid-at n [] i laid lt = absurd (omega arith)
laid-at n (p ∷ ps) zero laid lt = laid.0
laid-at n (p ∷ ps) (suc i) laid lt = laid-at (n + 1) ps i laid.2 (omega arith)

pub tail-laid : (p : HybridLog) → IsHybridLog p → IsLaidOut (slice_index_or p.resident.pages (length p.resident.pages - 1) [])
tail-laid p is =
    let cold_pages : List (List ℕ) = map shown_page (take (cold p) p.kept) in
    let last : ℕ = length p.resident.pages - 1 in
    let size : length cold_pages ≡ cold p = length-map (take (cold p) p.kept) shown_page ∙ length-take-le (cold p) p.kept (omega (arith, is.numbered, is.live)) in
    let all : length (pages_of p) ≡ cold p + length p.resident.pages = length-append cold_pages p.resident.pages ∙ ap (λ (n : ℕ). n + length p.resident.pages) size in
    let page : slice_index_or (pages_of p) (cold p + (length p.resident.pages - 1)) [] ≡ slice_index_or p.resident.pages (length p.resident.pages - 1) [] =
    get_or-append_right cold_pages p.resident.pages (cold p) (cold p + (length p.resident.pages - 1)) [] size (omega arith) ∙ ap (λ (n : ℕ). slice_index_or p.resident.pages n []) (let e : cold p + (length p.resident.pages - 1) - cold p ≡ length p.resident.pages - 1 = omega arith in e) in
    subst (λ (b : List ℕ). IsLaidOut b) page (laid-at p.oldest (pages_of p) (cold p + (length p.resident.pages - 1)) is.laid (omega (arith, all, is.tail)))

pub used-fits : (page : List ℕ) → IsLaidOut page → (HEADER_SIZE ≤ used_end page) × (used_end page ≤ PAGE_SIZE)
used-fits page laid = (omega (arith, laid.used, end_from-le HEADER_SIZE laid.stored), laid.in_page)

-- ---- the room of a call: the weight that is left, the bytes of records in the tail page, the free frames

-- a put into the tail page
pub grown-put : (a b : HybridLog) (x s : ℕ) → s ≤ x → tail_bytes b ≡ tail_bytes a + s → IsPut a b → IsGrown a b x
grown-put a b x s small bytes p = record {
  opened = 0;
  few = omega arith;
  oldest = p.oldest;
  kept = p.kept ∙ sym (append-nil a.kept);
  first = p.first;
  next = omega (arith, p.first, p.count);
  frames = p.frames;
  buckets = p.buckets;
  stripes = p.stripes;
  unreleased = p.unreleased;
  places = p.places;
  read_only = p.read_only;
  none = λ fits. refl;
  bytes = omega (arith, bytes, small);
  closed = inl refl;
}

-- a put into a page that was opened for it
pub grown-opened : (a b : HybridLog) (x s : ℕ) → s ≤ x → s ≤ RECORD_MAX → PAGE_SIZE - HEADER_SIZE < tail_bytes a + s → tail_bytes b ≡ s → IsPut (with_page_opened a) b → IsGrown a b x
grown-opened a b x s small short full bytes p = record {
  opened = 1;
  few = omega arith;
  oldest = p.oldest;
  kept = p.kept;
  first = p.first;
  next = omega (arith, p.first, p.count, length-append a.resident.pages (empty_page (next_number a.resident) ∷ []));
  frames = p.frames;
  buckets = p.buckets;
  stripes = p.stripes;
  unreleased = p.unreleased;
  places = p.places;
  read_only = λ n from lt.
      p.read_only n from (omega (arith, lt, length-append a.resident.pages (empty_page (next_number a.resident) ∷ [])))
      ∙ get_or_append_left a.resident.pages (empty_page (next_number a.resident) ∷ []) [] (n - a.resident.oldest) (omega (arith, lt, from));
  none = λ fits. absurd (omega (arith, fits, full, small));
  bytes = omega (arith, bytes, small, short, full);
  closed = inr (omega (arith, bytes, small));
}

pub grown-none : (p : HybridLog) → IsGrown p p 0
grown-none p = record { opened = 0; few = omega arith; oldest = refl; kept = sym (append-nil p.kept); first = refl; next = sym (add-zero (next_number p.resident)); frames = refl; buckets = refl; stripes = refl; unreleased = refl; places = refl; read_only = λ n from lt. refl; none = λ fits. refl; bytes = omega arith; closed = inl refl }

few-so : (opened tail weight : ℕ) → (opened ≡ 0) ⊎ (CLOSED_MIN * (opened - 1) + tail ≤ weight) → opened ≤ weight / CLOSED_MIN + 1
few-so opened tail weight (inl e) = omega (arith, e)
few-so opened tail weight (inr l) = omega (arith, l)

closed-more : (n m t1 t2 u v : ℕ) → CLOSED_MIN * m + t2 ≤ t1 + v → (n ≡ 0) ⊎ (CLOSED_MIN * (n - 1) + t1 ≤ u) → (m ≡ 0) ⊎ (CLOSED_MIN * (m - 1) + t2 ≤ v) → ((n + m) ≡ 0) ⊎ (CLOSED_MIN * (n + m - 1) + t2 ≤ u + v)
closed-more zero m t1 t2 u v b f (inl g) = inl (omega (arith, g))
closed-more zero m t1 t2 u v b f (inr g) = inr (let e : zero + m ≡ m = omega arith in omega (arith, g, e))
closed-more (suc n) m t1 t2 u v b (inl bad) g = absurd (omega (arith, bad))
closed-more (suc n) m t1 t2 u v b (inr f) g = inr (omega (arith, f, b))

pub grown-more : (a b c : HybridLog) (u v : ℕ) → IsGrown a b u → IsGrown b c v → IsGrown a c (u + v)
grown-more a b c u v f g =
    let closed : ((f.opened + g.opened) ≡ 0) ⊎ (CLOSED_MIN * (f.opened + g.opened - 1) + tail_bytes c ≤ u + v) = closed-more f.opened g.opened (tail_bytes b) (tail_bytes c) u v g.bytes f.closed g.closed in
    record {
      opened = f.opened + g.opened;
      few = few-so (f.opened + g.opened) (tail_bytes c) (u + v) closed;
      oldest = g.oldest ∙ f.oldest;
      kept = g.kept ∙ ap (λ (l : List (Option Kept)). l ++ replicate g.opened None) f.kept ∙ append_assoc a.kept (replicate f.opened None) (replicate g.opened None) ∙ ap (λ (l : List (Option Kept)). a.kept ++ l) (replicate-append-replicate f.opened g.opened None);
      first = g.first ∙ f.first;
      next = omega (arith, f.next, g.next);
      frames = g.frames ∙ f.frames;
      buckets = g.buckets ∙ f.buckets;
      stripes = g.stripes ∙ f.stripes;
      unreleased = g.unreleased ∙ f.unreleased;
      places = g.places ∙ f.places;
      read_only = λ n from lt. g.read_only n (omega (arith, f.first, from)) (omega (arith, lt, f.first, f.next, f.frames)) ∙ f.read_only n from lt;
      none = λ fits.
          let one : f.opened ≡ 0 = f.none (omega (arith, fits)) in
          let other : g.opened ≡ 0 = g.none (omega (arith, fits, f.bytes, one)) in
          omega (arith, one, other);
      bytes = omega (arith, f.bytes, g.bytes);
      closed = closed;
    }

pub grown-less : (a b : HybridLog) (u w : ℕ) → u ≤ w → IsGrown a b u → IsGrown a b w
grown-less a b u w le f =
    let closed : (f.opened ≡ 0) ⊎ (CLOSED_MIN * (f.opened - 1) + tail_bytes b ≤ w) = elim f.closed [ inl e ↦ inl e | inr l ↦ inr (omega (arith, l, le)) ] in
    record {
      opened = f.opened;
      few = few-so f.opened (tail_bytes b) w closed;
      oldest = f.oldest;
      kept = f.kept;
      first = f.first;
      next = f.next;
      frames = f.frames;
      buckets = f.buckets;
      stripes = f.stripes;
      unreleased = f.unreleased;
      places = f.places;
      read_only = f.read_only;
      none = λ fits. f.none (omega (arith, fits, le));
      bytes = omega (arith, f.bytes, le);
      closed = closed;
    }

pub opened-tail : (a : HybridLog) → IsEmptyPage (next_number a.resident) (empty_page (next_number a.resident)) → tail_bytes (with_page_opened a) ≡ 0
opened-tail a empty =
    let more : length (a.resident.pages ++ empty_page (next_number a.resident) ∷ []) ≡ length a.resident.pages + 1 = length-append a.resident.pages (empty_page (next_number a.resident) ∷ []) in
    let last : slice_index_or (a.resident.pages ++ empty_page (next_number a.resident) ∷ []) (length (a.resident.pages ++ empty_page (next_number a.resident) ∷ []) - 1) [] ≡ empty_page (next_number a.resident) =
    ap (λ (n : ℕ). slice_index_or (a.resident.pages ++ empty_page (next_number a.resident) ∷ []) n []) (let e : length (a.resident.pages ++ empty_page (next_number a.resident) ∷ []) - 1 ≡ length a.resident.pages = omega (arith, more) in e)
    ∙ get_or-append_right a.resident.pages (empty_page (next_number a.resident) ∷ []) (length a.resident.pages) (length a.resident.pages) [] refl (omega arith) ∙ ap (λ (n : ℕ). slice_index_or (empty_page (next_number a.resident) ∷ []) n []) (let e : length a.resident.pages - length a.resident.pages ≡ 0 = omega arith in e) in
    let end : used_end (slice_index_or (a.resident.pages ++ empty_page (next_number a.resident) ∷ []) (length (a.resident.pages ++ empty_page (next_number a.resident) ∷ []) - 1) []) ≡ HEADER_SIZE = ap used_end last ∙ empty.end in
    omega (arith, end)

-- the room that is left after a put into the tail page
pub room-put : (a b : HybridLog) (w x s : ℕ) → s ≤ x → x ≤ w → IsPut a b → tail_bytes b ≡ tail_bytes a + s → HasRoom a w → HasRoom b (w - x)
room-put a b w x s small fits put bytes has = record {
  room = elim has.room [
    | inl l ↦ inl (omega (arith, l, bytes, small, fits))
    | inr h ↦ inr (record {
      frames = elim h.frames [ inl l ↦ inl (omega (arith, l, bytes, put.frames, put.count)) | inr l ↦ inr (omega (arith, l, put.frames, put.count)) ];
      numbers = omega (arith, h.numbers, put.first, put.count);
    })
  ];
}

-- where the tail page is full a frame is free, and the page that is opened there has room
pub room-frames : (a : HybridLog) (w x s : ℕ) → s < x → x ≤ w → PAGE_SIZE - HEADER_SIZE ≤ tail_bytes a + s → HasRoom a w → HasFrames a w
room-frames a w x s small fits full has = elim has.room [
  | inl l ↦ absurd (omega (arith, l, small, fits, full))
  | inr h ↦ h
]

pub room-opened : (a : HybridLog) (w x s : ℕ) → s ≤ x → x ≤ w → 1 ≤ x → s ≤ RECORD_MAX → PAGE_SIZE - HEADER_SIZE ≤ tail_bytes a + s → HasFrames a w → 0 < free a
room-opened a w x s small fits some short full h = elim h.frames [ inl l ↦ omega (arith, l) | inr l ↦ omega (arith, l) ]

pub room-put-opened : (a b : HybridLog) (w x s : ℕ) → s ≤ x → x ≤ w → 1 ≤ x → s ≤ RECORD_MAX → PAGE_SIZE - HEADER_SIZE ≤ tail_bytes a + s → IsPut (with_page_opened a) b → tail_bytes b ≡ s → HasFrames a w → HasRoom b (w - x)
room-put-opened a b w x s small fits some short full put bytes h =
    let more : length (a.resident.pages ++ empty_page (next_number a.resident) ∷ []) ≡ length a.resident.pages + 1 = length-append a.resident.pages (empty_page (next_number a.resident) ∷ []) in
    record {
      room = inr (record {
        frames = inl (elim h.frames [ inl l ↦ omega (arith, l, bytes, put.frames, put.count, more) | inr l ↦ omega (arith, l, bytes, put.frames, put.count, more) ]);
        numbers = omega (arith, h.numbers, put.first, put.count, more);
      });
    }

-- a record is no larger than what its write weighs
pub size-small : (k v : ℕ) → size_for k v ≤ WEIGHT_OF_KEY + k + v
size-small k v = omega arith

pub size-less : (k v : ℕ) → size_for k v < WEIGHT_OF_KEY + k + v
size-less k v = omega arith

-- a record of a key and a value that fit is no larger than the largest
pub size-short : (k v : ℕ) → k ≤ KEY_BYTES_MAX → v ≤ VALUE_BYTES_MAX → size_for k v ≤ RECORD_MAX
size-short k v a b = omega arith

pub opened-tail-from : (v now : HybridLog) (frames : Resident) → v ≡ now → frames ≡ with_opened v.resident → IsEmptyPage (next_number v.resident) (empty_page (next_number v.resident)) → used_end (slice_index_or frames.pages (length frames.pages - 1) []) - HEADER_SIZE ≡ 0
opened-tail-from v now frames same fr empty = ap (λ (r : Resident). used_end (slice_index_or r.pages (length r.pages - 1) []) - HEADER_SIZE) fr ∙ opened-tail v empty

-- ---- where a record goes

-- a put into the tail page, into which the record fits
pub added-put : (a b : HybridLog) (address : ℕ) (key : List ℕ) (value : Option (List ℕ)) → tail_bytes a + size_for (length key) (length (value_bytes value)) ≤ PAGE_SIZE - HEADER_SIZE → IsPut a b
    → tail_bytes b ≡ tail_bytes a + size_for (length key) (length (value_bytes value)) → address ≡ begin_of (next_number a.resident - 1) + tail_bytes a
    → IsAppended (log_of a) (log_of b) address (head_of a key) key value → b.heads ≡ slice_set a.heads (bucket_of a key) address → IsAdded a b address key value
added-put a b address key value fits put bytes at log heads =
    let size : ℕ = size_for (length key) (length (value_bytes value)) in
    let page : next_number b.resident - 1 ≡ next_number a.resident - 1 = omega (arith, put.first, put.count) in
    let f : nat_lt (PAGE_SIZE - HEADER_SIZE) (tail_bytes a + size) ≡ false = le-ltb (PAGE_SIZE - HEADER_SIZE) (tail_bytes a + size) fits in
    let tail : tail_of b ≡ record { page = next_number a.resident - 1; bytes = tail_bytes a + size } = λ i. record { page = page i; bytes = bytes i } in
    record { log = log; heads = heads; tail = rw f tail; end = omega (arith, at, page, bytes) }

-- a put into a page that was opened for it, since the record does not fit into the tail page
pub added-opened : (a mid b : HybridLog) (address : ℕ) (key : List ℕ) (value : Option (List ℕ)) → PAGE_SIZE - HEADER_SIZE < tail_bytes a + size_for (length key) (length (value_bytes value)) → 0 < length a.resident.pages
    → mid ≡ with_page_opened a → log_of mid ≡ log_of a → tail_bytes mid ≡ 0 → IsPut mid b → tail_bytes b ≡ tail_bytes mid + size_for (length key) (length (value_bytes value))
    → address ≡ begin_of (next_number mid.resident - 1) + tail_bytes mid → IsAppended (log_of mid) (log_of b) address (head_of mid key) key value → b.heads ≡ slice_set mid.heads (bucket_of mid key) address
    → IsAdded a b address key value
added-opened a mid b address key value full some opened same empty put bytes_mid at log heads =
    let size : ℕ = size_for (length key) (length (value_bytes value)) in
    let more : length (a.resident.pages ++ empty_page (next_number a.resident) ∷ []) ≡ length a.resident.pages + 1 = length-append a.resident.pages (empty_page (next_number a.resident) ∷ []) in
    let next : next_number mid.resident ≡ next_number a.resident + 1 = ap (λ (q : HybridLog). next_number q.resident) opened ∙ omega (arith, more) in
    let page : next_number b.resident - 1 ≡ next_number a.resident - 1 + 1 = omega (arith, put.first, put.count, next, some) in
    let bytes : tail_bytes b ≡ size = omega (arith, bytes_mid, empty) in
    let t : nat_lt (PAGE_SIZE - HEADER_SIZE) (tail_bytes a + size) ≡ true = lt-ltb (PAGE_SIZE - HEADER_SIZE) (tail_bytes a + size) full in
    let tail : tail_of b ≡ record { page = next_number a.resident - 1 + 1; bytes = size } = λ i. record { page = page i; bytes = bytes i } in
    record {
      log = subst (λ (l : Log). IsAppended l (log_of b) address (head_of a key) key value) same
          (subst (λ (n : ℕ). IsAppended (log_of mid) (log_of b) address n key value) (ap (λ (q : HybridLog). head_of q key) opened) log);
      heads = heads ∙ ap (λ (q : HybridLog). slice_set q.heads (bucket_of q key) address) opened;
      tail = rw t tail;
      end = omega (arith, at, empty, bytes, put.first, put.count);
    }

-- a write in place
pub tail-stays : (a b : HybridLog) → IsPut a b → tail_bytes b ≡ tail_bytes a → tail_of b ≡ tail_of a
tail-stays a b put bytes =
    let page : next_number b.resident - 1 ≡ next_number a.resident - 1 = omega (arith, put.first, put.count) in
    λ i. record { page = page i; bytes = bytes i }

-- the room that is left for more, once writes of some weight were made
pub room-left : (a b : HybridLog) (u w : ℕ) → IsGrown a b u → 1 ≤ u → u ≤ w → length b.resident.pages ≤ b.resident.frames → HasRoom a w → HasRoom b (w - u)
room-left a b u w grown some less fits has =
    let pages : length b.resident.pages ≡ length a.resident.pages + grown.opened = omega (arith, grown.next, grown.first) in
    record {
      room = elim has.room [
        | inl l ↦ inl (omega (arith, l, grown.bytes, less))
        | inr h ↦ inr (record {
          frames = elim h.frames [
            | inl l ↦ inl (omega (arith, l, grown.bytes, grown.frames, pages, fits, less))
            | inr l ↦ elim grown.closed [
              | inl none ↦ inr (omega (arith, l, none, grown.frames, pages, fits, less))
              | inr c ↦ inl (omega (arith, l, c, grown.frames, pages, fits, less))
            ]
          ];
          numbers = omega (arith, h.numbers, grown.few, grown.next, some, less);
        })
      ];
    }

-- there is room for nothing, and for less than there is room for
pub room-none : (p : HybridLog) → IsHybridLog p → HasRoom p 0
room-none p is =
    let fits = used-fits (slice_index_or p.resident.pages (length p.resident.pages - 1) []) (tail-laid p is) in
    record { room = inl (omega (arith, fits.1)) }

pub room-less : (p : HybridLog) (one other : ℕ) → one ≤ other → HasRoom p other → HasRoom p one
room-less p one other le has = record {
  room = elim has.room [
    | inl l ↦ inl (omega (arith, l, le))
    | inr h ↦ inr (record {
      frames = elim h.frames [ inl l ↦ inl (omega (arith, l, le)) | inr l ↦ inr (omega (arith, l, le)) ];
      numbers = omega (arith, h.numbers, le);
    })
  ];
}
