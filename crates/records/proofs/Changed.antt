-- A page after one of its records took another value, or one more was put behind them, by what lies in its memory.
use Rattle.std.proofs.Common.{◌≡◌, ℕ, ◌+◌, ◌-◌, ◌≤◌, ◌<◌, ◌^◌, List, ◌++◌, length, take, drop, replicate, Option, refl, sym, ap, ◌∙◌, arith, subst, inl, inr, length-append, length-take-le, length-drop, append_assoc}
use Rattle.std.specs.List.{Contains}
use Rattle.std.proofs.lemmas.List.{take_at, drop_at, drop-replicate, take-replicate}
use borrow.Rule.Slice.PartMut.{put_mid}
use Rattle.records.specs.declared.pages.TheConstants.{PAGE_SIZE, HEADER_SIZE, USED_END_AT}
use Rattle.records.specs.declared.entries.TheConstants.{RECORD_HEADER, KEY_BYTES_MAX, KEY_LENGTH_AT, VALUE_LENGTH_AT, CAPACITY_AT}
use Rattle.records.specs.Fields.{u16_at, u32_at, u32_bytes}
use Rattle.records.specs.Memory.{bytes_of, IsPageMemory}
use Rattle.records.specs.Page.{used_end, with_end}
use Rattle.records.specs.Records.{Stored, IsStored, value_bytes, kind_of, size_of, size_for, new_record, head, spelling, records_of, IsLaidOut}
use Rattle.records.proofs.Spelling.{length-spelling}
use Rattle.records.proofs.Memory.{put-in_memory, same-in_memory}
use Rattle.records.proofs.Numbers.{same-u16_at, same-u32_at}
use Rattle.records.proofs.Held.{held-used}
use Rattle.records.proofs.Lists.{end_from-le}
use Rattle.records.proofs.Headers.{length-u32}
use Rattle.records.proofs.There.{IsThere, HasChanged, changed-by_steps}
use Rattle.records.proofs.After.{HasGained, size_of-new_record, IsStored-new_record, put-HasGained}

-- memory that was lent to be written, and is as long as before
pub lent-again : (size : ℕ) (items w : List ℕ) → length items ≡ size → length w ≡ length items → take size (w ++ drop (length w) items) ≡ w
lent-again size items w long same = take_at w (drop (length w) items) size (same ∙ long)

pub length-put : (items new : List ℕ) (at n : ℕ) → at + n ≤ length items → length new ≡ n → length (put_mid at n items new) ≡ length items
length-put items new at n h size =
    omega (arith, length-append (take at items) (new ++ drop n (drop at items)), length-append new (drop n (drop at items)), length-take-le at items (omega (arith, h)), length-drop n (drop at items), length-drop at items, size, h)

-- memory that holds something stays that of a page where the end of the used part stays
same-IsPageMemory : (items new : List ℕ) (capacity : ℕ) → IsPageMemory items capacity → length new ≡ length items → 0 < length items → used_end (bytes_of new) ≡ used_end (bytes_of items) → IsPageMemory new capacity
same-IsPageMemory items new capacity is long some end =
    record {
      room = is.room;
      bound = omega (arith, long, is.bound);
      used =
          elim is.used [
            | inl full ↦ inl (long ∙ full)
            | inr (inl part) ↦ inr (inl (end ∙ part.0 ∙ sym long, omega (arith, part.1, long)))
            | inr (inr none) ↦ absurd (omega (arith, some, ap (λ (i : List ℕ). length i) none))
          ];
    }

-- a record that is there lies in memory
module _ (items page : List ℕ) (capacity offset : ℕ) (r : Stored) (memory : IsPageMemory items capacity) (is_page : bytes_of items ≡ page) (t : IsThere page offset r) where
  pub held-there : offset + size_of r ≤ length items
  held-there =
      let end : used_end (bytes_of items) ≡ used_end page = ap (λ (p : List ℕ). used_end p) is_page in
      omega (arith, t.within, end, held-used items capacity memory (omega (arith, end, t.ends_in_page)))

  -- a part of the memory is one of the page
  part : (bytes : List ℕ) (from n : ℕ) → bytes ≡ items → from + n ≤ length items → take n (drop from bytes) ≡ take n (drop from page)
  part bytes from n is h =
      let cut : from + n - from ≡ n = omega arith in
      ap (λ (b : List ℕ). take n (drop from b)) is ∙ (rw cut at (same-in_memory items from (from + n) h) ∙ ap (λ (b : List ℕ). take n (drop from b)) is_page)

  pub held-key_length : (bytes : List ℕ) (k : ℕ) → bytes ≡ items → k ≡ u16_at bytes (offset + KEY_LENGTH_AT) → k ≡ length r.key
  held-key_length bytes k is is_k = is_k ∙ (same-u16_at bytes page (offset + KEY_LENGTH_AT) (part bytes (offset + KEY_LENGTH_AT) 2 is (omega (arith, held-there))) ∙ t.key_length)

  pub held-value_length : (bytes : List ℕ) (n : ℕ) → bytes ≡ items → n ≡ u32_at bytes (offset + VALUE_LENGTH_AT) → n ≡ length (value_bytes r.value)
  held-value_length bytes n is is_n = is_n ∙ (same-u32_at bytes page (offset + VALUE_LENGTH_AT) (part bytes (offset + VALUE_LENGTH_AT) 4 is (omega (arith, held-there))) ∙ t.value_length)

  pub held-capacity : (bytes : List ℕ) (c : ℕ) → bytes ≡ items → c ≡ u32_at bytes (offset + CAPACITY_AT) → c ≡ r.capacity
  held-capacity bytes c is is_c = is_c ∙ (same-u32_at bytes page (offset + CAPACITY_AT) (part bytes (offset + CAPACITY_AT) 4 is (omega (arith, held-there))) ∙ t.capacity)

  -- after the steps of `overwrite`
  module _ (bytes slot : List ℕ) (k n c : ℕ) (value : Option (List ℕ)) (is : bytes ≡ items) (was : IsLaidOut page) (listed : Contains (records_of page) (offset, r))
      (fits : length (value_bytes value) ≤ r.capacity) (is_k : k ≡ length r.key) (is_n : n ≡ length (value_bytes r.value)) (is_c : c ≡ r.capacity)
      (rewrites : (s : Stored) → take (offset + RECORD_HEADER + k + c - offset) (drop offset bytes) ≡ spelling s → length (take (offset + RECORD_HEADER + k + c - offset) (drop offset bytes)) ≡ size_of s → k ≡ length s.key → n ≡ length (value_bytes s.value) → slot ≡ spelling (record s { value = value })) where
    size : offset + RECORD_HEADER + k + c - offset ≡ size_of r
    size = omega (arith, is_k, is_c)

    same : take (offset + RECORD_HEADER + k + c - offset) (drop offset bytes) ≡ take (offset + RECORD_HEADER + k + c - offset) (drop offset page)
    same = part bytes offset (offset + RECORD_HEADER + k + c - offset) is (omega (arith, size, held-there))

    rewrites-page : (s : Stored) → take (offset + RECORD_HEADER + k + c - offset) (drop offset page) ≡ spelling s → length (take (offset + RECORD_HEADER + k + c - offset) (drop offset page)) ≡ size_of s → k ≡ length s.key → n ≡ length (value_bytes s.value) → slot ≡ spelling (record s { value = value })
    rewrites-page s spelled sized = rewrites s (same ∙ spelled) (ap (λ (b : List ℕ). length b) same ∙ sized)

    length-slot : length slot ≡ offset + RECORD_HEADER + k + c - offset
    length-slot =
        let ok : IsStored r = t.ok in
        let spelled : take (offset + RECORD_HEADER + k + c - offset) (drop offset page) ≡ spelling r = rw size t.bytes in
        let sized : length (take (offset + RECORD_HEADER + k + c - offset) (drop offset page)) ≡ size_of r = ap (λ (s : List ℕ). length s) spelled ∙ length-spelling r ok.value_fits in
        let new : Stored = record r { value = value } in
        ap (λ (s : List ℕ). length s) (rewrites-page r spelled sized is_k is_n) ∙ length-spelling new fits ∙ sym size

    within : offset + (offset + RECORD_HEADER + k + c - offset) ≤ length items
    within = omega (arith, size, held-there)

    new : List ℕ
    new = put_mid offset (offset + RECORD_HEADER + k + c - offset) bytes slot

    pub length-changed : length (put_mid offset (offset + RECORD_HEADER + k + c - offset) bytes slot) ≡ length bytes
    length-changed = length-put bytes slot offset (offset + RECORD_HEADER + k + c - offset) (omega (arith, within, ap (λ (b : List ℕ). length b) is)) length-slot

    pub memory-changed : HasChanged page (bytes_of (put_mid offset (offset + RECORD_HEADER + k + c - offset) bytes slot)) offset value
    memory-changed =
        let steps = changed-by_steps page page slot offset k n c r value was listed fits refl is_k is_n is_c rewrites-page in
        let whole : bytes_of (put_mid offset (offset + RECORD_HEADER + k + c - offset) bytes slot) ≡ put_mid offset (offset + RECORD_HEADER + k + c - offset) page slot =
        put-in_memory bytes slot offset (offset + RECORD_HEADER + k + c - offset) (omega (arith, within, ap (λ (b : List ℕ). length b) is)) length-slot
        ∙ ap (λ (p : List ℕ). put_mid offset (offset + RECORD_HEADER + k + c - offset) p slot) (ap (λ (b : List ℕ). bytes_of b) is ∙ is_page) in
        subst (λ (p : List ℕ). HasChanged page p offset value) (sym whole) steps

    pub memory-stays : IsPageMemory (put_mid offset (offset + RECORD_HEADER + k + c - offset) bytes slot) capacity
    memory-stays =
        same-IsPageMemory items (put_mid offset (offset + RECORD_HEADER + k + c - offset) bytes slot) capacity memory (length-changed ∙ ap (λ (b : List ℕ). length b) is) (omega (arith, held-there))
        (memory-changed.end_is ∙ ap (λ (p : List ℕ). used_end p) (sym is_page))

-- the bytes that `append_record` puts behind the memory, which has another end of the used part then
pub appended-spelling : (front one two three four top key text zeros : List ℕ) (link hash capacity : ℕ) (value : Option (List ℕ))
    → one ≡ front ++ top → two ≡ one ++ key → three ≡ two ++ text → four ≡ three ++ zeros
    → top ≡ head link hash (length key) (kind_of value) (length (value_bytes value)) capacity → text ≡ value_bytes value → zeros ≡ replicate (capacity - length (value_bytes value)) 0
    → four ≡ front ++ spelling (record { link = link; hash = hash; key = key; value = value; capacity = capacity })
unfolding spelling
appended-spelling front one two three four top key text zeros link hash capacity value e1 e2 e3 e4 is_top is_text is_zeros =
    e4 ∙ (ap (λ (s : List ℕ). s ++ zeros) (e3 ∙ ap (λ (s : List ℕ). s ++ text) (e2 ∙ ap (λ (s : List ℕ). s ++ key) e1)) ∙ rw (is_top, is_text, is_zeros) (simp append_assoc))

-- a page that is laid out has a header in its used part
pub laid-header : (page : List ℕ) → IsLaidOut page → HEADER_SIZE ≤ used_end page
laid-header page was = omega (arith, was.used, end_from-le HEADER_SIZE was.stored)

-- the zeros behind a value
pub taken-zeros : (n : ℕ) → n ≤ PAGE_SIZE → take n (replicate {A = ℕ} PAGE_SIZE 0) ≡ replicate n 0
taken-zeros n h = take-replicate {X = ℕ} n PAGE_SIZE 0 h

-- one more record behind those of a page whose memory ends with them
module _ (items new page : List ℕ) (capacity more link hash end size : ℕ) (key : List ℕ) (value : Option (List ℕ))
    (memory : IsPageMemory items capacity) (is_page : bytes_of items ≡ page) (was : IsLaidOut page)
    (hl : link < 2 ^ 64) (hh : hash < 2 ^ 64) (hk : length key ≤ KEY_BYTES_MAX) (is_end : end ≡ used_end page) (held : length items ≡ end)
    (is_size : size ≡ size_for (length key) (length (value_bytes value))) (fits : size ≤ PAGE_SIZE - end) (in_page : end ≤ PAGE_SIZE) (enough : capacity ≤ more)
    (is : new ≡ with_end items (length items + size) ++ spelling (record { link = link; hash = hash; key = key; value = value; capacity = size - RECORD_HEADER - length key })) where
  r : Stored
  r = new_record link hash key value

  total : size_of r ≡ size
  unfolding r
  total = size_of-new_record link hash key value ∙ sym is_size

  ok : IsStored r
  unfolding r
  ok = IsStored-new_record link hash key value hl hh hk (omega (arith, is_size, fits))

  S : List ℕ
  S = spelling r

  spelled : spelling (record { link = link; hash = hash; key = key; value = value; capacity = size - RECORD_HEADER - length key }) ≡ S
  unfolding S r
  spelled = ap (λ (n : ℕ). spelling (record { link = link; hash = hash; key = key; value = value; capacity = n - RECORD_HEADER - length key })) is_size

  length-S : length S ≡ size
  unfolding S
  length-S = length-spelling r ok.value_fits ∙ total

  some : HEADER_SIZE ≤ length items
  some = omega (arith, held, is_end, was.used, end_from-le HEADER_SIZE was.stored)

  A : List ℕ
  A = with_end items (length items + size)

  length-A : length A ≡ length items
  unfolding A
  length-A = length-put items (u32_bytes (length items + size)) USED_END_AT 4 (omega (arith, some)) (length-u32 (length items + size))

  new-is : new ≡ A ++ S
  unfolding A
  new-is = is ∙ ap (λ (s : List ℕ). with_end items (length items + size) ++ s) spelled

  length-new : length new ≡ length items + size
  length-new = ap (λ (s : List ℕ). length s) new-is ∙ length-append A S ∙ omega (arith, length-A, length-S)

  -- the page with the record put where its used part ended
  put-is : bytes_of new ≡ put_mid (used_end page) (size_of r) (put_mid USED_END_AT 4 page (u32_bytes (used_end page + size_of r))) S
  unfolding A
  put-is =
      let Z : List ℕ = replicate (PAGE_SIZE - length items) 0 in
      let at : length items ≡ used_end page = held ∙ is_end in
      let ends : used_end page + size_of r ≡ length items + size = omega (arith, at, total) in
      let headed : put_mid USED_END_AT 4 page (u32_bytes (length items + size)) ≡ A ++ Z =
      ap (λ (p : List ℕ). put_mid USED_END_AT 4 p (u32_bytes (length items + size))) (sym is_page)
      ∙ (sym (put-in_memory items (u32_bytes (length items + size)) USED_END_AT 4 (omega (arith, some)) (length-u32 (length items + size)))
      ∙ ap (λ (n : ℕ). A ++ replicate (PAGE_SIZE - n) 0) length-A) in
      let zeros : drop size Z ≡ replicate (PAGE_SIZE - length new) 0 = drop-replicate {X = ℕ} size (PAGE_SIZE - length items) 0 ∙ ap (λ (n : ℕ). replicate n 0) (omega (arith, length-new)) in
      let put : put_mid (length items) size (A ++ Z) S ≡ A ++ (S ++ replicate (PAGE_SIZE - length new) 0) =
      ap (λ (s : List ℕ). s ++ (S ++ drop size (drop (length items) (A ++ Z)))) (take_at A Z (length items) length-A)
      ∙ ap (λ (s : List ℕ). A ++ (S ++ s)) (ap (λ (s : List ℕ). drop size s) (drop_at A Z (length items) length-A) ∙ zeros) in
      let G : ℕ → ℕ → ℕ → List ℕ = λ e n u. put_mid e n (put_mid USED_END_AT 4 page (u32_bytes u)) S in
      ap (λ (s : List ℕ). s ++ replicate (PAGE_SIZE - length new) 0) new-is ∙ append_assoc A S (replicate (PAGE_SIZE - length new) 0) ∙ sym put
      ∙ ap (λ (p : List ℕ). put_mid (length items) size p S) (sym headed)
      ∙ ap (λ (e : ℕ). G e size (length items + size)) at
      ∙ ap (λ (n : ℕ). G (used_end page) n (length items + size)) (sym total)
      ∙ ap (λ (u : ℕ). G (used_end page) (size_of r) u) (sym ends)

  pub memory-gained : HasGained page (bytes_of new) (new_record link hash key value)
  unfolding S r
  memory-gained = subst (λ (p : List ℕ). HasGained page p (new_record link hash key value)) (sym put-is) (put-HasGained page r was ok (omega (arith, total, is_end, fits, in_page)))

  pub memory-grown : IsPageMemory new more
  unfolding r
  memory-grown =
      record {
        room = omega (arith, memory.room, enough);
        bound = omega (arith, length-new, held, fits, in_page);
        used = inr (inl (memory-gained.end_is ∙ omega (arith, held, is_end, total, length-new), omega (arith, length-new, some)));
      }
