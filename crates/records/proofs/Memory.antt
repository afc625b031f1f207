-- The bytes of a page, by its memory.
use Rattle.std.proofs.Common.{◌≡◌, ℕ, ◌+◌, ◌-◌, ◌≤◌, ◌<◌, List, [], ◌∷◌, ◌++◌, length, take, drop, replicate, ap, ◌∙◌, sym, refl, arith, length-append, length-drop, length-take-le, append-nil, append_assoc, ⊎_elim}
use Rattle.std.proofs.lemmas.Bool.{cases_lt}
use Rattle.std.proofs.lemmas.List.{length-replicate, take-append-le, drop-append-le, drop-replicate, take-replicate}
use borrow.Rule.Slice.PartMut.{put_mid}
use Rattle.records.specs.declared.pages.TheConstants.{PAGE_SIZE}
use Rattle.records.specs.Page.{SameWithin, zero_page}
use Rattle.records.specs.Memory.{bytes_of}

-- memory that holds nothing
pub bytes_of-none : (items : List ℕ) → items ≡ [] → bytes_of items ≡ zero_page
bytes_of-none items none = ap (λ (i : List ℕ). bytes_of i) none

pub nothing : (items : List ℕ) → length items ≡ 0 → items ≡ []
nothing [] h = refl
nothing (x ∷ xs) h = absurd (omega (arith, h))

-- memory that holds all
pub bytes_of-all : (items : List ℕ) → length items ≡ PAGE_SIZE → bytes_of items ≡ items
bytes_of-all items full =
    let no_more : PAGE_SIZE - length items ≡ 0 = omega (arith, full) in
    ap (λ (n : ℕ). items ++ replicate n 0) no_more ∙ append-nil items

pub length-bytes_of : (items : List ℕ) → length items ≤ PAGE_SIZE → length (bytes_of items) ≡ PAGE_SIZE
length-bytes_of items bound = omega (arith, length-append items (replicate (PAGE_SIZE - length items) 0), length-replicate {A = ℕ} (PAGE_SIZE - length items) 0, bound)

-- the zeros behind so many bytes of a page
pub rest-zero : (n size : ℕ) (more : List ℕ) → n ≡ size → more ≡ take (PAGE_SIZE - n) (drop n zero_page) → more ≡ replicate (PAGE_SIZE - size) 0
rest-zero n size more is_size is =
    is ∙ (ap (λ (s : List ℕ). take (PAGE_SIZE - n) s) (drop-replicate {X = ℕ} n PAGE_SIZE 0)
    ∙ (take-replicate {X = ℕ} (PAGE_SIZE - n) (PAGE_SIZE - n) 0 (omega arith) ∙ ap (λ (m : ℕ). replicate (PAGE_SIZE - m) 0) is_size))

-- memory that was filled
pub filled-bytes : (n : ℕ) (items more : List ℕ) → n ≡ length items → more ≡ take (PAGE_SIZE - n) (drop n zero_page) → items ++ more ≡ bytes_of items
filled-bytes n items more size is = ap (λ (s : List ℕ). items ++ s) (rest-zero n (length items) more size is)

-- what lies in memory is a part of the page
pub same-in_memory : (items : List ℕ) (from to : ℕ) → to ≤ length items → SameWithin from to items (bytes_of items)
same-in_memory items from to h =
    let Z : List ℕ = replicate (PAGE_SIZE - length items) 0 in
    let some : from < to → SameWithin from to items (bytes_of items) = λ in_order.
    sym (ap (λ (s : List ℕ). take (to - from) s) (drop-append-le from items Z (omega (arith, in_order, h)))
    ∙ take-append-le (to - from) (drop from items) Z (omega (arith, length-drop from items, h))) in
    let none : to ≤ from → SameWithin from to items (bytes_of items) = λ past.
    let no_more : to - from ≡ 0 = omega (arith, past) in
    rw no_more refl in
    ⊎_elim some none (cases_lt from to)

-- a part of the memory that takes other bytes
pub put-in_memory : (items new : List ℕ) (at n : ℕ) → at + n ≤ length items → length new ≡ n → bytes_of (put_mid at n items new) ≡ put_mid at n (bytes_of items) new
put-in_memory items new at n h size =
    let Z : List ℕ = replicate (PAGE_SIZE - length items) 0 in
    let front : take at (items ++ Z) ≡ take at items = take-append-le at items Z (omega (arith, h)) in
    let back : drop n (drop at (items ++ Z)) ≡ drop n (drop at items) ++ Z =
    ap (λ (s : List ℕ). drop n s) (drop-append-le at items Z (omega (arith, h))) ∙ drop-append-le n (drop at items) Z (omega (arith, length-drop at items, h)) in
    let long : length (put_mid at n items new) ≡ length items =
    omega (arith, length-append (take at items) (new ++ drop n (drop at items)), length-append new (drop n (drop at items)), length-take-le at items (omega (arith, h)), length-drop n (drop at items), length-drop at items, size, h) in
    let zeros : replicate (PAGE_SIZE - length (put_mid at n items new)) 0 ≡ Z = ap (λ (m : ℕ). replicate (PAGE_SIZE - m) 0) long in
    ap (λ (s : List ℕ). put_mid at n items new ++ s) zeros
    ∙ (append_assoc (take at items) (new ++ drop n (drop at items)) Z
    ∙ (ap (λ (s : List ℕ). take at items ++ s) (append_assoc new (drop n (drop at items)) Z)
    ∙ sym (rw (front, back) refl)))

-- memory that is lent to be written, all of which it holds
pub lent : (size : ℕ) (items page w : List ℕ) → size ≡ PAGE_SIZE → length items ≡ size → items ≡ page → bytes_of (take size (w ++ drop (length w) items)) ≡ take PAGE_SIZE (w ++ drop (length w) page)
lent size items page w full long same =
    let enough : size ≤ length (w ++ drop (length w) items) = simp (length-append, length-drop) (omega (arith, long)) in
    bytes_of-all _ (length-take-le size (w ++ drop (length w) items) enough ∙ full)
    ∙ ap (λ (n : ℕ). take n (w ++ drop (length w) items)) full
    ∙ ap (λ (i : List ℕ). take PAGE_SIZE (w ++ drop (length w) i)) same
