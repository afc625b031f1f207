-- The bytes of a page of which a piece was written over.
use Rattle.std.proofs.Common.{◌≡◌, ℕ, ◌-◌, ◌≤◌, List, ◌++◌, length, take, drop, ap, ◌∙◌, arith, length-append, length-take, length-drop}
use Rattle.std.proofs.lemmas.List.{take_at}
use Rattle.std.proofs.lemmas.Slice.{take-put_mid_below, drop-put_mid}
use borrow.Rule.Slice.PartMut.{put_mid, post_of}
use Rattle.records.specs.declared.pages.TheConstants.{PAGE_SIZE}
use Rattle.records.specs.Lends.{with_bytes}
use Rattle.records.specs.Page.{SameWithin}

module _ (from to : ℕ) (page bytes piece : List ℕ) (is_page : bytes ≡ page) (is_size : length bytes ≡ PAGE_SIZE) (in_order : from ≤ to) (in_page : to ≤ PAGE_SIZE)
    (all : length piece ≡ length (take (to - from) (drop from bytes))) where
  fits : length piece ≡ to - from
  fits = omega (arith, all, length-take (to - from) (drop from bytes), length-drop from bytes)

  written-is : with_bytes page (put_mid from (to - from) bytes piece) ≡ put_mid from (to - from) bytes piece
  written-is =
      let written : List ℕ = put_mid from (to - from) bytes piece in
      let front = length-append (take from bytes) (piece ++ post_of from (to - from) bytes) in
      let back = length-append piece (post_of from (to - from) bytes) in
      take_at written (drop (length written) page) PAGE_SIZE
      (omega (arith, fits, front, back, length-take from bytes, length-drop (to - from) (drop from bytes), length-drop from bytes))

  -- the bytes before it and behind it stay
  pub same-before : SameWithin 0 from (with_bytes page (put_mid from (to - from) bytes piece)) page
  same-before =
      ap (λ (s : List ℕ). take (from - 0) s) written-is
      ∙ (take-put_mid_below from (to - from) bytes piece (from - 0) (omega arith) (omega arith) ∙ ap (λ (s : List ℕ). take (from - 0) s) is_page)

  pub same-behind : SameWithin to PAGE_SIZE (with_bytes page (put_mid from (to - from) bytes piece)) page
  same-behind =
      ap (λ (s : List ℕ). take (PAGE_SIZE - to) (drop to s)) written-is
      ∙ (ap (λ (s : List ℕ). take (PAGE_SIZE - to) s) (drop-put_mid from (to - from) bytes piece to (omega arith) (omega arith) fits)
      ∙ ap (λ (s : List ℕ). take (PAGE_SIZE - to) (drop to s)) is_page)
