-- One more value, as a reply spells values.
use Rattle.std.proofs.Common.{ℕ, ◌≡◌, ◌+◌, ◌≤◌, List, [], ◌∷◌, ◌++◌, length, drop, ap, sym, ◌∙◌, arith, append_assoc, append-nil, length-append}
use Rattle.std.specs.List.{flat_map}
use Rattle.std.proofs.lemmas.List.Concat.{flat_map-append}
use Rattle.std.proofs.Math.Seq.{drop-append_seam}
use Rattle.words.specs.declared.reply.Item.{Item}
use Rattle.words.specs.declared.reply.Item.TheVariants.{Bulk, Null}
use Rattle.words.specs.Store.{Bytes}
use Rattle.words.specs.Spelling.{crlf, header, bulk_string}
use Rattle.words.specs.Encoding.{item_encoding}
use Rattle.words.specs.Bulks.{Spells}

-- an item more
spells-more : (items : List Item) (item : Item) (text new : Bytes) (count : ℕ) → Spells items text count → 1 ≤ length (item_encoding item)
    → new ≡ text ++ item_encoding item → Spells (items ++ item ∷ []) new (count + 1)
spells-more items item text new count spells some is =
    let all = length-append items (item ∷ []) in
    let longer : length new ≡ length text + length (item_encoding item) = ap length is ∙ length-append text (item_encoding item) in
    record {
      text_is = is ∙ ap (λ (t : Bytes). t ++ item_encoding item) spells.text_is
          ∙ ap (λ (r : Bytes). flat_map item_encoding items ++ r) (sym (append-nil (item_encoding item)))
          ∙ sym (flat_map-append item_encoding items (item ∷ []));
      count_is = omega (arith, spells.count_is);
      short = omega (arith, spells.short);
    }

-- the null bulk string
pub spells-null : (items : List Item) (text new : Bytes) (count : ℕ) → Spells items text count → new ≡ text ++ 36 ∷ 45 ∷ 49 ∷ crlf
    → Spells (items ++ Null ∷ []) new (count + 1)
unfolding item_encoding
spells-null items text new count spells is = spells-more items Null text new count spells (omega arith) is

-- a value, which is what the text has after a part more than before it
pub spells-value : (items : List Item) (text before after new bytes : Bytes) (count : ℕ) → Spells items text count
    → before ≡ text ++ header 36 (length bytes) → after ≡ before ++ bytes → new ≡ after ++ crlf
    → Spells (items ++ Bulk (drop (length before) after) ∷ []) new (count + 1)
unfolding item_encoding bulk_string header
spells-value items text before after new bytes count spells begins adds ends =
    let value : drop (length before) after ≡ bytes = ap (drop (length before)) adds ∙ drop-append_seam before bytes in
    rw value
    (spells-more items (Bulk bytes) text new count spells (omega arith)
    (ends ∙ rw (adds, begins) (simp append_assoc)))
