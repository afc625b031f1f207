-- The items of which values as a reply spells them are a text.
use Rattle.std.specs.Prelude.{ℕ, ◌≡◌, ◌≤◌, List, [], ◌∷◌, ◌++◌, length, drop}
use Rattle.std.specs.List.{flat_map}
use Rattle.words.specs.declared.reply.Item.{Item}
use Rattle.words.specs.declared.reply.Item.TheVariants as item
use Rattle.words.specs.declared.bulks.Told.{Told, Nothing, Null', Value'}
use Rattle.words.specs.Encoding.{item_encoding}

-- the items, in order
abbrev pub told_in : Told → List Item
told_in Nothing = []
told_in (Null' snapshot earlier) = told_in earlier ++ item.Null ∷ []
told_in (Value' before after snapshot earlier) = told_in earlier ++ item.Bulk (drop (length before.value.items) after.value.items) ∷ []

-- the text and the number of the items
pub record Spells (items : List Item) (text : List ℕ) (count : ℕ) : Type 0 where
  pub text_is : text ≡ flat_map item_encoding items
  pub count_is : count ≡ length items
  pub short : length items ≤ length text
