-- What was said of keys as it was found.
use Rattle.std.specs.Prelude.{ℕ, Bool, List, [], ◌∷◌, ◌++◌, length, drop, Option, Some, None, if◌then◌else◌}
use Rattle.words.specs.Answers.{item_of}
use Rattle.words.specs.declared.reply.Item.{Item}
use Rattle.resp_write.specs.declared.said.Told.{Told, Nothing, More'}

-- what the key has: if it has something, what the buffer held after its bytes more than before them
abbrev pub value_said : (is_there : Bool) → (before after : List ℕ) → Option (List ℕ)
value_said is_there before after = if is_there then Some (drop (length before) after) else None

-- the items that were said, in order
abbrev pub told_in : Told → List Item
told_in Nothing = []
told_in (More' said snapshot earlier) = told_in earlier ++ item_of said ∷ []
