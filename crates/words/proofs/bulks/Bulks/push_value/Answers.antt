use Rattle.std.proofs.Common.{◌≡◌, ◌++◌, length, append_assoc}
use Rattle.words.specs.Spelling.{header}
use Rattle.words.proofs.SpelledValues.{spells-value}
use Rattle.words.proofs.bulks.Bulks.push_value.Goals as goal

pub invariant_of-self-2 : goal.invariant_of-self-2
unfolding header
invariant_of-self-2 c =
    let begins : c.put-3.new.text.items ≡ c.self.inside.text.items ++ header 36 (length c.args.bytes.now) =
    rw (c.put-3.ensures.items, c.put-2.ensures.items, c.put.ensures.items, c.reserve.ensures.items, c.as_bytes-digits.ensures.value, c.format.ensures.text)
    (simp append_assoc) in
    rw (c.of.ensures, c.of-before.ensures, c.of-after.ensures)
    (spells-value _ _ _ _ _ c.args.bytes.now _ c.self.invariant begins c.put-4.ensures.items c.put-5.ensures.items)
