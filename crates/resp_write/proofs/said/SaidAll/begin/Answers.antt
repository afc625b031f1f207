use Rattle.std.proofs.Common.{append_assoc}
use Rattle.words.specs.Spelling.{header}
use Rattle.resp_write.proofs.said.SaidAll.begin.Goals as goal

pub returns-clause-done : goal.returns-clause-done
unfolding header
returns-clause-done c =
    rw (
      c.put-3.ensures.items,
      c.put-2.ensures.items,
      c.put.ensures.items,
      c.as_bytes-digits.ensures.value,
      c.format.ensures.text,
    )
    (simp append_assoc)
