use Rattle.std.proofs.Common.{append_assoc}
use Rattle.resp_write.proofs.SaidLengths.{said_text}
use Rattle.resp_write.proofs.said.say_bytes.Goals as goal

pub returns-clause-done : goal.returns-clause-done
returns-clause-done c =
    rw (
      c.put-5.ensures.items,
      c.put-4.ensures.items,
      c.put-3.ensures.items,
      c.put-2.ensures.items,
      c.put.ensures.items,
      c.as_bytes-digits.ensures.value,
      c.format.ensures.text,
      said_text c.args.bytes.now,
    )
    (simp append_assoc)
