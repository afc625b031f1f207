use Rattle.std.proofs.Common.{sym}
use Rattle.words.proofs.Decimals.{none_of_bytes, none_of_text}
use Rattle.words.proofs.number.parse.Goals as goal

pub returns-in_default : goal.returns-in_default
returns-in_default c = sym (none_of_bytes c.args.text.now c.in_default.ensures.cases.0)

pub returns-in_default-parse : goal.returns-in_default-parse
returns-in_default-parse c =
    sym (none_of_text c.args.text.now c.in-Ok.digits.now c.in-Ok.ensures.cases.0 c.in_default-parse.ensures.value.0)
