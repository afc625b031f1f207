use Rattle.std.proofs.Common.{refl, arith}
use Rattle.std.specs.Option.{option_copied}
use Rattle.records.proofs.Filled.{replaced-longer, replaced-shorter}
use Rattle.records.proofs.entries.replace_value.Goals as goal

pub returns-then-length-old_length : goal.returns-then-length-old_length
returns-then-length-old_length c = λ old is_old is_room.
    replaced-shorter c.args.room.now c.write_value.new.room c.fill_zeros.new.bytes old (option_copied c.args.value) c.args.old_length c.length_of-length.result _
    is_old c.length_of-length.ensures is_room refl c.write_value.ensures c.if-length-old_length.true c.requires.old c.fill_zeros.ensures

pub returns-else-length-old_length : goal.returns-else-length-old_length
returns-else-length-old_length c = λ old is_old is_room.
    replaced-longer c.args.room.now c.write_value.new.room old (option_copied c.args.value) c.args.old_length _
    is_old is_room c.write_value.ensures (omega (arith, c.length_of-length.ensures, c.if-length-old_length.false))
