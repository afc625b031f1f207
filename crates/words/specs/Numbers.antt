-- Numbers as texts. A text is a number where it is the decimal of a 64-bit signed number: `0`, or an optional minus and digits without a
-- leading zero. (Redis' string2ll takes the same texts.)
use Rattle.std.specs.Prelude.{ℤ, pos, negsuc, ◌^◌, Bool, nat_lt, ◌&&◌, Option, Some, None, if◌then◌else◌}
use Rattle.std.specs.Fmt.{signed_decimal}
use Rattle.std.specs.Str.{bytes_eq}
use Rattle.std.specs.Str.Parse.{signed_digits_value}
use Rattle.words.specs.Store.{Bytes}

-- whether a number is one of 64 bits with a sign
abbrev pub in_range : ℤ → Bool
in_range (pos n) = nat_lt n (2 ^ 63)
in_range (negsuc n) = nat_lt n (2 ^ 63)

-- the number that a text is, if any: what its digits make, where that is printed as this very text
abbrev pub number_of : Bytes → Option ℤ
number_of text =
    let n = signed_digits_value 10 text in
    if in_range n && bytes_eq (signed_decimal n) text then Some n else None
