-- Computed rows of numbers' texts: which texts are numbers of 64 bits with a sign.
use Rattle.std.specs.Prelude.{◌≡◌, true, false, [], ◌∷◌, pos, negsuc, Some, None, refl}
use Rattle.std.specs.Fmt.{digits}
use Rattle.words.specs.Numbers.{number_of, in_range}
use Rattle.words.proofs.Rows.{numbers_of}

zero_and_small : numbers_of ("0" ∷ "1" ∷ "-1" ∷ "10" ∷ "-10" ∷ "1234567890" ∷ [])
    ≡ Some (pos 0) ∷ Some (pos 1) ∷ Some (negsuc 0) ∷ Some (pos 10) ∷ Some (negsuc 9) ∷ Some (pos 1234567890) ∷ []
unfolding digits
zero_and_small = refl

-- the ends of the range, and one past each
greatest : numbers_of ("9223372036854775807" ∷ "9223372036854775808" ∷ []) ≡ Some (pos 9223372036854775807) ∷ None ∷ []
unfolding digits
greatest = refl

least : numbers_of ("-9223372036854775808" ∷ "-9223372036854775809" ∷ []) ≡ Some (negsuc 9223372036854775807) ∷ None ∷ []
unfolding digits
least = refl

far_out : numbers_of ("18446744073709551616" ∷ "99999999999999999999999999" ∷ "-99999999999999999999999999" ∷ []) ≡ None ∷ None ∷ None ∷ []
unfolding digits
far_out = refl

-- zero with a minus, a plus, leading zeros
other_spellings : numbers_of ("-0" ∷ "+1" ∷ "+0" ∷ "01" ∷ "00" ∷ "-01" ∷ []) ≡ None ∷ None ∷ None ∷ None ∷ None ∷ None ∷ []
unfolding digits
other_spellings = refl

-- nothing, a sign alone, two signs
no_digits : numbers_of ("" ∷ "-" ∷ "+" ∷ "--1" ∷ "-+1" ∷ []) ≡ None ∷ None ∷ None ∷ None ∷ None ∷ []
unfolding digits
no_digits = refl

-- a space on either side, a letter, a point, the bytes on either side of the digits, and a line end
other_bytes : numbers_of (" 1" ∷ "1 " ∷ "a" ∷ "1a" ∷ "a1" ∷ "1.0" ∷ "/" ∷ ":" ∷ "1:" ∷ "1\n" ∷ "0x1" ∷ "1_000" ∷ [])
    ≡ None ∷ None ∷ None ∷ None ∷ None ∷ None ∷ None ∷ None ∷ None ∷ None ∷ None ∷ None ∷ []
unfolding digits
other_bytes = refl

-- bytes that are no text
no_utf8 : number_of (255 ∷ []) ≡ None
unfolding digits
no_utf8 = refl

ends_of_the_range :
    in_range (pos 9223372036854775807) ∷ in_range (pos 9223372036854775808) ∷ in_range (negsuc 9223372036854775807)
    ∷ in_range (negsuc 9223372036854775808) ∷ []
    ≡ true ∷ false ∷ true ∷ false ∷ []
ends_of_the_range = refl
