-- What a list of writes shows at a key: its last write of the key.
use Rattle.std.proofs.Common.{◌∙◌, ap, Bor}
use Rattle.std.specs.Prelude.{◌≡◌, refl, true, false, cond, List, [], ◌∷◌, ◌++◌, Option, Some, None, MatchOption}
use Rattle.std.specs.Str.{bytes_eq}
use Rattle.std.specs.Map.{update}
use Rattle.words.specs.Store.{Bytes, Store, Write, written}

-- writes made after others
pub written-append : (writes more : List Write) (store : Store) → written store (writes ++ more) ≡ written (written store writes) more
written-append [] more store = refl
written-append (write ∷ writes) more store = written-append writes more (update bytes_eq store write.0 write.1)

-- the last write to the key is the value
pub last_here : (all rest : List Write) (write : Write) (key : Bytes) (store : Store) → all ≡ rest ++ write ∷ []
    → bytes_eq write.0 key ≡ true → written store all key ≡ write.1
last_here all rest write key store is same =
    ap (λ writes. written store writes key) is
    ∙ ap (λ shows. shows key) (written-append rest (write ∷ []) store)
    ∙ ap (λ test. cond test write.1 (written store rest key)) same

-- a last write to another key changes nothing
pub last_elsewhere : (all rest : List Write) (write : Write) (key : Bytes) (store : Store) → all ≡ rest ++ write ∷ []
    → bytes_eq write.0 key ≡ false → written store all key ≡ written store rest key
last_elsewhere all rest write key store is other =
    ap (λ writes. written store writes key) is
    ∙ ap (λ shows. shows key) (written-append rest (write ∷ []) store)
    ∙ ap (λ test. cond test write.1 (written store rest key)) other

-- what is found in the rest is found in all, where both show the same
pub found_in_rest : (found : Option (Bor Write)) (all rest : List Write) (key : Bytes) → ((store : Store) → written store all key ≡ written store rest key)
    → MatchOption found ((store : Store) → written store rest key ≡ store key) (λ write. (store : Store) → written store rest key ≡ write.now.1)
    → MatchOption found ((store : Store) → written store all key ≡ store key) (λ write. (store : Store) → written store all key ≡ write.now.1)
found_in_rest None all rest key same shows = λ store. same store ∙ shows store
found_in_rest (Some write) all rest key same shows = λ store. same store ∙ shows store
