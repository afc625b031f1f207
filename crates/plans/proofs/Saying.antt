-- What is said to an MGET, value by value.
use Rattle.std.proofs.Common.{ℕ, suc, ◌≡◌, ◌∙◌, ◌+◌, ◌≤◌, List, [], ◌∷◌, ◌++◌, Option, length, map, arith, length-append, append_assoc, append-nil, refl, sym, ap}
use Rattle.std.proofs.lemmas.Grind.{flat_map-append}
use Rattle.std.proofs.lemmas.List.{length-map}
use Rattle.std.specs.List.{flat_map}
use Rattle.words.specs.declared.reply.Item.{Item}
use Rattle.words.specs.declared.command.Command.{Command}
use Rattle.words.specs.declared.command.Command.TheVariants.{Get}
use Rattle.words.specs.declared.reply.CommandReply.TheVariants.{One}
use Rattle.words.specs.Answers.{answers, item_of, items_of}
use Rattle.words.specs.Commands.{keys_of_all}
use Rattle.words.specs.Encoding.{encoding, command_reply_encoding, item_encoding}
use Rattle.words.specs.Session.{value_reply, values_reply}
use Rattle.words.specs.Spelling.{header}
use Rattle.words.specs.Store.{Bytes, Store}
use Rattle.plans.specs.Telling.{AreGets, gets_reply}

pub value_text : (value : Option Bytes) → encoding (value_reply value) ≡ item_encoding (item_of value)
unfolding encoding command_reply_encoding
value_text value = refl

pub values_text : (items : List Item) → encoding (values_reply items) ≡ header 42 (length items) ++ flat_map item_encoding items
unfolding encoding command_reply_encoding
values_text items = refl

pub items_count : (store : Store) (keys : List Bytes) → length (items_of store keys) ≡ length keys
items_count store [] = refl
items_count store (key ∷ keys) = ap suc (items_count store keys)

-- a value is said behind others
pub text_more : (n : ℕ) (said : List Item) (value : Option Bytes) (start text more : Bytes)
    → text ≡ start ++ (header 42 n ++ flat_map item_encoding said) → more ≡ text ++ encoding (value_reply value)
    → more ≡ start ++ (header 42 n ++ flat_map item_encoding (said ++ item_of value ∷ []))
text_more n said value start text more was is =
    rw (is, was, value_text value, flat_map-append item_encoding said (item_of value ∷ []))
    (simp (append_assoc, append-nil))

-- where the whole reply fits behind what was there, so does the header
pub header_fits : (store : Store) (keys : List Bytes) (before limit : ℕ)
    → before + length (encoding (values_reply (items_of store keys))) ≤ limit → before + length (header 42 (length keys)) ≤ limit
header_fits store keys before limit fits =
    let whole : length (encoding (values_reply (items_of store keys))) ≡ length (header 42 (length keys)) + length (flat_map item_encoding (items_of store keys)) =
    ap length (values_text (items_of store keys) ∙ ap (λ (n : ℕ). header 42 n ++ flat_map item_encoding (items_of store keys)) (items_count store keys))
    ∙ length-append (header 42 (length keys)) (flat_map item_encoding (items_of store keys)) in
    omega (arith, whole, fits)

-- and so does the next value behind what was said
pub next_fits : (store : Store) (keys others : List Bytes) (first : Bytes) (said : List Item) (held before limit : ℕ)
    → said ++ items_of store (first ∷ others) ≡ items_of store keys
    → held ≡ before + length (header 42 (length keys) ++ flat_map item_encoding said)
    → before + length (encoding (values_reply (items_of store keys))) ≤ limit → held + length (encoding (value_reply (store first))) ≤ limit
next_fits store keys others first said held before limit are is fits =
    let start = header 42 (length keys) in
    let item = item_of (store first) in
    let whole : length (encoding (values_reply (items_of store keys))) ≡ length start + length (flat_map item_encoding (items_of store keys)) =
    ap length (values_text (items_of store keys) ∙ ap (λ (n : ℕ). header 42 n ++ flat_map item_encoding (items_of store keys)) (items_count store keys))
    ∙ length-append start (flat_map item_encoding (items_of store keys)) in
    let parts : length (flat_map item_encoding (items_of store keys)) ≡ length (flat_map item_encoding said) + length (flat_map item_encoding (item ∷ items_of store others)) =
    ap (λ (l : List Item). length (flat_map item_encoding l)) (sym are) ∙ ap length (flat_map-append item_encoding said (item ∷ items_of store others))
    ∙ length-append (flat_map item_encoding said) (flat_map item_encoding (item ∷ items_of store others)) in
    let last : length (flat_map item_encoding (item ∷ items_of store others)) ≡ length (item_encoding item) + length (flat_map item_encoding (items_of store others)) =
    length-append (item_encoding item) (flat_map item_encoding (items_of store others)) in
    let value : length (encoding (value_reply (store first))) ≡ length (item_encoding item) = ap length (value_text (store first)) in
    let behind = length-append start (flat_map item_encoding said) in
    omega (arith, whole, parts, last, value, behind, is, fits)

-- The reply to GETs of a transaction is spelled as that to an MGET.
gets_flat : (items : List Item) → flat_map command_reply_encoding (map One items) ≡ flat_map item_encoding items
unfolding command_reply_encoding
gets_flat [] = refl
gets_flat (item ∷ items) = ap (λ (l : Bytes). item_encoding item ++ l) (gets_flat items)

pub gets_text : (items : List Item) → encoding (gets_reply items) ≡ encoding (values_reply items)
unfolding encoding command_reply_encoding
gets_text items = λ i. header 42 (length-map items One i) ++ gets_flat items i

-- GETs answer what their keys have, and write nothing
pub gets_answers : (store : Store) (commands : List Command) → AreGets commands → answers store commands ≡ (map One (items_of store (keys_of_all commands)), [])
gets_answers store [] gets = refl
gets_answers store (Get key ∷ commands) gets =
    let more = gets_answers store commands gets.1 in λ i. (One (item_of (store key)) ∷ (more i).0, (more i).1)
gets_answers store (_ ∷ commands) gets = absurd (cc gets.0)

-- each has one key
pub gets_count : (commands : List Command) → AreGets commands → length (keys_of_all commands) ≡ length commands
gets_count [] gets = refl
gets_count (Get key ∷ commands) gets = ap suc (gets_count commands gets.1)
gets_count (_ ∷ commands) gets = absurd (cc gets.0)
