-- The order of byte strings by the numbers that their beginnings spell.
use Rattle.std.proofs.Common.{Ordering, Less, Equal, Greater, true, false, ◌≡◌, ◌∙◌, refl, sym, ap, ℕ, zero, suc, ◌+◌, ◌*◌, ◌<◌, ◌≤◌, min, List, [], ◌∷◌, ◌++◌, length, get_or, take, drop, arith, length-drop}
use Rattle.std.proofs.Math.Seq.{take-add}
use Rattle.std.proofs.lemmas.List.{take-take}
use Rattle.std.proofs.lemmas.Map.Lookups.{exact_bytes}
use Rattle.std.specs.Ordering.{is_ne, nat_cmp, ordering_then, MatchOrdering}
use Rattle.std.specs.Cmp.{nat_cmp_is}
use Rattle.std.specs.Cmp.Lexicographic.{slice_cmp}
use Rattle.std.specs.Int.{w32, w64, from_be_bytes}
use Rattle.std.proofs.lemmas.Cmp.{ranked}

-- each element is a byte
abbrev pub AreBytes : List ℕ → Type 0
AreBytes xs = (k : ℕ) → get_or xs k 0 < 256

-- the number that the bytes spell after n, the highest first
abbrev number : ℕ → List ℕ → ℕ
number n [] = n
number n (x ∷ xs) = number (n * 256 + x) xs

then_assoc : (p q r : Ordering) → ordering_then p (ordering_then q r) ≡ ordering_then (ordering_then p q) r
then_assoc Less q r = refl
then_assoc Equal q r = refl
then_assoc Greater q r = refl

-- one more byte decides only where the numbers before it are equal
module _ (a b x y : ℕ) (small : x < 256) (small_too : y < 256) where
  ranks : (r s : Ordering) → MatchOrdering r (a < b) (a ≡ b) (b < a) → MatchOrdering s (x < y) (x ≡ y) (y < x)
      → MatchOrdering (ordering_then r s) (a * 256 + x < b * 256 + y) (a * 256 + x ≡ b * 256 + y) (b * 256 + y < a * 256 + x)
  ranks Less s h k = let before : a < b = h in omega arith
  ranks Greater s h k = let before : b < a = h in omega arith
  ranks Equal Less h k = let before : a ≡ b = h in let here : x < y = k in omega arith
  ranks Equal Equal h k = let before : a ≡ b = h in let here : x ≡ y = k in omega arith
  ranks Equal Greater h k = let before : a ≡ b = h in let here : y < x = k in omega arith

  one_more : ordering_then (nat_cmp a b) (nat_cmp x y) ≡ nat_cmp (a * 256 + x) (b * 256 + y)
  one_more = nat_cmp_is _ _ _ (ranks _ _ (ranked a b _ refl) (ranked x y _ refl))

nothing_then : (r : Ordering) → ordering_then r Equal ≡ r
nothing_then Less = refl
nothing_then Equal = refl
nothing_then Greater = refl

-- numbers of as many bytes lie as their bytes do
numbers : (a b : ℕ) (xs ys : List ℕ) → length xs ≡ length ys → AreBytes xs → AreBytes ys
    → nat_cmp (number a xs) (number b ys) ≡ ordering_then (nat_cmp a b) (slice_cmp nat_cmp xs ys)
numbers a b [] [] e f g = sym (nothing_then (nat_cmp a b))
numbers a b [] (y ∷ ys) e f g = absurd (omega arith)
numbers a b (x ∷ xs) [] e f g = absurd (omega arith)
numbers a b (x ∷ xs) (y ∷ ys) e f g =
    numbers (a * 256 + x) (b * 256 + y) xs ys (omega arith) (λ k. f (suc k)) (λ k. g (suc k))
    ∙ ap (λ r. ordering_then r (slice_cmp nat_cmp xs ys)) (sym (one_more a b x y (f 0) (g 0)))
    ∙ sym (then_assoc (nat_cmp a b) (nat_cmp x y) (slice_cmp nat_cmp xs ys))

four_spelled : (xs : List ℕ) → length xs ≡ 4 → from_be_bytes w32 xs ≡ number 0 xs
four_spelled [] e = absurd (omega arith)
four_spelled (_ ∷ []) e = absurd (omega arith)
four_spelled (_ ∷ _ ∷ []) e = absurd (omega arith)
four_spelled (_ ∷ _ ∷ _ ∷ []) e = absurd (omega arith)
four_spelled (a ∷ b ∷ c ∷ d ∷ []) e = omega arith
four_spelled (_ ∷ _ ∷ _ ∷ _ ∷ _ ∷ _) e = absurd (omega arith)

eight_spelled : (xs : List ℕ) → length xs ≡ 8 → from_be_bytes w64 xs ≡ number 0 xs
eight_spelled [] e = absurd (omega arith)
eight_spelled (_ ∷ []) e = absurd (omega arith)
eight_spelled (_ ∷ _ ∷ []) e = absurd (omega arith)
eight_spelled (_ ∷ _ ∷ _ ∷ []) e = absurd (omega arith)
eight_spelled (_ ∷ _ ∷ _ ∷ _ ∷ []) e = absurd (omega arith)
eight_spelled (_ ∷ _ ∷ _ ∷ _ ∷ _ ∷ []) e = absurd (omega arith)
eight_spelled (_ ∷ _ ∷ _ ∷ _ ∷ _ ∷ _ ∷ []) e = absurd (omega arith)
eight_spelled (_ ∷ _ ∷ _ ∷ _ ∷ _ ∷ _ ∷ _ ∷ []) e = absurd (omega arith)
eight_spelled (a ∷ b ∷ c ∷ d ∷ e ∷ f ∷ g ∷ h ∷ []) _ = omega arith
eight_spelled (_ ∷ _ ∷ _ ∷ _ ∷ _ ∷ _ ∷ _ ∷ _ ∷ _ ∷ _) e = absurd (omega arith)

module _ (xs ys : List ℕ) (f : AreBytes xs) (g : AreBytes ys) where
  pub by_four : length xs ≡ 4 → length ys ≡ 4 → nat_cmp (from_be_bytes w32 xs) (from_be_bytes w32 ys) ≡ slice_cmp nat_cmp xs ys
  by_four p q = (λ i. nat_cmp (four_spelled xs p i) (four_spelled ys q i)) ∙ numbers 0 0 xs ys (omega arith) f g

  pub by_eight : length xs ≡ 8 → length ys ≡ 8 → nat_cmp (from_be_bytes w64 xs) (from_be_bytes w64 ys) ≡ slice_cmp nat_cmp xs ys
  by_eight p q = (λ i. nat_cmp (eight_spelled xs p i) (eight_spelled ys q i)) ∙ numbers 0 0 xs ys (omega arith) f g

-- ---- past what is equal

level : (x y : ℕ) → x ≡ y → nat_cmp x y ≡ Equal
level x y e = sym (nat_cmp_is x y Equal e)

-- the elements past an equal beginning decide
past : (i : ℕ) (xs ys : List ℕ) → take i xs ≡ take i ys → slice_cmp nat_cmp xs ys ≡ slice_cmp nat_cmp (drop i xs) (drop i ys)
past zero xs ys e = refl
past (suc i) [] [] e = refl
past (suc i) [] (y ∷ ys) e = absurd (cc)
past (suc i) (x ∷ xs) [] e = absurd (cc)
past (suc i) (x ∷ xs) (y ∷ ys) e =
    ap (λ r. ordering_then r (slice_cmp nat_cmp xs ys)) (level x y (cc)) ∙ past i xs ys (cc)

-- the first n elements decide, and those past them where they do not
by_beginning : (n : ℕ) (xs ys : List ℕ) → n ≤ length xs → n ≤ length ys
    → slice_cmp nat_cmp xs ys ≡ ordering_then (slice_cmp nat_cmp (take n xs) (take n ys)) (slice_cmp nat_cmp (drop n xs) (drop n ys))
by_beginning zero xs ys p q = refl
by_beginning (suc n) [] ys p q = absurd (omega arith)
by_beginning (suc n) (x ∷ xs) [] p q = absurd (omega arith)
by_beginning (suc n) (x ∷ xs) (y ∷ ys) p q =
    ap (ordering_then (nat_cmp x y)) (by_beginning n xs ys (omega arith) (omega arith)) ∙ then_assoc (nat_cmp x y) _ _

decided : (r s : Ordering) → is_ne r ≡ true → ordering_then r s ≡ r
decided Less s e = refl
decided Equal s e = absurd (cc)
decided Greater s e = refl

undecided : (r : Ordering) → is_ne r ≡ false → r ≡ Equal
undecided Less e = absurd (cc)
undecided Equal e = refl
undecided Greater e = absurd (cc)

shift : (a b : ℕ) → nat_cmp a b ≡ nat_cmp (suc a) (suc b)
shift a b = nat_cmp_is (suc a) (suc b) (nat_cmp a b) (by (nat_cmp a b) (ranked a b _ refl))
  where
    by : (r : Ordering) → MatchOrdering r (a < b) (a ≡ b) (b < a) → MatchOrdering r (suc a < suc b) (suc a ≡ suc b) (suc b < suc a)
    by Less h = let here : a < b = h in omega arith
    by Equal h = let here : a ≡ b = h in omega arith
    by Greater h = let here : b < a = h in omega arith

-- where all that both have is equal, the lengths decide
pub by_lengths : (n : ℕ) (xs ys : List ℕ) → n ≡ min (length xs) (length ys) → take n xs ≡ take n ys → nat_cmp (length xs) (length ys) ≡ slice_cmp nat_cmp xs ys
by_lengths zero [] [] p e = refl
by_lengths zero [] (y ∷ ys) p e = sym (nat_cmp_is 0 (length (y ∷ ys)) Less (omega arith))
by_lengths zero (x ∷ xs) [] p e = sym (nat_cmp_is (length (x ∷ xs)) 0 Greater (omega arith))
by_lengths zero (x ∷ xs) (y ∷ ys) p e = absurd (omega arith)
by_lengths (suc n) [] ys p e = absurd (omega arith)
by_lengths (suc n) (x ∷ xs) [] p e = absurd (omega arith)
by_lengths (suc n) (x ∷ xs) (y ∷ ys) p e =
    sym (shift (length xs) (length ys)) ∙ by_lengths n xs ys (omega arith) (cc)
    ∙ sym (ap (λ r. ordering_then r (slice_cmp nat_cmp xs ys)) (level x y (cc)))

-- n elements from i on were read and compared, and those before i are equal
module _ (xs ys us vs : List ℕ) (i n : ℕ) (r : Ordering) (within : i + n ≤ length xs) (within_too : i + n ≤ length ys) (same : take i xs ≡ take i ys)
    (read : us ≡ take n (drop i xs)) (read_too : vs ≡ take n (drop i ys)) (is : r ≡ slice_cmp nat_cmp us vs) where
  pub apart : true ≡ is_ne r → r ≡ slice_cmp nat_cmp xs ys
  apart e =
      sym (decided r _ (sym e))
      ∙ ap (λ s. ordering_then s (slice_cmp nat_cmp (drop n (drop i xs)) (drop n (drop i ys)))) (is ∙ (λ j. slice_cmp nat_cmp (read j) (read_too j)))
      ∙ sym (by_beginning n (drop i xs) (drop i ys) (omega (arith, length-drop i xs)) (omega (arith, length-drop i ys)))
      ∙ sym (past i xs ys same)

  pub more : false ≡ is_ne r → take (i + n) xs ≡ take (i + n) ys
  more e =
      let here : take n (drop i xs) ≡ take n (drop i ys) = sym read ∙ exact_bytes us vs (sym is ∙ undecided r (sym e)) ∙ read_too in
      take-add i n xs ∙ (λ j. same j ++ here j) ∙ sym (take-add i n ys)

pub fewer : (i j : ℕ) (xs ys : List ℕ) → i ≤ j → take j xs ≡ take j ys → take i xs ≡ take i ys
fewer i j xs ys le e = sym (take-take i j xs le) ∙ ap (take i) e ∙ take-take i j ys le
