-- Laws of what contracts say of known bytes and of sent texts: over several reads and writes, one after the other. Each is proved here.
use Rattle.std.proofs.Common.{◌≡◌, ℕ, List, [], ◌++◌, Option, Some, None, Result, Ok, Err, refl, sym, ap, ◌∙◌, append_assoc, append-nil}
use Rattle.std.specs.Io.KnownBytes.{Appends, Consumes, Keeps}
use Rattle.streams.specs.declared.noted.Noted.{Noted}
use Rattle.streams.specs.declared.observed.Told.TheVariants as told
use Rattle.streams.specs.Streams.{AppendsBeginning, IsSent, IsPut, told_of, HasFailed}

-- who has told a failure has failed
pub HasFailed-told : {S : Type 0} (noted : Noted S) → told_of noted ≡ told.Failure → HasFailed noted
HasFailed-told noted is = noted.observed.failed is

-- known bytes that stay
pub Keeps-same : (u : Option (List ℕ)) → Keeps u u
Keeps-same None = tt
Keeps-same (Some xs) = refl

pub Appends-none : (u v : Option (List ℕ)) → Keeps u v → Appends u v []
Appends-none None v x = tt
Appends-none (Some xs) None x = absurd x
Appends-none (Some xs) (Some ys) x = x ∙ sym (append-nil xs)

pub Appends-then : (u v w : Option (List ℕ)) (a b : List ℕ) → Appends u v a → Appends v w b → Appends u w (a ++ b)
Appends-then None v w a b x y = tt
Appends-then (Some xs) None w a b x y = absurd x
Appends-then (Some xs) (Some ys) None a b x y = absurd y
Appends-then (Some xs) (Some ys) (Some zs) a b x y = y ∙ ap (λ (t : List ℕ). t ++ b) x ∙ append_assoc xs a b

pub Consumes-none : (u v : Option (List ℕ)) → Keeps u v → Consumes u v []
Consumes-none None v x = tt
Consumes-none (Some xs) None x = absurd x
Consumes-none (Some xs) (Some ys) x = sym x

pub Consumes-then : (u v w : Option (List ℕ)) (a b : List ℕ) → Consumes u v a → Consumes v w b → Consumes u w (a ++ b)
Consumes-then None v w a b x y = tt
Consumes-then (Some xs) None w a b x y = absurd x
Consumes-then (Some xs) (Some ys) None a b x y = absurd y
Consumes-then (Some xs) (Some ys) (Some zs) a b x y = x ∙ ap (λ (t : List ℕ). a ++ t) y ∙ sym (append_assoc a b zs)

-- a part is cut where a text that it begins is cut
pub AppendsBeginning-more : (u v : Option (List ℕ)) (a b : List ℕ) → AppendsBeginning u v a → AppendsBeginning u v (a ++ b)
AppendsBeginning-more u v a b x = (x.0, x.1 ++ b, ap (λ (t : List ℕ). t ++ b) x.2 ∙ append_assoc x.0 x.1 b, x.3)

-- and where one after it is
pub AppendsBeginning-then : (u v w : Option (List ℕ)) (a b : List ℕ) → Appends u v a → AppendsBeginning v w b → AppendsBeginning u w (a ++ b)
AppendsBeginning-then u v w a b x y = (a ++ y.0, y.1, ap (λ (t : List ℕ). a ++ t) y.2 ∙ sym (append_assoc a y.0 y.1), Appends-then u v w a y.0 x y.3)

-- a text that is sent after all that a buffer held
pub IsPut-sent : {E : Type 0} (u v w : Option (List ℕ)) (held holds : List ℕ) (r : Result (Unit {0}) E) (text : List ℕ)
    → holds ≡ [] → Appends u v held → IsSent v w r text → IsPut u w held holds r text
IsPut-sent u v w held holds (Ok done) text none before sent =
    (held ++ text, Appends-then u v w held text before sent, sym (append-nil (held ++ text)) ∙ ap (λ (t : List ℕ). (held ++ text) ++ t) (sym none))
IsPut-sent u v w held holds (Err fault) text none before sent = AppendsBeginning-then u v w held text before sent
