-- An option gives one number, so what it gives is in its range where any number that it gives is.
use Rattle.std.proofs.Common.{◌≡◌, ◌<◌, ◌^◌, ◌∙◌, ℕ, List, Option, Some, None, IsSome, IfNone, IfSome, codes, inl, inr, arith, sym, ap}
use Rattle.std.specs.Str.Parse.{digits_value, without_leading_plus}
use Rattle.std.proofs.lemmas.Option.{same_Some}
use Rattle.std.proofs.lemmas.Bool.{false≢true}
use Rattle.clap.specs.declared.parser.matches.ArgMatches.{ArgMatches}
use Rattle.words.specs.declared.limits.TheConstants.{BUCKETS_DEFAULT, CLIENTS_DEFAULT, FRAMES_DEFAULT, PLACES_DEFAULT, STRIPES_DEFAULT}
use Rattle.options.specs.Settings.{AreInRange, HasSettings}
use Rattle.options.specs.declared.DeviceKind.{DeviceKind}
use Rattle.options.specs.declared.Options.{Options}
use Rattle.command_line.specs.Given.{Gives, GivesNumbers, GivesOrDefault, HasGiven, IsInRange, text_in}

pub one_number : (given : Option (List ℕ)) (n k : ℕ) → Gives given n → Gives given k → n ≡ k
one_number given n k a b =
    let texts : a.text ≡ b.text = same_Some a.text b.text (sym a.has ∙ b.has) in
    a.value ∙ (ap (λ t. digits_value 10 (without_leading_plus t)) texts ∙ sym b.value)

pub one_or_default : (given : Option (List ℕ)) (default n k : ℕ) → n < 2 ^ 64 → k < 2 ^ 64
    → GivesOrDefault given default n → GivesOrDefault given default k → n ≡ k
one_or_default given default n k low high (inl a) (inl b) = one_number given n k a b
one_or_default given default n k low high (inl a) (inr b) = absurd (b.gives_none n low a)
one_or_default given default n k low high (inr a) (inl b) = absurd (a.gives_none k high b)
one_or_default given default n k low high (inr a) (inr b) = a.value ∙ sym b.value

-- The numbers that a parsed command line gives are in range where others that it gives are.
pub in_range_too : (m : ArgMatches) (accept stripes buckets frames places workers : ℕ) → IsInRange m
    → Gives (text_in m (codes "accept")) accept
    → stripes < 2 ^ 64 → GivesOrDefault (text_in m (codes "stripes")) STRIPES_DEFAULT stripes
    → buckets < 2 ^ 64 → GivesOrDefault (text_in m (codes "buckets")) BUCKETS_DEFAULT buckets
    → frames < 2 ^ 64 → GivesOrDefault (text_in m (codes "frames")) FRAMES_DEFAULT frames
    → places < 2 ^ 64 → GivesOrDefault (text_in m (codes "places")) PLACES_DEFAULT places
    → workers < 2 ^ 64 → GivesOrDefault (text_in m (codes "workers")) CLIENTS_DEFAULT workers
    → AreInRange accept stripes buckets frames places workers
in_range_too m accept stripes buckets frames places workers there a low_s s low_b b low_f f low_p p low_w w =
    let range = there.in_range in
    let high_s : there.stripes < 2 ^ 64 = let h = range.limits.stripes_high in omega arith in
    let high_b : there.buckets < 2 ^ 64 = let h = range.limits.buckets_high in omega arith in
    let high_f : there.frames < 2 ^ 64 = let h = range.limits.frames_high in omega arith in
    let high_p : there.places < 2 ^ 64 = let h = range.limits.places_high in omega arith in
    let high_w : there.workers < 2 ^ 64 = let h = range.limits.clients_high in omega arith in
    let same_a : accept ≡ there.accept = one_number _ accept there.accept a there.numbers.gives_accept in
    let same_s : stripes ≡ there.stripes = one_or_default _ _ stripes there.stripes low_s high_s s there.numbers.gives_stripes in
    let same_b : buckets ≡ there.buckets = one_or_default _ _ buckets there.buckets low_b high_b b there.numbers.gives_buckets in
    let same_f : frames ≡ there.frames = one_or_default _ _ frames there.frames low_f high_f f there.numbers.gives_frames in
    let same_p : places ≡ there.places = one_or_default _ _ places there.places low_p high_p p there.numbers.gives_places in
    let same_w : workers ≡ there.workers = one_or_default _ _ workers there.workers low_w high_w w there.numbers.gives_workers in
    rw (same_a, same_s, same_b, same_f, same_p, same_w) range

-- options that have the numbers which a parsed command line gives
pub has_given : (m : ArgMatches) (made : Option Options) (port accept stripes buckets frames places workers : ℕ) (device : DeviceKind)
    → IfSome made (λ options. HasSettings options port accept stripes buckets frames places workers device)
    → GivesNumbers m port accept stripes buckets frames places workers → IfSome made (HasGiven m)
has_given m None port accept stripes buckets frames places workers device has gives = tt
has_given m (Some o) port accept stripes buckets frames places workers device has gives =
    rw (has.port_is, has.accept_is, has.stripes_are, has.buckets_are, has.frames_are, has.places_are, has.workers_are) gives

-- what holds where a result is `None`, since what makes it `Some` does not hold
pub none_where : {X : Type 0} (r : Option X) (A Q : Type 0) → (A → IsSome r) → ((A → ⊥) → Q) → IfNone r Q
none_where None A Q made refused = refused (λ a. false≢true (made a))
none_where (Some x) A Q made refused = tt

pub none_anyway : {X : Type 0} (r : Option X) (Q : Type 0) → Q → IfNone r Q
none_anyway None Q q = q
none_anyway (Some x) Q q = tt
