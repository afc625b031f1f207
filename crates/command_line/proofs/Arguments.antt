-- What an argument, and a place among a command's arguments, has by its rule.
use Rattle.std.proofs.Common.{◌≡◌, ◌∙◌, ◌<◌, ◌&&◌, ℕ, zero, suc, Bool, true, false, not, List, [], ◌∷◌, map, length, Option, Some, None, is_some, refl, sym, ap, ap₂, arith, true≢false}
use Rattle.std.specs.List.{All, list_all, slice_index_or}
use Rattle.std.specs.Str.{bytes_eq}
use Rattle.std.proofs.lemmas.List.{get_or-map}
use Rattle.clap.specs.Walk.{Rule, Text, is_free_arg, is_simple_arg, rule_of}
use Rattle.clap.specs.Words.{AddsArg, App, IsPlainArg, app_of, with_rule}
use Rattle.clap.specs.declared.builder.arg.Arg.{Arg}
use Rattle.clap.specs.declared.builder.command.Command.{Command}
use Rattle.clap.proofs.WalkLemmas.{both}
use Rattle.clap.proofs.SimpleLemmas.{is_false, is_nil}

-- an argument that uses none of the settings that change how words are read is in no group, and not global
pub record IsAlone (a : Arg) : Type 0 where
  pub overrides : a.overrides.items ≡ []
  pub groups : a.groups.items ≡ []
  pub val_delim : a.val_delim ≡ None
  pub global : a.global ≡ false

is_none : {X : Type 0} (o : Option X) → not (is_some o) ≡ true → o ≡ None
is_none None e = refl
is_none (Some x) e = absurd (true≢false (sym e))

pub simple_is_alone : (a : Arg) → is_simple_arg a ≡ true → IsAlone a
simple_is_alone a e =
    let p = both _ _ e in
    let q = both _ _ p.1 in
    let r = both _ _ q.1 in
    let s = both _ _ r.1 in
    let t = both (not (is_some a.terminator)) _ s.1 in
    let u = both (not a.allow_hyphen_values) _ t.1 in
    let v = both (not a.allow_negative_numbers) _ u.1 in
    let w = both (not a.require_equals) _ v.1 in
    let x = both (not a.last) _ w.1 in
    record { overrides = is_nil _ p.0; groups = is_nil _ r.0; val_delim = is_none _ s.0; global = is_false _ x.1 }

pub plain_arg : (a : Arg) → (is_simple_arg a && is_free_arg a) ≡ true → IsPlainArg a
plain_arg a e =
    let b = both (is_simple_arg a) _ e in
    let alone = simple_is_alone a b.0 in
    let p = both _ _ b.1 in
    let q = both _ _ p.1 in
    (is_false _ p.0, is_nil _ q.0, alone.overrides, alone.groups)

abbrev pub is_plain_rule : Rule → Bool
is_plain_rule r = r.is_simple && r.is_free

pub plain_args : (xs : List Arg) → list_all is_plain_rule (map rule_of xs) ≡ true → All IsPlainArg xs
plain_args [] e k d lt = absurd (omega arith)
plain_args (x ∷ xs) e zero d lt = plain_arg x (both (is_plain_rule (rule_of x)) _ e).0
plain_args (x ∷ xs) e (suc k) d lt = plain_args xs (both (is_plain_rule (rule_of x)) _ e).1 k d (omega arith)

-- the rule of the argument at a place
pub rule_at : (xs : List Arg) (rules : List Rule) → map rule_of xs ≡ rules → (k : ℕ) (d : Arg) → k < length xs
    → rule_of (slice_index_or xs k d) ≡ slice_index_or rules k (rule_of d)
rule_at xs rules is k d lt = sym (get_or-map rule_of xs k d (rule_of d) lt) ∙ ap (λ l. slice_index_or l k (rule_of d)) is

-- no rule but that at place k has this id
abbrev pub is_alone_at : ℕ → Text → List Rule → Bool
is_alone_at k id [] = true
is_alone_at zero id (r ∷ rs) = list_all (λ s. not (bytes_eq s.id id)) rs
is_alone_at (suc k) id (r ∷ rs) = not (bytes_eq r.id id) && is_alone_at k id rs

none_in : (id : Text) (rs : List Rule) → list_all (λ s. not (bytes_eq s.id id)) rs ≡ true → (j : ℕ) (e : Rule) → j < length rs
    → bytes_eq (slice_index_or rs j e).id id ≡ true → ⊥
none_in id [] t j e lt h = omega arith
none_in id (r ∷ rs) t zero e lt h = true≢false (sym h ∙ is_false _ (both _ _ t).0)
none_in id (r ∷ rs) t (suc j) e lt h = none_in id rs (both _ _ t).1 j e (omega arith) h

pub only_place : (k : ℕ) (id : Text) (rs : List Rule) → is_alone_at k id rs ≡ true → (j : ℕ) (e : Rule) → j < length rs
    → bytes_eq (slice_index_or rs j e).id id ≡ true → j ≡ k
only_place k id [] t j e lt h = absurd (omega arith)
only_place zero id (r ∷ rs) t zero e lt h = refl
only_place zero id (r ∷ rs) t (suc j) e lt h = absurd (none_in id rs t j e (omega arith) h)
only_place (suc k) id (r ∷ rs) t zero e lt h = absurd (true≢false (sym h ∙ is_false _ (both _ _ t).0))
only_place (suc k) id (r ∷ rs) t (suc j) e lt h = ap suc (only_place k id rs (both _ _ t).1 j e (omega arith) h)

-- a command with one more simple argument has its rule more
pub added_rule : (old new : Command) (a : Arg) (app : App) (r : Rule) → app_of old ≡ app → rule_of a ≡ r → r.is_simple ≡ true → AddsArg old a new
    → app_of new ≡ with_rule app r
added_rule old new a app r is rule simple added =
    added.shape (simple_is_alone a (ap (λ (x : Rule). x.is_simple) rule ∙ simple)).global ∙ ap₂ with_rule is rule
