-- A text that a parse gives for an argument is one that the argument's parser accepts.
use Rattle.std.proofs.Common.{◌≡◌, ◌∙◌, ◌<◌, ap, ℕ, Bool, true, false, List, [], ◌∷◌, length, is_some, Option, Some, None, refl, sym, subst, inl, inr, arith}
use Rattle.std.specs.List.{All, slice_index_or}
use Rattle.std.specs.Str.{bytes_eq}
use Rattle.std.specs.Prelude.{option_and_then, option_map, slice_get}
use Rattle.std.specs.Borrow.{Bor}
use Rattle.std.proofs.lemmas.Option.{same_Some}
use Rattle.std.proofs.lemmas.Slice.Eq.{bytes_eq-Decides}
use Rattle.std.proofs.lemmas.List.Elements.{All-get_or}
use Rattle.clap.specs.Facts.{Entry, EntryPasses, HasReading, PassesArg, args_of, groups_of, parser_of, parser_of_value}
use Rattle.clap.specs.Built.{IsAuto, IsParsedFrom, IsPlain, SameRules}
use Rattle.clap.specs.Matches.{first_value, found_of, matched_of, one_text}
use Rattle.clap.specs.Values.{Accepts, read_as, reading_of}
use Rattle.clap.specs.declared.builder.arg.Arg.{Arg}
use Rattle.clap.specs.declared.builder.command.Command.{Command}
use Rattle.clap.specs.declared.builder.command.Command.TheViews.{out-Command}
use Rattle.clap.specs.declared.builder.value_parser.Reading.{Reading}
use Rattle.clap.specs.declared.builder.value_parser.ValueParser.{ValueParser}
use Rattle.clap.specs.declared.parser.matches.ArgMatches.{ArgMatches}
use Rattle.clap.specs.declared.parser.matches.Found.{Found}
use Rattle.clap.specs.declared.parser.matches.MatchedArg.{MatchedArg}
use Rattle.clap.proofs.CallerLemmas.{entry_by_id, same_rules_by_id}

-- the argument at a place is the only one with its id, and none that building adds
pub record StandsAlone (c : Command) (k : ℕ) (d : Arg) : Type 0 where
  pub lt : k < length (args_of c)
  pub only : (j : ℕ) (e : Arg) → j < length (args_of c)
      → bytes_eq (slice_index_or (args_of c) j e).id.now (slice_index_or (args_of c) k d).id.now ≡ true → j ≡ k
  pub named : (slice_index_or (args_of c) k d).id.now ≡ [] → ⊥
  pub own : IsAuto (slice_index_or (args_of c) k d) → ⊥

abbrev first_read : MatchedArg → Option (List ℕ)
first_read a = option_map (λ s. read_as a.reading s.now) (slice_get a.vals.items 0)

-- the entry whose first value is read as the text
entry_of : (f : Found) (id u : List ℕ) → one_text f id ≡ Some u → (x : MatchedArg) × (matched_of f id ≡ Some x) × (first_read x ≡ Some u)
entry_of f id u h = go (matched_of f id) refl h
  where
    go : (o : Option MatchedArg) → matched_of f id ≡ o → option_and_then first_read o ≡ Some u
        → (x : MatchedArg) × (matched_of f id ≡ Some x) × (first_read x ≡ Some u)
    go None e h = cc
    go (Some x) e h = (x, e, h)

-- a value that is there is read as a text
pub text_of_value : (f : Found) (id : List ℕ) → is_some (first_value f id) ≡ true → (u : List ℕ) × (one_text f id ≡ Some u)
text_of_value f id h = go (matched_of f id) refl h
  where
    first : (how : Reading) (vs : List (Bor (List ℕ))) → is_some (option_map (λ s. s.now) (slice_get vs 0)) ≡ true
        → (u : List ℕ) × (option_map (λ s. read_as how s.now) (slice_get vs 0) ≡ Some u)
    first how [] h = cc
    first how (v ∷ vs) h = (read_as how v.now, refl)

    go : (o : Option MatchedArg) → matched_of f id ≡ o
        → is_some (option_and_then (λ (a : MatchedArg). option_map (λ s. s.now) (slice_get a.vals.items 0)) o) ≡ true
        → (u : List ℕ) × (one_text f id ≡ Some u)
    go None e h = cc
    go (Some x) e h =
        let u = first x.reading x.vals.items h in
        (u.0, rw e u.1)

-- the value that is read as the text, with what holds of each value
value_of : (P : Bor (List ℕ) → Type 0) (how : Reading) (vs : List (Bor (List ℕ))) (u : List ℕ) → All P vs
    → option_map (λ s. read_as how s.now) (slice_get vs 0) ≡ Some u → (v : Bor (List ℕ)) × (u ≡ read_as how v.now) × P v
value_of P how [] u all h = cc
value_of P how (v ∷ vs) u all h = (v, sym (same_Some (read_as how v.now) u h), All-get_or P (v ∷ vs) 0 v (omega arith) all)

accepts_of : (a y : Arg) (q : ValueParser) (t : List ℕ) → SameRules a y → a.value_parser ≡ Some q
    → Accepts y.ignore_case (parser_of y) t → Accepts a.ignore_case q t
accepts_of a y q t s parser read =
    let is_q : parser_of y ≡ q = ap parser_of_value (s.parser q parser) in
    let as_q : Accepts y.ignore_case q t = subst (λ (w : ValueParser). Accepts y.ignore_case w t) is_q read in
    subst (λ (b : Bool). Accepts b q t) s.ignore_case as_q

-- the text that a parse gives for an argument is what its parser accepted, as the getters read it
pub accepted : (old : Command) (m : ArgMatches) (p : IsParsedFrom old m) → IsPlain old → (out-Command old).has_globals ≡ false
    → (k : ℕ) (d : Arg) → StandsAlone old k d → (q : ValueParser) → (slice_index_or (args_of old) k d).value_parser ≡ Some q
    → (u : List ℕ) → one_text (found_of m) (slice_index_or (args_of old) k d).id.now ≡ Some u
    → (t : List ℕ) × (u ≡ read_as (reading_of q) t) × Accepts (slice_index_or (args_of old) k d).ignore_case q t
accepted old m p plain globals k d alone q parser u has =
    let x = entry_of (found_of m) (slice_index_or (args_of old) k d).id.now u has in
    let parsed = p.parsed (p.from.globals ∙ globals) in
    let e = entry_by_id (EntryPasses p.built) (found_of m).entries.items (slice_index_or (args_of old) k d).id.now x.0 parsed.values x.1 in
    finish e.0 ((bytes_eq-Decides _ _).0 e.2) e.3 (subst (λ (y : MatchedArg). first_read y ≡ Some u) (sym e.1) x.2)
  where
    same : (y : Arg) (j : ℕ) → j < length (args_of p.built) → slice_index_or (args_of p.built) j y ≡ y
        → bytes_eq y.id.now (slice_index_or (args_of old) k d).id.now ≡ true → SameRules (slice_index_or (args_of old) k d) y
    same y j high at id = same_rules_by_id old m p k d alone.lt alone.only alone.own j y high at id

    finish : (e : Entry) → e.0.now ≡ (slice_index_or (args_of old) k d).id.now → EntryPasses p.built e → first_read e.1 ≡ Some u
        → (t : List ℕ) × (u ≡ read_as (reading_of q) t) × Accepts (slice_index_or (args_of old) k d).ignore_case q t
    finish e key pass first =
        let no_groups : groups_of p.built ≡ [] = (p.from.plain plain).1 in
        let no_group : e.1.is_group ≡ true → ⊥ = λ g. elim (pass.3 g) [
          | inl empty ↦ alone.named (sym key ∙ empty)
          | inr lots ↦
              let bad : 0 < 0 = rw no_groups at lots in
              omega arith
        ] in
        let values : All (λ v. PassesArg p.built e.0.now v.now) e.1.vals.items = elim pass.0 [ inl g ↦ absurd (no_group g) | inr v ↦ v ] in
        let reading : HasReading p.built e.0.now e.1.reading = elim pass.4 [ inl g ↦ absurd (no_group g) | inr h ↦ h ] in
        let read_by = same reading.1 reading.0 reading.2 reading.3 (subst (λ w. bytes_eq reading.1.id.now w ≡ true) key reading.4.0) in
        let how : e.1.reading ≡ reading_of q = sym reading.4.1 ∙ ap reading_of (ap parser_of_value (read_by.parser q parser)) in
        let v = value_of (λ v. PassesArg p.built e.0.now v.now) e.1.reading e.1.vals.items u values first in
        let taken_by = same v.2.1 v.2.0 v.2.2 v.2.3 (subst (λ w. bytes_eq v.2.1.id.now w ≡ true) key v.2.4.0) in
        (v.0.now, v.1 ∙ ap (λ r. read_as r v.0.now) how, accepts_of _ v.2.1 q v.0.now taken_by parser v.2.4.1)
