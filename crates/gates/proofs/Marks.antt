-- What steps keep of the marks of passes.
use Rattle.std.proofs.Common.{◌≡◌, ◌≢◌, ℕ, ◌+◌, ◌≤◌, Bool, true, false, List, [], ◌∷◌, ◌++◌, length, map, sym, refl, ap, subst, ◌∙◌, arith}
use Rattle.words.specs.declared.history.Entry.{Entry}
use Rattle.words.specs.Store.{Bytes}
use Rattle.words.specs.History.{History, after, AreWatches, keys_named, keys_of_pairs}
use Rattle.words.specs.Watches.{Marks, touched, GoesBy, mark_of, mark_at}
use Rattle.words.specs.Stripes.{stripe_of, AreElsewhere, LeavesStripe}
use Rattle.gates.specs.Laws.{Laws}
use Rattle.gates.specs.declared.view.Note.{Note}
use Rattle.gates.specs.declared.view.Knowledge.{Knowledge}
use Rattle.gates.specs.Sets.{times}
use Rattle.gates.specs.Rule.{writes, Fits, EachFits, IsMarked, EachMarked, AllLeave, touched_marks}
use Rattle.gates.specs.Plays.{commits, all_see, kept}
use Rattle.gates.proofs.Lists.{times_here, times_else}
use Rattle.gates.proofs.Frames.{none_elsewhere, mark_left, written_left}
use Rattle.gates.proofs.Watched.{touched_false, touched_entry, written_none, mark_entry, watches_more, watched_leaves, not_watched}

module _ (n stripe : ℕ) (marks : Marks) where
  -- touched at nothing
  pub each_fresh : (log : History) (ps : List Knowledge) → EachMarked n stripe marks log ps → EachMarked n stripe (touched_marks log (length log) marks) log ps
  each_fresh log [] all = tt
  each_fresh log (k ∷ ks) all = (
    (λ key here. ap (λ w. touched w (marks key k.number)) (written_none log (length log) key (omega arith)) ∙ touched_false (marks key k.number) ∙ all.0 key here),
    each_fresh log ks all.1,
  )

  pub each_both : (log : History) (ps qs : List Knowledge) → EachMarked n stripe marks log ps → EachMarked n stripe marks log qs → EachMarked n stripe marks log (ps ++ qs)
  each_both log [] qs one two = two
  each_both log (p ∷ ps) qs one two = (one.0, each_both log ps qs one.1 two)

  pub each_seen : (log seen : History) (ps : List Knowledge) → EachMarked n stripe marks log ps → EachMarked n stripe marks log (all_see ps seen)
  each_seen log seen [] all = tt
  each_seen log seen (k ∷ ks) all = (all.0, each_seen log seen ks all.1)

  -- a part that was given back has the marks of each other pass, where it has those that it was to have
  pub each_given : (given : Marks) (log : History) (number : ℕ) (ps : List Knowledge)
      → ((key : Bytes) (other : ℕ) → stripe_of n key ≡ stripe → other ≢ number → given key other ≡ marks key other)
      → times number (map (λ (k : Knowledge). k.number) ps) ≡ 0 → EachMarked n stripe marks log ps → EachMarked n stripe given log ps
  each_given given log number [] same none all = tt
  each_given given log number (k ∷ ks) same none all =
      let numbers = map (λ (k : Knowledge). k.number) ks in
      let apart : k.number ≢ number = (λ e.
      let one : times number (k.number ∷ numbers) ≡ 1 + times number numbers = subst (λ (m : ℕ). times number (m ∷ numbers) ≡ 1 + times number numbers) (sym e) (times_here number numbers) in omega arith) in (
        (λ key here. same key k.number here apart ∙ all.0 key here),
        each_given given log number ks same (sym (times_else number k.number numbers apart) ∙ none) all.1,
      )

  -- a pass whose watches end watched nothing in a stripe without its keys
  pub mark_kept : (log : History) (ends : Bool) (told : List Note) (k : Knowledge) → (ends ≡ true → AreElsewhere n stripe (keys_of_pairs k.watched))
      → IsMarked n stripe marks log k → IsMarked n stripe marks log (kept ends told k)
  mark_kept log true told k away is key here =
      is key here ∙ ap (mark_of log key) (not_watched k.watched key (none_elsewhere n stripe (keys_of_pairs k.watched) key (away refl) here))
  mark_kept log false told k away is key here = is key here

module _ (laws : Laws) (n stripe : ℕ) (marks : Marks) where
  -- an entry at other keys leaves them
  pub mark_stays : (log : History) (entry : Entry) (held : List ℕ) (k : Knowledge) → LeavesStripe n stripe entry.operation → Fits n log held k
      → IsMarked n stripe marks log k → IsMarked n stripe marks (entry ∷ log) k
  mark_stays log entry held k leaves f is key here =
      let watches : AreWatches log k.number k.watched =
      subst (λ (l : History). AreWatches l k.number k.watched) (sym f.begins) (watches_more laws f.more k.seen k.number k.watched f.watches) in
      is key here
      ∙ sym (mark_entry entry log k.number k.watched key watches
      ∙ ap (λ w. touched w (mark_at log k.watched key)) (laws.writes (after log) entry key (none_elsewhere n stripe (keys_named entry.operation) key leaves here))
      ∙ touched_false (mark_at log k.watched key))

  pub each_stays : (log : History) (entry : Entry) (held : List ℕ) (ps : List Knowledge) → LeavesStripe n stripe entry.operation → EachFits n log held ps
      → EachMarked n stripe marks log ps → EachMarked n stripe marks (entry ∷ log) ps
  each_stays log entry held [] leaves fits all = tt
  each_stays log entry held (k ∷ ks) leaves fits all =
      (mark_stays log entry held k leaves fits.0 all.0, each_stays log entry held ks leaves fits.1 all.1)

  -- the pass that commits it watches in the stripe what it did
  pub own_stays : (log : History) (entry : Entry) (held : List ℕ) (k : Knowledge) → LeavesStripe n stripe entry.operation → GoesBy k.watched entry.operation
      → Fits n log held k → IsMarked n stripe marks log k → IsMarked n stripe marks (entry ∷ log) (commits k log entry)
  own_stays log entry held k leaves goes f is key here =
      mark_stays log entry held k leaves f is key here
      ∙ ap (mark_of (entry ∷ log) key) (sym (watched_leaves entry.operation k.watched key (length log) goes (none_elsewhere n stripe (keys_named entry.operation) key leaves here)))

  -- marks are touched by an entry as what is due
  pub each_touched : (log : History) (entry : Entry) (held : List ℕ) (moment : ℕ) (ps : List Knowledge) → moment ≤ length log → EachFits n log held ps
      → EachMarked n stripe (touched_marks log moment marks) log ps → EachMarked n stripe (touched_marks (entry ∷ log) moment marks) (entry ∷ log) ps
  each_touched log entry held moment [] early fits all = tt
  each_touched log entry held moment (k ∷ ks) early fits all =
      let watches : AreWatches log k.number k.watched =
      subst (λ (l : History). AreWatches l k.number k.watched) (sym fits.0.begins) (watches_more laws fits.0.more k.seen k.number k.watched fits.0.watches) in (
        (λ key here.
            touched_entry entry log moment key (marks key k.number) early
            ∙ ap (touched (writes (after log) entry key)) (all.0 key here)
            ∙ sym (mark_entry entry log k.number k.watched key watches)),
        each_touched log entry held moment ks early fits.1 all.1,
      )

  -- touched marks of a stripe that an entry leaves
  pub touched_stays : (log : History) (entry : Entry) (moment : ℕ) → moment ≤ length log → LeavesStripe n stripe entry.operation → (key : Bytes) (number : ℕ)
      → stripe_of n key ≡ stripe → touched_marks (entry ∷ log) moment marks key number ≡ touched_marks log moment marks key number
  touched_stays log entry moment early leaves key number here =
      touched_entry entry log moment key (marks key number) early
      ∙ ap (λ w. touched w (touched_marks log moment marks key number)) (laws.writes (after log) entry key (none_elsewhere n stripe (keys_named entry.operation) key leaves here))
      ∙ touched_false (touched_marks log moment marks key number)

  -- entries at other keys leave them
  pub marked_left : (more seen : History) (k : Knowledge) → AllLeave n stripe more → IsMarked n stripe marks seen k → IsMarked n stripe marks (more ++ seen) k
  marked_left more seen k leave is key here = is key here ∙ sym (mark_left laws n stripe more seen k.watched key leave here)

  pub touched_left : (more seen : History) (moment : ℕ) → AllLeave n stripe more → (key : Bytes) (number : ℕ) → stripe_of n key ≡ stripe
      → touched_marks (more ++ seen) moment marks key number ≡ touched_marks seen moment marks key number
  touched_left more seen moment leave key number here = ap (λ w. touched w (marks key number)) (written_left laws n stripe more seen moment key leave here)
