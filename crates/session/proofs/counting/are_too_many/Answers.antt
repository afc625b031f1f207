use Rattle.std.proofs.Common.{◌≡◌, ◌+◌, ◌∷◌, [], ◌++◌, length, take, drop, sym, ap, ◌∙◌, nat_lt}
use native.Mathlib.Omega.{arith}
use Rattle.std.proofs.lemmas.List.{take_more, take-append-drop}
use Rattle.std.proofs.lemmas.Bool.{lt-ltb}
use Rattle.std.proofs.Math.Seq.{take-length}
use Rattle.words.specs.declared.limits.TheConstants.{WATCHED_KEYS_MAX}
use Rattle.transact.specs.Calls.{watched_with}
use Rattle.session.proofs.Watched.{counts_new, counts_old, part_counts, count_is}
use Rattle.session.proofs.counting.are_too_many.Goals as goal
use Rattle.session.proofs.counting.are_too_many.Goals.{then-is_new+else-count-ge-WATCHED_KEYS_MAX, else-is_new}

pub returns-then-count-ge-WATCHED_KEYS_MAX : goal.returns-then-count-ge-WATCHED_KEYS_MAX
returns-then-count-ge-WATCHED_KEYS_MAX c =
    let keys = c.args.keys.now in
    let place = c.loop-place.place in
    let split = take_more keys place c.index-keys-place.result c.loop-place-test.true
    ∙ ap (λ key. take place keys ++ key ∷ []) (sym c.index-keys-place.is) in
    let more = counts_new (take place keys) (take (place + 1) keys) c.args.watched.now c.index-keys-place.result split (sym c.is_new.ensures ∙ c.if-is_new.true) in
    let most = part_counts (take (place + 1) keys) (drop (place + 1) keys) keys c.args.watched.now (take-append-drop (place + 1) keys) in
    sym (lt-ltb _ _ (omega (arith, more, most, c.loop-place.invariant, c.if-count-ge-WATCHED_KEYS_MAX.true)))

pub loop-place-preserved : goal.loop-place-preserved
loop-place-preserved c =
    let keys = c.args.keys.now in
    let place = c.loop-place.place in
    let split = take_more keys place c.index-keys-place.result c.loop-place-test.true
    ∙ ap (λ key. take place keys ++ key ∷ []) (sym c.index-keys-place.is) in
    elim c.if-is_new.branch [
      | then-is_new+else-count-ge-WATCHED_KEYS_MAX w ↦
          let more = counts_new (take place keys) (take (place + 1) keys) c.args.watched.now c.index-keys-place.result split (sym c.is_new.ensures ∙ w.if-is_new.true) in
          omega (arith, more, w.count-is, c.loop-place.invariant)
      | else-is_new w ↦
          let same = counts_old (take place keys) (take (place + 1) keys) c.args.watched.now c.index-keys-place.result split (sym c.is_new.ensures ∙ w.if-is_new.false) in
          omega (arith, same, w.count-is, c.loop-place.invariant)
    ]

pub returns : goal.returns
returns c =
    let end : c.loop-place.place ≡ length c.args.keys.now = omega (arith, c.loop-place-test.false, c.loop-place.auto.place-end) in
    let all = ap (λ n. take n c.args.keys.now) end ∙ take-length c.args.keys.now in
    ap (nat_lt WATCHED_KEYS_MAX)
    (c.loop-place.invariant ∙ ap (λ keys. length (watched_with c.args.watched.now keys)) all ∙ sym (count_is c.args.keys.now c.args.watched.now))
