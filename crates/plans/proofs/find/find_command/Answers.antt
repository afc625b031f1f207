use Rattle.std.proofs.Common.{rules, IsOk, ◌≡◌, ◌∙◌, ◌∷◌, ◌<◌, [], ℕ, List, length, take, refl, sym, ap, subst, arith}
use Rattle.std.specs.Prelude.{slice_get}
use Rattle.words.specs.Answers.{value_of}
use Rattle.words.specs.Store.{Bytes, Store, Write}
use Rattle.words.specs.Commands.{IsInline, keys_of}
use Rattle.strings.specs.declared.writes.TheConstants.{WRITES_INLINE}
use Rattle.hybrid.specs.HybridLog.{Kept}
use Rattle.hybrid.specs.Staging.{AreRight}
use Rattle.transact.specs.Tables.{AreThere, joined}
use Rattle.plans.specs.Memory.{AreAtHand}
use Rattle.shards.specs.Shards.{logs_of, shard_meaning}
use Rattle.plans.specs.Stops.{HasFound, IsNeeded}
use Rattle.plans.proofs.Found.{among_at, found_both, found_none, found_within}
use Rattle.plans.proofs.Stores.{some_is}
use Rattle.plans.proofs.Keys.{there_at, take_more, take_whole}
use Rattle.plans.proofs.find.find_command.Goals as goal

pub loop-place-init : goal.loop-place-init
loop-place-init g c =
    let parts = g.P.Parts.part_of c.args.parts.now in
    record {
      is_open = c.requires.may.can_lend;
      keeps = g.met.P.Parts.keeps_same c.args.parts.now;
      same = refl;
      lent = λ lent. refl;
      start = λ z. refl;
      found = found_none (IsNeeded (g.R.Shows.is_honest × AreRight c.args.staged.now) (g.P.Parts.stripes_of c.args.parts.now) (logs_of parts) (keys_of c.args.command.now) c.args.staged.now) (g.R.Shows.is_honest × AreRight c.args.staged.now)
          (joined (shard_meaning g.R.Shows.is_steady) (g.P.Parts.stripes_of c.args.parts.now) parts) c.args.cold.now c.args.found.now;
    }

pub find_key-requires : goal.find_key-requires
find_key-requires g c =
    let n : ℕ = (g.P.Parts.stripes_of c.args.parts.now) in
    let count = g.met.P.Parts.same_stripes c.args.parts.now c.loop-place.parts c.loop-place.invariant.keeps in
    record {
      may = record {
        can_lend = c.loop-place.invariant.is_open;
        there = rw count (subst (λ p. AreThere n p (c.key_at.result.now ∷ [])) (sym c.loop-place.invariant.same)
            (there_at (shard_meaning g.R.Shows.is_steady) n (g.P.Parts.part_of c.args.parts.now) (keys_of c.args.command.now) c.loop-place.place c.key_at.result.now c.key_at.ensures c.requires.may.there));
      };
    }

pub loop-place-preserved : goal.loop-place-preserved
loop-place-preserved g c =
    let n : ℕ = (g.P.Parts.stripes_of c.args.parts.now) in
    let inv = c.loop-place.invariant in
    let keys : List Bytes = keys_of c.args.command.now in
    let place : ℕ = c.loop-place.place in
    let key : Bytes = c.key_at.result.now in
    let parts = g.P.Parts.part_of c.args.parts.now in
    let W : Kept → Type 0 = IsNeeded (g.R.Shows.is_honest × AreRight c.args.staged.now) n (logs_of parts) keys c.args.staged.now in
    let Right : Type 0 = g.R.Shows.is_honest × AreRight c.args.staged.now in
    let store : Store = joined (shard_meaning g.R.Shows.is_steady) n parts in
    let count = g.met.P.Parts.same_stripes c.args.parts.now c.loop-place.parts inv.keeps in
    let here = rw count at c.in_ok-find_key.ensures.found in
    let one : HasFound (IsNeeded (g.R.Shows.is_honest × AreRight c.args.staged.now) n (logs_of parts) (key ∷ []) c.args.staged.now) Right store (key ∷ []) c.loop-place.cold c.find_key.new.cold c.loop-place.found c.find_key.new.found =
    subst (λ p. HasFound (IsNeeded (g.R.Shows.is_honest × AreRight c.args.staged.now) n (logs_of p) (key ∷ []) c.args.staged.now) (g.R.Shows.is_honest × AreRight c.args.staged.now) (joined (shard_meaning g.R.Shows.is_steady) n p) (key ∷ []) c.loop-place.cold c.find_key.new.cold c.loop-place.found c.find_key.new.found)
    inv.same here in
    record {
      is_open = c.find_key.ensures.held.open_still;
      keeps = g.met.P.Parts.keeps_both c.args.parts.now c.loop-place.parts c.find_key.new.parts inv.keeps c.find_key.ensures.held.kept;
      same = c.find_key.ensures.same ∙ inv.same;
      lent = λ lent. c.find_key.ensures.lent lent ∙ inv.lent lent;
      start = λ z. absurd (omega (arith, z));
      found = subst (λ (l : List Bytes). HasFound W Right store l c.args.cold.now c.find_key.new.cold c.args.found.now c.find_key.new.found) (sym (take_more keys place key c.key_at.ensures))
          (found_both W Right store (take place keys) (key ∷ []) c.args.cold.now c.loop-place.cold c.find_key.new.cold c.args.found.now c.loop-place.found c.find_key.new.found inv.found
          (found_within n (logs_of parts) (key ∷ []) keys c.args.staged.now Right store (key ∷ []) c.loop-place.cold c.find_key.new.cold c.loop-place.found c.find_key.new.found
          (among_at keys place key c.key_at.ensures) one));
    }

pub returns-clause-found : goal.returns-clause-found
returns-clause-found g c =
    let n : ℕ = (g.P.Parts.stripes_of c.args.parts.now) in
    let keys : List Bytes = keys_of c.args.command.now in
    let parts = g.P.Parts.part_of c.args.parts.now in
    subst (λ (l : List Bytes). HasFound (IsNeeded (g.R.Shows.is_honest × AreRight c.args.staged.now) n (logs_of parts) keys c.args.staged.now) (g.R.Shows.is_honest × AreRight c.args.staged.now) (joined (shard_meaning g.R.Shows.is_steady) n parts) l c.args.cold.now c.loop-place.cold c.args.found.now c.loop-place.found)
    (take_whole keys c.loop-place.place (omega (arith, c.loop-place-test.false, c.key_count-place-end.ensures))) c.loop-place.invariant.found

pub returns-in_err-find_key-clause-memory : goal.returns-in_err-find_key-clause-memory
returns-in_err-find_key-clause-memory g c = λ key one at none.
    let n : ℕ = (g.P.Parts.stripes_of c.args.parts.now) in
    let inv = c.loop-place.invariant in
    let keys : List Bytes = keys_of c.args.command.now in
    let parts = g.P.Parts.part_of c.args.parts.now in
    let first : c.loop-place.place ≡ 0 = omega (arith, c.loop-place-test.true, c.key_count-place-end.ensures, ap (λ (l : List Bytes). length l) one) in
    let same : c.key_at.result.now ≡ key = some_is c.key_at.result.now key (slice_get keys c.loop-place.place) c.key_at.ensures (ap (λ (i : ℕ). slice_get keys i) first ∙ ap (λ (l : List Bytes). slice_get l 0) one) in
    let count = g.met.P.Parts.same_stripes c.args.parts.now c.loop-place.parts inv.keeps in
    let enough = rw count at c.find_key.ensures.memory in
    let ok : IsOk c.find_key.result = enough (record {
      is_right = at.is_right;
      hand = subst (λ p. AreAtHand g.R.Shows.lends n (logs_of p) (c.key_at.result.now ∷ []) c.args.staged.now) (sym inv.same)
          (subst (λ (k : Bytes). AreAtHand g.R.Shows.lends n (logs_of parts) (k ∷ []) c.args.staged.now) (sym same) at.hand);
      few = subst (λ (l : List Write). length l < WRITES_INLINE) (sym (inv.start first)) at.few;
      key_inline = subst IsInline (sym same) at.key_inline;
      value_inline = subst (λ p. IsInline (value_of (joined (shard_meaning g.R.Shows.is_steady) n p c.key_at.result.now))) (sym inv.same)
          (subst (λ (k : Bytes). IsInline (value_of (joined (shard_meaning g.R.Shows.is_steady) n parts k))) (sym same) at.value_inline);
    }) in
    search (rules, ok)
