use Rattle.std.proofs.Common.{◌≡◌, ◌∙◌, ◌++◌, ◌∷◌, [], ℕ, Some, None, ap, sym, subst, arith}
use Rattle.words.specs.Store.{Bytes, Write}
use Rattle.hybrid.specs.Staging.{AreRight}
use Rattle.shards.specs.Shards.{shard_log, shard_store}
use Rattle.plans.specs.Stops.{IsWantedFor}
use Rattle.hybrid.specs.HybridLog.{HybridLog, Kept}
use Rattle.hybrid.specs.Lookups.{Leads}
use Rattle.plans.proofs.Hand.{none_missing}
use Rattle.plans.proofs.Found.{found_cold, found_one}
use Rattle.plans.proofs.Stores.{ok_then}
use Rattle.plans.proofs.cells.look_up.Goals as goal

pub returns-in_ok-clone-in-Found-clause-found : goal.returns-in_ok-clone-in-Found-clause-found
returns-in_ok-clone-in-Found-clause-found g c =
    let key : Bytes = c.args.key.now in
    let value : Bytes = c.in-Found.value.now in
    let of_key : Bytes → Write = λ k. (k, Some c.in_ok-value-in-Found.value) in
    let of_value : Bytes → Write = λ v. (key, Some v) in
    let is_write : c.new.result ≡ of_value value = c.new.ensures ∙ ap of_key (c.in_ok-clone-in-Found.ensures.cases ∙ c.key.ensures) ∙ ap of_value c.in_ok-value-in-Found.ensures.bytes in
    ok_then c.push.result
    (λ is. found_one (IsWantedFor (g.R.Shows.is_honest × AreRight c.args.staged.now) (shard_log c.args.part.now) key c.args.staged.now) (g.R.Shows.is_honest × AreRight c.args.staged.now) (shard_store c.args.part.now) key (Some value)
    c.args.cold.now c.args.found.now c.push.new.self (is ∙ ap (λ (w : Write). c.args.found.now ++ w ∷ []) is_write)
    (λ right. c.in-Found.ensures.contents right.0 right.1) c.in-Found.ensures.short)
    c.push.ensures.ok

pub returns-in_ok-clone-in-Absent-clause-found : goal.returns-in_ok-clone-in-Absent-clause-found
returns-in_ok-clone-in-Absent-clause-found g c =
    let key : Bytes = c.args.key.now in
    let of_key : Bytes → Write = λ k. (k, None) in
    let is_write : c.new-in-Absent.result ≡ of_key key = c.new-in-Absent.ensures ∙ ap of_key (c.in_ok-clone-in-Absent.ensures.cases ∙ c.key-in-Absent.ensures) in
    ok_then c.push-in-Absent.result
    (λ is. found_one (IsWantedFor (g.R.Shows.is_honest × AreRight c.args.staged.now) (shard_log c.args.part.now) key c.args.staged.now) (g.R.Shows.is_honest × AreRight c.args.staged.now) (shard_store c.args.part.now) key None
    c.args.cold.now c.args.found.now c.push-in-Absent.new.self (is ∙ ap (λ (w : Write). c.args.found.now ++ w ∷ []) is_write)
    (λ right. c.in-Absent.ensures.contents right.0 right.1) (omega arith))
    c.push-in-Absent.ensures.ok

pub returns-in-Cold-clause-found : goal.returns-in-Cold-clause-found
returns-in-Cold-clause-found g c =
    let log : HybridLog = shard_log c.args.part.now in
    let key : Bytes = c.args.key.now in
    let W : Kept → Type 0 = IsWantedFor (g.R.Shows.is_honest × AreRight c.args.staged.now) log key c.args.staged.now in
    ok_then c.wanted.result
    (λ ok. found_cold W (g.R.Shows.is_honest × AreRight c.args.staged.now) (shard_store c.args.part.now) (key ∷ []) ok.kept c.args.cold.now c.wanted.new.cold c.args.found.now ok.joins
    (record { wanted = ok.wanted; leads = λ right. subst (λ (i : ℕ). Leads log key i) (sym ok.number_is) (c.in-Cold.ensures.contents right.0 right.1) }))
    c.wanted.ensures.ok

pub returns-in-Cold-clause-memory : goal.returns-in-Cold-clause-memory
returns-in-Cold-clause-memory g c = λ at.
    absurd (none_missing g.R.Shows.lends (shard_log c.args.part.now) c.args.staged.now c.in-Cold.number c.in-Cold.ensures.lent at.hand c.in-Cold.ensures.cold c.in-Cold.ensures.left)
