use Rattle.std.proofs.Common.{◌≡◌, ◌∙◌, ◌<◌, ℕ, refl, sym, ap, subst, arith}
use Rattle.epoch.specs.Seats.{known}
use Rattle.words.specs.Store.{Store}
use Rattle.shards.specs.Cleaning.{HasMadeRoom, KeepsRecords}
use Rattle.hybrid.specs.Weighing.{oldest_weight}
use Rattle.shards.specs.Rooms.{HasNoRoom}
use Rattle.shards.proofs.Lacking.{keeps_both, keeps_none, weighs_same}
use Rattle.shards.specs.Shards.{shard_counted, shard_log}
use Rattle.shards.specs.declared.shard.Shard.{Shard}
use Rattle.shards.proofs.Refreed.{heard_since, made_both, made_none, spent_since, tried_both, tried_never}
use Rattle.shards.proofs.shard.Shard.leave.Goals as goal

pub leaving-init : goal.leaving-init
leaving-init g c = record {
  outside = c.requires.outside;
  weighed = c.requires.weighed.light;
  left = c.requires.weighed.left;
  right = λ t right. right;
  store = λ t right key. refl;
  marks = refl;
  made = made_none (shard_counted c.args.self.now);
  tried = tried_never (known c.args.seat.now);
  weighs = c.requires.weighed.weighs;
  records = keeps_none (shard_log c.args.self.now);
  failures = refl;
}

pub returns-in-Ok-Full-clause-cleaned : goal.returns-in-Ok-Full-clause-cleaned
returns-in-Ok-Full-clause-cleaned g c =
    let full = rw c.in-Ok-Full.field-0-is at c.in-Ok-Full.ensures.room in
    (full.full, spent_since c.in-Ok-Full.refused c.args.self.now c.leaving.self c.make_room.new.self c.leaving.invariant.made.waited full.spent)

pub returns-in-Ok-Full-clause-worn : goal.returns-in-Ok-Full-clause-worn
returns-in-Ok-Full-clause-worn g c = λ retire.
    heard_since (known c.args.seat.now) (known c.leaving.seat) (known c.make_room.new.seat) c.leaving.invariant.tried ((rw c.in-Ok-Full.field-0-is at c.in-Ok-Full.ensures.room).worn retire)

pub returns-in-Ok-Full-clause-lacks : goal.returns-in-Ok-Full-clause-lacks
returns-in-Ok-Full-clause-lacks g c = λ t right.
    subst (λ (w : ℕ). HasNoRoom (shard_log c.make_room.new.self) w) (c.leaving.invariant.weighs t right) (rw c.in-Ok-Full.field-0-is at c.in-Ok-Full.ensures.room).lacks

pub returns-in-Ok-Full-clause-seat : goal.returns-in-Ok-Full-clause-seat
returns-in-Ok-Full-clause-seat g c = record {
  outside = c.make_room.ensures.seat.outside;
  tried = tried_both (known c.args.seat.now) (known c.leaving.seat) (known c.make_room.new.seat) c.leaving.invariant.tried c.make_room.ensures.seat.tried;
}

pub returns-in-Ok-Full-clause-meaning : goal.returns-in-Ok-Full-clause-meaning
returns-in-Ok-Full-clause-meaning g c =
    let inv = c.leaving.invariant in
    record {
      right = inv.right;
      store = λ t right key. ap (λ (s : Store). s key) c.make_room.ensures.store ∙ inv.store t right key;
      marks = c.make_room.ensures.marks ∙ inv.marks;
    }

pub returns-in-Err-clause-seat : goal.returns-in-Err-clause-seat
returns-in-Err-clause-seat g c = record {
  outside = c.make_room.ensures.seat.outside;
  tried = tried_both (known c.args.seat.now) (known c.leaving.seat) (known c.make_room.new.seat) c.leaving.invariant.tried c.make_room.ensures.seat.tried;
}

pub returns-in-Err-clause-meaning : goal.returns-in-Err-clause-meaning
returns-in-Err-clause-meaning g c =
    let inv = c.leaving.invariant in
    record {
      right = inv.right;
      store = λ t right key. ap (λ (s : Store). s key) c.make_room.ensures.store ∙ inv.store t right key;
      marks = c.make_room.ensures.marks ∙ inv.marks;
    }

pub returns-in-Ok-Unlinked-clause-seat : goal.returns-in-Ok-Unlinked-clause-seat
returns-in-Ok-Unlinked-clause-seat g c = record {
  outside = c.make_room.ensures.seat.outside;
  tried = tried_both (known c.args.seat.now) (known c.leaving.seat) (known c.make_room.new.seat) c.leaving.invariant.tried c.make_room.ensures.seat.tried;
}

pub returns-in-Ok-Unlinked-clause-meaning : goal.returns-in-Ok-Unlinked-clause-meaning
returns-in-Ok-Unlinked-clause-meaning g c =
    let inv = c.leaving.invariant in
    record {
      right = λ t right. c.unlink.ensures.meaning.right t (inv.right t right);
      store = λ t right key. c.unlink.ensures.meaning.store t (inv.right t right) key ∙ ap (λ (s : Store). s key) c.make_room.ensures.store ∙ inv.store t right key;
      marks = c.unlink.ensures.meaning.marks ∙ c.make_room.ensures.marks ∙ inv.marks;
    }

pub returns-in-Ok-Cold-clause-seat : goal.returns-in-Ok-Cold-clause-seat
returns-in-Ok-Cold-clause-seat g c = record {
  outside = c.make_room.ensures.seat.outside;
  tried = tried_both (known c.args.seat.now) (known c.leaving.seat) (known c.make_room.new.seat) c.leaving.invariant.tried c.make_room.ensures.seat.tried;
}

pub returns-in-Ok-Cold-clause-meaning : goal.returns-in-Ok-Cold-clause-meaning
returns-in-Ok-Cold-clause-meaning g c =
    let inv = c.leaving.invariant in
    record {
      right = λ t right. c.unlink.ensures.meaning.right t (inv.right t right);
      store = λ t right key. c.unlink.ensures.meaning.store t (inv.right t right) key ∙ ap (λ (s : Store). s key) c.make_room.ensures.store ∙ inv.store t right key;
      marks = c.unlink.ensures.meaning.marks ∙ c.make_room.ensures.marks ∙ inv.marks;
    }

pub returns-in-Err-unlink-clause-seat : goal.returns-in-Err-unlink-clause-seat
returns-in-Err-unlink-clause-seat g c = record {
  outside = c.make_room.ensures.seat.outside;
  tried = tried_both (known c.args.seat.now) (known c.leaving.seat) (known c.make_room.new.seat) c.leaving.invariant.tried c.make_room.ensures.seat.tried;
}

pub returns-in-Err-unlink-clause-meaning : goal.returns-in-Err-unlink-clause-meaning
returns-in-Err-unlink-clause-meaning g c =
    let inv = c.leaving.invariant in
    record {
      right = λ t right. c.unlink.ensures.meaning.right t (inv.right t right);
      store = λ t right key. c.unlink.ensures.meaning.store t (inv.right t right) key ∙ ap (λ (s : Store). s key) c.make_room.ensures.store ∙ inv.store t right key;
      marks = c.unlink.ensures.meaning.marks ∙ c.make_room.ensures.marks ∙ inv.marks;
    }

pub leaving-preserved : goal.leaving-preserved
leaving-preserved g c =
    let inv = c.leaving.invariant in
    let made = c.make_room.ensures.made in
    let same : c.unlink.new.self ≡ c.make_room.new.self = (rw c.in-Ok-Heavy.field-0-is at c.in-Ok-Heavy.ensures.unlinked).0 in
    record {
      outside = c.make_room.ensures.seat.outside;
      weighed = omega arith;
      left = omega (arith, inv.left, made.oldest, made.first, ap (λ (s : Shard _). (shard_log s).oldest) same, ap (λ (s : Shard _). (shard_log s).resident.oldest) same);
      right = λ t right. c.unlink.ensures.meaning.right t (inv.right t right);
      store = λ t right key. c.unlink.ensures.meaning.store t (inv.right t right) key ∙ ap (λ (s : Store). s key) c.make_room.ensures.store ∙ inv.store t right key;
      marks = c.unlink.ensures.meaning.marks ∙ c.make_room.ensures.marks ∙ inv.marks;
      made = subst (λ (s : Shard _). HasMadeRoom (shard_counted c.args.self.now) (shard_counted s)) (sym same)
          (made_both (shard_counted c.args.self.now) (shard_counted c.leaving.self) (shard_counted c.make_room.new.self) inv.made made);
      tried = tried_both (known c.args.seat.now) (known c.leaving.seat) (known c.make_room.new.seat) inv.tried c.make_room.ensures.seat.tried;
      weighs = λ t right.
          let heavy : c.in-Ok-Heavy._weight ≡ oldest_weight (shard_log c.make_room.new.self) = (rw c.in-Ok-Heavy.field-0-is at c.in-Ok-Heavy.ensures.weighed) t (c.unlink.ensures.meaning.right t (inv.right t right)) in
          let more : c.leaving.weight < c.in-Ok-Heavy._weight = (rw c.in-Ok-Heavy.field-0-is at c.in-Ok-Heavy.ensures.unlinked).1.0 in
          let same = weighs_same (shard_log c.args.self.now) (shard_log c.make_room.new.self) c.requires.weighed.kept c.requires.weighed.has
          (keeps_both (shard_log c.args.self.now) (shard_log c.leaving.self) (shard_log c.make_room.new.self) inv.records c.make_room.ensures.records) in
          absurd (omega (arith, more, heavy, same, inv.weighs t right));
      records = subst (λ (s : Shard _). KeepsRecords (shard_log c.args.self.now) (shard_log s)) (sym same)
          (keeps_both (shard_log c.args.self.now) (shard_log c.leaving.self) (shard_log c.make_room.new.self) inv.records c.make_room.ensures.records);
      failures = c.in-Ok-Heavy.ensures.failed.no_fault ∙ c.in-Ok-Room.ensures.failed.no_fault ∙ inv.failures;
    }
