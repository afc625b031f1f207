use Rattle.std.proofs.Common.{◌∙◌, ◌∷◌, sym, refl, ap, subst, arith}
use mathlib.Core.Option.{none}
use Rattle.words.specs.declared.history.Entry.{Entry}
use Rattle.words.specs.declared.reply.Reply.{Reply}
use Rattle.words.specs.History.{Legal, keys_named}
use Rattle.words.specs.Session.{Asked}
use Rattle.words.specs.Watches.{GoesBy}
use Rattle.atomic_table.specs.Table.{step}
use Rattle.gates.specs.declared.view.Knowledge.{Knowledge}
use Rattle.gates.specs.Plays.{own}
use Rattle.gates.specs.Passes.{KeysHeld, Committed, known}
use Rattle.gates.proofs.Asked.{told_goes_by, told_extends}
use Rattle.gates.proofs.Steps.{commits_step}
use Rattle.gates.proofs.Holding.{keys_held, committed, commit_seat}
use Rattle.gates.proofs.gates.Gates.commit_as.Goals as goal

pub fetch_add-place-requires : goal.fetch_add-place-requires
fetch_add-place-requires g c =
    let n = c.args.self.now.table.shared.table_id.slots in
    let sized = c.args.self.now.sized in
    let armed = c.in_ok-arm.ensures in
    let h = armed.holding in
    let m = c.arm.new.pass.seat.me in
    let before : Knowledge = known c.args.pass.now in
    let seat = c.requires.holding.seat in
    let asked : Asked = g.C.Asks.asked c.args.call.now in
    let said : Reply = g.S.Says.said c.args.reply.now in
    let entry = g.E.Told.entry in (
      h.table,
      omega arith,
      commits_step c.laws.ensures g.T.Part.meaning c.args.self.now.table.shared.key n c.arm.new.pass.seat.id m entry h.seat.single (sym h.armed ∙ armed.ok.0)
          (ap (λ (e : Entry). e.session) c.requires.told ∙ ap (λ (k : Knowledge). k.number) (sym armed.ok.1))
          (λ t. subst (λ (k : Knowledge). Legal (entry ∷ k.seen)) (sym armed.ok.1)
          (seat.legal t, told_extends before.number before.watched asked said entry c.requires.told before.seen seat.watches c.requires.place (c.requires.due t)))
          (subst (λ (k : Knowledge). GoesBy k.watched entry.operation) (sym armed.ok.1)
          (told_goes_by before.number before.watched asked said entry c.requires.told))
          (keys_held n m.1 m.0.held h.seat.same (keys_named entry.operation)
          (subst (λ l. KeysHeld n l (keys_named entry.operation)) (sym armed.parts) c.requires.keys)),
    )

pub returns-clause-ok : goal.returns-clause-ok
returns-clause-ok g c =
    let n = c.args.self.now.table.shared.table_id.slots in
    let armed = c.in_ok-arm.ensures in
    let pass = c.arm.new.pass in
    let m = pass.seat.me in
    let w = c.fetch_add-place.new.seat.me in
    let place = c.fetch_add-place.result in
    let entry = g.E.Told.entry in
    let keys = subst (λ l. KeysHeld n l (keys_named entry.operation)) (sym armed.parts) c.requires.keys in
    subst (λ (k : Knowledge). Committed n c.args.pass.now.seat.me.1 entry place k (own w.0)) armed.ok.1
    (subst (λ l. Committed n l entry place (known pass) (own w.0)) armed.parts
    (committed c.laws.ensures n pass.number place entry (step n 0 1 0 none) m w armed.holding.seat refl keys c.fetch_add-place.ensures.2))

pub returns-clause-holding : goal.returns-clause-holding
returns-clause-holding g c =
    let n = c.args.self.now.table.shared.table_id.slots in
    let armed = c.in_ok-arm.ensures in
    let h = armed.holding in
    let m = c.arm.new.pass.seat.me in
    let w = c.fetch_add-place.new.seat.me in
    let place = c.fetch_add-place.result in
    let entry = g.E.Told.entry in
    let keys = subst (λ l. KeysHeld n l (keys_named entry.operation)) (sym armed.parts) c.requires.keys in
    record {
      table = c.fetch_add-place.ensures.0 ∙ h.table;
      small = h.small;
      armed = sym (ap (λ x. x.0.armed) c.fetch_add-place.ensures.2.seat);
      seat = commit_seat c.laws.ensures n c.arm.new.pass.number place entry (step n 0 1 0 none) m w h.seat refl keys c.fetch_add-place.ensures.2
          (ap (λ (e : Entry). e.session) c.requires.told ∙ ap (λ (k : Knowledge). k.number) (sym armed.ok.1));
    }
