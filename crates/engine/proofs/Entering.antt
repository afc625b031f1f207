-- What is held before, between and after the steps of a call.
use Rattle.std.proofs.Common.{◌≡◌, ◌+◌, ◌<◌, ◌∙◌, ⊎_elim, inl, inr, arith, option_map, map, ◌-◌, None, ℕ, List, [], ◌∷◌, ◌++◌, length, Bool, true, false, Option, Some, IsSome, Result, Ok, Err, IfErr, refl, sym, ap, subst}
use Rattle.std.specs.Borrow.{Bor, MutBor}
use Rattle.words.specs.declared.reply.Reply.{Reply}
use Rattle.words.specs.declared.reply.Fault.{Fault}
use Rattle.words.specs.declared.reply.Fault.TheVariants as fault
use Rattle.words.specs.declared.history.Entry.{Entry}
use Rattle.words.specs.declared.history.Operation.{Operation}
use Rattle.words.specs.Commands.{keys_of_all}
use Rattle.words.specs.Store.{Bytes, Write}
use Rattle.words.specs.History.{HasPlace, History, Pair, after, due, keys_named, keys_of_pairs}
use Rattle.words.specs.Watches.{watched_after}
use Rattle.words.specs.Session.{Asked, operation_of, watched_at_fault}
use Rattle.gates.specs.declared.gates.Gates.{Gates}
use Rattle.gates.specs.declared.gates.Pass.{Pass}
use Rattle.gates.specs.declared.held.Held.{Held}
use Rattle.gates.specs.declared.view.Knowledge.{Knowledge}
use Rattle.gates.specs.declared.view.Note.{Note}
use Rattle.gates.specs.declared.view.Note.TheVariants.{Full, Worn}
use Rattle.gates.specs.declared.report.Report.{Report}
use Rattle.gates.specs.declared.report.Report.TheVariants as report
use Rattle.gates.specs.Background.{IsSpent, IsToldOf, notes_of}
use Rattle.gates.specs.declared.view.Refused.{Refused}
use Rattle.std.specs.Option.{is_some}
use Rattle.gates.specs.Pages as pages
use Rattle.hybrid.specs.HybridLog.{HybridLog}
use Rattle.hybrid.specs.Reserving.{IsFull}
use Rattle.gates.specs.Sets.{part_at}
use Rattle.gates.specs.Plays.{kept}
use Rattle.gates.specs.Passes.{AllFit, AreAsTaken, Committed, KeysHeld, MayEnd, WasTold, stripes_of}
use Rattle.gates.specs.Helds.{HasTaken, IsOpen, SameHold, borrow_of, gates_of, has_committed, held_parts, held_stripes, held_taken, known_to, number_of, operation_asked}
use Rattle.transact.specs.declared.call.Answer.{Answer}
use Rattle.transact.specs.declared.call.Answer.TheVariants as answer
use Rattle.transact.specs.declared.call.Call.{Call}
use Rattle.transact.specs.declared.call.Call.TheVariants.{One, Watch, Exec, Forget}
use Rattle.shards.specs.declared.shard.Shard.{Shard}
use Rattle.transact.specs.Calls.{asked_of, call_keys}
use Rattle.transact.specs.Plans.{EndsAll, IsEntry, IsInstalled, IsPlan, made}
use Rattle.shards.specs.Counted.{Waiting, places_of}
use Rattle.shards.specs.Freeing.{IsSpentAt}
use Rattle.shards.specs.Rooms.{IsFullAt, share}
use Rattle.shards.specs.Shards.{SameLogs, SameWaits, logs_of, shard_log, shard_meaning, shard_pages, shard_waiting}
use Rattle.plans.specs.declared.stop.Stop.{Stop}
use Rattle.plans.specs.declared.stop.Stop.TheVariants as stop
use Rattle.plans.specs.Stops.{IfCold, IfFull, IfNoMemory, faults}
use Rattle.transact.specs.Submits.{IfFault, IfReply, asked_for}
use Rattle.transact.specs.Tables.{AreThere, Became, HasBegun, Stand, clears, keys_written, stays, touches_and_clears}
use Rattle.engine.specs.Calls.{Forgot, HasItsPlace, IsCause, IsDone, IsUndone, Promises, promises_of}
use Rattle.engine.specs.Answers.{IsAnswered}
use Rattle.engine.specs.declared.enter.Entered.{Entered}
use Rattle.engine.specs.Entering.{HasEntered, IsPlacedOn, MayBeGiven, MayBegin, MayEnter, MaySubmit, WasCold, at_fault, came_to, given, own_answer}
use Rattle.plans.specs.declared.placing.Placed.{Placed}
use Rattle.plans.specs.Placing.{AllGoThere, IsPlacedFor, LeaveSpare, targets_of, writes_of}
use Rattle.engine.specs.declared.enter.Stopped.{Stopped}
use Rattle.epoch.specs.declared.view.View.{View}
use Rattle.shards.specs.Heard.{HasHeard}
use Rattle.engine.specs.Memory.{AsksNoMemory}
use Rattle.engine.specs.Passes.{Known, know}
use Rattle.engine.specs.Stops.{HasHeardFor, IfSpent, IsOfCall, IsWornBy, TellsFull, fault_of, report_of, worn_out}
use Rattle.engine.proofs.Parts.{became_same, there_after}
use Rattle.engine.proofs.Fit.{forgot_all, installed_all, kept_all, keys_held, stand_of}

pub asks : (call : Call) → IsEntry call → asked_of call ≡ Some (asked_for call)
asks (One command) entry = refl
asks (Watch keys) entry = refl
asks (Exec commands watching) entry = refl
asks (Forget watching) entry = absurd entry

pub placed : (call : Call) (watched : List Pair) → IsEntry call → HasItsPlace watched (asked_of call) → HasPlace (operation_of watched (asked_for call))
placed (One command) watched entry place = place
placed (Watch keys) watched entry place = tt
placed (Exec commands watching) watched entry place = place
placed (Forget watching) watched entry place = absurd entry

named : (call : Call) (watched : List Pair) → IsEntry call → EndsAll call watched → keys_named (operation_of watched (asked_for call)) ≡ call_keys call
named (One command) watched entry ends = refl
named (Watch keys) watched entry ends = refl
named (Exec commands watching) watched entry ends = ap (λ (l : List Bytes). keys_of_all commands ++ l) (sym ends)
named (Forget watching) watched entry ends = absurd entry

some_log : (a b : HybridLog) → Some a ≡ Some b → a ≡ b
some_log a b e = cc e

some_wait : (a b : Waiting) → Some a ≡ Some b → a ≡ b
some_wait a b e = cc e

-- the pages of a shard with this log, beside which this waits
abbrev pub pages_by : HybridLog → Waiting → pages.Pages
pages_by log w = record {
  oldest = log.oldest;
  first = log.resident.oldest;
  tail = log.resident.oldest + length log.resident.pages - 1;
  frames = log.resident.frames;
  receipts = map is_some log.kept;
  unlinked = length w.unlinked;
  retired = length w.retired;
  drained = length w.drained;
  waits = places_of w.unlinked;
  refused = w.refused;
  worn = w.worn;
  unreleased = log.unreleased;
  places = log.places;
}

module _ {R : Type 0} (steady : Type 0) where
  -- what is held fits
  abbrev pub Fit : ℕ → Held (Shard R) → Type 0
  Fit n held = AllFit (shard_meaning steady) n (known_to held) (held_taken held) (held_parts held)

  -- the parts that are held
  abbrev pub parts_of : Held (Shard R) → ℕ → Option (Shard R)
  parts_of held = part_at (held_parts held)

  -- the number of the pass that holds
  pub seat_is : (held : Held (Shard R)) → IsOpen steady held → number_of held ≡ (known_to held).number
  seat_is held opened = sym opened.holding.seat.number_is

  -- the pass that holds is the same where it knows that it is
  pub holder_same : (start held : Held (Shard R)) → IsOpen steady start → IsOpen steady held → (known_to held).number ≡ (known_to start).number → number_of held ≡ number_of start
  holder_same start held opened opened_still same = seat_is held opened_still ∙ same ∙ sym (seat_is start opened)

  -- what becomes of parts, and what is taken back of marks, where stripes and their holder are said otherwise
  pub became_by : (n m a b : ℕ) (ws : List Write) (keys : List Bytes) (before later : ℕ → Option (Shard R)) → n ≡ m → a ≡ b
      → Became (shard_meaning steady) n ws (touches_and_clears ws a keys) before later → Became (shard_meaning steady) m ws (touches_and_clears ws b keys) before later
  became_by n m a b ws keys before later count holder became =
      subst (λ (k : ℕ). Became (shard_meaning steady) k ws (touches_and_clears ws b keys) before later) count
      (subst (λ (k : ℕ). Became (shard_meaning steady) n ws (touches_and_clears ws k keys) before later) holder became)

  pub marks_undone : (n m a b : ℕ) (keys : List Bytes) (held later : ℕ → Option (Shard R)) → n ≡ m → a ≡ b
      → ((before : ℕ → Option (Shard R)) → HasBegun (shard_meaning steady) n a keys before held → Became (shard_meaning steady) n [] stays before later)
      → (before : ℕ → Option (Shard R)) → HasBegun (shard_meaning steady) m b keys before held → Became (shard_meaning steady) m [] stays before later
  marks_undone n m a b keys held later count holder undone before has =
      subst (λ (k : ℕ). Became (shard_meaning steady) k [] stays before later) count
      (undone before (subst (λ (k : ℕ). HasBegun (shard_meaning steady) k a keys before held) (sym count) (subst (λ (k : ℕ). HasBegun (shard_meaning steady) m k keys before held) (sym holder) has)))

  -- the same is held, and parts have other bytes and the same meaning
  pub fit_kept : (n : ℕ) (start mid : Held (Shard R)) → SameHold start mid → Fit n start → Became (shard_meaning steady) n [] stays (parts_of start) (parts_of mid) → Fit n mid
  fit_kept n start mid same fit became =
      kept_all (shard_meaning steady) n (known_to start) (known_to mid) (held_taken mid) (held_parts start) (held_parts mid)
      (ap (λ (k : Knowledge). k.number) same.known) (ap (λ (k : Knowledge). k.seen) same.known) (ap (λ (k : Knowledge). k.watched) same.known)
      (subst (λ (l : List (ℕ × (ℕ × Shard R))). AllFit (shard_meaning steady) n (known_to start) l (held_parts start)) (sym same.taken) fit) became

  pub stands : (n seat : ℕ) (start : Held (Shard R)) → seat ≡ (known_to start).number → Fit n start → steady
      → Stand (shard_meaning steady) n (parts_of start) (known_to start).seen seat (known_to start).watched
  stands n seat start is fit t =
      subst (λ (s : ℕ). Stand (shard_meaning steady) n (parts_of start) (known_to start).seen s (known_to start).watched) (sym is)
      (stand_of (shard_meaning steady) n (known_to start) (held_taken start) (held_parts start) fit t)

  -- a plan that is due behind what was seen before
  pub reply_due : (start mid : Held (Shard R)) (asked : Asked) (reply : Reply) (ws : List Write) → SameHold start mid
      → (steady → IsPlan (known_to start).seen (operation_of (known_to start).watched asked) reply ws)
      → steady → reply ≡ due (known_to mid).seen (operation_asked mid asked)
  reply_due start mid asked reply ws same plan t =
      subst (λ (k : Knowledge). reply ≡ due k.seen (operation_of k.watched asked)) (sym same.known) (plan t).reply_due

  pub named_held : (n : ℕ) (start mid : Held (Shard R)) (call : Call) → SameHold start mid → n ≡ stripes_of (gates_of start) → IsEntry call → EndsAll call (known_to start).watched
      → AreThere n (parts_of mid) (call_keys call) → KeysHeld (stripes_of (gates_of mid)) (held_parts mid) (keys_named (operation_asked mid (asked_for call)))
  named_held n start mid call same n_is entry ends there =
      subst (λ (k : Knowledge). KeysHeld (stripes_of (gates_of mid)) (held_parts mid) (keys_named (operation_of k.watched (asked_for call)))) (sym same.known)
      (subst (λ (l : List Bytes). KeysHeld (stripes_of (gates_of mid)) (held_parts mid) l) (sym (named call (known_to start).watched entry ends))
      (subst (λ (m : ℕ). KeysHeld m (held_parts mid) (call_keys call)) (n_is ∙ ap (λ (g : Bor (Gates (Shard R))). stripes_of g.now) (sym same.gates))
      (keys_held (shard_meaning steady) n (held_parts mid) (call_keys call) there)))

  -- the entry of what is asked by the pass that holds
  abbrev pub WasCommitted : ℕ → Asked → Reply → (mid done : Held (Shard R)) → Type 0
  WasCommitted place asked reply mid done =
      Committed (stripes_of (gates_of mid)) (held_parts mid) (record { session = (known_to mid).number; operation = operation_asked mid asked; reply = reply }) place (known_to mid) (known_to done)

  -- What was committed was installed. Parts may have been written before the commit, and others after it.
  pub fit_installed : (n seat place : ℕ) (asked : Asked) (reply : Reply) (start mid done last : Held (Shard R))
      → n ≡ stripes_of (gates_of start) → seat ≡ (known_to start).number
      → (steady → IsInstalled (shard_meaning steady) n (known_to start).seen (record { session = seat; operation = operation_of (known_to start).watched asked; reply = reply }) (parts_of start) (parts_of last))
      → Fit n start → SameHold start mid → ((i : ℕ) → IsSome (parts_of start i) → IsSome (parts_of mid i)) → held_taken done ≡ held_taken mid
      → WasCommitted place asked reply mid done → SameHold done last → Fit n last
  fit_installed n seat place asked reply start mid done last n_is seat_is whole fit same there taken did same_last =
      let operation : Operation = operation_of (known_to start).watched asked in
      let own : steady → IsInstalled (shard_meaning steady) n (known_to start).seen (record { session = (known_to start).number; operation = operation; reply = reply }) (parts_of start) (parts_of last) = λ t.
      subst (λ (s : ℕ). IsInstalled (shard_meaning steady) n (known_to start).seen (record { session = s; operation = operation; reply = reply }) (parts_of start) (parts_of last)) seat_is (whole t) in
      let did_start : Committed (stripes_of (gates_of mid)) (held_parts mid) (record { session = (known_to start).number; operation = operation; reply = reply }) place (known_to start) (known_to done) =
      subst (λ (k : Knowledge). Committed (stripes_of (gates_of mid)) (held_parts mid) (record { session = k.number; operation = operation_of k.watched asked; reply = reply }) place k (known_to done)) same.known did in
      let did_n : Committed n (held_parts mid) (record { session = (known_to start).number; operation = operation; reply = reply }) place (known_to start) (known_to done) =
      subst (λ (m : ℕ). Committed m (held_parts mid) (record { session = (known_to start).number; operation = operation; reply = reply }) place (known_to start) (known_to done))
      (sym (n_is ∙ ap (λ (g : Bor (Gates (Shard R))). stripes_of g.now) (sym same.gates))) did_start in
      let fit_known : AllFit (shard_meaning steady) n (known_to done) (held_taken start) (held_parts last) =
      installed_all (shard_meaning steady) n operation reply place (known_to start) (known_to done) (held_taken start) (held_parts start) (held_parts mid) (held_parts last) did_n there fit own in
      subst (λ (k : Knowledge). AllFit (shard_meaning steady) n k (held_taken last) (held_parts last)) (sym same_last.known)
      (subst (λ (l : List (ℕ × (ℕ × Shard R))). AllFit (shard_meaning steady) n (known_to done) l (held_parts last)) (sym (same_last.taken ∙ taken ∙ same.taken)) fit_known)

  -- commits were worn out, and what was done for the call is undone
  pub fit_undone : (n : ℕ) (start mid told last : Held (Shard R)) → SameHold start mid → held_taken told ≡ held_taken mid → WasTold Worn (known_to mid) (known_to told)
      → SameHold told last → Fit n start → Became (shard_meaning steady) n [] stays (parts_of start) (parts_of last) → Fit n last
  fit_undone n start mid told last same taken worn same_last fit became =
      kept_all (shard_meaning steady) n (known_to start) (known_to last) (held_taken last) (held_parts start) (held_parts last)
      (ap (λ (k : Knowledge). k.number) same_last.known ∙ worn.number ∙ ap (λ (k : Knowledge). k.number) same.known)
      (ap (λ (k : Knowledge). k.seen) same_last.known ∙ worn.seen ∙ ap (λ (k : Knowledge). k.seen) same.known)
      (ap (λ (k : Knowledge). k.watched) same_last.known ∙ worn.watched ∙ ap (λ (k : Knowledge). k.watched) same.known)
      (subst (λ (l : List (ℕ × (ℕ × Shard R))). AllFit (shard_meaning steady) n (known_to start) l (held_parts start)) (sym (same_last.taken ∙ taken ∙ same.taken)) fit) became

  -- all that is watched is forgotten
  pub fit_forgot : (n seat : ℕ) (keys : List Bytes) (start last : Held (Shard R)) → seat ≡ (known_to start).number → keys ≡ keys_of_pairs (known_to start).watched → Fit n start → SameHold start last
      → Became (shard_meaning steady) n [] (clears seat keys) (parts_of start) (parts_of last) → AllFit (shard_meaning steady) n (kept true [] (known_to last)) (held_taken last) (held_parts last)
  fit_forgot n seat keys start last seat_is keys_are fit same became =
      subst (λ (k : Knowledge). AllFit (shard_meaning steady) n (kept true [] k) (held_taken last) (held_parts last)) (sym same.known)
      (forgot_all (shard_meaning steady) n seat keys (known_to start) (held_taken last) (held_parts start) (held_parts last) seat_is keys_are
      (subst (λ (l : List (ℕ × (ℕ × Shard R))). AllFit (shard_meaning steady) n (known_to start) l (held_parts start)) (sym same.taken) fit) became)

  -- the stripes of all that was watched are held
  forgot_held : (n : ℕ) (keys : List Bytes) (start last : Held (Shard R)) → SameHold start last → keys ≡ keys_of_pairs (known_to start).watched → AreThere n (parts_of last) keys
      → KeysHeld n (held_parts last) (keys_of_pairs (known_to last).watched)
  forgot_held n keys start last same keys_are there =
      subst (λ (l : List Bytes). KeysHeld n (held_parts last) l) (keys_are ∙ ap (λ (k : Knowledge). keys_of_pairs k.watched) (sym same.known))
      (keys_held (shard_meaning steady) n (held_parts last) keys there)

  -- as many stripes as the same gates have
  pub counted : (start held : Held (Shard R)) → gates_of held ≡ gates_of start → held_stripes held ≡ held_stripes start
  counted start held gates = ap (λ (g : Gates (Shard R)). stripes_of g) gates

  -- what is held once all that is watched is forgotten
  pub given_forgot : (seat : ℕ) (keys : List Bytes) (report : Report) (start last : Held (Shard R)) → IsOpen steady last → IsToldOf (shard_meaning steady) (held_taken last) (held_parts last) report → seat ≡ (known_to start).number
      → keys ≡ keys_of_pairs (known_to start).watched → AreThere (held_stripes start) (parts_of start) keys → Fit (held_stripes start) start → SameHold start last
      → Became (shard_meaning steady) (held_stripes start) [] (clears seat keys) (parts_of start) (parts_of last) → MayBeGiven steady true report start last
  given_forgot seat keys report start last opened told seat_is keys_are there fit same became = record {
    is_open = opened;
    gates = ap (λ (g : Bor (Gates (Shard R))). g.now) same.gates;
    pass = same.pass;
    told = told;
    keys = λ yes. forgot_held (held_stripes start) keys start last same keys_are (there_after (held_stripes start) keys (parts_of start) (parts_of last) became.there there);
    fit = fit_forgot (held_stripes start) seat keys start last seat_is keys_are fit same became;
  }

  -- what is held where the pass watches what it did
  pub given_still : (report : Report) (start last : Held (Shard R)) → IsOpen steady last → IsToldOf (shard_meaning steady) (held_taken last) (held_parts last) report → gates_of last ≡ gates_of start → borrow_of last ≡ borrow_of start → Fit (held_stripes start) last
      → MayBeGiven steady false report start last
  given_still report start last opened told gates pass fit = record {
    is_open = opened;
    gates = gates;
    pass = pass;
    told = told;
    keys = λ yes. absurd (cc yes);
    fit = fit;
  }

  -- the same, from before the last steps
  pub given_behind : (ends : Bool) (report : Report) (start mid last : Held (Shard R)) → gates_of mid ≡ gates_of start → borrow_of mid ≡ borrow_of start → MayBeGiven steady ends report mid last → MayBeGiven steady ends report start last
  given_behind ends report start mid last gates pass given = record {
    is_open = given.is_open;
    gates = given.gates ∙ gates;
    pass = given.pass ∙ pass;
    told = given.told;
    keys = subst (λ (m : ℕ). MayEnd ends m (held_parts last) (known_to last).watched) (counted start mid gates) given.keys;
    fit = subst (λ (m : ℕ). AllFit (shard_meaning steady) m (kept ends [] (known_to last)) (held_taken last) (held_parts last)) (counted start mid gates) given.fit;
  }

  -- a call may be entered still
  pub may_still : (call : Call) (start mid : Held (Shard R)) → MayEnter steady call start → IsOpen steady mid → has_committed mid ≡ false → gates_of mid ≡ gates_of start
      → ((i : ℕ) → IsSome (parts_of start i) → IsSome (parts_of mid i)) → Fit (held_stripes start) mid → MayEnter steady call mid
  may_still call start mid may opened fresh gates there fit = record {
    is_open = opened;
    fresh = fresh;
    there = subst (λ (m : ℕ). AreThere m (parts_of mid) (call_keys call)) (sym (counted start mid gates)) (there_after (held_stripes start) (call_keys call) (parts_of start) (parts_of mid) there may.there);
    fit = subst (λ (m : ℕ). Fit m mid) (sym (counted start mid gates)) fit;
  }

  -- a call may begin still, where parts are the same
  pub begin_still : (call : Call) (start mid : Held (Shard R)) → MayBegin steady call start → IsOpen steady mid → SameHold start mid → parts_of mid ≡ parts_of start → MayBegin steady call mid
  begin_still call start mid begin opened same parts = record {
    may = may_still call start mid begin.may opened (same.committed ∙ begin.may.fresh) (ap (λ (g : Bor (Gates (Shard R))). g.now) same.gates)
        (λ i some. subst (λ (p : ℕ → Option (Shard R)). IsSome (p i)) (sym parts) some)
        (fit_kept (held_stripes start) start mid same begin.may.fit (became_same (held_stripes start) (shard_meaning steady) (parts_of start) (parts_of mid) parts));
    lent = λ stripe part is. subst (λ (l : List (ℕ × (ℕ × Shard R))). (moment : ℕ) × (part_at l stripe ≡ Some (moment, part))) (sym same.taken) (begin.lent stripe part (ap (λ (p : ℕ → Option (Shard R)). p stripe) (sym parts) ∙ is));
    place = subst (λ (k : Knowledge). HasItsPlace k.watched (asked_of call)) (sym same.known) begin.place;
    ends = subst (λ (k : Knowledge). EndsAll call k.watched) (sym same.known) begin.ends;
  }

  -- what a call comes to whose writes wait for nothing, where parts are the same
  pub placed_still : (start mid : Held (Shard R)) (call : Call) (placed : Placed) (Due : Reply → List Write → Type 0) → SameHold start mid → parts_of mid ≡ parts_of start
      → (steady → (said : Reply) (writes : List Write) → Due said writes → IsPlan (known_to start).seen (operation_of (known_to start).watched (asked_for call)) said writes)
      → IsPlacedFor Due (held_stripes start) (parts_of start) placed → IsPlacedOn steady call mid placed
  placed_still start mid call placed Due same parts turn has =
      let count = counted start mid (ap (λ (g : Bor (Gates (Shard R))). g.now) same.gates) in record {
        due = λ t. subst (λ (k : Knowledge). IsPlan k.seen (operation_of k.watched (asked_for call)) placed.reply (writes_of placed.placing)) (sym same.known) (turn t placed.reply (writes_of placed.placing) has.due);
        fits = has.fits;
        there = subst (λ (m : ℕ). AreThere m (parts_of mid) (keys_written (writes_of placed.placing))) (sym count)
            (subst (λ (p : ℕ → Option (Shard R)). AreThere (held_stripes start) p (keys_written (writes_of placed.placing))) (sym parts) has.there);
        targets = subst (λ (m : ℕ). AllGoThere m (logs_of (parts_of mid)) (writes_of placed.placing) (targets_of placed.placing)) (sym count)
            (subst (λ (p : ℕ → Option (Shard R)). AllGoThere (held_stripes start) (logs_of p) (writes_of placed.placing) (targets_of placed.placing)) (sym parts) has.targets);
        left = subst (λ (m : ℕ). LeaveSpare m (logs_of (parts_of mid)) (writes_of placed.placing) (targets_of placed.placing)) (sym count)
            (subst (λ (p : ℕ → Option (Shard R)). LeaveSpare (held_stripes start) (logs_of p) (writes_of placed.placing) (targets_of placed.placing)) (sym parts) has.left);
      }

  -- what a call came to, from before the last steps, in which nothing was learned
  pub entered_behind : {A : Type 0} (lends : Type 0) (call : Call) (says : A → Answer) (start mid last : Held (Shard R)) (f0 f1 : ℕ) (entered : Entered A) → SameHold start mid
      → HasEntered (promises_of steady lends (held_stripes mid)) call says (mid, f0) (last, f1) entered → HasEntered (promises_of steady lends (held_stripes start)) call says (start, f0) (last, f1) entered
  entered_behind lends call says start mid last f0 f1 entered same has =
      let gates : gates_of mid ≡ gates_of start = ap (λ (g : Bor (Gates (Shard R))). g.now) same.gates in
      record {
        back = given_behind entered.ends entered.report start mid last gates same.pass has.back;
        answered = subst (λ (n : ℕ). IsAnswered (promises_of steady lends n) [] call (says entered.answer) (know (known_to start) f0) (know (given entered.ends entered.report (known_to last)) f1)) (counted start mid gates)
            (subst (λ (k : Knowledge). IsAnswered (promises_of steady lends (held_stripes mid)) [] call (says entered.answer) (know k f0) (know (given entered.ends entered.report (known_to last)) f1)) same.known has.answered);
      }

  -- the same of one that wants pages
  pub cold_behind : (lends : Type 0) (call : Call) (start mid last : Held (Shard R)) (f0 f1 : ℕ) → SameHold start mid → WasCold steady lends call (mid, f0) (last, f1) → WasCold steady lends call (start, f0) (last, f1)
  cold_behind lends call start mid last f0 f1 same cold = record {
    back = given_behind false report.Nothing start mid last (ap (λ (g : Bor (Gates (Shard R))). g.now) same.gates) same.pass cold.back;
    known = cold.known ∙ same.known;
    unlent = cold.unlent;
    planned = cold.planned;
    no_fault = cold.no_fault;
  }

  -- what a call came to, where the call and what it came to are said otherwise
  pub entered_as : (promises : Promises) (call other : Call) (entered said : Entered Answer) (before later : Held (Shard R) × ℕ) → call ≡ other → entered ≡ said
      → HasEntered promises other own_answer before later said → HasEntered promises call own_answer before later entered
  entered_as promises call other entered said before later is told has =
      subst (λ (x : Call). HasEntered promises x own_answer before later entered) (sym is)
      (subst (λ (e : Entered Answer). HasEntered promises other own_answer before later e) (sym told) has)

  -- what may be given back, as it is held now
  pub given_here : (ends : Bool) (report : Report) (start held : Held (Shard R)) → MayBeGiven steady ends report start held → MayBeGiven steady ends report held held
  given_here ends report start held given = record {
    is_open = given.is_open;
    gates = refl;
    pass = refl;
    told = given.told;
    keys = subst (λ (m : ℕ). MayEnd ends m (held_parts held) (known_to held).watched) (sym (counted start held given.gates)) given.keys;
    fit = subst (λ (m : ℕ). AllFit (shard_meaning steady) m (kept ends [] (known_to held)) (held_taken held) (held_parts held)) (sym (counted start held given.gates)) given.fit;
  }

  -- a call may be entered where its stripes were taken
  pub may_enter : (call : Call) (gates : Gates (Shard R)) (stripes : List ℕ) (pass : MutBor (Pass (Shard R))) (held : Held (Shard R))
      → AreThere (stripes_of gates) (parts_of held) (call_keys call) → HasTaken (shard_meaning steady) gates stripes pass held → MayEnter steady call held
  may_enter call gates stripes pass held there taken =
      let count : stripes_of gates ≡ held_stripes held = ap (λ (g : Gates (Shard R)). stripes_of g) (sym taken.gates_are) in
      record {
        is_open = taken.is_open;
        fresh = taken.fresh;
        there = subst (λ (m : ℕ). AreThere m (parts_of held) (call_keys call)) count there;
        fit = subst (λ (m : ℕ). Fit m held) count taken.fit;
      }

  -- a call may begin where its stripes were taken
  pub may_begin : (call : Call) (gates : Gates (Shard R)) (stripes : List ℕ) (pass : MutBor (Pass (Shard R))) (held : Held (Shard R))
      → AreThere (stripes_of gates) (parts_of held) (call_keys call) → HasTaken (shard_meaning steady) gates stripes pass held → MaySubmit steady gates call pass.now → MayBegin steady call held
  may_begin call gates stripes pass held there taken may = record {
    may = may_enter call gates stripes pass held there taken;
    lent = taken.lent;
    place = subst (λ (w : List Pair). HasItsPlace w (asked_of call)) (sym taken.learned.watched) may.place;
    ends = subst (λ (w : List Pair). EndsAll call w) (sym taken.learned.watched) may.ends;
  }

  -- a stripe that a plan found full is so by its pages
  full_pages : (p : Shard R) → IsFull (shard_log p) → pages.IsFull (shard_pages p)
  full_pages p full = ⊎_elim (λ same. inl same) (λ last. inr (omega (arith, last))) full

  -- a report that says that a stripe is full, of whose places none can be released, is true
  pub told_spent : (before later : List (ℕ × Shard R)) (took : List (ℕ × (ℕ × Shard R))) (stripe : ℕ) (refused : Refused) → AreAsTaken took before → IsFullAt (logs_of (part_at later)) stripe
      → IsSpentAt refused stripe (part_at before) (part_at later) → IsToldOf (shard_meaning steady) took later (report.Full stripe refused)
  told_spent before later took stripe refused taken full spent =
      let lent = taken stripe spent.old spent.was in
      let same : shard_log spent.new ≡ full.log = some_log (shard_log spent.new) full.log (sym (ap (option_map shard_log) spent.is) ∙ full.there) in
      record { part = spent.new; there = spent.is; is = (full_pages spent.new (subst IsFull (sym same) full.full), (lent.0, spent.old), lent.1, spent.spent) }

  -- the same of why a plan was not made
  pub told_stop : (before later : List (ℕ × Shard R)) (took : List (ℕ × (ℕ × Shard R))) (s : Stop R) (refused : Refused) → AreAsTaken took before
      → IfFull s (λ stripe. IsFullAt (logs_of (part_at later)) stripe × IsSpentAt refused stripe (part_at before) (part_at later)) → IsToldOf (shard_meaning steady) took later (report_of s refused)
  told_stop before later took stop.OutOfMemory refused taken full = tt
  told_stop before later took stop.DeviceFault refused taken full = tt
  told_stop before later took (stop.StoreFull stripe) refused taken full = told_spent before later took stripe refused taken full.0 full.1
  told_stop before later took (stop.Cold receipts) refused taken full = tt

  -- what is told of a stripe goes by its log and by what waits
  pages_same : (one two : Shard R) → shard_log two ≡ shard_log one → shard_waiting two ≡ shard_waiting one → shard_pages two ≡ shard_pages one
  pages_same one two logs waits = ap (λ (log : HybridLog). pages_by log (shard_waiting two)) logs ∙ ap (λ (w : Waiting). pages_by (shard_log one) w) waits

  still_at : (o : Option (Shard R)) (part : Shard R) → option_map shard_log o ≡ Some (shard_log part) → option_map shard_waiting o ≡ Some (shard_waiting part)
      → (now : Shard R) × (o ≡ Some now) × (shard_pages now ≡ shard_pages part)
  still_at None part logs waits = absurd (cc logs)
  still_at (Some now) part logs waits = (now, refl, pages_same part now (some_log (shard_log now) (shard_log part) logs) (some_wait (shard_waiting now) (shard_waiting part) waits))

  -- what a call tells is so while logs and what waits stay
  pub told_still : (before later : List (ℕ × Shard R)) (took : List (ℕ × (ℕ × Shard R))) (report : Report) → IsOfCall report → SameLogs (part_at before) (part_at later) → SameWaits (part_at before) (part_at later)
      → IsToldOf (shard_meaning steady) took before report → IsToldOf (shard_meaning steady) took later report
  told_still before later took report.Nothing call logs waits told = tt
  told_still before later took (report.Full stripe refused) call logs waits told =
      let now = still_at (part_at later stripe) told.part (logs stripe ∙ ap (option_map shard_log) told.there) (waits stripe ∙ ap (option_map shard_waiting) told.there) in
      record {
        part = now.0;
        there = now.1;
        is = (
          subst pages.IsFull (sym now.2) told.is.0,
          told.is.1,
          told.is.2,
          subst (λ (p : pages.Pages). IsSpent refused (shard_pages told.is.1.1) p) (sym now.2) told.is.3,
        );
      }
  told_still before later took (report.Idle stripe work) call logs waits told = absurd call
  told_still before later took (report.Done stripe work) call logs waits told = absurd call
  told_still before later took (report.Seen stripe look) call logs waits told = absurd call

pub of_call : {R : Type 0} (s : Stop R) (refused : Refused) → IsOfCall (report_of s refused)
of_call stop.OutOfMemory refused = tt
of_call stop.DeviceFault refused = tt
of_call (stop.StoreFull stripe) refused = tt
of_call (stop.Cold receipts) refused = tt

-- where a stripe is full, this of what the epochs refused
pub spent_of : {R : Type 0} (P : Refused → Type 0) (s : Stop R) (refused : Refused) → IfFull s (λ stripe. P refused) → IfSpent (report_of s refused) P
spent_of P stop.OutOfMemory refused full = tt
spent_of P stop.DeviceFault refused full = tt
spent_of P (stop.StoreFull stripe) refused full = full
spent_of P (stop.Cold receipts) refused full = tt

-- a plan that was not made is answered that the store is full where a stripe is told to be full
tells_full : {R : Type 0} (s : Stop R) (refused : Refused) → TellsFull (answer.Fault (fault_of s)) (report_of s refused)
tells_full stop.OutOfMemory refused = tt
tells_full stop.DeviceFault refused = tt
tells_full (stop.StoreFull stripe) refused = tt
tells_full (stop.Cold receipts) refused = tt

-- a call that is answered by this fault and tells this
stopped_as : (a : Answer) (f : Fault) (told r : Report) (before later : View) → a ≡ answer.Fault f → told ≡ r → HasHeard before later → IfSpent r (IsWornBy before later)
    → TellsFull (answer.Fault f) r → (ends : Bool) → HasHeardFor own_answer (record { answer = a; ends = ends; report = told }) before later
stopped_as a f told r before later is says heard worn full ends = record {
  heard = heard;
  worn = subst (λ (x : Report). IfSpent x (IsWornBy before later)) (sym says) worn;
  full = subst (λ (x : Answer). TellsFull x told) (sym is) (subst (λ (x : Report). TellsFull (answer.Fault f) x) (sym says) full);
}

-- the same of a call whose plan was not made
pub heard_stop : {R : Type 0} (s : Stop R) (refused : Refused) (entered : Entered Answer) (before later : View) → entered.answer ≡ answer.Fault (fault_of s) → entered.report ≡ report_of s refused → HasHeard before later
    → IfFull s (λ stripe. IsWornBy before later refused) → HasHeardFor own_answer entered before later
heard_stop s refused entered before later is says heard full =
    stopped_as entered.answer (fault_of s) entered.report (report_of s refused) before later is says heard (spent_of (IsWornBy before later) s refused full) (tells_full s refused) entered.ends

-- the same of a call that could not be committed
pub heard_worn : (entered : Entered Answer) (before later : View) → entered.answer ≡ answer.Fault fault.CommitsWornOut → entered.report ≡ report.Nothing → HasHeard before later → HasHeardFor own_answer entered before later
heard_worn entered before later is says heard = stopped_as entered.answer fault.CommitsWornOut entered.report report.Nothing before later is says heard tt tt entered.ends

-- a seat that was told nothing
pub heard_nothing : (view : View) → HasHeard view view
heard_nothing view = record { more = []; notes = refl }

-- the same of a command of one key that makes no room
pub heard_quietly : (reply : Reply) (done : Result (Unit {0}) Stopped) (view : View) → IfErr done (λ stopped. stopped ≡ worn_out) → HasHeardFor own_answer (came_to reply done) view view
heard_quietly reply (Ok done) view worn = record { heard = heard_nothing view; worn = tt; full = tt }
heard_quietly reply (Err stopped) view worn = heard_worn (came_to reply (Err stopped)) view view (ap (λ (s : Stopped). answer.Fault s.fault) worn) (ap (λ (s : Stopped). s.report) worn) (heard_nothing view)

-- all that was watched is forgotten
pub forgot_by : (start last : Knowledge) (f0 f1 : ℕ) → last ≡ start → f1 ≡ f0 → Forgot [] (know start f0) (know (kept true [] last) f1)
forgot_by start last f0 f1 same failures = record {
  others = [];
  number = ap (λ (k : Knowledge). k.number) same;
  seen = ap (λ (k : Knowledge). k.seen) same;
  mine = ap (λ (k : Knowledge). k.mine) same;
  watched = refl;
  told = [];
  notes = ap (λ (k : Knowledge). k.notes) same;
  busy = tt;
  failures = failures;
}

-- What was asked was done: it was committed, and what is known is the same since.
pub done_by : {T : Type 0} (call : Call) (reply : Reply) (n place : ℕ) (parts : List (ℕ × T)) (start mid done last : Knowledge) (f0 f1 : ℕ) → IsEntry call → mid ≡ start → last ≡ done
    → Committed n parts (record { session = mid.number; operation = operation_of mid.watched (asked_for call); reply = reply }) place mid done → f1 ≡ f0
    → IsDone [] (asked_of call) reply (know start f0) (know last f1)
done_by call reply n place parts start mid done last f0 f1 entry same same_last did failures =
    let e : Entry = record { session = start.number; operation = operation_of start.watched (asked_for call); reply = reply } in
    let was : Committed n parts e place start last =
    subst (λ (k : Knowledge). Committed n parts e place start k) (sym same_last)
    (subst (λ (k : Knowledge). Committed n parts (record { session = k.number; operation = operation_of k.watched (asked_for call); reply = reply }) place k done) same did) in
    let at : place ≡ length (was.goes_on.0 ++ start.seen) = was.place_is ∙ ap (λ (h : History). length h) was.goes_on.1 in
    subst (λ (o : Option Asked). IsDone [] o reply (know start f0) (know last f1)) (sym (asks call entry)) (record {
      others = was.goes_on.0;
      number = was.number;
      seen = was.seen ∙ ap (λ (h : History). e ∷ h) was.goes_on.1;
      mine = was.mine ∙ ap (λ (p : ℕ). (p, e) ∷ start.mine) at;
      watched = was.watched ∙ ap (λ (p : ℕ). watched_after start.watched e.operation p) at;
      told = [];
      notes = was.notes;
      busy = tt;
      failures = failures;
    })

-- A cause goes by the history that was seen last and by the failures of the device.
cause_same : (promises : Promises) (f : Fault) (stripes : List ℕ) (asked : Asked) (was now other : Known) (told : List Note) → other.seen ≡ now.seen → other.failures ≡ now.failures
    → IsCause promises f stripes asked was now told → IsCause promises f stripes asked was other told
cause_same promises fault.OutOfMemory stripes asked was now other told seen failures cause =
    (subst (λ (h : History). ¬ AsksNoMemory (promises.steady × promises.lends) (after h) asked) (sym seen) cause.0, failures ∙ cause.1, cause.2)
cause_same promises fault.DeviceFault stripes asked was now other told seen failures cause = (failures ∙ cause.0, cause.1)
cause_same promises fault.StoreFull stripes asked was now other told seen failures cause = record {
  stripe = cause.stripe;
  refused = cause.refused;
  earlier = cause.earlier;
  full = cause.full;
  busy = cause.busy;
  writes = subst (λ (h : History). promises.steady → 0 < share promises.stripes cause.stripe (made h (operation_of was.watched asked))) (sym seen) cause.writes;
  failures = failures ∙ cause.failures;
}
cause_same promises fault.CommitsWornOut stripes asked was now other told seen failures cause = (cause.0, cause.1, failures ∙ cause.2, cause.3)

-- What was asked was not done, and what is known is what it was but for notes, and for watches that end.
pub undone_by : (promises : Promises) (call : Call) (f : Fault) (start mid last : Knowledge) (f0 f1 : ℕ) (told : List Note) → IsEntry call → last ≡ at_fault (asked_for call) mid → mid.number ≡ start.number
    → mid.seen ≡ start.seen → mid.mine ≡ start.mine → mid.watched ≡ start.watched → mid.notes ≡ told ++ start.notes
    → IsCause promises f [] (asked_for call) (know start f0) (know start f1) told
    → IsUndone promises [] (asked_of call) f (know start f0) (know last f1)
undone_by promises call f start mid last f0 f1 told entry is number seen mine watched notes cause =
    subst (λ (o : Option Asked). IsUndone promises [] o f (know start f0) (know last f1)) (sym (asks call entry)) (record {
      others = [];
      number = ap (λ (k : Knowledge). k.number) is ∙ number;
      seen = ap (λ (k : Knowledge). k.seen) is ∙ seen;
      mine = ap (λ (k : Knowledge). k.mine) is ∙ mine;
      watched = ap (λ (k : Knowledge). k.watched) is ∙ ap (λ (w : List Pair). watched_at_fault w (asked_for call)) watched;
      told = told;
      notes = ap (λ (k : Knowledge). k.notes) is ∙ notes;
      cause = cause_same promises f [] (asked_for call) (know start f0) (know start f1) (know last f1) told (ap (λ (k : Knowledge). k.seen) is ∙ seen) refl cause;
    })

-- the plan was not made, and that was told
pub stopped_by : {R : Type 0} (promises : Promises) (call : Call) (stop : Stop R) (refused : Refused) (start mid last : Knowledge) (f0 f1 : ℕ) → IsEntry call
    → last ≡ at_fault (asked_for call) (record mid { notes = notes_of (report_of stop refused) ++ mid.notes }) → mid ≡ start → IfCold stop (λ receipts. ⊥) → f1 ≡ f0 + faults stop
    → IfNoMemory stop (¬ AsksNoMemory (promises.steady × promises.lends) (after start.seen) (asked_for call))
    → IfFull stop (λ stripe. promises.steady → 0 < share promises.stripes stripe (made start.seen (operation_of start.watched (asked_for call))))
    → IsUndone promises [] (asked_of call) (fault_of stop) (know start f0) (know last f1)
stopped_by promises call stop.OutOfMemory refused start mid last f0 f1 entry is same cold failures memory full =
    let none : f1 ≡ f0 = omega (arith, failures) in
    undone_by promises call fault.OutOfMemory start mid last f0 f1 [] entry is (ap (λ (k : Knowledge). k.number) same) (ap (λ (k : Knowledge). k.seen) same)
    (ap (λ (k : Knowledge). k.mine) same) (ap (λ (k : Knowledge). k.watched) same) (ap (λ (k : Knowledge). k.notes) same) (memory, none, tt)
stopped_by promises call stop.DeviceFault refused start mid last f0 f1 entry is same cold failures memory full =
    undone_by promises call fault.DeviceFault start mid last f0 f1 [] entry is (ap (λ (k : Knowledge). k.number) same) (ap (λ (k : Knowledge). k.seen) same)
    (ap (λ (k : Knowledge). k.mine) same) (ap (λ (k : Knowledge). k.watched) same) (ap (λ (k : Knowledge). k.notes) same) (failures, tt)
stopped_by promises call (stop.StoreFull stripe) refused start mid last f0 f1 entry is same cold failures memory full =
    let none : f1 ≡ f0 = omega (arith, failures) in
    undone_by promises call fault.StoreFull start (record mid { notes = Full stripe refused ∷ mid.notes }) last f0 f1 (Full stripe refused ∷ []) entry is (ap (λ (k : Knowledge). k.number) same)
    (ap (λ (k : Knowledge). k.seen) same)
    (ap (λ (k : Knowledge). k.mine) same) (ap (λ (k : Knowledge). k.watched) same) (ap (λ (k : Knowledge). Full stripe refused ∷ k.notes) same)
    (record { stripe = stripe; refused = refused; earlier = []; full = refl; busy = tt; writes = full; failures = none })
stopped_by promises call (stop.Cold receipts) refused start mid last f0 f1 entry is same cold failures memory full = absurd cold

-- commits were worn out
pub was_worn : (promises : Promises) (call : Call) (start mid told later last : Knowledge) (f0 f1 : ℕ) → IsEntry call → last ≡ at_fault (asked_for call) later → later ≡ told → mid ≡ start
    → WasTold Worn mid told → f1 ≡ f0 → IsUndone promises [] (asked_of call) fault.CommitsWornOut (know start f0) (know last f1)
was_worn promises call start mid told later last f0 f1 entry is kept_is same worn failures =
    undone_by promises call fault.CommitsWornOut start later last f0 f1 (Worn ∷ []) entry is
    (ap (λ (k : Knowledge). k.number) kept_is ∙ worn.number ∙ ap (λ (k : Knowledge). k.number) same)
    (ap (λ (k : Knowledge). k.seen) kept_is ∙ worn.seen ∙ ap (λ (k : Knowledge). k.seen) same)
    (ap (λ (k : Knowledge). k.mine) kept_is ∙ worn.mine ∙ ap (λ (k : Knowledge). k.mine) same)
    (ap (λ (k : Knowledge). k.watched) kept_is ∙ worn.watched ∙ ap (λ (k : Knowledge). k.watched) same)
    (ap (λ (k : Knowledge). k.notes) kept_is ∙ worn.notes ∙ ap (λ (k : Knowledge). Worn ∷ k.notes) same)
    ([], refl, failures, tt)

-- where the answer is a fault, it is no reply, and what is said of the fault is said of the answer
pub no_reply : (a : Answer) (f : Fault) (P : Reply → Type 0) → a ≡ answer.Fault f → IfReply a P
no_reply a f P is = subst (λ (x : Answer). IfReply x P) (sym is) tt

pub this_fault : (a : Answer) (f : Fault) (P : Fault → Type 0) → a ≡ answer.Fault f → P f → IfFault a P
this_fault a f P is holds = subst (λ (x : Answer). IfFault x P) (sym is) holds
