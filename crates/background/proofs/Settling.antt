-- What is told of a step of the cleaner, and what its pass and its seat then know.
use Rattle.std.proofs.Common.{◌≡◌, ◌∙◌, ◌+◌, ℕ, zero, suc, Bool, true, false, Some, List, [], ◌∷◌, ◌++◌, Result, Ok, Err, IfOk, IfErr, OnOk, None, append_assoc, refl, sym, ap, subst, cond}
use Rattle.std.specs.Prelude.{⊤}
use Rattle.std.proofs.lemmas.Bool.{le-ltb}
use Rattle.epoch.specs.declared.view.View.{View}
use Rattle.epoch.specs.declared.view.Note.{Note}
use Rattle.epoch.specs.declared.view.Note.TheVariants.{Worn}
use Rattle.epoch.specs.declared.epochs.Epochs.{Epochs}
use Rattle.epoch.specs.declared.epochs.EpochSeat.{EpochSeat}
use Rattle.epoch.specs.Seats.{WasWorn, known}
use Rattle.words.specs.Store.{Bytes}
use Rattle.words.specs.declared.reply.Fault.{Fault}
use Rattle.words.specs.declared.reply.Fault.TheVariants as fault
use Rattle.gates.specs.declared.view.Knowledge.{Knowledge}
use Rattle.gates.specs.declared.view.Note.TheVariants as note
use Rattle.gates.specs.declared.view.Work.TheVariants.{Clean}
use Rattle.gates.specs.declared.view.Refused.{Refused}
use Rattle.gates.specs.Background.{AreRefused, IsIdle, IsSpent, IsStep, IsToldOf, notes_of}
use Rattle.gates.specs.Pages.{IsFull, Pages}
use Rattle.gates.specs.Passes.{Learned, ToldBusy}
use Rattle.gates.specs.Plays.{kept}
use Rattle.gates.specs.Sets.{part_at}
use Rattle.hybrid.specs.HybridLog.{HybridLog, receipt_at, receipt_of}
use Rattle.hybrid.specs.Staging.{IsMissing, StagedPage}
use Rattle.shards.specs.declared.cleaning.Stepped.{Stepped}
use Rattle.shards.specs.declared.cleaning.Stepped.TheVariants as stepped
use Rattle.shards.specs.declared.shard.Shard.{Shard}
use Rattle.shards.specs.Cleaning.{MatchFault, MatchStepped}
use Rattle.shards.specs.Flushing.{MatchUnflushed}
use Rattle.shards.specs.declared.flushing.Unflushed.{Unflushed}
use Rattle.shards.specs.declared.flushing.Unflushed.TheVariants as unflushed
use Rattle.shards.specs.Shards.{shard_meaning, shard_pages}
use Rattle.background.specs.declared.clean.Round.{Round}
use Rattle.background.specs.declared.clean.Round.TheVariants as round
use Rattle.shards.specs.Heard.{HasHeard, HasHeardWorn, HasTried, HasTriedOutside, worn_times}
use Rattle.background.specs.declared.written.Written.{Written}
use Rattle.background.specs.Steps.{HasHeardOutside, MayTell}
use Rattle.background.specs.Visits.{HasCleaned, HasLooked, MatchRound, Visited, WasFull, none_refused, report_for, round_for}
use Rattle.background.proofs.Visiting.{visited, visited_twice}

-- what holds of what was made holds in another form
pub ok_as : {A E : Type 0} (r : Result A E) (P Q : A → Type 0) → ((x : A) → P x → Q x) → IfOk r P → IfOk r Q
ok_as (Ok x) P Q to p = to x p
ok_as (Err e) P Q to p = tt

-- and so does what holds of the page that is wanted
pub cold_as : (came : Result Stepped Fault) (P Q : ℕ → Type 0) → ((number : ℕ) → P number → Q number) → IfOk came (λ step. MatchStepped step ⊤ (λ refused. ⊤) (λ refused. ⊤) P)
    → IfOk came (λ step. MatchStepped step ⊤ (λ refused. ⊤) (λ refused. ⊤) Q)
cold_as (Ok stepped.Done) P Q to p = tt
cold_as (Ok (stepped.Idle refused)) P Q to p = tt
cold_as (Ok (stepped.Full refused)) P Q to p = tt
cold_as (Ok (stepped.Cold number)) P Q to p = to number p
cold_as (Err fault) P Q to p = tt

-- what a step came to may be told
pub may_tell : (came : Result Stepped Fault) (was now : Pages)
    → IfOk came (λ step. MatchStepped step ((refused : Refused) → IsStep (Clean refused) was now) (λ refused. IsIdle (Clean refused) now × AreRefused (Clean refused) was now) (λ refused. IsFull now × IsSpent refused was now) (λ number. ⊤))
    → MayTell came was now
may_tell (Ok stepped.Done) was now step = step
may_tell (Ok (stepped.Idle refused)) was now step = step
may_tell (Ok (stepped.Full refused)) was now step = step
may_tell (Ok (stepped.Cold number)) was now step = tt
may_tell (Err fault.OutOfMemory) was now step = tt
may_tell (Err fault.DeviceFault) was now step = tt
may_tell (Err fault.StoreFull) was now step = tt
may_tell (Err fault.CommitsWornOut) was now step = tt

-- by why a page was not written
pub unflushed_as : (r : Result Bool Unflushed) (D E : Type 0) (P Q : Refused → Type 0) → (D → E) → ((refused : Refused) → P refused → Q refused) → IfErr r (λ fault. MatchUnflushed fault D P) → IfErr r (λ fault. MatchUnflushed fault E Q)
unflushed_as (Ok done) D E P Q one two is = tt
unflushed_as (Err unflushed.DeviceFault) D E P Q one two is = one is
unflushed_as (Err (unflushed.Full refused)) D E P Q one two is = two refused is

-- what was made is this
pub ok_is : {A E : Type 0} (r : Result A E) (x y : A) → r ≡ Ok x → x ≡ y → r ≡ Ok y
ok_is {A} {E} r x y is same = subst (λ (z : A). r ≡ Ok z) same is

-- the page that is wanted
pub cold_is : (came : Result Stepped Fault) (number : ℕ) (P : ℕ → Type 0) → came ≡ Ok (stepped.Cold number) → IfOk came (λ step. MatchStepped step ⊤ (λ refused. ⊤) (λ refused. ⊤) P) → P number
cold_is came number P is p = subst (λ (r : Result Stepped Fault). IfOk r (λ step. MatchStepped step ⊤ (λ refused. ⊤) (λ refused. ⊤) P)) is p

-- what was not refused
pub on_ok_is : (came : Result Stepped Fault) (step : Stepped) (P : Type 0) → came ≡ Ok step → OnOk came P → P
on_ok_is came step P is p = subst (λ (r : Result Stepped Fault). OnOk r P) is p

-- by what a round came to
pub round_is : (came other : Result Round Fault) (ended : Result Bool Fault → Type 0) (again : Type 0) → came ≡ other → MatchRound came ended again → MatchRound other ended again
round_is came other ended again is matched = subst (λ (r : Result Round Fault). MatchRound r ended again) is matched

-- what a step came to may be told of its part
pub may_be_told : {R : Type 0} (trusted : Type 0) (stripe : ℕ) (came : Result Stepped Fault) (took : List (ℕ × (ℕ × Shard R))) (parts : List (ℕ × Shard R)) (old new : Shard R) (moment : ℕ)
    → part_at took stripe ≡ Some (moment, old) → part_at parts stripe ≡ Some new → MayTell came (shard_pages old) (shard_pages new) → IsToldOf (shard_meaning trusted) took parts (report_for stripe came)
may_be_told trusted stripe (Ok stepped.Done) took parts old new moment was is may = record { part = new; there = is; is = ((moment, old), was, may none_refused) }
may_be_told trusted stripe (Ok (stepped.Idle refused)) took parts old new moment was is may = record { part = new; there = is; is = (may.0, (moment, old), was, may.1) }
may_be_told trusted stripe (Ok (stepped.Full refused)) took parts old new moment was is may = record { part = new; there = is; is = (may.0, (moment, old), was, may.1) }
may_be_told trusted stripe (Ok (stepped.Cold number)) took parts old new moment was is may = tt
may_be_told trusted stripe (Err fault.StoreFull) took parts old new moment was is may = tt
may_be_told trusted stripe (Err fault.DeviceFault) took parts old new moment was is may = tt
may_be_told trusted stripe (Err fault.OutOfMemory) took parts old new moment was is may = tt
may_be_told trusted stripe (Err fault.CommitsWornOut) took parts old new moment was is may = tt

-- what a seat was told before it tried stands
abbrev worn_list : ℕ → List Note
worn_list zero = []
worn_list (suc n) = Worn ∷ worn_list n

worn_is : (n : ℕ) (notes : List Note) → worn_times n notes ≡ worn_list n ++ notes
worn_is zero notes = refl
worn_is (suc n) notes = ap (λ (l : List Note). Worn ∷ l) (worn_is n notes)

pub heard_by : (before later : View) → HasTried before later → HasHeard before later
heard_by before later tried = record { more = worn_list tried.times; notes = tried.notes ∙ worn_is tried.times before.notes }

pub heard_outside : (epochs : Epochs) (before later : EpochSeat) → HasTriedOutside epochs before later → HasHeardOutside epochs before later
heard_outside epochs before later tried = record { outside = tried.outside; heard = heard_by (known before) (known later) tried.tried }

-- a receipt that is to land again shows what it showed
pub shown_again : {R : Type 0} (again written : Written R) (shown : R → Bytes) → again ≡ written → shown written.receipt ≡ written.page.now → shown again.receipt ≡ again.page.now
shown_again {R} again written shown same was = subst (λ (w : Written R). shown w.receipt ≡ w.page.now) (sym same) was

worn_by : (before later : View) → WasWorn before later → HasHeardWorn before later
worn_by before later worn = record { more = []; notes = worn.notes }

pub heard_both : (one two three : View) → HasHeard one two → HasHeard two three → HasHeard one three
heard_both one two three first second = record {
  more = second.more ++ first.more;
  notes = second.notes ∙ ap (λ (l : List Note). second.more ++ l) first.notes ∙ sym (append_assoc second.more first.more one.notes);
}

pub worn_later : (one two three : View) → HasHeard one two → HasHeardWorn two three → HasHeardWorn one three
worn_later one two three first second = record {
  more = second.more ++ first.more;
  notes = second.notes ∙ ap (λ (l : List Note). Worn ∷ (second.more ++ l)) first.notes ∙ ap (λ (l : List Note). Worn ∷ l) (sym (append_assoc second.more first.more one.notes));
}

-- what a round comes to whose step came to this
pub settled : (lends : Type 0) (stripes : List ℕ) (stripe : ℕ) (came : Result Stepped Fault) (reads : Bool) (f0 f1 : ℕ) (before held later : Knowledge) (u v : View) → Learned before held
    → ToldBusy stripes before held → later ≡ kept false (notes_of (report_for stripe came)) held → IfErr came (λ fault. MatchFault fault ((lends → ⊥) × (f1 ≡ f0)) (f1 ≡ f0 + 1) ⊥) → OnOk came (f1 ≡ f0)
    → IfOk came (λ step. MatchStepped step ⊤ (λ refused. refused.retire ≡ true → WasWorn u v) (λ refused. refused.retire ≡ true → HasHeardWorn u v) (λ number. ⊤)) → IfOk came (λ step. MatchStepped step ⊤ (λ refused. ⊤) (λ refused. ⊤) (λ number. (reads ≡ false) × (lends → ⊥)))
    → HasTried u v
    → MatchRound (round_for came) (λ ended. HasCleaned lends stripes stripe ended f0 f1 before later u v) ((reads ≡ false) × HasLooked stripes f0 f1 before later u v)
settled lends stripes stripe (Ok stepped.Done) reads f0 f1 before held later u v learned busy is failed fine worn cold tried =
    (fine, none_refused, visited stripes (note.Done stripe (Clean none_refused) ∷ []) before held later learned busy is)
settled lends stripes stripe (Ok (stepped.Idle refused)) reads f0 f1 before held later u v learned busy is failed fine worn cold tried =
    (fine, refused, visited stripes (note.Idle stripe (Clean refused) ∷ []) before held later learned busy is, λ retire. worn_by u v (worn retire))
settled lends stripes stripe (Ok (stepped.Full refused)) reads f0 f1 before held later u v learned busy is failed fine worn cold tried =
    (fine, record { refused = refused; visited = visited stripes (note.Full stripe refused ∷ []) before held later learned busy is; worn = worn })
settled lends stripes stripe (Ok (stepped.Cold number)) reads f0 f1 before held later u v learned busy is failed fine worn cold tried =
    (cold.0, record { failures = fine; visited = visited stripes [] before held later learned busy is; heard_more = heard_by u v tried })
settled lends stripes stripe (Err fault.StoreFull) reads f0 f1 before held later u v learned busy is failed fine worn cold tried = absurd failed
settled lends stripes stripe (Err fault.DeviceFault) reads f0 f1 before held later u v learned busy is failed fine worn cold tried =
    (failed, visited stripes [] before held later learned busy is)
settled lends stripes stripe (Err fault.OutOfMemory) reads f0 f1 before held later u v learned busy is failed fine worn cold tried =
    (failed.0, failed.1, visited stripes [] before held later learned busy is)
settled lends stripes stripe (Err fault.CommitsWornOut) reads f0 f1 before held later u v learned busy is failed fine worn cold tried = failed

-- a seat that tried, and then had a stay
pub looked_outside : (lends : Type 0) (stripes : List ℕ) (stripe : ℕ) (read : Result Round Fault) (reads : Bool) (f0 f1 f2 : ℕ) (before held later : Knowledge) (u v inside w : View) → Learned before held
    → ToldBusy stripes before held → later ≡ kept false [] held → f1 ≡ f0 → reads ≡ false → (lends → ⊥) → HasTried u v → inside.notes ≡ v.notes → w.notes ≡ inside.notes → IfOk read (λ came. came ≡ round.Again)
    → IfErr read (λ fault. MatchFault fault (f2 ≡ f1) (f2 ≡ f1 + 1) ⊥) → OnOk read (f2 ≡ f1)
    → MatchRound read (λ ended. HasCleaned lends stripes stripe ended f0 f2 before later u w) ((reads ≡ false) × HasLooked stripes f0 f2 before later u w)
looked_outside lends stripes stripe (Ok (round.Ended done)) reads f0 f1 f2 before held later u v inside w learned busy is same outside unlent tried enters leaves again failed fine = absurd (cc again)
looked_outside lends stripes stripe (Ok round.Again) reads f0 f1 f2 before held later u v inside w learned busy is same outside unlent tried enters leaves again failed fine = (
  outside,
  record {
    failures = fine ∙ same;
    visited = visited stripes [] before held later learned busy is;
    heard_more = heard_both u v w (heard_by u v tried) (record { more = []; notes = leaves ∙ enters });
  },
)
looked_outside lends stripes stripe (Err fault.StoreFull) reads f0 f1 f2 before held later u v inside w learned busy is same outside unlent tried enters leaves again failed fine = absurd failed
looked_outside lends stripes stripe (Err fault.DeviceFault) reads f0 f1 f2 before held later u v inside w learned busy is same outside unlent tried enters leaves again failed fine =
    (failed ∙ ap (λ (n : ℕ). n + 1) same, visited stripes [] before held later learned busy is)
looked_outside lends stripes stripe (Err fault.OutOfMemory) reads f0 f1 f2 before held later u v inside w learned busy is same outside unlent tried enters leaves again failed fine =
    (unlent, failed ∙ same, visited stripes [] before held later learned busy is)
looked_outside lends stripes stripe (Err fault.CommitsWornOut) reads f0 f1 f2 before held later u v inside w learned busy is same outside unlent tried enters leaves again failed fine = failed

-- a visit that told nothing, and then the store was full
pub full_later : (stripes : List ℕ) (stripe : ℕ) (a b c : Knowledge) (u v w : View) → Visited stripes [] a b → HasHeard u v → WasFull stripes stripe b c v w → WasFull stripes stripe a c u w
full_later stripes stripe a b c u v w first heard full = record {
  refused = full.refused;
  visited = visited_twice stripes (note.Full stripe full.refused ∷ []) a b c first full.visited;
  worn = λ retire. worn_later u v w heard (full.worn retire);
}

-- a look that told nothing, and then a round that ended
pub cleaned_later : (lends : Type 0) (stripes : List ℕ) (stripe : ℕ) (ended : Result Bool Fault) (f0 f1 f2 : ℕ) (a b c : Knowledge) (u v w : View) → HasLooked stripes f0 f1 a b u v
    → HasCleaned lends stripes stripe ended f1 f2 b c v w → HasCleaned lends stripes stripe ended f0 f2 a c u w
cleaned_later lends stripes stripe (Ok true) f0 f1 f2 a b c u v w looked cleaned =
    (cleaned.0 ∙ looked.failures, cleaned.1, visited_twice stripes (note.Done stripe (Clean cleaned.1) ∷ []) a b c looked.visited cleaned.2)
cleaned_later lends stripes stripe (Ok false) f0 f1 f2 a b c u v w looked cleaned = (
  cleaned.0 ∙ looked.failures,
  cleaned.1,
  visited_twice stripes (note.Idle stripe (Clean cleaned.1) ∷ []) a b c looked.visited cleaned.2,
  λ retire. worn_later u v w looked.heard_more (cleaned.3 retire),
)
cleaned_later lends stripes stripe (Err fault.StoreFull) f0 f1 f2 a b c u v w looked cleaned =
    (cleaned.0 ∙ looked.failures, full_later stripes stripe a b c u v w looked.visited looked.heard_more cleaned.1)
cleaned_later lends stripes stripe (Err fault.DeviceFault) f0 f1 f2 a b c u v w looked cleaned =
    (cleaned.0 ∙ ap (λ (n : ℕ). n + 1) looked.failures, visited_twice stripes [] a b c looked.visited cleaned.1)
cleaned_later lends stripes stripe (Err fault.OutOfMemory) f0 f1 f2 a b c u v w looked cleaned =
    (cleaned.0, cleaned.1 ∙ looked.failures, visited_twice stripes [] a b c looked.visited cleaned.2)
cleaned_later lends stripes stripe (Err fault.CommitsWornOut) f0 f1 f2 a b c u v w looked cleaned = cleaned

-- two looks that told nothing
pub looked_twice : (stripes : List ℕ) (f0 f1 f2 : ℕ) (a b c : Knowledge) (u v w : View) → HasLooked stripes f0 f1 a b u v → HasLooked stripes f1 f2 b c v w → HasLooked stripes f0 f2 a c u w
looked_twice stripes f0 f1 f2 a b c u v w one two = record {
  failures = two.failures ∙ one.failures;
  visited = visited_twice stripes [] a b c one.visited two.visited;
  heard_more = heard_both u v w one.heard_more two.heard_more;
}

-- before the first look
pub looked_never : (stripes : List ℕ) (f : ℕ) (a : Knowledge) (u : View) → HasLooked stripes f f a a u u
looked_never stripes f a u = record {
  failures = refl;
  visited = record { number = refl; mine = refl; watched = refl; seen = ([], refl); busy = ([], refl, tt) };
  heard_more = record { more = []; notes = refl };
}

-- the receipt that is kept of a page that is missing
pub kept_of : (log : HybridLog) (staged : List StagedPage) (number : ℕ) (missing : IsMissing log staged number) → receipt_at log number ≡ Some missing.kept
kept_of log staged number missing = ap (λ t. cond t None (receipt_of log number)) (le-ltb number log.oldest missing.live) ∙ missing.has

-- a step that reads wants no page
pub never_again : (lends : Type 0) (came : Result Stepped Fault) → IfOk came (λ step. MatchStepped step ⊤ (λ refused. ⊤) (λ refused. ⊤) (λ number. (true ≡ false) × (lends → ⊥))) → round_for came ≡ Ok round.Again → ⊥
never_again lends (Ok stepped.Done) cold is = cc is
never_again lends (Ok (stepped.Idle refused)) cold is = cc is
never_again lends (Ok (stepped.Full refused)) cold is = cc is
never_again lends (Ok (stepped.Cold number)) cold is = cc cold.0
never_again lends (Err fault) cold is = cc is
