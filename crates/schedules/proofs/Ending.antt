-- What is done behind a schedule's events, and its lines.
use Rattle.std.proofs.Common.{◌≡◌, ◌∙◌, ℕ, ◌+◌, ◌<◌, ◌≤◌, List, [], ◌∷◌, ◌++◌, length, refl, sym, ap, subst, arith, append_assoc, append-nil, length-append}
use Rattle.std.specs.Fmt.{decimal}
use Rattle.words.specs.declared.limits.Limits.{Limits}
use Rattle.words.specs.Store.{Bytes}
use Rattle.world_model.specs.declared.event.Event.{Event}
use Rattle.world_model.specs.Resting.{AreOfCalls, Finishes, IsAtRest, IsOfCall}
use Rattle.world_model.specs.States.{State, start}
use Rattle.world_model.specs.Told.{Headline}
use Rattle.world_model.specs.Turns.{Turn, Turns}
use Rattle.schedules.specs.declared.until.Until.{Until}
use Rattle.schedules.specs.declared.until.Until.TheVariants.{Done, Rest}
use Rattle.schedules.specs.Reports.{report_of}
use Rattle.schedules.specs.Runs.{AreTraced, HasEnded, HasGoneOn, IsReported}
use Rattle.schedules.specs.Schedules.{spaced, words_of}
use Rattle.schedules.specs.Traces.{IsTrace, RestsBy, effect_part, entry_added, event_part, said, trace_line}
use Rattle.world_model.specs.Enabled.{is_enabled}

-- EVENTS AND THEN MORE

turns_then : (before : State) (events more : List Event) (mid after : State) → Turns before events mid → Turns mid more after
    → Turns before (events ++ more) after
turns_then before [] more mid after first next = subst (λ (state : State). Turns state more after) first next
turns_then before (e ∷ events) more mid after first next = (first.0, first.1, turns_then first.0 events more mid after first.2 next)

pub trace_then : (number later : ℕ) (before mid after : State) (events more : List Event) (lines text : Bytes) → IsTrace number before events mid lines
    → later ≡ number + length events → IsTrace later mid more after text → IsTrace number before (events ++ more) after (lines ++ text)
trace_then number later before mid after [] more lines text first is next =
    let same : later ≡ number = is ∙ omega arith in
    subst (IsTrace number before more after) (ap (λ (l : Bytes). l ++ text) (sym first.1))
    (subst (λ (state : State). IsTrace number state more after text) first.0
    (subst (λ (n : ℕ). IsTrace n mid more after text) same next))
trace_then number later before mid after (e ∷ events) more lines text first is next = (
  first.0,
  first.1 ++ text,
  first.2,
  trace_then (number + 1) later first.0 mid after events more first.1 text first.3 (omega (arith, is)) next,
  ap (λ (l : Bytes). l ++ text) first.4 ∙ append_assoc (trace_line number e before first.0) first.1 text,
)

of_calls_then : (events more : List Event) → AreOfCalls events → AreOfCalls more → AreOfCalls (events ++ more)
of_calls_then [] more first next = next
of_calls_then (e ∷ events) more first next = (first.0, of_calls_then events more first.1 next)

line_some : (number : ℕ) (e : Event) (before after : State) → 1 ≤ length (trace_line number e before after)
line_some number e before after =
    let rest : Bytes = effect_part (is_enabled before e) (said e before after) (entry_added before after) in
    omega (
      arith,
      length-append (event_part number e) rest,
      length-append (decimal number) (32 ∷ spaced (words_of e)),
    )

-- there is a byte at least for each event
pub trace_some : (number : ℕ) (before after : State) (events : List Event) (lines : Bytes) → IsTrace number before events after lines
    → length events ≤ length lines
trace_some number before after [] lines is = omega arith
trace_some number before after (e ∷ events) lines is =
    omega (
      arith,
      ap (λ (l : Bytes). length l) is.4,
      length-append (trace_line number e before is.0) is.1,
      line_some number e before is.0,
      trace_some (number + 1) is.0 after events is.1 is.3,
    )

pub line_more : (number : ℕ) (e : Event) (before after : State) (old new : Bytes) → new ≡ old ++ trace_line number e before after
    → length old + 1 ≤ length new
line_more number e before after old new is =
    omega (arith, ap (λ (l : Bytes). length l) is, length-append old (trace_line number e before after), line_some number e before after)

-- REPORTS

pub reported : (until : Until) (limits : Limits) (events : List Event) (mid after : State) (report : Bytes)
    → Turns (start limits.stripes limits.clients limits.frames limits.places) events mid → HasEnded until mid after → Headline after
    → report ≡ report_of after → IsReported until limits events report
reported Done limits events mid after report turns ended headline told =
    (events, record { state = mid; turns = turns; headline = subst Headline ended headline; told = told ∙ ap report_of ended }, refl)
reported Rest limits events mid after report turns ended headline told = (
  events ++ ended.0,
  record {
    state = after;
    turns = turns_then (start limits.stripes limits.clients limits.frames limits.places) events ended.0 mid after turns ended.1.turns;
    headline = headline;
    told = told;
  },
  (ended.0, refl, ended.1.of_calls, ended.1.rest),
)

-- TRACES

-- so far: events of calls, whose lines were added
pub record GoesOn (first number : ℕ) (before now : State) (old lines : Bytes) : Type 0 where
  pub events : List Event
  pub text : Bytes
  pub of_calls : AreOfCalls events
  pub trace : IsTrace first before events now text
  pub added : lines ≡ old ++ text
  pub count : number ≡ first + length events

pub goes_none : (first : ℕ) (before : State) (old : Bytes) → GoesOn first first before before old old
goes_none first before old = record {
  events = [];
  text = [];
  of_calls = tt;
  trace = (refl, refl);
  added = sym (append-nil old);
  count = omega arith;
}

pub goes_more : (first number : ℕ) (before now next : State) (old lines new : Bytes) (e : Event) → GoesOn first number before now old lines
    → IsOfCall e → Turn now e next → new ≡ lines ++ trace_line number e now next → GoesOn first (number + 1) before next old new
goes_more first number before now next old lines new e so of turn line =
    let one : Bytes = trace_line number e now next in
    record {
      events = so.events ++ e ∷ [];
      text = so.text ++ one;
      of_calls = of_calls_then so.events (e ∷ []) so.of_calls (of, tt);
      trace =
          trace_then first number before now next so.events (e ∷ []) so.text one so.trace so.count
          (next, [], turn, (refl, refl), sym (append-nil one));
      added = line ∙ ap (λ (l : Bytes). l ++ one) so.added ∙ append_assoc old so.text one;
      count = omega (arith, so.count, length-append so.events (e ∷ []));
    }

pub goes_rest : (first number : ℕ) (before after : State) (old lines : Bytes) → GoesOn first number before after old lines
    → ((c : ℕ) → c < length after.clients → IsAtRest after c) → RestsBy first before after old lines
goes_rest first number before after old lines so rest = record {
  events = so.events;
  lines = so.text;
  of_calls = so.of_calls;
  trace = so.trace;
  added = so.added;
  rest = rest;
}

pub all_traced : (until : Until) (limits : Limits) (events : List Event) (first : ℕ) (mid after : State) (lines more all : Bytes)
    → IsTrace 2 (start limits.stripes limits.clients limits.frames limits.places) events mid lines → first ≡ length events + 2
    → HasGoneOn until first mid after lines more → Headline after → all ≡ more ++ report_of after → AreTraced until limits events all
all_traced Done limits events first mid after lines more all trace is gone headline told = (
  events,
  record {
    state = mid;
    lines = lines;
    trace = trace;
    headline = subst Headline gone.0 headline;
    told = told ∙ ap (λ (l : Bytes). l ++ report_of after) gone.1 ∙ ap (λ (state : State). lines ++ report_of state) gone.0;
  },
  refl,
)
all_traced Rest limits events first mid after lines more all trace is gone headline told = (
  events ++ gone.events,
  record {
    state = after;
    lines = lines ++ gone.lines;
    trace =
        trace_then 2 first (start limits.stripes limits.clients limits.frames limits.places) mid after events gone.events lines gone.lines trace
        (omega (arith, is)) gone.trace;
    headline = headline;
    told = told ∙ ap (λ (l : Bytes). l ++ report_of after) gone.added;
  },
  (gone.events, refl, gone.of_calls, gone.rest),
)
