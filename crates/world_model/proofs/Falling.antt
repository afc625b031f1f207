-- Each enabled event of a call lowers the number of the events that are left.
use Rattle.std.proofs.Common.{◌≡◌, ◌≢◌, ◌⊎◌, ℕ, zero, suc, ◌+◌, ◌-◌, ◌*◌, ◌<◌, ◌≤◌, Bool, true, false, ◌&&◌, ◌||◌, not, cond, List, [], ◌∷◌, ◌++◌, length, get_or, set, Option, Some, None, is_none, is_some, refl, sym, ap, ◌∙◌, subst, inl, inr, arith, length-set, length-append, eq-eqb, add-mul, one-mul, le_refl}
use Rattle.std.proofs.lemmas.Bool.{ltb-true}
use Rattle.std.proofs.lemmas.List.{get_or-set_same}
use Rattle.std.proofs.lemmas.Nat.{mul-le}
use Rattle.words.specs.Store.{Bytes, Write}
use Rattle.words.specs.Spelling.{spelling, header}
use Rattle.words.specs.Encoding.{encoding}
use Rattle.words.specs.History.{Pair}
use Rattle.words.specs.Session.{Asked}
use Rattle.connection.specs.Clients.{Progress, TakesOff}
use Rattle.world_model.specs.declared.event.Event.{Event}
use Rattle.world_model.specs.declared.event.Event.TheVariants.{Take, Commit, Give, Fetch}
use Rattle.world_model.specs.States.{Phase, Serving, Calling, Leaving, Left, Ended, Due, ClientState, State, fresh, client, stripe_count, open_call, with_client}
use Rattle.world_model.specs.Enabled.{is_number, holds, holds_none, are_none, next_stripe, is_enabled, is_enabled_for, is_enabled_of}
use Rattle.world_model.specs.Advancing.{When, Goes, is_idle, Pauses, Waits, Finishes, Quits, Fails, Opens, Answers, Here, Says, Advances, leave_for}
use Rattle.world_model.specs.Planning.{ROUNDS, Plans, Names, MakesRoom, MeetsFull, PlansFor, asked_by, stay_begun, taken, Takes}
use Rattle.world_model.specs.Effects.{Does, fetched, given}
use Rattle.world_model.specs.Turns.{DoesAndGoes, Turn}
use Rattle.world_model.specs.Soundness.{ReadsFor, IsSound}
use Rattle.world_model.specs.Resting.{IsOrderly, IsOfCall, count_held, in_round, left_of_call, most_of_call, left_by, left_of, left_of_all, events_left}
use Rattle.world_model.proofs.Holding.{when_cases, both, none_is, apart_eqb, held_by_one, not_true}
use Rattle.world_model.proofs.Else.{IsElse, steps_else}
use Rattle.world_model.proofs.Ordering.{HasCommitted, IsCommitted, commits_to, does_below, given_clients, is_next, next_open, next_within, not_both}

-- HOW MANY STRIPES A CLIENT HOLDS

abbrev bit : Bool → ℕ
bit t = cond t 1 0

abbrev hit : ℕ → Option ℕ → ℕ
hit c holder = cond (is_number c holder) 1 0

at_most_one : (t : Bool) → cond t 1 0 ≤ 1
at_most_one true = omega arith
at_most_one false = omega arith

count_most : (c : ℕ) (holders : List (Option ℕ)) → count_held c holders ≤ length holders
count_most c [] = omega arith
count_most c (holder ∷ holders) = omega (arith, at_most_one (is_number c holder), count_most c holders)

count_none : (c : ℕ) (holders : List (Option ℕ)) → holds_none c holders ≡ true → count_held c holders ≡ 0
count_none c [] none = refl
count_none c (holder ∷ holders) none =
    let is = both (not (is_number c holder)) (holds_none c holders) none in
    omega (arith, ap bit (not_true (is_number c holder) is.0), count_none c holders is.1)

-- a stripe gets another holder
counted : (holders : List (Option ℕ)) (i c : ℕ) (holder : Option ℕ) → i < length holders
    → count_held c (set holders i holder) + cond (is_number c (get_or holders i None)) 1 0 ≡ count_held c holders + cond (is_number c holder) 1 0
counted [] i c holder below = absurd (omega (arith, below))
counted (first ∷ holders) zero c holder below = omega arith
counted (first ∷ holders) (suc i) c holder below = omega (arith, counted holders i c holder (omega (arith, below)))

-- a client that neither held it nor holds it
count_same : (holders : List (Option ℕ)) (i c : ℕ) (holder : Option ℕ) → i < length holders → is_number c (get_or holders i None) ≡ false
    → is_number c holder ≡ false → count_held c (set holders i holder) ≡ count_held c holders
count_same holders i c holder below was is =
    omega (
      arith,
      counted holders i c holder below,
      ap bit was,
      ap bit is,
    )

-- one that takes it, or gives it back
count_more : (holders : List (Option ℕ)) (i c : ℕ) → i < length holders → get_or holders i None ≡ None
    → count_held c (set holders i (Some c)) ≡ count_held c holders + 1
count_more holders i c below free =
    omega (
      arith,
      counted holders i c (Some c) below,
      ap (hit c) free,
      ap bit (eq-eqb c c refl),
    )

count_less : (holders : List (Option ℕ)) (i c : ℕ) → i < length holders → holds holders c i ≡ true
    → count_held c holders ≡ count_held c (set holders i None) + 1
count_less holders i c below held =
    omega (arith, counted holders i c None below, ap bit held)

held_within : (holders : List (Option ℕ)) (c i : ℕ) → holds holders c i ≡ true → i < length holders
held_within [] c i is = absurd (cc is)
held_within (first ∷ holders) c zero is = omega arith
held_within (first ∷ holders) c (suc i) is = omega (arith, held_within holders c i is)

-- ALL CLIENTS

all_same : (n : ℕ) (holders later : List (Option ℕ)) (first : ℕ) (clients : List ClientState)
    → ((d : ℕ) → first ≤ d → count_held d later ≡ count_held d holders) → left_of_all n later first clients ≡ left_of_all n holders first clients
all_same n holders later first [] same = refl
all_same n holders later first (one ∷ others) same =
    omega (
      arith,
      ap (λ (h : ℕ). left_of n h one) (same first (omega arith)),
      all_same n holders later (first + 1) others (λ d above. same d (omega (arith, above))),
    )

all_changed : (n : ℕ) (holders later : List (Option ℕ)) (first c m : ℕ) (clients : List ClientState) (new : ClientState) → m ≡ first + c
    → c < length clients → ((d : ℕ) → d ≢ m → count_held d later ≡ count_held d holders)
    → left_of_all n later first (set clients c new) + left_of n (count_held m holders) (get_or clients c fresh)
    ≡ left_of_all n holders first clients + left_of n (count_held m later) new
all_changed n holders later first c m [] new is below same = absurd (omega (arith, below))
all_changed n holders later first zero m (one ∷ others) new is below same =
    let here : first ≡ m = omega (arith, is) in
    let more = all_same n holders later (first + 1) others (λ d above. same d (λ e. omega (arith, e, above, here))) in
    subst (λ (k : ℕ). (left_of n (count_held first later) new + left_of_all n later (first + 1) others) + left_of n (count_held k holders) one
    ≡ (left_of n (count_held first holders) one + left_of_all n holders (first + 1) others) + left_of n (count_held k later) new)
    here (omega (arith, more))
all_changed n holders later first (suc c) m (one ∷ others) new is below same =
    omega (
      arith,
      ap (λ (h : ℕ). left_of n h one) (same first (λ e. omega (arith, e, is))),
      all_changed n holders later (first + 1) c m others new (omega (arith, is)) (omega (arith, below)) same,
    )

-- One client is set, and no other holds more stripes or fewer.
stepped : (before after : State) (c n : ℕ) (new : ClientState) → c < length before.clients → stripe_count before ≡ n → stripe_count after ≡ n
    → after.clients ≡ set before.clients c new
    → ((d : ℕ) → d ≢ c → count_held d after.holders ≡ count_held d before.holders)
    → events_left after + left_of n (count_held c before.holders) (client before c)
    ≡ events_left before + left_of n (count_held c after.holders) new
unfolding events_left
stepped before after c n new below was is clients others =
    ap (λ (k : ℕ). left_of_all k after.holders 0 after.clients + left_of n (count_held c before.holders) (client before c)) is
    ∙ ap (λ (all : List ClientState). left_of_all n after.holders 0 all + left_of n (count_held c before.holders) (client before c)) clients
    ∙ all_changed n before.holders after.holders 0 c c before.clients new (omega arith) below others
    ∙ ap (λ (k : ℕ). left_of_all k before.holders 0 before.clients + left_of n (count_held c after.holders) new) (sym was)

-- nothing has changed of clients and holders
else_left : (old new : State) → IsElse old new → events_left new ≡ events_left old
unfolding events_left
else_left old new is =
    ap (λ (all : List ClientState). left_of_all (stripe_count new) new.holders 0 all) is.clients
    ∙ ap (λ (all : List (Option ℕ)). left_of_all (length all) all 0 old.clients) is.holders

-- A TAKE

left_taken : (phase : Phase) (n h later f : ℕ) (t : Bool) → is_some (open_call phase) ≡ true → t ≡ true → later ≡ h + 1 → h < n
    → left_by phase n later t f < left_by phase n h t f
left_taken (Serving at) n h later f t opened none more few = cc opened
left_taken (Calling at call) n h later f t opened none more few =
    subst (λ (k : Bool). left_by (Calling at call) n later k f < left_by (Calling at call) n h k f) (sym none) (omega (arith, more, few))
left_taken (Leaving keys) n h later f t opened none more few = omega (arith, more, few)
left_taken Left n h later f t opened none more few = cc opened
left_taken Ended n h later f t opened none more few = cc opened

-- a round more than the last
round_more : (f k : ℕ) → f < ROUNDS → (ROUNDS - f) * k ≡ ((ROUNDS - f) - 1) * k + k
round_more f k few =
    let one : ROUNDS - f ≡ ((ROUNDS - f) - 1) + 1 = omega (arith, few) in
    ap (λ (r : ℕ). r * k) one ∙ add-mul ((ROUNDS - f) - 1) 1 k ∙ ap (λ (p : ℕ). ((ROUNDS - f) - 1) * k + p) (one-mul k)

left_named : (phase : Phase) (n h later f : ℕ) (t due : Bool) → is_some (open_call phase) ≡ true → t ≡ true → due ≡ false → f < ROUNDS
    → later ≡ h + 1 → h < n → left_by phase n later due f < left_by phase n h t f
left_named (Serving at) n h later f t due opened none some few more below = cc opened
left_named (Calling at call) n h later f t due opened none some few more below =
    let u : ℕ = length at.unread * most_of_call n in
    let k : ℕ = in_round n in
    let less : ((ROUNDS - f) - 1) * k + ((later + 1) + k) < (ROUNDS - f) * k + ((n - h) + (n + 1)) =
    subst (λ (p : ℕ). ((ROUNDS - f) - 1) * k + ((later + 1) + k) < p + ((n - h) + (n + 1))) (sym (round_more f k few))
    (under (((ROUNDS - f) - 1) * k) n h later more below) in
    rw (none, some) (omega (arith, less))
  where
    under : (q n h later : ℕ) → later ≡ h + 1 → h < n → q + ((later + 1) + (2 * n + 1)) < (q + (2 * n + 1)) + ((n - h) + (n + 1))
    under q n h later more below = omega (arith, more, below)
left_named (Leaving keys) n h later f t due opened none some few more below = omega (arith, more, below)
left_named Left n h later f t due opened none some few more below = cc opened
left_named Ended n h later f t due opened none some few more below = cc opened

-- What a plan changes: nothing of this; or receipts are due.
abbrev Planned : (c n : ℕ) → (mid after : State) → Type 0
Planned c n mid after =
    (events_left after ≡ events_left mid)
    ⊎ ((due : List Due) × (are_none due ≡ false) × ((client mid c).fetched < ROUNDS)
    × (events_left after + left_of n (count_held c mid.holders) (client mid c)
    ≡ events_left mid + left_of n (count_held c mid.holders) (record (client mid c) { due = due })))

plan_left : (c n : ℕ) (mid : State) (watches : List Pair) (asks : Option Asked) (after : State) → c < length mid.clients → stripe_count mid ≡ n
    → PlansFor mid c watches asks after → Planned c n mid after
plan_left c n mid watches None after below count plans = inl (ap events_left plans)
plan_left c n mid watches (Some asked) after below count plans = by_plan plans
  where
    by_plan : {writes : List Write} {new : State} → Plans mid c writes new → Planned c n mid new
    by_plan (Names due some few cold) =
        let new : ClientState = record (client mid c) { due = due } in
        inr (due, some, few, stepped mid (with_client mid c new) c n new below count count refl (λ d differ. refl))
    by_plan (MakesRoom stripes new written steps) = inl (else_left mid new (steps_else mid stripes new steps))
    by_plan (MeetsFull stripes later i written steps is full) =
        let same = steps_else mid stripes later steps in
        let new : ClientState = record (client later c) { full = true } in
        let there : c < length later.clients = subst (λ (all : List ClientState). c < length all) (sym same.clients) below in
        let holds : stripe_count later ≡ n = ap (λ (all : List (Option ℕ)). length all) same.holders ∙ count in
        let moved = stepped later (with_client later c new) c n new there holds holds refl (λ d differ. refl) in
        inl (omega (arith, moved, else_left mid later same))

taken_left : (before : State) (c i : ℕ) → c < length before.clients → i < stripe_count before → get_or before.holders i None ≡ None
    → events_left (taken before c (client before c) i) + left_of (stripe_count before) (count_held c before.holders) (client before c)
    ≡ events_left before + left_of (stripe_count before) (count_held c (set before.holders i (Some c))) (client before c)
taken_left before c i below within free =
    let peer : ClientState = client before c in
    stepped before (taken before c peer i) c (stripe_count before) (record peer { stay = stay_begun peer.stay before.epoch }) below refl
    (length-set before.holders i (Some c)) refl
    (λ d differ. count_same before.holders i d (Some c) within (ap (is_number d) free) (apart_eqb c d (λ e. differ (sym e))))

takes_falls : (before : State) (c i : ℕ) (after : State) → c < length before.clients → get_or before.holders i None ≡ None
    → next_stripe before c (open_call (client before c).phase) ≡ Some i → are_none (client before c).due ≡ true → IsOrderly before
    → Takes before c (client before c) i after → events_left after < events_left before
takes_falls before c i after below free next none order takes =
    let peer : ClientState = client before c in
    let n : ℕ = stripe_count before in
    let h : ℕ = count_held c before.holders in
    let later : List (Option ℕ) = set before.holders i (Some c) in
    let mid : State = taken before c peer i in
    let new : ClientState = record peer { stay = stay_begun peer.stay before.epoch } in
    let within : i < n = next_within before c (open_call peer.phase) i order.some next in
    let opened : is_some (open_call peer.phase) ≡ true = next_open before c (open_call peer.phase) i next in
    let count : stripe_count mid ≡ n = length-set before.holders i (Some c) in
    let more : count_held c later ≡ h + 1 = count_more before.holders i c within free in
    let few : h < n = omega (arith, count, more, count_most c later) in
    let moved = taken_left before c i below within free in
    let less : left_of n (count_held c later) peer < left_of n h peer =
    left_taken peer.phase n h (count_held c later) peer.fetched (are_none peer.due) opened none more few in
    let falls : events_left mid < events_left before = omega (arith, moved, less) in
    let is : client mid c ≡ new = get_or-set_same before.clients c new fresh below in
    elim (when_cases (is_none (next_stripe mid c (open_call peer.phase))) _ _ takes) as (λ _. events_left after < events_left before) [
      | inl held ↦
          elim (plan_left c n mid peer.watches (asked_by (open_call peer.phase)) after (rw (length-set before.clients c new) below) count held.1)
          as (λ _. events_left after < events_left before) [
            | inl same ↦ omega (arith, same, falls)
            | inr named ↦
                let due : List Due = named.0 in
                let few_rounds : peer.fetched < ROUNDS = subst (λ (one : ClientState). one.fetched < ROUNDS) is named.2 in
                let step = subst (λ (one : ClientState). events_left after + left_of n (count_held c later) one
                ≡ events_left mid + left_of n (count_held c later) (record one { due = due })) is named.3 in
                let less_named : left_by peer.phase n (count_held c later) (are_none due) peer.fetched < left_of n h peer =
                left_named peer.phase n h (count_held c later) peer.fetched (are_none peer.due) (are_none due) opened none named.1 few_rounds more few in
                omega (arith, moved, step, less_named)
          ]
      | inr fails ↦ rw fails.1 falls
    ]

-- A FETCH

-- where nothing is to be read for a client
no_due : (due : List Due) → due ≡ [] → are_none due ≡ false → ⊥
no_due due is some = cc (sym (ap are_none is) ∙ some)

left_fetched : (phase : Phase) (n h f : ℕ) (due : List Due) → ReadsFor phase due → are_none due ≡ false → h ≡ 0
    → left_by phase n h true (f + 1) < left_by phase n h (are_none due) f
left_fetched (Serving at) n h f due reads some none = absurd (no_due due reads some)
left_fetched (Calling at call) n h f due reads some none =
    let same : (ROUNDS - (f + 1)) * in_round n ≡ ((ROUNDS - f) - 1) * in_round n =
    ap (λ (r : ℕ). r * in_round n) (fewer f) in
    rw some (omega (arith, same, none))
  where
    fewer : (f : ℕ) → 3 - (f + 1) ≡ (3 - f) - 1
    fewer f = omega arith
left_fetched (Leaving keys) n h f due reads some none = absurd (no_due due reads some)
left_fetched Left n h f due reads some none = absurd (no_due due reads some)
left_fetched Ended n h f due reads some none = absurd (no_due due reads some)

fetch_falls : (before : State) (c : ℕ) → c < length before.clients → are_none (client before c).due ≡ false → holds_none c before.holders ≡ true
    → ReadsFor (client before c).phase (client before c).due
    → events_left (with_client before c (fetched (client before c))) < events_left before
fetch_falls before c below some none reads =
    let peer : ClientState = client before c in
    let n : ℕ = stripe_count before in
    let moved = stepped before (with_client before c (fetched peer)) c n (fetched peer) below refl refl refl (λ d differ. refl) in
    omega (arith, moved, left_fetched peer.phase n (count_held c before.holders) peer.fetched peer.due reads some (count_none c before.holders none))

-- A COMMIT

of_call_some : (n h f : ℕ) (t : Bool) → h ≤ n → h < left_of_call n h t f
of_call_some n h f true most = omega (arith, most)
of_call_some n h f false most = omega (arith, most)

left_committed : (phase new : Phase) (n h f : ℕ) (t other : Bool) (g : ℕ) → IsCommitted phase new → h ≤ n
    → left_by new n h other g < left_by phase n h t f
left_committed (Calling at call) new n h f t other g is most =
    let same : length is.0.unread * most_of_call n ≡ length at.unread * most_of_call n = ap (λ (bytes : Bytes). length bytes * most_of_call n) is.1 in
    subst (λ (p : Phase). left_by p n h other g < left_by (Calling at call) n h t f) (sym is.2)
    (omega (arith, same, of_call_some n h f t most))
left_committed (Leaving keys) new n h f t other g is most =
    subst (λ (p : Phase). left_by p n h other g < left_by (Leaving keys) n h t f) (sym is) (omega (arith, most))
left_committed (Serving at) new n h f t other g is most = absurd is
left_committed Left new n h f t other g is most = absurd is
left_committed Ended new n h f t other g is most = absurd is

commit_falls : (before : State) (c : ℕ) (after : State) → c < length before.clients → HasCommitted before c (client before c).phase after
    → events_left after < events_left before
commit_falls before c after below to =
    let peer : ClientState = client before c in
    let n : ℕ = stripe_count before in
    let h : ℕ = count_held c before.holders in
    let moved = stepped before after c n to.new below refl (ap (λ (all : List (Option ℕ)). length all) to.holders) to.clients
    (λ d differ. ap (count_held d) to.holders) in
    let same : left_of n (count_held c after.holders) to.new ≡ left_of n h to.new =
    ap (λ (all : List (Option ℕ)). left_of n (count_held c all) to.new) to.holders in
    omega (
      arith,
      moved,
      same,
      left_committed peer.phase to.new.phase n h peer.fetched (are_none peer.due) (are_none to.new.due) to.new.fetched to.committed
          (count_most c before.holders),
    )

-- A GIVE

left_given : (phase : Phase) (n h later f : ℕ) (due : List Due) → h ≡ later + 1
    → (is_none (open_call phase) || not (are_none due)) ≡ true → ReadsFor phase due
    → left_by phase n later (are_none due) f < left_by phase n h (are_none due) f
left_given (Serving at) n h later f due less may reads = omega (arith, less)
left_given (Calling at call) n h later f due less may reads =
    rw (not_true (are_none due) may) (omega (arith, less))
left_given (Leaving keys) n h later f due less may reads = absurd (not_both (are_none due) may (ap are_none reads))
left_given Left n h later f due less may reads = omega (arith, less)
left_given Ended n h later f due less may reads = omega (arith, less)

give_falls : (before : State) (c i : ℕ) → c < length before.clients → holds before.holders c i ≡ true
    → (is_none (open_call (client before c).phase) || not (are_none (client before c).due)) ≡ true
    → ReadsFor (client before c).phase (client before c).due → events_left (given before c (client before c) i) < events_left before
give_falls before c i below held may reads =
    let peer : ClientState = client before c in
    let n : ℕ = stripe_count before in
    let later : List (Option ℕ) = set before.holders i None in
    let within : i < n = held_within before.holders c i held in
    let to = given_clients before c i (is_none (open_call peer.phase) && holds_none c later) in
    let moved = stepped before (given before c peer i) c n to.0 below refl (length-set before.holders i None) to.4
    (λ d differ. count_same before.holders i d None within (held_by_one c d (get_or before.holders i None) held differ) refl) in
    let same : left_of n (count_held c later) to.0 ≡ left_of n (count_held c later) peer =
    ap (λ (p : Phase). left_by p n (count_held c later) (are_none to.0.due) to.0.fetched) to.1
    ∙ ap (λ (due : List Due). left_by peer.phase n (count_held c later) (are_none due) to.0.fetched) to.2
    ∙ ap (λ (f : ℕ). left_by peer.phase n (count_held c later) (are_none peer.due) f) to.3 in
    omega (
      arith,
      moved,
      same,
      left_given peer.phase n (count_held c before.holders) (count_held c later) peer.fetched peer.due
          (count_less before.holders i c within held) may reads,
    )

-- A CLIENT THAT ADVANCES

spelling_some : (words : List Bytes) → 1 ≤ length (spelling words)
unfolding spelling header
spelling_some words = omega arith

took_less : (old : Bytes) (words : List Bytes) (new : Bytes) → TakesOff old words new → length new < length old
took_less old words new is =
    omega (arith, ap (λ (bytes : Bytes). length bytes) is.taken, length-append (spelling words) new, spelling_some words)

-- a call's events are less than a request's bytes stand for
call_most : (n f : ℕ) (t : Bool) → left_of_call n 0 t f ≤ most_of_call n
call_most n f true =
    let k : ℕ = in_round n in
    let rounds : (ROUNDS - f) * k ≤ ROUNDS * k = mul-le (ROUNDS - f) k ROUNDS k (omega arith) (le_refl _) in
    omega (arith, rounds)
call_most n f false =
    let k : ℕ = in_round n in
    let rounds : ((ROUNDS - f) - 1) * k ≤ 2 * k = mul-le ((ROUNDS - f) - 1) k 2 k (omega arith) (le_refl _) in
    omega (arith, rounds)

-- a request less is a call less
request_less : (u later n : ℕ) → later < u → later * most_of_call n + most_of_call n ≤ u * most_of_call n
request_less u later n less =
    let m : ℕ = most_of_call n in
    let all : (later + 1) * m ≤ u * m = mul-le (later + 1) m u m (omega (arith, less)) (le_refl _) in
    omega (arith, all, add-mul later 1 m, one-mul m)

fewer_bytes : (u later n : ℕ) → later ≤ u → later * most_of_call n ≤ u * most_of_call n
fewer_bytes u later n less = mul-le later (most_of_call n) u (most_of_call n) less (le_refl _)

-- what a client leaves that is over, of so many stripes
over_less : (watches : List Pair) (n f : ℕ) (t : Bool) (u : ℕ) → left_by (leave_for watches) n 0 t f ≤ u + (in_round n + 0)
over_less [] n f t u = omega arith
over_less (pair ∷ pairs) n f t u = omega arith

pauses_less : (n : ℕ) (peer : ClientState) (at : Progress) (after : ClientState) → peer.phase ≡ Serving at → Pauses peer at after
    → left_of n 0 after ≤ length at.unread * most_of_call n + (in_round n + 0)
pauses_less n peer at _ is (Waits gives opened) = rw is (omega arith)
pauses_less n peer at _ is (Finishes gives closed) =
    over_less peer.watches n peer.fetched (are_none peer.due) (length at.unread * most_of_call n)
pauses_less n peer at _ is (Quits gives) = over_less peer.watches n peer.fetched (are_none peer.due) (length at.unread * most_of_call n)
pauses_less n peer at _ is (Fails fault gives) = over_less peer.watches n peer.fetched (are_none peer.due) (length at.unread * most_of_call n)
pauses_less n peer at _ is (Opens call called gives) =
    omega (
      arith,
      call_most n peer.fetched (are_none peer.due),
      request_less (length at.unread) (length called.unread) n (took_less at.unread gives.0 called.unread gives.1),
    )

answers_less : (n : ℕ) (peer : ClientState) (at : Progress) (after : ClientState) → peer.phase ≡ Serving at → Answers peer at after
    → left_of n 0 after ≤ length at.unread * most_of_call n + (in_round n + 0)
answers_less n peer at after is (Here _ _ _ pauses) = pauses_less n peer at after is pauses
answers_less n peer at after is (Says _ _ reply later _ gives more) =
    let rest = answers_less n (record peer { phase = Serving later; output = peer.output ++ encoding reply }) later after refl more in
    omega (
      arith,
      rest,
      fewer_bytes (length at.unread) (length later.unread) n (omega (arith, took_less at.unread gives.0 later.unread gives.1)),
    )

advances_less : (n h : ℕ) (peer : ClientState) (phase : Phase) (after : ClientState) → peer.phase ≡ phase → h ≡ 0 → Advances peer phase after
    → left_of n h after ≤ left_by phase n h (are_none peer.due) peer.fetched
advances_less n h peer (Serving at) after is none advances =
    subst (λ (k : ℕ). left_of n k after ≤ left_by (Serving at) n k (are_none peer.due) peer.fetched) (sym none)
    (answers_less n peer at after is advances)
advances_less n h peer Left after is none advances =
    subst (λ (one : ClientState). left_of n h one ≤ left_by Left n h (are_none peer.due) peer.fetched) (sym advances) (le_refl _)
advances_less n h peer (Calling at call) after is none advances = absurd advances
advances_less n h peer (Leaving keys) after is none advances = absurd advances
advances_less n h peer Ended after is none advances = absurd advances

goes_falls : (mid : State) (c : ℕ) (after : State) → c < length mid.clients → Goes mid c after → events_left after ≤ events_left mid
goes_falls mid c after below goes =
    elim (when_cases (is_idle (client mid c).phase && holds_none c mid.holders) _ _ goes) as (λ _. events_left after ≤ events_left mid) [
      | inl held ↦
          let peer : ClientState = held.1.0 in
          let n : ℕ = stripe_count mid in
          let h : ℕ = count_held c mid.holders in
          let moved = stepped mid (with_client mid c peer) c n peer below refl refl refl (λ d differ. refl) in
          let none : h ≡ 0 = count_none c mid.holders (both (is_idle (client mid c).phase) (holds_none c mid.holders) held.0).1 in
          let less : left_of n h peer ≤ left_of n h (client mid c) =
          advances_less n h (client mid c) (client mid c).phase peer refl none held.1.1 in
          rw held.1.2 (omega (arith, moved, less))
      | inr fails ↦ rw fails.1 (le_refl _)
    ]

-- EACH EVENT

does_falls : (before : State) (c : ℕ) (e : Event) (mid : State) → c < length before.clients → IsOfCall e
    → is_enabled_for before c (client before c) e ≡ true → IsSound before → IsOrderly before → Does before c (client before c) e mid
    → events_left mid < events_left before
does_falls before c (Take _ i) mid below of is sound order does =
    let first = both _ _ is in
    let second = both _ _ first.1 in
    takes_falls before c i mid below (none_is _ second.0) (is_next i _ first.0) second.1 order does
does_falls before c (Fetch _) mid below of is sound order does =
    let first = both _ _ is in
    rw does (fetch_falls before c below (not_true _ first.0) first.1 (sound.clients c below).reads)
does_falls before c (Commit _) mid below of is sound order does =
    commit_falls before c mid below (commits_to before c (client before c).phase mid does)
does_falls before c (Give _ i) mid below of is sound order does =
    let first = both _ _ is in
    rw does (give_falls before c i below first.0 first.1 (sound.clients c below).reads)
does_falls before c _ mid below of is sound order does = absurd of

acts_falls : (before : State) (c : ℕ) (e : Event) (after : State) → IsOfCall e → is_enabled_of before e (Some c) ≡ true → IsSound before
    → IsOrderly before → DoesAndGoes before e (Some c) after → events_left after < events_left before
acts_falls before c e after of is sound order does =
    let test = both _ _ is in
    let below : c < length before.clients = ltb-true _ _ test.0 in
    let first = does_falls before c e does.0 below of test.1 sound order does.1 in
    let second = goes_falls does.0 c after (does_below before c e does.0 below does.1) does.2 in
    omega (arith, first, second)

when_true : (t : Bool) (P Q : Type 0) → t ≡ true → When t P Q → P
when_true true P Q is held = held
when_true false P Q is held = cc is

-- Each enabled event of a call lowers it.
pub turn_falls : (before : State) (e : Event) (after : State) → IsOfCall e → is_enabled before e ≡ true → IsSound before → IsOrderly before
    → Turn before e after → events_left after < events_left before
turn_falls before (Take c i) after of is sound order turn =
    acts_falls before c (Take c i) after of is sound order (when_true (is_enabled before (Take c i)) _ _ is turn)
turn_falls before (Fetch c) after of is sound order turn =
    acts_falls before c (Fetch c) after of is sound order (when_true (is_enabled before (Fetch c)) _ _ is turn)
turn_falls before (Commit c) after of is sound order turn =
    acts_falls before c (Commit c) after of is sound order (when_true (is_enabled before (Commit c)) _ _ is turn)
turn_falls before (Give c i) after of is sound order turn =
    acts_falls before c (Give c i) after of is sound order (when_true (is_enabled before (Give c i)) _ _ is turn)
turn_falls before _ after of is sound order turn = absurd of
