-- One event after another: the last timestamps of queues, and what comes before an event in each.
use Rattle.std.proofs.Common.{◌≡◌, ℕ, ◌+◌, ◌<◌, ◌≤◌, Bool, true, false, List, [], ◌∷◌, ◌++◌, cond, length, take, drop, set, get_or, suc, refl, sym, ap, ◌∙◌, append_assoc, append-nil, arith}
use Rattle.std.proofs.lemmas.List.{drop_all, drop_more, drop-set-lt, get_or_default, length_push, length-set, take_all, take_more, take_more_set}
use Rattle.std.proofs.lemmas.List.Elements.{filter-append}
use Rattle.cdc_types.specs.declared.events.Event.{Event}
use Rattle.cdc_types.specs.declared.events.Headers.{Headers}
use Rattle.cdc_types.specs.Timestamps.{last_timestamp}
use Rattle.cdc_types.proofs.Rising.{last_timestamp_from-push}
use Rattle.cdc_message.specs.Headers.{headers_of_event}
use Rattle.cdc_match.specs.Arguments.{Arguments}
use Rattle.cdc_match.specs.Matching.{matches}
use Rattle.cdc_match.specs.Queue.{feed, takes_event}
use Rattle.cdc_queue_lines.specs.Predecessors.{last_timestamps, predecessors}
use Rattle.cdc_queue_lines.specs.Steps.{found_after, found_with, last_after, last_with}
use Rattle.cdc_queue_lines.specs.declared.predecessors.Predecessor.{Predecessor}

-- ---- one queue after another, for one event

-- what is kept and found for the first queues, and for those that are left, is what is kept and found for all
pub record IsTaking (event : Event) (bindings : List Arguments) (first : List ℕ) (place : ℕ) (last : List ℕ)
    (found : List Predecessor) : Type 0 where
  pub many : length last ≡ length bindings
  pub short : length found ≤ place
  pub kept : take place last ++ last_after event (drop place bindings) (drop place last)
      ≡ last_after event bindings first
  pub listed : found ++ found_after event (place + 1) (drop place bindings) (drop place last)
      ≡ found_after event 1 bindings first

-- what is kept and found, if the next queue is looked at by itself
record NextQueue (event : Event) (bindings : List Arguments) (first : List ℕ) (place : ℕ) (last : List ℕ)
    (found : List Predecessor) (binding : Arguments) (previous : ℕ) : Type 0 where
  kept : take place last
      ++ last_with event binding previous ∷ last_after event (drop (place + 1) bindings) (drop (place + 1) last)
      ≡ last_after event bindings first
  listed : found ++ found_with event binding (place + 1) previous
      (found_after event (place + 1 + 1) (drop (place + 1) bindings) (drop (place + 1) last))
      ≡ found_after event 1 bindings first

next_queue : (event : Event) (bindings : List Arguments) (first : List ℕ) (place : ℕ) (last : List ℕ)
    (found : List Predecessor) (binding : Arguments) (previous : ℕ) → place < length bindings
    → binding ≡ get_or bindings place binding → previous ≡ get_or last place previous
    → IsTaking event bindings first place last found
    → NextQueue event bindings first place last found binding previous
next_queue event bindings first place last found binding previous inside is was before =
    let within : place < length last = omega (arith, before.many) in
    let these : drop place bindings ≡ binding ∷ drop (place + 1) bindings =
    drop_more bindings place binding inside ∙ ap (λ (b : Arguments). b ∷ drop (place + 1) bindings) (sym is) in
    let those : drop place last ≡ previous ∷ drop (place + 1) last =
    drop_more last place previous within ∙ ap (λ (t : ℕ). t ∷ drop (place + 1) last) (sym was) in
    record {
      kept = rw (these, those) at before.kept;
      listed = rw (these, those) at before.listed;
    }

-- a queue that takes the event
pub taken : (event : Event) (bindings : List Arguments) (first : List ℕ) (place : ℕ) (last : List ℕ)
    (found : List Predecessor) (binding : Arguments) (previous : ℕ) → place < length bindings
    → binding ≡ get_or bindings place binding → previous ≡ get_or last place previous
    → takes_event binding event ≡ true
    → IsTaking event bindings first place last found
    → IsTaking event bindings first (place + 1) (set last place event.timestamp)
    (found ++ record { queue = place + 1; previous = previous } ∷ [])
taken event bindings first place last found binding previous inside is was takes before =
    let next = next_queue event bindings first place last found binding previous inside is was before in
    let within : place < length last = omega (arith, before.many) in
    let now : last_with event binding previous ≡ event.timestamp =
    ap (λ (b : Bool). cond b event.timestamp previous) takes in
    let later = found_after event (place + 1 + 1) (drop (place + 1) bindings) (drop (place + 1) last) in
    let lists : found_with event binding (place + 1) previous later
    ≡ record { queue = place + 1; previous = previous } ∷ later =
    ap (λ (b : Bool). cond b (record { queue = place + 1; previous = previous } ∷ later) later) takes in
    let left : drop (place + 1) (set last place event.timestamp) ≡ drop (place + 1) last =
    drop-set-lt (place + 1) last place event.timestamp (omega arith) in
    record {
      many = length-set last place event.timestamp ∙ before.many;
      short = omega (arith, length_push found (record { queue = place + 1; previous = previous }), before.short);
      kept = ap (λ (ts : List ℕ). take (place + 1) (set last place event.timestamp)
          ++ last_after event (drop (place + 1) bindings) ts) left
          ∙ ap (λ (ts : List ℕ). ts ++ last_after event (drop (place + 1) bindings) (drop (place + 1) last))
          (take_more_set last place event.timestamp within)
          ∙ append_assoc (take place last) (event.timestamp ∷ [])
          (last_after event (drop (place + 1) bindings) (drop (place + 1) last))
          ∙ ap (λ (t : ℕ). take place last
          ++ t ∷ last_after event (drop (place + 1) bindings) (drop (place + 1) last)) (sym now)
          ∙ next.kept;
      listed = ap (λ (ts : List ℕ). (found ++ record { queue = place + 1; previous = previous } ∷ [])
          ++ found_after event (place + 1 + 1) (drop (place + 1) bindings) ts) left
          ∙ append_assoc found (record { queue = place + 1; previous = previous } ∷ []) later
          ∙ ap (λ (ps : List Predecessor). found ++ ps) (sym lists)
          ∙ next.listed;
    }

-- a queue that doesn't take it
pub passed : (event : Event) (bindings : List Arguments) (first : List ℕ) (place : ℕ) (last : List ℕ)
    (found : List Predecessor) (binding : Arguments) → place < length bindings
    → binding ≡ get_or bindings place binding
    → takes_event binding event ≡ false
    → IsTaking event bindings first place last found
    → IsTaking event bindings first (place + 1) last found
passed event bindings first place last found binding inside is takes before =
    let within : place < length last = omega (arith, before.many) in
    let previous = get_or last place 0 in
    let was : previous ≡ get_or last place previous = get_or_default last place 0 previous within in
    let next = next_queue event bindings first place last found binding previous inside is was before in
    let now : last_with event binding previous ≡ previous =
    ap (λ (b : Bool). cond b event.timestamp previous) takes in
    let later = found_after event (place + 1 + 1) (drop (place + 1) bindings) (drop (place + 1) last) in
    let lists : found_with event binding (place + 1) previous later ≡ later =
    ap (λ (b : Bool). cond b (record { queue = place + 1; previous = previous } ∷ later) later) takes in
    record {
      many = before.many;
      short = omega (arith, before.short);
      kept = ap (λ (ts : List ℕ). ts ++ last_after event (drop (place + 1) bindings) (drop (place + 1) last))
          (take_more last place 0 within)
          ∙ append_assoc (take place last) (previous ∷ [])
          (last_after event (drop (place + 1) bindings) (drop (place + 1) last))
          ∙ ap (λ (t : ℕ). take place last
          ++ t ∷ last_after event (drop (place + 1) bindings) (drop (place + 1) last)) (sym now)
          ∙ next.kept;
      listed = ap (λ (ps : List Predecessor). found ++ ps) (sym lists) ∙ next.listed;
    }

-- after all queues
pub all_kept : (event : Event) (bindings : List Arguments) (first : List ℕ) (place : ℕ) (last : List ℕ)
    (found : List Predecessor) → length bindings ≤ place → IsTaking event bindings first place last found
    → last ≡ last_after event bindings first
all_kept event bindings first place last found past before =
    let all : length last ≤ place = omega (arith, before.many) in
    let whole : take place last ++ last_after event (drop place bindings) (drop place last) ≡ last =
    rw (drop_all place bindings past, take_all place last all, drop_all place last all) (append-nil last) in
    sym whole ∙ before.kept

pub all_found : (event : Event) (bindings : List Arguments) (first : List ℕ) (place : ℕ) (last : List ℕ)
    (found : List Predecessor) → length bindings ≤ place → IsTaking event bindings first place last found
    → found ≡ found_after event 1 bindings first
all_found event bindings first place last found past before =
    let whole : found ++ found_after event (place + 1) (drop place bindings) (drop place last) ≡ found =
    rw (drop_all place bindings past) (append-nil found) in
    sym whole ∙ before.listed

-- there are as many timestamps as before
pub length-last_after : (event : Event) (bindings : List Arguments) (last : List ℕ) → length last ≡ length bindings
    → length (last_after event bindings last) ≡ length last
length-last_after event [] last same = refl
length-last_after event (binding ∷ rest) [] same = refl
length-last_after event (binding ∷ rest) (t ∷ others) same =
    ap suc (length-last_after event rest others (let fewer : length others ≡ length rest =
    omega (arith, same) in fewer))

-- ---- one event after another

-- the last timestamp of a queue, if its binding takes one more event or not
last_by : (takes : Bool) (fed : List Event) (event : Event)
    → cond takes event.timestamp (last_timestamp fed) ≡ last_timestamp (fed ++ cond takes (event ∷ []) [])
last_by true fed event = sym (last_timestamp_from-push 0 fed event)
last_by false fed event = ap last_timestamp (sym (append-nil fed))

last_fed : (binding : Arguments) (before : List Event) (event : Event)
    → last_with event binding (last_timestamp (feed before binding))
    ≡ last_timestamp (feed (before ++ event ∷ []) binding)
last_fed binding before event =
    last_by (takes_event binding event) (feed before binding) event
    ∙ ap last_timestamp (sym (filter-append (takes_event binding) before (event ∷ [])))

-- the last timestamps of all queues after one more event
pub last_after-timestamps : (event : Event) (bindings : List Arguments) (before : List Event)
    → last_after event bindings (last_timestamps bindings before) ≡ last_timestamps bindings (before ++ event ∷ [])
last_after-timestamps event [] before = refl
last_after-timestamps event (binding ∷ rest) before =
    ap (λ (t : ℕ). t ∷ last_after event rest (last_timestamps rest before)) (last_fed binding before event)
    ∙ ap (λ (ts : List ℕ). last_timestamp (feed (before ++ event ∷ []) binding) ∷ ts)
    (last_after-timestamps event rest before)

-- what comes before an event in each queue that takes it
pub found_after-predecessors : (event : Event) (n : ℕ) (bindings : List Arguments) (before : List Event)
    → found_after event n bindings (last_timestamps bindings before) ≡ predecessors n bindings before event
found_after-predecessors event n [] before = refl
found_after-predecessors event n (binding ∷ rest) before =
    ap (found_with event binding n (last_timestamp (feed before binding)))
    (found_after-predecessors event (n + 1) rest before)

-- a binding's answer for the headers of an event states whether it takes the event
pub takes_by : (binding : Arguments) (event : Event) (headers : Headers) (answer is : Bool)
    → headers ≡ headers_of_event event → answer ≡ matches binding headers → answer ≡ is
    → takes_event binding event ≡ is
takes_by binding event headers answer is these answers known =
    sym (ap (matches binding) these) ∙ sym answers ∙ known
