-- What each queue gets of a chain.
use Rattle.std.proofs.Common.{◌≡◌, ℕ, zero, suc, ◌+◌, ◌<◌, ◌≤◌, List, [], ◌∷◌, ◌++◌, Bool, true, false, cond, Some, None, Option}
use Rattle.std.proofs.Common.{Result, Ok, Err, refl, sym, ap, ap₂, ◌∙◌, subst, append_assoc, append-nil, arith, filter, length, map}
use Rattle.std.specs.Prelude.{nat_eq, nat_le, nat_lt}
use Rattle.std.proofs.lemmas.Bool.{eq-eqb, ne_eqb}
use Rattle.std.specs.List.{AllByRecursion, slice_get}
use Rattle.std.specs.Prelude.{Contains}
use Rattle.std.proofs.lemmas.List.Elements.{All-contains, All-from_recursion, filter-append}
use Rattle.cdc_types.specs.declared.bounds.TheConstants.Limits.{TIMESTAMP}
use Rattle.cdc_types.specs.declared.events.Event.{Event}
use Rattle.cdc_types.specs.Timestamps.{RiseFrom, last_timestamp, last_timestamp_from}
use Rattle.cdc_types.proofs.Rising.{RiseFrom-filter, last_timestamp_from-push}
use Rattle.cdc_match.specs.Arguments.{Arguments}
use Rattle.cdc_match.specs.Queue.{feed, takes_event}
use Rattle.cdc_follow.specs.declared.entries.Content.{Content}
use Rattle.cdc_follow.specs.declared.entries.Content.TheVariants as content
use Rattle.cdc_follow.specs.declared.entries.Entry.{Entry}
use Rattle.cdc_follow.specs.declared.errors.LineError.{LineError}
use Rattle.cdc_follow.specs.Entries.{line_entry}
use Rattle.cdc_follow.specs.Laws.{IsOfQueue}
use Rattle.cdc_follow.proofs.QueueLemmas.{keeps_a_prefix}
use Rattle.cdc_queue_lines.specs.declared.predecessors.Predecessor.{Predecessor}
use Rattle.cdc_message.specs.Bodies.{object_text}
use Rattle.cdc_queue_lines.specs.Lines.{end_members, message_line, message_members}
use Rattle.cdc_queue_lines.specs.Lines.{end_line as the_end_line}
use Rattle.cdc_queue_lines.specs.Steps.{found_after, found_with, last_after, last_with}
use Rattle.cdc_chain.specs.declared.chain.Chaining.{Chaining}
use Rattle.cdc_chain.specs.declared.chain.Chaining.TheVariants as chaining
use Rattle.cdc_chain.specs.declared.streams.ChainStop.{ChainStop}
use Rattle.cdc_chain.specs.declared.streams.ChainStop.TheVariants as stop
use Rattle.cdc_chain.specs.Chains.{ChainState, Chained, Made, begins, chain, chain_read, made_by, made_first, made_of, made_then}
use Rattle.cdc_chain.specs.Chains.{next_chain, nothing, outcome_of, state_by, stop_by, stopped, stops_at}
use Rattle.cdc_chain.specs.Lines.{QueueLine, end_line, end_lines, event_lines, plain_text}
use Rattle.cdc_chain.specs.Laws.{EachQueueGetsItsLines, EndedChainsMakeNothing, FollowersKeepAPrefix, GetsLines}
use Rattle.cdc_chain.specs.Laws.{PlainLinesAreThoseOfTheQueue, Rises, StreamsGoOn}
use Rattle.cdc_chain.specs.Laws.{QueueLinesAreOfQueues, TakenEventsRise, entry_of, lines_in, queue_of}
use Rattle.cdc_chain.proofs.LineLemmas.{chain_first, chain_none, entry_by}

-- ---- the chain of lines, by its steps

-- what holds where chaining stops, and is kept by each entry at which it doesn't, holds of the chain
module _ (bindings : List Arguments) (P : ChainState → Chained → Type 0)
    (stops : (state : ChainState) (why : ChainStop) → P state (stopped state why))
    (steps : (state : ChainState) (content : Content) (made : Chaining) (later : Chained)
    → outcome_of state content ≡ made → stops_at made ≡ false → P (state_by made bindings state content) later
    → P state (made_first (made_by made bindings state content) later)) where
  -- one line, by its entry and by what was read of it
  step_entry : (state : ChainState) (number : ℕ) (rest : List (List ℕ)) (content : Content) (goes : Bool)
      → ((after : ChainState) → P after (chain bindings after (number + 1) rest))
      → stops_at (outcome_of state content) ≡ goes
      → P state (cond goes (stopped state (stop_by (outcome_of state content) number))
      (made_first (made_of bindings state content) (chain bindings (next_chain bindings state content) (number + 1)
      rest)))
  step_entry state number rest content true later is = stops state (stop_by (outcome_of state content) number)
  step_entry state number rest content false later is =
      steps state content (outcome_of state content)
      (chain bindings (next_chain bindings state content) (number + 1) rest) refl is
      (later (next_chain bindings state content))

  step_read : (state : ChainState) (number : ℕ) (line : List ℕ) (rest : List (List ℕ))
      (read : Result (Option Entry) LineError) → ((after : ChainState) → P after (chain bindings after (number + 1)
      rest))
      → line_entry false line ≡ read → P state (chain bindings state number (line ∷ rest))
  step_read state number line rest (Ok None) later is =
      subst (P state) (sym (chain_first bindings state number line rest (Ok None) is)) (later state)
  step_read state number line rest (Ok (Some entry)) later is =
      subst (P state) (sym (chain_first bindings state number line rest (Ok (Some entry)) is
      ∙ entry_by bindings state number entry.content (λ after. chain bindings after (number + 1) rest)
      (stops_at (outcome_of state entry.content)) refl))
      (step_entry state number rest entry.content (stops_at (outcome_of state entry.content)) later refl)
  step_read state number line rest (Err error) later is =
      subst (P state) (sym (chain_first bindings state number line rest (Err error) is))
      (stops state (stop.BadLine number error))

  pub by_steps : (state : ChainState) (number : ℕ) (lines : List (List ℕ)) → P state (chain bindings state number lines)
  by_steps state number [] = subst (P state) (sym (chain_none bindings state number)) (stops state stop.AtEnd)
  by_steps state number (line ∷ rest) =
      step_read state number line rest (line_entry false line) (λ after. by_steps after (number + 1) rest) refl

-- ---- events rise

-- an event that is taken is later than the last one
is_later : (state : ChainState) (e : Event) → outcome_of state (content.Event e) ≡ chaining.Taken
    → state.last < e.timestamp
is_later state e is = by_test (nat_le e.timestamp state.last) refl
  where
    by_test : (test : Bool) → nat_le e.timestamp state.last ≡ test → state.last < e.timestamp
    by_test true le = cc
    by_test false le = grind arith

rises_on : (bindings : List Arguments) (state : ChainState) (content : Content) (made : Chaining) (later : Chained)
    → outcome_of state content ≡ made → stops_at made ≡ false → Rises (state_by made bindings state content) later
    → Rises state (made_first (made_by made bindings state content) later)
rises_on bindings state (content.Event e) chaining.Taken later is goes rises =
    record { rising = (is_later state e is, rises.rising); last = rises.last }
rises_on bindings state content.End chaining.Taken later is goes rises =
    record { rising = rises.rising; last = rises.last }
rises_on bindings state content chaining.Duplicate later is goes rises =
    record { rising = rises.rising; last = rises.last }
rises_on bindings state content chaining.Ended later is goes rises =
    record { rising = rises.rising; last = rises.last }
rises_on bindings state content chaining.AfterEnd later is goes rises = cc
rises_on bindings state content chaining.OutOfRange later is goes rises = cc

pub taken_rise : TakenEventsRise
taken_rise bindings =
    by_steps bindings Rises (λ state why. record { rising = tt; last = refl }) (rises_on bindings)

-- ---- after the end

-- nothing is made, and what is kept stays so
abbrev MakesNothing : ChainState → Chained → Type 0
MakesNothing state done = state.ended ≡ true
    → (done.made ≡ nothing) × (done.state.ended ≡ true) × (done.state.places ≡ state.places)

nothing_on : (bindings : List Arguments) (state : ChainState) (content : Content) (made : Chaining) (later : Chained)
    → outcome_of state content ≡ made → stops_at made ≡ false
    → MakesNothing (state_by made bindings state content) later
    → MakesNothing state (made_first (made_by made bindings state content) later)
nothing_on bindings state content chaining.Duplicate later is goes none ended = none ended
nothing_on bindings state content chaining.AfterEnd later is goes none ended = cc
nothing_on bindings state content chaining.OutOfRange later is goes none ended = cc
nothing_on bindings state content.End chaining.Taken later is goes none ended = none ended
nothing_on bindings state content.End chaining.Ended later is goes none ended =
    absurd (let never : chaining.Duplicate ≡ chaining.Ended =
    ap (λ b. cond b chaining.Duplicate chaining.Ended) (sym ended) ∙ is in cc)
nothing_on bindings state (content.Event e) chaining.Taken later is goes none ended =
    absurd (not_taken (nat_le e.timestamp state.last) (nat_lt TIMESTAMP e.timestamp) is)
  where
    not_taken : (one two : Bool) → cond one chaining.Duplicate (cond two chaining.OutOfRange
        (cond state.ended chaining.AfterEnd chaining.Taken)) ≡ chaining.Taken → ⊥
    not_taken true two is = cc
    not_taken false true is = cc
    not_taken false false is =
        let never : chaining.AfterEnd ≡ chaining.Taken =
        ap (λ b. cond b chaining.AfterEnd chaining.Taken) (sym ended) ∙ is in cc
nothing_on bindings state (content.Event e) chaining.Ended later is goes none ended =
    absurd (not_ended (nat_le e.timestamp state.last) (nat_lt TIMESTAMP e.timestamp) state.ended is)
  where
    not_ended : (one two three : Bool) → cond one chaining.Duplicate (cond two chaining.OutOfRange
        (cond three chaining.AfterEnd chaining.Taken)) ≡ chaining.Ended → ⊥
    not_ended true two three is = cc
    not_ended false true three is = cc
    not_ended false false true is = cc
    not_ended false false false is = cc

-- all of it
ended_all : (bindings : List Arguments) (state : ChainState) (number : ℕ) (lines : List (List ℕ))
    → MakesNothing state (chain bindings state number lines)
ended_all bindings =
    by_steps bindings MakesNothing (λ state why ended. (refl, ended, refl)) (nothing_on bindings)

pub ended_nothing : EndedChainsMakeNothing
ended_nothing bindings start number lines ended = (ended_all bindings start number lines ended).0

-- ---- the lines of one queue

-- the lines of an event in the queues that take it, if the first of these may take it
abbrev lines_by : ℕ → Event → Bool → ℕ → ℕ → List Arguments → List ℕ → List QueueLine
lines_by q e takes n place rest others = lines_in q (event_lines e (cond takes
    (record { queue = n; previous = place } ∷ found_after e (n + 1) rest others) (found_after e (n + 1) rest others)))

-- a queue of another number adds nothing
other_queue : (q n place : ℕ) (e : Event) (takes : Bool) (rest : List Arguments) (others : List ℕ)
    → nat_eq n q ≡ false → lines_by q e takes n place rest others
    ≡ lines_in q (event_lines e (found_after e (n + 1) rest others))
other_queue q n place e true rest others other = rw other refl
other_queue q n place e false rest others other = refl

-- no queue from this number on has a lower number
none_found : (q n : ℕ) (e : Event) (bindings : List Arguments) (places : List ℕ) → q < n
    → lines_in q (event_lines e (found_after e n bindings places)) ≡ []
none_found q n e [] places below = refl
none_found q n e (binding ∷ rest) [] below = refl
none_found q n e (binding ∷ rest) (place ∷ others) below =
    other_queue q n place e (takes_event binding e) rest others (ne_eqb n q (λ same. omega (arith, same, below)))
    ∙ none_found q (n + 1) e rest others (omega arith)

-- the queue of this number adds its line, if its binding takes the event
this_queue : (q place : ℕ) (e : Event) (takes : Bool) (rest : List Arguments) (others : List ℕ)
    → lines_by q e takes q place rest others
    ≡ cond takes (record { queue = q; previous = place; content = content.Event e } ∷ []) []
this_queue q place e true rest others =
    rw (eq-eqb q q refl, none_found q (q + 1) e rest others (omega arith)) refl
this_queue q place e false rest others = none_found q (q + 1) e rest others (omega arith)

-- the line of the queue of this number, if its binding takes the event
one_found : (i n q : ℕ) (e : Event) (bindings : List Arguments) (places : List ℕ) (binding : Arguments) (place : ℕ)
    → q ≡ n + i → slice_get bindings i ≡ Some binding → slice_get places i ≡ Some place
    → lines_in q (event_lines e (found_after e n bindings places))
    ≡ cond (takes_event binding e) (record { queue = q; previous = place; content = content.Event e } ∷ []) []
one_found i n q e [] places binding place same is at = cc
one_found i n q e (first ∷ rest) [] binding place same is at = cc
one_found zero n q e (first ∷ rest) (place_first ∷ others) binding place same is at =
    let first_is : first ≡ binding = cc in
    let place_is : place_first ≡ place = cc in
    let queue_is : n ≡ q = omega (arith, same) in
    rw (first_is, place_is, queue_is) (this_queue q place e (takes_event binding e) rest others)
one_found (suc i) n q e (first ∷ rest) (place_first ∷ others) binding place same is at =
    other_queue q n place_first e (takes_event first e) rest others
    (ne_eqb n q (λ equal. omega (arith, equal, same)))
    ∙ one_found i (n + 1) q e rest others binding place (omega (arith, same)) is at

-- its last timestamp after the event
place_after : (i : ℕ) (e : Event) (bindings : List Arguments) (places : List ℕ) (binding : Arguments) (place : ℕ)
    → slice_get bindings i ≡ Some binding → slice_get places i ≡ Some place
    → slice_get (last_after e bindings places) i ≡ Some (last_with e binding place)
place_after i e [] places binding place is at = cc
place_after i e (first ∷ rest) [] binding place is at = cc
place_after zero e (first ∷ rest) (place_first ∷ others) binding place is at =
    let first_is : first ≡ binding = cc in
    let place_is : place_first ≡ place = cc in
    rw (first_is, place_is) refl
place_after (suc i) e (first ∷ rest) (place_first ∷ others) binding place is at =
    place_after i e rest others binding place is at

-- no end from this number on has a lower number
no_end : (q n : ℕ) (places : List ℕ) → q < n → lines_in q (end_lines n places) ≡ []
no_end q n [] below = refl
no_end q n (place ∷ others) below =
    rw (ne_eqb n q (λ same. omega (arith, same, below))) (no_end q (n + 1) others (omega arith))

-- the end of the queue of this number
one_end : (i n q : ℕ) (places : List ℕ) (place : ℕ) → q ≡ n + i → slice_get places i ≡ Some place
    → lines_in q (end_lines n places) ≡ end_line q place ∷ []
one_end i n q [] place same at = cc
one_end zero n q (first ∷ others) place same at =
    let place_is : first ≡ place = cc in
    let queue_is : n ≡ q = omega (arith, same) in
    rw (queue_is, place_is, eq-eqb q q refl, no_end q (q + 1) others (omega arith)) refl
one_end (suc i) n q (first ∷ others) place same at =
    rw (ne_eqb n q (λ equal. omega (arith, equal, same)))
    (one_end i (n + 1) q others place (omega (arith, same)) at)

-- ---- what a queue gets

module _ (bindings : List Arguments) (i : ℕ) (binding : Arguments) (is : slice_get bindings i ≡ Some binding) where
  -- from a state whose end wasn't received
  abbrev Gets : ChainState → Chained → Type 0
  Gets state done = (place : ℕ) → state.ended ≡ false → slice_get state.places i ≡ Some place
      → (last : ℕ) × (slice_get done.state.places i ≡ Some last) × GetsLines (i + 1) binding place done last

  abbrev GetsSo : ChainState → Chained → Type 0
  GetsSo state done = MakesNothing state done × Gets state done

  gets_none : (state : ChainState) (why : ChainStop) → GetsSo state (stopped state why)
  gets_none state why = (
    λ ended. (refl, ended, refl),
    λ place opened at. (
      place,
      at,
      record {
        lines = ap (λ b. cond b (end_line (i + 1) place ∷ []) []) (sym opened);
        place_is = refl;
      },
    ),
  )

  -- an event that is taken
  gets_event : (state : ChainState) (e : Event) (later : Chained)
      → Gets (state_by chaining.Taken bindings state (content.Event e)) later
      → Gets state (made_first (made_by chaining.Taken bindings state (content.Event e)) later)
  gets_event state e later gets place opened at =
      let next = gets (last_with e binding place) opened (place_after i e bindings state.places binding place is at)
      in (
        next.0,
        next.1,
        record {
          lines = filter-append (λ line. nat_eq line.queue (i + 1))
              (event_lines e (found_after e 1 bindings state.places)) later.made.lines
              ∙ ap (λ lines. lines ++ lines_in (i + 1) later.made.lines)
              (one_found i 1 (i + 1) e bindings state.places binding place (omega arith) is at)
              ∙ by_lines (takes_event binding e) (lines_in (i + 1) later.made.lines) next.2.lines;
          place_is = by_place (takes_event binding e) next.0 next.2.place_is;
        },
      )
    where
      by_lines : (takes : Bool) (rest : List QueueLine)
          → rest ≡ queue_of (i + 1) later.state.ended (cond takes e.timestamp place) (feed later.made.events binding)
          → cond takes (record { queue = i + 1; previous = place; content = content.Event e } ∷ []) [] ++ rest
          ≡ queue_of (i + 1) later.state.ended place
          (cond takes (e ∷ feed later.made.events binding) (feed later.made.events binding))
      by_lines true rest same =
          ap (λ lines. record { queue = i + 1; previous = place; content = content.Event e } ∷ lines) same
      by_lines false rest same = same

      by_place : (takes : Bool) (last : ℕ)
          → last ≡ last_timestamp_from (cond takes e.timestamp place) (feed later.made.events binding)
          → last ≡ last_timestamp_from place
          (cond takes (e ∷ feed later.made.events binding) (feed later.made.events binding))
      by_place true last same = same
      by_place false last same = same

  -- the end
  gets_end : (state : ChainState) (made : Content) (later : Chained)
      → MakesNothing (state_by chaining.Ended bindings state made) later
      → Gets state (made_first (made_by chaining.Ended bindings state made) later)
  gets_end state made later none place opened at =
      let rest = none refl in
      let no_lines : later.made.lines ≡ [] = ap (λ (m : Made). m.lines) rest.0 in
      let no_events : later.made.events ≡ [] = ap (λ (m : Made). m.events) rest.0 in (
        place,
        ap (λ places. slice_get places i) rest.2 ∙ at,
        record {
          lines = filter-append (λ line. nat_eq line.queue (i + 1)) (end_lines 1 state.places) later.made.lines
              ∙ ap (λ lines. lines ++ lines_in (i + 1) later.made.lines)
              (one_end i 1 (i + 1) state.places place (omega arith) at)
              ∙ ap (λ lines. end_line (i + 1) place ∷ lines_in (i + 1) lines) no_lines
              ∙ sym (ap (λ events. queue_of (i + 1) later.state.ended place (feed events binding)) no_events
              ∙ ap (λ b. cond b (end_line (i + 1) place ∷ []) []) rest.1);
          place_is = sym (ap (λ events. last_timestamp_from place (feed events binding)) no_events);
        },
      )

  gets_by : (state : ChainState) (carried : Content) (made : Chaining) (later : Chained)
      → outcome_of state carried ≡ made → stops_at made ≡ false → GetsSo (state_by made bindings state carried) later
      → Gets state (made_first (made_by made bindings state carried) later)
  gets_by state (content.Event e) chaining.Taken later becomes goes so = gets_event state e later so.1
  gets_by state content.End chaining.Taken later becomes goes so = so.1
  gets_by state carried chaining.Duplicate later becomes goes so = so.1
  gets_by state carried chaining.Ended later becomes goes so = gets_end state carried later so.0
  gets_by state carried chaining.AfterEnd later becomes goes so = cc
  gets_by state carried chaining.OutOfRange later becomes goes so = cc

  gets_on : (state : ChainState) (carried : Content) (made : Chaining) (later : Chained)
      → outcome_of state carried ≡ made → stops_at made ≡ false → GetsSo (state_by made bindings state carried) later
      → GetsSo state (made_first (made_by made bindings state carried) later)
  gets_on state carried made later becomes goes so = (
    nothing_on bindings state carried made later becomes goes so.0,
    gets_by state carried made later becomes goes so,
  )

pub gets_lines : EachQueueGetsItsLines
gets_lines bindings start number lines i binding place opened is at =
    (by_steps bindings (GetsSo bindings i binding is) (gets_none bindings i binding is) (gets_on bindings i binding is)
    start number lines).1 place opened at

-- ---- the lines of `messages --queue`

plain_message : (previous : ℕ) (e : Event) → object_text (message_members previous e) ≡ message_line previous e
unfolding message_line
plain_message previous e = refl

plain_end : (previous : ℕ) → object_text (end_members previous) ≡ the_end_line previous
unfolding the_end_line
plain_end previous = refl

pub plain_lines : PlainLinesAreThoseOfTheQueue
plain_lines queue previous [] = ap (λ line. line ∷ []) (plain_end previous)
plain_lines queue previous (e ∷ events) =
    ap (λ line. line ∷ map plain_text (queue_of queue true e.timestamp events)) (plain_message previous e)
    ∙ ap (λ lines. message_line previous e ∷ lines) (plain_lines queue e.timestamp events)

-- ---- a stream that is cut after a line

-- chaining that stops at an entry doesn't come to the end of the lines
never_ends : (made : Chaining) (number : ℕ) → stops_at made ≡ true → stop_by made number ≡ stop.AtEnd → ⊥
never_ends chaining.Taken number is at = cc
never_ends chaining.Duplicate number is at = cc
never_ends chaining.Ended number is at = cc
never_ends chaining.AfterEnd number is at = cc
never_ends chaining.OutOfRange number is at = cc

-- what is made first, then, and then
pub first_of_all : (one two : Made) (later : Chained)
    → made_first one (made_first two later) ≡ made_first (made_then one two) later
first_of_all one two later =
    ap₂ (λ events lines. record {
      made = record { events = events; lines = lines };
      state = later.state;
      stop =
          later.stop;
    })
    (sym (append_assoc one.events two.events later.made.events))
    (sym (append_assoc one.lines two.lines later.made.lines))

-- where the chain of the first lines came to their end, it goes on with the others
abbrev GoesOn : List Arguments → ChainState → ℕ → List (List ℕ) → List (List ℕ) → Type 0
GoesOn bindings start number front rest = (chain bindings start number front).stop ≡ stop.AtEnd
    → chain bindings start number (front ++ rest)
    ≡ made_first (chain bindings start number front).made
    (chain bindings (chain bindings start number front).state (number + length front) rest)

-- by the chain of the first lines, however it is written
abbrev GoesOnBy : List Arguments → ChainState → ℕ → List (List ℕ) → List (List ℕ) → Chained → Chained → Type 0
GoesOnBy bindings start number front rest whole done = done.stop ≡ stop.AtEnd
    → whole ≡ made_first done.made (chain bindings done.state (number + length front) rest)

-- the numbers of the lines that are left
numbers : (number : ℕ) (line : List ℕ) (front : List (List ℕ))
    → number + 1 + length front ≡ number + length (line ∷ front)
numbers number line front = omega arith

-- one line in front, if chaining goes on
module _ (bindings : List Arguments) (start : ChainState) (number : ℕ) (line : List ℕ) (front rest : List (List ℕ))
    (others : (state : ChainState) → GoesOn bindings state (number + 1) front rest) where
  -- the chains of all lines and of the first ones
  abbrev Both : Chained → Chained → Type 0
  Both whole done = GoesOnBy bindings start number (line ∷ front) rest whole done

  later_on : (state : ChainState) → Both (chain bindings state (number + 1) (front ++ rest))
      (chain bindings state (number + 1) front)
  later_on state at =
      others state at
      ∙ ap (λ n. made_first (chain bindings state (number + 1) front).made
      (chain bindings (chain bindings state (number + 1) front).state n rest)) (numbers number line front)

  entry_on : (carried : Content) (stops : Bool) → stops_at (outcome_of start carried) ≡ stops
      → Both (cond stops (stopped start (stop_by (outcome_of start carried) number))
      (made_first (made_of bindings start carried)
      (chain bindings (next_chain bindings start carried) (number + 1) (front ++ rest))))
      (cond stops (stopped start (stop_by (outcome_of start carried) number))
      (made_first (made_of bindings start carried)
      (chain bindings (next_chain bindings start carried) (number + 1) front)))
  entry_on carried true is at = absurd (never_ends (outcome_of start carried) number is at)
  entry_on carried false is at =
      ap (made_first (made_of bindings start carried)) (later_on (next_chain bindings start carried) at)
      ∙ first_of_all (made_of bindings start carried)
      (chain bindings (next_chain bindings start carried) (number + 1) front).made
      (chain bindings (chain bindings (next_chain bindings start carried) (number + 1) front).state
      (number + length (line ∷ front)) rest)

  read_on : (read : Result (Option Entry) LineError)
      → Both (chain_read bindings start number read (λ after. chain bindings after (number + 1) (front ++ rest)))
      (chain_read bindings start number read (λ after. chain bindings after (number + 1) front))
  read_on (Ok None) = later_on start
  read_on (Ok (Some entry)) = entry_on entry.content (stops_at (outcome_of start entry.content)) refl
  read_on (Err error) = λ at. cc

  line_on : (read : Result (Option Entry) LineError) → line_entry false line ≡ read
      → GoesOn bindings start number (line ∷ front) rest
  line_on read is =
      subst (Both (chain bindings start number (line ∷ front ++ rest)))
      (sym (chain_first bindings start number line front read is))
      (subst (λ whole. Both whole
      (chain_read bindings start number read (λ after. chain bindings after (number + 1) front)))
      (sym (chain_first bindings start number line (front ++ rest) read is)) (read_on read))

goes_on : (bindings : List Arguments) (start : ChainState) (number : ℕ) (front rest : List (List ℕ))
    → GoesOn bindings start number front rest
goes_on bindings start number [] rest =
    subst (GoesOnBy bindings start number [] rest (chain bindings start number rest))
    (sym (chain_none bindings start number))
    (λ at. ap (λ n. made_first nothing (chain bindings start n rest))
    (let same : number ≡ number + 0 = omega arith in same))
goes_on bindings start number (line ∷ front) rest =
    line_on bindings start number line front rest (λ state. goes_on bindings state (number + 1) front rest)
    (line_entry false line) refl

pub streams_go : StreamsGoOn
streams_go bindings start state number front rest made is =
    goes_on bindings start number front rest (ap (λ (done : Chained). done.stop) is)
    ∙ ap (λ (done : Chained). made_first done.made (chain bindings done.state (number + length front) rest)) is

-- ---- the lines of a queue are entries of it

-- each queue begins at 0
abbrev no_place : Arguments → ℕ
no_place binding = 0

zeros_at : (bindings : List Arguments) (i : ℕ) (binding : Arguments) → slice_get bindings i ≡ Some binding
    → slice_get (map no_place bindings) i ≡ Some (let none : ℕ = 0 in none)
zeros_at [] i binding is = cc
zeros_at (first ∷ rest) zero binding is = refl
zeros_at (first ∷ rest) (suc i) binding is = zeros_at rest i binding is

-- the lines of the events after the first ones
are_of : (queue : ℕ) (ended : Bool) (before events : List Event)
    → AllByRecursion (IsOfQueue (before ++ events)) (map entry_of (queue_of queue ended (last_timestamp before) events))
are_of queue true before [] = (ap (λ events. Some (last_timestamp events)) (sym (append-nil before)), tt)
are_of queue false before [] = tt
are_of queue ended before (e ∷ events) = (
  (before, events, refl, refl),
  subst (λ (all : List Event). AllByRecursion (IsOfQueue all) (map entry_of (queue_of queue ended e.timestamp events)))
      (append_assoc before (e ∷ []) events)
      (subst (λ (t : ℕ). AllByRecursion (IsOfQueue ((before ++ e ∷ []) ++ events))
      (map entry_of (queue_of queue ended t events))) (last_timestamp_from-push 0 before e)
      (are_of queue ended (before ++ e ∷ []) events)),
)

pub lines_of_queues : QueueLinesAreOfQueues
lines_of_queues bindings number lines i binding is =
    let done = chain bindings (begins bindings) number lines in
    let gets = (gets_lines bindings (begins bindings) number lines i binding 0 refl is (zeros_at bindings i binding
    is)).2 in
    subst (λ (lines : List QueueLine). AllByRecursion (IsOfQueue (feed done.made.events binding)) (map entry_of lines))
    (sym gets.lines) (are_of (i + 1) done.state.ended [] (feed done.made.events binding))

-- ---- followers

-- what holds of all holds of each that is among them
among : (P : Entry → Type 0) (all entries : List Entry) → AllByRecursion P all → AllByRecursion (Contains all) entries
    → AllByRecursion P entries
among P all [] are within = tt
among P all (entry ∷ rest) are within = (
  All-contains P all entry (All-from_recursion P all are) within.0,
  among P all rest are within.1,
)

pub followers_keep : FollowersKeepAPrefix
followers_keep bindings number lines i binding own entries is within =
    let done = chain bindings (begins bindings) number lines in
    keeps_a_prefix own (feed done.made.events binding) entries
    (RiseFrom-filter (takes_event binding) 0 done.made.events (taken_rise bindings (begins bindings) number
    lines).rising)
    (among (IsOfQueue (feed done.made.events binding)) (map entry_of (lines_in (i + 1) done.made.lines)) entries
    (lines_of_queues bindings number lines i binding is) within)
